-- The loop that matches an entry: a trade takes an order out, or fills the entry.
use Rattle.std.proofs.Common.{◌≡◌, ℕ, ◌+◌, ◌-◌, ◌<◌, ◌≤◌, min, Bool, true, false, cond, eqb, List, length, set, Some, None, Option, refl, ap, subst, arith, ne_eqb}
use Rattle.std.proofs.lemmas.Option.{none-some, same_Some}
use borrow.Author.Tests.{eqb-false}
use Rattle.books.specs.Lists.{taken, AllSound, front_of}
use Rattle.books.specs.declared.standing.Standing.{Standing}
use Rattle.rules.specs.Sides.{Rule}
use Rattle.matching.specs.Matching.{Scene, candidate, trade_with, displayed_after, dark_after, traded, trade_step, match_step, matched, Leaves, order_in, is_dark}
use Rattle.matching.specs.Trades.{Step}
use Rattle.matching.specs.declared.candidate.Around.{Around}
use Rattle.matching.specs.declared.candidate.Candidate.{Candidate}
use Rattle.matching.specs.declared.candidate.Entry.{Entry}
use Rattle.matching.specs.declared.trade.Trade.{Trade}
use Rattle.matching.proofs.Fronts.{candidate_front, shares_open, one_fewer, some_stand, some_shares, taken_shorter, taken_sound}
use Rattle.matching.proofs.Going.{steps_keep, steps_spend, Progress, progress_none, progress_more, progress_state, progress_count, progress_list}

abbrev pub standing : Scene → ℕ
standing scene = length scene.displayed + length scene.dark

-- of the book that has o in front
module _ (o : Standing) (displayed dark : List Standing) where
  pub stands : (b : Bool) → front_of (cond b dark displayed) ≡ Some o → 0 < length displayed + length dark
  stands true front = omega (arith, some_stand dark o front)
  stands false front = omega (arith, some_stand displayed o front)

  module _ (sd : AllSound displayed) (sk : AllSound dark) where
    pub holds_shares : (b : Bool) → front_of (cond b dark displayed) ≡ Some o → 0 < o.shares
    holds_shares true front = some_shares dark o front sk
    holds_shares false front = some_shares displayed o front sd

    pub fewer : (b : Bool) (n : ℕ) → front_of (cond b dark displayed) ≡ Some o → 0 < n → 0 < n - min o.shares n → length (cond b displayed (taken displayed (min o.shares n)).list) + length (cond b (taken dark (min o.shares n)).list dark) + 1 ≡ length displayed + length dark
    fewer true n front some more = omega (arith, one_fewer dark o n front sk some more)
    fewer false n front some more = omega (arith, one_fewer displayed o n front sd some more)

pub positive : (n : ℕ) → eqb n 0 ≡ false → 0 < n
positive n other = let some = eqb-false n 0 other in omega arith

module _ (rule : Rule) (entry : Entry) (around : Around) where
  -- the steps that are left suffice while anything is open
  pub record Turning (start : Scene) (list : List Trade) (scene : Scene) (listed : List Trade) (count : ℕ) : Type 0 where
    pub so_far : Progress (match_step rule entry around) (standing start) start list scene listed count
    pub enough : 0 < scene.shares → standing scene ≤ so_far.rest

  pub turning_none : (start : Scene) (list : List Trade) → Turning start list start list 0
  turning_none start list = record {
    so_far = progress_none (match_step rule entry around) (standing start) start list;
    enough = λ _. omega arith;
  }

  -- what a turn of the loop leaves
  module _ (scene : Scene) (c : Candidate) (t : Trade) (is : candidate rule entry around scene ≡ Some c) (sd : AllSound scene.displayed) (sk : AllSound scene.dark) (et : t ≡ trade_with entry c scene.shares) where
    pub shares_fall : scene.shares - t.shares < scene.shares
    shares_fall =
        let some = shares_open rule entry around scene c is in
        let q = holds_shares (order_in c) scene.displayed scene.dark sd sk (is_dark c) (candidate_front rule entry around scene c is) in
        rw et (omega arith)

    turning_step : (start : Scene) (list listed : List Trade) (count : ℕ) → Turning start list scene listed count → Turning start list (traded (trade_with entry c scene.shares) scene) (set listed count (trade_with entry c scene.shares)) (count + 1)
    turning_step start list listed count p =
        let front = candidate_front rule entry around scene c is in
        let some = shares_open rule entry around scene c is in
        let one = stands (order_in c) scene.displayed scene.dark (is_dark c) front in
        record {
          so_far =
              progress_more (match_step rule entry around) (standing start) start list scene listed count p.so_far _
              (ap (trade_step entry scene) is) (omega (arith, p.enough some));
          enough = λ left. omega (arith, p.enough some, fewer (order_in c) scene.displayed scene.dark sd sk (is_dark c) scene.shares front some left);
        }

    pub turning_more : (start : Scene) (list listed : List Trade) (count : ℕ) (displayed dark : List Standing) (after : List Trade) → Turning start list scene listed count → displayed ≡ displayed_after t scene.displayed → dark ≡ dark_after t scene.dark → after ≡ set listed count t → Turning start list (record { displayed = displayed; dark = dark; shares = scene.shares - t.shares }) after (count + 1)
    turning_more start list listed count displayed dark after p ed ek el = rw (ed, ek, el, et) (turning_step start list listed count p)

  pub turning_all : (start : Scene) (list : List Trade) (scene : Scene) (listed : List Trade) (count : ℕ) → Turning start list scene listed count → candidate rule entry around scene ≡ None → Leaves (matched rule entry around start) scene.displayed scene.dark list listed (record { shares = scene.shares; trades = count })
  turning_all start list scene listed count p none =
      let stop = ap (trade_step entry scene) none in
      let end = progress_state (match_step rule entry around) (standing start) start list scene listed count p.so_far stop in
      record {
        displayed_is = ap (λ s. s.displayed) end;
        dark_is = ap (λ s. s.dark) end;
        shares_is = ap (λ s. s.shares) end;
        trades_is = progress_count (match_step rule entry around) (standing start) start list scene listed count p.so_far stop;
        list_is = progress_list (match_step rule entry around) (standing start) start list scene listed count p.so_far stop;
      }

  step_shares : (scene : Scene) (o : Option Candidate) (s : Step Scene) → trade_step entry scene o ≡ Some s → s.after.shares ≤ scene.shares
  step_shares scene None s is = absurd (none-some _ is)
  step_shares scene (Some c) s is = subst (λ r. r.after.shares ≤ scene.shares) (same_Some _ _ is) (omega arith)

  -- matching leaves no more than was entered
  pub matched_shares : (scene : Scene) → (matched rule entry around scene).state.shares ≤ scene.shares
  matched_shares scene =
      steps_keep (match_step rule entry around) (λ x. x.shares ≤ scene.shares)
      (λ x s is below. omega (arith, step_shares x (candidate rule entry around x) s is)) (standing scene) scene (omega arith)

  -- the orders that stand, and one more while anything is open
  abbrev pub chances : Scene → ℕ
  chances scene = standing scene + cond (eqb scene.shares 0) 0 1

  abbrev pub Sounds : Scene → Type 0
  Sounds scene = AllSound scene.displayed × AllSound scene.dark

  pub after_sound : (t : Trade) (b : Bool) (scene : Scene) → Sounds scene → AllSound (cond b scene.displayed (taken scene.displayed t.shares).list) × AllSound (cond b (taken scene.dark t.shares).list scene.dark)
  after_sound t true scene s = (s.0, taken_sound scene.dark t.shares s.1)
  after_sound t false scene s = (taken_sound scene.displayed t.shares s.0, s.1)

  after_shorter : (t : Trade) (b : Bool) (scene : Scene) → length (cond b scene.displayed (taken scene.displayed t.shares).list) + length (cond b (taken scene.dark t.shares).list scene.dark) ≤ standing scene
  after_shorter t true scene = omega (arith, taken_shorter scene.dark t.shares)
  after_shorter t false scene = omega (arith, taken_shorter scene.displayed t.shares)

  chances_fall : (scene : Scene) (c : Candidate) → candidate rule entry around scene ≡ Some c → Sounds scene → Sounds (traded (trade_with entry c scene.shares) scene) × (chances (traded (trade_with entry c scene.shares) scene) < chances scene)
  chances_fall scene c is sounds =
      let t = trade_with entry c scene.shares in
      let front = candidate_front rule entry around scene c is in
      let some = shares_open rule entry around scene c is in
      let before : eqb scene.shares 0 ≡ false = ne_eqb scene.shares 0 (omega arith) in
      let less = after_shorter t (is_dark c) scene in
      let P : Bool → Type 0 = λ b. eqb (traded t scene).shares 0 ≡ b → standing (traded t scene) + cond b 0 1 < standing scene + 1 in (
        after_sound t (is_dark c) scene sounds,
        rw before
            (elim (eqb (traded t scene).shares 0) as P [
              | true ↦ λ _. omega (arith, less)
              | false ↦ λ e. omega (arith, fewer (order_in c) scene.displayed scene.dark sounds.0 sounds.1 (is_dark c) scene.shares front some (positive (traded t scene).shares e))
            ] refl),
      )

  step_falls : (scene : Scene) (o : Option Candidate) (s : Step Scene) → candidate rule entry around scene ≡ o → trade_step entry scene o ≡ Some s → Sounds scene → Sounds s.after × (chances s.after < chances scene)
  step_falls scene None s is step sounds = absurd (none-some _ step)
  step_falls scene (Some c) s is step sounds =
      subst (λ r. Sounds r.after × (chances r.after < chances scene)) (same_Some _ _ step) (chances_fall scene c is sounds)

  -- a trade and an order left, and the rest if anything is open, for each order and one more
  pub matched_spends : (scene : Scene) → Sounds scene → length (matched rule entry around scene).trades + chances (matched rule entry around scene).state ≤ chances scene
  matched_spends scene sounds =
      steps_spend (match_step rule entry around) Sounds chances
      (λ x s is. step_falls x (candidate rule entry around x) s refl is) (standing scene) scene sounds

  pub matched_sounds : (scene : Scene) → Sounds scene → Sounds (matched rule entry around scene).state
  matched_sounds scene sounds =
      steps_keep (match_step rule entry around) Sounds
      (λ x s is h. (step_falls x (candidate rule entry around x) s refl is h).0) (standing scene) scene sounds
