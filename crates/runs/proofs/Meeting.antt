-- Matching an entry, trade by trade.
use Rattle.std.proofs.Common.{◌≡◌, ℕ, ◌+◌, ◌-◌, ◌<◌, ◌≤◌, Bool, true, false, cond, eqb, List, [], ◌∷◌, Some, None, Option, sym, refl, ap, ◌∙◌, subst, arith}
use Rattle.std.proofs.lemmas.Option.{none-some, same_Some}
use Rattle.std.proofs.lemmas.Bool.{ne_eqb}
use Rattle.books.proofs.Past.{each_map}
use Rattle.books.specs.Arranging.{tally}
use Rattle.books.specs.Histories.{Each}
use Rattle.books.specs.Lists.{front_of, taken}
use Rattle.books.specs.declared.standing.Standing.{Standing}
use Rattle.matching.specs.Sets.{met_rule, seen_from}
use Rattle.matching.proofs.Fronts.{shares_open, candidate_front}
use Rattle.matching.proofs.Turns.{standing, stands, fewer, positive, holds_shares, Sounds, after_sound}
use Rattle.matching.specs.Looking.{Books}
use Rattle.matching.specs.Matching.{Scene, front_price, candidate, trade_with, traded, trade_step, match_step, matched, order_in, is_dark}
use Rattle.matching.specs.Placing.{View}
use Rattle.matching.specs.Trades.{Step}
use Rattle.matching.specs.declared.candidate.Around.{Around}
use Rattle.matching.specs.declared.candidate.Candidate.{Candidate}
use Rattle.matching.specs.declared.candidate.Entry.{Entry}
use Rattle.matching.specs.declared.trade.Trade.{Trade}
use Rattle.rules.specs.Sides.{Rule}
use Rattle.rules.specs.declared.price.Quote.{Quote}
use Rattle.rules.specs.declared.terms.SideName.{SideName}
use Rattle.runs.proofs.Courses.{Stepped, Went, went, steps_end}
use Rattle.runs.proofs.Facing.{met_lawful, best_is, view_made, seen_made, MatchedIn, seen_judged}
use Rattle.runs.proofs.Judging.{match_judged}
use Rattle.runs.proofs.Lowering.{amount, Good, fresh_tally, untouched, front_tally, front_amount, front_good, front_each, front_stands, standing_touched}
use Rattle.runs.proofs.Neat.{Clear}
use Rattle.runs.specs.Law.{if_number, traded_in}
use Rattle.runs.specs.Tapes.{trade_made}

-- Matching ends only where no candidate is left

module _ (rule : Rule) (entry : Entry) (around : Around) where
  -- the orders that can still be met: none once the entry is filled
  abbrev left : Scene → ℕ
  left scene = cond (eqb scene.shares 0) 0 (standing scene)

  left_falls : (scene : Scene) (o : Option Candidate) (s : Step Scene) → candidate rule entry around scene ≡ o → trade_step entry scene o ≡ Some s → Sounds rule entry around scene → Sounds rule entry around s.after × (left s.after < left scene)
  left_falls scene None s is step sounds = absurd (none-some _ step)
  left_falls scene (Some c) s is step sounds =
      let t = trade_with entry c scene.shares in
      let front = candidate_front rule entry around scene c is in
      let some = shares_open rule entry around scene c is in
      let P : Bool → Type 0 = λ b. eqb (traded t scene).shares 0 ≡ b → cond b 0 (standing (traded t scene)) < left scene in
      let open_now : eqb scene.shares 0 ≡ false = ne_eqb scene.shares 0 (λ e. let no : ⊥ = omega arith in no) in
      let stands_one : 0 < standing scene = stands (order_in c) scene.displayed scene.dark (is_dark c) front in
      subst (λ r. Sounds rule entry around r.after × (left r.after < left scene)) (same_Some _ _ step) (
        after_sound rule entry around t (is_dark c) scene sounds,
        elim (eqb (traded t scene).shares 0) as P [
          | true ↦ λ _. rw open_now (omega arith)
          | false ↦ λ e. rw open_now (omega (arith, fewer (order_in c) scene.displayed scene.dark sounds.0 sounds.1 (is_dark c) scene.shares front some (positive (traded t scene).shares e)))
        ] refl,
      )

  left_most : (scene : Scene) → left scene ≤ standing scene
  left_most scene = let P : Bool → Type 0 = λ b. cond b 0 (standing scene) ≤ standing scene in elim (eqb scene.shares 0) as P [ true ↦ omega arith | false ↦ omega arith ]

  step_none : (scene : Scene) (o : Option Candidate) → trade_step entry scene o ≡ None → o ≡ None
  step_none scene None e = refl
  step_none scene (Some c) e = absurd (none-some _ (sym e))

  pub no_candidate_left : (scene : Scene) → Sounds rule entry around scene → candidate rule entry around (matched rule entry around scene).state ≡ None
  no_candidate_left scene sounds =
      step_none (matched rule entry around scene).state _
      (steps_end (match_step rule entry around) (Sounds rule entry around) left (λ x s is h. left_falls x (candidate rule entry around x) s refl is h) (standing scene) scene sounds (left_most scene))

-- An entry of one side, whose number is the next after those given

module _ (side : SideName) (entry : Entry) (increment : ℕ) (away : Quote) (own own_dark : List Standing) (issued : ℕ) where
  abbrev rule : Rule
  rule = met_rule side

  abbrev pub around : Around
  around = record { away = record { increment = increment; quote = away }; behind = front_price own }

  abbrev view_of : Scene → View
  view_of scene = record { displayed = scene.displayed; dark = scene.dark; own = own; own_dark = own_dark }

  abbrev pub books_of : Scene → Books
  books_of scene = seen_from side (view_of scene)

  pub record Fit (scene : Scene) : Type 0 where
    pub displayed_good : Good rule issued scene.displayed
    pub dark_good : Good rule issued scene.dark
    pub once : (n : ℕ) → tally n scene.displayed + tally n scene.dark + tally n own + tally n own_dark ≤ 1
    pub clear : Clear side own scene.displayed

  abbrev pub weigh : ℕ → Scene → ℕ
  weigh n scene = amount n scene.displayed + amount n scene.dark + amount n own + amount n own_dark + if_number entry.number n scene.shares

  module _ (two : 2 ≤ increment) (new : issued < entry.number) (own_given : Each (λ o. o.number ≤ issued) own) (own_dark_given : Each (λ o. o.number ≤ issued) own_dark) where
    -- the trade of the entry with o, the front order of the dark book or of the displayed one
    module _ (scene : Scene) (fit : Fit scene) (o : Standing) (t : Trade) (active : t.active ≡ entry.number) (is : t.standing ≡ o.number) (some : 0 < t.shares) (within : t.shares ≤ o.shares) where
      absent : (os : List Standing) → Each (λ x. x.number ≤ issued) os → tally t.active os ≡ 0
      absent os given = rw active (fresh_tally issued entry.number os given new)

      kept_at : (b : Bool) → front_of (cond b scene.dark scene.displayed) ≡ Some o → Fit (record { displayed = cond b scene.displayed (taken scene.displayed t.shares).list; dark = cond b (taken scene.dark t.shares).list scene.dark; shares = scene.shares - t.shares })
      kept_at true front = record {
        displayed_good = fit.displayed_good;
        dark_good = front_good t o some within scene.dark front rule issued fit.dark_good;
        once = λ n. let few = front_tally t o some within scene.dark front n in omega (arith, fit.once n);
        clear = fit.clear;
      }
      kept_at false front = record {
        displayed_good = front_good t o some within scene.displayed front rule issued fit.displayed_good;
        dark_good = fit.dark_good;
        once = λ n. let few = front_tally t o some within scene.displayed front n in omega (arith, fit.once n);
        clear =
            each_map (λ x. Each (λ d. rule.ahead x.price d.price ≡ true) scene.displayed) (λ x. Each (λ d. rule.ahead x.price d.price ≡ true) (taken scene.displayed t.shares).list)
            (λ x. front_each t o some within scene.displayed front (λ d. rule.ahead x.price d.price ≡ true) (λ d h. h)) own fit.clear;
      }

      goes_at : (b : Bool) → front_of (cond b scene.dark scene.displayed) ≡ Some o → ◌≡◌ {A = View} (record { displayed = cond b scene.displayed (taken scene.displayed t.shares).list; dark = cond b (taken scene.dark t.shares).list scene.dark; own = own; own_dark = own_dark }) (view_made t (view_of scene))
      goes_at true front =
          let here = front_stands t o some within scene.dark front in
          let one = fit.once o.number in
          let d = untouched t scene.displayed (absent scene.displayed fit.displayed_good.2) (rw is (omega arith)) in
          let k = standing_touched t o some within scene.dark front is (absent scene.dark fit.dark_good.2) in
          let w = untouched t own (absent own own_given) (rw is (omega arith)) in
          let h = untouched t own_dark (absent own_dark own_dark_given) (rw is (omega arith)) in
          cc
      goes_at false front =
          let here = front_stands t o some within scene.displayed front in
          let one = fit.once o.number in
          let d = standing_touched t o some within scene.displayed front is (absent scene.displayed fit.displayed_good.2) in
          let k = untouched t scene.dark (absent scene.dark fit.dark_good.2) (rw is (omega arith)) in
          let w = untouched t own (absent own own_given) (rw is (omega arith)) in
          let h = untouched t own_dark (absent own_dark own_dark_given) (rw is (omega arith)) in
          cc

      entry_part : (n : ℕ) → t.shares ≤ scene.shares → if_number entry.number n scene.shares ≡ if_number entry.number n (scene.shares - t.shares) + if_number t.active n t.shares
      entry_part n few =
          let P : Bool → Type 0 = λ b. cond b scene.shares 0 ≡ cond b (scene.shares - t.shares) 0 + cond b t.shares 0 in
          rw active (elim (eqb entry.number n) as P [ true ↦ omega arith | false ↦ omega arith ])

      weighed_at : (b : Bool) → front_of (cond b scene.dark scene.displayed) ≡ Some o → t.shares ≤ scene.shares → (n : ℕ) → weigh n scene ≡ weigh n (record { displayed = cond b scene.displayed (taken scene.displayed t.shares).list; dark = cond b (taken scene.dark t.shares).list scene.dark; shares = scene.shares - t.shares }) + traded_in n (t ∷ [])
      weighed_at true front few n =
          let entry_is = entry_part n few in
          let order_is = front_amount t o some within scene.dark front n in
          let named : if_number t.standing n t.shares ≡ if_number o.number n t.shares = ap (λ m. if_number m n t.shares) is in
          omega arith
      weighed_at false front few n =
          let entry_is = entry_part n few in
          let order_is = front_amount t o some within scene.displayed front n in
          let named : if_number t.standing n t.shares ≡ if_number o.number n t.shares = ap (λ m. if_number m n t.shares) is in
          omega arith

    match_stepped : (scene : Scene) (o : Option Candidate) (s : Step Scene) → candidate rule entry around scene ≡ o → trade_step entry scene o ≡ Some s → Fit scene → Stepped (match_step rule entry around) books_of trade_made Fit (MatchedIn increment away entry.large entry.number) weigh scene s
    match_stepped scene None s is step fit = absurd (none-some _ step)
    match_stepped scene (Some c) s is step fit =
        let t = trade_with entry c scene.shares in
        let front = candidate_front rule entry around scene c is in
        let open_so : 0 < scene.shares = shares_open rule entry around scene c is in
        let some : 0 < (order_in c).shares = holds_shares (order_in c) scene.displayed scene.dark fit.displayed_good.1 fit.dark_good.1 (is_dark c) front in
        let q : 0 < t.shares = omega arith in
        let within : t.shares ≤ (order_in c).shares = omega arith in
        subst (Stepped (match_step rule entry around) books_of trade_made Fit (MatchedIn increment away entry.large entry.number) weigh scene) (same_Some _ _ step)
        record {
          kept = kept_at scene fit (order_in c) t refl refl q within (is_dark c) front;
          goes = ap (seen_from side) (goes_at scene fit (order_in c) t refl refl q within (is_dark c) front) ∙ sym (seen_made side t (view_of scene));
          judged = (
            seen_judged side increment away entry.large (view_of scene) t
                (match_judged rule (met_lawful side) (best_is side) entry increment away own scene c two fit.displayed_good.0 is),
            refl,
          );
          weighed = weighed_at scene fit (order_in c) t refl refl q within (is_dark c) front (omega arith);
        }

    pub match_went : (scene : Scene) → Fit scene → Went (match_step rule entry around) books_of trade_made Fit (MatchedIn increment away entry.large entry.number) weigh scene (matched rule entry around scene)
    match_went scene fit =
        went (match_step rule entry around) books_of trade_made Fit (MatchedIn increment away entry.large entry.number) weigh
        (λ x s is. match_stepped x (candidate rule entry around x) s refl is) (standing scene) scene fit
