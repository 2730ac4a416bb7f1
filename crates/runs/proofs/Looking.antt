-- Looking over the books, pair by pair.
use Rattle.std.proofs.Common.{◌≡◌, ℕ, ◌+◌, ◌<◌, ◌≤◌, Bool, true, false, cond, ◌&&◌, ltb, List, [], ◌∷◌, Some, None, Option, sym, refl, ap, ◌∙◌, subst, inl, inr, ⊎_elim, arith}
use Rattle.std.proofs.lemmas.Option.{none-some, same_Some}
use Rattle.std.proofs.lemmas.Bool.{cases_Bool, both_ways, and_from, not_from_false, ltb-true, le-ltb}
use Rattle.std.proofs.lemmas.Bool.Decides.{nat_tests}
use Rattle.books.proofs.Past.{each_map}
use Rattle.books.proofs.Ranks.{before}
use Rattle.books.specs.Arranging.{tally}
use Rattle.books.specs.Histories.{Each, Pairs}
use Rattle.books.specs.Lists.{AllSound, sound, front_of, taken}
use Rattle.books.specs.declared.standing.Standing.{Standing}
use Rattle.market.specs.Calls.{State}
use Rattle.market.specs.Quoting.{away_of}
use Rattle.matching.specs.Sets.{met_rule, own_rule, seen_from, facing}
use Rattle.matching.proofs.Fronts.{sound_shares}
use Rattle.matching.proofs.Pairs.{kept_some, either, look_falls, AllKept}
use Rattle.matching.specs.Looking.{Books, best_in, trade_of, pair, either_pair, pair_in, paired, trade_in, pair_step, look_step, standing_in, looked}
use Rattle.matching.specs.Matching.{front_price, at_or_ahead}
use Rattle.matching.specs.Placing.{View}
use Rattle.matching.specs.Trades.{Step}
use Rattle.matching.specs.declared.pair.Pair.{Pair}
use Rattle.matching.specs.declared.trade.Trade.{Trade}
use Rattle.rules.specs.Better.{on, placed, best_of, better_than, better, improvement_at}
use Rattle.rules.specs.Sides.{Rule, Lawful, bids, asks}
use Rattle.rules.specs.declared.price.Quote.{Quote}
use Rattle.rules.specs.declared.terms.SideName.{SideName}
use Rattle.rules.specs.declared.terms.SideName.TheVariants.{Bid, Ask}
use Rattle.runs.proofs.Courses.{Stepped, Went, went, steps_end}
use Rattle.runs.proofs.Facing.{lawful_bids, lawful_asks, met_lawful, best_is, view_made, seen_made, seen_facing, JudgedIn, PairedIn, seen_judged}
use Rattle.runs.proofs.Judging.{pair_judged}
use Rattle.runs.proofs.Lowering.{amount, at_front, untouched, front_tally, front_amount, front_good, front_each, front_stands, standing_touched, active_touched}
use Rattle.runs.proofs.Neat.{NeatView, Neat, neat_facing, neat_seen}
use Rattle.runs.proofs.Withdrawing.{amount_in}
use Rattle.runs.specs.Law.{StandsBefore, BidsBelowAsks, NoneMeets, if_number, traded_in}
use Rattle.runs.specs.Tapes.{trade_made}

-- The trade of a pair: the front displayed order of one side, and the front dark order against it

module _ (rule : Rule) (increment : ℕ) (best : Quote) where
  pub pair_fronts : (own dark : List Standing) (t : Trade) → pair rule increment best own dark ≡ Some t → (d : Standing) × (k : Standing) × (front_of own ≡ Some d) × (front_of dark ≡ Some k) × (trade_of d k ≡ t)
  pair_fronts [] dark t is = absurd (none-some _ is)
  pair_fronts (d ∷ ds) [] t is = absurd (none-some _ is)
  pair_fronts (d ∷ ds) (k ∷ ks) t is = (d, k, refl, refl, kept_some (at_or_ahead rule k.price d.price && better rule increment best k.price) (trade_of d k) t is)

sound_number : (o : Standing) → sound o ≡ true → 1 ≤ o.number
sound_number o is = grind (arith, nat_tests)

front_shares : (os : List Standing) (o : Standing) → AllSound os → front_of os ≡ Some o → 0 < o.shares
front_shares [] o s e = absurd (none-some _ e)
front_shares (x ∷ xs) o s e = subst (λ y. 0 < y.shares) (same_Some _ _ e) (sound_shares x s.0)

module _ (side : SideName) (issued : ℕ) (v : View) (neat : NeatView side issued v) (d k : Standing) (t : Trade) (own_front : front_of v.own ≡ Some d) (dark_front : front_of v.dark ≡ Some k) (is : trade_of d k ≡ t) where
  q_some : 0 < t.shares
  q_some =
      let a = front_shares v.own d neat.own_good.1 own_front in
      let b = front_shares v.dark k neat.dark_good.1 dark_front in
      subst (λ u. 0 < u.shares) is (omega arith)

  in_own : t.shares ≤ d.shares
  in_own = subst (λ u. u.shares ≤ d.shares) is (omega arith)

  in_dark : t.shares ≤ k.shares
  in_dark = subst (λ u. u.shares ≤ k.shares) is (omega arith)

  active_is : t.active ≡ d.number
  active_is = ap (λ u. u.active) (sym is)

  standing_is : t.standing ≡ k.number
  standing_is = ap (λ u. u.standing) (sym is)

  pub active_some : 1 ≤ t.active
  active_some = rw active_is (at_front d (λ l. AllSound l → 1 ≤ d.number) (λ l s. sound_number d s.0) v.own own_front neat.own_good.1)

  pub active_given : t.active ≤ issued
  active_given = rw active_is (at_front d (λ l. Each (λ o. o.number ≤ issued) l → d.number ≤ issued) (λ l s. s.0) v.own own_front neat.own_good.2)

  own_stands : 1 ≤ tally t.active v.own
  own_stands = rw active_is (front_stands t d q_some in_own v.own own_front)

  dark_stands : 1 ≤ tally t.standing v.dark
  dark_stands = rw standing_is (front_stands t k q_some in_dark v.dark dark_front)

  abbrev pub pair_left : View
  pair_left = record { displayed = v.displayed; dark = (taken v.dark t.shares).list; own = (taken v.own t.shares).list; own_dark = v.own_dark }

  pub pair_neat : NeatView side issued pair_left
  pair_neat = record {
    displayed_good = neat.displayed_good;
    dark_good = front_good t k q_some in_dark v.dark dark_front (met_rule side) issued neat.dark_good;
    own_good = front_good t d q_some in_own v.own own_front (own_rule side) issued neat.own_good;
    own_dark_good = neat.own_dark_good;
    once = λ n. omega (arith, neat.once n, front_tally t k q_some in_dark v.dark dark_front n, front_tally t d q_some in_own v.own own_front n);
    clear = front_each t d q_some in_own v.own own_front (λ o. Each (λ x. (met_rule side).ahead o.price x.price ≡ true) v.displayed) (λ o h. h) neat.clear;
  }

  pub pair_made : pair_left ≡ view_made t v
  pair_made =
      let one_a = neat.once t.active in
      let one_s = neat.once t.standing in
      let here_a = own_stands in
      let here_s = dark_stands in
      let a = untouched t v.displayed (omega arith) (omega arith) in
      let b = standing_touched t k q_some in_dark v.dark dark_front standing_is (omega arith) in
      let c = active_touched t d q_some in_own v.own own_front active_is (omega arith) in
      let e = untouched t v.own_dark (omega arith) (omega arith) in
      cc

  pub pair_weighed : (n : ℕ) → amount n v.displayed + amount n v.dark + amount n v.own + amount n v.own_dark ≡ amount n pair_left.displayed + amount n pair_left.dark + amount n pair_left.own + amount n pair_left.own_dark + traded_in n (t ∷ [])
  pair_weighed n =
      let a : if_number t.active n t.shares ≡ if_number d.number n t.shares = ap (λ m. if_number m n t.shares) active_is in
      let s : if_number t.standing n t.shares ≡ if_number k.number n t.shares = ap (λ m. if_number m n t.shares) standing_is in
      omega (arith, front_amount t k q_some in_dark v.dark dark_front n, front_amount t d q_some in_own v.own own_front n)

amount_seen : (side : SideName) (v : View) (n : ℕ) → amount_in n (seen_from side v) ≡ amount n v.displayed + amount n v.dark + amount n v.own + amount n v.own_dark
amount_seen Bid v n = omega arith
amount_seen Ask v n = omega arith

amount_facing : (side : SideName) (b : Books) (n : ℕ) → amount_in n b ≡ amount n (facing side b).displayed + amount n (facing side b).dark + amount n (facing side b).own + amount n (facing side b).own_dark
amount_facing Bid b n = omega arith
amount_facing Ask b n = omega arith

module _ (increment : ℕ) (away : Quote) (issued : ℕ) (two : 2 ≤ increment) where
  abbrev StepOf : Books → Step Books → Type 0
  StepOf = Stepped (look_step increment away) (λ b. b) trade_made (Neat issued) (PairedIn increment away issued) amount_in

  abbrev best_seen : SideName → View → Quote
  best_seen side v = best_of (placed (met_rule side).name (front_price v.displayed) (front_price v.own)) away

  pair_stepped : (side : SideName) (b : Books) (t : Trade) → Neat issued b → pair (met_rule side) increment (best_seen side (facing side b)) (facing side b).own (facing side b).dark ≡ Some t → StepOf b (record { trade = t; after = seen_from side (record { displayed = (facing side b).displayed; dark = (taken (facing side b).dark t.shares).list; own = (taken (facing side b).own t.shares).list; own_dark = (facing side b).own_dark }) })
  pair_stepped side b t neat is =
      let v = facing side b in
      let n = neat_facing side issued b neat in
      let f = pair_fronts (met_rule side) increment (best_seen side v) v.own v.dark t is in
      let left = pair_left side issued v n f.0 f.1 t f.2 f.3 f.4 in
      record {
        kept = neat_seen side issued left (pair_neat side issued v n f.0 f.1 t f.2 f.3 f.4);
        goes = ap (seen_from side) (pair_made side issued v n f.0 f.1 t f.2 f.3 f.4) ∙ sym (seen_made side t v) ∙ ap (trade_made t) (seen_facing side b);
        judged = (
          subst (λ c. JudgedIn increment away false c t) (seen_facing side b)
              (seen_judged side increment away false v t
              (pair_judged (met_rule side) (met_lawful side) (best_is side) increment away v.displayed v.dark v.own t two n.displayed_good.0 is)),
          active_some side issued v n f.0 f.1 t f.2 f.3 f.4,
          active_given side issued v n f.0 f.1 t f.2 f.3 f.4,
        );
        weighed = λ m. omega (arith, pair_weighed side issued v n f.0 f.1 t f.2 f.3 f.4 m, amount_seen side left m, amount_facing side b m);
      }

  paired_stepped : (b : Books) (p : Pair) → pair_in increment away b ≡ Some p → Neat issued b → StepOf b (record { trade = trade_in p; after = paired p b })
  paired_stepped b p is neat =
      let Step : Pair → Type 0 = λ q. StepOf b (record { trade = trade_in q; after = paired q b }) in
      elim (either increment away (pair bids increment (best_in away b) b.asks b.dark_bids) (pair asks increment (best_in away b) b.bids b.dark_asks) p is) [
        | inl h ↦ subst Step (sym h.2) (pair_stepped Ask b h.0 neat h.1)
        | inr h ↦ subst Step (sym h.2) (pair_stepped Bid b h.0 neat h.1)
      ]

  look_stepped : (b : Books) (o : Option Pair) (s : Step Books) → pair_in increment away b ≡ o → pair_step b o ≡ Some s → Neat issued b → StepOf b s
  look_stepped b None s is step neat = absurd (none-some _ step)
  look_stepped b (Some p) s is step neat = subst (StepOf b) (same_Some _ _ step) (paired_stepped b p is neat)

  pub look_went : (b : Books) → Neat issued b → Went (look_step increment away) (λ c. c) trade_made (Neat issued) (PairedIn increment away issued) amount_in b (looked increment away b)
  look_went b neat =
      went (look_step increment away) (λ c. c) trade_made (Neat issued) (PairedIn increment away issued) amount_in
      (λ x s is. look_stepped x (pair_in increment away x) s refl is) (standing_in b) b neat

-- Looking over ends only where no pair is left

step_none : (b : Books) (o : Option Pair) → pair_step b o ≡ None → o ≡ None
step_none b None e = refl
step_none b (Some p) e = absurd (none-some _ (sym e))

pub no_pair_left : (increment : ℕ) (away : Quote) (b : Books) → AllKept b → pair_in increment away (looked increment away b).state ≡ None
no_pair_left increment away b kept =
    step_none (looked increment away b).state _
    (steps_end (look_step increment away) AllKept standing_in (λ x s is h. look_falls increment away x (pair_in increment away x) s refl is h) (standing_in b) b kept (omega arith))

-- Where the front pair does not trade, no other meets at a better price either

module _ (rule own_side : Rule) (law : Lawful rule) (opposite_is : (p q : ℕ) → own_side.ahead p q ≡ rule.ahead q p) (further : (p q best by : ℕ) → rule.ahead q p ≡ false → rule.improved q best by ≡ true → rule.improved p best by ≡ true) (increment : ℕ) (best : Quote) where
  -- a price that is not behind a better one is better
  better_further : (o : Option ℕ) (p q by : ℕ) → rule.ahead q p ≡ false → better_than rule o by q ≡ true → better_than rule o by p ≡ true
  better_further None p q by h b = refl
  better_further (Some x) p q by h b = further p q x by h b

  abbrev Unmet : (own dark : List Standing) → Type 0
  Unmet own dark = Each (λ d. Each (λ k. rule.ahead d.price k.price ≡ false → better rule increment best k.price ≡ false) dark) own

  module _ (d k : Standing) (apart : (at_or_ahead rule k.price d.price && better rule increment best k.price) ≡ false) (x y : Standing) (behind_d : own_side.ahead x.price d.price ≡ false) (behind_k : rule.ahead y.price k.price ≡ false) (meets : rule.ahead x.price y.price ≡ false) where
    not_past : rule.ahead d.price x.price ≡ false
    not_past = sym (opposite_is x.price d.price) ∙ behind_d

    fronts_meet : rule.ahead d.price k.price ≡ false
    fronts_meet =
        ⊎_elim
        (λ (t : rule.ahead d.price k.price ≡ true).
        let past_y = before rule law d.price y.price k.price behind_k t in
        absurd (both_ways (rule.ahead d.price x.price) not_past (before rule law d.price x.price y.price meets past_y)))
        (λ f. f) (cases_Bool (rule.ahead d.price k.price))

    not_better : better rule increment best y.price ≡ false
    not_better =
        ⊎_elim
        (λ (t : better rule increment best y.price ≡ true).
        let front_better = better_further (on rule.name best) k.price y.price (improvement_at increment best) behind_k t in
        absurd (both_ways (at_or_ahead rule k.price d.price && better rule increment best k.price) apart
        (and_from (at_or_ahead rule k.price d.price) (better rule increment best k.price) (not_from_false (rule.ahead d.price k.price) fronts_meet) front_better)))
        (λ f. f) (cases_Bool (better rule increment best y.price))

  none_behind : (r : Rule) → ((p : ℕ) → r.ahead p p ≡ false) → (x : Standing) (xs : List Standing) → Pairs (StandsBefore r) (x ∷ xs) → Each (λ y. r.ahead y.price x.price ≡ false) (x ∷ xs)
  none_behind r same x xs sorted = (same x.price, each_map (StandsBefore r x) (λ y. r.ahead y.price x.price ≡ false) (λ y b. b.0) xs sorted.0)

  pair_none : (d k : Standing) (b : Bool) → cond b (Some (trade_of d k)) None ≡ None → b ≡ false
  pair_none d k true e = absurd (none-some _ (sym e))
  pair_none d k false e = refl

  each_any : (Q : Standing → Type 0) (ys : List Standing) → ((y : Standing) → Q y) → Each Q ys
  each_any Q [] h = tt
  each_any Q (y ∷ ys) h = (h y, each_any Q ys h)

  pub none_meets : (own dark : List Standing) → Pairs (StandsBefore own_side) own → Pairs (StandsBefore rule) dark → pair rule increment best own dark ≡ None → Unmet own dark
  none_meets [] dark so sd none = tt
  none_meets (d ∷ ds) [] so sd none = each_any (λ x. Unit {0}) (d ∷ ds) (λ _. tt)
  none_meets (d ∷ ds) (k ∷ ks) so sd none =
      let apart = pair_none d k (at_or_ahead rule k.price d.price && better rule increment best k.price) none in
      each_map (λ x. own_side.ahead x.price d.price ≡ false) (λ x. Each (λ y. rule.ahead x.price y.price ≡ false → better rule increment best y.price ≡ false) (k ∷ ks))
      (λ x hx. each_map (λ y. rule.ahead y.price k.price ≡ false) (λ y. rule.ahead x.price y.price ≡ false → better rule increment best y.price ≡ false)
      (λ y hy meets. not_better d k apart x y hx hy meets) (k ∷ ks) (none_behind rule law.equal k ks sd))
      (d ∷ ds) (none_behind own_side (λ p. opposite_is p p ∙ law.equal p) d ds so)

bids_further : (p q best by : ℕ) → bids.ahead q p ≡ false → bids.improved q best by ≡ true → bids.improved p best by ≡ true
bids_further p q best by h k = grind (arith, nat_tests)

asks_further : (p q best by : ℕ) → asks.ahead q p ≡ false → asks.improved q best by ≡ true → asks.improved p best by ≡ true
asks_further p q best by h k = grind (arith, nat_tests)

either_none : (sale purchase : Option Trade) → either_pair sale purchase ≡ None → (sale ≡ None) × (purchase ≡ None)
either_none None None e = (refl, refl)
either_none None (Some t) e = absurd (none-some _ (sym e))
either_none (Some t) purchase e = absurd (none-some _ (sym e))

pub neat_unmet : (s : State) → Neat s.issued s.books → pair_in s.increment (away_of s.quotes) s.books ≡ None → NoneMeets s
neat_unmet s neat none =
    let b = s.books in
    let best : Quote = best_in (away_of s.quotes) b in
    let parts = either_none (pair bids s.increment best b.asks b.dark_bids) (pair asks s.increment best b.bids b.dark_asks) none in (
      each_map (λ ask. Each (λ dark. bids.ahead ask.price dark.price ≡ false → better bids s.increment best dark.price ≡ false) b.dark_bids) (λ ask. Each (λ dark. ask.price ≤ dark.price → better bids s.increment best dark.price ≡ false) b.dark_bids)
          (λ ask h. each_map (λ dark. bids.ahead ask.price dark.price ≡ false → better bids s.increment best dark.price ≡ false) (λ dark. ask.price ≤ dark.price → better bids s.increment best dark.price ≡ false)
          (λ dark k meets. k (le-ltb dark.price ask.price meets)) b.dark_bids h) b.asks
          (none_meets bids asks lawful_bids (λ p q. refl) bids_further s.increment best b.asks b.dark_bids neat.displayed_good.0 neat.own_dark_good.0 parts.0),
      each_map (λ bid. Each (λ dark. asks.ahead bid.price dark.price ≡ false → better asks s.increment best dark.price ≡ false) b.dark_asks) (λ bid. Each (λ dark. dark.price ≤ bid.price → better asks s.increment best dark.price ≡ false) b.dark_asks)
          (λ bid h. each_map (λ dark. asks.ahead bid.price dark.price ≡ false → better asks s.increment best dark.price ≡ false) (λ dark. dark.price ≤ bid.price → better asks s.increment best dark.price ≡ false)
          (λ dark k meets. k (le-ltb bid.price dark.price meets)) b.dark_asks h) b.bids
          (none_meets asks bids lawful_asks (λ p q. refl) asks_further s.increment best b.bids b.dark_asks neat.own_good.0 neat.dark_good.0 parts.1),
    )

pub neat_below : (issued : ℕ) (b : Books) → Neat issued b → BidsBelowAsks b
neat_below issued b neat =
    each_map (λ bid. Each (λ ask. ltb bid.price ask.price ≡ true) b.asks) (λ bid. Each (λ ask. bid.price < ask.price) b.asks)
    (λ bid h. each_map (λ ask. ltb bid.price ask.price ≡ true) (λ ask. bid.price < ask.price) (λ ask k. ltb-true bid.price ask.price k) b.asks h)
    b.bids neat.clear
