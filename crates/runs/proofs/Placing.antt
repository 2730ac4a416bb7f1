-- An entry from matching to the end of its rest: what it leaves is neat, and every share is accounted for.
use Rattle.std.proofs.Common.{◌≡◌, ℕ, ◌+◌, ◌≤◌, Bool, true, false, cond, not, ◌&&◌, eqb, ltb, leb, List, [], ◌∷◌, length, is_some, Some, sym, refl, ap, ◌∙◌, subst, ⊎_elim, arith}
use Rattle.std.proofs.lemmas.Bool.{both_ways, and_from, and_cases, eqb-true, eqb-false, le-leb, not-false, not_from_false}
use Rattle.books.proofs.Outcomes.{added_fit}
use Rattle.books.proofs.Past.{each_put}
use Rattle.books.specs.Arranging.{tally}
use Rattle.books.specs.Histories.{Each, Pairs}
use Rattle.books.specs.Lists.{sound, stands, find, put, added}
use Rattle.books.specs.declared.standing.Standing.{Standing}
use Rattle.matching.specs.Sets.{met_rule, own_rule, seen_from}
use Rattle.matching.proofs.Turns.{matched_shares}
use Rattle.matching.specs.Matching.{Scene, front_price, match_step}
use Rattle.matching.specs.Placing.{View, Placed, around_in, met, rest_of, is_booked, booked_in, placed}
use Rattle.matching.specs.Trades.{Steps}
use Rattle.matching.specs.Ways.{way_of, way_cancelled, reached}
use Rattle.matching.specs.declared.candidate.Entry.{Entry}
use Rattle.matching.specs.declared.way.Way.{Way}
use Rattle.matching.specs.declared.way.Way.TheVariants.{Filled, Booked, Immediate, AwayBest, OwnFront}
use Rattle.rules.specs.Better.{on}
use Rattle.rules.specs.Prices.{most_shares}
use Rattle.rules.specs.Sides.{Rule}
use Rattle.rules.specs.declared.price.Quote.{Quote}
use Rattle.rules.specs.declared.terms.SideName.{SideName}
use Rattle.rules.specs.declared.terms.SideName.TheVariants.{Bid, Ask}
use Rattle.runs.proofs.Courses.{Went}
use Rattle.runs.proofs.Facing.{met_lawful, own_lawful, best_is, MatchedIn}
use Rattle.runs.proofs.Judging.{before_all}
use Rattle.runs.proofs.Lowering.{amount, fresh_tally, later_good, tally_put, amount_put, put_good}
use Rattle.runs.proofs.Meeting.{books_of, Fit, weigh, match_went}
use Rattle.runs.proofs.Neat.{NeatView}
use Rattle.runs.proofs.Withdrawing.{zero_if}
use Rattle.runs.specs.Law.{StandsBefore, if_number, traded_in}
use Rattle.runs.specs.Tapes.{trade_made, with_booked}

-- The ways

abbrev ways : (a b c d : Bool) → Way
ways a b c d = cond a Filled (cond b Immediate (cond c AwayBest (cond d OwnFront Booked)))

booked_when : (a b c d : Bool) → is_booked (ways a b c d) ≡ true → (a ≡ false) × (b ≡ false) × (d ≡ false)
booked_when true b c d e = absurd (both_ways false refl e)
booked_when false true c d e = absurd (both_ways false refl e)
booked_when false false true d e = absurd (both_ways false refl e)
booked_when false false false true e = absurd (both_ways false refl e)
booked_when false false false false e = (refl, refl, refl)

none_cancelled : (way : Way) (n : ℕ) → is_booked way ≡ true → way_cancelled way n ≡ 0
none_cancelled Filled n e = refl
none_cancelled Booked n e = refl
none_cancelled Immediate n e = absurd (both_ways false refl e)
none_cancelled AwayBest n e = absurd (both_ways false refl e)
none_cancelled OwnFront n e = absurd (both_ways false refl e)

rest_cancelled : (a b c d : Bool) (n : ℕ) → (a ≡ true → n ≡ 0) → is_booked (ways a b c d) ≡ false → way_cancelled (ways a b c d) n ≡ n
rest_cancelled true b c d n zero e = sym (zero refl)
rest_cancelled false true c d n zero e = refl
rest_cancelled false false true d n zero e = refl
rest_cancelled false false false true n zero e = refl
rest_cancelled false false false false n zero e = absurd (both_ways true e refl)

-- A number that does not stand

absent_stands : (n : ℕ) (os : List Standing) → tally n os ≡ 0 → stands n os ≡ false
absent_stands n [] h = refl
absent_stands n (o ∷ os) h =
    let P : Bool → Type 0 = λ b. cond b 1 0 + tally n os ≡ 0 → is_some (cond b (Some o) (find n os)) ≡ false in
    elim (eqb o.number n) as P [
      | true ↦ λ e. absurd (let no : ⊥ = omega arith in no)
      | false ↦ λ e. absent_stands n os (omega arith)
    ] h

abbrev pub view_amount : ℕ → View → ℕ
view_amount n v = amount n v.displayed + amount n v.dark + amount n v.own + amount n v.own_dark

abbrev pub booked_view : Rule → (displayed : Bool) → Standing → View → View
booked_view own true o v = record { displayed = v.displayed; dark = v.dark; own = put own o v.own; own_dark = v.own_dark }
booked_view own false o v = record { displayed = v.displayed; dark = v.dark; own = v.own; own_dark = put own o v.own_dark }

pub seen_booked : (side : SideName) (displayed : Bool) (o : Standing) (v : View) → with_booked side displayed o (seen_from side v) ≡ seen_from side (booked_view (own_rule side) displayed o v)
seen_booked Bid true o v = refl
seen_booked Bid false o v = refl
seen_booked Ask true o v = refl
seen_booked Ask false o v = refl

-- the book that a rest goes to, and its number of places
abbrev pub own_of : (displayed : Bool) → View → List Standing
own_of true v = v.own
own_of false v = v.own_dark

abbrev pub places_of : (displayed : Bool) → (places dark_places : ℕ) → ℕ
places_of true places dark_places = places
places_of false places dark_places = dark_places

module _ (side : SideName) (entry : Entry) (increment : ℕ) (away : Quote) (places dark_places : ℕ) (v : View) (issued : ℕ) where
  abbrev rule : Rule
  rule = met_rule side

  abbrev own : Rule
  own = own_rule side

  abbrev start : Scene
  start = record { displayed = v.displayed; dark = v.dark; shares = entry.shares }

  abbrev m : Steps Scene
  m = met rule increment away entry v

  abbrev pub met_view : View
  met_view = record { displayed = m.state.displayed; dark = m.state.dark; own = v.own; own_dark = v.own_dark }

  abbrev pub rest : Standing
  rest = record { number = entry.number; price = entry.bound; shares = m.state.shares }

  abbrev pub way : Way
  way = way_of rule (rest_of rule away entry m.state)

  abbrev pub p : Placed
  p = placed rule own increment away places dark_places entry v

  abbrev ended_view : (books_it displayed : Bool) → View
  ended_view b d = record {
    displayed = m.state.displayed;
    dark = m.state.dark;
    own = booked_in (b && d) own places entry m.state.shares v.own;
    own_dark = booked_in (b && not d) own dark_places entry m.state.shares v.own_dark;
  }

  module _ (neat : NeatView side issued v) (two : 2 ≤ increment) (new : entry.number ≡ issued + 1) (priced : 1 ≤ entry.bound) (sized : entry.shares ≤ most_shares) (room : entry.immediate ≡ false → ltb (length (own_of entry.displayed v)) (places_of entry.displayed places dark_places) ≡ true) where
    fit : Fit side entry increment away v.own v.own_dark issued start
    fit = record { displayed_good = neat.displayed_good; dark_good = neat.dark_good; once = neat.once; clear = neat.clear }

    pub met_went : Went (match_step rule entry (around_in increment away v)) (books_of side entry increment away v.own v.own_dark issued) trade_made (Fit side entry increment away v.own v.own_dark issued) (MatchedIn increment away entry.large entry.number) (weigh side entry increment away v.own v.own_dark issued) start m
    met_went = match_went side entry increment away v.own v.own_dark issued two (omega arith) neat.own_good.2 neat.own_dark_good.2 start fit

    fresh_number : (os : List Standing) → Each (λ o. o.number ≤ issued) os → tally entry.number os ≡ 0
    fresh_number os given = fresh_tally issued entry.number os given (omega arith)

    -- where the rest is not booked, or before it is
    met_neat : NeatView side (issued + 1) met_view
    met_neat = record {
      displayed_good = later_good rule issued m.state.displayed met_went.kept.displayed_good;
      dark_good = later_good rule issued m.state.dark met_went.kept.dark_good;
      own_good = later_good own issued v.own neat.own_good;
      own_dark_good = later_good own issued v.own_dark neat.own_dark_good;
      once = met_went.kept.once;
      clear = met_went.kept.clear;
    }

    module _ (booked : is_booked way ≡ true) where
      when : (eqb m.state.shares 0 ≡ false) × (entry.immediate ≡ false) × ((entry.displayed && reached rule entry.bound (front_price m.state.displayed)) ≡ false)
      when = booked_when (eqb m.state.shares 0) entry.immediate (not entry.directed && reached rule entry.bound (on rule.name away)) (entry.displayed && reached rule entry.bound (front_price m.state.displayed)) booked

      rest_sound : sound rest ≡ true
      rest_sound =
          let some = eqb-false m.state.shares 0 when.0 in
          let few = matched_shares rule entry (around_in increment away v) start in
          and_from (leb 1 entry.number && leb 1 entry.bound && leb 1 m.state.shares) (leb m.state.shares most_shares)
          (and_from (leb 1 entry.number && leb 1 entry.bound) (leb 1 m.state.shares)
          (and_from (leb 1 entry.number) (leb 1 entry.bound) (le-leb 1 entry.number (omega arith)) (le-leb 1 entry.bound priced))
          (le-leb 1 m.state.shares (omega arith)))
          (le-leb m.state.shares most_shares (omega arith))

      taken_in : (os : List Standing) (n : ℕ) → Each (λ o. o.number ≤ issued) os → ltb (length os) n ≡ true → (added own n os rest).list ≡ put own rest os
      taken_in os n given has =
          ap (λ r. r.list)
          (added_fit own n os rest
          (and_from (sound rest) (not (stands entry.number os)) rest_sound (not_from_false (stands entry.number os) (absent_stands entry.number os (fresh_number os given)))) has)

      once_more : (n : ℕ) (x y : ℕ) → x + y ≡ tally n m.state.displayed + tally n m.state.dark + tally n v.own + tally n v.own_dark + cond (eqb entry.number n) 1 0 → x + y ≤ 1
      once_more n x y sum =
          let P : Bool → Type 0 = λ b. eqb entry.number n ≡ b → x + y ≡ tally n m.state.displayed + tally n m.state.dark + tally n v.own + tally n v.own_dark + cond b 1 0 → x + y ≤ 1 in
          elim (eqb entry.number n) as P [
            | true ↦ λ e h.
                let same = eqb-true entry.number n e in
                let a : tally n m.state.displayed ≡ 0 = subst (λ k. tally k m.state.displayed ≡ 0) same (fresh_number m.state.displayed met_went.kept.displayed_good.2) in
                let b : tally n m.state.dark ≡ 0 = subst (λ k. tally k m.state.dark ≡ 0) same (fresh_number m.state.dark met_went.kept.dark_good.2) in
                let c : tally n v.own ≡ 0 = subst (λ k. tally k v.own ≡ 0) same (fresh_number v.own neat.own_good.2) in
                let d : tally n v.own_dark ≡ 0 = subst (λ k. tally k v.own_dark ≡ 0) same (fresh_number v.own_dark neat.own_dark_good.2) in
                omega arith
            | false ↦ λ _ h. omega (arith, met_went.kept.once n)
          ] refl sum

      -- our displayed front on the other side does not reach the bound
      beyond : entry.displayed ≡ true → Each (λ d. rule.ahead entry.bound d.price ≡ true) m.state.displayed
      beyond shown =
          past m.state.displayed met_went.kept.displayed_good.0
          (⊎_elim (λ (f : entry.displayed ≡ false). absurd (both_ways entry.displayed f shown)) (λ g. g)
          (and_cases entry.displayed (reached rule entry.bound (front_price m.state.displayed)) when.2))
        where
          past : (ds : List Standing) → Pairs (StandsBefore rule) ds → reached rule entry.bound (front_price ds) ≡ false → Each (λ d. rule.ahead entry.bound d.price ≡ true) ds
          past [] sorted h = tt
          past (x ∷ xs) sorted h = before_all rule (met_lawful side) (best_is side) entry.bound x xs (not-false (rule.ahead entry.bound x.price) h) sorted.0

      booked_neat : (d : Bool) → entry.displayed ≡ d → NeatView side (issued + 1) (booked_view own d rest met_view)
      booked_neat true shown = record {
        displayed_good = met_neat.displayed_good;
        dark_good = met_neat.dark_good;
        own_good = put_good own (own_lawful side) issued rest v.own new rest_sound neat.own_good;
        own_dark_good = met_neat.own_dark_good;
        once = λ n. once_more n _ _ (omega (arith, tally_put own n rest v.own));
        clear = each_put (λ o. Each (λ d. rule.ahead o.price d.price ≡ true) m.state.displayed) own rest v.own (beyond shown) met_neat.clear;
      }
      booked_neat false shown = record {
        displayed_good = met_neat.displayed_good;
        dark_good = met_neat.dark_good;
        own_good = met_neat.own_good;
        own_dark_good = put_good own (own_lawful side) issued rest v.own_dark new rest_sound neat.own_dark_good;
        once = λ n. once_more n _ _ (omega (arith, tally_put own n rest v.own_dark));
        clear = met_neat.clear;
      }

      booked_is : (d : Bool) → entry.displayed ≡ d → ended_view true d ≡ booked_view own d rest met_view
      booked_is true shown =
          let has = subst (λ d. ltb (length (own_of d v)) (places_of d places dark_places) ≡ true) shown (room when.1) in
          let e = taken_in v.own places neat.own_good.2 has in
          cc
      booked_is false shown =
          let has = subst (λ d. ltb (length (own_of d v)) (places_of d places dark_places) ≡ true) shown (room when.1) in
          let e = taken_in v.own_dark dark_places neat.own_dark_good.2 has in
          cc

      booked_amount : (d : Bool) (n : ℕ) → view_amount n (booked_view own d rest met_view) ≡ view_amount n met_view + if_number entry.number n m.state.shares
      booked_amount true n = omega (arith, amount_put own n rest v.own)
      booked_amount false n = omega (arith, amount_put own n rest v.own_dark)

    -- what the placing leaves
    pub record Left (view : View) : Type 0 where
      pub neat_then : NeatView side (issued + 1) view
      pub view_is : view ≡ cond (is_booked way) (booked_view own entry.displayed rest met_view) met_view
      pub weighed : (n : ℕ) → view_amount n v + if_number entry.number n entry.shares ≡ view_amount n view + traded_in n m.trades + if_number entry.number n (way_cancelled way m.state.shares)

    left_at : (b : Bool) → is_booked way ≡ b → Left (ended_view b entry.displayed)
    left_at true booked =
        let is = booked_is booked entry.displayed refl in
        let none = none_cancelled way m.state.shares booked in
        record {
          neat_then = subst (NeatView side (issued + 1)) (sym is) (booked_neat booked entry.displayed refl);
          view_is = rw booked is;
          weighed = λ n.
              let nothing : if_number entry.number n (way_cancelled way m.state.shares) ≡ 0 = ap (if_number entry.number n) none ∙ zero_if entry.number n in
              let more : view_amount n (ended_view true entry.displayed) ≡ view_amount n met_view + if_number entry.number n m.state.shares = ap (view_amount n) is ∙ booked_amount booked entry.displayed n in
              omega (arith, met_went.weighed n);
        }
    left_at false unbooked =
        let all = rest_cancelled (eqb m.state.shares 0) entry.immediate (not entry.directed && reached rule entry.bound (on rule.name away)) (entry.displayed && reached rule entry.bound (front_price m.state.displayed)) m.state.shares (eqb-true m.state.shares 0) unbooked in
        record {
          neat_then = met_neat;
          view_is = rw unbooked;
          weighed = λ n.
              let same : if_number entry.number n (way_cancelled way m.state.shares) ≡ if_number entry.number n m.state.shares = ap (if_number entry.number n) all in
              omega (arith, met_went.weighed n);
        }

    pub placed_left : Left p.view
    placed_left = left_at (is_booked way) refl
