-- A trade at its moment: what matching and looking over see to before they make it.
use Rattle.std.proofs.Common.{◌≡◌, ℕ, ◌/◌, ◌<◌, ◌≤◌, Bool, true, false, cond, ◌&&◌, List, [], ◌∷◌, Some, None, Option, sym, refl, ap, ◌∙◌, subst, ⊎_elim, arith}
use Rattle.std.proofs.lemmas.Option.{none-some, same_Some}
use Rattle.std.proofs.lemmas.Bool.{cases_Bool, both_ways, and_parts, and_from, or_cases, or_right, not-true, not_from_false, cond_both}
use Rattle.books.proofs.Past.{each_map}
use Rattle.books.proofs.Ranks.{not_both, before}
use Rattle.books.specs.Histories.{Each, Pairs}
use Rattle.books.specs.Lists.{find}
use Rattle.books.specs.declared.standing.Standing.{Standing}
use Rattle.matching.proofs.Fronts.{opens, candidate_front}
use Rattle.matching.specs.Looking.{pair, trade_of}
use Rattle.matching.specs.Matching.{Scene, at_or_ahead, spared, front_price, front_if, best_against, dark_passes, displayed_candidate, dark_candidate, chosen, candidate, trade_with, order_in, is_dark}
use Rattle.matching.specs.declared.candidate.Around.{Around}
use Rattle.matching.specs.declared.candidate.Candidate.{Candidate}
use Rattle.matching.specs.declared.candidate.Candidate.TheVariants.{Displayed, Dark}
use Rattle.matching.specs.declared.candidate.Entry.{Entry}
use Rattle.matching.specs.declared.trade.Trade.{Trade}
use Rattle.rules.specs.Better.{on, placed, first_of, best_of, one_apart, improvement_at, better_than, better}
use Rattle.rules.specs.Sides.{Rule, Lawful}
use Rattle.rules.specs.declared.price.Quote.{Quote}
use Rattle.runs.proofs.Lowering.{at_front, find_front}
use Rattle.runs.specs.Law.{StandsBefore}

-- the standing side's displayed and dark orders, and the displayed ones of the other side
pub record Judged (rule : Rule) (increment : ℕ) (away : Quote) (large : Bool) (displayed dark own : List Standing) (t : Trade) : Type 0 where
  pub order : Standing
  pub stands : find t.standing (cond t.dark dark displayed) ≡ Some order
  pub price : order.price ≡ t.price
  pub enough : t.shares ≤ order.shares
  pub before_displayed : t.dark ≡ true → Each (λ o. rule.ahead t.price o.price ≡ true) displayed
  pub better_if_small : t.dark ≡ true → large ≡ false → better rule increment (best_of (placed rule.name (front_price displayed) (front_price own)) away) t.price ≡ true

pub improvement_some : (increment : ℕ) (best : Quote) → 2 ≤ increment → 0 < improvement_at increment best
improvement_some increment best two =
    cond_both (one_apart increment best.bid best.ask) (increment / 2) increment (λ n. 0 < n) (λ _. omega arith) (λ _. omega arith)

module _ (rule : Rule) (law : Lawful rule) (best_is : (front behind : Option ℕ) (away : Quote) → on rule.name (best_of (placed rule.name front behind) away) ≡ first_of rule front (on rule.name away)) where
  -- what comes before the first of a list in priority comes before all of it
  pub before_all : (p : ℕ) (x : Standing) (xs : List Standing) → rule.ahead p x.price ≡ true → Each (StandsBefore rule x) xs → Each (λ o. rule.ahead p o.price ≡ true) (x ∷ xs)
  before_all p x xs h sorted = (h, each_map (StandsBefore rule x) (λ o. rule.ahead p o.price ≡ true) (λ o b. before rule law p o.price x.price b.0 h) xs sorted)

  -- a better price comes before the best one
  better_ahead : (increment : ℕ) (best : Quote) (b p : ℕ) → 2 ≤ increment → on rule.name best ≡ Some b → better rule increment best p ≡ true → rule.ahead p b ≡ true
  better_ahead increment best b p two is better_so =
      law.improving p b (improvement_at increment best) (improvement_some increment best two)
      (subst (λ o. better_than rule o (improvement_at increment best) p ≡ true) is better_so)

  -- and so before our own front
  module _ (x : ℕ) (p : ℕ) where
    ahead_of_front : (a : Option ℕ) (b : ℕ) → first_of rule (Some x) a ≡ Some b → rule.ahead p b ≡ true → rule.ahead p x ≡ true
    ahead_of_front None b is h = subst (λ y. rule.ahead p y ≡ true) (sym (same_Some _ _ is)) h
    ahead_of_front (Some a) b is h =
        let P : Bool → Type 0 = λ c. rule.ahead a x ≡ c → cond c a x ≡ b → rule.ahead p x ≡ true in
        elim (rule.ahead a x) as P [
          | true ↦ λ first e. law.carries p a x (subst (λ y. rule.ahead p y ≡ true) (sym e) h) first
          | false ↦ λ _ e. subst (λ y. rule.ahead p y ≡ true) (sym e) h
        ] refl (same_Some _ _ is)

  first_some : (x : ℕ) (a : Option ℕ) → (b : ℕ) × (first_of rule (Some x) a ≡ Some b)
  first_some x None = (x, refl)
  first_some x (Some a) = (cond (rule.ahead a x) a x, refl)

  -- a pair: the active order is the front displayed one of the other side
  pub pair_judged : (increment : ℕ) (away : Quote) (displayed dark own : List Standing) (t : Trade) → 2 ≤ increment → Pairs (StandsBefore rule) displayed → pair rule increment (best_of (placed rule.name (front_price displayed) (front_price own)) away) own dark ≡ Some t → Judged rule increment away false displayed dark own t
  pair_judged increment away displayed dark [] t two sorted is = absurd (none-some _ is)
  pair_judged increment away displayed [] (d ∷ ds) t two sorted is = absurd (none-some _ is)
  pair_judged increment away displayed (k ∷ ks) (d ∷ ds) t two sorted is =
      let best : Quote = best_of (placed rule.name (front_price displayed) (Some d.price)) away in
      let P : Bool → Type 0 = λ b. (at_or_ahead rule k.price d.price && better rule increment best k.price) ≡ b → cond b (Some (trade_of d k)) None ≡ Some t → Judged rule increment away false displayed (k ∷ ks) (d ∷ ds) t in
      elim (at_or_ahead rule k.price d.price && better rule increment best k.price) as P [
        | true ↦ λ so e.
            let is_better : better rule increment best k.price ≡ true = (and_parts (at_or_ahead rule k.price d.price) (better rule increment best k.price) so).1 in
            subst (Judged rule increment away false displayed (k ∷ ks) (d ∷ ds)) (same_Some _ _ e)
            record {
              order = k;
              stands = find_front k ks;
              price = refl;
              enough = omega arith;
              before_displayed = λ _. in_front displayed sorted is_better;
              better_if_small = λ _ _. is_better;
            }
        | false ↦ λ _ e. absurd (none-some _ e)
      ] refl is
    where
      in_front : (displayed : List Standing) → Pairs (StandsBefore rule) displayed → better rule increment (best_of (placed rule.name (front_price displayed) (Some d.price)) away) k.price ≡ true → Each (λ o. rule.ahead k.price o.price ≡ true) displayed
      in_front [] sorted is_better = tt
      in_front (x ∷ xs) sorted is_better =
          let best : Quote = best_of (placed rule.name (Some x.price) (Some d.price)) away in
          let b = first_some x.price (on rule.name away) in
          let at : on rule.name best ≡ Some b.0 = best_is (Some x.price) (Some d.price) away ∙ b.1 in
          before_all k.price x xs (ahead_of_front x.price k.price (on rule.name away) b.0 b.1 (better_ahead increment best b.0 k.price two at is_better)) sorted.0

  -- the dark candidate is chosen: it passes, and it comes before the displayed one
  chosen_dark : (d k : Option Standing) (c : Candidate) → chosen rule d k ≡ Some c → (is_dark c) ≡ true → (k ≡ Some (order_in c)) × ((x : Standing) → d ≡ Some x → rule.ahead (order_in c).price x.price ≡ true)
  chosen_dark None None c is dark = absurd (none-some _ is)
  chosen_dark (Some d) None c is dark = absurd (both_ways (is_dark c) (ap (λ x. is_dark x) (sym (same_Some _ _ is))) dark)
  chosen_dark None (Some k) c is dark = (ap (λ x. Some (order_in x)) (same_Some _ _ is), λ x e. absurd (none-some _ e))
  chosen_dark (Some d) (Some k) c is dark =
      let P : Bool → Type 0 = λ b. rule.ahead k.price d.price ≡ b → cond b (Dark k) (Displayed d) ≡ c → (Some k ≡ Some (order_in c)) × ((x : Standing) → Some d ≡ Some x → rule.ahead (order_in c).price x.price ≡ true) in
      elim (rule.ahead k.price d.price) as P [
        | true ↦ λ first e. (
          ap (λ x. Some (order_in x)) e,
          λ x h. subst (λ y. rule.ahead (order_in c).price y.price ≡ true) (same_Some _ _ h) (subst (λ z. rule.ahead (order_in z).price d.price ≡ true) e first),
        )
        | false ↦ λ _ e. absurd (both_ways (is_dark c) (ap (λ x. is_dark x) (sym e)) dark)
      ] refl (same_Some _ _ is)

  front_passes : (passes : ℕ → Bool) (os : List Standing) (o : Standing) → front_if passes os ≡ Some o → passes o.price ≡ true
  front_passes passes [] o is = absurd (none-some _ is)
  front_passes passes (x ∷ xs) o is =
      let P : Bool → Type 0 = λ b. passes x.price ≡ b → cond b (Some x) None ≡ Some o → passes o.price ≡ true in
      elim (passes x.price) as P [
        | true ↦ λ so e. subst (λ y. passes y.price ≡ true) (same_Some _ _ e) so
        | false ↦ λ _ e. absurd (none-some _ e)
      ] refl is

  module _ (entry : Entry) (around : Around) (two : 2 ≤ around.away.increment) where
    -- a price at which a dark order passes, and before which a displayed candidate does not come, is ahead of our front
    module _ (p : ℕ) (x : Standing) (xs : List Standing) (passes : dark_passes rule entry around (best_against rule around (Some x.price)) p ≡ true) where
      within : rule.ahead entry.bound p ≡ false
      within = not-true (rule.ahead entry.bound p) (and_parts (at_or_ahead rule p entry.bound) _ passes).0

      not_past_best : (b : ℕ) → first_of rule (Some x.price) (on rule.name around.away.quote) ≡ Some b → rule.ahead b p ≡ false
      not_past_best b is =
          let best : Quote = best_against rule around (Some x.price) in
          let at : on rule.name best ≡ Some b = best_is (Some x.price) around.behind around.away.quote ∙ is in
          ⊎_elim
          (λ (so : better rule around.away.increment best p ≡ true).
          not_both rule law p b (better_ahead around.away.increment best b p two at so))
          (λ (so : (entry.large && spared rule p (on rule.name best)) ≡ true).
          let spared_so : spared rule p (on rule.name best) ≡ true = (and_parts entry.large (spared rule p (on rule.name best)) so).1 in
          not-true (rule.ahead b p) (subst (λ o. spared rule p o ≡ true) at spared_so))
          (or_cases (better rule around.away.increment best p) _ (and_parts (at_or_ahead rule p entry.bound) _ passes).1)

      module _ (behind : rule.ahead p x.price ≡ false) where
        front_within : at_or_ahead rule x.price entry.bound ≡ true
        front_within =
            ⊎_elim
            (λ (t : rule.ahead entry.bound x.price ≡ true).
            absurd (both_ways (rule.ahead entry.bound p) within (before rule law entry.bound p x.price behind t)))
            (λ f. not_from_false (rule.ahead entry.bound x.price) f)
            (cases_Bool (rule.ahead entry.bound x.price))

        front_spared : (a : Option ℕ) → ((b : ℕ) → first_of rule (Some x.price) a ≡ Some b → rule.ahead b p ≡ false) → spared rule x.price a ≡ true
        front_spared None past = refl
        front_spared (Some a) past =
            ⊎_elim
            (λ (t : rule.ahead a x.price ≡ true).
            absurd (both_ways (rule.ahead a p) (past a (ap (λ c. Some (cond c a x.price)) t)) (before rule law a p x.price behind t)))
            (λ f. not_from_false (rule.ahead a x.price) f)
            (cases_Bool (rule.ahead a x.price))

        front_candidate : displayed_candidate rule entry around (x ∷ xs) ≡ Some x
        front_candidate =
            ap (λ b. cond b (Some x) None)
            (and_from (at_or_ahead rule x.price entry.bound) _ front_within
            (or_right entry.directed _ (front_spared (on rule.name around.away.quote) not_past_best)))

      ahead_front : ((y : Standing) → displayed_candidate rule entry around (x ∷ xs) ≡ Some y → rule.ahead p y.price ≡ true) → rule.ahead p x.price ≡ true
      ahead_front first =
          ⊎_elim (λ t. t) (λ (f : rule.ahead p x.price ≡ false). first x (front_candidate f)) (cases_Bool (rule.ahead p x.price))

    in_front : (p : ℕ) (displayed : List Standing) → Pairs (StandsBefore rule) displayed → dark_passes rule entry around (best_against rule around (front_price displayed)) p ≡ true → ((y : Standing) → displayed_candidate rule entry around displayed ≡ Some y → rule.ahead p y.price ≡ true) → Each (λ o. rule.ahead p o.price ≡ true) displayed
    in_front p [] sorted passes first = tt
    in_front p (x ∷ xs) sorted passes first = before_all p x xs (ahead_front p x xs passes first) sorted.0

    small_better : (best : Quote) (p : ℕ) → dark_passes rule entry around best p ≡ true → entry.large ≡ false → better rule around.away.increment best p ≡ true
    small_better best p passes small =
        ⊎_elim (λ t. t)
        (λ (so : (entry.large && spared rule p (on rule.name best)) ≡ true).
        absurd (both_ways entry.large small (and_parts entry.large _ so).0))
        (or_cases (better rule around.away.increment best p) _ (and_parts (at_or_ahead rule p entry.bound) _ passes).1)

  pub match_judged : (entry : Entry) (increment : ℕ) (away : Quote) (own : List Standing) (scene : Scene) (c : Candidate) → 2 ≤ increment → Pairs (StandsBefore rule) scene.displayed → candidate rule entry (record { away = record { increment = increment; quote = away }; behind = front_price own }) scene ≡ Some c → Judged rule increment away entry.large scene.displayed scene.dark own (trade_with entry c scene.shares)
  match_judged entry increment away own scene c two sorted is =
      let around : Around = record { away = record { increment = increment; quote = away }; behind = front_price own } in
      let best : Quote = best_against rule around (front_price scene.displayed) in
      let choice : (is_dark c) ≡ true → (dark_candidate rule entry around (front_price scene.displayed) scene.dark ≡ Some (order_in c)) × ((x : Standing) → displayed_candidate rule entry around scene.displayed ≡ Some x → rule.ahead (order_in c).price x.price ≡ true) =
      λ dark. chosen_dark (displayed_candidate rule entry around scene.displayed) (dark_candidate rule entry around (front_price scene.displayed) scene.dark) c (opens rule entry around scene c is).1 dark in
      let passes : (is_dark c) ≡ true → dark_passes rule entry around best (order_in c).price ≡ true =
      λ dark. front_passes (dark_passes rule entry around best) scene.dark (order_in c) (choice dark).0 in
      record {
        order = (order_in c);
        stands = at_front (order_in c) (λ l. find (order_in c).number l ≡ Some (order_in c)) (λ l. find_front (order_in c) l) (cond (is_dark c) scene.dark scene.displayed) (candidate_front rule entry around scene c is);
        price = refl;
        enough = omega arith;
        before_displayed = λ dark. in_front entry around two (order_in c).price scene.displayed sorted (passes dark) (choice dark).1;
        better_if_small = λ dark. small_better entry around two best (order_in c).price (passes dark);
      }
