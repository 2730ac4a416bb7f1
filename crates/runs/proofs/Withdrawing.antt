-- An order found by its number in four books, and taken out of them.
use Rattle.std.proofs.Common.{◌≡◌, ℕ, ◌+◌, ◌≤◌, Bool, true, false, cond, eqb, List, [], ◌∷◌, Some, None, Option, refl, ap, ◌∙◌, arith}
use Rattle.std.proofs.lemmas.Bool.{eqb-true}
use Rattle.books.proofs.Past.{each_without, pairs_without}
use Rattle.books.specs.Arranging.{tally}
use Rattle.books.specs.Histories.{Each}
use Rattle.books.specs.Lists.{AllSound, find, without, removed_found}
use Rattle.books.specs.declared.standing.Standing.{Standing}
use Rattle.market.specs.Calls.{shares_of}
use Rattle.matching.specs.Sets.{first_found, find_either, find_in, unless_found, without_in}
use Rattle.matching.specs.Looking.{Books}
use Rattle.rules.specs.Sides.{Rule}
use Rattle.runs.proofs.Lowering.{amount, Good}
use Rattle.runs.specs.Law.{StandsBefore, if_number, tally_in, open_in}

-- the open shares under a number in the four books
abbrev pub amount_in : (number : ℕ) → Books → ℕ
amount_in n b = amount n b.bids + amount n b.asks + amount n b.dark_bids + amount n b.dark_asks

-- Finding

amount_none : (n : ℕ) (os : List Standing) → tally n os ≡ 0 → amount n os ≡ 0
amount_none n [] h = refl
amount_none n (o ∷ os) h =
    let P : Bool → Type 0 = λ b. cond b 1 0 + tally n os ≡ 0 → cond b o.shares 0 + amount n os ≡ 0 in
    elim (eqb o.number n) as P [
      | true ↦ λ e. absurd (let no : ⊥ = omega arith in no)
      | false ↦ λ e. omega (arith, amount_none n os (omega arith))
    ] h

find_amount : (n : ℕ) (os : List Standing) → tally n os ≤ 1 → shares_of (find n os) ≡ amount n os
find_amount n [] h = refl
find_amount n (o ∷ os) h =
    let P : Bool → Type 0 = λ b. cond b 1 0 + tally n os ≤ 1 → shares_of (cond b (Some o) (find n os)) ≡ cond b o.shares 0 + amount n os in
    elim (eqb o.number n) as P [
      | true ↦ λ e. omega (arith, amount_none n os (omega arith))
      | false ↦ λ e. omega (arith, find_amount n os (omega arith))
    ] h

find_stands : (n : ℕ) (os : List Standing) (o : Standing) → find n os ≡ Some o → 1 ≤ tally n os
find_stands n [] o e = let z : ◌≡◌ {A = ℕ} 0 1 = cc in absurd (omega arith)
find_stands n (x ∷ xs) o e =
    let P : Bool → Type 0 = λ b. cond b (Some x) (find n xs) ≡ Some o → 1 ≤ cond b 1 0 + tally n xs in
    elim (eqb x.number n) as P [ true ↦ λ _. omega arith | false ↦ λ h. omega (arith, find_stands n xs o h) ] e

-- a number that stands in this list stands in none of those after it
first_amount : (n : ℕ) (xs : List Standing) (b : Option Standing) (r : ℕ) → tally n xs ≤ 1 → (1 ≤ tally n xs → r ≡ 0) → shares_of b ≡ r → shares_of (first_found (find n xs) b) ≡ amount n xs + r
first_amount n xs b r once none rest =
    let P : Option Standing → Type 0 = λ o. find n xs ≡ o → shares_of o ≡ amount n xs → shares_of (first_found o b) ≡ amount n xs + r in
    elim (find n xs) as P [
      | None ↦ λ _ is. omega (arith, is, rest)
      | Some o ↦ λ e is. omega (arith, is, none (find_stands n xs o e))
    ] refl (find_amount n xs once)

found_first : (a b c : Option Standing) → first_found (first_found a b) c ≡ first_found a (first_found b c)
found_first None b c = refl
found_first (Some o) b c = refl

pub open_amount : (n : ℕ) (b : Books) → tally_in n b ≤ 1 → open_in n b ≡ amount_in n b
open_amount n b once =
    let last : shares_of (find n b.dark_asks) ≡ amount n b.dark_asks = find_amount n b.dark_asks (omega arith) in
    let dark = first_amount n b.dark_bids (find n b.dark_asks) (amount n b.dark_asks) (omega arith) (λ s. amount_none n b.dark_asks (omega arith)) last in
    let three = first_amount n b.asks (find_either n b.dark_bids b.dark_asks) (amount n b.dark_bids + amount n b.dark_asks) (omega arith)
    (λ s. omega (arith, amount_none n b.dark_bids (omega arith), amount_none n b.dark_asks (omega arith))) dark in
    let all = first_amount n b.bids (first_found (find n b.asks) (find_either n b.dark_bids b.dark_asks)) (amount n b.asks + (amount n b.dark_bids + amount n b.dark_asks)) (omega arith)
    (λ s. omega (arith, amount_none n b.asks (omega arith), amount_none n b.dark_bids (omega arith), amount_none n b.dark_asks (omega arith))) three in
    ap shares_of (found_first (find n b.bids) (find n b.asks) (find_either n b.dark_bids b.dark_asks)) ∙ all ∙ omega arith

-- Taking out

without_amount : (n m : ℕ) (os : List Standing) → amount m os ≡ amount m (without n os) + if_number n m (shares_of (find n os))
without_amount n m [] = none (eqb n m)
  where
    none : (b : Bool) → ◌≡◌ {A = ℕ} 0 (0 + cond b 0 0)
    none true = refl
    none false = refl
without_amount n m (o ∷ os) =
    let P : Bool → Type 0 = λ b. eqb o.number n ≡ b → amount m (o ∷ os) ≡ amount m (cond b os (o ∷ without n os)) + if_number n m (shares_of (cond b (Some o) (find n os))) in
    elim (eqb o.number n) as P [
      | true ↦ λ e. rw (eqb-true o.number n e) (omega arith)
      | false ↦ λ _. omega (arith, without_amount n m os)
    ] refl

without_tally : (n m : ℕ) (os : List Standing) → tally m (without n os) ≤ tally m os
without_tally n m [] = omega arith
without_tally n m (o ∷ os) =
    let P : Bool → Type 0 = λ b. tally m (cond b os (o ∷ without n os)) ≤ tally m (o ∷ os) in
    elim (eqb o.number n) as P [ true ↦ omega arith | false ↦ omega (arith, without_tally n m os) ]

without_sound : (n : ℕ) (os : List Standing) → AllSound os → AllSound (without n os)
without_sound n [] s = s
without_sound n (o ∷ os) s =
    let P : Bool → Type 0 = λ b. AllSound (cond b os (o ∷ without n os)) in
    elim (eqb o.number n) as P [ true ↦ s.1 | false ↦ (s.0, without_sound n os s.1) ]

without_good : (rule : Rule) (k n : ℕ) (os : List Standing) → Good rule k os → Good rule k (without n os)
without_good rule k n os g = (
  pairs_without (StandsBefore rule) n os g.0,
  without_sound n os g.1,
  each_without (λ o. o.number ≤ k) n os g.2,
)

pub zero_if : (n m : ℕ) → if_number n m 0 ≡ 0
zero_if n m = let P : Bool → Type 0 = λ b. ◌≡◌ {A = ℕ} (cond b 0 0) 0 in elim (eqb n m) as P [ true ↦ refl | false ↦ refl ]

-- whichever list the number was found in before
module _ (n : ℕ) (os : List Standing) where
  unless_kept : (P : List Standing → Type 0) → P os → P (without n os) → (found : Option Standing) → P (unless_found found n os)
  unless_kept P stays goes (Some o) = stays
  unless_kept P stays goes None =
      let Q : Option Standing → Type 0 = λ o. P (removed_found o n os).list in
      elim (find n os) as Q [ None ↦ stays | Some o ↦ goes ]

  pub unless_good : (rule : Rule) (k : ℕ) (found : Option Standing) → Good rule k os → Good rule k (unless_found found n os)
  unless_good rule k found g = unless_kept (Good rule k) g (without_good rule k n os g) found

  pub unless_tally : (m : ℕ) (found : Option Standing) → tally m (unless_found found n os) ≤ tally m os
  unless_tally m = unless_kept (λ l. tally m l ≤ tally m os) (omega arith) (without_tally n m os)

  pub unless_each : (P : Standing → Type 0) (found : Option Standing) → Each P os → Each P (unless_found found n os)
  unless_each P found h = unless_kept (Each P) h (each_without P n os h) found

  unless_amount : (m : ℕ) (found : Option Standing) → amount m os + if_number n m (shares_of found) ≡ amount m (unless_found found n os) + if_number n m (shares_of (first_found found (find n os)))
  unless_amount m (Some o) = refl
  unless_amount m None =
      let Q : Option Standing → Type 0 = λ o. amount m os ≡ amount m (without n os) + if_number n m (shares_of o) → amount m os + if_number n m 0 ≡ amount m (removed_found o n os).list + if_number n m (shares_of o) in
      elim (find n os) as Q [ None ↦ λ _. refl | Some o ↦ λ e. omega (arith, zero_if n m) ] (without_amount n m os)

pub without_in_amount : (n m : ℕ) (b : Books) → amount_in m b ≡ amount_in m (without_in n b) + if_number n m (shares_of (find_in n b))
without_in_amount n m b =
    let two = find_either n b.bids b.asks in
    let three = first_found two (find n b.dark_bids) in
    let same : shares_of (first_found three (find n b.dark_asks)) ≡ shares_of (find_in n b) = ap shares_of (found_first two (find n b.dark_bids) (find n b.dark_asks)) in
    let whole : if_number n m (shares_of (first_found three (find n b.dark_asks))) ≡ if_number n m (shares_of (find_in n b)) = ap (if_number n m) same in
    omega (
      arith,
      zero_if n m,
      unless_amount n b.bids m None,
      unless_amount n b.asks m (find n b.bids),
      unless_amount n b.dark_bids m two,
      unless_amount n b.dark_asks m three,
      whole,
    )
