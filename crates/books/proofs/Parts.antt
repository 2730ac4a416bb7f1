-- Parts of lists of orders: what stands at a price, or at no place, as one order after another is looked at.
use Rattle.std.proofs.Common.{◌≡◌, ℕ, zero, suc, ◌+◌, ◌<◌, ◌≤◌, true, false, cond, List, [], ◌∷◌, ◌++◌, length, get_or, take, ◌≢◌, ◌==◌, nat_eq, slice_index_or, refl, ap, ◌∙◌, arith, ne_eqb}
use Rattle.std.proofs.lemmas.Bool.Decides.{nat_tests}
use Rattle.std.proofs.lemmas.List.{take_more}
use Rattle.books.specs.Arranging.{tally}
use Rattle.books.specs.Lists.{shares_at, sound}
use Rattle.books.specs.Packing.{blank}
use Rattle.books.specs.declared.standing.Standing.{Standing}

pub shares_append : (price : ℕ) (xs ys : List Standing) → shares_at price (xs ++ ys) ≡ shares_at price xs + shares_at price ys
shares_append price [] ys = omega arith
shares_append price (x ∷ xs) ys = omega (arith, shares_append price xs ys)

pub shares_more : (price : ℕ) (xs : List Standing) (i : ℕ) → i < length xs →
    shares_at price (take (i + 1) xs) ≡
    shares_at price (take i xs) + cond ((get_or xs i blank).price == price) (get_or xs i blank).shares 0
shares_more price xs i l =
    ap (shares_at price) (take_more xs i blank l) ∙ shares_append price (take i xs) (slice_index_or xs i blank ∷ []) ∙ omega arith

pub absent_tally : (m : ℕ) (xs : List Standing) (n : ℕ) → ((k : ℕ) → k < n → (get_or xs k blank).number ≢ m) →
    tally m (take n xs) ≡ 0
absent_tally m xs zero h = refl
absent_tally m [] (suc n) h = refl
absent_tally m (x ∷ xs) (suc n) h =
    let t = absent_tally m xs n (λ k l. h (suc k) (omega arith)) in
    let d : nat_eq x.number m ≡ false = ne_eqb x.number m (h 0 (omega arith)) in
    ap (λ b. cond {A = ℕ} b 1 0 + tally m (take n xs)) d ∙ omega arith

pub most_from_sound : (o : Standing) → sound o ≡ true → o.shares ≤ 10000000
most_from_sound o h = grind (arith, nat_tests)
