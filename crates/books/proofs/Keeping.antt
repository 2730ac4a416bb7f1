-- What is kept of orders by arrival: that each is sound, and that no number stands twice.
use Rattle.std.proofs.Common.{◌≡◌, ℕ, suc, ◌+◌, ◌<◌, ◌≤◌, true, cond, ◌&&◌, List, [], ◌∷◌, ◌++◌, length, get_or, take, drop, ◌==◌, slice_index_or, slice_set, refl, sym, ap, ◌∙◌, drop-cons, length-append, length-set, arith}
use Rattle.std.proofs.lemmas.List.{take-append-drop, set_split}
use Rattle.std.proofs.lemmas.Bool.{and_parts, and_from}
use Rattle.std.proofs.lemmas.Bool.Decides.{nat_tests}
use Rattle.std.proofs.lemmas.List.Edits.{length-remove}
use Rattle.std.specs.List.{remove}
use Rattle.books.specs.Arranging.{all_sound, tally, Distinct}
use Rattle.books.specs.Lists.{sound, reduced}
use Rattle.books.specs.Packing.{blank}
use Rattle.books.specs.declared.standing.Standing.{Standing}

-- a list, split at i
pub split_at : (xs : List Standing) (i : ℕ) → i < length xs → xs ≡ take i xs ++ slice_index_or xs i blank ∷ drop (suc i) xs
split_at xs i l = sym (take-append-drop i xs) ∙ ap (λ ws. take i xs ++ ws) (drop-cons xs i blank l)

-- Sound orders

pub all_sound_append : (xs ys : List Standing) → all_sound (xs ++ ys) ≡ (all_sound xs && all_sound ys)
all_sound_append [] ys = refl
all_sound_append (x ∷ xs) ys = let e = all_sound_append xs ys in grind (arith, nat_tests)

pub all_sound_middle : (xs : List Standing) (y : Standing) (ys : List Standing) →
    all_sound (xs ++ y ∷ ys) ≡ (sound y && all_sound (xs ++ ys))
all_sound_middle xs y ys =
    let e = all_sound_append xs (y ∷ ys) in
    let f = all_sound_append xs ys in
    grind (arith, nat_tests)

pub sound_reduced : (o : Standing) (n : ℕ) → n < o.shares → sound o ≡ true → sound (reduced o n) ≡ true
sound_reduced o n l h = grind (arith, nat_tests)

pub all_sound_split : (xs : List Standing) (i : ℕ) → i < length xs → all_sound xs ≡ true →
    (sound (slice_index_or xs i blank) ≡ true) × (all_sound (remove xs i) ≡ true)
all_sound_split xs i l h =
    and_parts (sound (slice_index_or xs i blank)) (all_sound (remove xs i))
    (sym (all_sound_middle (take i xs) (slice_index_or xs i blank) (drop (suc i) xs)) ∙ sym (ap all_sound (split_at xs i l)) ∙ h)

pub all_sound_set : (xs : List Standing) (i : ℕ) (y : Standing) → i < length xs → all_sound xs ≡ true → sound y ≡ true →
    all_sound (slice_set xs i y) ≡ true
all_sound_set xs i y l h s =
    ap all_sound (set_split xs i y l) ∙ all_sound_middle (take i xs) y (drop (suc i) xs) ∙
    and_from (sound y) (all_sound (remove xs i)) s (all_sound_split xs i l h).1

pub all_sound_push : (xs : List Standing) (y : Standing) → all_sound xs ≡ true → sound y ≡ true →
    all_sound (xs ++ y ∷ []) ≡ true
all_sound_push xs y h s = let e = all_sound_append xs (y ∷ []) in grind (arith, nat_tests)

-- How often a number stands among orders

pub tally_append : (n : ℕ) (xs ys : List Standing) → tally n (xs ++ ys) ≡ tally n xs + tally n ys
tally_append n [] ys = omega arith
tally_append n (x ∷ xs) ys = omega (arith, tally_append n xs ys)

pub tally_middle : (n : ℕ) (xs : List Standing) (y : Standing) (ys : List Standing) →
    tally n (xs ++ y ∷ ys) ≡ cond (y.number == n) 1 0 + tally n (xs ++ ys)
tally_middle n xs y ys = omega (arith, tally_append n xs (y ∷ ys), tally_append n xs ys)

pub tally_split : (n : ℕ) (xs : List Standing) (i : ℕ) → i < length xs →
    tally n xs ≡ cond ((get_or xs i blank).number == n) 1 0 + tally n (remove xs i)
tally_split n xs i l =
    ap (tally n) (split_at xs i l) ∙ tally_middle n (take i xs) (slice_index_or xs i blank) (drop (suc i) xs)

pub distinct_removed : (xs : List Standing) (i : ℕ) → i < length xs → Distinct xs → Distinct (remove xs i)
distinct_removed xs i l h n = omega (arith, tally_split n xs i l, h n)

-- another order with the same number
pub distinct_set : (xs : List Standing) (i : ℕ) (y : Standing) → i < length xs → y.number ≡ (get_or xs i blank).number →
    Distinct xs → Distinct (slice_set xs i y)
distinct_set xs i y l e h n =
    let t : tally n (slice_set xs i y) ≡ cond (y.number == n) 1 0 + tally n (remove xs i) =
    ap (tally n) (set_split xs i y l) ∙ tally_middle n (take i xs) y (drop (suc i) xs) in
    let u : cond {A = ℕ} (y.number == n) 1 0 ≡ cond {A = ℕ} ((get_or xs i blank).number == n) 1 0 =
    ap (λ (k : ℕ). cond {A = ℕ} (k == n) 1 0) e in
    omega (arith, tally_split n xs i l, h n)

pub distinct_push : (xs : List Standing) (y : Standing) → Distinct xs → tally y.number xs ≡ 0 → Distinct (xs ++ y ∷ [])
distinct_push xs y h z n =
    let e = tally_append n xs (y ∷ []) in
    let k = h n in
    let w : y.number ≡ n → tally n xs ≡ 0 = λ q. sym (ap (λ m. tally m xs) q) ∙ z in
    grind (arith, nat_tests)

-- Orders by arrival as a packed book keeps them

abbrev pub Good : List Standing → Type 0
Good os = (length os ≤ 32) × (all_sound os ≡ true) × Distinct os

pub kept_push : (os : List Standing) → Good os → (o : Standing) → length os < 32 → sound o ≡ true → tally o.number os ≡ 0 → Good (os ++ o ∷ [])
kept_push os good o l s f = (
  omega (arith, length-append os (o ∷ [])),
  all_sound_push os o good.1 s,
  distinct_push os o good.2 f,
)

pub kept_removed : (os : List Standing) → Good os → (i : ℕ) → i < length os → Good (remove os i)
kept_removed os good i l = (
  omega (arith, length-remove os i l, good.0),
  (all_sound_split os i l good.1).1,
  distinct_removed os i l good.2,
)

pub kept_reduced : (os : List Standing) → Good os → (i : ℕ) → i < length os → (k : ℕ) → k < (get_or os i blank).shares →
    Good (slice_set os i (reduced (slice_index_or os i blank) k))
kept_reduced os good i l k m =
    let o = slice_index_or os i blank in
    let s = sound_reduced o k m (all_sound_split os i l good.1).0 in (
      omega (arith, length-set os i (reduced o k), good.0),
      all_sound_set os i (reduced o k) l good.1 s,
      distinct_set os i (reduced o k) l refl good.2,
    )
