-- A list of which only the first n elements are lent keeps the others.
use Rattle.std.proofs.Common.{◌≡◌, ℕ, ◌-◌, ◌<◌, ◌≤◌, min, List, ◌++◌, length, take, drop, sym, ap, ◌∙◌, ⊎_elim, arith}
use Rattle.std.proofs.lemmas.List.{length-take, length-append, length-drop, drop_all, drop_at}
use Rattle.std.proofs.lemmas.Bool.{cases_lt}

pub untouched : {X : Type 0} (n e : ℕ) (xs ys : List X) → e ≡ min (length xs) n → length ys ≡ length (take (e - 0) xs) → drop n (ys ++ drop (e - 0) xs) ≡ drop n xs
untouched n e xs ys is same =
    let many : length ys ≡ e = omega (arith, is, same, length-take (e - 0) xs) in
    let short : length xs < n → drop n (ys ++ drop (e - 0) xs) ≡ drop n xs = λ h.
    drop_all n (ys ++ drop (e - 0) xs) (omega (arith, is, many, length-append ys (drop (e - 0) xs), length-drop (e - 0) xs))
    ∙ sym (drop_all n xs (omega arith)) in
    let long : n ≤ length xs → drop n (ys ++ drop (e - 0) xs) ≡ drop n xs = λ h.
    let cut : e - 0 ≡ n = omega (arith, is) in
    drop_at ys (drop (e - 0) xs) n (omega (arith, is, many)) ∙ ap (λ k. drop k xs) cut in
    ⊎_elim short long (cases_lt (length xs) n)
