-- The fields of a text are what std's split gives.
use Rattle.std.proofs.Common.{◌≡◌, ℕ, ◌<◌, Bool, true, false, cond, List, [], ◌∷◌, ◌++◌, length, sym, ap, refl, ◌∙◌, append_assoc, arith, eqb}
use Rattle.std.proofs.lemmas.List.{append-nil}
use Rattle.std.proofs.lemmas.List.Splits.{length-slice_split}
use Rattle.std.specs.List.{slice_split, onto_first}
use Rattle.text.specs.Lines.{cut_after}

abbrev blank_split : List ℕ → List (List ℕ)
blank_split xs = slice_split (λ b. eqb b 32) xs

-- some bytes before the first part
abbrev onto : List ℕ → List (List ℕ) → List (List ℕ)
onto begun [] = begun ∷ []
onto begun (part ∷ parts) = (begun ++ part) ∷ parts

onto_nothing : (parts : List (List ℕ)) → 0 < length parts → onto [] parts ≡ parts
onto_nothing [] h = absurd (omega arith)
onto_nothing (part ∷ parts) h = refl

onto_more : (begun : List ℕ) (x : ℕ) (parts : List (List ℕ)) → onto (begun ++ x ∷ []) parts ≡ onto begun (onto_first x parts)
onto_more begun x [] = refl
onto_more begun x (part ∷ parts) = ap (λ bs. bs ∷ parts) (append_assoc begun (x ∷ []) part)

either : (b : Bool) (begun : List ℕ) (p q r s : List (List ℕ)) → p ≡ onto begun r → q ≡ onto begun s → cond b p q ≡ onto begun (cond b r s)
either true begun p q r s blank other = blank
either false begun p q r s blank other = other

cut_onto : (begun xs : List ℕ) → cut_after begun xs ≡ onto begun (blank_split xs)
cut_onto begun [] = ap (λ bs. bs ∷ []) (sym (append-nil begun))
cut_onto begun (x ∷ xs) =
    let some : 0 < length (blank_split xs) = omega (arith, length-slice_split (λ b. eqb b 32) xs) in
    either (eqb x 32) begun (begun ∷ cut_after [] xs) (cut_after (begun ++ x ∷ []) xs) ([] ∷ blank_split xs) (onto_first x (blank_split xs))
    (rw (append-nil begun) (ap (λ parts. begun ∷ parts) (cut_onto [] xs ∙ onto_nothing (blank_split xs) some)))
    (cut_onto (begun ++ x ∷ []) xs ∙ onto_more begun x (blank_split xs))

pub cut_is_split : (xs : List ℕ) → slice_split (λ b. eqb b 32) xs ≡ cut_after [] xs
cut_is_split xs =
    let some : 0 < length (blank_split xs) = omega (arith, length-slice_split (λ b. eqb b 32) xs) in
    sym (cut_onto [] xs ∙ onto_nothing (blank_split xs) some)
