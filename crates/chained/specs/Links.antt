-- Chains of indices, and walks along them.
use Rattle.std.specs.Prelude.{ℕ, zero, suc, ◌+◌, Bool, cond, List, [], ◌∷◌, ◌==◌}

-- the indices that f leads to from s, up to the first 0, and n at most
abbrev pub links : (n : ℕ) → (f : ℕ → ℕ) → (s : ℕ) → List ℕ
links zero f s = []
links (suc n) f s = cond (s == 0) [] (s ∷ links n f (f s))

-- how often k stands in a list
abbrev pub times : (k : ℕ) → List ℕ → ℕ
times k [] = 0
times k (x ∷ xs) = cond (k == x) 1 0 + times k xs

-- the first index that passes, or 0
abbrev pub first : (passes : ℕ → Bool) → List ℕ → ℕ
first passes [] = 0
first passes (x ∷ xs) = cond (passes x) x (first passes xs)

-- the index before that one, or the last where none passes; s stands before them all
abbrev pub stop : (passes : ℕ → Bool) → (s : ℕ) → List ℕ → ℕ
stop passes s [] = s
stop passes s (x ∷ xs) = cond (passes x) s (stop passes x xs)
