-- How a line is read. A line is a list of bytes that ends with a line feed (10).
use Rattle.std.specs.Prelude.{◌≡◌, ℕ, ◌-◌, Bool, true, false, cond, ◌&&◌, ◌||◌, List, [], ◌∷◌, ◌++◌, map, length, take, vec_items, ◌==◌, nat_lt, slice_index}
use Rattle.text.specs.declared.line.Line.{Line}
use Rattle.text.specs.declared.line.Line.TheVariants.{Quiet, Unended, Fields}

-- the fields of a text that is cut at each blank (32), where the first has begun with some bytes
abbrev pub cut_after : (begun : List ℕ) → List ℕ → List (List ℕ)
cut_after begun [] = begun ∷ []
cut_after begun (b ∷ bs) = cond (b == 32) (begun ∷ cut_after [] bs) (cut_after (begun ++ b ∷ []) bs)

-- the last byte is a line feed
abbrev pub ended : List ℕ → Bool
ended bytes = nat_lt 0 (length bytes) && slice_index bytes (length bytes - 1) == 10

abbrev pub body_of : List ℕ → List ℕ
body_of bytes = take (length bytes - 1) bytes

-- nothing, or what begins with # (35)
abbrev pub quiet : List ℕ → Bool
quiet body = length body == 0 || slice_index body 0 == 35

abbrev pub Reads : List ℕ → Line → Type 0
Reads bytes Unended = ended bytes ≡ false
Reads bytes Quiet = (ended bytes ≡ true) × (quiet (body_of bytes) ≡ true)
Reads bytes (Fields v) =
    (ended bytes ≡ true) × (quiet (body_of bytes) ≡ false)
    × (map (λ field. field.now) (vec_items v) ≡ cut_after [] (body_of bytes))
