-- How a field is read: a number, a price, and the marks of an order. A field is a list of bytes.
use Rattle.std.specs.Prelude.{ℕ, ◌+◌, ◌-◌, ◌*◌, ◌^◌, Bool, true, false, cond, ◌&&◌, List, [], ◌∷◌, length, codes, option_map, Some, None, Option, ◌==◌, nat_le, nat_lt}
use Rattle.std.specs.Cmp.Lexicographic.{pointwise}
use Rattle.rules.specs.declared.terms.Kind.{Kind}
use Rattle.rules.specs.declared.terms.Kind.TheVariants.{Displayed, Dark, HalfStep}
use Rattle.rules.specs.declared.terms.SideName.{SideName}
use Rattle.rules.specs.declared.terms.Terms.{Terms}
use Rattle.text.specs.declared.fields.Marks.{Marks}

abbrev pub is_digit : ℕ → Bool
is_digit b = nat_le 48 b && nat_le b 57

-- the value of decimal digits, after those whose value is n
abbrev pub digits_after : (n : ℕ) → List ℕ → Option ℕ
digits_after n [] = Some n
digits_after n (b ∷ bs) = cond (is_digit b) (digits_after (n * 10 + (b - 48)) bs) None

abbrev pub within_32_bits : Option ℕ → Option ℕ
within_32_bits None = None
within_32_bits (Some n) = cond (nat_lt n (2 ^ 32)) (Some n) None

-- one to ten decimal digits whose value fits 32 bits
abbrev pub number_in : List ℕ → Option ℕ
number_in bs = cond (nat_le 1 (length bs) && nat_le (length bs) 10) (within_32_bits (digits_after 0 bs)) None

-- a number, or none
abbrev pub price_in : List ℕ → Option (Option ℕ)
price_in bs = cond (pointwise ◌==◌ bs (codes "none")) (Some None) (option_map Some (number_in bs))

abbrev pub marked : Kind → Bool → Bool → Option Marks
marked kind immediate directed = Some record { kind = kind; immediate = immediate; directed = directed }

-- then perhaps I (73), then perhaps A (65)
abbrev pub marks_after : Kind → List ℕ → Option Marks
marks_after kind [] = marked kind false false
marks_after kind (b ∷ []) = cond (b == 73) (marked kind true false) (cond (b == 65) (marked kind false true) None)
marks_after kind (b ∷ c ∷ []) = cond (b == 73 && c == 65) (marked kind true true) None
marks_after kind (b ∷ c ∷ d ∷ bs) = None

-- one of L (76) displayed, K (75) dark and H (72) dark at a half step
abbrev pub marks_in : List ℕ → Option Marks
marks_in [] = None
marks_in (b ∷ bs) =
    cond (b == 76) (marks_after Displayed bs)
    (cond (b == 75) (marks_after Dark bs) (cond (b == 72) (marks_after HalfStep bs) None))

-- the terms of an order on this side, where each of its fields can be read
abbrev pub terms_of : SideName → (limit shares : Option ℕ) → Option Marks → Option Terms
terms_of side None shares marks = None
terms_of side (Some limit) None marks = None
terms_of side (Some limit) (Some shares) None = None
terms_of side (Some limit) (Some shares) (Some marks) = Some record {
  side = side;
  limit = limit;
  shares = shares;
  kind = marks.kind;
  immediate = marks.immediate;
  directed = marks.directed;
}

abbrev pub terms_in : SideName → (price shares marks : List ℕ) → Option Terms
terms_in side price shares marks = terms_of side (number_in price) (number_in shares) (marks_in marks)
