-- The day sheet, and the class that its closing price gives for the day.
use Rattle.std.specs.Prelude.{◌≡◌, ℕ, cond, ◌&&◌, None, Option, Result, nat_le}
use Rattle.rules.specs.Prices.{highest_price}
use Rattle.rules.specs.Refusals.{check, Answers}
use Rattle.rules.specs.declared.refusal.Refusal.{Refusal}
use Rattle.rules.specs.declared.refusal.Refusal.TheVariants.{BadClosingPrice, NoOrderNumbers}
use Rattle.rules.specs.declared.sheet.Class.{Class}
use Rattle.rules.specs.declared.sheet.DaySheet.{DaySheet}

abbrev pub sheet_refusal : (closing last : ℕ) → Option Refusal
sheet_refusal closing last =
    check (nat_le 1 closing && nat_le closing highest_price) BadClosingPrice (check (nat_le 1 last) NoOrderNumbers None)

abbrev pub Made : (closing last : ℕ) → Result DaySheet Refusal → Type 0
Made closing last =
    Answers (sheet_refusal closing last) (λ sheet. (sheet.closing ≡ closing) × (sheet.last ≡ last)) (λ e f. f ≡ e)

abbrev pub increment_at : (closing : ℕ) → ℕ
increment_at closing = cond (nat_le 200 closing) 4 2

abbrev pub unit_at : (closing : ℕ) → ℕ
unit_at closing = cond (nat_le 400 closing) 100 (cond (nat_le 40 closing) 500 1000)

abbrev pub ClassAt : (closing : ℕ) → Class → Type 0
ClassAt closing class = (class.increment ≡ increment_at closing) × (class.unit ≡ unit_at closing)
