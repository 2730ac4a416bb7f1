-- The order form: when it is refused, its bound, and whether it is large.
use Rattle.std.specs.Prelude.{◌≡◌, ℕ, ◌+◌, ◌-◌, ◌*◌, ◌/◌, Bool, ◌||◌, None, Option, Result, nat_lt}
use Rattle.rules.specs.Prices.{valid_price, valid_quantity}
use Rattle.rules.specs.Refusals.{check, Answers}
use Rattle.rules.specs.Sheets.{increment_at, unit_at, ClassAt}
use Rattle.rules.specs.declared.form.Form.{Form}
use Rattle.rules.specs.declared.form.HandedBack.{HandedBack}
use Rattle.rules.specs.declared.refusal.Refusal.{Refusal}
use Rattle.rules.specs.declared.refusal.Refusal.TheVariants.{BadPrice, BadQuantity}
use Rattle.rules.specs.declared.sheet.DaySheet.{DaySheet}
use Rattle.rules.specs.declared.terms.Kind.{Kind}
use Rattle.rules.specs.declared.terms.Kind.TheVariants.{Displayed, Dark, HalfStep}
use Rattle.rules.specs.declared.terms.SideName.{SideName}
use Rattle.rules.specs.declared.terms.SideName.TheVariants.{Bid, Ask}
use Rattle.rules.specs.declared.terms.Terms.{Terms}

abbrev pub form_refusal : (increment unit limit shares : ℕ) → Option Refusal
form_refusal increment unit limit shares =
    check (valid_price increment limit) BadPrice (check (valid_quantity unit shares) BadQuantity None)

-- a form for these terms that carries the sheet's class
abbrev pub Written : DaySheet → Terms → Result Form Refusal → Type 0
Written sheet terms =
    Answers (form_refusal (increment_at sheet.closing) (unit_at sheet.closing) terms.limit terms.shares)
    (λ form. (form.terms ≡ terms) × ClassAt sheet.closing form.class)
    (λ e f. f ≡ e)

abbrev pub with : Terms → (limit shares : ℕ) → Terms
with terms limit shares = record {
  side = terms.side;
  limit = limit;
  shares = shares;
  kind = terms.kind;
  immediate = terms.immediate;
  directed = terms.directed;
}

-- a form that differs in price and quantity alone, or the old form back
abbrev pub Restated : Form → (limit shares : ℕ) → Result Form HandedBack → Type 0
Restated old limit shares =
    Answers (form_refusal old.class.increment old.class.unit limit shares)
    (λ form. (form.terms ≡ with old.terms limit shares) × (form.class ≡ old.class))
    (λ e back. (back.refusal ≡ e) × (back.form ≡ old))

-- the limit; at a half step, half an increment below it for a buy and above it for a sale
abbrev pub bound_at : SideName → Kind → (increment limit : ℕ) → ℕ
bound_at side Displayed increment limit = limit
bound_at side Dark increment limit = limit
bound_at Bid HalfStep increment limit = limit - increment / 2
bound_at Ask HalfStep increment limit = limit + increment / 2

abbrev pub bound : Form → ℕ
bound form = bound_at form.terms.side form.terms.kind form.class.increment form.terms.limit

-- more than 50 units, or limit times shares above 100,000 dollars
abbrev pub large_at : (unit limit shares : ℕ) → Bool
large_at unit limit shares = nat_lt (50 * unit) shares || nat_lt 40000000 (limit * shares)

abbrev pub large : Form → Bool
large form = large_at form.class.unit form.terms.limit form.terms.shares
