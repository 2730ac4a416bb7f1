-- What callers of the form get.
use Rattle.std.specs.Prelude.{◌≡◌, ℕ, Bool, not, Result}
use Rattle.rules.specs.Forms.{form_refusal, large_at}
use Rattle.rules.specs.Refusals.{Answers}
use Rattle.rules.specs.Sheets.{increment_at, unit_at}
use Rattle.rules.specs.declared.form.Form.{Form}
use Rattle.rules.specs.declared.form.HandedBack.{HandedBack}
use Rattle.rules.specs.declared.refusal.Refusal.{Refusal}
use Rattle.rules.specs.declared.sheet.DaySheet.{DaySheet}
use Rattle.rules.specs.declared.terms.Terms.{Terms}

-- the same form again, or the refusal of the first step with that form
abbrev pub MovedAndBack : Form → (limit : ℕ) → Result Form HandedBack → Type 0
MovedAndBack form limit =
    Answers (form_refusal form.class.increment form.class.unit limit form.terms.shares)
    (λ again. (again.terms ≡ form.terms) × (again.class ≡ form.class))
    (λ e back. (back.refusal ≡ e) × (back.form ≡ form))

abbrev pub Sized : DaySheet → Terms → Result Bool Refusal → Type 0
Sized sheet terms =
    Answers (form_refusal (increment_at sheet.closing) (unit_at sheet.closing) terms.limit terms.shares)
    (λ small. small ≡ not (large_at (unit_at sheet.closing) terms.limit terms.shares))
    (λ e f. f ≡ e)
