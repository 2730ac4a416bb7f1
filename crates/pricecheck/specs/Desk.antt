-- What is answered to a command under the day sheet in force, and which sheet is in force after it.
use Rattle.std.specs.Prelude.{◌≡◌, ℕ, Some, None, Ok, Err, Option, Result}
use Rattle.rules.specs.Better.{threshold}
use Rattle.rules.specs.Forms.{form_refusal, bound_at, large_at}
use Rattle.rules.specs.Sheets.{sheet_refusal, increment_at, unit_at}
use Rattle.rules.specs.Sides.{bids, asks}
use Rattle.rules.specs.declared.price.Quote.{Quote}
use Rattle.rules.specs.declared.refusal.Refusal.{Refusal}
use Rattle.rules.specs.declared.sheet.DaySheet.{DaySheet}
use Rattle.rules.specs.declared.terms.Terms.{Terms}
use Rattle.pricecheck.specs.declared.answer.Answer.{Answer}
use Rattle.pricecheck.specs.declared.answer.Answer.TheVariants.{Day as DayAnswer, Better, Form as FormAnswer}
use Rattle.pricecheck.specs.declared.answer.Denial.{Denial}
use Rattle.pricecheck.specs.declared.answer.Denial.TheVariants.{NoDay, Refused}
use Rattle.pricecheck.specs.declared.command.Command.{Command}
use Rattle.pricecheck.specs.declared.command.Command.TheVariants.{Day, Best, Form}

abbrev pub unless_refused : Option Refusal → Answer → Result Answer Denial
unless_refused None answer = Ok answer
unless_refused (Some e) answer = Err (Refused e)

abbrev pub better_answer : (increment : ℕ) → Quote → Answer
better_answer increment best = Better (threshold bids increment best) (threshold asks increment best)

abbrev pub form_answer : (increment unit : ℕ) → Terms → Result Answer Denial
form_answer increment unit terms =
    unless_refused (form_refusal increment unit terms.limit terms.shares)
    (FormAnswer (bound_at terms.side terms.kind increment terms.limit) (large_at unit terms.limit terms.shares))

-- the sheet that is in force after a day line: that one, or none where it is refused
abbrev pub InForce : Option Refusal → (closing last : ℕ) → Option DaySheet → Type 0
InForce None closing last None = ⊥
InForce None closing last (Some sheet) = (sheet.closing ≡ closing) × (sheet.last ≡ last)
InForce (Some e) closing last day = day ≡ None

abbrev pub Opens : (closing last : ℕ) → Option DaySheet → Result Answer Denial → Type 0
Opens closing last day answer =
    (answer ≡ unless_refused (sheet_refusal closing last) (DayAnswer (increment_at closing) (unit_at closing)))
    × InForce (sheet_refusal closing last) closing last day

abbrev pub Responds : Option DaySheet → Command → Option DaySheet → Result Answer Denial → Type 0
Responds day (Day closing last) after answer = Opens closing last after answer
Responds None (Best best) after answer = (after ≡ None) × (answer ≡ Err NoDay)
Responds (Some sheet) (Best best) after answer =
    (after ≡ Some sheet) × (answer ≡ Ok (better_answer (increment_at sheet.closing) best))
Responds None (Form terms) after answer = (after ≡ None) × (answer ≡ Err NoDay)
Responds (Some sheet) (Form terms) after answer =
    (after ≡ Some sheet) × (answer ≡ form_answer (increment_at sheet.closing) (unit_at sheet.closing) terms)
