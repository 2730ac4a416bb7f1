-- Which number each refusal has, and what a call answers that can be refused.
use Rattle.std.specs.Prelude.{ℕ, Bool, cond, Some, None, Ok, Err, Option, Result}
use Rattle.rules.specs.declared.refusal.Refusal.{Refusal}
use Rattle.rules.specs.declared.refusal.Refusal.TheVariants.{BadClosingPrice, NoOrderNumbers, BadPrice, BadQuantity, BadOrder, BookFull, BadTake, NotStanding, MarketClosed, MarketHalted, OtherClass, NumbersIssued, OwnBookFull, NoMarketplace, AlreadyAside, BadQuotePrice, WrongPhase, ShortTradeList}

abbrev pub refusal_number : Refusal → ℕ
refusal_number BadClosingPrice = 1
refusal_number NoOrderNumbers = 2
refusal_number BadPrice = 3
refusal_number BadQuantity = 4
refusal_number BadOrder = 5
refusal_number BookFull = 6
refusal_number BadTake = 7
refusal_number NotStanding = 8
refusal_number MarketClosed = 9
refusal_number MarketHalted = 10
refusal_number OtherClass = 11
refusal_number NumbersIssued = 12
refusal_number OwnBookFull = 13
refusal_number NoMarketplace = 14
refusal_number AlreadyAside = 15
refusal_number BadQuotePrice = 16
refusal_number WrongPhase = 17
refusal_number ShortTradeList = 18

-- checks that follow one another: the first that does not pass names the refusal
abbrev pub check : Bool → Refusal → Option Refusal → Option Refusal
check passes e later = cond passes later (Some e)

-- what a check answers that passes or refuses
abbrev pub passed : Option Refusal → Result (Unit {0}) Refusal
passed None = Ok tt
passed (Some e) = Err e

-- what a call answers: P holds of the value where no check refuses it, else Q of the refusal and the error
abbrev pub Answers : {X Y : Type 0} → Option Refusal → (X → Type 0) → (Refusal → Y → Type 0) → Result X Y → Type 0
Answers None P Q (Ok x) = P x
Answers None P Q (Err y) = ⊥
Answers (Some e) P Q (Ok x) = ⊥
Answers (Some e) P Q (Err y) = Q e y
