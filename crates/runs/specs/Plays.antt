-- What playing a list of calls hands back.
use Rattle.std.specs.Prelude.{◌≡◌, ℕ, min, Bool, true, List, [], ◌∷◌, length}
use Rattle.market.specs.Calls.{State, fresh}
use Rattle.matching.specs.Sets.{Rooms}
use Rattle.market.specs.declared.trading.Market.{Market}
use Rattle.matching.specs.Looking.{Books}
use Rattle.matching.specs.declared.trade.Trade.{Trade}
use Rattle.rules.specs.declared.sheet.DaySheet.{DaySheet}
use Rattle.runs.specs.Days.{Asked, day}
use Rattle.runs.specs.Law.{Law}
use Rattle.runs.specs.Tapes.{Tape}
use Rattle.runs.specs.declared.call.Line.{Line}
use Rattle.runs.specs.declared.turn.Turn.{Turn}

-- the first calls of the turns, each lent as many records as its turn says, or as the caller's list has
abbrev pub FirstOf : (longest : ℕ) → List Asked → List Turn → Type 0
FirstOf longest [] turns = Unit {0}
FirstOf longest (a ∷ asked) [] = ⊥
FirstOf longest (a ∷ asked) (turn ∷ turns) =
    (a.call ≡ turn.call) × (length a.list ≡ min turn.lent longest) × FirstOf longest asked turns

-- from a state: which calls were made, and what is noted after them; all of them where memory sufficed
pub record Plays (start : State) (longest : ℕ) (turns : List Turn) (whole : Bool) (lines : List Line) (records : List Trade) (end : State) : Type 0 where
  pub asked : List Asked
  pub first : FirstOf longest asked turns
  pub all : whole ≡ true → length asked ≡ length turns
  pub lines_are : lines ≡ (day start asked).lines
  pub records_are : records ≡ (day start asked).records
  pub state_is : end ≡ (day start asked).state

-- the state of a market whose books hold these lists, and have so many places
abbrev pub state_with : {Q : Type 0} → Market Q → Books → Rooms → State
state_with market books rooms = record {
  increment = market.class.increment;
  unit = market.class.unit;
  last = market.last;
  issued = market.issued;
  phase = market.phase;
  quotes = market.quotes.quotes;
  aside = market.quotes.aside;
  books = books;
  rooms = rooms;
}

-- from the opening on: and the law holds of what is handed back
pub record PlaysDay (sheet : DaySheet) (rooms : Rooms) (longest : ℕ) (turns : List Turn) (whole : Bool) (lines : List Line) (records : List Trade) (end : State) : Type 0 where
  pub plays : Plays (fresh sheet rooms) longest turns whole lines records end
  pub tape : Tape
  pub tape_is : tape ≡ (day (fresh sheet rooms) plays.asked).tape
  pub law : Law (fresh sheet rooms) (record { lines = lines; records = records; tape = tape; state = end })
