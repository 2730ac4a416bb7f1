-- What happens in a market, one thing after another, and the state that it leaves. Nothing here decides anything:
-- a tape says which trades were made, and replaying it takes their shares from the orders that they name.
use Rattle.std.specs.Prelude.{ℕ, Bool, true, false, cond, List, [], ◌∷◌, Some, None, Option, ◌==◌}
use Rattle.books.specs.Lists.{put, less}
use Rattle.books.specs.declared.standing.Standing.{Standing}
use Rattle.market.specs.Calls.{State, with_books, with_issued, with_phase, with_quotes}
use Rattle.market.specs.Quoting.{quoted, dropped, with_aside}
use Rattle.matching.specs.Sets.{without_in}
use Rattle.market.specs.declared.phase.Phase.{Phase}
use Rattle.matching.specs.Looking.{Books}
use Rattle.matching.specs.declared.trade.Trade.{Trade}
use Rattle.rules.specs.Sides.{bids, asks}
use Rattle.rules.specs.declared.form.Form.{Form}
use Rattle.rules.specs.declared.terms.SideName.{SideName}
use Rattle.rules.specs.declared.terms.SideName.TheVariants.{Bid, Ask}

pub data Happening : Type 0 where
  -- the form gets its number
  numbered : (number : ℕ) → Form → Happening
  traded : Trade → Happening
  -- a rest stands from now on, among the displayed or the dark orders of its side
  booked : SideName → (displayed : Bool) → Standing → Happening
  -- an order goes by a cancel
  withdrawn : (number : ℕ) → Happening
  noticed : (marketplace : ℕ) → SideName → (price : Option ℕ) → Happening
  set_aside : (marketplace : ℕ) → Happening
  moved : Phase → Happening

-- the order with that number has so many shares fewer, and goes where none is left
abbrev pub lowered : (number shares : ℕ) → List Standing → List Standing
lowered number shares [] = []
lowered number shares (o ∷ os) =
    cond (o.number == number) (less (o ∷ os) shares) (o ∷ lowered number shares os)

-- an order that trades as it is entered stands nowhere yet
abbrev pub after_trade : Trade → List Standing → List Standing
after_trade t orders = lowered t.standing t.shares (lowered t.active t.shares orders)

abbrev pub trade_made : Trade → Books → Books
trade_made t b = record {
  bids = after_trade t b.bids;
  asks = after_trade t b.asks;
  dark_bids = after_trade t b.dark_bids;
  dark_asks = after_trade t b.dark_asks;
}

abbrev pub with_booked : SideName → (displayed : Bool) → Standing → Books → Books
with_booked Bid true o b = record { bids = put bids o b.bids; asks = b.asks; dark_bids = b.dark_bids; dark_asks = b.dark_asks }
with_booked Ask true o b = record { bids = b.bids; asks = put asks o b.asks; dark_bids = b.dark_bids; dark_asks = b.dark_asks }
with_booked Bid false o b = record { bids = b.bids; asks = b.asks; dark_bids = put bids o b.dark_bids; dark_asks = b.dark_asks }
with_booked Ask false o b = record { bids = b.bids; asks = b.asks; dark_bids = b.dark_bids; dark_asks = put asks o b.dark_asks }

abbrev pub replay : State → Happening → State
replay s (numbered number form) = with_issued s number
replay s (traded t) = with_books s (trade_made t s.books)
replay s (booked side displayed o) = with_books s (with_booked side displayed o s.books)
replay s (withdrawn number) = with_books s (without_in number s.books)
replay s (noticed m side price) = with_quotes s (quoted m side price s.quotes) s.aside
replay s (set_aside m) = with_quotes s (dropped m s.quotes) (with_aside m s.aside)
replay s (moved phase) = with_phase s phase

abbrev pub Tape : Type 0
Tape = List Happening

abbrev pub replay_all : State → Tape → State
replay_all s [] = s
replay_all s (h ∷ tape) = replay_all (replay s h) tape

abbrev pub trades_in : Tape → List Trade
trades_in [] = []
trades_in (numbered number form ∷ tape) = trades_in tape
trades_in (traded t ∷ tape) = t ∷ trades_in tape
trades_in (booked side displayed o ∷ tape) = trades_in tape
trades_in (withdrawn number ∷ tape) = trades_in tape
trades_in (noticed m side price ∷ tape) = trades_in tape
trades_in (set_aside m ∷ tape) = trades_in tape
trades_in (moved phase ∷ tape) = trades_in tape

abbrev pub first_form : (a b : Option Form) → Option Form
first_form None b = b
first_form (Some form) b = Some form

abbrev pub form_in : Happening → (number : ℕ) → Option Form
form_in (numbered given form) number = cond (given == number) (Some form) None
form_in (traded t) number = None
form_in (booked side displayed o) number = None
form_in (withdrawn other) number = None
form_in (noticed m side price) number = None
form_in (set_aside m) number = None
form_in (moved phase) number = None

-- the form that got that number, if it was given
abbrev pub form_of : Tape → (number : ℕ) → Option Form
form_of [] number = None
form_of (h ∷ tape) number = first_form (form_of tape number) (form_in h number)
