-- Calls on a market of increment 4 and unit 100: what each is answered, the trades that it makes, and the books after it.
use Rattle.std.specs.Prelude.{◌≡◌, ℕ, Bool, true, false, not, ◌&&◌, List, [], ◌∷◌, length, Some, None, Ok, Err, Option, Result, ◌==◌, nat_eq, refl}
use Rattle.std.proofs.Common.{lit≤}
use Rattle.books.specs.declared.standing.Standing.{Standing}
use Rattle.market.specs.Calls.{State, Done, fresh, entered, cancelled, noticed}
use Rattle.matching.specs.Sets.{Rooms}
use Rattle.market.specs.declared.answers.Cancelled.{Cancelled}
use Rattle.market.specs.declared.answers.Entered.{Entered}
use Rattle.matching.specs.Looking.{Books}
use Rattle.matching.specs.Ways.{way_number}
use Rattle.matching.specs.declared.trade.Trade.{Trade}
use Rattle.matching.specs.declared.way.Way.{Way}
use Rattle.matching.specs.declared.way.Way.TheVariants.{Booked}
use Rattle.rules.specs.Prices.{valid_price, valid_quantity}
use Rattle.rules.specs.declared.form.Form.{Form}
use Rattle.rules.specs.declared.refusal.Refusal.{Refusal}
use Rattle.rules.specs.declared.sheet.Class.{Class}
use Rattle.rules.specs.declared.sheet.DaySheet.{DaySheet}
use Rattle.rules.specs.declared.terms.Kind.{Kind}
use Rattle.rules.specs.declared.terms.SideName.{SideName}
use Rattle.rules.specs.declared.terms.SideName.TheVariants.{Bid, Ask}
use Rattle.rules.specs.declared.terms.Terms.{Terms}

-- The market

abbrev sheet : DaySheet
sheet = record { closing = 4000; last = 1000; priced = lit≤ tt; within = lit≤ tt; numbered = lit≤ tt }

abbrev rooms : Rooms
rooms = record { bids = 32; asks = 32; dark_bids = 32; dark_asks = 32 }

abbrev pub opened : State
opened = fresh sheet rooms

-- the records of the list that each call is lent
abbrev list : ℕ
list = 128

-- Forms

abbrev class : Class
class = record {
  increment = 4;
  unit = 100;
  halved = refl;
  least = lit≤ tt;
  most = lit≤ tt;
  lot = lit≤ tt;
  largest_lot = lit≤ tt;
}

pub data Mark : Type 0 where
  plain : Mark
  immediate : Mark
  directed : Mark

abbrev is_immediate : Mark → Bool
is_immediate plain = false
is_immediate immediate = true
is_immediate directed = false

abbrev is_directed : Mark → Bool
is_directed plain = false
is_directed immediate = false
is_directed directed = true

abbrev terms : SideName → Kind → Mark → (limit shares : ℕ) → Terms
terms side kind mark limit shares = record {
  side = side;
  limit = limit;
  shares = shares;
  kind = kind;
  immediate = is_immediate mark;
  directed = is_directed mark;
}

abbrev pub buy : Kind → Mark → (limit shares : ℕ) → Terms
buy = terms Bid

abbrev pub sale : Kind → Mark → (limit shares : ℕ) → Terms
sale = terms Ask

-- the form for these terms, where price and quantity are valid
abbrev written : (t : Terms) (p q : Bool) → valid_price 4 t.limit ≡ p → valid_quantity 100 t.shares ≡ q → Option Form
written t true true priced sized = Some record { terms = t; class = class; priced = priced; sized = sized }
written t true false priced sized = None
written t false q priced sized = None

abbrev form : Terms → Option Form
form t = written t (valid_price 4 t.limit) (valid_quantity 100 t.shares) refl refl

-- Calls, each with its answer and its trades, and the books at some moments

pub data Turn : Type 0 where
  enters : Terms → (number traded booked cancelled : ℕ) → Way → List Trade → Turn
  cancels : (number shares : ℕ) → List Trade → Turn
  notices : (marketplace : ℕ) → SideName → Option ℕ → List Trade → Turn
  leaves : Books → Turn

-- a quote that trades nothing, and an order that is booked whole
abbrev pub quotes : (marketplace : ℕ) → SideName → (price : ℕ) → Turn
quotes m side price = notices m side (Some price) []

abbrev pub stands : (number : ℕ) → Terms → Turn
stands number t = enters t number 0 t.shares 0 Booked []

abbrev pub displayed : (active standing price shares : ℕ) → Trade
displayed active standing price shares = record { active = active; standing = standing; price = price; shares = shares; dark = false }

abbrev pub dark : (active standing price shares : ℕ) → Trade
dark active standing price shares = record { active = active; standing = standing; price = price; shares = shares; dark = true }

abbrev pub order : (number price shares : ℕ) → Standing
order number price shares = record { number = number; price = price; shares = shares }

-- The test

abbrev same : Bool → Bool → Bool
same true b = b
same false b = not b

abbrev same_list : {X : Type 0} → (X → X → Bool) → List X → List X → Bool
same_list test [] [] = true
same_list test [] (y ∷ ys) = false
same_list test (x ∷ xs) [] = false
same_list test (x ∷ xs) (y ∷ ys) = test x y && same_list test xs ys

abbrev same_trade : Trade → Trade → Bool
same_trade a b =
    (a.active == b.active) && a.standing == b.standing && a.price == b.price && a.shares == b.shares
    && same a.dark b.dark

abbrev same_order : Standing → Standing → Bool
same_order a b = a.number == b.number && a.price == b.price && a.shares == b.shares

abbrev same_books : Books → Books → Bool
same_books a b =
    same_list same_order a.bids b.bids && same_list same_order a.asks b.asks
    && same_list same_order a.dark_bids b.dark_bids && same_list same_order a.dark_asks b.dark_asks

abbrev passes : {X : Type 0} → (X → Bool) → Result X Refusal → Bool
passes test (Ok x) = test x
passes test (Err e) = false

-- the call is taken, its answer passes, and its trades are these
abbrev comes_out : {X : Type 0} → (X → Bool) → List Trade → Done X → Bool
comes_out test trades done = passes test done.answer && same_list same_trade done.trades trades

abbrev same_entered : Entered → Entered → Bool
same_entered a b =
    (a.number == b.number) && a.traded == b.traded && a.booked == b.booked
    && a.cancelled == b.cancelled && way_number a.way == way_number b.way && a.trades == b.trades

abbrev same_cancelled : Cancelled → Cancelled → Bool
same_cancelled a b = a.shares == b.shares && a.trades == b.trades

-- one call: whether it comes out so, and the state after it

pub record Taken : Type 0 where
  pub as_said : Bool
  pub state : State

abbrev taken : {X : Type 0} → (X → Bool) → List Trade → Done X → Taken
taken test trades done = record { as_said = comes_out test trades done; state = done.state }

abbrev entry_taken : State → Option Form → Entered → List Trade → Taken
entry_taken s (Some f) answer trades = taken (same_entered answer) trades (entered s f list)
entry_taken s None answer trades = record { as_said = false; state = s }

abbrev turn : State → Turn → Taken
turn s (enters t number traded booked cancelled way trades) =
    entry_taken s (form t)
    record { number = number; traded = traded; booked = booked; cancelled = cancelled; way = way; trades = length trades } trades
turn s (cancels number shares trades) =
    taken (same_cancelled record { shares = shares; trades = length trades }) trades (cancelled s number list)
turn s (notices m side price trades) = taken (nat_eq (length trades)) trades (noticed s m side price list)
turn s (leaves books) = record { as_said = same_books s.books books; state = s }

abbrev pub run_holds : State → List Turn → Bool
run_holds s [] = true
run_holds s (t ∷ ts) = (turn s t).as_said && run_holds (turn s t).state ts
