-- The law of every run: what holds of any market day, whatever was asked of it.
use Rattle.std.specs.Prelude.{◌≡◌, ℕ, ◌+◌, ◌<◌, ◌≤◌, Bool, true, false, cond, not, ◌&&◌, List, [], ◌∷◌, ◌++◌, Some, ◌==◌, nat_le}
use Rattle.books.specs.Arranging.{tally}
use Rattle.books.specs.Histories.{Each, Pairs}
use Rattle.books.specs.Lists.{find}
use Rattle.books.specs.declared.standing.Standing.{Standing}
use Rattle.market.specs.Calls.{State, fresh, shares_of}
use Rattle.market.specs.Quoting.{away_of}
use Rattle.matching.specs.Sets.{Rooms, own_list, own_rule, find_in}
use Rattle.market.specs.declared.phase.Phase.TheVariants.{Open}
use Rattle.matching.specs.Looking.{Books, best_in}
use Rattle.matching.specs.declared.trade.Trade.{Trade}
use Rattle.rules.specs.Better.{better}
use Rattle.rules.specs.Forms.{large}
use Rattle.rules.specs.Sides.{Rule, bids, asks}
use Rattle.rules.specs.declared.form.Form.{Form}
use Rattle.rules.specs.declared.sheet.DaySheet.{DaySheet}
use Rattle.rules.specs.declared.terms.SideName.{SideName}
use Rattle.runs.specs.Days.{Asked, Day, day, if_ok}
use Rattle.runs.specs.Tapes.{Tape, traded, replay_all, trades_in, form_of}
use Rattle.runs.specs.declared.call.Line.{Line}
use Rattle.runs.specs.declared.call.Line.TheVariants as line

-- A trade at its moment: in state s, after what the tape holds

-- a better price for an order that trades with a standing order of that side
abbrev pub is_better : State → SideName → (price : ℕ) → Bool
is_better s standing price =
    better (own_rule standing) s.increment (best_in (away_of s.quotes) s.books) price

pub record TradeAt (tape : Tape) (s : State) (t : Trade) : Type 0 where
  -- the standing order is one of ours, dark or displayed as the record says: on which side, and which
  pub side : SideName
  pub order : Standing
  pub stands : find t.standing (own_list side (not t.dark) s.books) ≡ Some order
  pub price : order.price ≡ t.price
  pub enough : t.shares ≤ order.shares
  -- the form that the active order was entered with
  pub form : Form
  pub entered : form_of tape t.active ≡ Some form
  -- with a dark order: the price comes before that of each displayed order on its side
  pub before_displayed : t.dark ≡ true → Each (λ o. (own_rule side).ahead t.price o.price ≡ true) (own_list side true s.books)
  -- and it is a better price for an active order that was small at its entry
  pub small_better : t.dark ≡ true → large form ≡ false → is_better s side t.price ≡ true

-- so is every trade, wherever the tape is cut
abbrev pub EveryTrade : (start : State) → Tape → Type 0
EveryTrade start tape =
    (before after : Tape) (t : Trade) → tape ≡ before ++ (traded t ∷ after) → TradeAt before (replay_all start before) t

-- Uncrossed

-- each displayed bid is below each displayed ask
abbrev pub BidsBelowAsks : Books → Type 0
BidsBelowAsks b = Each (λ bid. Each (λ ask. bid.price < ask.price) b.asks) b.bids

-- no displayed order meets an opposing dark order's price that is a better price for it
abbrev pub NoneMeets : State → Type 0
NoneMeets s =
    Each (λ ask. Each (λ dark. ask.price ≤ dark.price → better bids s.increment (best_in (away_of s.quotes) s.books) dark.price ≡ false) s.books.dark_bids) s.books.asks
    × Each (λ bid. Each (λ dark. dark.price ≤ bid.price → better asks s.increment (best_in (away_of s.quotes) s.books) dark.price ≡ false) s.books.dark_asks) s.books.bids

-- Every share accounted for

abbrev pub if_number : (a b : ℕ) → (shares : ℕ) → ℕ
if_number a b shares = cond (a == b) shares 0

-- the shares of the form that got the number
abbrev pub entered_in : (number : ℕ) → List Line → ℕ
entered_in n [] = 0
entered_in n (line.Entry terms class answer ∷ lines) = if_ok (λ a. if_number a.number n terms.shares) answer + entered_in n lines
entered_in n (line.Cancel number answer ∷ lines) = entered_in n lines
entered_in n (line.Notice m side price answer ∷ lines) = entered_in n lines
entered_in n (line.SetAside m answer ∷ lines) = entered_in n lines
entered_in n (line.Halt answer ∷ lines) = entered_in n lines
entered_in n (line.Resume answer ∷ lines) = entered_in n lines
entered_in n (line.Close answer ∷ lines) = entered_in n lines

-- what the answers to its entry and its cancels say
abbrev pub cancelled_in : (number : ℕ) → List Line → ℕ
cancelled_in n [] = 0
cancelled_in n (line.Entry terms class answer ∷ lines) = if_ok (λ a. if_number a.number n a.cancelled) answer + cancelled_in n lines
cancelled_in n (line.Cancel number answer ∷ lines) = if_ok (λ a. if_number number n a.shares) answer + cancelled_in n lines
cancelled_in n (line.Notice m side price answer ∷ lines) = cancelled_in n lines
cancelled_in n (line.SetAside m answer ∷ lines) = cancelled_in n lines
cancelled_in n (line.Halt answer ∷ lines) = cancelled_in n lines
cancelled_in n (line.Resume answer ∷ lines) = cancelled_in n lines
cancelled_in n (line.Close answer ∷ lines) = cancelled_in n lines

-- active or standing
abbrev pub traded_in : (number : ℕ) → List Trade → ℕ
traded_in n [] = 0
traded_in n (t ∷ ts) = if_number t.active n t.shares + if_number t.standing n t.shares + traded_in n ts

abbrev pub open_in : (number : ℕ) → Books → ℕ
open_in n books = shares_of (find_in n books)

-- How the books stand

-- x may stand before y: y's price does not come first, and at equal prices x got its number earlier
abbrev pub StandsBefore : Rule → (x y : Standing) → Type 0
StandsBefore rule x y = (rule.ahead y.price x.price ≡ false) × (x.price ≡ y.price → x.number < y.number)

abbrev pub tally_in : (number : ℕ) → Books → ℕ
tally_in n b = tally n b.bids + tally n b.asks + tally n b.dark_bids + tally n b.dark_asks

pub record Orderly (issued : ℕ) (b : Books) : Type 0 where
  pub bids_run : Pairs (StandsBefore bids) b.bids
  pub asks_run : Pairs (StandsBefore asks) b.asks
  pub dark_bids_run : Pairs (StandsBefore bids) b.dark_bids
  pub dark_asks_run : Pairs (StandsBefore asks) b.dark_asks
  -- no number stands twice in the four books, nor one that was not given: they are given from 1 on
  pub numbers : (n : ℕ) → tally_in n b ≤ cond (nat_le 1 n && nat_le n issued) 1 0

pub record Law (start : State) (d : Day) : Type 0 where
  -- the tape holds the trades that the calls wrote, and leads to the state that they left
  pub recorded : trades_in d.tape ≡ d.records
  pub replayed : replay_all start d.tape ≡ d.state
  pub trades : EveryTrade start d.tape
  pub bids_below_asks : BidsBelowAsks d.state.books
  pub none_meets : d.state.phase ≡ Open → NoneMeets d.state
  pub accounted : (n : ℕ) → entered_in n d.lines ≡ traded_in n d.records + open_in n d.state.books + cancelled_in n d.lines
  pub orderly : Orderly d.state.issued d.state.books

-- of a market over books of any number of places, after any calls with any lists lent
abbrev pub LawOfRuns : Type 0
LawOfRuns = (sheet : DaySheet) (rooms : Rooms) (asked : List Asked) → Law (fresh sheet rooms) (day (fresh sheet rooms) asked)
