-- What each call of a market answers, the state that it leaves, and the trades that it makes.
use Rattle.std.specs.Prelude.{◌≡◌, ℕ, ◌+◌, ◌-◌, Bool, true, false, not, ◌&&◌, ◌||◌, List, [], ◌++◌, length, replicate, is_some, Some, None, Ok, Err, Option, Result, ◌==◌, count_ones, nat_le, nat_lt}
use Rattle.books.specs.Lists.{shares_at}
use Rattle.books.specs.declared.standing.Standing.{Standing}
use Rattle.market.specs.Quoting.{is_marketplace, no_quote, away_of, quoted, dropped, is_aside, with_aside}
use Rattle.matching.specs.Sets.{Rooms, empty_books, own_list, room_left, placed_in, seen_from, find_in, without_in, open_shares}
use Rattle.market.specs.declared.answers.Aside.{Aside}
use Rattle.market.specs.declared.answers.Cancelled.{Cancelled}
use Rattle.market.specs.declared.answers.Entered.{Entered}
use Rattle.market.specs.declared.phase.Phase.{Phase}
use Rattle.market.specs.declared.phase.Phase.TheVariants.{Open, Halted, Closed}
use Rattle.matching.specs.Looking.{Books, best_in, ours_in, standing_in, looked}
use Rattle.matching.specs.Placing.{Placed}
use Rattle.matching.specs.Trades.{Steps}
use Rattle.matching.specs.Ways.{way_booked, way_cancelled}
use Rattle.matching.specs.declared.candidate.Entry.{Entry}
use Rattle.matching.specs.declared.trade.Trade.{Trade}
use Rattle.rules.specs.Better.{on}
use Rattle.rules.specs.Forms.{bound, large}
use Rattle.rules.specs.Prices.{valid_price}
use Rattle.rules.specs.Refusals.{check}
use Rattle.rules.specs.Sheets.{increment_at, unit_at}
use Rattle.rules.specs.declared.form.Form.{Form}
use Rattle.rules.specs.declared.form.HandedBack.{HandedBack}
use Rattle.rules.specs.declared.price.BestPrices.{BestPrices}
use Rattle.rules.specs.declared.price.Quote.{Quote}
use Rattle.rules.specs.declared.refusal.Refusal.{Refusal}
use Rattle.rules.specs.declared.refusal.Refusal.TheVariants.{MarketClosed, MarketHalted, OtherClass, NumbersIssued, OwnBookFull, NotStanding, NoMarketplace, AlreadyAside, BadQuotePrice, WrongPhase, ShortTradeList}
use Rattle.rules.specs.declared.sheet.DaySheet.{DaySheet}
use Rattle.rules.specs.declared.terms.Kind.{Kind}
use Rattle.rules.specs.declared.terms.Kind.TheVariants.{Displayed, Dark, HalfStep}
use Rattle.rules.specs.declared.terms.SideName.{SideName}

pub record State : Type 0 where
  pub increment : ℕ
  pub unit : ℕ
  pub last : ℕ
  -- the order numbers given so far
  pub issued : ℕ
  pub phase : Phase
  pub quotes : List Quote
  pub aside : ℕ
  pub books : Books
  pub rooms : Rooms

abbrev pub fresh : DaySheet → Rooms → State
fresh sheet rooms = record {
  increment = increment_at sheet.closing;
  unit = unit_at sheet.closing;
  last = sheet.last;
  issued = 0;
  phase = Open;
  quotes = replicate 8 no_quote;
  aside = 0;
  books = empty_books;
  rooms = rooms;
}

-- the state with other books, and so on
abbrev pub with_books : State → Books → State
with_books s books = record { increment = s.increment; unit = s.unit; last = s.last; issued = s.issued; phase = s.phase; quotes = s.quotes; aside = s.aside; books = books; rooms = s.rooms }

abbrev pub with_issued : State → ℕ → State
with_issued s n = record { increment = s.increment; unit = s.unit; last = s.last; issued = n; phase = s.phase; quotes = s.quotes; aside = s.aside; books = s.books; rooms = s.rooms }

abbrev pub with_phase : State → Phase → State
with_phase s phase = record { increment = s.increment; unit = s.unit; last = s.last; issued = s.issued; phase = phase; quotes = s.quotes; aside = s.aside; books = s.books; rooms = s.rooms }

abbrev pub with_quotes : State → List Quote → (aside : ℕ) → State
with_quotes s quotes aside = record { increment = s.increment; unit = s.unit; last = s.last; issued = s.issued; phase = s.phase; quotes = quotes; aside = aside; books = s.books; rooms = s.rooms }

-- what a call answers, leaves and trades; where it is refused, everything stays
pub record Done (X : Type 0) : Type 0 where
  pub answer : Result X Refusal
  pub state : State
  pub trades : List Trade

abbrev pub unless : {X : Type 0} → Option Refusal → State → Done X → Done X
unless None s done = done
unless (Some e) s done = record { answer = Err e; state = s; trades = [] }

-- Checks

abbrev pub not_closed : Phase → Bool
not_closed Open = true
not_closed Halted = true
not_closed Closed = false

abbrev pub not_halted : Phase → Bool
not_halted Open = true
not_halted Halted = false
not_halted Closed = true

-- all calls but questions come first, the caller's list of n records last
abbrev pub first_checked : State → Option Refusal → Option Refusal
first_checked s later = check (not_closed s.phase) MarketClosed later

abbrev pub list_checked : State → (n : ℕ) → Option Refusal
list_checked s n = check (nat_le (standing_in s.books) n) ShortTradeList None

-- Looking over, which only an open market does

abbrev pub away_at : State → BestPrices
away_at s = record { increment = s.increment; quote = away_of s.quotes }

abbrev pub look_in : Phase → (increment : ℕ) → (away : Quote) → Books → Steps Books
look_in Open increment away books = looked increment away books
look_in Halted increment away books = record { trades = []; state = books }
look_in Closed increment away books = record { trades = []; state = books }

abbrev pub look : State → Steps Books
look s = look_in s.phase s.increment (away_of s.quotes) s.books

-- the end of a call that looks over: the answer is told the count of trades
abbrev pub then_look : {X : Type 0} → State → (ℕ → X) → Done X
then_look s answer = record {
  answer = Ok (answer (length (look s).trades));
  state = with_books s (look s).state;
  trades = (look s).trades;
}

-- Entry

abbrev pub is_displayed : Kind → Bool
is_displayed Displayed = true
is_displayed Dark = false
is_displayed HalfStep = false

abbrev pub entry_of : Form → (number : ℕ) → Entry
entry_of form number = record {
  number = number;
  bound = bound form;
  shares = form.terms.shares;
  large = large form;
  immediate = form.terms.immediate;
  directed = form.terms.directed;
  displayed = is_displayed form.terms.kind;
}

abbrev pub entry_checks : Phase → (increment unit issued last : ℕ) → (room listed : Bool) → Form → Option Refusal
entry_checks phase increment unit issued last room listed form =
    check (not_closed phase) MarketClosed
    (check (not_halted phase) MarketHalted
    (check (form.class.increment == increment && form.class.unit == unit) OtherClass
    (check (nat_lt issued last) NumbersIssued
    (check (form.terms.immediate || room) OwnBookFull (check listed ShortTradeList None)))))

abbrev pub entry_refusal : State → Form → (n : ℕ) → Option Refusal
entry_refusal s form n =
    entry_checks s.phase s.increment s.unit s.issued s.last
    (room_left form.terms.side (is_displayed form.terms.kind) s.rooms s.books) (nat_le (standing_in s.books) n) form

abbrev pub placed_at : State → Form → Placed
placed_at s form =
    placed_in form.terms.side s.increment (away_of s.quotes) s.rooms (entry_of form (s.issued + 1)) s.books

abbrev pub booked_at : State → Form → Placed → State
booked_at s form p = with_books (with_issued s (s.issued + 1)) (seen_from form.terms.side p.view)

abbrev pub entry_answer : Form → (number : ℕ) → Placed → Steps Books → Entered
entry_answer form number p l = record {
  number = number;
  traded = form.terms.shares - p.rest;
  booked = way_booked p.way p.rest;
  cancelled = way_cancelled p.way p.rest;
  way = p.way;
  trades = length p.trades + length l.trades;
}

abbrev pub entered_by : State → Form → Placed → Steps Books → Done Entered
entered_by s form p l = record {
  answer = Ok (entry_answer form (s.issued + 1) p l);
  state = with_books (booked_at s form p) l.state;
  trades = p.trades ++ l.trades;
}

abbrev pub entered_at : State → Form → Done Entered
entered_at s form =
    entered_by s form (placed_at s form) (looked s.increment (away_of s.quotes) (booked_at s form (placed_at s form)).books)

abbrev pub entered : State → Form → (n : ℕ) → Done Entered
entered s form n = unless (entry_refusal s form n) s (entered_at s form)

-- Cancel

abbrev pub cancel_refusal : State → (number n : ℕ) → Option Refusal
cancel_refusal s number n =
    first_checked s (check (is_some (find_in number s.books)) NotStanding (list_checked s n))

abbrev pub shares_of : Option Standing → ℕ
shares_of None = 0
shares_of (Some o) = o.shares

abbrev pub cancelled : State → (number n : ℕ) → Done Cancelled
cancelled s number n =
    unless (cancel_refusal s number n) s
    (then_look (with_books s (without_in number s.books)) (λ k. record { shares = shares_of (find_in number s.books); trades = k }))

-- Quote notice and set-aside

abbrev pub valid_quote : (increment : ℕ) → Option ℕ → Bool
valid_quote increment None = true
valid_quote increment (Some p) = valid_price increment p

abbrev pub marketplace_checks : Phase → (aside m : ℕ) → Option Refusal → Option Refusal
marketplace_checks phase aside m later =
    check (not_closed phase) MarketClosed (check (is_marketplace m) NoMarketplace (check (not (is_aside m aside)) AlreadyAside later))

abbrev pub marketplace_checked : State → (m : ℕ) → Option Refusal → Option Refusal
marketplace_checked s m later = marketplace_checks s.phase s.aside m later

abbrev pub notice_refusal : State → (m : ℕ) → Option ℕ → (n : ℕ) → Option Refusal
notice_refusal s m price n =
    marketplace_checked s m (check (valid_quote s.increment price) BadQuotePrice (list_checked s n))

abbrev pub noticed : State → (m : ℕ) → SideName → Option ℕ → (n : ℕ) → Done ℕ
noticed s m side price n =
    unless (notice_refusal s m price n) s
    (then_look (with_quotes s (quoted m side price s.quotes) s.aside) (λ k. k))

abbrev pub aside_refusal : State → (m n : ℕ) → Option Refusal
aside_refusal s m n = marketplace_checked s m (list_checked s n)

abbrev pub put_aside : State → (m n : ℕ) → Done Aside
put_aside s m n =
    unless (aside_refusal s m n) s
    (then_look (with_quotes s (dropped m s.quotes) (with_aside m s.aside))
    (λ k. record { count = count_ones (with_aside m s.aside); trades = k }))

-- Halt, resumption and close

abbrev pub halted : State → Done (Unit {0})
halted s =
    unless (first_checked s (check (not_halted s.phase) WrongPhase None)) s
    record { answer = Ok tt; state = with_phase s Halted; trades = [] }

abbrev pub resume_refusal : State → (n : ℕ) → Option Refusal
resume_refusal s n = first_checked s (check (not (not_halted s.phase)) WrongPhase (list_checked s n))

abbrev pub resumed : State → (n : ℕ) → Done ℕ
resumed s n =
    unless (resume_refusal s n) s
    (then_look (with_phase s Open) (λ k. k))

abbrev pub closed : State → Done (Unit {0})
closed s = unless (first_checked s None) s record { answer = Ok tt; state = with_phase s Closed; trades = [] }

-- Questions

abbrev pub best_on : State → SideName → Option ℕ
best_on s side = on side (best_in (away_of s.quotes) s.books)

abbrev pub front_on : State → SideName → Option ℕ
front_on s side = on side (ours_in s.books)

abbrev pub displayed_at : State → SideName → (price : ℕ) → ℕ
displayed_at s side price = shares_at price (own_list side true s.books)

abbrev pub open_of : State → (number : ℕ) → Option ℕ
open_of s number = open_shares (find_in number s.books)

-- an entry that is refused hands its form back
abbrev pub AnswersEntry : Result Entered Refusal → Form → Result Entered HandedBack → Type 0
AnswersEntry (Ok a) form (Ok b) = b ≡ a
AnswersEntry (Ok a) form (Err back) = ⊥
AnswersEntry (Err e) form (Ok b) = ⊥
AnswersEntry (Err e) form (Err back) = (back.refusal ≡ e) × (back.form ≡ form)
