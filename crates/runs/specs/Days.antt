-- Calls one after another: what is noted of each, the records that it wrote, what happened, and the state at the end.
use Rattle.std.specs.Prelude.{ℕ, ◌+◌, cond, List, [], ◌∷◌, ◌++◌, map, length, take, Ok, Err, Result}
use Rattle.market.specs.Calls.{State, Done, is_displayed, placed_at, booked_at, entered, cancelled, noticed, put_aside, halted, resumed, closed}
use Rattle.market.specs.Quoting.{away_of}
use Rattle.market.specs.declared.phase.Phase.TheVariants.{Open, Halted, Closed}
use Rattle.matching.specs.Looking.{Books, looked}
use Rattle.matching.specs.Placing.{Placed, is_booked}
use Rattle.matching.specs.Trades.{Steps, written}
use Rattle.matching.specs.declared.trade.Trade.{Trade}
use Rattle.rules.specs.Forms.{bound}
use Rattle.rules.specs.declared.form.Form.{Form}
use Rattle.rules.specs.declared.refusal.Refusal.{Refusal}
use Rattle.runs.specs.Tapes as tape
use Rattle.runs.specs.Tapes.{Tape}
use Rattle.runs.specs.declared.call.Call.{Call}
use Rattle.runs.specs.declared.call.Call.TheVariants.{Enter, Cancel, Notice, SetAside, Halt, Resume, Close}
use Rattle.runs.specs.declared.call.Line.{Line}
use Rattle.runs.specs.declared.call.Line.TheVariants as line

-- what is noted of a call, what it leaves and trades: that of the definition that its contract names
pub record Made : Type 0 where
  pub line : Line
  pub state : State
  pub trades : List Trade

abbrev pub noted : {X : Type 0} → (Result X Refusal → Line) → Done X → Made
noted line done = record { line = line done.answer; state = done.state; trades = done.trades }

-- a call that is lent a list of n records
abbrev pub made : State → Call Form → (n : ℕ) → Made
made s (Enter form) n = noted (line.Entry form.terms form.class) (entered s form n)
made s (Cancel number) n = noted (line.Cancel number) (cancelled s number n)
made s (Notice m side price) n = noted (line.Notice m side price) (noticed s m side price n)
made s (SetAside m) n = noted (line.SetAside m) (put_aside s m n)
made s Halt n = noted line.Halt (halted s)
made s Resume n = noted line.Resume (resumed s n)
made s Close n = noted line.Close (closed s)

-- What happens in a call: nothing where it is refused

abbrev pub if_taken : {X : Type 0} → Result X Refusal → Tape → Tape
if_taken (Ok a) happenings = happenings
if_taken (Err e) happenings = []

abbrev pub trading : List Trade → Tape
trading = map tape.traded

-- a rest that ends in no booking leaves no trace in the state
abbrev pub ending : Form → (number : ℕ) → Placed → Tape
ending form number p =
    cond (is_booked p.way)
    (tape.booked form.terms.side (is_displayed form.terms.kind) (record { number = number; price = bound form; shares = p.rest }) ∷ [])
    []

abbrev pub looked_after : State → Form → Steps Books
looked_after s form = looked s.increment (away_of s.quotes) (booked_at s form (placed_at s form)).books

-- numbered, matched, ended, and the books looked over
abbrev pub entry_tape : State → Form → Tape
entry_tape s form =
    tape.numbered (s.issued + 1) form
    ∷ (trading (placed_at s form).trades ++ (ending form (s.issued + 1) (placed_at s form) ++ trading (looked_after s form).trades))

abbrev pub happened : State → Call Form → (n : ℕ) → Tape
happened s (Enter form) n = if_taken (entered s form n).answer (entry_tape s form)
happened s (Cancel number) n = if_taken (cancelled s number n).answer (tape.withdrawn number ∷ trading (cancelled s number n).trades)
happened s (Notice m side price) n = if_taken (noticed s m side price n).answer (tape.noticed m side price ∷ trading (noticed s m side price n).trades)
happened s (SetAside m) n = if_taken (put_aside s m n).answer (tape.set_aside m ∷ trading (put_aside s m n).trades)
happened s Halt n = if_taken (halted s).answer (tape.moved Halted ∷ [])
happened s Resume n = if_taken (resumed s n).answer (tape.moved Open ∷ trading (resumed s n).trades)
happened s Close n = if_taken (closed s).answer (tape.moved Closed ∷ [])

-- The count of trades that a line tells: none where the call was refused

abbrev pub if_ok : {X : Type 0} → (X → ℕ) → Result X Refusal → ℕ
if_ok count (Ok a) = count a
if_ok count (Err e) = 0

abbrev pub count_in : Line → ℕ
count_in (line.Entry terms class answer) = if_ok (λ a. a.trades) answer
count_in (line.Cancel number answer) = if_ok (λ a. a.trades) answer
count_in (line.Notice m side price answer) = if_ok (λ k. k) answer
count_in (line.SetAside m answer) = if_ok (λ a. a.trades) answer
count_in (line.Halt answer) = 0
count_in (line.Resume answer) = if_ok (λ k. k) answer
count_in (line.Close answer) = 0

-- a call, and the list of records that it is lent, whatever they hold
pub record Asked : Type 0 where
  pub call : Call Form
  pub list : List Trade

-- the records that it wrote: as many as its line tells, from the front of the list as the call left it
abbrev pub wrote : Made → (list : List Trade) → List Trade
wrote m list = take (count_in m.line) (written m.trades list)

pub record Day : Type 0 where
  pub lines : List Line
  pub records : List Trade
  pub tape : Tape
  pub state : State

abbrev pub followed_by : Made → (records : List Trade) → Tape → Day → Day
followed_by m records happenings later = record {
  lines = m.line ∷ later.lines;
  records = records ++ later.records;
  tape = happenings ++ later.tape;
  state = later.state;
}

abbrev pub day : State → List Asked → Day
day s [] = record { lines = []; records = []; tape = []; state = s }
day s (a ∷ later) =
    let m : Made = made s a.call (length a.list) in
    followed_by m (wrote m a.list) (happened s a.call (length a.list)) (day m.state later)
