-- The law of every run, call by call.
use Rattle.std.proofs.Common.{◌≡◌, ℕ, ◌+◌, ◌≤◌, false, ◌&&◌, eqb, leb, List, [], ◌∷◌, ◌++◌, length, take, sym, refl, ap, ◌∙◌, subst, arith}
use Rattle.std.proofs.lemmas.Bool.{cond_both}
use Rattle.std.proofs.lemmas.Bool.Decides.{nat_tests}
use Rattle.books.specs.Arranging.{tally}
use Rattle.books.specs.Histories.{Each}
use Rattle.books.specs.Lists.{AllSound}
use Rattle.books.specs.declared.standing.Standing.{Standing}
use Rattle.market.specs.Calls.{State, fresh}
use Rattle.matching.specs.Sets.{Rooms}
use Rattle.matching.specs.Looking.{Books}
use Rattle.matching.specs.Trades.{written}
use Rattle.matching.specs.declared.trade.Trade.{Trade}
use Rattle.rules.specs.declared.sheet.DaySheet.{DaySheet}
use Rattle.runs.proofs.Calling.{Sane, CallKept, cancel_kept, notice_kept, aside_kept, halt_kept, resume_kept, close_kept}
use Rattle.runs.proofs.Entering.{enter_kept, traded_append}
use Rattle.runs.proofs.Looking.{neat_unmet, neat_below}
use Rattle.runs.proofs.Neat.{Neat}
use Rattle.runs.proofs.Taping.{Moments, replay_append, trades_append, moments_append, every_trade, Given}
use Rattle.runs.proofs.Withdrawing.{amount_in, open_amount}
use Rattle.rules.specs.declared.form.Form.{Form}
use Rattle.runs.specs.Days.{Made, made, happened, wrote, Asked, Day, day}
use Rattle.runs.specs.Law.{entered_in, cancelled_in, traded_in, tally_in, Orderly, LawOfRuns}
use Rattle.runs.specs.Tapes.{Tape, replay_all, trades_in}
use Rattle.runs.specs.declared.call.Call.{Call}
use Rattle.runs.specs.declared.call.Call.TheVariants.{Enter, Cancel, Notice, SetAside, Halt, Resume, Close}
use Rattle.runs.specs.declared.call.Line.{Line}
use Rattle.runs.specs.declared.call.Line.TheVariants as line

pub call_kept : (s : State) (n : ℕ) → Sane s → (call : Call Form) → CallKept s n (made s call n) (happened s call n)
call_kept s n sane (Enter form) = enter_kept s n sane form
call_kept s n sane (Cancel number) = cancel_kept s n sane number
call_kept s n sane (Notice m side price) = notice_kept s n sane m side price
call_kept s n sane (SetAside m) = aside_kept s n sane m
call_kept s n sane Halt = halt_kept s n sane
call_kept s n sane Resume = resume_kept s n sane
call_kept s n sane Close = close_kept s n sane

-- the first line and those after it

entered_first : (k : ℕ) (l : Line) (lines : List Line) → entered_in k (l ∷ lines) ≡ entered_in k (l ∷ []) + entered_in k lines
entered_first k (line.Entry terms class answer) lines = omega arith
entered_first k (line.Cancel number answer) lines = omega arith
entered_first k (line.Notice m side price answer) lines = omega arith
entered_first k (line.SetAside m answer) lines = omega arith
entered_first k (line.Halt answer) lines = omega arith
entered_first k (line.Resume answer) lines = omega arith
entered_first k (line.Close answer) lines = omega arith

cancelled_first : (k : ℕ) (l : Line) (lines : List Line) → cancelled_in k (l ∷ lines) ≡ cancelled_in k (l ∷ []) + cancelled_in k lines
cancelled_first k (line.Entry terms class answer) lines = omega arith
cancelled_first k (line.Cancel number answer) lines = omega arith
cancelled_first k (line.Notice m side price answer) lines = omega arith
cancelled_first k (line.SetAside m answer) lines = omega arith
cancelled_first k (line.Halt answer) lines = omega arith
cancelled_first k (line.Resume answer) lines = omega arith
cancelled_first k (line.Close answer) lines = omega arith

written_front : (ts list : List Trade) → length ts ≤ length list → take (length ts) (written ts list) ≡ ts
written_front [] list fits = refl
written_front (t ∷ ts) [] fits = absurd (let no : ⊥ = omega arith in no)
written_front (t ∷ ts) (x ∷ xs) fits = ap (λ r. t ∷ r) (written_front ts xs (omega arith))

pub wrote_all : (s : State) (m : Made) (list : List Trade) (happenings : Tape) → CallKept s (length list) m happenings → wrote m list ≡ m.trades
wrote_all s m list happenings kept = ap (λ k. take k (written m.trades list)) kept.counted ∙ written_front m.trades list kept.fits

-- What a run keeps, from a state and after what was seen

pub record DayKept (s : State) (seen : Tape) (d : Day) : Type 0 where
  pub sane : Sane d.state
  pub replayed : replay_all s d.tape ≡ d.state
  pub moments : Moments s seen d.tape
  pub recorded : trades_in d.tape ≡ d.records
  pub weighed : (k : ℕ) → entered_in k d.lines + amount_in k s.books ≡ traded_in k d.records + amount_in k d.state.books + cancelled_in k d.lines

pub day_kept : (s : State) (seen : Tape) → Sane s → Given seen s.issued → (asked : List Asked) → DayKept s seen (day s asked)
day_kept s seen sane given [] = record { sane = sane; replayed = refl; moments = tt; recorded = refl; weighed = λ k. omega arith }
day_kept s seen sane given (a ∷ later) =
    let n = length a.list in
    let m = made s a.call n in
    let h = happened s a.call n in
    let one = call_kept s n sane a.call in
    let all = wrote_all s m a.list h one in
    let more = day_kept m.state (seen ++ h) one.sane (one.given seen given) later in
    let d = day m.state later in
    record {
      sane = more.sane;
      replayed = replay_append s h d.tape ∙ ap (λ x. replay_all x d.tape) one.replayed ∙ more.replayed;
      moments = moments_append s seen h d.tape (one.moments seen given) (subst (λ x. Moments x (seen ++ h) d.tape) (sym one.replayed) more.moments);
      recorded =
          trades_append h d.tape ∙ ap (λ ts. ts ++ trades_in d.tape) (one.recorded ∙ sym all)
          ∙ ap (λ ts. wrote m a.list ++ ts) more.recorded;
      weighed = λ k.
          let split : traded_in k (wrote m a.list ++ d.records) ≡ traded_in k m.trades + traded_in k d.records =
          traded_append k (wrote m a.list) d.records ∙ ap (λ ts. traded_in k ts + traded_in k d.records) all in
          omega (arith, split, one.weighed k, more.weighed k, entered_first k m.line d.lines, cancelled_first k m.line d.lines);
    }

fresh_sane : (sheet : DaySheet) (rooms : Rooms) → Sane (fresh sheet rooms)
fresh_sane sheet rooms = record {
  two = cond_both (leb 200 sheet.closing) 4 2 (λ k. 2 ≤ k) (λ _. omega arith) (λ _. omega arith);
  neat = record {
    displayed_good = (tt, tt, tt);
    dark_good = (tt, tt, tt);
    own_good = (tt, tt, tt);
    own_dark_good = (tt, tt, tt);
    once = λ n. omega arith;
    clear = tt;
  };
  unmet = λ _. refl;
}

outside : (issued n : ℕ) (os : List Standing) → AllSound os → Each (λ o. o.number ≤ issued) os → (leb 1 n && leb n issued) ≡ false → tally n os ≡ 0
outside issued n [] sounds given out = refl
outside issued n (o ∷ os) sounds given out =
    let other : eqb o.number n ≡ false = let s = sounds.0 in let g = given.0 in grind (arith, nat_tests) in
    rw other (omega (arith, outside issued n os sounds.1 given.1 out))

neat_orderly : (issued : ℕ) (b : Books) → Neat issued b → Orderly issued b
neat_orderly issued b neat = record {
  bids_run = neat.own_good.0;
  asks_run = neat.displayed_good.0;
  dark_bids_run = neat.own_dark_good.0;
  dark_asks_run = neat.dark_good.0;
  numbers = λ n.
      cond_both (leb 1 n && leb n issued) 1 0 (λ k. tally_in n b ≤ k) (λ _. omega (arith, neat.once n))
      (λ f.
      omega (
        arith,
        outside issued n b.bids neat.own_good.1 neat.own_good.2 f,
        outside issued n b.asks neat.displayed_good.1 neat.displayed_good.2 f,
        outside issued n b.dark_bids neat.own_dark_good.1 neat.own_dark_good.2 f,
        outside issued n b.dark_asks neat.dark_good.1 neat.dark_good.2 f,
      ));
}

pub law_of_runs : LawOfRuns
law_of_runs sheet rooms asked =
    let d = day (fresh sheet rooms) asked in
    let kept = day_kept (fresh sheet rooms) [] (fresh_sane sheet rooms) (λ n some few. absurd (let no : ⊥ = omega arith in no)) asked in
    let neat = kept.sane.neat in
    record {
      recorded = kept.recorded;
      replayed = kept.replayed;
      trades = every_trade (fresh sheet rooms) d.tape kept.moments;
      bids_below_asks = neat_below d.state.issued d.state.books neat;
      none_meets = λ is. neat_unmet d.state neat (kept.sane.unmet is);
      accounted = λ n. omega (arith, kept.weighed n, open_amount n d.state.books (omega (arith, neat.once n)));
      orderly = neat_orderly d.state.issued d.state.books neat;
    }
