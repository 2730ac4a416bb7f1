-- One call: what it keeps of a state, and that its tape, its records and its answer tell the same.
use Rattle.std.proofs.Common.{◌≡◌, ℕ, ◌+◌, ◌≤◌, Bool, true, false, not, leb, [], ◌∷◌, ◌++◌, length, is_some, Some, None, Ok, Err, Option, Result, sym, refl, ap, ◌∙◌, subst, arith}
use Rattle.std.proofs.lemmas.Option.{none-some}
use lib.Count.{ones}
use Rattle.std.proofs.lemmas.Bool.{leb-true}
use Rattle.books.proofs.Past.{each_map}
use Rattle.books.specs.Histories.{Each}
use Rattle.books.specs.Lists.{find}
use Rattle.market.proofs.Fitting.{trades_fit}
use Rattle.market.specs.Bounds.{SoundBooks}
use Rattle.market.specs.Calls.{State, Done, unless, with_books, with_phase, with_quotes, look, look_in, then_look, list_checked, first_checked, valid_quote, not_closed, not_halted, cancel_refusal, shares_of, notice_refusal, aside_refusal, resume_refusal}
use Rattle.market.specs.Quoting.{is_marketplace, away_of, quoted, dropped, with_aside, is_aside}
use Rattle.matching.specs.Sets.{find_in, find_either, first_found, unless_found, without_in}
use Rattle.market.specs.declared.answers.Aside.{Aside}
use Rattle.market.specs.declared.answers.Cancelled.{Cancelled}
use Rattle.market.specs.declared.phase.Phase.{Phase}
use Rattle.market.specs.declared.phase.Phase.TheVariants.{Open, Halted, Closed}
use Rattle.matching.specs.Looking.{Books, pair_in, standing_in, looked}
use Rattle.matching.specs.Trades.{Steps}
use Rattle.rules.specs.Refusals.{check}
use Rattle.rules.specs.Sides.{bids, asks}
use Rattle.rules.specs.declared.refusal.Refusal.{Refusal}
use Rattle.rules.specs.declared.refusal.Refusal.TheVariants.{MarketClosed, NotStanding, NoMarketplace, AlreadyAside, BadQuotePrice, WrongPhase, ShortTradeList}
use Rattle.rules.specs.declared.terms.SideName.{SideName}
use Rattle.runs.proofs.Facing.{PairedIn}
use Rattle.runs.proofs.Looking.{look_went, no_pair_left}
use Rattle.runs.proofs.Neat.{Neat}
use Rattle.runs.proofs.Taping.{At, Moments, Given, given_more, trades_trading, course_replay, course_moments, judged_at}
use Rattle.runs.proofs.Withdrawing.{amount_in, unless_good, unless_tally, unless_each, without_in_amount}
use Rattle.runs.specs.Days.{Made, noted, made, if_taken, trading, happened, count_in}
use Rattle.runs.specs.Law.{entered_in, cancelled_in, traded_in}
use Rattle.runs.specs.Tapes.{Tape, Happening, replay, replay_all, trades_in}
use Rattle.runs.specs.Tapes as tape
use Rattle.runs.specs.declared.call.Call.TheVariants.{Cancel, Notice, SetAside, Halt, Resume, Close}
use Rattle.runs.specs.declared.call.Line.{Line}
use Rattle.runs.specs.declared.call.Line.TheVariants as line

-- What holds between calls

pub record Sane (s : State) : Type 0 where
  pub two : 2 ≤ s.increment
  pub neat : Neat s.issued s.books
  pub unmet : s.phase ≡ Open → pair_in s.increment (away_of s.quotes) s.books ≡ None

pub neat_sounds : (issued : ℕ) (b : Books) → Neat issued b → SoundBooks b
neat_sounds issued b n = (n.own_good.1, n.displayed_good.1, n.own_dark_good.1, n.dark_good.1)

-- What a call does, where it is lent n records

pub record CallKept (s : State) (n : ℕ) (m : Made) (happenings : Tape) : Type 0 where
  pub sane : Sane m.state
  pub replayed : replay_all s happenings ≡ m.state
  pub moments : (seen : Tape) → Given seen s.issued → Moments s seen happenings
  pub given : (seen : Tape) → Given seen s.issued → Given (seen ++ happenings) m.state.issued
  pub recorded : trades_in happenings ≡ m.trades
  pub counted : count_in m.line ≡ length m.trades
  pub fits : length m.trades ≤ n
  pub weighed : (k : ℕ) → entered_in k (m.line ∷ []) + amount_in k s.books ≡ traded_in k m.trades + amount_in k m.state.books + cancelled_in k (m.line ∷ [])

-- a line that tells of no trade, entry or cancel
pub record Silent (l : Line) : Type 0 where
  pub count : count_in l ≡ 0
  pub entered : (k : ℕ) → entered_in k (l ∷ []) ≡ 0
  pub cancelled : (k : ℕ) → cancelled_in k (l ∷ []) ≡ 0

pub refused_kept : (s : State) (n : ℕ) (l : Line) → Sane s → Silent l → CallKept s n (record { line = l; state = s; trades = [] }) []
refused_kept s n l sane silent = record {
  sane = sane;
  replayed = refl;
  moments = λ _ _. tt;
  given = λ seen g. given_more seen [] s.issued g;
  recorded = refl;
  counted = silent.count;
  fits = omega arith;
  weighed = λ k. omega (arith, silent.entered k, silent.cancelled k);
}

pub check_none : (b : Bool) (e : Refusal) (later : Option Refusal) → check b e later ≡ None → (b ≡ true) × (later ≡ None)
check_none true e later h = (refl, h)
check_none false e later h = absurd (none-some _ (sym h))

two_passed : (a b : Bool) (x y : Refusal) (later : Option Refusal) → check a x (check b y later) ≡ None → later ≡ None
two_passed a b x y later h = (check_none b y later (check_none a x (check b y later) h).1).1

pub long_enough : (s : State) (n : ℕ) → list_checked s n ≡ None → standing_in s.books ≤ n
long_enough s n h = leb-true (standing_in s.books) n (check_none (leb (standing_in s.books) n) ShortTradeList None h).0

-- what a call that is not refused trades fits the list
pub fits_list : {X : Type 0} (s : State) (n : ℕ) (o : Option Refusal) (done : Done X) → o ≡ None → length (unless o s done).trades ≤ standing_in s.books → standing_in s.books ≤ n → length done.trades ≤ n
fits_list s n o done is few enough =
    let f : length done.trades ≤ standing_in s.books = subst (λ p. length (unless p s done).trades ≤ standing_in s.books) is few in omega arith

-- The look at the end of a call

pub record LookKept (s : State) (l : Steps Books) : Type 0 where
  pub replayed : replay_all s (trading l.trades) ≡ with_books s l.state
  pub moments : (seen : Tape) → Given seen s.issued → Moments s seen (trading l.trades)
  pub neat : Neat s.issued l.state
  pub weighed : (k : ℕ) → amount_in k s.books ≡ amount_in k l.state + traded_in k l.trades

pub looked_kept : (s : State) → 2 ≤ s.increment → Neat s.issued s.books → LookKept s (looked s.increment (away_of s.quotes) s.books)
looked_kept s two neat =
    let w = look_went s.increment (away_of s.quotes) s.issued two s.books neat in
    let l = looked s.increment (away_of s.quotes) s.books in
    record {
      replayed = course_replay (PairedIn s.increment (away_of s.quotes) s.issued) s l.trades l.state w.course;
      moments = λ seen given.
          course_moments (PairedIn s.increment (away_of s.quotes) s.issued) (λ after. Given after s.issued) s (λ after t g. given_more after (tape.traded t ∷ []) s.issued g)
          (λ b after t judged g.
          let f = g t.active judged.1 judged.2 in
          judged_at false after (with_books s b) t f.0 f.1 (λ _. refl) judged.0)
          s.books seen l.trades l.state given w.course;
      neat = w.kept;
      weighed = w.weighed;
    }

look_kept : (s : State) → 2 ≤ s.increment → Neat s.issued s.books → (phase : Phase) → LookKept s (look_in phase s.increment (away_of s.quotes) s.books)
look_kept s two neat Open = looked_kept s two neat
look_kept s two neat Halted = record { replayed = refl; moments = λ _ _. tt; neat = neat; weighed = λ k. omega arith }
look_kept s two neat Closed = record { replayed = refl; moments = λ _ _. tt; neat = neat; weighed = λ k. omega arith }

look_unmet : (s : State) → 2 ≤ s.increment → Neat s.issued s.books → (phase : Phase) → phase ≡ Open → pair_in s.increment (away_of s.quotes) (look_in phase s.increment (away_of s.quotes) s.books).state ≡ None
look_unmet s two neat phase is =
    subst (λ p. pair_in s.increment (away_of s.quotes) (look_in p s.increment (away_of s.quotes) s.books).state ≡ None) (sym is)
    (no_pair_left s.increment (away_of s.quotes) s.books (neat_sounds s.issued s.books neat))

-- a call that does one thing, and then looks over
module _ {X : Type 0} (s then : State) (n : ℕ) (h : Happening) (note : Result X Refusal → Line) (answer : ℕ → X) where
  pub look_call_kept : Sane s → replay s h ≡ then → s.issued ≡ then.issued → 2 ≤ then.increment → Neat then.issued then.books → ((seen : Tape) → At seen s h) → ((more : Tape) → trades_in (h ∷ more) ≡ trades_in more) → ((k : ℕ) → count_in (note (Ok (answer k))) ≡ k) → length (look then).trades ≤ n → ((k : ℕ) → entered_in k (note (Ok (answer (length (look then).trades))) ∷ []) + amount_in k s.books ≡ amount_in k then.books + cancelled_in k (note (Ok (answer (length (look then).trades))) ∷ [])) → CallKept s n (noted note (then_look then answer)) (h ∷ trading (look then).trades)
  look_call_kept sane leads issued_same two neat at silent tells few weighs =
      let l = look_kept then two neat then.phase in
      record {
        sane = record { two = two; neat = l.neat; unmet = look_unmet then two neat then.phase };
        replayed = ap (λ x. replay_all x (trading (look then).trades)) leads ∙ l.replayed;
        moments = λ seen g. (at seen, subst (λ x. Moments x (seen ++ (h ∷ [])) (trading (look then).trades)) (sym leads) (l.moments (seen ++ (h ∷ [])) (given_more seen (h ∷ []) then.issued (subst (Given seen) issued_same g))));
        given = λ seen g. given_more seen (h ∷ trading (look then).trades) then.issued (subst (Given seen) issued_same g);
        recorded = silent (trading (look then).trades) ∙ trades_trading (look then).trades;
        counted = tells (length (look then).trades);
        fits = few;
        weighed = λ k. omega (arith, weighs k, l.weighed k);
      }

-- Cancel, notice, set-aside, resumption, halt and close

without_neat : (number issued : ℕ) (b : Books) → Neat issued b → Neat issued (without_in number b)
without_neat n issued b neat =
    let in_asks = find n b.bids in
    let in_dark_bids = find_either n b.bids b.asks in
    let in_dark_asks = first_found (find_either n b.bids b.asks) (find n b.dark_bids) in
    record {
      displayed_good = unless_good n b.asks asks issued in_asks neat.displayed_good;
      dark_good = unless_good n b.dark_asks asks issued in_dark_asks neat.dark_good;
      own_good = unless_good n b.bids bids issued None neat.own_good;
      own_dark_good = unless_good n b.dark_bids bids issued in_dark_bids neat.own_dark_good;
      once = λ m.
          omega (
            arith,
            neat.once m,
            unless_tally n b.asks m in_asks,
            unless_tally n b.dark_asks m in_dark_asks,
            unless_tally n b.bids m None,
            unless_tally n b.dark_bids m in_dark_bids,
          );
      clear =
          unless_each n b.bids (λ o. Each (λ d. asks.ahead o.price d.price ≡ true) (unless_found in_asks n b.asks)) None
          (each_map (λ o. Each (λ d. asks.ahead o.price d.price ≡ true) b.asks) (λ o. Each (λ d. asks.ahead o.price d.price ≡ true) (unless_found in_asks n b.asks))
          (λ o. unless_each n b.asks (λ d. asks.ahead o.price d.price ≡ true) in_asks) b.bids neat.clear);
    }

module _ (s : State) (n : ℕ) (sane : Sane s) where
  sounds : SoundBooks s.books
  sounds = neat_sounds s.issued s.books sane.neat

  look_checked : {X : Type 0} (note : Result X Refusal → Line) (then : State) (answer : ℕ → X) (h : Happening) (o : Option Refusal) → ((e : Refusal) → Silent (note (Err e))) → length (unless o s (then_look then answer)).trades ≤ standing_in s.books → (o ≡ None → list_checked s n ≡ None) → (length (look then).trades ≤ n → CallKept s n (noted note (then_look then answer)) (h ∷ trading (look then).trades)) → CallKept s n (noted note (unless o s (then_look then answer))) (if_taken (unless o s (then_look then answer)).answer (h ∷ trading (unless o s (then_look then answer)).trades))
  look_checked note then answer h None silent few passes accepted = accepted (fits_list s n None (then_look then answer) refl few (long_enough s n (passes refl)))
  look_checked note then answer h (Some e) silent few passes accepted = refused_kept s n (note (Err e)) sane (silent e)

  pub cancel_kept : (number : ℕ) → CallKept s n (made s (Cancel number) n) (happened s (Cancel number) n)
  cancel_kept number =
      let answer : ℕ → Cancelled = λ k. record { shares = shares_of (find_in number s.books); trades = k } in
      look_checked (line.Cancel number) (with_books s (without_in number s.books)) answer (tape.withdrawn number) (cancel_refusal s number n)
      (λ e. record { count = refl; entered = λ k. refl; cancelled = λ k. refl })
      ((trades_fit s sounds).cancel number n)
      (λ none. two_passed (not_closed s.phase) (is_some (find_in number s.books)) MarketClosed NotStanding (list_checked s n) none)
      (λ few. look_call_kept s (with_books s (without_in number s.books)) n (tape.withdrawn number) (line.Cancel number) answer sane refl refl sane.two (without_neat number s.issued s.books sane.neat) (λ _. tt) (λ _. refl) (λ _. refl) few
      (λ k. omega (arith, without_in_amount number k s.books)))

  pub notice_kept : (m : ℕ) (side : SideName) (price : Option ℕ) → CallKept s n (made s (Notice m side price) n) (happened s (Notice m side price) n)
  notice_kept m side price =
      look_checked (line.Notice m side price) (with_quotes s (quoted m side price s.quotes) s.aside) (λ k. k) (tape.noticed m side price) (notice_refusal s m price n)
      (λ e. record { count = refl; entered = λ k. refl; cancelled = λ k. refl })
      ((trades_fit s sounds).notice m side price n)
      (λ none.
      two_passed (not (is_aside m s.aside)) (valid_quote s.increment price) AlreadyAside BadQuotePrice (list_checked s n)
      (two_passed (not_closed s.phase) (is_marketplace m) MarketClosed NoMarketplace (check (not (is_aside m s.aside)) AlreadyAside (check (valid_quote s.increment price) BadQuotePrice (list_checked s n))) none))
      (λ few. look_call_kept s (with_quotes s (quoted m side price s.quotes) s.aside) n (tape.noticed m side price) (line.Notice m side price) (λ k. k) sane refl refl sane.two sane.neat (λ _. tt) (λ _. refl) (λ _. refl) few (λ k. omega arith))

  pub aside_kept : (m : ℕ) → CallKept s n (made s (SetAside m) n) (happened s (SetAside m) n)
  aside_kept m =
      let answer : ℕ → Aside = λ k. record { count = ones (with_aside m s.aside); trades = k } in
      look_checked (line.SetAside m) (with_quotes s (dropped m s.quotes) (with_aside m s.aside)) answer (tape.set_aside m) (aside_refusal s m n)
      (λ e. record { count = refl; entered = λ k. refl; cancelled = λ k. refl })
      ((trades_fit s sounds).set_aside m n)
      (λ none.
      (check_none (not (is_aside m s.aside)) AlreadyAside (list_checked s n)
      (two_passed (not_closed s.phase) (is_marketplace m) MarketClosed NoMarketplace (check (not (is_aside m s.aside)) AlreadyAside (list_checked s n)) none)).1)
      (λ few. look_call_kept s (with_quotes s (dropped m s.quotes) (with_aside m s.aside)) n (tape.set_aside m) (line.SetAside m) answer sane refl refl sane.two sane.neat (λ _. tt) (λ _. refl) (λ _. refl) few (λ k. omega arith))

  pub resume_kept : CallKept s n (made s Resume n) (happened s Resume n)
  resume_kept =
      look_checked line.Resume (with_phase s Open) (λ k. k) (tape.moved Open) (resume_refusal s n)
      (λ e. record { count = refl; entered = λ k. refl; cancelled = λ k. refl })
      ((trades_fit s sounds).resumption n)
      (λ none. two_passed (not_closed s.phase) (not (not_halted s.phase)) MarketClosed WrongPhase (list_checked s n) none)
      (λ few. look_call_kept s (with_phase s Open) n (tape.moved Open) line.Resume (λ k. k) sane refl refl sane.two sane.neat (λ _. tt) (λ _. refl) (λ _. refl) few (λ k. omega arith))

  -- a change of phase alone, to one in which nothing is looked over
  phase_kept : (phase : Phase) (l : Line) → Silent l → (phase ≡ Open → ⊥) → CallKept s n (record { line = l; state = with_phase s phase; trades = [] }) (tape.moved phase ∷ [])
  phase_kept phase l silent shut = record {
    sane = record { two = sane.two; neat = sane.neat; unmet = λ is. absurd (shut is) };
    replayed = refl;
    moments = λ _ _. (tt, tt);
    given = λ seen g. given_more seen (tape.moved phase ∷ []) s.issued g;
    recorded = refl;
    counted = silent.count;
    fits = omega arith;
    weighed = λ k. omega (arith, silent.entered k, silent.cancelled k);
  }

  abbrev phase_done : Phase → Done (Unit {0})
  phase_done phase = record { answer = Ok tt; state = with_phase s phase; trades = [] }

  phase_checked : (phase : Phase) (note : Result (Unit {0}) Refusal → Line) (o : Option Refusal) → ((r : Result (Unit {0}) Refusal) → Silent (note r)) → (phase ≡ Open → ⊥) → CallKept s n (noted note (unless o s (phase_done phase))) (if_taken (unless o s (phase_done phase)).answer (tape.moved phase ∷ []))
  phase_checked phase note None silent shut = phase_kept phase (note (Ok tt)) (silent (Ok tt)) shut
  phase_checked phase note (Some e) silent shut = refused_kept s n (note (Err e)) sane (silent (Err e))

  pub halt_kept : CallKept s n (made s Halt n) (happened s Halt n)
  halt_kept =
      phase_checked Halted line.Halt (first_checked s (check (not_halted s.phase) WrongPhase None)) (λ r. record { count = refl; entered = λ k. refl; cancelled = λ k. refl })
      (λ e. let z : ◌≡◌ {A = ℕ} 0 1 = cc in omega arith)

  pub close_kept : CallKept s n (made s Close n) (happened s Close n)
  close_kept =
      phase_checked Closed line.Close (first_checked s None) (λ r. record { count = refl; entered = λ k. refl; cancelled = λ k. refl })
      (λ e. let z : ◌≡◌ {A = ℕ} 0 1 = cc in omega arith)
