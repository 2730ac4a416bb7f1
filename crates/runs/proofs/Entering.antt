-- An entry: numbered, matched, ended, and the books looked over.
use Rattle.std.proofs.Common.{◌≡◌, ℕ, ◌+◌, ◌%◌, ◌<◌, ◌≤◌, Bool, true, false, cond, ◌&&◌, ◌||◌, eqb, ltb, leb, List, [], ◌∷◌, ◌++◌, length, Some, None, Err, Option, sym, refl, ap, ◌∙◌, subst, ⊎_elim, mod-eq_of_lt, arith, length-append}
use Rattle.std.proofs.lemmas.Bool.{cases_lt, and_parts, leb-true, eqb-true, or_cases, both_ways}
use Rattle.books.specs.declared.standing.Standing.{Standing}
use Rattle.market.proofs.Fitting.{trades_fit}
use Rattle.market.specs.Calls.{State, unless, with_books, with_issued, not_closed, not_halted, is_displayed, entry_of, entry_refusal, placed_at, booked_at, entered_by}
use Rattle.market.specs.Quoting.{away_of}
use Rattle.matching.specs.Sets.{own_rule, own_room, own_list, room_left, facing, seen_from}
use Rattle.market.specs.declared.phase.Phase.{Phase}
use Rattle.market.specs.declared.phase.Phase.TheVariants.{Open, Halted, Closed}
use Rattle.matching.specs.Looking.{Books, standing_in}
use Rattle.matching.specs.Placing.{View, Placed, is_booked}
use Rattle.matching.specs.declared.candidate.Entry.{Entry}
use Rattle.matching.specs.declared.trade.Trade.{Trade}
use Rattle.rules.specs.Forms.{bound, bound_at, large}
use Rattle.rules.specs.Prices.{highest_price, most_shares}
use Rattle.rules.specs.Refusals.{check}
use Rattle.rules.specs.declared.form.Form.{Form}
use Rattle.rules.specs.declared.price.Quote.{Quote}
use Rattle.rules.specs.declared.refusal.Refusal.{Refusal}
use Rattle.rules.specs.declared.refusal.Refusal.TheVariants.{MarketClosed, MarketHalted, OtherClass, NumbersIssued, OwnBookFull, ShortTradeList}
use Rattle.rules.specs.declared.terms.Kind.{Kind}
use Rattle.rules.specs.declared.terms.Kind.TheVariants.{Displayed, Dark, HalfStep}
use Rattle.rules.specs.declared.terms.SideName.{SideName}
use Rattle.rules.specs.declared.terms.SideName.TheVariants.{Bid, Ask}
use Rattle.runs.proofs.Calling.{Sane, CallKept, refused_kept, check_none, neat_sounds, fits_list, LookKept, looked_kept}
use Rattle.runs.proofs.Courses.{Course}
use Rattle.runs.proofs.Facing.{MatchedIn, seen_facing}
use Rattle.runs.proofs.Looking.{no_pair_left}
use Rattle.runs.proofs.Neat.{NeatView, Neat, neat_facing, neat_seen}
use Rattle.runs.proofs.Placing.{view_amount, booked_view, seen_booked, own_of, places_of, met_view, met_went, Left, placed_left}
use Rattle.runs.proofs.Taping.{Moments, Given, given_more, given_one_more, replay_append, trades_append, trades_trading, moments_append, course_replay, course_moments, judged_at, form_given, form_kept}
use Rattle.runs.proofs.Withdrawing.{amount_in}
use Rattle.runs.specs.Days.{noted, made, if_taken, trading, looked_after, entry_tape, happened}
use Rattle.runs.specs.Law.{traded_in}
use Rattle.runs.specs.Tapes as tape
use Rattle.runs.specs.Tapes.{Tape, replay_all, trades_in, form_of, trade_made}
use Rattle.runs.specs.declared.call.Call.TheVariants.{Enter}
use Rattle.runs.specs.declared.call.Line.TheVariants as line

-- What a form that exists is: its bound is a price, and its shares fit a book

multiple_least : (n step : ℕ) → 1 ≤ n → n % step ≡ 0 → step ≤ n
multiple_least n step some whole =
    ⊎_elim
    (λ (small : n < step). let same : n % step ≡ n = mod-eq_of_lt small in absurd (let no : ⊥ = omega arith in no))
    (λ (large : step ≤ n). large) (cases_lt n step)

limit_least : (form : Form) → (1 ≤ form.terms.limit) × (form.class.increment ≤ form.terms.limit)
limit_least form =
    let limit = form.terms.limit in
    let step = form.class.increment in
    let valid = and_parts (leb 1 limit && leb limit highest_price) (eqb (limit % step) 0) form.priced in
    let some : 1 ≤ limit = leb-true 1 limit (and_parts (leb 1 limit) (leb limit highest_price) valid.0).0 in
    (some, multiple_least limit step some (eqb-true (limit % step) 0 valid.1))

bound_least : (side : SideName) (kind : Kind) (step limit : ℕ) → 1 ≤ limit → 2 ≤ step → step ≤ limit → 1 ≤ bound_at side kind step limit
bound_least side Displayed step limit some two whole = some
bound_least side Dark step limit some two whole = some
bound_least Bid HalfStep step limit some two whole = omega arith
bound_least Ask HalfStep step limit some two whole = omega arith

form_bound : (form : Form) → 1 ≤ bound form
form_bound form = bound_least form.terms.side form.terms.kind form.class.increment form.terms.limit (limit_least form).0 form.class.least (limit_least form).1

form_shares : (form : Form) → form.terms.shares ≤ most_shares
form_shares form =
    let shares = form.terms.shares in
    let valid = and_parts (leb 1 shares && leb shares most_shares) (eqb (shares % form.class.unit) 0) form.sized in
    leb-true shares most_shares (and_parts (leb 1 shares) (leb shares most_shares) valid.0).1

pub traded_append : (k : ℕ) (a b : List Trade) → traded_in k (a ++ b) ≡ traded_in k a + traded_in k b
traded_append k [] b = omega arith
traded_append k (t ∷ a) b = omega (arith, traded_append k a b)

amount_facing : (side : SideName) (b : Books) (k : ℕ) → view_amount k (facing side b) ≡ amount_in k b
amount_facing Bid b k = omega arith
amount_facing Ask b k = omega arith

amount_seen : (side : SideName) (v : View) (k : ℕ) → amount_in k (seen_from side v) ≡ view_amount k v
amount_seen Bid v k = omega arith
amount_seen Ask v k = omega arith

own_seen : (side : SideName) (displayed : Bool) (b : Books) → own_list side displayed b ≡ own_of displayed (facing side b)
own_seen Bid true b = refl
own_seen Bid false b = refl
own_seen Ask true b = refl
own_seen Ask false b = refl

room_seen : (displayed : Bool) (places : Bool → ℕ) → places displayed ≡ places_of displayed (places true) (places false)
room_seen true places = refl
room_seen false places = refl

both_open : (phase : Phase) → not_closed phase ≡ true → not_halted phase ≡ true → phase ≡ Open
both_open Open a b = refl
both_open Halted a b = absurd (both_ways false refl b)
both_open Closed a b = absurd (both_ways false refl a)

module _ (s : State) (n : ℕ) (sane : Sane s) (form : Form) where
  abbrev side : SideName
  side = form.terms.side

  abbrev number : ℕ
  number = s.issued + 1

  abbrev entry : Entry
  entry = entry_of form number

  abbrev away : Quote
  away = away_of s.quotes

  abbrev view : View
  view = facing side s.books

  abbrev places : ℕ
  places = own_room side true s.rooms

  abbrev dark_places : ℕ
  dark_places = own_room side false s.rooms

  abbrev placing : Placed
  placing = placed_at s form

  abbrev met : View
  met = met_view side entry s.increment away places dark_places view s.issued

  abbrev given : State
  given = with_issued s number

  abbrev then : State
  then = booked_at s form placing

  abbrev list_long : Bool
  list_long = leb (standing_in s.books) n

  abbrev has_room : Bool
  has_room = room_left side (is_displayed form.terms.kind) s.rooms s.books

  abbrev same_class : Bool
  same_class = eqb form.class.increment s.increment && eqb form.class.unit s.unit

  module _ (accepted : entry_refusal s form n ≡ None) where
    after_closed : (not_closed s.phase ≡ true) × (check (not_halted s.phase) MarketHalted (check same_class OtherClass (check (ltb s.issued s.last) NumbersIssued (check (form.terms.immediate || has_room) OwnBookFull (check list_long ShortTradeList None)))) ≡ None)
    after_closed = check_none (not_closed s.phase) MarketClosed _ accepted

    after_halted : (not_halted s.phase ≡ true) × (check same_class OtherClass (check (ltb s.issued s.last) NumbersIssued (check (form.terms.immediate || has_room) OwnBookFull (check list_long ShortTradeList None))) ≡ None)
    after_halted = check_none (not_halted s.phase) MarketHalted _ after_closed.1

    after_numbers : check (form.terms.immediate || has_room) OwnBookFull (check list_long ShortTradeList None) ≡ None
    after_numbers = (check_none (ltb s.issued s.last) NumbersIssued _ (check_none same_class OtherClass _ after_halted.1).1).1

    after_room : ((form.terms.immediate || has_room) ≡ true) × (check list_long ShortTradeList None ≡ None)
    after_room = check_none (form.terms.immediate || has_room) OwnBookFull _ after_numbers

    enough : standing_in s.books ≤ n
    enough = leb-true (standing_in s.books) n (check_none list_long ShortTradeList None after_room.1).0

    room : entry.immediate ≡ false → ltb (length (own_of entry.displayed view)) (places_of entry.displayed places dark_places) ≡ true
    room stays =
        ⊎_elim (λ (t : form.terms.immediate ≡ true). absurd (both_ways form.terms.immediate stays t))
        (λ (has : has_room ≡ true).
        subst (λ l. ltb (length l) (places_of entry.displayed places dark_places) ≡ true) (own_seen side entry.displayed s.books)
        (subst (λ k. ltb (length (own_list side entry.displayed s.books)) k ≡ true) (room_seen entry.displayed (λ d. own_room side d s.rooms)) has))
        (or_cases form.terms.immediate has_room after_room.0)

    neat_view : NeatView side s.issued view
    neat_view = neat_facing side s.issued s.books sane.neat

    went_so : Course trade_made (MatchedIn s.increment away entry.large number) s.books placing.trades (seen_from side met)
    went_so =
        subst (λ b. Course trade_made (MatchedIn s.increment away entry.large number) b placing.trades (seen_from side met)) (seen_facing side s.books)
        (met_went side entry s.increment away places dark_places view s.issued neat_view sane.two refl (form_bound form) (form_shares form) room).course

    left_so : Left side entry s.increment away places dark_places view s.issued neat_view sane.two refl (form_bound form) (form_shares form) room placing.view
    left_so = placed_left side entry s.increment away places dark_places view s.issued neat_view sane.two refl (form_bound form) (form_shares form) room

    then_neat : Neat number then.books
    then_neat = neat_seen side number placing.view left_so.neat_then

    -- the rest on the tape

    abbrev rest_order : Standing
    rest_order = record { number = number; price = bound form; shares = placing.rest }

    abbrev ending_at : Bool → Tape
    ending_at b = cond b (tape.booked side entry.displayed rest_order ∷ []) []

    ending_replay : (b : Bool) → replay_all (with_books given (seen_from side met)) (ending_at b) ≡ with_books given (seen_from side (cond b (booked_view (own_rule side) entry.displayed rest_order met) met))
    ending_replay true = ap (with_books given) (seen_booked side entry.displayed rest_order met)
    ending_replay false = refl

    ending_moments : (b : Bool) (x : State) (seen : Tape) → Moments x seen (ending_at b)
    ending_moments true x seen = (tt, tt)
    ending_moments false x seen = tt

    ending_trades : (b : Bool) → trades_in (ending_at b) ≡ []
    ending_trades true = refl
    ending_trades false = refl

    abbrev booked_so : Bool
    booked_so = is_booked placing.way

    -- the parts of the tape after the number, and the states between them

    matched_replay : replay_all given (trading placing.trades) ≡ with_books given (seen_from side met)
    matched_replay = course_replay (MatchedIn s.increment away entry.large number) given placing.trades (seen_from side met) went_so

    ended_replay : replay_all (with_books given (seen_from side met)) (ending_at booked_so) ≡ then
    ended_replay = ending_replay booked_so ∙ ap (λ v. with_books given (seen_from side v)) (sym left_so.view_is)

    look_so : LookKept then (looked_after s form)
    look_so = looked_kept then sane.two then_neat

    abbrev after_number : Tape
    after_number = trading placing.trades ++ (ending_at booked_so ++ trading (looked_after s form).trades)

    whole_replay : replay_all given after_number ≡ with_books then (looked_after s form).state
    whole_replay =
        replay_append given (trading placing.trades) (ending_at booked_so ++ trading (looked_after s form).trades)
        ∙ ap (λ x. replay_all x (ending_at booked_so ++ trading (looked_after s form).trades)) matched_replay
        ∙ replay_append (with_books given (seen_from side met)) (ending_at booked_so) (trading (looked_after s form).trades)
        ∙ ap (λ x. replay_all x (trading (looked_after s form).trades)) ended_replay ∙ look_so.replayed

    matched_moments : (seen : Tape) → Moments given (seen ++ (tape.numbered number form ∷ [])) (trading placing.trades)
    matched_moments seen =
        course_moments (MatchedIn s.increment away entry.large number) (λ l. form_of l number ≡ Some form) given
        (λ l t is. form_kept l number form t is)
        (λ b l t judged is. judged_at (large form) l (with_books given b) t form (ap (form_of l) judged.1 ∙ is) (λ small. small) judged.0)
        s.books (seen ++ (tape.numbered number form ∷ [])) placing.trades (seen_from side met) (form_given seen number form) went_so

    whole_moments : (seen : Tape) → Given seen s.issued → Moments given (seen ++ (tape.numbered number form ∷ [])) after_number
    whole_moments seen before =
        let l = seen ++ (tape.numbered number form ∷ []) in
        moments_append given l (trading placing.trades) (ending_at booked_so ++ trading (looked_after s form).trades) (matched_moments seen)
        (subst (λ x. Moments x (l ++ trading placing.trades) (ending_at booked_so ++ trading (looked_after s form).trades)) (sym matched_replay)
        (moments_append (with_books given (seen_from side met)) (l ++ trading placing.trades) (ending_at booked_so) (trading (looked_after s form).trades)
        (ending_moments booked_so (with_books given (seen_from side met)) (l ++ trading placing.trades))
        (subst (λ x. Moments x ((l ++ trading placing.trades) ++ ending_at booked_so) (trading (looked_after s form).trades)) (sym ended_replay)
        (look_so.moments ((l ++ trading placing.trades) ++ ending_at booked_so)
        (given_more (l ++ trading placing.trades) (ending_at booked_so) number (given_more l (trading placing.trades) number (given_one_more seen [] s.issued form before)))))))

    whole_trades : trades_in after_number ≡ placing.trades ++ (looked_after s form).trades
    whole_trades =
        trades_append (trading placing.trades) (ending_at booked_so ++ trading (looked_after s form).trades)
        ∙ ap (λ a. a ++ trades_in (ending_at booked_so ++ trading (looked_after s form).trades)) (trades_trading placing.trades)
        ∙ ap (λ b. placing.trades ++ b)
        (trades_append (ending_at booked_so) (trading (looked_after s form).trades)
        ∙ ap (λ a. a ++ trades_in (trading (looked_after s form).trades)) (ending_trades booked_so) ∙ trades_trading (looked_after s form).trades)

    accepted_kept : CallKept s n (noted (line.Entry form.terms form.class) (entered_by s form placing (looked_after s form))) (entry_tape s form)
    accepted_kept = record {
      sane = record {
        two = sane.two;
        neat = look_so.neat;
        unmet = λ _. no_pair_left s.increment away then.books (neat_sounds number then.books then_neat);
      };
      replayed = whole_replay;
      moments = λ seen before. (tt, whole_moments seen before);
      given = λ seen before. given_one_more seen after_number s.issued form before;
      recorded = whole_trades;
      counted = sym (length-append placing.trades (looked_after s form).trades);
      fits = fits_list s n (entry_refusal s form n) (entered_by s form placing (looked_after s form)) accepted ((trades_fit s (neat_sounds s.issued s.books sane.neat)).entry form n) enough;
      weighed = λ k.
          omega (
            arith,
            left_so.weighed k,
            look_so.weighed k,
            amount_facing side s.books k,
            amount_seen side placing.view k,
            traded_append k placing.trades (looked_after s form).trades,
          );
    }

  entry_checked : (o : Option Refusal) → (o ≡ None → CallKept s n (noted (line.Entry form.terms form.class) (entered_by s form placing (looked_after s form))) (entry_tape s form)) → CallKept s n (noted (line.Entry form.terms form.class) (unless o s (entered_by s form placing (looked_after s form)))) (if_taken (unless o s (entered_by s form placing (looked_after s form))).answer (entry_tape s form))
  entry_checked None taken = taken refl
  entry_checked (Some e) taken = refused_kept s n (line.Entry form.terms form.class (Err e)) sane (record { count = refl; entered = λ k. refl; cancelled = λ k. refl })

  pub enter_kept : CallKept s n (made s (Enter form) n) (happened s (Enter form) n)
  enter_kept = entry_checked (entry_refusal s form n) accepted_kept
