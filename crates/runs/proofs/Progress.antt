-- Playing turn after turn: the calls made so far, and what is noted of them.
use Rattle.std.proofs.Common.{◌≡◌, ℕ, ◌-◌, min, Bool, true, false, List, [], ◌∷◌, ◌++◌, length, take, is_ok, is_err, Ok, Err, Result, sym, refl, ap, ◌∙◌, subst, append_assoc, append-nil, arith, length-append, length-take}
use Rattle.std.proofs.lemmas.Bool.{both_ways}
use Rattle.market.specs.Calls.{State, fresh}
use Rattle.matching.specs.Sets.{Rooms}
use Rattle.matching.specs.declared.trade.Trade.{Trade}
use Rattle.rules.specs.declared.sheet.DaySheet.{DaySheet}
use Rattle.runs.specs.Days.{Asked, made, wrote, day}
use Rattle.runs.proofs.Lawful.{law_of_runs}
use Rattle.runs.specs.Law.{Law}
use Rattle.runs.specs.Plays.{FirstOf, Plays, PlaysDay}
use Rattle.runs.specs.declared.call.Line.{Line}
use Rattle.runs.specs.declared.turn.Turn.{Turn}

-- one call more

day_more_state : (s : State) (asked : List Asked) (a : Asked) → (day s (asked ++ (a ∷ []))).state ≡ (made (day s asked).state a.call (length a.list)).state
day_more_state s [] a = refl
day_more_state s (x ∷ asked) a = day_more_state (made s x.call (length x.list)).state asked a

day_more_lines : (s : State) (asked : List Asked) (a : Asked) → (day s (asked ++ (a ∷ []))).lines ≡ (day s asked).lines ++ ((made (day s asked).state a.call (length a.list)).line ∷ [])
day_more_lines s [] a = refl
day_more_lines s (x ∷ asked) a = ap (λ r. (made s x.call (length x.list)).line ∷ r) (day_more_lines (made s x.call (length x.list)).state asked a)

day_more_records : (s : State) (asked : List Asked) (a : Asked) → (day s (asked ++ (a ∷ []))).records ≡ (day s asked).records ++ wrote (made (day s asked).state a.call (length a.list)) a.list
day_more_records s [] a = append-nil (wrote (made s a.call (length a.list)) a.list)
day_more_records s (x ∷ asked) a =
    let m = made s x.call (length x.list) in
    ap (λ r. wrote m x.list ++ r) (day_more_records m.state asked a)
    ∙ sym (append_assoc (wrote m x.list) (day m.state asked).records (wrote (made (day m.state asked).state a.call (length a.list)) a.list))

first_more : (longest : ℕ) (asked : List Asked) (done : List Turn) (a : Asked) (turn : Turn) → FirstOf longest asked done → length asked ≡ length done → a.call ≡ turn.call → length a.list ≡ min turn.lent longest → FirstOf longest (asked ++ (a ∷ [])) (done ++ (turn ∷ []))
first_more longest [] [] a turn f even call lent = (call, lent, tt)
first_more longest [] (d ∷ done) a turn f even call lent = absurd (let no : ⊥ = omega arith in no)
first_more longest (x ∷ asked) [] a turn f even call lent = absurd f
first_more longest (x ∷ asked) (d ∷ done) a turn f even call lent = (f.0, f.1, first_more longest asked done a turn f.2 (omega arith) call lent)

first_of_more : (longest : ℕ) (asked : List Asked) (done rest : List Turn) → FirstOf longest asked done → FirstOf longest asked (done ++ rest)
first_of_more longest [] done rest f = tt
first_of_more longest (x ∷ asked) [] rest f = absurd f
first_of_more longest (x ∷ asked) (d ∷ done) rest f = (f.0, f.1, first_of_more longest asked done rest f.2)

pub record Progress (start : State) (longest : ℕ) (turns rest : List Turn) (lines : List Line) (records : List Trade) (now_at : State) : Type 0 where
  pub asked : List Asked
  pub done : List Turn
  pub split : turns ≡ done ++ rest
  pub first : FirstOf longest asked done
  pub even : length asked ≡ length done
  pub lines_are : lines ≡ (day start asked).lines
  pub records_are : records ≡ (day start asked).records
  pub state_is : now_at ≡ (day start asked).state

pub none_yet : (start : State) (longest : ℕ) (turns : List Turn) (lines : List Line) (records : List Trade) → lines ≡ [] → records ≡ [] → Progress start longest turns turns lines records start
none_yet start longest turns lines records no_lines no_records = record {
  asked = [];
  done = [];
  split = refl;
  first = tt;
  even = refl;
  lines_are = no_lines;
  records_are = no_records;
  state_is = refl;
}

module _ (start : State) (longest : ℕ) (turns rest : List Turn) (lines : List Line) (records : List Trade) (at : State) (p : Progress start longest turns rest lines records at) where
  -- a turn was played, with this list lent
  pub one_more : (turn : Turn) (more : List Turn) (list : List Trade) (lines' : List Line) (records' : List Trade) (at' : State) → rest ≡ turn ∷ more → length list ≡ min turn.lent longest → lines' ≡ lines ++ ((made at turn.call (length list)).line ∷ []) → records' ≡ records ++ wrote (made at turn.call (length list)) list → at' ≡ (made at turn.call (length list)).state → Progress start longest turns more lines' records' at'
  one_more turn more list lines' records' at' next lent lines_more records_more state_more =
      let a : Asked = record { call = turn.call; list = list } in
      record {
        asked = p.asked ++ (a ∷ []);
        done = p.done ++ (turn ∷ []);
        split = p.split ∙ ap (λ r. p.done ++ r) next ∙ sym (append_assoc p.done (turn ∷ []) more);
        first = first_more longest p.asked p.done a turn p.first p.even refl lent;
        even = omega (arith, p.even, length-append p.asked (a ∷ []), length-append p.done (turn ∷ []));
        lines_are =
            lines_more ∙ ap (λ l. l ++ ((made at turn.call (length list)).line ∷ [])) p.lines_are
            ∙ ap (λ s. (day start p.asked).lines ++ ((made s turn.call (length list)).line ∷ [])) p.state_is ∙ sym (day_more_lines start p.asked a);
        records_are =
            records_more ∙ ap (λ l. l ++ wrote (made at turn.call (length list)) list) p.records_are
            ∙ ap (λ s. (day start p.asked).records ++ wrote (made s turn.call (length list)) list) p.state_is ∙ sym (day_more_records start p.asked a);
        state_is = state_more ∙ ap (λ s. (made s turn.call (length list)).state) p.state_is ∙ sym (day_more_state start p.asked a);
      }

  -- it ends, with this left as it was: where no turn is left, or memory failed
  pub plays_so : (all_turns : List Turn) (whole : Bool) (lines' : List Line) (records' : List Trade) (at' : State) → turns ≡ all_turns → lines' ≡ lines → records' ≡ records → at' ≡ at → (whole ≡ true → rest ≡ []) → Plays start longest all_turns whole lines' records' at'
  plays_so all_turns whole lines' records' at' same lines_stay records_stay state_stays ends = record {
    asked = p.asked;
    first = subst (FirstOf longest p.asked) (sym p.split ∙ same) (first_of_more longest p.asked p.done rest p.first);
    all = λ is. p.even ∙ ap length (sym (p.split ∙ ap (λ r. p.done ++ r) (ends is) ∙ append-nil p.done) ∙ same);
    lines_are = lines_stay ∙ p.lines_are;
    records_are = records_stay ∙ p.records_are;
    state_is = state_stays ∙ p.state_is;
  }

pub lent_part : (end lent longest : ℕ) (list : List Trade) → end ≡ min lent (length list) → length list ≡ longest → length (take (end - 0) list) ≡ min lent longest
lent_part end lent longest list is long = omega (arith, length-take (end - 0) list)

pub not_ok : {X E : Type 0} (r : Result X E) → is_err r ≡ true → is_ok r ≡ true → ⊥
not_ok (Ok x) bad good = both_ways false refl bad
not_ok (Err e) bad good = both_ways false refl good

-- From the opening on, the law holds of what is noted

pub plays_day : (sheet : DaySheet) (rooms : Rooms) (start : State) (longest : ℕ) (turns : List Turn) (whole : Bool) (lines : List Line) (records : List Trade) (end : State) → start ≡ fresh sheet rooms → Plays start longest turns whole lines records end → PlaysDay sheet rooms longest turns whole lines records end
plays_day sheet rooms start longest turns whole lines records end opened played =
    let plays = subst (λ s. Plays s longest turns whole lines records end) opened played in
    let d = day (fresh sheet rooms) plays.asked in
    let law = law_of_runs sheet rooms plays.asked in
    let with_lines = subst (λ l. Law (fresh sheet rooms) (record { lines = l; records = d.records; tape = d.tape; state = d.state })) (sym plays.lines_are) law in
    let with_records = subst (λ r. Law (fresh sheet rooms) (record { lines = lines; records = r; tape = d.tape; state = d.state })) (sym plays.records_are) with_lines in
    record {
      plays = plays;
      tape = d.tape;
      tape_is = refl;
      law = subst (λ s. Law (fresh sheet rooms) (record { lines = lines; records = records; tape = d.tape; state = s })) (sym plays.state_is) with_records;
    }
