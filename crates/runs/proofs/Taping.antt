-- Tapes: replaying one after another, and the moments of their trades.
use Rattle.std.proofs.Common.{◌≡◌, ℕ, ◌+◌, ◌<◌, ◌≤◌, Bool, true, false, cond, not, List, [], ◌∷◌, ◌++◌, Some, None, Option, sym, refl, ap, ◌∙◌, subst, ⊎_elim, append_assoc, append-nil, arith}
use Rattle.std.proofs.lemmas.Bool.{eq-eqb, cases_lt}
use Rattle.books.specs.Lists.{find}
use Rattle.market.specs.Calls.{State, with_books}
use Rattle.market.specs.Quoting.{away_of}
use Rattle.matching.specs.Sets.{own_rule, own_list}
use Rattle.matching.specs.Looking.{Books}
use Rattle.matching.specs.Matching.{front_price}
use Rattle.matching.specs.declared.trade.Trade.{Trade}
use Rattle.rules.specs.Better.{better, best_of, placed}
use Rattle.rules.specs.Forms.{large}
use Rattle.rules.specs.declared.form.Form.{Form}
use Rattle.rules.specs.declared.terms.SideName.{SideName}
use Rattle.rules.specs.declared.terms.SideName.TheVariants.{Bid, Ask}
use Rattle.runs.proofs.Courses.{Course}
use Rattle.runs.proofs.Facing.{opposite, JudgedIn}
use Rattle.runs.specs.Days.{trading}
use Rattle.runs.specs.Law.{TradeAt, EveryTrade, is_better}
use Rattle.runs.specs.Tapes.{Happening, Tape, numbered, traded, booked, withdrawn, noticed, set_aside, moved, replay, replay_all, trades_in, first_form, form_in, form_of, trade_made}

pub replay_append : (s : State) (a b : Tape) → replay_all s (a ++ b) ≡ replay_all (replay_all s a) b
replay_append s [] b = refl
replay_append s (h ∷ a) b = replay_append (replay s h) a b

pub trades_append : (a b : Tape) → trades_in (a ++ b) ≡ trades_in a ++ trades_in b
trades_append [] b = refl
trades_append (numbered number form ∷ a) b = trades_append a b
trades_append (traded t ∷ a) b = ap (λ ts. t ∷ ts) (trades_append a b)
trades_append (booked side displayed o ∷ a) b = trades_append a b
trades_append (withdrawn number ∷ a) b = trades_append a b
trades_append (noticed m side price ∷ a) b = trades_append a b
trades_append (set_aside m ∷ a) b = trades_append a b
trades_append (moved phase ∷ a) b = trades_append a b

pub trades_trading : (ts : List Trade) → trades_in (trading ts) ≡ ts
trades_trading [] = refl
trades_trading (t ∷ ts) = ap (λ us. t ∷ us) (trades_trading ts)

first_of_three : (a b c : Option Form) → first_form (first_form a b) c ≡ first_form a (first_form b c)
first_of_three None b c = refl
first_of_three (Some form) b c = refl

form_append : (a b : Tape) (n : ℕ) → form_of (a ++ b) n ≡ first_form (form_of b n) (form_of a n)
form_append [] b n = none_last (form_of b n)
  where
    none_last : (o : Option Form) → o ≡ first_form o None
    none_last None = refl
    none_last (Some form) = refl
form_append (h ∷ a) b n = ap (λ o. first_form o (form_in h n)) (form_append a b n) ∙ first_of_three (form_of b n) (form_of a n) (form_in h n)

pub form_given : (seen : Tape) (n : ℕ) (form : Form) → form_of (seen ++ (numbered n form ∷ [])) n ≡ Some form
form_given seen n form =
    form_append seen (numbered n form ∷ []) n
    ∙ ap (λ b. first_form (first_form None (cond b (Some form) None)) (form_of seen n)) (eq-eqb n n refl)

pub form_kept : (seen : Tape) (n : ℕ) (form : Form) (t : Trade) → form_of seen n ≡ Some form → form_of (seen ++ (traded t ∷ [])) n ≡ Some form
form_kept seen n form t is = form_append seen (traded t ∷ []) n ∙ is

-- what holds at each moment, after what was seen before
abbrev pub At : (seen : Tape) → State → Happening → Type 0
At seen s (numbered number form) = Unit {0}
At seen s (traded t) = TradeAt seen s t
At seen s (booked side displayed o) = Unit {0}
At seen s (withdrawn number) = Unit {0}
At seen s (noticed m side price) = Unit {0}
At seen s (set_aside m) = Unit {0}
At seen s (moved phase) = Unit {0}

abbrev pub Moments : State → (seen : Tape) → Tape → Type 0
Moments s seen [] = Unit {0}
Moments s seen (h ∷ tape) = At seen s h × Moments (replay s h) (seen ++ (h ∷ [])) tape

pub moments_append : (s : State) (seen a b : Tape) → Moments s seen a → Moments (replay_all s a) (seen ++ a) b → Moments s seen (a ++ b)
moments_append s seen [] b first then = subst (λ l. Moments s l b) (append-nil seen) then
moments_append s seen (h ∷ a) b first then =
    (first.0, moments_append (replay s h) (seen ++ (h ∷ [])) a b first.1 (subst (λ l. Moments (replay_all (replay s h) a) l b) (sym (append_assoc seen (h ∷ []) a)) then))

moments_cut : (s : State) (seen before after : Tape) (t : Trade) → Moments s seen (before ++ (traded t ∷ after)) → At (seen ++ before) (replay_all s before) (traded t)
moments_cut s seen [] after t m = subst (λ l. At l s (traded t)) (sym (append-nil seen)) m.0
moments_cut s seen (h ∷ before) after t m =
    subst (λ l. At l (replay_all (replay s h) before) (traded t)) (append_assoc seen (h ∷ []) before) (moments_cut (replay s h) (seen ++ (h ∷ [])) before after t m.1)

pub every_trade : (s : State) (tape : Tape) → Moments s [] tape → EveryTrade s tape
every_trade s tape m before after t is = moments_cut s [] before after t (subst (Moments s []) is m)

-- A course of trades from the books of a state

pub course_replay : (Q : Books → Trade → Type 0) (s : State) (ts : List Trade) (end : Books) → Course trade_made Q s.books ts end → replay_all s (trading ts) ≡ with_books s end
course_replay Q s [] end c = ap (with_books s) c
course_replay Q s (t ∷ ts) end c = course_replay Q (with_books s (trade_made t s.books)) ts end c.1

pub course_moments : (Q : Books → Trade → Type 0) (G : Tape → Type 0) (s : State) → ((seen : Tape) (t : Trade) → G seen → G (seen ++ (traded t ∷ []))) → ((b : Books) (seen : Tape) (t : Trade) → Q b t → G seen → At seen (with_books s b) (traded t)) → (b : Books) (seen : Tape) (ts : List Trade) (end : Books) → G seen → Course trade_made Q b ts end → Moments (with_books s b) seen (trading ts)
course_moments Q G s keeps judge b seen [] end g c = tt
course_moments Q G s keeps judge b seen (t ∷ ts) end g c =
    (judge b seen t c.0 g, course_moments Q G s keeps judge (trade_made t b) (seen ++ (traded t ∷ [])) ts end (keeps seen t g) c.1)

best_same : (standing : SideName) (s : State) (p : ℕ) → better (own_rule standing) s.increment (best_of (placed (own_rule standing).name (front_price (own_list standing true s.books)) (front_price (own_list (opposite standing) true s.books))) (away_of s.quotes)) p ≡ is_better s standing p
best_same Bid s p = refl
best_same Ask s p = refl

kind_same : (standing : SideName) (dark : Bool) (b : Books) → own_list standing (not dark) b ≡ cond dark (own_list standing false b) (own_list standing true b)
kind_same standing true b = refl
kind_same standing false b = refl

-- an active order that was small counts as such
pub judged_at : (is_large : Bool) (seen : Tape) (s : State) (t : Trade) (form : Form) → form_of seen t.active ≡ Some form → (large form ≡ false → is_large ≡ false) → JudgedIn s.increment (away_of s.quotes) is_large s.books t → At seen s (traded t)
judged_at is_large seen s t form given sized judged =
    let judgement = judged.1 in
    record {
      side = judged.0;
      order = judgement.order;
      stands = ap (find t.standing) (kind_same judged.0 t.dark s.books) ∙ judgement.stands;
      price = judgement.price;
      enough = judgement.enough;
      form = form;
      entered = given;
      before_displayed = judgement.before_displayed;
      small_better = λ dark small. sym (best_same judged.0 s t.price) ∙ judgement.better_if_small dark (sized small);
    }

-- Each number given so far has its form on the tape

abbrev pub Given : Tape → (issued : ℕ) → Type 0
Given seen issued = (n : ℕ) → 1 ≤ n → n ≤ issued → (form : Form) × (form_of seen n ≡ Some form)

first_some : (a : Option Form) (form : Form) → (found : Form) × (first_form a (Some form) ≡ Some found)
first_some None form = (form, refl)
first_some (Some other) form = (other, refl)

pub given_more : (seen more : Tape) (issued : ℕ) → Given seen issued → Given (seen ++ more) issued
given_more seen more issued given n some few =
    let f = given n some few in
    let g = first_some (form_of more n) f.0 in
    (g.0, form_append seen more n ∙ ap (first_form (form_of more n)) f.1 ∙ g.1)

pub given_one_more : (seen more : Tape) (issued : ℕ) (form : Form) → Given seen issued → Given (seen ++ (numbered (issued + 1) form ∷ more)) (issued + 1)
given_one_more seen more issued form given n some few =
    ⊎_elim
    (λ (old : n < issued + 1). given_more seen (numbered (issued + 1) form ∷ more) issued given n some (omega arith))
    (λ (new : issued + 1 ≤ n).
    let same : n ≡ issued + 1 = omega arith in
    let g = first_some (form_of more (issued + 1)) form in
    subst (λ k. (f : Form) × (form_of (seen ++ (numbered (issued + 1) form ∷ more)) k ≡ Some f)) (sym same) (
      g.0,
      form_append seen (numbered (issued + 1) form ∷ more) (issued + 1)
          ∙ ap (λ b. first_form (first_form (form_of more (issued + 1)) (cond b (Some form) None)) (form_of seen (issued + 1))) (eq-eqb (issued + 1) (issued + 1) refl)
          ∙ ap (λ o. first_form o (form_of seen (issued + 1))) g.1,
    ))
    (cases_lt n (issued + 1))
