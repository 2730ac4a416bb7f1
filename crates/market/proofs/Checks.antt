-- An entry that a check refuses.
use Rattle.std.proofs.Common.{◌≡◌, List, Some, None, Err, Option, sym, refl, subst}
use Rattle.market.specs.Calls.{State, Done, unless, AnswersEntry}
use Rattle.market.specs.declared.answers.Entered.{Entered}
use Rattle.matching.specs.Trades.{written}
use Rattle.matching.specs.declared.trade.Trade.{Trade}
use Rattle.rules.specs.Refusals.{passed}
use Rattle.rules.specs.declared.form.Form.{Form}
use Rattle.rules.specs.declared.refusal.Refusal.{Refusal}

-- the refusal is answered with the form, and everything stays
pub record Refused (s : State) (list : List Trade) (form : Form) (e : Refusal) (done : Done Entered) : Type 0 where
  pub answer : AnswersEntry done.answer form (Err (record { refusal = e; form = form }))
  pub state : s ≡ done.state
  pub listed : list ≡ written done.trades list

refused_with : (o : Option Refusal) (e : Refusal) → Err e ≡ passed o → o ≡ Some e
refused_with None e h = cc
refused_with (Some d) e h = cc

pub entry_refused : (o : Option Refusal) (s : State) (list : List Trade) (form : Form) (e : Refusal) (done : Done Entered) → Err e ≡ passed o → Refused s list form e (unless o s done)
entry_refused o s list form e done h =
    subst (λ p. Refused s list form e (unless p s done)) (sym (refused_with o e h))
    (record { answer = (refl, refl); state = refl; listed = refl })
