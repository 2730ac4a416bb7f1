-- What an entry's answer is, from which case the call gave.
use Rattle.std.proofs.Common.{◌≡◌, Ok, Err, Result, ap}
use Rattle.market.specs.Calls.{AnswersEntry}
use Rattle.market.specs.declared.answers.Entered.{Entered}
use Rattle.rules.specs.declared.form.Form.{Form}
use Rattle.rules.specs.declared.form.HandedBack.{HandedBack}
use Rattle.rules.specs.declared.refusal.Refusal.{Refusal}

pub refused_is : (a : Result Entered Refusal) (form : Form) (back : HandedBack) → AnswersEntry a form (Err back) → Err back.refusal ≡ a
refused_is (Ok b) form back h = absurd h
refused_is (Err r) form back h = ap Err h.0
