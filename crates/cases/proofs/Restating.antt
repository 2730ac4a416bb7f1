-- A form is valid at its own price and quantity, so it can be restated to them.
use Rattle.std.proofs.Common.{◌≡◌, ℕ, None, Ok, Err, Result, ap, ◌∙◌, arith}
use Rattle.cases.specs.Callers.{MovedAndBack}
use Rattle.rules.proofs.Answering.{restated_refusal, restated, not_restated}
use Rattle.rules.specs.Forms.{form_refusal, Restated, with}
use Rattle.rules.specs.declared.form.Form.{Form}
use Rattle.rules.specs.declared.form.HandedBack.{HandedBack}
use Rattle.rules.specs.declared.sheet.Class.{Class}
use Rattle.rules.specs.declared.terms.Terms.{Terms}

own_terms : (form : Form) → restated_refusal form form.terms.limit form.terms.shares ≡ None
own_terms form = rw (form.priced, form.sized)

pub restated_back : (form moved : Form) (limit : ℕ) (r : Result Form HandedBack) → Restated form limit form.terms.shares (Ok moved) → Restated moved form.terms.limit form.terms.shares r → MovedAndBack form limit r
restated_back form moved limit (Ok again) first second =
    let there = restated form moved limit form.terms.shares first in
    let back = restated moved again form.terms.limit form.terms.shares second in
    let same : again.terms ≡ form.terms =
    back.1.0 ∙ ap (λ (t : Terms). with t form.terms.limit form.terms.shares) there.1.0 in
    rw there.0 (same, back.1.1 ∙ there.1.1)
restated_back form moved limit (Err kept) first second =
    let there = restated form moved limit form.terms.shares first in
    let valid : restated_refusal moved form.terms.limit form.terms.shares ≡ None =
    ap (λ (k : Class). form_refusal k.increment k.unit form.terms.limit form.terms.shares) there.1.1 ∙ own_terms form in
    let no = (not_restated moved form.terms.limit form.terms.shares kept second).0 in
    let z : ◌≡◌ {A = ℕ} 0 1 = cc (valid, no) in
    absurd (let clash : ⊥ = omega arith in clash)
