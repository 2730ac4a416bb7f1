-- What a caller knows of a form from which case the answer is.
use Rattle.std.proofs.Common.{◌≡◌, ℕ, Some, None, Ok, Err, Option, sym, refl, ap, ◌∙◌}
use Rattle.rules.specs.Forms.{form_refusal, Restated, with}
use Rattle.rules.specs.Refusals.{Answers}
use Rattle.rules.specs.declared.form.Form.{Form}
use Rattle.rules.specs.declared.form.HandedBack.{HandedBack}
use Rattle.rules.specs.declared.refusal.Refusal.{Refusal}

module _ {X Y : Type 0} (P : X → Type 0) (Q : Refusal → Y → Type 0) where
  pub accepted : (o : Option Refusal) (x : X) → Answers o P Q (Ok x) → (o ≡ None) × P x
  accepted None x h = (refl, h)
  accepted (Some e) x h = absurd h

  pub refused : (o : Option Refusal) (y : Y) → Answers o P Q (Err y) → (e : Refusal) × (o ≡ Some e) × Q e y
  refused None y h = absurd h
  refused (Some e) y h = (e, refl, h)

-- why a form would not be restated to this price and quantity
abbrev pub restated_refusal : Form → (limit shares : ℕ) → Option Refusal
restated_refusal form limit shares = form_refusal form.class.increment form.class.unit limit shares

pub restated : (old form : Form) (limit shares : ℕ) → Restated old limit shares (Ok form) → (restated_refusal old limit shares ≡ None) × ((form.terms ≡ with old.terms limit shares) × (form.class ≡ old.class))
restated old form limit shares h =
    accepted (λ f. (f.terms ≡ with old.terms limit shares) × (f.class ≡ old.class))
    (λ (e : Refusal) (back : HandedBack). (back.refusal ≡ e) × (back.form ≡ old)) (restated_refusal old limit shares) form h

pub not_restated : (old : Form) (limit shares : ℕ) (back : HandedBack) → Restated old limit shares (Err back) → (restated_refusal old limit shares ≡ Some back.refusal) × (back.form ≡ old)
not_restated old limit shares back h =
    let no =
    refused (λ (f : Form). (f.terms ≡ with old.terms limit shares) × (f.class ≡ old.class))
    (λ (e : Refusal) (b : HandedBack). (b.refusal ≡ e) × (b.form ≡ old)) (restated_refusal old limit shares) back h in
    (no.1 ∙ ap Some (sym no.2.0), no.2.1)
