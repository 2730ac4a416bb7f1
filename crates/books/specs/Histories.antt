-- Lists that began empty, whatever was asked of them since, and how their orders stand.
use Rattle.std.specs.Prelude.{◌≡◌, ℕ, ◌<◌, ◌≤◌, Bool, false, cond, ◌&&◌, List, [], ◌∷◌, length, is_ok, ◌==◌, ◌≢◌}
use Rattle.rules.specs.Sides.{Rule}
use Rattle.books.specs.Lists.{added, taken, removed}
use Rattle.books.specs.declared.standing.Standing.{Standing}

pub data Change : Type 0 where
  add : Standing → Change
  take : (shares : ℕ) → Change
  remove : (number : ℕ) → Change

-- accepted or refused
abbrev pub changed : Rule → (places : ℕ) → List Standing → Change → List Standing
changed rule places orders (add o) = (added rule places orders o).list
changed rule places orders (take shares) = (taken orders shares).list
changed rule places orders (remove number) = (removed number orders).list

-- A history is a list of changes, the latest first.

abbrev pub after : Rule → (places : ℕ) → (history : List Change) → List Standing
after rule places [] = []
after rule places (change ∷ earlier) = changed rule places (after rule places earlier) change

abbrev pub accepts : Rule → (places : ℕ) → List Standing → Standing → Bool
accepts rule places orders o = is_ok (added rule places orders o).answer

-- the history up to the latest accepted add of the number, that add first; empty where there was none
abbrev pub brought : Rule → (places : ℕ) → (history : List Change) → (number : ℕ) → List Change
brought rule places [] number = []
brought rule places (add o ∷ earlier) number =
    cond (o.number == number && accepts rule places (after rule places earlier) o) (add o ∷ earlier)
    (brought rule places earlier number)
brought rule places (take shares ∷ earlier) number = brought rule places earlier number
brought rule places (remove other ∷ earlier) number = brought rule places earlier number

-- the add that the history ends with brought this order
abbrev pub Brings : List Change → Standing → Type 0
Brings [] x = ⊥
Brings (add o ∷ earlier) x = (o.number ≡ x.number) × (o.price ≡ x.price) × (x.shares ≤ o.shares)
Brings (take shares ∷ earlier) x = ⊥
Brings (remove number ∷ earlier) x = ⊥

abbrev pub Each : (Standing → Type 0) → List Standing → Type 0
Each P [] = Unit {0}
Each P (o ∷ os) = P o × Each P os

-- R holds of each order and every order behind it
abbrev pub Pairs : (Standing → Standing → Type 0) → List Standing → Type 0
Pairs R [] = Unit {0}
Pairs R (o ∷ os) = Each (R o) os × Pairs R os

-- x may stand before y: y's price does not come first, at equal prices x arrived earlier, and the numbers differ
abbrev pub Before : Rule → (came : ℕ → List Change) → (x y : Standing) → Type 0
Before rule came x y =
    (rule.ahead y.price x.price ≡ false) ×
    (x.price ≡ y.price → length (came x.number) < length (came y.number)) ×
    (x.number ≢ y.number)

abbrev pub RunsByPriority : Rule → Type 0
RunsByPriority rule =
    (places : ℕ) (history : List Change) →
    Pairs (Before rule (brought rule places history)) (after rule places history) ×
    Each (λ o. Brings (brought rule places history o.number) o) (after rule places history)
