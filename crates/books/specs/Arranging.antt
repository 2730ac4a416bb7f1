-- Orders by arrival: what is kept of them, and how they are arranged by priority.
use Rattle.std.specs.Prelude.{ℕ, ◌+◌, ◌≤◌, Bool, true, cond, ◌&&◌, List, [], ◌∷◌, ◌==◌}
use Rattle.rules.specs.Sides.{Rule}
use Rattle.books.specs.Lists.{sound, put}
use Rattle.books.specs.declared.standing.Standing.{Standing}

abbrev pub all_sound : List Standing → Bool
all_sound [] = true
all_sound (o ∷ os) = sound o && all_sound os

-- how many orders have the number
abbrev pub tally : (number : ℕ) → List Standing → ℕ
tally number [] = 0
tally number (o ∷ os) = cond (o.number == number) 1 0 + tally number os

-- no number stands twice
abbrev pub Distinct : List Standing → Type 0
Distinct orders = (number : ℕ) → tally number orders ≤ 1

-- each arrival, oldest first, put into the list that is there
abbrev pub arrange : Rule → (arrivals list : List Standing) → List Standing
arrange rule [] list = list
arrange rule (o ∷ os) list = arrange rule os (put rule o list)

abbrev pub arranged : Rule → (arrivals : List Standing) → List Standing
arranged rule arrivals = arrange rule arrivals []
