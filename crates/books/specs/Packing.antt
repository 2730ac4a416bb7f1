-- What a packed book says of the orders that it holds by arrival, the oldest first.
use Rattle.std.specs.Prelude.{◌≡◌, ℕ, ◌+◌, ◌-◌, ◌<◌, List, length, get_or, drop, Some, None, Option, ◌≢◌, slice_index_or, slice_set}
use Rattle.std.proofs.Math.Seq.{paste}
use Rattle.rules.specs.Sides.{Rule}
use Rattle.books.specs.Arranging.{arranged}
use Rattle.books.specs.Lists.{front_of}
use Rattle.books.specs.declared.standing.Standing.{Standing}

abbrev pub blank : Standing
blank = record { number = 0; price = 0; shares = 0 }

-- of bare spots: those behind the index move down by one, and the last is cleared
abbrev pub moved_down : List Standing → (index end : ℕ) → List Standing
moved_down spots index end =
    slice_set (paste spots index (drop (index + 1) spots) (end - (index + 1))) (end - 1) blank

-- the place of an order with the number, if there is one
abbrev pub Place : (number : ℕ) → (arrivals : List Standing) → Option ℕ → Type 0
Place number arrivals None = (k : ℕ) → k < length arrivals → (get_or arrivals k blank).number ≢ number
Place number arrivals (Some i) = (i < length arrivals) × ((get_or arrivals i blank).number ≡ number)

-- the place of the first by priority, if there is one
abbrev pub Front : Rule → (arrivals : List Standing) → Option ℕ → Type 0
Front rule arrivals None = length arrivals ≡ 0
Front rule arrivals (Some i) =
    (i < length arrivals) × (front_of (arranged rule arrivals) ≡ Some (slice_index_or arrivals i blank))
