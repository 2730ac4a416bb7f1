-- The ways in which what is left of an entry ends: their numbers, what becomes of the rest, and which one it is.
use Rattle.std.specs.Prelude.{ℕ, Bool, false, cond, not, ◌&&◌, Some, None, Option, ◌==◌}
use Rattle.rules.specs.Sides.{Rule}
use Rattle.matching.specs.Matching.{at_or_ahead}
use Rattle.matching.specs.declared.way.Rest.{Rest}
use Rattle.matching.specs.declared.way.Way.{Way}
use Rattle.matching.specs.declared.way.Way.TheVariants.{Filled, Booked, Immediate, AwayBest, OwnFront}

abbrev pub way_number : Way → ℕ
way_number Filled = 1
way_number Booked = 2
way_number Immediate = 3
way_number AwayBest = 4
way_number OwnFront = 5

abbrev pub way_booked : Way → (rest : ℕ) → ℕ
way_booked Filled rest = 0
way_booked Booked rest = rest
way_booked Immediate rest = 0
way_booked AwayBest rest = 0
way_booked OwnFront rest = 0

abbrev pub way_cancelled : Way → (rest : ℕ) → ℕ
way_cancelled Filled rest = 0
way_cancelled Booked rest = 0
way_cancelled Immediate rest = rest
way_cancelled AwayBest rest = rest
way_cancelled OwnFront rest = rest

-- the price exists, and it is at the bound or ahead of it: for a sale, the bound is at or below that bid
abbrev pub reached : Rule → (bound : ℕ) → Option ℕ → Bool
reached rule bound None = false
reached rule bound (Some p) = at_or_ahead rule p bound

abbrev pub way_of : Rule → Rest → Way
way_of rule rest =
    cond (rest.shares == 0) Filled
    (cond rest.immediate Immediate
    (cond (not rest.directed && reached rule rest.bound rest.away) AwayBest
    (cond (rest.displayed && reached rule rest.bound rest.front) OwnFront Booked)))
