-- The worked cases, as one table that is computed over the definitions that the contracts cite.
use Rattle.std.specs.Prelude.{ℕ, ◌+◌, ◌-◌, Bool, true, not, ◌&&◌, List, [], ◌∷◌, Some, None, Option, ◌==◌}
use Rattle.rules.specs.Better.{better}
use Rattle.rules.specs.Forms.{bound_at, large_at}
use Rattle.rules.specs.Sheets.{increment_at, unit_at}
use Rattle.rules.specs.Sides.{bids, asks}
use Rattle.rules.specs.declared.terms.Kind.{Kind}
use Rattle.rules.specs.declared.terms.Kind.TheVariants.{Displayed, Dark, HalfStep}
use Rattle.rules.specs.declared.terms.SideName.{SideName}
use Rattle.rules.specs.declared.terms.SideName.TheVariants.{Bid, Ask}

-- what a case says
pub data Case : Type 0 where
  -- at these best prices and an increment of 4: a sale's better price is this or more, a purchase's that or less
  from_and_to : (bid ask sale purchase : ℕ) → Case
  -- where only one best price exists, that side alone is limited
  sale_from : (bid sale : ℕ) → Case
  purchase_to : (ask purchase : ℕ) → Case
  -- the class at a closing price
  class : (closing increment unit : ℕ) → Case
  -- at a unit of 100
  small : (limit shares : ℕ) → Case
  large : (limit shares : ℕ) → Case
  -- where an order stands, at an increment of 4
  stands_at : SideName → Kind → (limit price : ℕ) → Case

abbrev better_sale : Option ℕ → Option ℕ → ℕ → Bool
better_sale bid ask = better bids 4 record { bid = bid; ask = ask }

abbrev better_purchase : Option ℕ → Option ℕ → ℕ → Bool
better_purchase bid ask = better asks 4 record { bid = bid; ask = ask }

-- passes at the limit, and not one quarter cent beyond it
abbrev starts : (ℕ → Bool) → ℕ → Bool
starts test limit = test limit && not (test (limit - 1))

abbrev ends : (ℕ → Bool) → ℕ → Bool
ends test limit = test limit && not (test (limit + 1))

abbrev pub holds : Case → Bool
holds (from_and_to bid ask sale purchase) =
    starts (better_sale (Some bid) (Some ask)) sale && ends (better_purchase (Some bid) (Some ask)) purchase
holds (sale_from bid sale) = starts (better_sale (Some bid) None) sale && better_purchase (Some bid) None 4000000
holds (purchase_to ask purchase) = ends (better_purchase None (Some ask)) purchase && better_sale None (Some ask) 1
holds (class closing increment unit) = increment_at closing == increment && unit_at closing == unit
holds (small limit shares) = not (large_at 100 limit shares)
holds (large limit shares) = large_at 100 limit shares
holds (stands_at side kind limit price) = bound_at side kind 4 limit == price

abbrev pub all_hold : List Case → Bool
all_hold [] = true
all_hold (c ∷ cs) = holds c && all_hold cs

abbrev pub table : List Case
table =
    -- better prices: more than one increment apart, exactly one, locked, and crossed by one
    from_and_to 4008 4020 4012 4016
    ∷ from_and_to 4000 4004 4002 4002
    ∷ from_and_to 4000 4000 4004 3996
    ∷ from_and_to 4004 4000 4008 3996
    ∷ sale_from 4000 4004
    ∷ purchase_to 4004 4000
    -- classes, on both sides of each limit
    ∷ class 39 2 1000
    ∷ class 40 2 500
    ∷ class 199 2 500
    ∷ class 200 4 500
    ∷ class 399 4 500
    ∷ class 400 4 100
    -- 50 units and 100,000 dollars are small
    ∷ small 4000 5000
    ∷ large 4000 5100
    ∷ small 8000 5000
    ∷ large 8004 5000
    -- a half step behind the limit
    ∷ stands_at Bid HalfStep 4004 4002
    ∷ stands_at Ask HalfStep 4000 4002
    ∷ stands_at Bid Dark 4004 4004
    ∷ stands_at Ask Displayed 4004 4004
    ∷ []
