-- Which prices and quantities are valid. A price is a whole number of quarter cents.
use Rattle.std.specs.Prelude.{ℕ, ◌%◌, Bool, ◌&&◌, ◌==◌, nat_le}

abbrev pub highest_price : ℕ
highest_price = 4000000

abbrev pub most_shares : ℕ
most_shares = 10000000

-- a multiple of step from 1 to most
abbrev pub multiple : (step most n : ℕ) → Bool
multiple step most n = nat_le 1 n && nat_le n most && n % step == 0

abbrev pub valid_price : (increment price : ℕ) → Bool
valid_price increment price = multiple increment highest_price price

abbrev pub valid_quantity : (unit shares : ℕ) → Bool
valid_quantity unit shares = multiple unit most_shares shares
