-- What a side says of prices, and the law that every side keeps.
use Rattle.std.specs.Prelude.{◌≡◌, ℕ, ◌+◌, ◌-◌, ◌<◌, Bool, true, false, cond, not, Some, None, Option, ◌≢◌, nat_le, nat_lt}
use Rattle.rules.specs.declared.terms.SideName.{SideName}
use Rattle.rules.specs.declared.terms.SideName.TheVariants.{Bid, Ask}

-- ahead p q: of p and q, p comes first
-- improved p best by: p is ahead of best by at least that much
-- edge best by: the last price above 0 that is so improved, if there is one
pub record Rule : Type 0 where
  pub name : SideName
  pub ahead : ℕ → ℕ → Bool
  pub improved : (p best by : ℕ) → Bool
  pub edge : (best by : ℕ) → Option ℕ

-- p is the edge or ahead of it
abbrev pub reaches : Rule → Option ℕ → ℕ → Bool
reaches rule None p = false
reaches rule (Some e) p = not (rule.ahead e p)

pub record Lawful (rule : Rule) : Type 0 where
  pub different : (p q : ℕ) → (p ≢ q) → rule.ahead p q ≡ not (rule.ahead q p)
  pub equal : (p : ℕ) → rule.ahead p p ≡ false
  pub carries : (p q r : ℕ) → rule.ahead p q ≡ true → rule.ahead q r ≡ true → rule.ahead p r ≡ true
  pub improving : (p best by : ℕ) → 0 < by → rule.improved p best by ≡ true → rule.ahead p best ≡ true
  pub edged : (p best by : ℕ) → 0 < p → rule.improved p best by ≡ reaches rule (rule.edge best by) p

-- the higher price comes first
abbrev pub bids : Rule
bids = record {
  name = Bid;
  ahead = λ p q. nat_lt q p;
  improved = λ p best by. nat_le (best + by) p;
  edge = λ best by. Some (best + by);
}

-- the lower price comes first
abbrev pub asks : Rule
asks = record {
  name = Ask;
  ahead = λ p q. nat_lt p q;
  improved = λ p best by. nat_le (p + by) best;
  edge = λ best by. cond (nat_lt by best) (Some (best - by)) None;
}
