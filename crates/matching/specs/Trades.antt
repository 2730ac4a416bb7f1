-- Trades that follow one another, and the caller's list that receives them.
use Rattle.std.specs.Prelude.{ℕ, zero, suc, List, [], ◌∷◌, Some, None, Option}
use Rattle.matching.specs.declared.trade.Trade.{Trade}

-- a trade, and the state that it leaves
pub record Step (X : Type 0) : Type 0 where
  pub trade : Trade
  pub after : X

pub record Steps (X : Type 0) : Type 0 where
  pub trades : List Trade
  pub state : X

abbrev pub go_on : {X : Type 0} → Option (Step X) → X → (X → Steps X) → Steps X
go_on None x more = record { trades = []; state = x }
go_on (Some s) x more = record { trades = s.trade ∷ (more s.after).trades; state = (more s.after).state }

-- one step after another while there is a next one, n at the most
unfoldable pub steps : {X : Type 0} → (next : X → Option (Step X)) → (n : ℕ) → X → Steps X
steps next zero x = record { trades = []; state = x }
steps next (suc n) x = go_on (next x) x (steps next n)

-- trades written over the front of a list; what is past them stays
abbrev pub written : List Trade → (list : List Trade) → List Trade
written [] list = list
written (t ∷ ts) [] = []
written (t ∷ ts) (x ∷ xs) = t ∷ written ts xs
