-- One trade more in a list.
use Rattle.std.proofs.Common.{◌≡◌, List, [], ◌∷◌, ◌++◌, length, set, refl, ap}
use Rattle.matching.specs.Trades.{written}
use Rattle.matching.specs.declared.trade.Trade.{Trade}

pub written_more : (made : List Trade) (t : Trade) (list : List Trade) → set (written made list) (length made) t ≡ written (made ++ t ∷ []) list
written_more [] t [] = refl
written_more [] t (x ∷ xs) = refl
written_more (m ∷ made) t [] = refl
written_more (m ∷ made) t (x ∷ xs) = ap (λ (r : List Trade). m ∷ r) (written_more made t xs)
