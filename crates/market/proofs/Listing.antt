-- Trades that are written by two steps, the second from where the first ended.
use Rattle.std.proofs.Common.{◌≡◌, ℕ, zero, suc, ◌+◌, ◌-◌, min, List, [], ◌∷◌, ◌++◌, length, take, drop, refl, ap, ◌∙◌, append-nil, arith}
use borrow.Rule.Slice.PartMut.{put_mid}
use Rattle.std.proofs.lemmas.List.{take_rest, drop-drop, drop_all}
use Rattle.matching.specs.Trades.{written}
use Rattle.matching.specs.declared.trade.Trade.{Trade}

written_nowhere : (trades : List Trade) → written trades [] ≡ []
written_nowhere [] = refl
written_nowhere (t ∷ ts) = refl

pub written_length : (trades list : List Trade) → length (written trades list) ≡ length list
written_length [] list = refl
written_length (t ∷ ts) [] = refl
written_length (t ∷ ts) (x ∷ xs) = ap suc (written_length ts xs)

written_on : (first more list : List Trade) (at : ℕ) → at ≡ min (length first) (length list) → take at (written first list) ++ written more (drop at (written first list)) ≡ written (first ++ more) list
written_on [] more list zero h = refl
written_on [] more list (suc at) h = absurd (let no : ⊥ = omega arith in no)
written_on (t ∷ ts) more [] zero h = written_nowhere more
written_on (t ∷ ts) more [] (suc at) h = absurd (let no : ⊥ = omega arith in no)
written_on (t ∷ ts) more (x ∷ xs) zero h = absurd (let no : ⊥ = omega arith in no)
written_on (t ∷ ts) more (x ∷ xs) (suc at) h = ap (λ (r : List Trade). t ∷ r) (written_on ts more xs at (omega arith))

pub written_both : (first more list listed rest : List Trade) (at : ℕ) → listed ≡ written first list → at ≡ min (length first) (length listed) → rest ≡ written more (take (length listed - at) (drop at listed)) → put_mid at (length listed - at) listed rest ≡ written (first ++ more) list
written_both first more list listed rest at is ends then =
    let none : drop (length listed - at) (drop at listed) ≡ [] =
    drop-drop (length listed - at) at listed ∙ drop_all (at + (length listed - at)) listed (omega arith) in
    let long : length listed ≡ length list = ap length is ∙ written_length first list in
    let on : rest ≡ written more (drop at listed) = then ∙ ap (written more) (take_rest listed at) in
    ap (λ r. take at listed ++ (rest ++ r)) none ∙ ap (λ r. take at listed ++ r) (append-nil rest ∙ on)
    ∙ ap (λ l. take at l ++ written more (drop at l)) is ∙ written_on first more list at (omega arith)
