use Rattle.std.proofs.Common.{rules, ◌≡◌, ◌+◌, cond, take, Some, IsTrue, MatchOption, sym, ap, subst, ◌∙◌}
use Rattle.books.specs.Packing.{Front}
use Rattle.books.proofs.Front.{Ahead, match_map, front_step}
use Rattle.books.proofs.packed.arrivals.Arrivals.front_index.Goals as goal
use Rattle.books.proofs.packed.arrivals.Arrivals.front_index.Goals.{then-is_none_or, else-is_none_or}

pub loop-i-preserved : goal.loop-i-preserved
loop-i-preserved g c =
    let rule = g.S.Side.rule in
    let xs = c.held-held.result.now in
    let i = c.loop-i.i in
    let best = c.loop-i.best in
    let said : MatchOption best (IsTrue c.is_none_or.result) (λ first. Ahead rule xs i c.loop-i-test.true first c.is_none_or.result) =
    match_map best _ _ _ (λ first p. search rules) c.is_none_or.ensures in
    let next : c.if-is_none_or.best ≡ cond c.is_none_or.result (Some i) best =
    elim c.if-is_none_or.branch [
      | then-is_none_or w ↦ w.best-is ∙ ap (λ b. cond b (Some i) best) (sym w.if-is_none_or.true)
      | else-is_none_or w ↦ w.best-is ∙ ap (λ b. cond b (Some i) best) (sym w.if-is_none_or.false)
    ] in
    subst (Front rule (take (i + 1) xs)) (sym next)
    (front_step rule xs i c.loop-i-test.true best c.is_none_or.result c.loop-i.invariant said)
