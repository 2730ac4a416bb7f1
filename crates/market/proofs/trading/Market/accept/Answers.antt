use Rattle.std.proofs.Common.{ap, arith}
use Rattle.market.proofs.Handled.{placed_rest}
use Rattle.market.proofs.trading.Market.accept.Goals as goal
use Rattle.matching.specs.declared.candidate.Entry.{Entry}
use Rattle.rules.specs.declared.terms.Terms.{Terms}

pub overflow_sub-result : goal.overflow_sub-result
overflow_sub-result g c =
    let m = c.args.self.now in
    let left = placed_rest c.terms-terms.result.side c.away.result.increment c.away.result.quote (g.Q.BookSet.rooms m.books) c.entry_of-active.result (g.Q.BookSet.lists m.books) in
    omega (
      arith,
      c.handle-handled.ensures.handles.rest_is,
      left,
      ap (λ (e : Entry). e.shares) c.entry_of-active.ensures,
      ap (λ (t : Terms). t.shares) c.terms-terms.ensures,
    )
