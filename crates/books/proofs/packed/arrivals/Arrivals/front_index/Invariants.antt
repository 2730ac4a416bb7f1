use Rattle.std.proofs.Common.{take}
use Rattle.books.specs.Packing.{Front}
use Rattle.books.proofs.packed.arrivals.Arrivals.front_index.Given as goal

abbrev pub invariant-loop-i : goal.invariant-loop-i
invariant-loop-i g l = Front g.S.Side.rule (take l.i l.held) l.best
