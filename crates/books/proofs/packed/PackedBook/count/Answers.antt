use Rattle.std.proofs.Common.{arith}
use Rattle.books.specs.Laws.{length_arranged}
use Rattle.books.proofs.packed.PackedBook.count.Goals as goal

pub returns : goal.returns
returns g c = omega (arith, length_arranged g.S.Side.rule c.args.self.now.arrivals)
