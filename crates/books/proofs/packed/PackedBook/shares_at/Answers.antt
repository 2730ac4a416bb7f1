use Rattle.std.proofs.Common.{[], arith}
use Rattle.books.proofs.Arranged.{shares_arrange, shares_summed}
use Rattle.books.proofs.packed.PackedBook.shares_at.Goals as goal

pub returns : goal.returns
returns g c =
    let orders = c.args.self.now.arrivals in
    omega (arith, shares_summed c.args.price orders, shares_arrange c.args.price g.S.Side.rule orders [])
