use Rattle.std.proofs.Common.{arith}
use Rattle.market.proofs.Handled.{placed_few, looked_few, handled_both}
use Rattle.market.proofs.steps.handle.Goals as goal

pub overflow_add-result : goal.overflow_add-result
overflow_add-result g c =
    let a = c.args in
    let placed = placed_few a.side a.away.increment a.away.quote (g.Q.BookSet.rooms a.books.now) a.active.now (g.Q.BookSet.lists a.books.now) in
    let looked = looked_few a.away.increment a.away.quote (g.Q.BookSet.lists c.place-ended.new.self) in
    omega (
      arith,
      placed,
      looked,
      c.place-ended.ensures.places.trades_is,
      c.look_over-looked.ensures.looks.count_is,
      g.met.Q.BookSet.few a.books.now,
      g.met.Q.BookSet.few c.place-ended.new.self,
    )

pub returns-clause-handles : goal.returns-clause-handles
returns-clause-handles g c =
    handled_both c.args.side c.args.away.increment c.args.away.quote _ c.args.list.now c.place-ended.new.list c.look_over-looked.new.list
    c.min-at.result (g.Q.BookSet.lists c.place-ended.new.self) _ c.place-ended.result c.look_over-looked.result
    c.place-ended.ensures.places c.min-at.ensures c.look_over-looked.ensures.looks
