use Rattle.std.proofs.Common.{rules}
use Rattle.chained.specs.Records.{orders_in}
use Rattle.books.proofs.Outcomes.{takes}
use Rattle.chained.proofs.Held.{held, takes_whole, takes_part}
use Rattle.chained.proofs.chained.calls.ChainedBook.take.Goals as goal

pub invariant_of-self : goal.invariant_of-self
invariant_of-self g c =
    let b = c.args.self.now in
    let rs = b.chains.records.now in
    let t = takes (orders_in rs) c.args.shares c.in_ok-order.order c.in_ok-order.ensures in
    let k =
    (takes_whole rs b.chains.count (held b) c.args.shares c.in_ok-order.order t c.unlink.new.self.records.now c.first-here.result
    c.unlink.new.self.count c.if-shares-order.true c.first-here.ensures c.unlink.ensures.records c.unlink.ensures.count).held in
    search rules

pub returns-then-shares-order-clause-list : goal.returns-then-shares-order-clause-list
returns-then-shares-order-clause-list g c =
    let b = c.args.self.now in
    let rs = b.chains.records.now in
    let t = takes (orders_in rs) c.args.shares c.in_ok-order.order c.in_ok-order.ensures in
    (takes_whole rs b.chains.count (held b) c.args.shares c.in_ok-order.order t c.unlink.new.self.records.now c.first-here.result
    c.unlink.new.self.count c.if-shares-order.true c.first-here.ensures c.unlink.ensures.records c.unlink.ensures.count).list

pub invariant_of-self-else-shares-order : goal.invariant_of-self-else-shares-order
invariant_of-self-else-shares-order g c =
    let b = c.args.self.now in
    let rs = b.chains.records.now in
    let t = takes (orders_in rs) c.args.shares c.in_ok-order.order c.in_ok-order.ensures in
    let k =
    (takes_part rs b.chains.count (held b) c.args.shares c.in_ok-order.order t c.reduce.new.self.records.now c.first-here.result
    c.reduce.new.self.count c.if-shares-order.false c.first-here.ensures c.reduce.ensures.records c.reduce.ensures.count).held in
    search rules

pub returns-else-shares-order-clause-list : goal.returns-else-shares-order-clause-list
returns-else-shares-order-clause-list g c =
    let b = c.args.self.now in
    let rs = b.chains.records.now in
    let t = takes (orders_in rs) c.args.shares c.in_ok-order.order c.in_ok-order.ensures in
    (takes_part rs b.chains.count (held b) c.args.shares c.in_ok-order.order t c.reduce.new.self.records.now c.first-here.result
    c.reduce.new.self.count c.if-shares-order.false c.first-here.ensures c.reduce.ensures.records c.reduce.ensures.count).list
