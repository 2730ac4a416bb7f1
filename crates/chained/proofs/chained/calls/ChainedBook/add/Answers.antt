use Rattle.std.proofs.Common.{rules, arith}
use Rattle.chained.specs.Records.{orders_in, room_in}
use Rattle.books.proofs.Outcomes.{fits}
use Rattle.chained.proofs.Held.{held, by_price, add_before, add_here, added_held}
use Rattle.chained.proofs.chained.calls.ChainedBook.add.Goals as goal

pub link-requires-clause-before_in_bounds : goal.link-requires-clause-before_in_bounds
link-requires-clause-before_in_bounds g c =
    let b = c.args.self.now in
    let rs = b.chains.records.now in
    let f = fits (room_in rs) (orders_in rs) c.args.order c.in_ok-check_add.field-0 c.in_ok-check_add.ensures in
    omega (
      arith,
      add_before g.S.Side.rule c.args.order rs b.chains.count (held b) f.room,
      c.seek-spot.ensures.before (by_price g.S.Side.rule c.args.order) (λ o r p. search rules),
    )

pub link-requires-clause-records_in_bounds : goal.link-requires-clause-records_in_bounds
link-requires-clause-records_in_bounds g c =
    let b = c.args.self.now in
    let rs = b.chains.records.now in
    let f = fits (room_in rs) (orders_in rs) c.args.order c.in_ok-check_add.field-0 c.in_ok-check_add.ensures in
    add_here g.S.Side.rule c.args.order rs b.chains.count (held b) f.room

pub invariant_of-self : goal.invariant_of-self
invariant_of-self g c =
    let b = c.args.self.now in
    let rs = b.chains.records.now in
    let f = fits (room_in rs) (orders_in rs) c.args.order c.in_ok-check_add.field-0 c.in_ok-check_add.ensures in
    let k =
    (added_held g.S.Side.rule c.args.order rs b.chains.count (held b) f
    c.link.new.self.records.now c.seek-spot.result.before c.link.new.self.count
    (c.seek-spot.ensures.before (by_price g.S.Side.rule c.args.order) (λ o r p. search rules))
    c.link.ensures.records c.link.ensures.count).held in
    search rules

pub returns-clause-list : goal.returns-clause-list
returns-clause-list g c =
    let b = c.args.self.now in
    let rs = b.chains.records.now in
    let f = fits (room_in rs) (orders_in rs) c.args.order c.in_ok-check_add.field-0 c.in_ok-check_add.ensures in
    (added_held g.S.Side.rule c.args.order rs b.chains.count (held b) f
    c.link.new.self.records.now c.seek-spot.result.before c.link.new.self.count
    (c.seek-spot.ensures.before (by_price g.S.Side.rule c.args.order) (λ o r p. search rules))
    c.link.ensures.records c.link.ensures.count).list
