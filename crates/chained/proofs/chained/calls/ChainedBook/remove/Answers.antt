use Rattle.std.proofs.Common.{rules, ◌<◌, ◌≢◌, length, Some, sym, ap, ◌∙◌, arith}
use Rattle.chained.specs.Links.{first, stop}
use Rattle.chained.specs.Records.{line, orders_in}
use Rattle.chained.proofs.Held.{held, found_below, found_none, found_some, cut_before, cut_count, removed_held, numbered}
use Rattle.books.proofs.Outcomes.{removed_none, removed_is}
use Rattle.chained.proofs.chained.calls.ChainedBook.remove.Goals as goal

pub returns-then-spot-eq0 : goal.returns-then-spot-eq0
returns-then-spot-eq0 g c =
    let b = c.args.self.now in
    let none = found_none b.chains.records.now b.apart b.whole c.args.number c.spot_of-spot.result.here
    c.spot_of-spot.ensures.here c.if-spot-eq0.true in
    let out = removed_none (orders_in b.chains.records.now) c.args.number (sym none) in
    search rules

pub unlink-requires : goal.unlink-requires
unlink-requires g c =
    let b = c.args.self.now in
    let t = numbered c.args.number b.chains.records.now in
    let some : first t (line b.chains.records.now) ≢ 0 = λ z. c.if-spot-eq0.false (c.spot_of-spot.ensures.here ∙ z) in
    let below : stop t 0 (line b.chains.records.now) < length b.chains.records.now =
    cut_before t b.chains.records.now b.chains.count (held b) some in
    record {
      before_in_bounds = omega (arith, c.spot_of-spot.ensures.before, below);
      here_in_bounds = found_below b.chains.records.now b.apart b.whole c.args.number c.spot_of-spot.result.here
          c.spot_of-spot.ensures.here c.if-spot-eq0.false;
      count_nonzero = cut_count t b.chains.records.now b.chains.count (held b) some;
    }

pub invariant_of-self : goal.invariant_of-self
invariant_of-self g c =
    let b = c.args.self.now in
    let k =
    (removed_held c.args.number b.chains.records.now b.chains.count (held b)
    (λ z. c.if-spot-eq0.false (c.spot_of-spot.ensures.here ∙ z)) c.unlink.new.self.records.now c.spot_of-spot.result.before
    c.spot_of-spot.result.here c.unlink.new.self.count c.spot_of-spot.ensures.before c.spot_of-spot.ensures.here
    c.unlink.ensures.records c.unlink.ensures.count).held in
    search rules

pub returns : goal.returns
returns g c =
    let b = c.args.self.now in
    let done = removed_held c.args.number b.chains.records.now b.chains.count (held b)
    (λ z. c.if-spot-eq0.false (c.spot_of-spot.ensures.here ∙ z)) c.unlink.new.self.records.now c.spot_of-spot.result.before
    c.spot_of-spot.result.here c.unlink.new.self.count c.spot_of-spot.ensures.before c.spot_of-spot.ensures.here
    c.unlink.ensures.records c.unlink.ensures.count in
    let some = found_some b.chains.records.now b.apart b.whole c.args.number c.spot_of-spot.result.here
    c.spot_of-spot.ensures.here c.if-spot-eq0.false in
    let out = removed_is (orders_in b.chains.records.now) c.unlink.result c.args.number
    (sym some ∙ ap Some (sym c.unlink.ensures.order)) in
    search rules
