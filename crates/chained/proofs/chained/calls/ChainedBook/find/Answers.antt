use Rattle.chained.proofs.Held.{found_below, found_is}
use Rattle.chained.proofs.chained.calls.ChainedBook.find.Goals as goal

pub order_at-requires : goal.order_at-requires
order_at-requires g c =
    let b = c.args.self.now in
    found_below b.chains.records.now b.apart b.whole c.args.number c.spot_of.result.here c.spot_of.ensures.here

pub returns : goal.returns
returns g c =
    let b = c.args.self.now in
    let is = found_is b.chains.records.now b.apart b.whole c.args.number c.spot_of.result.here c.spot_of.ensures.here in
    cc
