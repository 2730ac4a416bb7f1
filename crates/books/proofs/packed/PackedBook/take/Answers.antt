use Rattle.std.proofs.Common.{rules, Some, sym, ap, ◌∙◌, subst}
use Rattle.books.specs.Arranging.{arranged}
use Rattle.books.specs.Packing.{Front}
use Rattle.books.proofs.Calls.{take_fewer, take_whole, take_part}
use Rattle.books.proofs.Keeping.{Good, kept_removed, kept_reduced}
use Rattle.books.proofs.Outcomes.{takes_front}
use Rattle.books.proofs.packed.PackedBook.take.Goals as goal

pub invariant_of-self : goal.invariant_of-self
invariant_of-self g c =
    let b = c.args.self.now in
    let front : Front g.S.Side.rule b.arrivals (Some c.in_ok-index.index) = search rules in
    let k =
    subst Good (sym c.close_up.ensures.left) (kept_removed b.arrivals (b.within, b.sound, b.distinct) c.in_ok-index.index front.0) in
    record { within = k.0; sound = k.1; distinct = k.2 }

pub invariant_of-self-else-shares-order : goal.invariant_of-self-else-shares-order
invariant_of-self-else-shares-order g c =
    let b = c.args.self.now in
    let i = c.in_ok-index.index in
    let front : Front g.S.Side.rule b.arrivals (Some i) = search rules in
    let t = takes_front (arranged g.S.Side.rule b.arrivals) c.args.shares c.at-order.result (front.1 ∙ sym (ap Some c.at-order.ensures)) (search rules) in
    let fewer =
    take_fewer g.S.Side.rule b.arrivals b.distinct i c.args.shares c.at-order.result front t c.if-shares-order.false in
    let k =
    subst Good (sym c.reduce.ensures) (kept_reduced b.arrivals (b.within, b.sound, b.distinct) i front.0 c.args.shares fewer) in
    record { within = k.0; sound = k.1; distinct = k.2 }

pub returns-then-shares-order-clause-list : goal.returns-then-shares-order-clause-list
returns-then-shares-order-clause-list g c =
    let b = c.args.self.now in
    let i = c.in_ok-index.index in
    let front : Front g.S.Side.rule b.arrivals (Some i) = search rules in
    let t = takes_front (arranged g.S.Side.rule b.arrivals) c.args.shares c.at-order.result (front.1 ∙ sym (ap Some c.at-order.ensures)) (search rules) in
    ap (arranged g.S.Side.rule) c.close_up.ensures.left ∙
    take_whole g.S.Side.rule b.arrivals b.distinct i c.args.shares c.at-order.result front t g.met.S.Side.lawful
    c.if-shares-order.true

pub returns-else-shares-order-clause-list : goal.returns-else-shares-order-clause-list
returns-else-shares-order-clause-list g c =
    let b = c.args.self.now in
    let i = c.in_ok-index.index in
    let front : Front g.S.Side.rule b.arrivals (Some i) = search rules in
    let t = takes_front (arranged g.S.Side.rule b.arrivals) c.args.shares c.at-order.result (front.1 ∙ sym (ap Some c.at-order.ensures)) (search rules) in
    ap (arranged g.S.Side.rule) c.reduce.ensures ∙
    take_part g.S.Side.rule b.arrivals b.distinct i c.args.shares c.at-order.result front t c.if-shares-order.false
