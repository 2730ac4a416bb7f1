use Rattle.std.proofs.Common.{sym, ap, ◌∙◌, subst}
use Rattle.books.specs.Arranging.{arranged}
use Rattle.books.proofs.Calls.{add_room, add_fresh, add_new}
use Rattle.books.proofs.Keeping.{Good, kept_push}
use Rattle.books.proofs.Outcomes.{fits}
use Rattle.books.proofs.packed.PackedBook.add.Goals as goal

pub push-requires : goal.push-requires
push-requires g c =
    let b = c.args.self.now in
    let f = fits 32 (arranged g.S.Side.rule b.arrivals) c.args.order c.in_ok-check_add.field-0 c.in_ok-check_add.ensures in
    add_room g.S.Side.rule b.arrivals b.distinct c.args.order f

pub invariant_of-self : goal.invariant_of-self
invariant_of-self g c =
    let b = c.args.self.now in
    let o = c.args.order in
    let f = fits 32 (arranged g.S.Side.rule b.arrivals) o c.in_ok-check_add.field-0 c.in_ok-check_add.ensures in
    let k =
    subst Good (sym c.push.ensures)
    (kept_push b.arrivals (b.within, b.sound, b.distinct) o (add_room g.S.Side.rule b.arrivals b.distinct o f) f.good
    (add_fresh g.S.Side.rule b.arrivals b.distinct o f)) in
    record { within = k.0; sound = k.1; distinct = k.2 }

pub returns-clause-list : goal.returns-clause-list
returns-clause-list g c =
    let b = c.args.self.now in
    let f = fits 32 (arranged g.S.Side.rule b.arrivals) c.args.order c.in_ok-check_add.field-0 c.in_ok-check_add.ensures in
    ap (arranged g.S.Side.rule) c.push.ensures ∙ add_new g.S.Side.rule b.arrivals b.distinct c.args.order f
