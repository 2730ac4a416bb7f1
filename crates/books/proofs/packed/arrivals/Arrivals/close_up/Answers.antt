use Rattle.std.proofs.Common.{◌-◌, take, length, arith, ◌∙◌, ap, ◌<◌, ◌≤◌}
use Rattle.std.specs.List.{remove}
use Rattle.books.proofs.Places.{taken_down}
use Rattle.books.proofs.Spots.{place_below}
use Rattle.books.proofs.packed.arrivals.Arrivals.close_up.Goals as goal

pub returns-clause-left : goal.returns-clause-left
returns-clause-left c =
    let m : c.self.inside.count ≤ length c.self.inside.spots = omega arith in
    let l : c.args.index < c.self.inside.count =
    place_below c.self.inside.spots c.self.inside.count c.args.index c.args.self.now c.self.view_is c.requires in
    ap (λ spots. take (c.self.inside.count - 1) spots) c.close.ensures ∙
    taken_down c.self.inside.spots c.args.index c.self.inside.count m l ∙
    ap (λ os. remove os c.args.index) c.self.view_is
