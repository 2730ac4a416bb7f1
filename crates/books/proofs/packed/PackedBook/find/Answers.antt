use Rattle.std.proofs.Common.{rules, ◌≡◌, Some, None, MatchOption, slice_index_or}
use Rattle.books.specs.Packing.{blank}
use Rattle.books.proofs.Arranged.{found_place}
use Rattle.books.proofs.Front.{match_map}
use Rattle.books.proofs.packed.PackedBook.find.Goals as goal

pub returns : goal.returns
returns g c =
    let b = c.args.self.now in
    let said : MatchOption c.index_of.result (c.map.result ≡ None) (λ i. c.map.result ≡ Some (slice_index_or b.arrivals i blank)) =
    match_map c.index_of.result _ _ _ (λ i p. search rules) c.map.ensures.cases in
    found_place g.S.Side.rule b.arrivals b.distinct c.args.number c.map.result (rw c.index_of.ensures at said)
