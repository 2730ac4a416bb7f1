use Rattle.std.proofs.Common.{rules, ◌≡◌, Some, None, sym, subst, position}
use Rattle.std.proofs.lemmas.List.Quantifiers.{position-Some}
use Rattle.books.specs.Packing.{blank}
use Rattle.books.proofs.Arranged.{numbered}
use Rattle.books.proofs.Calls.{remove_none, remove_at}
use Rattle.books.proofs.Keeping.{Good, kept_removed}
use Rattle.books.proofs.packed.PackedBook.remove.Goals as goal

pub returns-in_err-index : goal.returns-in_err-index
returns-in_err-index g c =
    let n = c.args.number in
    let none : position (numbered n) c.args.self.now.arrivals ≡ None = search rules in
    let e = remove_none g.S.Side.rule c.args.self.now.arrivals n none in
    search rules

pub invariant_of-self : goal.invariant_of-self
invariant_of-self g c =
    let b = c.args.self.now in
    let i = c.in_ok-index.index in
    let at : position (numbered c.args.number) b.arrivals ≡ Some i = search rules in
    let below = (position-Some (numbered c.args.number) b.arrivals i blank at).0 in
    let k = subst Good (sym c.close_up.ensures.left) (kept_removed b.arrivals (b.within, b.sound, b.distinct) i below) in
    record { within = k.0; sound = k.1; distinct = k.2 }

pub returns : goal.returns
returns g c =
    let b = c.args.self.now in
    let i = c.in_ok-index.index in
    let at : position (numbered c.args.number) b.arrivals ≡ Some i = search rules in
    let e = remove_at g.S.Side.rule b.arrivals b.distinct g.met.S.Side.lawful c.args.number i at in
    search rules
