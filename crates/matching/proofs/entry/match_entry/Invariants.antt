use Rattle.std.proofs.Common.{◌≡◌}
use Rattle.matching.specs.Matching.{Scene}
use Rattle.matching.proofs.Turns.{Turning}
use Rattle.matching.proofs.entry.match_entry.Given as goal

abbrev pub invariant-loop-candidate : goal.invariant-loop-candidate
invariant-loop-candidate g l =
    let start : Scene = record { displayed = g.D.Book.orders l.initial.displayed; dark = g.K.Book.orders l.initial.dark; shares = l.active.shares } in
    let scene : Scene = record { displayed = g.D.Book.orders l.displayed; dark = g.K.Book.orders l.dark; shares = l.shares } in
    Turning g.D.Side.Side.rule l.active l.around start l.initial.list scene l.list l.trades
    × (g.D.Book.room l.displayed ≡ g.D.Book.room l.initial.displayed)
    × (g.K.Book.room l.dark ≡ g.K.Book.room l.initial.dark)

abbrev pub decreases-loop-candidate : goal.decreases-loop-candidate
decreases-loop-candidate g l = l.shares
