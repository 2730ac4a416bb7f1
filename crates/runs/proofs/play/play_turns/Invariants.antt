use Rattle.std.proofs.Common.{length, vec_items}
use Rattle.std.specs.Vec.Iter.{into_iter_items}
use Rattle.runs.proofs.Progress.{Progress}
use Rattle.runs.proofs.play.play_turns.Given as goal

abbrev pub invariant-loop-turn : goal.invariant-loop-turn
invariant-loop-turn g l =
    Progress (g.V.Venue.state l.initial.market) (length l.initial.list) (into_iter_items l.initial.turn-iterator) (into_iter_items l.turn-iterator) (vec_items l.journal.lines) (vec_items l.journal.trades) (g.V.Venue.state l.market)
