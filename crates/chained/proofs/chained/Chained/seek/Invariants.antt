use Rattle.std.proofs.Common.{length}
use Rattle.chained.specs.Records.{Means}
use Rattle.chained.proofs.Steps.{Along, Seeking, from}
use Rattle.chained.proofs.chained.Chained.seek.Given as goal

abbrev pub invariant-loop-here : goal.invariant-loop-here
invariant-loop-here g l = record {
  along : Along l.self.chains.records.now l.here;
  seeking : (meant : _) → Means (goal.F-post g l.passes) meant → Seeking l.self.chains.records.now meant l.before l.here;
}

abbrev pub decreases-loop-here : goal.decreases-loop-here
decreases-loop-here g l = length (from l.self.chains.records.now l.here)
