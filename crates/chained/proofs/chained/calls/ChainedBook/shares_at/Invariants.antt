use Rattle.std.proofs.Common.{length}
use Rattle.chained.proofs.Steps.{Summing, from}
use Rattle.chained.proofs.chained.calls.ChainedBook.shares_at.Given as goal

abbrev pub invariant-loop-here : goal.invariant-loop-here
invariant-loop-here g l = Summing l.self.chains.records.now l.price l.sum l.here

abbrev pub decreases-loop-here : goal.decreases-loop-here
decreases-loop-here g l = length (from l.self.chains.records.now l.here)
