use Rattle.std.proofs.Common.{◌≡◌, ℕ, ◌+◌, ◌<◌}
use Rattle.chained.specs.Records.{free_of}
use Rattle.chained.proofs.chains.Chains.clear.Given as goal

abbrev pub invariant-loop-k : goal.invariant-loop-k
invariant-loop-k l = (j : ℕ) → j < l.k → free_of l.record-items j ≡ j + 1
