-- The scenarios are computed: one step of matching or looking over after another.
use Rattle.std.proofs.Common.{◌≡◌, true, refl}
use Rattle.cases.specs.Scenarios.{all_come_out, scenarios}
use Rattle.matching.specs.Trades.{steps}

pub scenarios_come_out : all_come_out scenarios ≡ true
unfolding steps
scenarios_come_out = refl
