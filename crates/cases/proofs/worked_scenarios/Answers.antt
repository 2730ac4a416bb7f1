use Rattle.std.proofs.Common.{refl}
use Rattle.cases.proofs.Computed.{scenarios_come_out}
use Rattle.cases.proofs.worked_scenarios.Goals as goal

pub returns : goal.returns
returns c = record { hold = scenarios_come_out; count = refl }
