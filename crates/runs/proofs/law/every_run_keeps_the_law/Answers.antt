use Rattle.runs.proofs.Lawful.{law_of_runs}
use Rattle.runs.proofs.law.every_run_keeps_the_law.Goals as goal

pub returns : goal.returns
returns c = law_of_runs
