use Rattle.books.proofs.Past.{runs_by_priority}
use Rattle.books.proofs.priority.books_run_by_priority.Goals as goal

pub returns : goal.returns
returns g c = runs_by_priority g.S.Side.rule g.met.S.Side.lawful
