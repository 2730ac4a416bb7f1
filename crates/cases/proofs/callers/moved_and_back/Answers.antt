use Rattle.cases.proofs.Restating.{restated_back}
use Rattle.cases.proofs.callers.moved_and_back.Goals as goal

pub returns : goal.returns
returns c =
    restated_back c.args.form c.in_ok-moved.moved c.args.limit _
    (rw c.terms-terms.ensures at c.in_ok-moved.ensures)
    (rw c.terms-terms.ensures at c.restate-2.ensures)
