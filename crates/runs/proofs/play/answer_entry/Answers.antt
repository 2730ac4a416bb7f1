use Rattle.std.proofs.Common.{Err, ap, ◌∙◌}
use Rattle.std.proofs.lemmas.Result.{err_from_is_err_and}
use Rattle.runs.proofs.Answering.{refused_is}
use Rattle.runs.proofs.play.answer_entry.Goals as goal

pub returns-in_err-enter-clause-answer : goal.returns-in_err-enter-clause-answer
returns-in_err-enter-clause-answer g c =
    let e = err_from_is_err_and c.from_residual.result c.from_residual.ensures.1 in
    e.1 ∙ ap Err e.2 ∙ refused_is _ c.args.form c.in_err-enter.field-0.0 c.in_err-enter.ensures.answer
