use Rattle.std.proofs.Common.{rules}
use Rattle.chained.specs.Records.{most_records}
use Rattle.chained.proofs.Rest.{untouched}
use Rattle.chained.proofs.chained.calls.lend.Goals as goal

pub returns : goal.returns
returns g c =
    let rest = untouched most_records c.serving-end.result c.args.records.now in
    search (rules, rest)
