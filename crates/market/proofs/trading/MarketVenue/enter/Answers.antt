use Rattle.market.proofs.Checks.{entry_refused}
use Rattle.market.proofs.trading.MarketVenue.enter.Goals as goal

pub returns-in-Err : goal.returns-in-Err
returns-in-Err g c =
    let r = entry_refused _ _ c.args.list.now c.args.form c.in-Err.refusal _ c.in-Err.ensures in
    record { answer = r.answer; state = r.state; list = r.listed }
