use Rattle.market.proofs.Fitting.{trades_fit}
use Rattle.market.proofs.bounds.trades_fit.Goals as goal

pub returns : goal.returns
returns c = trades_fit
