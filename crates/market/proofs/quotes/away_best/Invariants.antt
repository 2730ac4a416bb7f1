use Rattle.std.proofs.Common.{◌≡◌, drop}
use Rattle.market.specs.Quoting.{away_of, away_from}
use Rattle.market.proofs.quotes.away_best.Given as goal

abbrev pub invariant-loop-quote : goal.invariant-loop-quote
invariant-loop-quote l = away_from l.best (drop l.quote-index l.quotes) ≡ away_of l.quotes
