-- What placing an entry leaves in four books.
use Rattle.std.specs.Prelude.{◌≡◌, List, length}
use Rattle.matching.specs.Sets.{seen_from}
use Rattle.matching.specs.Looking.{Books}
use Rattle.matching.specs.Placing.{Placed}
use Rattle.matching.specs.Trades.{written}
use Rattle.matching.specs.declared.placing.Ended.{Ended}
use Rattle.matching.specs.declared.trade.Trade.{Trade}
use Rattle.rules.specs.declared.terms.SideName.{SideName}

pub record PlacesIn (side : SideName) (p : Placed) (books : Books) (list listed : List Trade) (ended : Ended) : Type 0 where
  pub books_is : books ≡ seen_from side p.view
  pub shares_is : ended.shares ≡ p.rest
  pub way_is : ended.way ≡ p.way
  pub trades_is : ended.trades ≡ length p.trades
  pub list_is : listed ≡ written p.trades list
