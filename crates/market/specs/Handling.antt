-- What an entry leaves in four books: it is placed, and the books are looked over.
use Rattle.std.specs.Prelude.{◌≡◌, ◌+◌, List, ◌++◌, length}
use Rattle.market.specs.declared.steps.Handled.{Handled}
use Rattle.matching.specs.Looking.{Books}
use Rattle.matching.specs.Placing.{Placed}
use Rattle.matching.specs.Trades.{Steps, written}
use Rattle.matching.specs.declared.trade.Trade.{Trade}

pub record Handles (p : Placed) (l : Steps Books) (books : Books) (list listed : List Trade) (handled : Handled) : Type 0 where
  pub books_is : books ≡ l.state
  pub rest_is : handled.ended.shares ≡ p.rest
  pub way_is : handled.ended.way ≡ p.way
  pub trades_is : handled.trades ≡ length p.trades + length l.trades
  pub list_is : listed ≡ written (p.trades ++ l.trades) list
