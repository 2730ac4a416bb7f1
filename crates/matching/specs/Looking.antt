-- Looking over the books.
use Rattle.std.specs.Prelude.{◌≡◌, ℕ, ◌+◌, min, true, cond, ◌&&◌, List, [], ◌∷◌, length, Some, None, Option}
use Rattle.books.specs.Lists.{taken}
use Rattle.books.specs.declared.standing.Standing.{Standing}
use Rattle.rules.specs.Better.{best_of, better}
use Rattle.rules.specs.Sides.{Rule, bids, asks}
use Rattle.rules.specs.declared.price.Quote.{Quote}
use Rattle.matching.specs.Matching.{at_or_ahead, front_price}
use Rattle.matching.specs.Trades.{Step, Steps, steps, written}
use Rattle.matching.specs.declared.pair.Pair.{Pair}
use Rattle.matching.specs.declared.pair.Pair.TheVariants.{Sale, Purchase}
use Rattle.matching.specs.declared.trade.Trade.{Trade}

pub record Books : Type 0 where
  pub bids : List Standing
  pub asks : List Standing
  pub dark_bids : List Standing
  pub dark_asks : List Standing

abbrev pub ours_in : Books → Quote
ours_in books = record { bid = front_price books.bids; ask = front_price books.asks }

abbrev pub best_in : (away : Quote) → Books → Quote
best_in away books = best_of (ours_in books) away

-- the displayed order is active, the trade at the dark one's price and for the smaller quantity
abbrev pub trade_of : (displayed dark : Standing) → Trade
trade_of d k = record {
  active = d.number;
  standing = k.number;
  price = k.price;
  shares = min d.shares k.shares;
  dark = true;
}

-- the trade of a front displayed order with the front dark order against it, whose side has this rule:
-- the dark price is at the displayed one or ahead of it, and it is a better price
abbrev pub pair : Rule → (increment : ℕ) → (best : Quote) → (displayed dark : List Standing) → Option Trade
pair rule increment best [] dark = None
pair rule increment best (d ∷ ds) [] = None
pair rule increment best (d ∷ ds) (k ∷ ks) =
    cond (at_or_ahead rule k.price d.price && better rule increment best k.price) (Some (trade_of d k)) None

-- a sale pair, or else a purchase pair
abbrev pub either_pair : (sale purchase : Option Trade) → Option Pair
either_pair (Some t) purchase = Some (Sale t)
either_pair None (Some t) = Some (Purchase t)
either_pair None None = None

abbrev pub pair_in : (increment : ℕ) → (away : Quote) → Books → Option Pair
pair_in increment away books =
    either_pair (pair bids increment (best_in away books) books.asks books.dark_bids)
    (pair asks increment (best_in away books) books.bids books.dark_asks)

-- the trade of a pair takes its shares from the front of both books
abbrev pub paired : Pair → Books → Books
paired (Sale t) books = record {
  bids = books.bids;
  asks = (taken books.asks t.shares).list;
  dark_bids = (taken books.dark_bids t.shares).list;
  dark_asks = books.dark_asks;
}
paired (Purchase t) books = record {
  bids = (taken books.bids t.shares).list;
  asks = books.asks;
  dark_bids = books.dark_bids;
  dark_asks = (taken books.dark_asks t.shares).list;
}

abbrev pub trade_in : Pair → Trade
trade_in (Sale t) = t
trade_in (Purchase t) = t

abbrev pub pair_step : Books → Option Pair → Option (Step Books)
pair_step books None = None
pair_step books (Some p) = Some record { trade = trade_in p; after = paired p books }

abbrev pub look_step : (increment : ℕ) → (away : Quote) → Books → Option (Step Books)
look_step increment away books = pair_step books (pair_in increment away books)

abbrev pub standing_in : Books → ℕ
standing_in books = length books.bids + length books.asks + length books.dark_bids + length books.dark_asks

-- every trade takes an order out
abbrev pub looked : (increment : ℕ) → (away : Quote) → Books → Steps Books
looked increment away books = steps (look_step increment away) (standing_in books) books

-- what the call that looks over leaves: books, the count of trades, and the trades at the front of the caller's list
pub record Looks (l : Steps Books) (books : Books) (list listed : List Trade) (count : ℕ) : Type 0 where
  pub books_is : books ≡ l.state
  pub count_is : count ≡ length l.trades
  pub list_is : listed ≡ written l.trades list
