-- An entry from matching to the end of its rest.
use Rattle.std.specs.Prelude.{◌≡◌, ℕ, Bool, true, false, cond, not, ◌&&◌, List, length}
use Rattle.books.specs.Lists.{added}
use Rattle.books.specs.declared.standing.Standing.{Standing}
use Rattle.rules.specs.Better.{on}
use Rattle.rules.specs.Sides.{Rule}
use Rattle.rules.specs.declared.price.Quote.{Quote}
use Rattle.matching.specs.Matching.{Scene, front_price, matched}
use Rattle.matching.specs.Trades.{Steps, written}
use Rattle.matching.specs.Ways.{way_of}
use Rattle.matching.specs.declared.candidate.Around.{Around}
use Rattle.matching.specs.declared.candidate.Entry.{Entry}
use Rattle.matching.specs.declared.placing.Ended.{Ended}
use Rattle.matching.specs.declared.trade.Trade.{Trade}
use Rattle.matching.specs.declared.way.Rest.{Rest}
use Rattle.matching.specs.declared.way.Way.{Way}
use Rattle.matching.specs.declared.way.Way.TheVariants.{Filled, Booked, Immediate, AwayBest, OwnFront}

-- the four books as an order of one side sees them: those that it meets, and those that it may be booked in
pub record View : Type 0 where
  pub displayed : List Standing
  pub dark : List Standing
  pub own : List Standing
  pub own_dark : List Standing

abbrev pub around_in : (increment : ℕ) → (away : Quote) → View → Around
around_in increment away view = record { away = record { increment = increment; quote = away }; behind = front_price view.own }

abbrev pub met : Rule → (increment : ℕ) → (away : Quote) → Entry → View → Steps Scene
met rule increment away entry view =
    matched rule entry (around_in increment away view)
    (record { displayed = view.displayed; dark = view.dark; shares = entry.shares })

abbrev pub rest_of : Rule → (away : Quote) → Entry → Scene → Rest
rest_of rule away entry scene = record {
  shares = scene.shares;
  immediate = entry.immediate;
  directed = entry.directed;
  displayed = entry.displayed;
  bound = entry.bound;
  away = on rule.name away;
  front = front_price scene.displayed;
}

abbrev pub is_booked : Way → Bool
is_booked Filled = false
is_booked Booked = true
is_booked Immediate = false
is_booked AwayBest = false
is_booked OwnFront = false

-- the rest stands in its own book at its bound
abbrev pub booked_in : Bool → Rule → (places : ℕ) → Entry → (shares : ℕ) → List Standing → List Standing
booked_in books_it own places entry shares orders =
    cond books_it (added own places orders (record { number = entry.number; price = entry.bound; shares = shares })).list orders

pub record Placed : Type 0 where
  pub view : View
  pub rest : ℕ
  pub way : Way
  pub trades : List Trade

abbrev pub ended_as : (own : Rule) → (places dark_places : ℕ) → Entry → View → Steps Scene → Way → Placed
ended_as own places dark_places entry view m way = record {
  view = record {
    displayed = m.state.displayed;
    dark = m.state.dark;
    own = booked_in (is_booked way && entry.displayed) own places entry m.state.shares view.own;
    own_dark = booked_in (is_booked way && not entry.displayed) own dark_places entry m.state.shares view.own_dark;
  };
  rest = m.state.shares;
  way = way;
  trades = m.trades;
}

abbrev pub placed : (rule own : Rule) → (increment : ℕ) → (away : Quote) → (places dark_places : ℕ) → Entry → View → Placed
placed rule own increment away places dark_places entry view =
    ended_as own places dark_places entry view (met rule increment away entry view)
    (way_of rule (rest_of rule away entry (met rule increment away entry view).state))

-- what the call that places an entry leaves
pub record Places (p : Placed) (view : View) (list listed : List Trade) (ended : Ended) : Type 0 where
  pub view_is : view ≡ p.view
  pub shares_is : ended.shares ≡ p.rest
  pub way_is : ended.way ≡ p.way
  pub trades_is : ended.trades ≡ length p.trades
  pub list_is : listed ≡ written p.trades list
