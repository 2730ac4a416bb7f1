-- Matching an entry. The rule is that of the standing side: of the bids for a sale, of the asks for a purchase.
use Rattle.std.specs.Prelude.{◌≡◌, ℕ, ◌+◌, ◌-◌, min, Bool, true, false, cond, not, ◌&&◌, ◌||◌, List, [], ◌∷◌, length, Some, None, Option, ◌==◌}
use Rattle.books.specs.Lists.{taken}
use Rattle.books.specs.declared.standing.Standing.{Standing}
use Rattle.rules.specs.Better.{on, placed, best_of, better}
use Rattle.rules.specs.Sides.{Rule}
use Rattle.rules.specs.declared.price.Quote.{Quote}
use Rattle.matching.specs.Trades.{Step, Steps, steps, written}
use Rattle.matching.specs.declared.candidate.Around.{Around}
use Rattle.matching.specs.declared.candidate.Candidate.{Candidate}
use Rattle.matching.specs.declared.candidate.Candidate.TheVariants.{Displayed, Dark}
use Rattle.matching.specs.declared.candidate.Entry.{Entry}
use Rattle.matching.specs.declared.entry.Left.{Left}
use Rattle.matching.specs.declared.trade.Trade.{Trade}

-- q does not come before p
abbrev pub at_or_ahead : Rule → (p q : ℕ) → Bool
at_or_ahead rule p q = not (rule.ahead q p)

-- an absent limit bars nothing
abbrev pub spared : Rule → ℕ → Option ℕ → Bool
spared rule p None = true
spared rule p (Some q) = at_or_ahead rule p q

abbrev pub front_price : List Standing → Option ℕ
front_price [] = None
front_price (o ∷ os) = Some o.price

abbrev pub best_against : Rule → Around → (front : Option ℕ) → Quote
best_against rule around front = best_of (placed rule.name front around.behind) around.away.quote

-- the front order, if its price passes
abbrev pub front_if : (ℕ → Bool) → List Standing → Option Standing
front_if passes [] = None
front_if passes (o ∷ os) = cond (passes o.price) (Some o) None

-- within the bound and, unless the entry is directed, not behind the away best
abbrev pub displayed_passes : Rule → Entry → Around → ℕ → Bool
displayed_passes rule entry around p =
    at_or_ahead rule p entry.bound && (entry.directed || spared rule p (on rule.name around.away.quote))

abbrev pub displayed_candidate : Rule → Entry → Around → List Standing → Option Standing
displayed_candidate rule entry around = front_if (displayed_passes rule entry around)

-- within the bound and at a better price; for a large entry the best price is enough
abbrev pub dark_passes : Rule → Entry → Around → Quote → ℕ → Bool
dark_passes rule entry around best p =
    at_or_ahead rule p entry.bound
    && (better rule around.away.increment best p || (entry.large && spared rule p (on rule.name best)))

abbrev pub dark_candidate : Rule → Entry → Around → (front : Option ℕ) → List Standing → Option Standing
dark_candidate rule entry around front = front_if (dark_passes rule entry around (best_against rule around front))

abbrev pub chosen : Rule → Option Standing → Option Standing → Option Candidate
chosen rule None None = None
chosen rule (Some d) None = Some (Displayed d)
chosen rule None (Some k) = Some (Dark k)
chosen rule (Some d) (Some k) = Some (cond (rule.ahead k.price d.price) (Dark k) (Displayed d))

abbrev pub order_in : Candidate → Standing
order_in (Displayed o) = o
order_in (Dark o) = o

abbrev pub is_dark : Candidate → Bool
is_dark (Displayed o) = false
is_dark (Dark o) = true

-- the standing orders on the other side, and the shares of the entry that are open
pub record Scene : Type 0 where
  pub displayed : List Standing
  pub dark : List Standing
  pub shares : ℕ

abbrev pub candidate : Rule → Entry → Around → Scene → Option Candidate
candidate rule entry around scene =
    cond (scene.shares == 0) None
    (chosen rule (displayed_candidate rule entry around scene.displayed)
    (dark_candidate rule entry around (front_price scene.displayed) scene.dark))

-- at the standing order's price, for the smaller open quantity
abbrev pub trade_with : Entry → Candidate → (shares : ℕ) → Trade
trade_with entry c shares = record {
  active = entry.number;
  standing = (order_in c).number;
  price = (order_in c).price;
  shares = min (order_in c).shares shares;
  dark = is_dark c;
}

-- a trade takes its shares from the front of the book that it names
abbrev pub displayed_after : Trade → List Standing → List Standing
displayed_after t orders = cond t.dark orders (taken orders t.shares).list

abbrev pub dark_after : Trade → List Standing → List Standing
dark_after t orders = cond t.dark (taken orders t.shares).list orders

abbrev pub traded : Trade → Scene → Scene
traded t scene = record {
  displayed = displayed_after t scene.displayed;
  dark = dark_after t scene.dark;
  shares = scene.shares - t.shares;
}

abbrev pub trade_step : Entry → Scene → Option Candidate → Option (Step Scene)
trade_step entry scene None = None
trade_step entry scene (Some c) =
    Some record { trade = trade_with entry c scene.shares; after = traded (trade_with entry c scene.shares) scene }

abbrev pub match_step : Rule → Entry → Around → Scene → Option (Step Scene)
match_step rule entry around scene = trade_step entry scene (candidate rule entry around scene)

-- every trade takes an order out, or else fills the entry: so there are no more trades than standing orders
abbrev pub matched : Rule → Entry → Around → Scene → Steps Scene
matched rule entry around scene =
    steps (match_step rule entry around) (length scene.displayed + length scene.dark) scene

-- what the call that matches leaves: books, open shares, and the trades at the front of the caller's list
pub record Leaves (m : Steps Scene) (displayed dark : List Standing) (list listed : List Trade) (left : Left) : Type 0 where
  pub displayed_is : displayed ≡ m.state.displayed
  pub dark_is : dark ≡ m.state.dark
  pub shares_is : left.shares ≡ m.state.shares
  pub trades_is : left.trades ≡ length m.trades
  pub list_is : listed ≡ written m.trades list
