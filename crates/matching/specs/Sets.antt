-- Four books taken together: bids and asks, displayed and dark.
use Rattle.std.specs.Prelude.{ℕ, Bool, true, false, List, [], length, Some, None, Ok, Err, Option, Result, nat_lt}
use Rattle.books.specs.Lists.{find, removed}
use Rattle.books.specs.declared.standing.Standing.{Standing}
use Rattle.matching.specs.Looking.{Books}
use Rattle.matching.specs.Placing.{View, Placed, placed}
use Rattle.matching.specs.declared.candidate.Entry.{Entry}
use Rattle.rules.specs.Sides.{Rule, bids, asks}
use Rattle.rules.specs.declared.price.Quote.{Quote}
use Rattle.rules.specs.declared.refusal.Refusal.{Refusal}
use Rattle.rules.specs.declared.refusal.Refusal.TheVariants.{NotStanding}
use Rattle.rules.specs.declared.terms.SideName.{SideName}
use Rattle.rules.specs.declared.terms.SideName.TheVariants.{Bid, Ask}

-- how many places each book has
pub record Rooms : Type 0 where
  pub bids : ℕ
  pub asks : ℕ
  pub dark_bids : ℕ
  pub dark_asks : ℕ

abbrev pub empty_books : Books
empty_books = record { bids = []; asks = []; dark_bids = []; dark_asks = [] }

-- a buy meets the asks, a sale the bids
abbrev pub met_rule : SideName → Rule
met_rule Bid = asks
met_rule Ask = bids

abbrev pub own_rule : SideName → Rule
own_rule Bid = bids
own_rule Ask = asks

abbrev pub facing : SideName → Books → View
facing Bid b = record { displayed = b.asks; dark = b.dark_asks; own = b.bids; own_dark = b.dark_bids }
facing Ask b = record { displayed = b.bids; dark = b.dark_bids; own = b.asks; own_dark = b.dark_asks }

abbrev pub seen_from : SideName → View → Books
seen_from Bid v = record { bids = v.own; asks = v.displayed; dark_bids = v.own_dark; dark_asks = v.dark }
seen_from Ask v = record { bids = v.displayed; asks = v.own; dark_bids = v.dark; dark_asks = v.own_dark }

abbrev pub own_room : SideName → Bool → Rooms → ℕ
own_room Bid true r = r.bids
own_room Bid false r = r.dark_bids
own_room Ask true r = r.asks
own_room Ask false r = r.dark_asks

abbrev pub own_list : SideName → (displayed : Bool) → Books → List Standing
own_list Bid true b = b.bids
own_list Bid false b = b.dark_bids
own_list Ask true b = b.asks
own_list Ask false b = b.dark_asks

abbrev pub room_left : SideName → (displayed : Bool) → Rooms → Books → Bool
room_left side displayed rooms books = nat_lt (length (own_list side displayed books)) (own_room side displayed rooms)

abbrev pub placed_in : SideName → (increment : ℕ) → (away : Quote) → Rooms → Entry → Books → Placed
placed_in side increment away rooms entry books =
    placed (met_rule side) (own_rule side) increment away (own_room side true rooms) (own_room side false rooms) entry (facing side books)

-- the order with that number in the first of two lists where it stands
abbrev pub first_found : (a b : Option Standing) → Option Standing
first_found None b = b
first_found (Some o) b = Some o

abbrev pub find_either : (number : ℕ) → (a b : List Standing) → Option Standing
find_either n a b = first_found (find n a) (find n b)

-- displayed orders are looked for first; a number stands in one book at the most
abbrev pub find_in : (number : ℕ) → Books → Option Standing
find_in n k = first_found (find_either n k.bids k.asks) (find_either n k.dark_bids k.dark_asks)

-- a list that is passed over stays
abbrev pub unless_found : Option Standing → (number : ℕ) → List Standing → List Standing
unless_found None n orders = (removed n orders).list
unless_found (Some o) n orders = orders

abbrev pub without_in : (number : ℕ) → Books → Books
without_in n k = record {
  bids = unless_found None n k.bids;
  asks = unless_found (find n k.bids) n k.asks;
  dark_bids = unless_found (find_either n k.bids k.asks) n k.dark_bids;
  dark_asks = unless_found (first_found (find_either n k.bids k.asks) (find n k.dark_bids)) n k.dark_asks;
}

abbrev pub shares_or_refusal : Option Standing → Result ℕ Refusal
shares_or_refusal None = Err NotStanding
shares_or_refusal (Some o) = Ok o.shares

abbrev pub open_shares : Option Standing → Option ℕ
open_shares None = None
open_shares (Some o) = Some o.shares
