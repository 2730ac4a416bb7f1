-- An entry that is placed, and then looked over.
use Rattle.std.proofs.Common.{◌≡◌, ℕ, ◌+◌, ◌-◌, ◌≤◌, min, List, length, take, drop, ap, ◌∙◌, subst, arith}
use borrow.Rule.Slice.PartMut.{put_mid}
use Rattle.market.specs.Handling.{Handles}
use Rattle.matching.specs.Placement.{PlacesIn}
use Rattle.matching.specs.Sets.{Rooms, met_rule, facing, placed_in, seen_from}
use Rattle.market.proofs.Listing.{written_both}
use Rattle.matching.proofs.Going.{steps_length}
use Rattle.matching.proofs.Turns.{matched_shares}
use Rattle.matching.specs.Looking.{Books, standing_in, look_step, looked, Looks}
use Rattle.matching.specs.Matching.{match_step}
use Rattle.matching.specs.Placing.{Placed, around_in}
use Rattle.matching.specs.declared.candidate.Entry.{Entry}
use Rattle.matching.specs.declared.placing.Ended.{Ended}
use Rattle.matching.specs.declared.trade.Trade.{Trade}
use Rattle.rules.specs.declared.price.Quote.{Quote}
use Rattle.rules.specs.declared.terms.SideName.{SideName}
use Rattle.rules.specs.declared.terms.SideName.TheVariants.{Bid, Ask}

pub placed_few : (side : SideName) (increment : ℕ) (away : Quote) (rooms : Rooms) (entry : Entry) (books : Books) → length (placed_in side increment away rooms entry books).trades ≤ standing_in books
placed_few Bid increment away rooms entry books =
    omega (arith, steps_length (match_step (met_rule Bid) entry (around_in increment away (facing Bid books))) (length books.asks + length books.dark_asks) (record { displayed = books.asks; dark = books.dark_asks; shares = entry.shares }))
placed_few Ask increment away rooms entry books =
    omega (arith, steps_length (match_step (met_rule Ask) entry (around_in increment away (facing Ask books))) (length books.bids + length books.dark_bids) (record { displayed = books.bids; dark = books.dark_bids; shares = entry.shares }))

pub placed_rest : (side : SideName) (increment : ℕ) (away : Quote) (rooms : Rooms) (entry : Entry) (books : Books) → (placed_in side increment away rooms entry books).rest ≤ entry.shares
placed_rest side increment away rooms entry books =
    matched_shares (met_rule side) entry (around_in increment away (facing side books))
    (record { displayed = (facing side books).displayed; dark = (facing side books).dark; shares = entry.shares })

pub looked_few : (increment : ℕ) (away : Quote) (books : Books) → length (looked increment away books).trades ≤ standing_in books
looked_few increment away books = steps_length (look_step increment away) (standing_in books) books

module _ (side : SideName) (increment : ℕ) (away : Quote) (p : Placed) (list placed_list last_list : List Trade) (at : ℕ) (placed_books after : Books) (ended : Ended) (count : ℕ) where
  pub handled_both : PlacesIn side p placed_books list placed_list ended → at ≡ min ended.trades (length placed_list) → Looks (looked increment away placed_books) after (take (length placed_list - at) (drop at placed_list)) last_list count → Handles p (looked increment away (seen_from side p.view)) after list (put_mid at (length placed_list - at) placed_list last_list) (record { ended = ended; trades = ended.trades + count })
  handled_both placed cut looks =
      let l = subst (λ b. Looks (looked increment away b) after (take (length placed_list - at) (drop at placed_list)) last_list count) placed.books_is looks in
      record {
        books_is = l.books_is;
        rest_is = placed.shares_is;
        way_is = placed.way_is;
        trades_is = omega (arith, placed.trades_is, l.count_is);
        list_is =
            written_both p.trades _ list placed_list last_list at placed.list_is
            (cut ∙ ap (λ n. min n (length placed_list)) placed.trades_is) l.list_is;
      }
