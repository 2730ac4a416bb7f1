use Rattle.std.proofs.Common.{◌≡◌}
use Rattle.matching.specs.Looking.{Books, standing_in}
use Rattle.matching.proofs.Pairs.{Looking}
use Rattle.matching.proofs.pair.look_over.Given as goal

abbrev pub invariant-loop-pair : goal.invariant-loop-pair
invariant-loop-pair g l =
    let start : Books = record { bids = g.DB.Book.orders l.initial.bids; asks = g.DA.Book.orders l.initial.asks; dark_bids = g.KB.Book.orders l.initial.dark_bids; dark_asks = g.KA.Book.orders l.initial.dark_asks } in
    let books : Books = record { bids = g.DB.Book.orders l.bids; asks = g.DA.Book.orders l.asks; dark_bids = g.KB.Book.orders l.dark_bids; dark_asks = g.KA.Book.orders l.dark_asks } in
    Looking l.away.increment l.away.quote start l.initial.list books l.list l.trades
    × (g.DB.Book.room l.bids ≡ g.DB.Book.room l.initial.bids)
    × (g.DA.Book.room l.asks ≡ g.DA.Book.room l.initial.asks)
    × (g.KB.Book.room l.dark_bids ≡ g.KB.Book.room l.initial.dark_bids)
    × (g.KA.Book.room l.dark_asks ≡ g.KA.Book.room l.initial.dark_asks)

abbrev pub decreases-loop-pair : goal.decreases-loop-pair
decreases-loop-pair g l =
    standing_in record { bids = g.DB.Book.orders l.bids; asks = g.DA.Book.orders l.asks; dark_bids = g.KB.Book.orders l.dark_bids; dark_asks = g.KA.Book.orders l.dark_asks }
