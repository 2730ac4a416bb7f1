-- The scenarios as runs of calls on a market that was just opened, in one table that is computed over the definitions that the contracts cite.
use Rattle.std.specs.Prelude.{Bool, true, ◌&&◌, List, [], ◌∷◌, ◌++◌, None}
use Rattle.cases.specs.Runs.{Turn, enters, cancels, notices, leaves, plain, immediate, directed, buy, sale, opened, quotes, stands, displayed, dark, order, run_holds}
use Rattle.matching.specs.declared.way.Way.TheVariants.{Filled, Booked, Immediate}
use Rattle.rules.specs.declared.terms.Kind.TheVariants.{Displayed, Dark, HalfStep}
use Rattle.rules.specs.declared.terms.SideName.TheVariants.{Bid, Ask}

abbrev pub all_come_out : List (List Turn) → Bool
all_come_out [] = true
all_come_out (run ∷ runs) = run_holds opened run && all_come_out runs

-- The scenarios of the notice on specific questions: we are marketplace A there, and the ask is away.

-- marketplace 1 bids 4008 throughout: the dark bid at 4008 is no better price, and our bid at 4004 is behind the away best
abbrev scenario_1a : List Turn
scenario_1a =
    quotes 2 Ask 4020
    ∷ quotes 1 Bid 4008
    ∷ stands 1 (buy Dark plain 4012 1000)
    ∷ stands 2 (buy Dark plain 4008 1000)
    ∷ stands 3 (buy Displayed plain 4008 2000)
    ∷ stands 4 (buy Displayed plain 4004 1000)
    ∷ enters (sale Displayed immediate 4004 4000) 5 3000 0 1000 Immediate
    (dark 5 1 4012 1000 ∷ displayed 5 3 4008 2000 ∷ [])
    ∷ leaves record { bids = order 4 4004 1000 ∷ []; asks = []; dark_bids = order 2 4008 1000 ∷ []; dark_asks = [] }
    ∷ []

-- our bid at 4008 is the best: when it is gone, 4008 is a better price than 4004
abbrev scenario_1b : List Turn
scenario_1b =
    quotes 2 Ask 4020
    ∷ quotes 1 Bid 4004
    ∷ stands 1 (buy Dark plain 4012 1000)
    ∷ stands 2 (buy Dark plain 4008 1000)
    ∷ stands 3 (buy Displayed plain 4008 2000)
    ∷ stands 4 (buy Displayed plain 4004 1000)
    ∷ enters (sale Displayed plain 4004 3500) 5 3500 0 0 Filled
    (dark 5 1 4012 1000 ∷ displayed 5 3 4008 2000 ∷ dark 5 2 4008 500 ∷ [])
    ∷ leaves record { bids = order 4 4004 1000 ∷ []; asks = []; dark_bids = order 2 4008 500 ∷ []; dark_asks = [] }
    ∷ []

-- a directed sale needs a better price too: what it does not trade with the displayed bid is booked
abbrev scenario_2a : List Turn
scenario_2a =
    quotes 1 Bid 4000
    ∷ quotes 2 Ask 4004
    ∷ stands 1 (buy Displayed plain 4000 1000)
    ∷ stands 2 (buy Dark plain 4000 5000)
    ∷ enters (sale Displayed directed 4000 3000) 3 1000 2000 0 Booked (displayed 3 1 4000 1000 ∷ [])
    ∷ leaves record { bids = []; asks = order 3 4000 2000 ∷ []; dark_bids = order 2 4000 5000 ∷ []; dark_asks = [] }
    ∷ []

-- then marketplace 1's bid goes, or else the dark bid comes back as a displayed one
abbrev withdrawn_2a : List Turn
withdrawn_2a =
    notices 1 Bid None (dark 3 2 4000 2000 ∷ [])
    ∷ leaves record { bids = []; asks = []; dark_bids = order 2 4000 3000 ∷ []; dark_asks = [] }
    ∷ []

abbrev displayed_2a : List Turn
displayed_2a =
    cancels 2 5000 []
    ∷ enters (buy Displayed plain 4000 5000) 4 2000 3000 0 Booked (displayed 4 3 4000 2000 ∷ [])
    ∷ leaves record { bids = order 4 4000 3000 ∷ []; asks = []; dark_bids = []; dark_asks = [] }
    ∷ []

-- a directed sale goes past marketplace 1's bid, with displayed bids only
abbrev scenario_2b : List Turn
scenario_2b =
    quotes 1 Bid 4040
    ∷ quotes 2 Bid 4036
    ∷ quotes 3 Ask 4044
    ∷ stands 1 (buy Displayed plain 4040 1000)
    ∷ stands 2 (buy Dark plain 4040 5000)
    ∷ stands 3 (buy Displayed plain 4036 2000)
    ∷ enters (sale Displayed directed 4036 4000) 4 3000 1000 0 Booked
    (displayed 4 1 4040 1000 ∷ displayed 4 3 4036 2000 ∷ [])
    ∷ leaves record { bids = []; asks = order 4 4036 1000 ∷ []; dark_bids = order 2 4040 5000 ∷ []; dark_asks = [] }
    ∷ []

-- then marketplace 1's bid goes, and 4040 is a better price than 4036; or else the dark bid comes back as a displayed one
abbrev withdrawn_2b : List Turn
withdrawn_2b =
    notices 1 Bid None (dark 4 2 4040 1000 ∷ [])
    ∷ leaves record { bids = []; asks = []; dark_bids = order 2 4040 4000 ∷ []; dark_asks = [] }
    ∷ []

abbrev displayed_2b : List Turn
displayed_2b =
    cancels 2 5000 []
    ∷ enters (buy Displayed plain 4040 5000) 5 1000 4000 0 Booked (displayed 5 4 4036 1000 ∷ [])
    ∷ leaves record { bids = order 5 4040 4000 ∷ []; asks = []; dark_bids = []; dark_asks = [] }
    ∷ []

-- between quotes that are one increment apart, half a step is a better price
abbrev half_step : List Turn
half_step =
    quotes 1 Bid 4000
    ∷ quotes 1 Ask 4004
    ∷ stands 1 (buy HalfStep plain 4004 100)
    ∷ leaves record { bids = []; asks = []; dark_bids = order 1 4002 100 ∷ []; dark_asks = [] }
    ∷ enters (sale Displayed plain 4000 100) 2 100 0 0 Filled (dark 2 1 4002 100 ∷ [])
    ∷ leaves record { bids = []; asks = []; dark_bids = []; dark_asks = [] }
    ∷ []

-- a large sale trades in the dark at the best bid, after the displayed bid
abbrev large_sale : List Turn
large_sale =
    quotes 1 Bid 4000
    ∷ stands 1 (buy Displayed plain 4000 100)
    ∷ stands 2 (buy Dark plain 4000 10000)
    ∷ enters (sale Displayed immediate 4000 5100) 3 5100 0 0 Filled
    (displayed 3 1 4000 100 ∷ dark 3 2 4000 5000 ∷ [])
    ∷ leaves record { bids = []; asks = []; dark_bids = order 2 4000 5000 ∷ []; dark_asks = [] }
    ∷ []

abbrev pub scenarios : List (List Turn)
scenarios =
    scenario_1a
    ∷ scenario_1b
    ∷ (scenario_2a ++ withdrawn_2a)
    ∷ (scenario_2a ++ displayed_2a)
    ∷ (scenario_2b ++ withdrawn_2b)
    ∷ (scenario_2b ++ displayed_2b)
    ∷ half_step
    ∷ large_sale
    ∷ []
