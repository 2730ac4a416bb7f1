use Rattle.std.proofs.Common.{◌∙◌, ap}
use Rattle.rules.specs.Better.{on}
use Rattle.matching.proofs.Ending.{placed_by}
use Rattle.matching.proofs.placing.place.Goals as goal

pub returns-clause-places : goal.returns-clause-places
returns-clause-places g c =
    placed_by g.D.Side.Side.rule g.O.Side.Side.rule c.args.away.increment c.args.away.quote c.args.active.now _
    _ _ _ _ _ _ _ _ _ _ _ _ _ c.front_price.ensures c.match_entry-left.ensures.leaves
    (c.on.ensures ∙ ap (λ n. on n c.args.away.quote) c.name.ensures) c.front_price-2.ensures c.way_of-way.ensures
    c.book_rest.ensures.own c.book_rest.ensures.own_dark
