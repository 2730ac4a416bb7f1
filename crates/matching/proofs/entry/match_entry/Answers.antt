use Rattle.std.proofs.Common.{sym, refl, ◌∙◌}
use Rattle.matching.specs.Matching.{Scene}
use Rattle.matching.proofs.Turns.{turning_none, turning_more, turning_all, shares_fall}
use Rattle.matching.proofs.entry.match_entry.Goals as goal

pub loop-candidate-init : goal.loop-candidate-init
loop-candidate-init g c = (turning_none g.D.Side.Side.rule c.args.active.now c.args.around.now _ c.args.list.now, refl, refl)

pub loop-candidate-smaller : goal.loop-candidate-smaller
loop-candidate-smaller g c =
    let scene : Scene = record { displayed = g.D.Book.orders c.loop-candidate.displayed; dark = g.K.Book.orders c.loop-candidate.dark; shares = c.loop-candidate.shares } in
    shares_fall g.D.Side.Side.rule c.args.active.now c.args.around.now scene c.in-Some.candidate _ (sym c.in-Some.ensures)
    (g.met.D.Book.kept c.loop-candidate.displayed).2 (g.met.K.Book.kept c.loop-candidate.dark).2 c.trade_with-trade.ensures

pub loop-candidate-preserved : goal.loop-candidate-preserved
loop-candidate-preserved g c =
    let scene : Scene = record { displayed = g.D.Book.orders c.loop-candidate.displayed; dark = g.K.Book.orders c.loop-candidate.dark; shares = c.loop-candidate.shares } in (
      turning_more g.D.Side.Side.rule c.args.active.now c.args.around.now scene c.in-Some.candidate _ (sym c.in-Some.ensures)
          (g.met.D.Book.kept c.loop-candidate.displayed).2 (g.met.K.Book.kept c.loop-candidate.dark).2 c.trade_with-trade.ensures
          _ _ _ _ _ _ _ c.loop-candidate.invariant.0 c.make_trade.ensures.displayed c.make_trade.ensures.dark c.make_trade.ensures.list,
      c.make_trade.ensures.places.0 ∙ c.loop-candidate.invariant.1,
      c.make_trade.ensures.places.1 ∙ c.loop-candidate.invariant.2,
    )

pub returns : goal.returns
returns g c =
    record {
      leaves =
          turning_all g.D.Side.Side.rule c.args.active.now c.args.around.now _ _ _ _ _ c.loop-candidate.invariant.0
          (sym c.in_default.ensures);
      places = (c.loop-candidate.invariant.1, c.loop-candidate.invariant.2);
    }
