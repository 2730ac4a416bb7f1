use Rattle.std.proofs.Common.{sym, refl, ◌∙◌, rules}
use Rattle.matching.proofs.Pairs.{looking_none, looking_turn, looking_all, turn_fewer}
use Rattle.matching.proofs.pair.look_over.Goals as goal

pub loop-pair-init : goal.loop-pair-init
loop-pair-init g c = (looking_none c.args.away.increment c.args.away.quote _ c.args.list.now, refl, refl, refl, refl)

pub loop-pair-smaller : goal.loop-pair-smaller
loop-pair-smaller g c =
    turn_fewer c.args.away.increment c.args.away.quote _ _ c.in-Some.pair (sym c.in-Some.ensures) (
      (g.met.DB.Book.kept c.loop-pair.bids).2,
      (g.met.DA.Book.kept c.loop-pair.asks).2,
      (g.met.KB.Book.kept c.loop-pair.dark_bids).2,
      (g.met.KA.Book.kept c.loop-pair.dark_asks).2,
    ) c.trade_pair.ensures.books

pub loop-pair-preserved : goal.loop-pair-preserved
loop-pair-preserved g c =
    let i = c.loop-pair.invariant in
    let e = c.trade_pair.ensures in (
      looking_turn c.args.away.increment c.args.away.quote _ _ _ _ _ _ _ c.in-Some.pair i.0 (sym c.in-Some.ensures) (
        (g.met.DB.Book.kept c.loop-pair.bids).2,
        (g.met.DA.Book.kept c.loop-pair.asks).2,
        (g.met.KB.Book.kept c.loop-pair.dark_bids).2,
        (g.met.KA.Book.kept c.loop-pair.dark_asks).2,
      ) e.books (search rules),
      e.displayed_places.0 ∙ i.1,
      e.displayed_places.1 ∙ i.2,
      e.dark_places.0 ∙ i.3,
      e.dark_places.1 ∙ i.4,
    )

pub returns : goal.returns
returns g c =
    let i = c.loop-pair.invariant in
    record {
      looks = looking_all c.args.away.increment c.args.away.quote _ _ _ _ _ i.0 (sym c.in_default.ensures);
      displayed_places = (i.1, i.2);
      dark_places = (i.3, i.4);
    }
