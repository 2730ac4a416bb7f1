use Rattle.std.proofs.Common.{◌-◌, length, take, vec_items}
use Rattle.std.specs.Vec.Iter.{into_iter_items}
use Rattle.runs.proofs.Progress.{none_yet, one_more, plays_so, lent_part, not_ok}
use Rattle.runs.proofs.play.play_turns.Goals as goal

pub loop-turn-init : goal.loop-turn-init
loop-turn-init g c = none_yet _ _ _ (vec_items c.args.journal.now.lines) (vec_items c.args.journal.now.trades) c.requires.lines c.requires.trades

pub loop-turn-preserved : goal.loop-turn-preserved
loop-turn-preserved g c =
    one_more _ _ _ _ _ _ _ c.loop-turn.invariant c.in-Some.turn (into_iter_items c.next.new.self) (take (c.min-end.result - 0) c.loop-turn.list)
    (vec_items c.play_call.new.journal.lines) (vec_items c.play_call.new.journal.trades) (g.V.Venue.state c.play_call.new.market)
    c.in-Some.ensures.steps.0
    (lent_part c.min-end.result c.in-Some.turn.lent (length c.args.list.now) c.loop-turn.list c.min-end.ensures c.loop-turn.auto.list)
    c.in_ok-play_call.ensures.lines c.in_ok-play_call.ensures.trades c.in_ok-play_call.ensures.state

pub returns-in_err-play_call : goal.returns-in_err-play_call
returns-in_err-play_call g c =
    plays_so _ _ _ _ _ _ _ c.loop-turn.invariant (vec_items c.args.turns) _ (vec_items c.play_call.new.journal.lines) (vec_items c.play_call.new.journal.trades) (g.V.Venue.state c.play_call.new.market)
    c.into_iter-turn-iterator.ensures.into_iter_gives.0
    c.in_err-play_call.ensures.lines c.in_err-play_call.ensures.trades c.in_err-play_call.ensures.state
    (λ good. absurd (not_ok c.from_residual.result c.from_residual.ensures.0 good))
