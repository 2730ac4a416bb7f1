use Rattle.std.proofs.Common.{length, is_ok, vec_items}
use Rattle.runs.proofs.Progress.{plays_day}
use Rattle.runs.proofs.play.play_over.Goals as goal

pub returns : goal.returns
returns g c =
    plays_day c.args.sheet.now (g.V.Books.BookSet.rooms c.args.books)
    (g.V.Venue.state c.open-market.result) (length c.args.list.now) (vec_items c.args.turns) (is_ok c.play_turns-done.result) (vec_items c.play_turns-done.new.journal.lines) (vec_items c.play_turns-done.new.journal.trades) (g.V.Venue.state c.play_turns-done.new.market)
    c.open-market.ensures c.play_turns-done.ensures
