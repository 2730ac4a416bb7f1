use Rattle.std.proofs.Common.{rules, ◌-◌, ◌≤◌, length, take, arith, length-take}
use Rattle.chained.proofs.Held.{held_cleared}
use Rattle.chained.proofs.chained.Chained.new.Goals as goal

pub invariant_of-result : goal.invariant_of-result
invariant_of-result g c =
    let n : length (take (c.serving-end.result - 0) c.args.records.now) ≤ 4097 =
    simp length-take (omega (arith, c.serving-end.ensures)) in
    let k =
    held_cleared c.clear.new.self.records.now (length (take (c.serving-end.result - 0) c.args.records.now)) c.clear.new.self.count
    n c.clear.ensures.records c.clear.ensures.count in
    search rules
