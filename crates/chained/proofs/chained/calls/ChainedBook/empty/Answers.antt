use Rattle.std.proofs.Common.{rules, length}
use Rattle.chained.proofs.Held.{held_cleared}
use Rattle.chained.proofs.chained.calls.ChainedBook.empty.Goals as goal

pub invariant_of-self : goal.invariant_of-self
invariant_of-self g c =
    let k =
    held_cleared c.clear.new.self.records.now (length c.args.self.now.chains.records.now) c.clear.new.self.count
    c.args.self.now.few c.clear.ensures.records c.clear.ensures.count in
    search rules
