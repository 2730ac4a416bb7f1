use Rattle.std.proofs.Common.{◌-◌, length, ap, ◌∙◌, arith}
use Rattle.std.proofs.lemmas.List.{length-set}
use Rattle.chained.specs.Records.{order_of, next_of, with_free}
use Rattle.chained.proofs.Columns.{freed_last, cleared_none, cleared_some}
use Rattle.chained.proofs.chains.Chains.clear.Goals as goal
use Rattle.chained.proofs.chains.Chains.clear.Goals.{then-end-gt0, else-end-gt0}

pub returns-clause-records : goal.returns-clause-records
returns-clause-records c =
    let rs = c.loop-k.record-items in
    let n = length c.args.self.now.records.now in
    elim c.if-end-gt0.branch [
      | then-end-gt0 w ↦
          cleared_some (with_free rs (n - 1) 0) c.if-end-gt0.self.records.now n n
          (length-set rs (n - 1) (record { order = order_of rs (n - 1); next = next_of rs (n - 1); free = 0 }) ∙ c.loop-k.auto.record-items)
          (omega arith) (freed_last rs n c.loop-k.auto.record-items (λ j h. c.loop-k.invariant j (omega (arith, h, c.loop-k-test.false))))
          w.if-end-gt0.true (ap (λ s. s.records.now) w.self-is)
      | else-end-gt0 w ↦
          cleared_none rs c.if-end-gt0.self.records.now n n c.loop-k.auto.record-items (omega arith)
          (λ j h. absurd (omega (arith, h, w.if-end-gt0.false))) w.if-end-gt0.false (ap (λ s. s.records.now) w.self-is)
    ]
