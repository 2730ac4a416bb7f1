use Rattle.std.proofs.Common.{◌+◌, ℕ, cond, ap, arith}
use Rattle.std.proofs.lemmas.Bool.{eq-eqb, ne_eqb}
use Rattle.chained.proofs.Held.{held, shares_fit}
use Rattle.chained.proofs.Steps.{sum_starts, sum_goes, sum_fits, along_below, along_falls}
use Rattle.chained.proofs.chained.calls.ChainedBook.shares_at.Goals as goal

pub loop-here-init : goal.loop-here-init
loop-here-init g c =
    let b = c.args.self.now in
    sum_starts b.chains.records.now c.args.price c.first-here.result b.apart b.whole c.first-here.ensures

pub at-record-requires : goal.at-record-requires
at-record-requires g c =
    along_below c.args.self.now.chains.records.now c.loop-here.here c.loop-here.invariant.along c.loop-here-test.true

pub overflow_add-sum : goal.overflow_add-sum
overflow_add-sum g c =
    let b = c.args.self.now in
    let o = c.at-record.result.order in
    let most = sum_fits b.chains.records.now c.args.price c.loop-here.sum c.loop-here.here
    c.loop-here.invariant c.loop-here-test.true c.at-record.result c.at-record.ensures in
    let there = ap (λ t. cond {A = ℕ} t o.shares 0) (eq-eqb o.price c.args.price c.if-record-price.true) in
    omega (arith, most, there, c.from-sum.ensures, shares_fit b.chains.records.now b.chains.count c.args.price (held b))

pub loop-here-smaller-then-record-price : goal.loop-here-smaller-then-record-price
loop-here-smaller-then-record-price g c =
    along_falls c.args.self.now.chains.records.now c.loop-here.here c.loop-here.invariant.along c.loop-here-test.true
    c.at-record.result c.at-record.ensures

pub loop-here-smaller : goal.loop-here-smaller
loop-here-smaller g c =
    along_falls c.args.self.now.chains.records.now c.loop-here.here c.loop-here.invariant.along c.loop-here-test.true
    c.at-record.result c.at-record.ensures

pub loop-here-preserved-then-record-price : goal.loop-here-preserved-then-record-price
loop-here-preserved-then-record-price g c =
    let o = c.at-record.result.order in
    let there = ap (λ t. cond {A = ℕ} t o.shares 0) (eq-eqb o.price c.args.price c.if-record-price.true) in
    sum_goes c.args.self.now.chains.records.now c.args.price c.loop-here.sum c.loop-here.here c.loop-here.invariant
    c.loop-here-test.true c.at-record.result c.at-record.ensures (c.loop-here.sum + c.from-sum.result)
    (omega (arith, there, c.from-sum.ensures))

pub loop-here-preserved : goal.loop-here-preserved
loop-here-preserved g c =
    let o = c.at-record.result.order in
    let elsewhere = ap (λ t. cond {A = ℕ} t o.shares 0) (ne_eqb o.price c.args.price c.if-record-price.false) in
    sum_goes c.args.self.now.chains.records.now c.args.price c.loop-here.sum c.loop-here.here c.loop-here.invariant
    c.loop-here-test.true c.at-record.result c.at-record.ensures c.loop-here.sum (omega (arith, elsewhere))
