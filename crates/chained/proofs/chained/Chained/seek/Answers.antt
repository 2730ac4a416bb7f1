use Rattle.std.proofs.Common.{false, sym}
use Rattle.chained.proofs.Steps.{along_first, along_next, seek_starts, seek_goes, along_below, along_falls}
use Rattle.chained.proofs.chained.Chained.seek.Goals as goal

pub loop-here-init : goal.loop-here-init
loop-here-init g c =
    let b = c.args.self.now in
    record {
      along = along_first b.chains.records.now b.apart b.whole c.first-here.result c.first-here.ensures;
      seeking = λ meant m. seek_starts b.chains.records.now meant c.first-here.result b.apart b.whole c.first-here.ensures;
    }

pub at-record-requires : goal.at-record-requires
at-record-requires g c =
    along_below c.args.self.now.chains.records.now c.loop-here.here c.loop-here.invariant.along c.loop-here-test.true

pub loop-here-smaller : goal.loop-here-smaller
loop-here-smaller g c =
    along_falls c.args.self.now.chains.records.now c.loop-here.here c.loop-here.invariant.along c.loop-here-test.true
    c.at-record.result c.at-record.ensures

pub loop-here-preserved : goal.loop-here-preserved
loop-here-preserved g c =
    let rs = c.args.self.now.chains.records.now in
    record {
      along = along_next rs c.loop-here.here c.loop-here.invariant.along c.loop-here-test.true c.at-record.result c.at-record.ensures;
      seeking = λ meant m.
          seek_goes rs meant c.loop-here.before c.loop-here.here (c.loop-here.invariant.seeking meant m) c.loop-here-test.true
          c.at-record.result c.at-record.ensures (sym (m c.at-record.result.order false c.if-passes.ensures));
    }
