use Rattle.std.proofs.Common.{ℕ, ◌<◌, take, length, sym, subst, arith}
use Rattle.std.proofs.lemmas.Result.{err_from_is_err_and}
use Rattle.line_io.specs.Bytes.{Appends}
use Rattle.line_io.proofs.Told.{Appends-more}
use Rattle.report_text.specs.Report.{joined}
use Rattle.report_text.proofs.Joined.{joined-more, part-more}
use Rattle.report_text.proofs.printing.write_lines.Goals as goal

pub returns-in_err-write_all-clause-part : goal.returns-in_err-write_all-clause-part
returns-in_err-write_all-clause-part g c =
    let p = err_from_is_err_and c.from_residual.result c.from_residual.ensures.1 in
    rw p.1 (part-more (g.K.Sink.held c.args.sink.now) (g.K.Sink.held c.loop-line.sink) (g.K.Sink.held c.write_all.new.sink) c.args.lines.now c.loop-line.line-index c.line-item.result c.loop-line-test.true c.line-item.is c.loop-line.invariant.taken (subst (λ piece. (n : ℕ) × (n < length piece) × Appends (g.K.Sink.held c.loop-line.sink) (take n piece) (g.K.Sink.held c.write_all.new.sink)) c.as_bytes.ensures c.in_err-write_all.ensures.part))

pub loop-line-preserved : goal.loop-line-preserved
loop-line-preserved g c = record {
  taken =
      subst (λ text. Appends (g.K.Sink.held c.args.sink.now) text (g.K.Sink.held c.write_all.new.sink)) (sym (joined-more c.args.lines.now c.loop-line.line-index c.line-item.result c.loop-line-test.true c.line-item.is))
      (Appends-more (g.K.Sink.held c.args.sink.now) (g.K.Sink.held c.loop-line.sink) (g.K.Sink.held c.write_all.new.sink) (joined (take c.loop-line.line-index c.args.lines.now)) c.line-item.result c.loop-line.invariant.taken (subst (λ piece. Appends (g.K.Sink.held c.loop-line.sink) piece (g.K.Sink.held c.write_all.new.sink)) c.as_bytes.ensures c.in_ok-write_all.ensures.appends));
  never_falls = grind arith;
}
