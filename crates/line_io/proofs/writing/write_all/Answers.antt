use Rattle.std.proofs.Common.{take, length, arith, subst}
use Rattle.line_io.specs.Bytes.{Appends}
use Rattle.std.proofs.lemmas.Slice.{between_to_end}
use Rattle.std.proofs.lemmas.Grind.{common_steps}
use Rattle.line_io.proofs.Told.{Appends-more, take-sum}
use Rattle.line_io.proofs.writing.write_all.Goals as goal

pub loop-at-preserved : goal.loop-at-preserved
loop-at-preserved g c = record {
  within = grind (arith, common_steps, c.in_ok-at.ensures.within);
  taken = rw take-sum (Appends-more _ _ _ _ _ c.loop-at.invariant.taken (subst (λ part. Appends (g.K.Sink.held c.loop-at.sink) (take c.in_ok-at.field-0 part) (g.K.Sink.held c.write.new.self)) (between_to_end c.args.piece.now c.loop-at.at (length c.args.piece.now) (omega arith)) c.in_ok-at.ensures.appends));
  never_falls = grind arith;
}
