use Rattle.std.proofs.Common.{◌++◌, take, arith}
use Rattle.std.proofs.lemmas.Result.{err_from_is_err_and}
use Rattle.std.proofs.lemmas.Grind.{common_steps}
use Rattle.line_io.proofs.Told.{Gives-more}
use Rattle.line_io.proofs.reading.read_all.Goals as goal

pub returns-then-count-limit-clause-refused : goal.returns-then-count-limit-clause-refused
returns-then-count-limit-clause-refused g c =
    (c.loop-bytes.bytes.items ++ take c.in_ok-count.count c.read.new.buf, Gives-more _ _ _ _ _ c.loop-bytes.invariant.came c.in_ok-count.ensures.gives, grind (arith, common_steps, c.in_ok-count.ensures.within))

pub returns-in_err-extend_from_slice-clause-refused :
    goal.returns-in_err-extend_from_slice-clause-refused
returns-in_err-extend_from_slice-clause-refused g c =
    let p = err_from_is_err_and c.from_residual-in_err-extend_from_slice.result c.from_residual-in_err-extend_from_slice.ensures.1 in
    rw (p.1, p.2) (c.loop-bytes.bytes.items ++ take c.in_ok-count.count c.read.new.buf, Gives-more _ _ _ _ _ c.loop-bytes.invariant.came c.in_ok-count.ensures.gives, grind (arith, common_steps, c.in_ok-count.ensures.within))
