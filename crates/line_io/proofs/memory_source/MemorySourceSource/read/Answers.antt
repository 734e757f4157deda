use Rattle.std.proofs.Common.{◌≡◌, take, drop, arith}
use Rattle.std.proofs.lemmas.Grind.{common_steps}
use Rattle.line_io.proofs.Told.{drop-cut}
use Rattle.line_io.proofs.memory_source.MemorySourceSource.read.Goals as goal

pub returns-clause-gives : goal.returns-clause-gives
returns-clause-gives c =
    let n = c.copy_front-count.result in
    let at = c.self.inside.at in
    let bytes = c.self.inside.bytes.items in
    let cut = drop-cut at n bytes in
    let same : take n c.copy_front-count.new.buf ≡ take n (drop at bytes) = grind (arith, common_steps) in
    rw same (grind (arith, common_steps))
