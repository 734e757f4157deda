use Rattle.std.proofs.Common.{arith}
use Rattle.backfill_stream.proofs.Places.{numbered-long, behind-drop}
use Rattle.backfill_stream.proofs.numbered.acked_count.Goals as goal

pub overflow_sub-first : goal.overflow_sub-first
overflow_sub-first g c = omega (arith, numbered-long c.args.next c.args.parts.now c.requires)

pub returns-then-upto-first-clause-left : goal.returns-then-upto-first-clause-left
returns-then-upto-first-clause-left g c = behind-drop 0 c.args.upto c.args.next c.args.parts.now c.requires (omega arith)

pub returns-then-rest-parts-clause-left : goal.returns-then-rest-parts-clause-left
returns-then-rest-parts-clause-left g c = behind-drop _ c.args.upto c.args.next c.args.parts.now c.requires (omega (arith, numbered-long c.args.next c.args.parts.now c.requires))

pub returns-clause-left : goal.returns-clause-left
returns-clause-left g c = behind-drop _ c.args.upto c.args.next c.args.parts.now c.requires (omega (arith, numbered-long c.args.next c.args.parts.now c.requires))
