use Rattle.std.proofs.Common.{◌∙◌, ap, set, arith}
use Rattle.std.proofs.lemmas.List.{get_or_default}
use Rattle.std.proofs.lemmas.List.Edits.{map_over_more}
use Rattle.primary_exec.specs.Execution.{with_acked}
use Rattle.primary_exec.specs.declared.session.Session.{Session}
use Rattle.primary_exec.proofs.session.acknowledge.Goals as goal

pub loop-session-preserved : goal.loop-session-preserved
loop-session-preserved c =
    ap (λ (s : Session). set c.loop-session.sessions c.loop-session.session-index s) c.take_ack.ensures
    ∙ map_over_more (with_acked c.args.from c.args.name.now c.args.upto) c.args.sessions.now c.loop-session.sessions c.loop-session.session-index _ c.loop-session-test.true c.loop-session.invariant (get_or_default c.loop-session.sessions c.loop-session.session-index _ _ (omega arith))
