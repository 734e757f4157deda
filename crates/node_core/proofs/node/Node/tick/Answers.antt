use Rattle.std.proofs.Common.{sym, arith}
use Rattle.std.proofs.lemmas.Grind.{common_steps}
use Rattle.node_core.proofs.Ticks.{ticked_node, ticked_outs, ends_same, ticked_goes}
use Rattle.node_core.proofs.node.Node.tick.Goals as goal

pub returns-clause-node : goal.returns-clause-node
returns-clause-node c = ticked_node c.args.self c.propose.new.self c.in_ok-ticked.ticked c.in_ok-propose.ensures c.in_ok-ticked.ensures.node

pub returns-clause-out : goal.returns-clause-out
returns-clause-out c =
    ticked_outs c.args.self c.propose.new.self c.in_ok-ticked.ticked c.args.out.now c.tick_log.new.out c.say.new.out c.in_ok-propose.ensures c.in_ok-ticked.ensures.node
    c.in_ok-ticked.ensures.out c.in_ok-say.ensures

pub returns-clause-goes : goal.returns-clause-goes
returns-clause-goes c = ticked_goes c.args.self c.propose.new.self c.in_ok-propose.ensures c.in_ok-ticked.ensures.goes

pub returns-in_err-ticked-clause-ends : goal.returns-in_err-ticked-clause-ends
returns-in_err-ticked-clause-ends c = rw (sym (ends_same c.args.self c.propose.new.self c.in_ok-propose.ensures)) (grind (arith, common_steps))
