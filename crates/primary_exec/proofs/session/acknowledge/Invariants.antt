use Rattle.std.proofs.Common.{◌≡◌, ◌++◌, map, take, drop}
use Rattle.primary_exec.specs.Execution.{with_acked}
use Rattle.primary_exec.proofs.session.acknowledge.Given as goal

abbrev pub invariant-loop-session : goal.invariant-loop-session
invariant-loop-session l = l.sessions ≡ map (with_acked l.from l.name l.upto) (take l.session-index l.initial.sessions) ++ drop l.session-index l.initial.sessions
