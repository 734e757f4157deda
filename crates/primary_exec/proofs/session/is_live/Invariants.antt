use Rattle.std.proofs.Common.{◌≡◌, drop}
use Rattle.primary_exec.specs.Execution.{is_any_session}
use Rattle.primary_exec.proofs.session.is_live.Given as goal

abbrev pub invariant-loop-session : goal.invariant-loop-session
invariant-loop-session l = is_any_session l.from l.name (drop l.session-index l.sessions) ≡ is_any_session l.from l.name l.sessions
