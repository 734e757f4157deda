use Rattle.std.proofs.Common.{◌≡◌, drop}
use Rattle.primary_exec.specs.Execution.{parts_end_numbers}
use Rattle.primary_exec.proofs.session.ends_numbers.Given as goal

abbrev pub invariant-loop-session : goal.invariant-loop-session
invariant-loop-session l = parts_end_numbers (drop l.session-index l.sessions) ≡ parts_end_numbers l.sessions
