use Rattle.std.proofs.Common.{◌≡◌, ◌++◌, map, filter, take}
use Rattle.primary_exec.specs.Execution.{has_room, with_sent, sends}
use Rattle.primary_exec.proofs.session.send.Given as goal

abbrev pub invariant-loop-session : goal.invariant-loop-session
invariant-loop-session l =
    (l.kept.items ≡ map with_sent (filter has_room (take l.session-index l.sessions)))
    × (l.out ≡ l.fn.out ++ map (sends l.part) (filter has_room (take l.session-index l.sessions)))
