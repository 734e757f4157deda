use Rattle.std.proofs.Common.{◌≡◌, ◌++◌, map, drop, None}
use Rattle.register_laws.specs.Lists.{told_from}
use Rattle.journal_story.proofs.story.replied.Given as goal

-- with the replies to those that are left, it comes to the replies to all
abbrev pub invariant-loop-op : goal.invariant-loop-op
invariant-loop-op l =
    l.told.items ++ told_from l.state (map (λ c. (c.0, c.1.now)) (drop l.op-index l.calls)) ≡ told_from None (map (λ c. (c.0, c.1.now)) l.calls)
