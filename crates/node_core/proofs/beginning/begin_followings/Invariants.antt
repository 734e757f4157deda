use Rattle.std.proofs.Common.{◌≡◌, ◌++◌, drop}
use Rattle.node_core.specs.Step.{followings_from}
use Rattle.node_core.proofs.beginning.begin_followings.Given as goal

abbrev pub invariant-loop-place : goal.invariant-loop-place
invariant-loop-place l = l.followings.items ++ followings_from l.me.0 l.place (drop l.place l.shards) ≡ followings_from l.me.0 0 l.shards
