use Rattle.std.proofs.Common.{◌≡◌, drop}
use Rattle.node_core.specs.Step.{versions_from}
use Rattle.node_core.proofs.beginning.begin_branches.Given as goal

abbrev pub invariant-loop-place : goal.invariant-loop-place
invariant-loop-place l = record {
  rows : l.store.rows ≡ l.initial.store.rows;
  versions : versions_from l.me.0 l.place (drop l.place l.shards) l.store.versions ≡ versions_from l.me.0 0 l.shards l.initial.store.versions;
}
