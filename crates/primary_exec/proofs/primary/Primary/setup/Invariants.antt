use Rattle.std.proofs.Common.{◌≡◌, map}
use Rattle.region_map.specs.declared.id.NodeId.{NodeId}
use Rattle.primary_exec.specs.Execution.{join_all, setup_execution}
use Rattle.primary_exec.proofs.primary.Primary.setup.Given as goal

abbrev pub invariant-loop-server : goal.invariant-loop-server
invariant-loop-server l =
    (l.primary.me ≡ l.me)
    × (join_all l.place l.primary (map (λ (n : NodeId). n.0) l.server-iterator) ≡ setup_execution l.fn.contract l.me l.place)
