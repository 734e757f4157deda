use Rattle.std.proofs.Common.{◌≤◌, ◌+◌, ◌-◌, length}
use Rattle.region_map.specs.Rows.{IsZipping}
use Rattle.region_map.proofs.row.zipped.Given as goal

abbrev pub invariant-loop-from : goal.invariant-loop-from
invariant-loop-from g l = IsZipping (g.F.Combine.combined l.with) l.a l.b l.i l.j l.row.items l.from × (l.i ≤ length l.a) × (l.j ≤ length l.b)

abbrev pub decreases-loop-from : goal.decreases-loop-from
decreases-loop-from g l = (length l.a - l.i) + (length l.b - l.j)
