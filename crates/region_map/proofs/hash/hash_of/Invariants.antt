use Rattle.std.proofs.Common.{◌≡◌, ◌*◌, ◌≤◌, length, take, sum}
use Rattle.region_map.proofs.hash.hash_of.Given as goal

abbrev pub invariant-loop-byte : goal.invariant-loop-byte
invariant-loop-byte l = (l.total ≡ sum (take l.byte-index l.byte-items)) × (l.total ≤ 255 * l.byte-index) × (length l.byte-items ≤ 64)
