-- The piece of a pair is the last one that begins by it.
use Rattle.std.proofs.Common.{◌-◌, cond, Some, None, sym, ap, ◌∙◌, arith, rules}
use Rattle.std.proofs.lemmas.List.Sorted.{IsPartitionPoint-from_clause}
use Rattle.region_map.specs.Regions.{in_region}
use Rattle.region_map.specs.Lookups.{begins_by}
use Rattle.region_map.proofs.Lookups.{passes_in_front, none_begun, last_begun}
use Rattle.region_map.proofs.map.find.Goals as goal

pub returns-then-begun-eq0 : goal.returns-then-begun-eq0
returns-then-begun-eq0 g c =
    let ps = c.args.pieces.now in
    let h = c.args.hash in
    let k = c.args.key.now in
    let at = IsPartitionPoint-from_clause (λ p. begins_by p.0 h k) ps c.partition_point-begun.result c.partition_point-begun.ensures.partitioned (passes_in_front ps h k c.requires) (λ a r f s. search rules) in
    sym (none_begun ps h k (λ i d lt. at.1 i d (omega arith) lt))

pub returns-then-contains_at : goal.returns-then-contains_at
returns-then-contains_at g c =
    let ps = c.args.pieces.now in
    let h = c.args.hash in
    let k = c.args.key.now in
    let n = c.partition_point-begun.result in
    let at = IsPartitionPoint-from_clause (λ p. begins_by p.0 h k) ps n c.partition_point-begun.ensures.partitioned (passes_in_front ps h k c.requires) (λ a r f s. search rules) in
    let last = last_begun ps h k (n - 1) c.index-pieces-begun.result c.requires (omega arith) (at.0 (n - 1) c.index-pieces-begun.result (omega arith) (omega arith)) (λ j x w v. at.1 j x (omega arith) v) in
    sym (last ∙ (λ i. cond (in_region (sym c.index-pieces-begun.is i).0 h k) (Some (sym c.index-pieces-begun.is i).1) None)
    ∙ ap (λ b. cond b (Some c.index-pieces-begun.result.1) None) (sym c.contains_at.ensures ∙ c.if-contains_at.true))

pub returns-else-contains_at : goal.returns-else-contains_at
returns-else-contains_at g c =
    let ps = c.args.pieces.now in
    let h = c.args.hash in
    let k = c.args.key.now in
    let n = c.partition_point-begun.result in
    let at = IsPartitionPoint-from_clause (λ p. begins_by p.0 h k) ps n c.partition_point-begun.ensures.partitioned (passes_in_front ps h k c.requires) (λ a r f s. search rules) in
    let last = last_begun ps h k (n - 1) c.index-pieces-begun.result c.requires (omega arith) (at.0 (n - 1) c.index-pieces-begun.result (omega arith) (omega arith)) (λ j x w v. at.1 j x (omega arith) v) in
    sym (last ∙ (λ i. cond (in_region (sym c.index-pieces-begun.is i).0 h k) (Some (sym c.index-pieces-begun.is i).1) None)
    ∙ ap (λ b. cond b (Some c.index-pieces-begun.result.1) None) (sym c.contains_at.ensures ∙ c.if-contains_at.false))
