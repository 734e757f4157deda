-- Where a store stands once a primary has started.
use Rattle.std.proofs.Common.{◌≡◌, ℕ, ◌+◌, ◌<◌, Bool, true, false, cond, ◌&&◌, nat_lt, Option, Some, None, is_some, refl, ap, ◌∙◌, sym, subst, arith}
use Rattle.std.proofs.lemmas.Bool.{lt-ltb, false≢true}
use Rattle.region_map.specs.declared.id.Id.{Id}
use Rattle.region_map.specs.declared.region.Region.{Region}
use Rattle.region_map.specs.Regions.{in_region}
use Rattle.region_map.specs.Maps.{Pieced, value_at}
use Rattle.branch_history.specs.declared.version.Version.{Version}
use Rattle.branch_history.proofs.PathLaws.{id_self}
use Rattle.store_api.specs.Rows.{Rows}
use Rattle.store_api.specs.Versions.{IsStored, point, is_behind, advanced, advanced_map, replaced_map}
use Rattle.store_api.specs.Calls.{HasValues}
use Rattle.store_api.proofs.VersionMaps.{advanced_map_canonical, advanced_map_hashes, advanced_map_at, replaced_map_hashes, replaced_map_at}

-- the version of a pair, in the part or not, after the branch began there and came to its sync
started_pair : (branch : Id) (initial : ℕ) (b : Bool) (o : Option Version) → is_some o ≡ true
    → cond (b && is_behind branch (initial + 1) (cond (b && is_some o) (Some (point branch initial)) o)) (Some (point branch (initial + 1))) (cond (b && is_some o) (Some (point branch initial)) o)
    ≡ cond b (Some (point branch (initial + 1))) o
started_pair branch initial false o h = refl
started_pair branch initial true None h = absurd (false≢true h)
started_pair branch initial true (Some v) h =
    ap (λ b. cond (b && nat_lt initial (initial + 1)) (Some (point branch (initial + 1))) (Some (point branch initial))) (id_self branch)
    ∙ ap (λ b. cond b (Some (point branch (initial + 1))) (Some (point branch initial))) (lt-ltb initial (initial + 1) (omega arith))

pub started_values : (part : Region) (branch : Id) (initial : ℕ) (rows : Rows) (m : Pieced Version) → IsStored rows m
    → HasValues m.hashes (λ h k. cond (in_region part h k) (Some (point branch (initial + 1))) (value_at m.pieces h k)) (advanced_map part branch (initial + 1) (replaced_map part (point branch initial) m))
started_values part branch initial rows m stored =
    let r : Pieced Version = replaced_map part (point branch initial) m in
    let same : r.hashes ≡ m.hashes = replaced_map_hashes part (point branch initial) m in
    let below : (h : ℕ) → h < m.hashes → h < r.hashes = λ h lt. subst (λ n. h < n) (sym same) lt in
    record {
      canonical = advanced_map_canonical part branch (initial + 1) r (below 0 stored.canonical.some_hash);
      hashes_are = advanced_map_hashes part branch (initial + 1) r ∙ same;
      values_are = λ h k lt.
          advanced_map_at part branch (initial + 1) r h k (below h lt)
          ∙ ap (advanced part branch (initial + 1) h k) (replaced_map_at part (point branch initial) m h k lt)
          ∙ started_pair branch initial (in_region part h k) (value_at m.pieces h k) (stored.whole h k ∙ lt-ltb h m.hashes lt);
    }
