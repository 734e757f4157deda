-- One canonical map has the current branches, which change only where the regions of branches end.
use Rattle.std.proofs.Common.{◌≡◌, ℕ, ◌<◌, cond, List, [], ◌∷◌, Some, refl, ap₂}
use Rattle.std.specs.List.{flat_map}
use Rattle.region_map.specs.declared.id.Id.{Id}
use Rattle.region_map.specs.Equal.{same_id, id_decides}
use Rattle.region_map.specs.Maps.{Pieced, IsCanonical, value_at}
use Rattle.region_map.specs.Made.{ends_of, ChangesAt}
use Rattle.region_map.proofs.Made.{together_parts, region_together, made_is}
use Rattle.branch_history.specs.Paths.{Branches}
use Rattle.contract_types.specs.Tables.{Table, branch_at}
use Rattle.node_core.specs.Starting.{current_of}

branch_changes : (bs : Branches) → ChangesAt (flat_map (λ b. ends_of b.1.region) bs) (branch_at bs)
branch_changes [] h k q t = refl
branch_changes (b ∷ bs) h k q t =
    let p = together_parts (ends_of b.1.region) (flat_map (λ b. ends_of b.1.region) bs) k q t in
    ap₂ (λ c x. cond c (Some b.0) x) (region_together b.1.region h k q p.0) (branch_changes bs h k q p.1)

pub current_is : (t : Table) (m : Pieced Id) → IsCanonical m → m.hashes ≡ t.config.hashes
    → ((h : ℕ) (k : List ℕ) → h < t.config.hashes → value_at m.pieces h k ≡ branch_at t.history h k) → m ≡ current_of t
current_is t m c e at =
    made_is same_id id_decides t.config.hashes (flat_map (λ b. ends_of b.1.region) t.history) (branch_at t.history) (branch_changes t.history) m c e at
