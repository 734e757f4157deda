-- The values of one pair in the maps with which a primary asks for a branch, and whether a branch is the current one there.
use Rattle.std.proofs.Common.{◌≡◌, ℕ, ◌<◌, Bool, true, false, cond, List, [], ◌∷◌, ◌++◌, Option, Some, None, is_some, refl, sym, ap, ap₂, ◌∙◌, arith}
use Rattle.std.proofs.lemmas.Bool.{and_parts}
use Rattle.std.specs.List.{flat_map, list_all}
use Rattle.log_runs.specs.runs.region_map.declared.id.Id.{Id}
use Rattle.log_runs.specs.runs.region_map.declared.region.Region.{Region}
use Rattle.log_runs.specs.runs.region_map.Equal.{Decides, same_id, id_decides}
use Rattle.log_runs.specs.runs.region_map.Regions.{in_region}
use Rattle.log_runs.specs.runs.region_map.Maps.{Pieced, value_at}
use Rattle.log_runs.specs.runs.region_map.Made.{ends_of, cuts_of, Together, mask_map}
use Rattle.log_runs.proofs.runs.region_map.Made.{made_at, made_hashes, mask_changes, region_together, together_parts}
use Rattle.log_runs.specs.runs.branch_history.Paths.{Branches}
use Rattle.log_runs.specs.runs.contract_types.Tables.{Table, branch_at}
use Rattle.log_runs.specs.runs.node_core.Starting.{current_of, is_current}

-- ---- maps on a part

pub mask_at : {V : Type 0} (same : V → V → Bool) → Decides same → (part : Region) (m : Pieced V) (h : ℕ) (k : List ℕ) → h < m.hashes
    → value_at (mask_map same part m).pieces h k ≡ cond (in_region part h k) (value_at m.pieces h k) None
mask_at same d part m h k lt =
    made_at same d m.hashes (ends_of part ++ cuts_of m.pieces) (λ h k. cond (in_region part h k) (value_at m.pieces h k) None) (mask_changes part m) (omega (arith, lt)) h k lt

pub mask_inside : {V : Type 0} (same : V → V → Bool) → Decides same → (part : Region) (m : Pieced V) (h : ℕ) (k : List ℕ) → h < m.hashes → in_region part h k ≡ true
    → value_at (mask_map same part m).pieces h k ≡ value_at m.pieces h k
mask_inside same d part m h k lt inside = mask_at same d part m h k lt ∙ ap (λ b. cond b (value_at m.pieces h k) None) inside

-- ---- the current branches of a table

branches_together : (bs : Branches) (h : ℕ) (k q : List ℕ) → Together (flat_map (λ b. ends_of b.1.region) bs) k q → branch_at bs h k ≡ branch_at bs h q
branches_together [] h k q t = refl
branches_together (b ∷ bs) h k q t =
    let parts = together_parts (ends_of b.1.region) (flat_map (λ b. ends_of b.1.region) bs) k q t in
    ap₂ (λ c x. cond c (Some b.0) x) (region_together b.1.region h k q parts.0) (branches_together bs h k q parts.1)

pub current_hashes : (t : Table) → (current_of t).hashes ≡ t.config.hashes
current_hashes t = made_hashes same_id t.config.hashes (flat_map (λ b. ends_of b.1.region) t.history) (branch_at t.history)

pub current_at : (t : Table) (h : ℕ) (k : List ℕ) → h < t.config.hashes → value_at (current_of t).pieces h k ≡ branch_at t.history h k
current_at t h k lt =
    made_at same_id id_decides t.config.hashes (flat_map (λ b. ends_of b.1.region) t.history) (branch_at t.history) (branches_together t.history) (omega (arith, lt)) h k lt

-- a map that has one id in all of its pieces has no other one at any pair
one_id : (ps : List (Region × Id)) (b v : Id) (h : ℕ) (k : List ℕ) → list_all (λ p. same_id p.1 b) ps ≡ true → value_at ps h k ≡ Some v → v ≡ b
one_id [] b v h k all e = absurd (cc e)
one_id (p ∷ ps) b v h k all e =
    let parts = and_parts (same_id p.1 b) (list_all (λ p. same_id p.1 b) ps) all in
    elim (in_region p.0 h k) as (λ c. cond c (Some p.1) (value_at ps h k) ≡ Some v → v ≡ b) [
      | true ↦ λ f. sym (inner p.1 v f) ∙ (id_decides p.1 b).0 parts.0
      | false ↦ λ f. one_id ps b v h k parts.1 f
    ] e
  where
    inner : (a v : Id) → Some a ≡ Some v → a ≡ v
    inner a v f = cc

pub some_of : {A : Type 0} (o : Option A) → is_some o ≡ true → (a : A) × (o ≡ Some a)
some_of None e = absurd (cc e)
some_of (Some a) e = (a, refl)

pub current_is : (t : Table) (region : Region) (b : Id) (h : ℕ) (k : List ℕ) → h < t.config.hashes → in_region region h k ≡ true → is_some (branch_at t.history h k) ≡ true
    → is_current t region b ≡ true → branch_at t.history h k ≡ Some b
current_is t region b h k lt inside some current =
    let m : Pieced Id = current_of t in
    let v = some_of (branch_at t.history h k) some in
    let here = mask_inside same_id id_decides region m h k (let e = current_hashes t in omega (arith, lt, e)) inside ∙ current_at t h k lt ∙ v.1 in
    v.1 ∙ ap Some (one_id (mask_map same_id region m).pieces b v.0 h k current here)
