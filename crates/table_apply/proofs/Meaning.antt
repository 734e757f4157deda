-- What two conditions say of every pair of a hash and a byte list.
use Rattle.std.proofs.Common.{◌≡◌, ◌==◌, ◌↔◌, ℕ, ◌<◌, true, ◌&&◌, nat_le, min, List, inl, inr, ap, ◌∙◌, arith}
use Rattle.std.proofs.lemmas.Bool.{and_parts, and_from, or_parts, or_cases, both_ways, eqb-true, eqb-false, eq-eqb, leb-true, leb-false, true_from_ne_false}
use Rattle.region_map.specs.declared.id.Id.{Id}
use Rattle.region_map.specs.declared.region.Region.{Region}
use Rattle.region_map.specs.Maps.{Pieced, value_at}
use Rattle.branch_history.specs.Paths.{Branches}
use Rattle.contract_types.specs.declared.contract.Contract.{Contract}
use Rattle.contract_types.specs.declared.tiling.Rule.TheVariants.{Tiles}
use Rattle.contract_types.specs.Tilings.{holders, everywhere}
use Rattle.contract_types.proofs.Everywhere.{from_everywhere, somewhere_not, fails_somewhere}
use Rattle.table_apply.specs.Conditions.{contract_region, tile, same_branches, branch_region, itself, regions_of, branch_on, based_at, is_based_on}
use Rattle.table_apply.proofs.Based.{based_everywhere, branches_same, branches_self}

pub tile_means : (added removed : List Contract) → (tile added removed ≡ true)
    ↔ ((h : ℕ) (k : List ℕ) → holders contract_region added h k ≡ min 1 (holders contract_region removed h k))
unfolding tile
tile_means added removed = (
  λ e h k. eqb-true (holders contract_region added h k) (min 1 (holders contract_region removed h k)) (from_everywhere Tiles contract_region contract_region added removed e h k),
  λ f. true_from_ne_false _ (λ e.
      let s = somewhere_not Tiles contract_region contract_region added removed e in
      eqb-false (holders contract_region added s.0 s.1) (min 1 (holders contract_region removed s.0 s.1)) s.2 (f s.0 s.1)),
)

pub based_means : (hashes : ℕ) (history : Branches) (region : Region) (based_on : Pieced Id) → (is_based_on hashes history region based_on ≡ true)
    ↔ ((based_on.hashes ≡ hashes) × ((h : ℕ) (k : List ℕ) → h < hashes → value_at based_on.pieces h k ≡ branch_on history region h k))
unfolding is_based_on
based_means hashes history region based_on = (to, from)
  where
    to : ((based_on.hashes == hashes) && everywhere branch_region itself history (regions_of region based_on.pieces) (based_at hashes history region based_on.pieces)) ≡ true
        → (based_on.hashes ≡ hashes) × ((h : ℕ) (k : List ℕ) → h < hashes → value_at based_on.pieces h k ≡ branch_on history region h k)
    to e =
        let both = and_parts (based_on.hashes == hashes) (everywhere branch_region itself history (regions_of region based_on.pieces) (based_at hashes history region based_on.pieces)) e in (
          eqb-true based_on.hashes hashes both.0,
          λ h k l.
              elim (or_cases (nat_le hashes h) (same_branches (value_at based_on.pieces h k) (branch_on history region h k)) (based_everywhere hashes history region based_on.pieces both.1 h k)) [
                | inl a ↦ let g = leb-true hashes h a in absurd (omega arith)
                | inr a ↦ branches_same (value_at based_on.pieces h k) (branch_on history region h k) a
              ],
        )

    from : (based_on.hashes ≡ hashes) × ((h : ℕ) (k : List ℕ) → h < hashes → value_at based_on.pieces h k ≡ branch_on history region h k)
        → ((based_on.hashes == hashes) && everywhere branch_region itself history (regions_of region based_on.pieces) (based_at hashes history region based_on.pieces)) ≡ true
    from (e, f) =
        and_from _ _ (eq-eqb based_on.hashes hashes e) (true_from_ne_false _ (λ g.
        let s = fails_somewhere branch_region itself history (regions_of region based_on.pieces) (based_at hashes history region based_on.pieces) g in
        let parts = or_parts (nat_le hashes s.0) (same_branches (value_at based_on.pieces s.0 s.1) (branch_on history region s.0 s.1)) s.2 in
        let l = leb-false hashes s.0 parts.0 in
        both_ways _ parts.1 (ap (λ o. same_branches o (branch_on history region s.0 s.1)) (f s.0 s.1 l) ∙ branches_self (branch_on history region s.0 s.1))))
