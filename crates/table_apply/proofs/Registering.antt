-- A branch that is registered.
use Rattle.std.proofs.Common.{◌≡◌, ◌==◌, ℕ, suc, true, false, cond, ◌&&◌, not, List, ◌∷◌, None, refl, ap, ◌∙◌}
use Rattle.std.proofs.lemmas.Bool.{and_parts, eqb-true}
use Rattle.list_laws.proofs.Members.{IsIn-from_any}
use Rattle.region_map.specs.declared.id.Id.{Id}
use Rattle.region_map.specs.declared.id.NodeId.{NodeId}
use Rattle.region_map.specs.declared.region.Region.{Region}
use Rattle.region_map.specs.Regions.{in_region}
use Rattle.region_map.specs.Maps.{Pieced}
use Rattle.branch_history.specs.declared.version.Version.{Version}
use Rattle.contract_types.specs.declared.change.Change.{Change}
use Rattle.contract_types.specs.declared.change.Change.TheVariants.{RegisterBranch}
use Rattle.contract_types.specs.declared.applied.Applied.TheVariants.{Taken}
use Rattle.contract_types.specs.declared.applied.Condition.TheVariants.{IdNew, Tenure, BasedOn}
use Rattle.contract_types.specs.Configs.{ConfigState, IsConfig}
use Rattle.contract_types.specs.Tables.{Table, branch_at}
use Rattle.table_apply.specs.Conditions.{same_regions, is_held_by, has_tenure, is_based_on, is_new_branch}
use Rattle.table_apply.specs.Effects.{Effect, skipped, taken, register, birth, applied_at}
use Rattle.table_apply.specs.Runs.{table_at, Registers}
use Rattle.table_apply.proofs.Based.{region_same}
use Rattle.table_apply.proofs.Meaning.{based_means}
use Rattle.table_apply.proofs.Pairs.{the_one}
use Rattle.table_apply.proofs.Tables.{few}

record Passes (t : Table) (branch : Id) (region : Region) (tenure : ℕ) (maker : NodeId) (based_on : Pieced Id) (origin : Pieced Version) : Type 0 where
  held : has_tenure t.contracts region tenure maker ≡ true
  based : is_based_on t.config.hashes t.history region based_on ≡ true

passes : (t : Table) (branch : Id) (region : Region) (tenure : ℕ) (maker : NodeId) (based_on : Pieced Id) (origin : Pieced Version)
    → (register t branch region tenure maker based_on origin).applied ≡ Taken → Passes t branch region tenure maker based_on origin
passes t branch region tenure maker based_on origin e =
    let last : Effect = taken (record t { history = (branch, birth region tenure origin) ∷ t.history }) in
    let third : Effect = cond (not (is_new_branch t.history branch origin.pieces)) (skipped t IdNew) last in
    elim (has_tenure t.contracts region tenure maker) as (λ v. has_tenure t.contracts region tenure maker ≡ v
    → (cond (not v) (skipped t Tenure) (cond (not (is_based_on t.config.hashes t.history region based_on)) (skipped t BasedOn) third)).applied ≡ Taken
    → Passes t branch region tenure maker based_on origin) [
      | true ↦ λ a f.
          elim (is_based_on t.config.hashes t.history region based_on) as (λ v. is_based_on t.config.hashes t.history region based_on ≡ v
          → (cond (not v) (skipped t BasedOn) third).applied ≡ Taken → Passes t branch region tenure maker based_on origin) [
            | true ↦ λ b g. record { held = a; based = b }
            | false ↦ λ b g. absurd (cc)
          ] refl f
      | false ↦ λ a f. absurd (cc)
    ] refl e

pub registers : (config : ConfigState) (changes : List Change) (w : ℕ) (branch : Id) (region : Region) (tenure : ℕ) (maker : NodeId)
    (based_on : Pieced Id) (origin : Pieced Version) (h : ℕ) (k : List ℕ) → IsConfig config
    → (applied_at (table_at config changes w) (suc w) (RegisterBranch branch region tenure maker based_on origin)).applied ≡ Taken
    → in_region region h k ≡ true → Registers (table_at config changes w) region tenure maker based_on h k
registers config changes w branch region tenure maker based_on origin h k ok e i =
    let t = table_at config changes w in
    let p = passes t branch region tenure maker based_on origin e in
    let found = IsIn-from_any (λ c. same_regions c.region region && ((c.tenure == tenure) && is_held_by c.primary maker)) t.contracts p.held in
    let both = and_parts (same_regions found.0.region region) ((found.0.tenure == tenure) && is_held_by found.0.primary maker) found.2 in
    let rest = and_parts (found.0.tenure == tenure) (is_held_by found.0.primary maker) both.1 in
    let r = region_same found.0.region region both.0 in
    let known = (based_means t.config.hashes t.history region based_on).0 p.based in
    record {
      contract = found.0;
      current = the_one t.contracts h k found.0 (few config changes w h k ok) found.1 (ap (λ x. in_region x h k) r ∙ i);
      region_is = r;
      tenure_is = eqb-true found.0.tenure tenure rest.0;
      primary = rest.1;
      branch = λ l. known.1 h k l ∙ ap (λ v. cond v (branch_at t.history h k) None) i;
    }
