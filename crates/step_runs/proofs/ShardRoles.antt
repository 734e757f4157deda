-- What the rules of a configuration give of the roles in each shard.
use Rattle.std.proofs.Common.{◌≡◌, ◌==◌, ℕ, ◌+◌, true, false, cond, ◌||◌, not, nat_lt, nat_le, List, [], ◌∷◌, length, map, inl, inr, refl, sym, ap, ◌∙◌, arith}
use Rattle.std.proofs.lemmas.Bool.{and_parts, or_parts, or_cases, not-true, not-false, eqb-true, ltb-false, leb-false, lt-ltb}
use Rattle.std.proofs.lemmas.List.Sums.{sum_by-cons}
use Rattle.std.specs.Prelude.{count_by}
use Rattle.std.specs.List.{AllByRecursion}
use Rattle.runs.specs.region_map.declared.id.NodeId.{NodeId}
use Rattle.runs.specs.region_map.Nodes.{node_id, has, without}
use Rattle.runs.specs.contract_types.declared.config.ShardConfig.{ShardConfig}
use Rattle.runs.specs.contract_types.Configs.{are_nodes, has_bad_replicas, has_bad_roles, has_regions, has_replicas}
use Rattle.runs.specs.contract_types.Setup.{SetupState, IsSetup}

abbrev pub AreNodes : ℕ → List ℕ → Type 0
AreNodes nodes set = AllByRecursion (λ n. nat_lt n nodes ≡ true) set

-- the replicas are nodes of the table, and the primary is a replica
pub record HasRoles (nodes : ℕ) (s : ShardConfig) : Type 0 where
  pub replicas : AreNodes nodes s.replicas
  pub primary : has s.replicas s.primary.0 ≡ true

nodes_counted : (nodes : ℕ) (set : List ℕ) → count_by (λ (n : NodeId). nat_le nodes n.0) (map node_id set) ≡ 0 → AreNodes nodes set
nodes_counted nodes [] none = tt
nodes_counted nodes (n ∷ ns) none =
    let outside : ℕ = count_by (λ (m : NodeId). nat_le nodes m.0) (map node_id ns) in
    elim (nat_le nodes n) as (λ b. nat_le nodes n ≡ b → cond b 1 0 + outside ≡ 0 → (nat_lt n nodes ≡ true) × AreNodes nodes ns) [
      | true ↦ λ e z. absurd (omega arith)
      | false ↦ λ e z. (lt-ltb n nodes (leb-false nodes n e), nodes_counted nodes ns (omega arith))
    ] refl (sym (sum_by-cons (λ (m : NodeId). cond (nat_le nodes m.0) 1 0) (node_id n) (map node_id ns)) ∙ none)

-- a member is no member that was left out
kept_member : (s t : List ℕ) (n : ℕ) → length (without s t) ≡ 0 → has s n ≡ true → has t n ≡ true
kept_member [] t n none i = absurd (cc)
kept_member (m ∷ ms) t n none i =
    elim (has t m) as (λ b. has t m ≡ b → length (cond (not b) (m ∷ without ms t) (without ms t)) ≡ 0 → has t n ≡ true) [
      | true ↦ λ e z.
          elim (or_cases (m == n) (has ms n) i) [
            | inl same ↦ ap (has t) (sym (eqb-true m n same)) ∙ e
            | inr later ↦ kept_member ms t n z later
          ]
      | false ↦ λ e z. absurd (omega arith)
    ] refl none

pub member_below : (nodes : ℕ) (set : List ℕ) (n : ℕ) → AreNodes nodes set → has set n ≡ true → nat_lt n nodes ≡ true
member_below nodes [] n all i = absurd (cc)
member_below nodes (m ∷ ms) n all i =
    elim (or_cases (m == n) (has ms n) i) [
      | inl same ↦ ap (λ k. nat_lt k nodes) (sym (eqb-true m n same)) ∙ all.0
      | inr later ↦ member_below nodes ms n all.1 later
    ]

shard_roles : (nodes : ℕ) (s : ShardConfig) → ((length s.replicas == 0) || not (are_nodes nodes s.replicas)) ≡ false
    → (nat_lt 0 (length (without s.voters s.replicas)) || not (has s.voters s.primary.0)) ≡ false → HasRoles nodes s
shard_roles nodes s good_replicas good_roles =
    let replicas = or_parts (length s.replicas == 0) (not (are_nodes nodes s.replicas)) good_replicas in
    let roles = or_parts (nat_lt 0 (length (without s.voters s.replicas))) (not (has s.voters s.primary.0)) good_roles in
    let few = ltb-false 0 (length (without s.voters s.replicas)) roles.0 in
    let outside : ℕ = count_by (λ (n : NodeId). nat_le nodes n.0) (map node_id s.replicas) in
    record {
      replicas = nodes_counted nodes s.replicas (eqb-true outside 0 (not-false (outside == 0) replicas.1));
      primary = kept_member s.voters s.replicas s.primary.0 (omega arith) (not-false (has s.voters s.primary.0) roles.1);
    }

shards_roles : (nodes : ℕ) (ss : List ShardConfig) → has_bad_replicas nodes ss ≡ false → has_bad_roles ss ≡ false → AllByRecursion (HasRoles nodes) ss
shards_roles nodes [] good_replicas good_roles = tt
shards_roles nodes (s ∷ ss) good_replicas good_roles =
    let replicas = or_parts ((length s.replicas == 0) || not (are_nodes nodes s.replicas)) (has_bad_replicas nodes ss) good_replicas in
    let roles = or_parts (nat_lt 0 (length (without s.voters s.replicas)) || not (has s.voters s.primary.0)) (has_bad_roles ss) good_roles in
    (shard_roles nodes s replicas.0 roles.0, shards_roles nodes ss replicas.1 roles.1)

pub setup_roles : (setup : SetupState) → IsSetup setup → AllByRecursion (HasRoles setup.nodes) setup.shards
setup_roles setup ok =
    let roles = and_parts (has_replicas setup.nodes setup.hashes setup.shards) (not (has_bad_roles setup.shards)) ok.config.roles in
    let replicas = and_parts (has_regions setup.hashes setup.shards) (not (has_bad_replicas setup.nodes setup.shards)) roles.0 in
    shards_roles setup.nodes setup.shards (not-true (has_bad_replicas setup.nodes setup.shards) replicas.1) (not-true (has_bad_roles setup.shards) roles.1)
