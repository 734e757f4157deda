-- From where on contracts are in force, and at which timestamp branches begin.
use Rattle.std.proofs.Common.{◌≡◌, ℕ, zero, suc, ◌+◌, ◌≤◌, true, false, cond, List, [], ◌∷◌, Option, Some, inl, inr, refl, sym, subst, arith}
use Rattle.std.specs.List.{AllByRecursion}
use Rattle.std.proofs.lemmas.Bool.{cases_lt, cond_both}
use Rattle.region_map.specs.declared.id.Id.{Id}
use Rattle.region_map.specs.declared.region.Region.{Region}
use Rattle.region_map.specs.Regions.{in_region}
use Rattle.region_map.specs.Maps.{value_at}
use Rattle.region_map.specs.Equal.{same_id}
use Rattle.branch_history.specs.declared.version.Version.{Version}
use Rattle.branch_history.specs.declared.history.BranchBirth.{BranchBirth}
use Rattle.branch_history.specs.Paths.{Branches, or_zero, origin_at}
use Rattle.branch_history.specs.Histories.{birth_of}
use Rattle.contract_types.specs.declared.contract.Contract.{Contract}
use Rattle.contract_types.specs.declared.change.Change.{Change}
use Rattle.contract_types.specs.declared.config.ShardConfig.{ShardConfig}
use Rattle.contract_types.specs.Configs.{ConfigState, IsConfig}
use Rattle.contract_types.specs.Tables.{Table, first_id, first_birth, first_branches}
use Rattle.table_apply.specs.Effects.{greatest}
use Rattle.table_apply.specs.Runs.{change_at, table_at, contract_at}
use Rattle.table_apply.proofs.Steps.{table_after}
use Rattle.table_apply.proofs.Tables.{follows}

pub in_force : (config : ConfigState) (changes : List Change) (w u h : ℕ) (k : List ℕ) (c : Contract) → IsConfig config
    → contract_at (table_at config changes w).contracts h k ≡ Some c → c.since ≤ u → u ≤ w
    → contract_at (table_at config changes u).contracts h k ≡ Some c
in_force config changes zero u h k c ok e s l =
    let at : u ≡ 0 = omega arith in
    let P : ℕ → Type 0 = λ v. contract_at (table_at config changes v).contracts h k ≡ Some c in
    subst P (sym at) e
in_force config changes (suc w) u h k c ok e s l =
    elim (cases_lt u (suc w)) [
      | inl m ↦ elim (follows config changes w h k c ok e) [
        | inl f ↦ in_force config changes w u h k c ok f s (omega arith)
        | inr (old, f, r) ↦ let made = r.since in absurd (omega (arith, made, s, m))
      ]
      | inr m ↦
          let at : u ≡ suc w = omega arith in
          let P : ℕ → Type 0 = λ v. contract_at (table_at config changes v).contracts h k ≡ Some c in
          subst P (sym at) e
    ]

-- ---- branches

abbrev begins_at_greatest : Id × BranchBirth → Type 0
begins_at_greatest b = b.1.initial ≡ greatest b.1.origin.pieces

first_begun : (hashes place : ℕ) (shards : List ShardConfig) (older : Branches) → AllByRecursion begins_at_greatest older
    → AllByRecursion begins_at_greatest (first_branches hashes place shards older)
first_begun hashes place [] older a = a
first_begun hashes place (s ∷ ss) older a = first_begun hashes (place + 1) ss ((first_id place s, first_birth hashes s) ∷ older) (refl, a)

all_begun : (config : ConfigState) (changes : List Change) (w : ℕ) → AllByRecursion begins_at_greatest (table_at config changes w).history
all_begun config changes zero = first_begun config.hashes 0 config.shards [] tt
all_begun config changes (suc w) =
    let before = all_begun config changes w in
    table_after (λ (t : Table). AllByRecursion begins_at_greatest t.history) (table_at config changes w) (suc w) (change_at changes w) before
    (λ config is. before) (λ removed added is a. before) (λ branch region tenure maker based_on origin is j. (refl, before))

birth_begun : (bs : Branches) (id : Id) (b : BranchBirth) → AllByRecursion begins_at_greatest bs → birth_of bs id ≡ Some b → b.initial ≡ greatest b.origin.pieces
birth_begun [] id b a e = absurd (cc)
birth_begun (c ∷ cs) id b a e =
    elim (same_id c.0 id) as (λ v. cond v (Some c.1) (birth_of cs id) ≡ Some b → b.initial ≡ greatest b.origin.pieces) [
      | true ↦ λ f. let same : c.1 ≡ b = cc in subst (λ (x : BranchBirth). x.initial ≡ greatest x.origin.pieces) same a.0
      | false ↦ λ f. birth_begun cs id b a.1 f
    ] e

pub initial_is : (config : ConfigState) (changes : List Change) (w : ℕ) (id : Id) (birth : BranchBirth)
    → birth_of (table_at config changes w).history id ≡ Some birth → birth.initial ≡ greatest birth.origin.pieces
initial_is config changes w id birth e = birth_begun (table_at config changes w).history id birth (all_begun config changes w) e

-- the version of a pair is no later than the greatest of all
no_later : (ps : List (Region × Version)) (h : ℕ) (k : List ℕ) → (or_zero (value_at ps h k)).timestamp ≤ greatest ps
no_later [] h k = omega arith
no_later (p ∷ ps) h k =
    let rest = no_later ps h k in
    cond_both (in_region p.0 h k) (Some p.1) (value_at ps h k) (λ (v : Option Version). (or_zero v).timestamp ≤ greatest (p ∷ ps))
    (λ i. omega arith) (λ i. omega (arith, rest))

pub origin_in_time : (config : ConfigState) (changes : List Change) (w h : ℕ) (k : List ℕ) (id : Id) (birth : BranchBirth)
    → birth_of (table_at config changes w).history id ≡ Some birth → (origin_at birth h k).timestamp ≤ birth.initial
origin_in_time config changes w h k id birth e =
    subst (λ (n : ℕ). (origin_at birth h k).timestamp ≤ n) (sym (initial_is config changes w id birth e)) (no_later birth.origin.pieces h k)
