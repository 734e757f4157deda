-- Branches of a longer history, and what is stale there.
use Rattle.std.proofs.Common.{◌≡◌, ◌⊎◌, ℕ, true, false, cond, List, [], ◌∷◌, ◌++◌, Option, Some, inl, inr, refl, sym, ap, ◌∙◌, subst}
use Rattle.std.proofs.lemmas.Bool.{both_ways, false_from_ne_true}
use Rattle.log_runs.specs.runs.region_map.declared.id.Id.{Id}
use Rattle.log_runs.specs.runs.region_map.Regions.{in_region}
use Rattle.log_runs.specs.runs.region_map.Equal.{same_id}
use Rattle.log_runs.specs.runs.branch_history.declared.history.BranchBirth.{BranchBirth}
use Rattle.log_runs.specs.runs.branch_history.Paths.{Branches}
use Rattle.log_runs.specs.runs.branch_history.Histories.{knows, birth_of, IsHistory}
use Rattle.log_runs.proofs.runs.branch_history.PathLaws.{id_same, id_self}
use Rattle.log_runs.specs.runs.contract_types.Tables.{branch_at}
use Rattle.change_runs.proofs.Asked.{upto, rest_of, below, Stale}

pub some_inner : {A : Type 0} (a b : A) → Some a ≡ Some b → a ≡ b
some_inner a b e = cc

-- ---- what is known

pub knows_longer : (ns bs : Branches) (id : Id) → knows bs id ≡ true → knows (ns ++ bs) id ≡ true
knows_longer [] bs id e = e
knows_longer (n ∷ ns) bs id e = elim (same_id n.0 id) as (λ c. cond c true (knows (ns ++ bs) id) ≡ true) [ true ↦ refl | false ↦ knows_longer ns bs id e ]

pub knows_one : (ns bs : Branches) (b : Id × BranchBirth) → knows (ns ++ b ∷ bs) b.0 ≡ true
knows_one ns bs b = knows_longer ns (b ∷ bs) b.0 (ap (λ c. cond c true (knows bs b.0)) (id_self b.0))

-- what is known is so among the newer ones or among the older
knows_newer : (ns bs : Branches) (id : Id) → knows (ns ++ bs) id ≡ true → knows bs id ≡ false → knows ns id ≡ true
knows_newer [] bs id e f = absurd (both_ways _ f e)
knows_newer (n ∷ ns) bs id e f =
    elim (same_id n.0 id) as (λ c. cond c true (knows (ns ++ bs) id) ≡ true → cond c true (knows ns id) ≡ true) [ true ↦ λ _. refl | false ↦ λ r. knows_newer ns bs id r f ] e

-- what is known among the older ones is none of the newer
pub newer_apart : (ns bs : Branches) (id : Id) → IsHistory (ns ++ bs) → knows bs id ≡ true → knows ns id ≡ false
newer_apart [] bs id i e = refl
newer_apart (n ∷ ns) bs id i e =
    elim (same_id n.0 id) as (λ c. same_id n.0 id ≡ c → cond c true (knows ns id) ≡ false) [
      | true ↦ λ t. absurd (both_ways _ i.0 (subst (λ x. knows (ns ++ bs) x ≡ true) (sym (id_same n.0 id t)) (knows_longer ns bs id e)))
      | false ↦ λ _. newer_apart ns bs id i.3 e
    ] refl

-- ---- births

pub birth_known : (bs : Branches) (id : Id) (birth : BranchBirth) → birth_of bs id ≡ Some birth → knows bs id ≡ true
birth_known [] id birth e = absurd (cc e)
birth_known (b ∷ bs) id birth e =
    elim (same_id b.0 id) as (λ c. cond c (Some b.1) (birth_of bs id) ≡ Some birth → cond c true (knows bs id) ≡ true) [ true ↦ λ _. refl | false ↦ λ f. birth_known bs id birth f ] e

pub known_birth : (bs : Branches) (id : Id) → knows bs id ≡ true → (birth : BranchBirth) × (birth_of bs id ≡ Some birth)
known_birth [] id e = absurd (cc e)
known_birth (b ∷ bs) id e =
    elim (same_id b.0 id) as (λ c. cond c true (knows bs id) ≡ true → (birth : BranchBirth) × (cond c (Some b.1) (birth_of bs id) ≡ Some birth)) [
      | true ↦ λ _. (b.1, refl)
      | false ↦ λ f. known_birth bs id f
    ] e

pub birth_longer : (ns bs : Branches) (id : Id) → knows ns id ≡ false → birth_of (ns ++ bs) id ≡ birth_of bs id
birth_longer [] bs id f = refl
birth_longer (n ∷ ns) bs id f =
    elim (same_id n.0 id) as (λ c. cond c true (knows ns id) ≡ false → cond c (Some n.1) (birth_of (ns ++ bs) id) ≡ birth_of bs id) [
      | true ↦ λ g. absurd (cc g)
      | false ↦ λ g. birth_longer ns bs id g
    ] f

-- where a branch stands
pub record Stands (bs : Branches) (id : Id) (birth : BranchBirth) : Type 0 where
  pub newer : Branches
  pub older : Branches
  pub is : bs ≡ newer ++ (id, birth) ∷ older

pub stands : (bs : Branches) (id : Id) (birth : BranchBirth) → birth_of bs id ≡ Some birth → Stands bs id birth
stands [] id birth e = absurd (cc e)
stands (b ∷ bs) id birth e =
    elim (same_id b.0 id) as (λ c. same_id b.0 id ≡ c → cond c (Some b.1) (birth_of bs id) ≡ Some birth → Stands (b ∷ bs) id birth) [
      | true ↦ λ t f. record { newer = []; older = bs; is = λ i. (id_same b.0 id t i, some_inner b.1 birth f i) ∷ bs }
      | false ↦ λ _ f. let r = stands bs id birth f in record { newer = b ∷ r.newer; older = r.older; is = ap (λ (l : Branches). b ∷ l) r.is }
    ] refl e

-- ---- the current branch of a pair

pub current_known : (bs : Branches) (h : ℕ) (k : List ℕ) (id : Id) → branch_at bs h k ≡ Some id → knows bs id ≡ true
current_known [] h k id e = absurd (cc e)
current_known (b ∷ bs) h k id e =
    elim (in_region b.1.region h k) as (λ c. cond c (Some b.0) (branch_at bs h k) ≡ Some id → knows (b ∷ bs) id ≡ true) [
      | true ↦ λ f. subst (λ x. knows (b ∷ bs) x ≡ true) (some_inner b.0 id f) (ap (λ c. cond c true (knows bs b.0)) (id_self b.0))
      | false ↦ λ f. knows_longer (b ∷ []) bs id (current_known bs h k id f)
    ] e

-- any other branch that has the pair is an older one
pub older_one : (newer older : Branches) (b : Id × BranchBirth) (h : ℕ) (k : List ℕ) (now : Id) (birth : BranchBirth) → IsHistory (newer ++ b ∷ older) → branch_at (newer ++ b ∷ older) h k ≡ Some b.0
    → birth_of (newer ++ b ∷ older) now ≡ Some birth → in_region birth.region h k ≡ true → (b.0 ≡ now → ⊥) → Stands older now birth
older_one [] older b h k now birth i current there inside other =
    stands older now birth (elim (same_id b.0 now) as (λ c. same_id b.0 now ≡ c → cond c (Some b.1) (birth_of older now) ≡ Some birth → birth_of older now ≡ Some birth) [
      | true ↦ λ t _. absurd (other (id_same b.0 now t))
      | false ↦ λ _ f. f
    ] refl there)
older_one (c ∷ newer) older b h k now birth i current there inside other =
    let rest : Branches = newer ++ b ∷ older in
    let outside : in_region c.1.region h k ≡ false = false_from_ne_true _ (λ in_it.
    let same : c.0 ≡ b.0 = some_inner c.0 b.0 (sym (ap (λ x. cond x (Some c.0) (branch_at rest h k)) in_it) ∙ current) in
    both_ways _ i.0 (subst (λ x. knows rest x ≡ true) (sym same) (knows_one newer older b))) in
    let later : birth_of rest now ≡ Some birth =
    elim (same_id c.0 now) as (λ x. same_id c.0 now ≡ x → cond x (Some c.1) (birth_of rest now) ≡ Some birth → birth_of rest now ≡ Some birth) [
      | true ↦ λ _ f. absurd (both_ways _ outside (subst (λ (y : BranchBirth). in_region y.region h k ≡ true) (sym (some_inner c.1 birth f)) inside))
      | false ↦ λ _ f. f
    ] refl there in
    older_one newer older b h k now birth i.3 (sym (ap (λ x. cond x (Some c.0) (branch_at rest h k)) outside) ∙ current) later inside other

-- ---- what is stale

upto_longer : (ns bs : Branches) (id : Id) → knows ns id ≡ false → upto (ns ++ bs) id ≡ upto bs id
upto_longer [] bs id f = refl
upto_longer (n ∷ ns) bs id f =
    elim (same_id n.0 id) as (λ c. cond c true (knows ns id) ≡ false → cond c (n ∷ (ns ++ bs)) (upto (ns ++ bs) id) ≡ upto bs id) [
      | true ↦ λ g. absurd (cc g)
      | false ↦ λ g. upto_longer ns bs id g
    ] f

-- it stays so in a longer history
pub stale_stays : (ns bs : Branches) (now branch : Id) (based : Option Id) → IsHistory (ns ++ bs) → knows bs now ≡ true → Stale bs now branch based → Stale (ns ++ bs) now branch based
stale_stays ns bs now branch based i known stale =
    subst (λ (l : Branches). (knows l branch ≡ true) ⊎ ((b : Id) × (based ≡ Some b) × (knows (rest_of l) b ≡ true))) (sym (upto_longer ns bs now (newer_apart ns bs now i known))) stale

upto_knows : (bs : Branches) (id : Id) → knows bs id ≡ true → knows (upto bs id) id ≡ true
upto_knows [] id e = absurd (cc e)
upto_knows (b ∷ bs) id e =
    elim (same_id b.0 id) as (λ c. same_id b.0 id ≡ c → cond c true (knows bs id) ≡ true → knows (cond c (b ∷ bs) (upto bs id)) id ≡ true) [
      | true ↦ λ t _. ap (λ c. cond c true (knows bs id)) t
      | false ↦ λ _ f. upto_knows bs id f
    ] refl e

-- what was asked for under the id of the branch itself
pub stale_itself : (bs : Branches) (now branch : Id) (based : Option Id) → knows bs now ≡ true → branch ≡ now → Stale bs now branch based
stale_itself bs now branch based known same = inl (subst (λ x. knows (upto bs now) x ≡ true) (sym same) (upto_knows bs now known))

below_longer : (ns bs : Branches) (id b : Id) → knows ns id ≡ true → knows bs b ≡ true → knows (below (ns ++ bs) id) b ≡ true
below_longer [] bs id b e f = absurd (cc e)
below_longer (n ∷ ns) bs id b e f =
    elim (same_id n.0 id) as (λ c. cond c true (knows ns id) ≡ true → knows (rest_of (cond c (n ∷ (ns ++ bs)) (upto (ns ++ bs) id))) b ≡ true) [
      | true ↦ λ _. knows_longer ns bs b f
      | false ↦ λ g. below_longer ns bs id b g f
    ] e

-- what was asked for before the branch was known
pub stale_before : (ns bs : Branches) (now branch b : Id) (based : Option Id) → knows (ns ++ bs) now ≡ true → knows bs now ≡ false → based ≡ Some b → knows bs b ≡ true → Stale (ns ++ bs) now branch based
stale_before ns bs now branch b based known unknown is there = inr (b, is, below_longer ns bs now b (knows_newer ns bs now known unknown) there)
