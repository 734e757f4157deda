-- With which versions, executions and followings a table begins: those of the first branches, which begin at 0.
use Rattle.std.proofs.Common.{◌≡◌, ℕ, ◌+◌, ◌<◌, ◌==◌, true, false, cond, List, [], ◌∷◌, Some, inl, inr, refl, sym, ap, ◌∙◌, subst, arith}
use Rattle.std.proofs.lemmas.Bool.{cond_both, eq-eqb}
use Rattle.path_runs.specs.runs.region_map.declared.id.Id.{Id}
use Rattle.path_runs.specs.runs.region_map.Equal.{same_id}
use Rattle.path_runs.specs.runs.region_map.Nodes.{node_id, has}
use Rattle.path_runs.specs.runs.region_map.Maps.{Pieced}
use Rattle.path_runs.specs.runs.branch_history.declared.version.Version.{Version}
use Rattle.path_runs.specs.runs.branch_history.declared.history.BranchBirth.{BranchBirth}
use Rattle.path_runs.specs.runs.branch_history.Histories.{birth_of}
use Rattle.path_runs.specs.runs.branch_history.Paths.{Branches, zero}
use Rattle.path_runs.proofs.runs.branch_history.PathLaws.{id_self}
use Rattle.path_runs.specs.runs.contract_types.declared.config.ShardConfig.{ShardConfig}
use Rattle.path_runs.specs.runs.contract_types.Setup.{SetupState}
use Rattle.path_runs.specs.runs.contract_types.Tables.{setup_id, first_id, first_birth, first_contract, first_branches}
use Rattle.path_runs.specs.runs.exec_types.Sessions.{setup_session_name}
use Rattle.path_runs.specs.runs.store_api.Versions.{point, replaced_map, zero_map}
use Rattle.path_runs.proofs.runs.store_api.VersionMaps.{zero_map_hashes, zero_map_at}
use Rattle.path_runs.specs.runs.secondary_exec.declared.following.Following.{Following}
use Rattle.path_runs.specs.runs.secondary_exec.Stream.{setup_following}
use Rattle.path_runs.specs.runs.primary_exec.declared.session.Session.{Session}
use Rattle.path_runs.specs.runs.primary_exec.Execution.{Execution, joined, begun, join_all, setup_execution}
use Rattle.path_runs.specs.runs.node_core.Step.{is_led, is_followed, executions_from, followings_from, versions_from}
use Rattle.path_runs.specs.runs.Story.{IsIn}
use Rattle.path_runs.proofs.runs.list_laws.Members.{IsIn-append}
use Rattle.path_runs.proofs.change_runs.LedHistories.{some_inner}
use Rattle.path_runs.proofs.step_runs.Setups.{setup_branch}
use Rattle.version_runs.proofs.TracedSteps.{MapTraced, Follows, replaced_traced}

-- the branches with which shards begin, by the shards' places
abbrev pub Firsts : (Id → Type 0) → ℕ → List ShardConfig → Type 0
Firsts B place [] = Unit {0}
Firsts B place (s ∷ ss) = B (first_id place s) × Firsts B (place + 1) ss

pub firsts_weaker : (B C : Id → Type 0) → ((b : Id) → B b → C b) → (place : ℕ) (ss : List ShardConfig) → Firsts B place ss → Firsts C place ss
firsts_weaker B C f place [] h = tt
firsts_weaker B C f place (s ∷ ss) h = (f (first_id place s) h.0, firsts_weaker B C f (place + 1) ss h.1)

-- ---- sessions

join_names : (place : ℕ) (ns : List ℕ) (x : Execution) → ((t : Session) → IsIn x.sessions t → t.name.opened ≡ setup_id place x.me) → (t : Session) → IsIn (join_all place x ns).sessions t
    → t.name.opened ≡ setup_id place x.me
join_names place [] x h t i = h t i
join_names place (n ∷ ns) x h t i =
    let y : Execution = joined x (node_id n) (setup_session_name place x.me (node_id n)) in
    cond_both (n == x.me.0) x y (λ (z : Execution). IsIn (join_all place z ns).sessions t → t.name.opened ≡ setup_id place x.me)
    (λ _ j. join_names place ns x h t j)
    (λ _ j. join_names place ns y (λ u k. elim (IsIn-append x.sessions _ u k) [
      | inl old ↦ h u old
      | inr new ↦ elim new [ inl e ↦ ap (λ (w : Session). w.name.opened) (sym e) | inr no' ↦ absurd no' ]
    ]) t j) i

-- an execution of a branch that was started, whose sessions were opened under its id
pub record Runs (B : Id → Type 0) (x : Execution) : Type 0 where
  pub started : B x.branch
  pub names : (t : Session) → IsIn x.sessions t → t.name.opened ≡ x.branch

pub begin_runs : (B : Id → Type 0) (n place : ℕ) (ss : List ShardConfig) → Firsts B place ss → (x : Execution) → IsIn (executions_from n place ss) x → Runs B x
begin_runs B n place [] f x i = absurd i
begin_runs B n place (s ∷ ss) f x i =
    let y : Execution = setup_execution (first_contract place s) s.primary place in
    let is : y.branch ≡ setup_id place s.primary = setup_branch (first_contract place s) s.primary place in
    let rest : List Execution = executions_from n (place + 1) ss in
    cond_both (is_led n s) (y ∷ rest) rest (λ (l : List Execution). IsIn l x → Runs B x)
    (λ _ j. elim j [
      | inl e ↦ subst (Runs B) e (record {
        started = subst B (sym is) f.0;
        names = λ t k. join_names place s.replicas (begun (first_contract place s) s.primary (setup_id place s.primary)) (λ u l. absurd l) t k ∙ sym is;
      })
      | inr k ↦ begin_runs B n (place + 1) ss f.1 x k
    ])
    (λ _ j. begin_runs B n (place + 1) ss f.1 x j) i

-- ---- followings and versions

module _ (P : Id → ℕ → Type 0) where
  pub begin_follows : (n place : ℕ) (ss : List ShardConfig) → Firsts (λ b. P b 0) place ss → (g : Following) → IsIn (followings_from n place ss) g → Follows P g
  begin_follows n place [] f g i = absurd i
  begin_follows n place (s ∷ ss) f g i =
      let y : Following = setup_following (first_contract place s) s.primary (node_id n) place in
      let rest : List Following = followings_from n (place + 1) ss in
      cond_both (is_followed n s) (y ∷ rest) rest (λ (l : List Following). IsIn l g → Follows P g)
      (λ _ j. elim j [
        | inl e ↦ subst (Follows P) e (record { opened = refl; stands = f.0 })
        | inr k ↦ begin_follows n (place + 1) ss f.1 g k
      ])
      (λ _ j. begin_follows n (place + 1) ss f.1 g j) i

  pub begin_versions : (n place : ℕ) (ss : List ShardConfig) (m : Pieced Version) → Firsts (λ b. P b 0) place ss → MapTraced P m → MapTraced P (versions_from n place ss m)
  begin_versions n place [] m f h = h
  begin_versions n place (s ∷ ss) m f h =
      let next : Pieced Version = cond (has s.replicas n) (replaced_map s.region (point (first_id place s) 0) m) m in
      begin_versions n (place + 1) ss next f.1
      (cond_both (has s.replicas n) (replaced_map s.region (point (first_id place s) 0) m) m (MapTraced P) (λ _. replaced_traced P s.region (first_id place s) 0 m f.0 h) (λ _. h))

  pub zero_traced : (hashes : ℕ) → MapTraced P (zero_map hashes)
  zero_traced hashes h k v lt e =
      let same = zero_map_hashes hashes in
      let within : h < hashes = omega (arith, lt, same) in
      inl (sym (some_inner zero v (sym (zero_map_at hashes h k within) ∙ e)))

-- ---- the first branches

record Born (bs : Branches) (id : Id) : Type 0 where
  birth : BranchBirth
  is : birth_of bs id ≡ Some birth
  initial : birth.initial ≡ 0

born_longer : (hashes place : ℕ) (ss : List ShardConfig) (older : Branches) (id : Id) → Born older id → Born (first_branches hashes place ss older) id
born_longer hashes place [] older id h = h
born_longer hashes place (s ∷ ss) older id h =
    born_longer hashes (place + 1) ss ((first_id place s, first_birth hashes s) ∷ older) id
    (elim (same_id (first_id place s) id) as (λ c. same_id (first_id place s) id ≡ c → Born ((first_id place s, first_birth hashes s) ∷ older) id) [
      | true ↦ λ e. record { birth = first_birth hashes s; is = ap (λ c. cond c (Some (first_birth hashes s)) (birth_of older id)) e; initial = refl }
      | false ↦ λ e. record { birth = h.birth; is = ap (λ c. cond c (Some (first_birth hashes s)) (birth_of older id)) e ∙ h.is; initial = h.initial }
    ] refl)

-- a first branch: its maker has an execution of it as the table begins
pub record IsFirst (setup : SetupState) (b : Id) : Type 0 where
  pub life_is : b.life ≡ 1
  pub execution : Execution
  pub is_in : IsIn (executions_from b.node.0 0 setup.shards) execution
  pub branch_is : execution.branch ≡ b
  pub birth : BranchBirth
  pub registered : birth_of (first_branches setup.hashes 0 setup.shards []) b ≡ Some birth
  pub initial : birth.initial ≡ 0

firsts_from : (setup : SetupState) (place : ℕ) (ss : List ShardConfig) (older : Branches) → first_branches setup.hashes place ss older ≡ first_branches setup.hashes 0 setup.shards []
    → ((n : ℕ) (x : Execution) → IsIn (executions_from n place ss) x → IsIn (executions_from n 0 setup.shards) x) → Firsts (IsFirst setup) place ss
firsts_from setup place [] older is within = tt
firsts_from setup place (s ∷ ss) older is within =
    let b : Id = first_id place s in
    let p : ℕ = s.primary.0 in
    let x : Execution = setup_execution (first_contract place s) s.primary place in
    let now : Branches = (b, first_birth setup.hashes s) ∷ older in
    let born : Born (first_branches setup.hashes (place + 1) ss now) b =
    born_longer setup.hashes (place + 1) ss now b (record { birth = first_birth setup.hashes s; is = ap (λ c. cond c (Some (first_birth setup.hashes s)) (birth_of older b)) (id_self b); initial = refl }) in (
      record {
        life_is = refl;
        execution = x;
        is_in = within p x (subst (λ c. IsIn (cond c (x ∷ executions_from p (place + 1) ss) (executions_from p (place + 1) ss)) x) (sym (eq-eqb p p refl)) (inl refl));
        branch_is = setup_branch (first_contract place s) s.primary place;
        birth = born.birth;
        registered = ap (λ (bs : Branches). birth_of bs b) (sym is) ∙ born.is;
        initial = born.initial;
      },
      firsts_from setup (place + 1) ss now is (λ n y i.
          within n y (cond_both (is_led n s) (setup_execution (first_contract place s) s.primary place ∷ executions_from n (place + 1) ss) (executions_from n (place + 1) ss) (λ (l : List Execution). IsIn l y) (λ _. inr i) (λ _. i))),
    )

pub firsts : (setup : SetupState) → Firsts (IsFirst setup) 0 setup.shards
firsts setup = firsts_from setup 0 setup.shards [] refl (λ n x i. i)
