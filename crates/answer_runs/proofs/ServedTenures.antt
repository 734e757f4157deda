-- In every run all contracts are of tenure 0 and hand over to no node, and so are the branches that were registered under them.
use Rattle.std.proofs.Common.{◌≡◌, ℕ, ◌+◌, List, [], ◌∷◌, ◌++◌, Some, None, inl, inr, refl, sym, ap, ◌∙◌, subst}
use Rattle.std.specs.List.{AllByRecursion}
use Rattle.path_runs.specs.runs.region_map.declared.id.Id.{Id}
use Rattle.path_runs.specs.runs.branch_history.declared.history.BranchBirth.{BranchBirth}
use Rattle.path_runs.specs.runs.branch_history.Paths.{Branches}
use Rattle.path_runs.specs.runs.contract_types.declared.config.ShardConfig.{ShardConfig}
use Rattle.path_runs.specs.runs.contract_types.declared.contract.Contract.{Contract}
use Rattle.path_runs.specs.runs.contract_types.Setup.{SetupState, IsSetup}
use Rattle.path_runs.specs.runs.contract_types.Tables.{first_contracts, first_id, first_birth, first_branches}
use Rattle.path_runs.specs.runs.table_log.Fitting.{changes_of}
use Rattle.path_runs.specs.runs.node_core.declared.journal.Entry.{Entry}
use Rattle.path_runs.specs.runs.Run.{state, IsRun}
use Rattle.path_runs.specs.runs.Story.{IsIn}
use Rattle.path_runs.proofs.change_runs.Asked.{history_of}
use Rattle.path_runs.proofs.change_runs.AskedRuns.{log_registers, registered_asked}
use Rattle.path_runs.proofs.change_runs.AskedRunsTables.{table_has_first}
use Rattle.path_runs.proofs.change_runs.Registered.{comes_from}
use Rattle.path_runs.proofs.step_runs.PointBranches.{all_at}
use Rattle.path_runs.proofs.step_runs.Told.{IsIn-right}
use Rattle.path_runs.proofs.lead_runs.LedRuns.{all_fit, config_is}

pub record IsFirst (ss : List ShardConfig) (c : Contract) : Type 0 where
  pub shard : ShardConfig
  pub is_in : IsIn ss shard
  pub region_is : c.region ≡ shard.region
  pub primary_is : c.primary ≡ Some (record { server = shard.primary; hand_over = None })
  pub tenure_is : c.tenure ≡ 0

pub is_first : (place : ℕ) (ss : List ShardConfig) (c : Contract) → IsIn (first_contracts place ss) c → IsFirst ss c
is_first place [] c i = absurd i
is_first place (s ∷ ss) c i =
    elim i [
      | inl e ↦ record {
        shard = s;
        is_in = inl refl;
        region_is = ap (λ (x : Contract). x.region) (sym e);
        primary_is = ap (λ (x : Contract). x.primary) (sym e);
        tenure_is = ap (λ (x : Contract). x.tenure) (sym e);
      }
      | inr j ↦ let r = is_first (place + 1) ss c j in record { shard = r.shard; is_in = inr r.is_in; region_is = r.region_is; primary_is = r.primary_is; tenure_is = r.tenure_is }
    ]

abbrev IsOfFirst : Id × BranchBirth → Type 0
IsOfFirst b = b.1.tenure ≡ 0

first_tenures : (hashes place : ℕ) (ss : List ShardConfig) (older : Branches) → AllByRecursion IsOfFirst older → AllByRecursion IsOfFirst (first_branches hashes place ss older)
first_tenures hashes place [] older h = h
first_tenures hashes place (s ∷ ss) older h = first_tenures hashes (place + 1) ss ((first_id place s, first_birth hashes s) ∷ older) (refl, h)

pub tenure_0 : (setup : SetupState) → IsSetup setup → (past : List Entry) → IsRun setup past → (n : ℕ) (newer older : Branches) (b : Id × BranchBirth) → history_of setup n past ≡ newer ++ b ∷ older → b.1.tenure ≡ 0
tenure_0 setup ok past run n newer older b is =
    let log = (state setup n past).log in
    elim (comes_from setup ok (changes_of log.raft.log) (all_fit setup past run n) log.acted newer older b (sym (config_is setup past run n) ∙ is)) [
      | inl f ↦
          all_at IsOfFirst (first_branches setup.hashes 0 setup.shards []) (first_tenures setup.hashes 0 setup.shards [] tt) b
          (subst (λ (bs : Branches). IsIn bs b) (sym f.1) (IsIn-right f.0 (b ∷ older) b (inl refl)))
      | inr g ↦
          let first = table_has_first setup log.raft.log g.index (log_registers setup past log.raft.log (registered_asked setup ok past run n)) in
          let c = is_first 0 setup.shards g.contract (subst (λ (cs : List Contract). IsIn cs g.contract) first.contracts_are g.current) in
          g.tenure_is ∙ sym g.of_tenure ∙ c.tenure_is
    ]
