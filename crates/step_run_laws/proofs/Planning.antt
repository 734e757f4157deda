-- In every run a leader at the end of its log appends each branch for which a primary's last ack asks.
use Rattle.std.proofs.Common.{◌≡◌, ◌≤◌, ◌⊎◌, ◌==◌, ℕ, true, false, cond, List, [], ◌∷◌, ◌++◌, length, drop, Some, None, sym, ap, ◌∙◌, subst}
use Rattle.std.proofs.lemmas.Bool.{cond_both}
use Rattle.std.specs.List.{AllByRecursion}
use Rattle.list_laws.specs.Members.{IsIn}
use Rattle.path_runs.specs.runs.region_map.declared.id.Id.{Id}
use Rattle.path_runs.specs.runs.region_map.declared.id.NodeId.{NodeId}
use Rattle.path_runs.specs.runs.region_map.Equal.{same_id}
use Rattle.path_runs.specs.runs.region_map.Made.{ends_of, cuts_of}
use Rattle.path_runs.specs.runs.region_map.Maps.{Pieced, value_at}
use Rattle.path_runs.specs.runs.region_map.Regions.{in_region}
use Rattle.path_runs.proofs.runs.region_map.Made.{made_hashes}
use Rattle.path_runs.specs.runs.branch_history.declared.version.Version.{Version}
use Rattle.path_runs.specs.runs.branch_history.Equal.{same_version}
use Rattle.path_runs.specs.runs.branch_history.Histories.{knows}
use Rattle.path_runs.specs.runs.raft_vote.Rows.{is_leader}
use Rattle.path_runs.specs.runs.contract_types.declared.ack.Ack.{Ack}
use Rattle.path_runs.specs.runs.contract_types.declared.ack.Ack.TheVariants.{NeedBranch, InProgress, Ready, NeedPrimary, Backfilling, Streaming}
use Rattle.path_runs.specs.runs.contract_types.declared.ack.ServerAck.{ServerAck}
use Rattle.path_runs.specs.runs.contract_types.declared.change.Change.TheVariants.{RegisterBranch}
use Rattle.path_runs.specs.runs.contract_types.declared.contract.Contract.{Contract}
use Rattle.path_runs.specs.runs.contract_types.declared.contract.Holder.{Holder}
use Rattle.path_runs.specs.runs.contract_types.Setup.{SetupState, IsSetup}
use Rattle.path_runs.specs.runs.contract_plan.Plans.{ack_in}
use Rattle.path_runs.specs.runs.coordinator.declared.acks.ContractAcks.{ContractAcks}
use Rattle.path_runs.specs.runs.coordinator.Acks.{acks_under, ack_of}
use Rattle.path_runs.specs.runs.table_log.Logs.{table_of}
use Rattle.path_runs.specs.runs.exec_types.declared.input.Input.{Input}
use Rattle.path_runs.specs.runs.exec_types.declared.input.Input.TheVariants.{Tick}
use Rattle.path_runs.specs.runs.node_core.declared.journal.Entry.{Entry}
use Rattle.path_runs.specs.runs.node_core.Step.{NodeState, node_step}
use Rattle.path_runs.specs.runs.Run.{IsRun, brought, state}
use Rattle.path_runs.proofs.change_runs.Asked.{IsAsked}
use Rattle.path_runs.proofs.change_runs.AskedRuns.{AskedUnder, asked_facts}
use Rattle.path_runs.proofs.change_runs.AskedRunsSteps.{AckHolds, AcksHold}
use Rattle.path_runs.proofs.lead_runs.LedRuns.{run_roles, earlier_run}
use Rattle.path_runs.proofs.log_runs.LogWorldRuns.{run_facts}
use Rattle.step_laws.proofs.Appends.{appends_each_plan}
use Rattle.step_run_laws.proofs.Taking.{own_state}

-- the origin that an ack brings has as many hashes as the table
abbrev BringsHashes : ℕ → Ack → Type 0
BringsHashes hashes (NeedBranch branch based_on origin) = origin.hashes ≡ hashes
BringsHashes hashes InProgress = Unit {0}
BringsHashes hashes Ready = Unit {0}
BringsHashes hashes (NeedPrimary versions) = Unit {0}
BringsHashes hashes Backfilling = Unit {0}
BringsHashes hashes Streaming = Unit {0}

module _ (setup : SetupState) (ok : IsSetup setup) (past : List Entry) (run : IsRun setup past) where
  abbrev Holds : Id → ServerAck → Type 0
  Holds contract a = AckHolds (IsAsked setup past) (AskedUnder setup past) contract a

  brings : (contract : Id) (server : NodeId) (ack : Ack) → Holds contract (record { server = server; ack = ack }) → BringsHashes setup.hashes ack
  brings contract server (NeedBranch branch based_on origin) h =
      let a = h.asked in
      let roles = (run_roles setup ok a.moment (earlier_run setup past a.moment run a.earlier) server.0).roles in
      let m : Pieced Version = (state setup server.0 a.moment).versions in
      ap (λ (v : Pieced Version). v.hashes) a.origin_is
      ∙ made_hashes same_version m.hashes (ends_of h.contract.region ++ cuts_of m.pieces) (λ g k. cond (in_region h.contract.region g k) (value_at m.pieces g k) None)
      ∙ roles.hashes_are
  brings contract server InProgress h = tt
  brings contract server Ready h = tt
  brings contract server (NeedPrimary versions) h = tt
  brings contract server Backfilling h = tt
  brings contract server Streaming h = tt

  in_brings : (contract : Id) (server : NodeId) (ack : Ack) (acks : List ServerAck) → AllByRecursion (Holds contract) acks → ack_in acks server ≡ Some ack → BringsHashes setup.hashes ack
  in_brings contract server ack [] h e = absurd (cc)
  in_brings contract server ack (a ∷ rest) h e =
      elim (a.server.0 == server.0) as (λ b. cond b (Some a.ack) (ack_in rest server) ≡ Some ack → BringsHashes setup.hashes ack) [
        | true ↦ λ k. let same : a.ack ≡ ack = cc in subst (BringsHashes setup.hashes) same (brings contract a.server a.ack h.0)
        | false ↦ λ k. in_brings contract server ack rest h.1 k
      ] e

  under_brings : (acks : List ContractAcks) (contract : Id) (server : NodeId) (ack : Ack) → AllByRecursion (AcksHold (IsAsked setup past) (AskedUnder setup past)) acks → ack_of acks contract server ≡ Some ack
      → BringsHashes setup.hashes ack
  under_brings [] contract server ack h e = absurd (cc)
  under_brings (c ∷ rest) contract server ack h e =
      cond_both (same_id c.contract contract) c.acks (acks_under rest contract) (λ (l : List ServerAck). ack_in l server ≡ Some ack → BringsHashes setup.hashes ack)
      (λ _ k. in_brings c.contract server ack c.acks h.0 k) (λ _ k. under_brings rest contract server ack h.1 k) e

pub asked_is_appended : (setup : SetupState) → IsSetup setup → (past : List Entry) (e : Entry) → IsRun setup (e ∷ past)
    → (c : Contract) (holder : Holder) (branch : Id) (based_on : Pieced Id) (origin : Pieced Version) → e.input ≡ Tick
    → is_leader (state setup e.node.0 past).log.raft.votes.role ≡ true
    → (state setup e.node.0 past).log.raft.view ≡ length (state setup e.node.0 past).log.raft.log
    → IsIn (table_of (state setup e.node.0 past).log).contracts c → c.primary ≡ Some holder
    → ack_of (state setup e.node.0 past).acks c.id holder.server ≡ Some (NeedBranch branch based_on origin)
    → knows (table_of (state setup e.node.0 past).log).history branch ≡ false
    → IsIn (drop (length (state setup e.node.0 past).log.raft.log) (state setup e.node.0 (e ∷ past)).log.raft.log)
    (record { term = (state setup e.node.0 past).log.raft.votes.term; change = RegisterBranch branch c.region c.tenure holder.server based_on origin })
    ⊎ (128 ≤ length (state setup e.node.0 (e ∷ past)).log.raft.log)
asked_is_appended setup ok past e run c holder branch based_on origin ticks leader whole in_table held said new =
    let s : NodeState = state setup e.node.0 past in
    let hashes : origin.hashes ≡ setup.hashes =
    under_brings setup ok past run.1 s.acks c.id holder.server (NeedBranch branch based_on origin) ((asked_facts setup past run.1).nodes e.node.0).acks said in
    let table : s.log.config.hashes ≡ setup.hashes = ap (λ (v : SetupState). v.hashes) ((run_facts setup past run.1).config e.node.0) in
    let after : (node_step s Tick (brought past e.input)).node ≡ state setup e.node.0 (e ∷ past) =
    ap (λ (i : Input). (node_step s i (brought past e.input)).node) (sym ticks) ∙ sym (own_state setup past e) in
    subst
    (λ (t : NodeState). IsIn (drop (length s.log.raft.log) t.log.raft.log) (record { term = s.log.raft.votes.term; change = RegisterBranch branch c.region c.tenure holder.server based_on origin })
    ⊎ (128 ≤ length t.log.raft.log))
    after
    (appends_each_plan s (brought past e.input) c holder branch based_on origin leader whole in_table held said new (hashes ∙ sym table))
