-- A leader at the end of its log appends what is planned, and keeps what it is told.
use Rattle.std.proofs.Common.{◌≡◌, ◌≤◌, ◌<◌, ℕ, ◌+◌, ◌==◌, Bool, true, false, cond, ◌&&◌, not, nat_lt, List, [], ◌∷◌, ◌++◌, length, drop, Option, Some, refl, sym, ap, ◌∙◌, subst, inl, inr, ◌⊎◌, arith, eq-eqb, append_assoc, length-append}
use Rattle.std.proofs.Math.Seq.{drop-append_seam}
use Rattle.std.proofs.lemmas.Bool.{cond_both, and_from, lt-ltb, leb-true}
use Rattle.list_laws.specs.Members.{IsIn}
use Rattle.list_laws.proofs.Members.{IsIn-right}
use Rattle.runs.specs.region_map.declared.id.Id.{Id}
use Rattle.runs.specs.region_map.declared.id.NodeId.{NodeId}
use Rattle.runs.specs.region_map.Equal.{same_id}
use Rattle.runs.specs.region_map.Maps.{Pieced}
use Rattle.runs.specs.branch_history.declared.version.Version.{Version}
use Rattle.runs.specs.branch_history.Histories.{knows}
use Rattle.runs.proofs.branch_history.PathLaws.{id_self}
use Rattle.runs.specs.raft_vote.declared.log.LogEntry.{LogEntry}
use Rattle.runs.specs.raft_vote.Rows.{is_leader}
use Rattle.runs.specs.raft_node.Rows.{is_full}
use Rattle.runs.specs.contract_types.declared.ack.Ack.{Ack}
use Rattle.runs.specs.contract_types.declared.ack.Ack.TheVariants.{NeedBranch}
use Rattle.runs.specs.contract_types.declared.change.Change.{Change}
use Rattle.runs.specs.contract_types.declared.change.Change.TheVariants.{RegisterBranch}
use Rattle.runs.specs.contract_types.declared.contract.Contract.{Contract}
use Rattle.runs.specs.contract_types.declared.contract.Holder.{Holder}
use Rattle.runs.specs.contract_types.Tables.{Table}
use Rattle.runs.specs.contract_plan.declared.plans.Plan.{Plan}
use Rattle.runs.specs.contract_plan.declared.plans.Plan.TheVariants.{Keep, Propose}
use Rattle.runs.specs.contract_plan.Plans.{planned, plan_under, plan_of}
use Rattle.runs.specs.coordinator.declared.acks.ContractAcks.{ContractAcks}
use Rattle.runs.specs.coordinator.Acks.{ack_of, with_ack}
use Rattle.runs.specs.coordinator.Proposals.{proposed, changes_for, proposals_of, after_proposals}
use Rattle.coordinator.proofs.Lookups.{read_ack}
use Rattle.runs.specs.table_log.Fitting.{fits}
use Rattle.runs.specs.table_log.Logs.{LogState, table_of, with_proposed}
use Rattle.runs.specs.exec_types.declared.input.Input.TheVariants.{Tick, Deliver}
use Rattle.runs.specs.exec_types.declared.message.Message.TheVariants.{Say}
use Rattle.runs.specs.node_core.declared.node.Brought.{Brought}
use Rattle.runs.specs.node_core.Step.{NodeState, Stepped, silent, propose_one, propose_all, coordinates, with_proposals, tick_row, leads, take_say, ack_fits, is_well_formed, brought_row, node_step}
use Rattle.step_laws.proofs.Grown.{Grows, entry_of, proposed_log, one_grows, all_grow, leader_ticks, ended_raft, ended_acks}

-- ---- what is appended

-- an entry is among those that came to the end of a log, or there is no room for it
record IsAppended (a b : LogState) (e : LogEntry Change) : Type 0 where
  rest : List (LogEntry Change)
  is : b.raft.log ≡ a.raft.log ++ rest
  has : IsIn rest e ⊎ (128 ≤ length b.raft.log)

-- a log that was full stays so
full_stays : (a b : LogState) → Grows a b → 128 ≤ length a.raft.log → 128 ≤ length b.raft.log
full_stays a b g full =
    let all : length b.raft.log ≡ length a.raft.log + length g.rest = ap length g.log ∙ length-append a.raft.log g.rest in
    omega (arith, all, full)

appended_first : (log : LogState) (c : Change) (cs : List Change) → fits log.config.hashes c ≡ true → IsAppended log (propose_all (propose_one log c) cs) (entry_of log c)
appended_first log c cs fit =
    cond_both (fits log.config.hashes c && not (is_full log.raft.log)) (with_proposed log c) log (λ (l : LogState). IsAppended log (propose_all l cs) (entry_of log c))
    (λ _.
    let later = all_grow (with_proposed log c) cs in
    record {
      rest = (entry_of log c ∷ []) ++ later.rest;
      is = later.log ∙ ap (λ (l : List (LogEntry Change)). l ++ later.rest) (proposed_log log c) ∙ append_assoc log.raft.log (entry_of log c ∷ []) later.rest;
      has = inl (inl refl);
    })
    (λ none.
    let later = all_grow log cs in
    let full : not (is_full log.raft.log) ≡ false = ap (λ b. b && not (is_full log.raft.log)) (sym fit) ∙ none in
    record { rest = later.rest; is = later.log; has = inr (full_stays log (propose_all log cs) later (leb-true 128 (length log.raft.log) (is_true (is_full log.raft.log) full))) })
  where
    is_true : (b : Bool) → not b ≡ false → b ≡ true
    is_true true e = refl
    is_true false e = absurd (cc)

appended : (log : LogState) (cs : List Change) (change : Change) → IsIn cs change → fits log.config.hashes change ≡ true → IsAppended log (propose_all log cs) (entry_of log change)
appended log [] change i fit = absurd i
appended log (c ∷ cs) change i fit =
    let first : LogState = propose_one log c in
    let g = one_grows log c in
    elim i [
      | inl same ↦
          subst (λ (x : Change). IsAppended log (propose_all first cs) (entry_of log x)) same
          (appended_first log c cs (ap (fits log.config.hashes) same ∙ fit))
      | inr there ↦
          let later = appended first cs change there (ap (λ (v : _). fits v.hashes change) g.config ∙ fit) in
          let e : entry_of first change ≡ entry_of log change = ap (λ (v : _). record { term = v.term; change = change }) g.votes in
          record {
            rest = g.rest ++ later.rest;
            is = later.is ∙ ap (λ (l : List (LogEntry Change)). l ++ later.rest) g.log ∙ append_assoc log.raft.log g.rest later.rest;
            has = elim later.has [
              | inl h ↦ inl (IsIn-right g.rest later.rest (entry_of log change) (subst (λ (x : LogEntry Change). IsIn later.rest x) e h))
              | inr full ↦ inr full
            ];
          }
    ]

-- ---- what is planned

planned_there : (acks : List ContractAcks) (t : Table) (cs : List Contract) (c : Contract) (change : Change) → IsIn cs c → plan_of c t (ack_of acks c.id) ≡ Propose change → IsIn (changes_for acks t cs) change
planned_there acks t [] c change i plan = absurd i
planned_there acks t (d ∷ ds) c change i plan =
    let rest : List Change = changes_for acks t ds in
    elim i [
      | inl same ↦
          let here : plan_of d t (ack_of acks d.id) ≡ Propose change = ap (λ (v : Contract). plan_of v t (ack_of acks v.id)) same ∙ plan in
          subst (λ (p : Plan). IsIn (proposed p ++ rest) change) (sym here) (inl refl)
      | inr there ↦ IsIn-right (proposed (plan_of d t (ack_of acks d.id))) rest change (planned_there acks t ds c change there plan)
    ]

plan_is : (t : Table) (c : Contract) (holder : Holder) (acks : NodeId → Option Ack) (branch : Id) (based_on : Pieced Id) (origin : Pieced Version) → c.primary ≡ Some holder
    → acks holder.server ≡ Some (NeedBranch branch based_on origin) → knows t.history branch ≡ false
    → plan_of c t acks ≡ Propose (RegisterBranch branch c.region c.tenure holder.server based_on origin)
plan_is t c holder acks branch based_on origin held said new =
    ap (λ (h : Option Holder). plan_under c h t.history acks) held
    ∙ ap (planned c holder.server t.history) said
    ∙ ap (λ b. cond b Keep (Propose (RegisterBranch branch c.region c.tenure holder.server based_on origin))) new

pub appends_each_plan : (s : NodeState) (brought : Option Brought) (c : Contract) (holder : Holder) (branch : Id) (based_on : Pieced Id) (origin : Pieced Version)
    → is_leader s.log.raft.votes.role ≡ true → s.log.raft.view ≡ length s.log.raft.log
    → IsIn (table_of s.log).contracts c → c.primary ≡ Some holder
    → ack_of s.acks c.id holder.server ≡ Some (NeedBranch branch based_on origin)
    → knows (table_of s.log).history branch ≡ false → origin.hashes ≡ s.log.config.hashes
    → IsIn (drop (length s.log.raft.log) (node_step s Tick brought).node.log.raft.log)
    (record { term = s.log.raft.votes.term; change = RegisterBranch branch c.region c.tenure holder.server based_on origin })
    ⊎ (128 ≤ length (node_step s Tick brought).node.log.raft.log)
appends_each_plan s brought c holder branch based_on origin leader whole in_table held said new hashes =
    let t : Table = table_of s.log in
    let change : Change = RegisterBranch branch c.region c.tenure holder.server based_on origin in
    let own : List (LogEntry Change) = s.log.raft.log in
    let cs : List Change = proposals_of s.acks t in
    let i : IsIn cs change = planned_there s.acks t t.contracts c change in_table (plan_is t c holder (ack_of s.acks c.id) branch based_on origin held said new) in
    let a = appended s.log cs change i (eq-eqb origin.hashes s.log.config.hashes hashes) in
    let all_of_it : coordinates s.log ≡ true = and_from (leads s.log) (s.log.raft.view == length own) leader (eq-eqb s.log.raft.view (length own) whole) in
    let is : (with_proposals s).log ≡ propose_all s.log cs = ap (λ b. (cond b (record s { log = propose_all s.log cs; acks = after_proposals s.acks t }) s).log) all_of_it in
    let leads_on : is_leader (with_proposals s).log.raft.votes.role ≡ true = ap (λ (l : LogState). is_leader l.raft.votes.role) is ∙ ap (λ (v : _). is_leader v.role) (all_grow s.log cs).votes ∙ leader in
    let log_is : (node_step s Tick brought).node.log.raft.log ≡ (propose_all s.log cs).raft.log =
    ap (λ (r : _). r.log) (ended_raft (tick_row s)) ∙ leader_ticks (with_proposals s).log.raft (with_proposals s).unseen leads_on ∙ ap (λ (l : LogState). l.raft.log) is in
    let newer : drop (length own) (node_step s Tick brought).node.log.raft.log ≡ a.rest = ap (drop (length own)) (log_is ∙ a.is) ∙ drop-append_seam own a.rest in
    elim a.has [
      | inl h ↦ inl (subst (λ (l : List (LogEntry Change)). IsIn l (entry_of s.log change)) (sym newer) h)
      | inr full ↦ inr (subst (λ (l : List (LogEntry Change)). 128 ≤ length l) (sym log_is) full)
    ]

-- ---- what a leader is told

pub keeps_what_it_is_told : (s : NodeState) (number : ℕ) (from : NodeId) (contract : Id) (ack : Ack)
    → is_leader s.log.raft.votes.role ≡ true → from.0 < s.setup.nodes → ack_fits s.setup.hashes ack ≡ true
    → ack_of (node_step s (Deliver number) (Some (record { from = from; message = Say contract ack }))).node.acks contract from ≡ Some ack
keeps_what_it_is_told s number from contract ack leader known fit =
    let b : Brought = record { from = from; message = Say contract ack } in
    let row : Stepped = take_say s from contract ack in
    let formed : is_well_formed s b ≡ true = and_from (nat_lt from.0 s.setup.nodes) (ack_fits s.setup.hashes ack) (lt-ltb from.0 s.setup.nodes known) fit in
    let taken : brought_row s (Some b) ≡ row = ap (λ v. cond v row (silent s)) formed in
    let acks_are : (brought_row s (Some b)).node.acks ≡ with_ack contract from ack s.acks =
    ap (λ (r : Stepped). r.node.acks) taken ∙ ap (λ v. (cond v (record s { acks = with_ack contract from ack s.acks }) s).acks) leader in
    ap (λ (l : List ContractAcks). ack_of l contract from) (ended_acks (brought_row s (Some b)) ∙ acks_are)
    ∙ read_ack s.acks contract from ack contract from
    ∙ ap (λ v. cond v (Some ack) (ack_of s.acks contract from)) (and_from (same_id contract contract) (from.0 == from.0) (id_self contract) (eq-eqb from.0 from.0 refl))
