-- A primary that waits for its branch asks for it at each tick.
use Rattle.std.proofs.Common.{◌≡◌, ◌≤◌, true, cond, List, [], ◌∷◌, ◌++◌, length, Option, Some, refl, sym, ap, ◌∙◌, subst, inl, inr, eq-eqb}
use Rattle.std.proofs.lemmas.Bool.{cond_both, both_ways}
use Rattle.std.specs.List.{flat_map}
use Rattle.list_laws.specs.Members.{IsIn}
use Rattle.list_laws.proofs.Members.{IsIn-left, IsIn-right}
use Rattle.runs.specs.region_map.declared.id.Id.{Id}
use Rattle.runs.specs.region_map.declared.id.NodeId.{NodeId}
use Rattle.runs.specs.region_map.Nodes.{has}
use Rattle.runs.specs.region_map.Maps.{Pieced}
use Rattle.runs.specs.branch_history.declared.version.Version.{Version}
use Rattle.runs.proofs.branch_history.PathLaws.{id_same, id_self}
use Rattle.runs.specs.contract_types.declared.ack.Ack.{Ack}
use Rattle.runs.specs.contract_types.declared.contract.Contract.{Contract}
use Rattle.runs.specs.contract_types.declared.contract.Holder.{Holder}
use Rattle.runs.specs.contract_types.Tables.{Table}
use Rattle.runs.specs.coordinator.Proposals.{proposals_of, after_proposals}
use Rattle.runs.specs.table_log.Logs.{table_of}
use Rattle.runs.specs.exec_types.declared.input.Input.TheVariants.{Tick}
use Rattle.runs.specs.exec_types.declared.message.Message.TheVariants.{Say}
use Rattle.runs.specs.exec_types.declared.output.Output.{Output}
use Rattle.runs.specs.exec_types.declared.output.Output.TheVariants.{Message}
use Rattle.runs.specs.primary_exec.declared.asking.Asking.{Asking}
use Rattle.runs.specs.primary_exec.Execution.{needs_branch}
use Rattle.runs.specs.node_core.declared.node.Brought.{Brought}
use Rattle.runs.specs.node_core.Saying.{Roles, is_asking_under, or_ack, asking_ack, execution_ack, waiting_ack, following_ack, ack_under, says_to, acknowledges, says_under}
use Rattle.runs.specs.node_core.Starting.{current_of}
use Rattle.runs.specs.node_core.Step.{NodeState, coordinates, propose_all, with_proposals, roles_of, says_now, tick_log, tick_row, node_step}
use Rattle.step_laws.specs.Outs.{AsksFor}
use Rattle.step_laws.proofs.Grown.{table_stays, ended_raft, ended_outs}

flat_there : {X Y : Type 0} (f : X → List Y) (xs : List X) (x : X) (y : Y) → IsIn xs x → IsIn (f x) y → IsIn (flat_map f xs) y
flat_there f [] x y i j = absurd i
flat_there f (z ∷ zs) x y i j =
    elim i [
      | inl same ↦ IsIn-left (f z) (flat_map f zs) y (subst (λ v. IsIn (f v) y) (sym same) j)
      | inr there ↦ IsIn-right (f z) (flat_map f zs) y (flat_there f zs x y there j)
    ]

asks_once : (c : Contract) (current : Pieced Id) (versions : Pieced Version) (askings : List Asking) (a : Asking) → IsIn askings a → a.contract.id ≡ c.id
    → ((b : Asking) → IsIn askings b → b.contract.id ≡ c.id → b ≡ a) → asking_ack c current versions askings ≡ Some (needs_branch a current versions)
asks_once c current versions [] a i own once = absurd i
asks_once c current versions (b ∷ bs) a i own once =
    cond_both (is_asking_under c b) (Some (needs_branch b current versions)) (asking_ack c current versions bs) (λ (o : Option Ack). o ≡ Some (needs_branch a current versions))
    (λ here. ap (λ (v : Asking). Some (needs_branch v current versions)) (once b (inl refl) (id_same b.contract.id c.id here)))
    (λ other. elim i [
      | inl same ↦
          let is : b.contract.id ≡ c.id = ap (λ (v : Asking). v.contract.id) same ∙ own in
          absurd (both_ways (is_asking_under c b) other (ap (λ v. is_asking_under (record c { id = v }) b) (sym is) ∙ id_self b.contract.id))
      | inr there ↦ asks_once c current versions bs a there own (λ d j. once d (inr j))
    ])

module _ (t : NodeState) (leader : NodeId) (c : Contract) (holder : Holder) (a : Asking) (known : t.log.raft.votes.leader ≡ Some leader) (in_table : IsIn (table_of t.log).contracts c) (held : c.primary ≡ Some holder)
    (own : holder.server.0 ≡ t.me.0) (replica : has c.replicas t.me.0 ≡ true) (asking : IsIn t.asking a) (under : a.contract.id ≡ c.id) (once : (b : Asking) → IsIn t.asking b → b.contract.id ≡ c.id → b ≡ a) where
  abbrev current : Pieced Id
  current = current_of (table_of t.log)

  abbrev ack : Ack
  ack = needs_branch a current t.versions

  abbrev said : Output
  said = Message leader (Say c.id ack)

  ack_is : ack_under t.me current t.versions (roles_of t) c c.primary ≡ Some ack
  ack_is =
      let r : Roles = roles_of t in
      ap (ack_under t.me current t.versions r c) held
      ∙ ap (λ b. cond b (or_ack (asking_ack c current t.versions r.asking) (execution_ack c r.executions)) (or_ack (waiting_ack c holder.server r.waiting) (following_ack c holder.server r.followings)))
      (eq-eqb holder.server.0 t.me.0 own)
      ∙ ap (λ (o : Option Ack). or_ack o (execution_ack c r.executions)) (asks_once c current t.versions t.asking a asking under once)

  says_it : IsIn (says_under t.me t.log.raft.votes.leader current t.versions t.log.acted (roles_of t) c) said
  says_it =
      let rest : List Output = acknowledges c t.log.acted t.followings c.primary in
      let says : says_to t.log.raft.votes.leader c (ack_under t.me current t.versions (roles_of t) c c.primary) ≡ said ∷ [] =
      ap (λ (o : Option NodeId). says_to o c (ack_under t.me current t.versions (roles_of t) c c.primary)) known ∙ ap (λ (o : Option Ack). says_to (Some leader) c o) ack_is in
      let all : says_under t.me t.log.raft.votes.leader current t.versions t.log.acted (roles_of t) c ≡ (said ∷ []) ++ rest =
      ap (λ b. cond b (says_to t.log.raft.votes.leader c (ack_under t.me current t.versions (roles_of t) c c.primary) ++ rest) []) replica ∙ ap (λ (l : List Output). l ++ rest) says in
      subst (λ (l : List Output). IsIn l said) (sym all) (inl refl)

  pub says_now_it : AsksFor (says_now t) leader c.id a.branch
  says_now_it = (_, _, flat_there (says_under t.me t.log.raft.votes.leader current t.versions t.log.acted (roles_of t)) (table_of t.log).contracts c said in_table says_it)

-- proposals change the log and the acks alone
record Beside (s t : NodeState) : Type 0 where
  me : t.me ≡ s.me
  asking : t.asking ≡ s.asking

proposals_beside : (s : NodeState) → Beside s (with_proposals s)
proposals_beside s =
    cond_both (coordinates s.log) (record s { log = propose_all s.log (proposals_of s.acks (table_of s.log)); acks = after_proposals s.acks (table_of s.log) }) s (Beside s)
    (λ _. record { me = refl; asking = refl }) (λ _. record { me = refl; asking = refl })

pub asks_at_each_tick : (s : NodeState) (brought : Option Brought) (leader : NodeId) (c : Contract) (holder : Holder) (a : Asking)
    → s.log.acted ≤ length s.log.raft.log
    → (node_step s Tick brought).node.log.raft.votes.leader ≡ Some leader
    → IsIn (table_of s.log).contracts c → c.primary ≡ Some holder → holder.server.0 ≡ s.me.0 → has c.replicas s.me.0 ≡ true
    → IsIn s.asking a → a.contract.id ≡ c.id → ((b : Asking) → IsIn s.asking b → b.contract.id ≡ c.id → b ≡ a)
    → AsksFor (node_step s Tick brought).outs leader c.id a.branch
asks_at_each_tick s brought leader c holder a within known in_table held own replica asking under once =
    let t : NodeState = (tick_log (with_proposals s)).node in
    let b = proposals_beside s in
    let asks = says_now_it t leader c holder a
    (ap (λ (r : _). r.votes.leader) (sym (ended_raft (tick_row s))) ∙ known)
    (subst (λ (u : Table). IsIn u.contracts c) (sym (table_stays s within)) in_table)
    held (own ∙ ap (λ (n : NodeId). n.0) (sym b.me)) (subst (λ (n : NodeId). has c.replicas n.0 ≡ true) (sym b.me) replica)
    (subst (λ (l : List Asking). IsIn l a) (sym b.asking) asking) under (λ d i e. once d (subst (λ (l : List Asking). IsIn l d) b.asking i) e) in
    (asks.0, asks.1, ended_outs (tick_row s) _ (IsIn-right (tick_log (with_proposals s)).outs (says_now t) _ asks.2))
