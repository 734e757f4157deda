-- Where the messages come from that a node sends as it ticks or takes a part of a stream.
use Rattle.std.proofs.Common.{◌≡◌, ◌==◌, ℕ, true, false, cond, nat_le, List, [], ◌∷◌, ◌++◌, Option, Some, None, inl, inr, refl}
use Rattle.std.proofs.lemmas.Bool.{cond_both}
use Rattle.std.specs.List.{list_any}
use Rattle.node_moves.specs.list_laws.Members.{IsIn}
use Rattle.node_moves.specs.region_map.declared.id.NodeId.{NodeId}
use Rattle.node_moves.specs.region_map.Maps.{Pieced}
use Rattle.node_moves.specs.region_map.Nodes.{has}
use Rattle.node_moves.specs.branch_history.declared.version.Version.{Version}
use Rattle.node_moves.specs.contract_types.declared.ack.Ack.{Ack}
use Rattle.node_moves.specs.contract_types.declared.ack.Ack.TheVariants.{Backfilling, Streaming}
use Rattle.node_moves.specs.contract_types.declared.contract.Contract.{Contract}
use Rattle.node_moves.specs.contract_types.declared.contract.Holder.{Holder}
use Rattle.node_moves.specs.contract_types.Tables.{Table}
use Rattle.node_moves.specs.table_log.Logs.{LogState, table_of}
use Rattle.node_moves.specs.exec_types.declared.input.Input.{Input}
use Rattle.node_moves.specs.exec_types.declared.input.Input.TheVariants.{Tick}
use Rattle.node_moves.specs.exec_types.declared.message.Message.{Message}
use Rattle.node_moves.specs.exec_types.declared.message.Message.TheVariants as message
use Rattle.node_moves.specs.exec_types.declared.message.Stream.{Stream}
use Rattle.node_moves.specs.exec_types.declared.output.Output.{Output}
use Rattle.node_moves.specs.exec_types.declared.output.Output.TheVariants as output
use Rattle.node_moves.specs.store_api.Rows.{Rows}
use Rattle.node_moves.specs.secondary_exec.declared.following.Following.{Following}
use Rattle.node_moves.specs.secondary_exec.Stream.{FollowingStep, acknowledgement, apply_part, is_next, is_ours, quiet, stream_row, take_part}
use Rattle.node_moves.specs.primary_exec.declared.asking.Asking.{Asking}
use Rattle.node_moves.specs.primary_exec.Execution.{Execution, needs_branch, said}
use Rattle.node_moves.specs.node_core.declared.node.Brought.{Brought}
use Rattle.node_moves.specs.node_core.Parts.{Streamed, left_alone, stream_all, taken}
use Rattle.node_moves.specs.node_core.Saying.{Roles, ack_under, acknowledgements_to, acknowledges, asking_ack, execution_ack, following_ack, is_asking_under, is_following_under, is_run_under, is_waiting_under, or_ack, says_all, says_to, says_under, waiting_ack}
use Rattle.node_moves.specs.node_core.Starting.{current_of}
use Rattle.node_moves.specs.node_core.Step.{NodeState}
use Rattle.node_moves.specs.Sends.{AtTick, OfPart, SaysUnder, NeedsPrimary, Asks, Writes, Waits, Follows, SendsBeside}
use Rattle.node_moves.proofs.Lists.{AllOnly, Only, only_flat}
use Rattle.list_laws.proofs.All.{all_append}
use Rattle.list_laws.proofs.Members.{IsIn-from_any, all_from_members}

-- ---- acks

-- what holds of an ack, if there is one
abbrev pub IfAck : (Ack → Type 0) → Option Ack → Type 0
IfAck P None = Unit {0}
IfAck P (Some ack) = P ack

if_or : (P : Ack → Type 0) (a b : Option Ack) → IfAck P a → IfAck P b → IfAck P (or_ack a b)
if_or P None b h k = k
if_or P (Some ack) b h k = h

abbrev pub roles : NodeState → Roles
roles s = record { asking = s.asking; executions = s.executions; waiting = s.waiting; followings = s.followings }

module _ (s : NodeState) (t : Table) (c : Contract) where
  asks : (h : Holder) → c.primary ≡ Some h → (h.server.0 == s.me.0) ≡ true → (xs : List Asking) → ((a : Asking) → IsIn xs a → IsIn s.asking a)
      → IfAck (SaysUnder s t c) (asking_ack c (current_of t) s.versions xs)
  asks h holds own [] these = tt
  asks h holds own (a ∷ xs) these =
      cond_both (is_asking_under c a) (Some (needs_branch a (current_of t) s.versions)) (asking_ack c (current_of t) s.versions xs) (IfAck (SaysUnder s t c))
      (λ under. Asks h a holds own (these a (inl refl)) under refl) (λ _. asks h holds own xs (λ b i. these b (inr i)))

  writes : (h : Holder) → c.primary ≡ Some h → (h.server.0 == s.me.0) ≡ true → (xs : List Execution) → ((x : Execution) → IsIn xs x → IsIn s.executions x) → IfAck (SaysUnder s t c) (execution_ack c xs)
  writes h holds own [] these = tt
  writes h holds own (x ∷ xs) these =
      cond_both (is_run_under c x) (Some (said x)) (execution_ack c xs) (IfAck (SaysUnder s t c))
      (λ under. Writes h x holds own (these x (inl refl)) under refl) (λ _. writes h holds own xs (λ y i. these y (inr i)))

  waits : (h : Holder) → c.primary ≡ Some h → (h.server.0 == s.me.0) ≡ false → IfAck (SaysUnder s t c) (waiting_ack c h.server s.waiting)
  waits h holds other =
      cond_both (list_any (is_waiting_under c h.server) s.waiting) (Some Backfilling) None (IfAck (SaysUnder s t c))
      (λ any. let w = IsIn-from_any (is_waiting_under c h.server) s.waiting any in Waits h w.0 holds other w.1 w.2 refl) (λ _. tt)

  follows : (h : Holder) → c.primary ≡ Some h → (h.server.0 == s.me.0) ≡ false → IfAck (SaysUnder s t c) (following_ack c h.server s.followings)
  follows h holds other =
      cond_both (list_any (is_following_under c h.server) s.followings) (Some Streaming) None (IfAck (SaysUnder s t c))
      (λ any. let f = IsIn-from_any (is_following_under c h.server) s.followings any in Follows h f.0 holds other f.1 f.2 refl) (λ _. tt)

  pub says : (o : Option Holder) → c.primary ≡ o → IfAck (SaysUnder s t c) (ack_under s.me (current_of t) s.versions (roles s) c o)
  says None holds = NeedsPrimary holds refl
  says (Some h) holds =
      let own : Option Ack = or_ack (asking_ack c (current_of t) s.versions s.asking) (execution_ack c s.executions) in
      let other : Option Ack = or_ack (waiting_ack c h.server s.waiting) (following_ack c h.server s.followings) in
      cond_both (h.server.0 == s.me.0) own other (IfAck (SaysUnder s t c))
      (λ is. if_or (SaysUnder s t c) (asking_ack c (current_of t) s.versions s.asking) (execution_ack c s.executions) (asks h holds is s.asking (λ a i. i)) (writes h holds is s.executions (λ x i. i)))
      (λ is. if_or (SaysUnder s t c) (waiting_ack c h.server s.waiting) (following_ack c h.server s.followings) (waits h holds is) (follows h holds is))

-- ---- a tick

module _ (s : NodeState) (brought : Option Brought) (log : LogState) where
  abbrev pub FromTick : NodeId → Message → Type 0
  FromTick to m = SendsBeside s Tick brought log s.followings to m

  say_one : (c : Contract) → IsIn (table_of log).contracts c → has c.replicas s.me.0 ≡ true → (leader : Option NodeId) → log.raft.votes.leader ≡ leader → (ack : Option Ack)
      → IfAck (SaysUnder s (table_of log) c) ack → AllOnly FromTick (says_to leader c ack)
  say_one c i replica None knows ack h = tt
  say_one c i replica (Some leader) knows None h = tt
  say_one c i replica (Some leader) knows (Some ack) h = (record { ticks = refl; leader = knows; c = c; is_in = i; contract_is = refl; replica = replica; says = h }, tt)

  tell_all : (c : Contract) (primary : NodeId) (fs : List Following) → ((f : Following) → IsIn fs f → IsIn s.followings f) → AllOnly FromTick (acknowledgements_to c primary s.log.acted fs)
  tell_all c primary [] these = tt
  tell_all c primary (f ∷ fs) these =
      let rest = tell_all c primary fs (λ g i. these g (inr i)) in
      let here : IsIn s.followings f = these f (inl refl) in
      cond_both (is_following_under c primary f) (acknowledgement f s.log.acted ∷ acknowledgements_to c primary s.log.acted fs) (acknowledgements_to c primary s.log.acted fs) (AllOnly FromTick)
      (λ _. (record { f = f; is_in = here; to_is = refl; got_is = refl; why = AtTick refl here }, rest)) (λ _. rest)

  tells : (c : Contract) (h : Option Holder) → AllOnly FromTick (acknowledges c s.log.acted s.followings h)
  tells c None = tt
  tells c (Some h) = tell_all c h.server s.followings (λ f i. i)

  under : (c : Contract) → IsIn (table_of log).contracts c → AllOnly FromTick (says_under s.me log.raft.votes.leader (current_of (table_of log)) s.versions s.log.acted (roles s) c)
  under c i =
      let ack : Option Ack = ack_under s.me (current_of (table_of log)) s.versions (roles s) c c.primary in
      let said : List Output = says_to log.raft.votes.leader c ack in
      let acks : List Output = acknowledges c s.log.acted s.followings c.primary in
      cond_both (has c.replicas s.me.0) (said ++ acks) [] (AllOnly FromTick)
      (λ replica. all_append (Only FromTick) said acks (say_one c i replica log.raft.votes.leader refl ack (says s (table_of log) c c.primary refl)) (tells c c.primary))
      (λ _. tt)

  pub tick_says : AllOnly FromTick (says_all s.me log.raft.votes.leader (current_of (table_of log)) s.versions s.log.acted (roles s) (table_of log).contracts)
  tick_says =
      only_flat FromTick (says_under s.me log.raft.votes.leader (current_of (table_of log)) s.versions s.log.acted (roles s)) (table_of log).contracts
      (all_from_members (λ c. AllOnly FromTick (says_under s.me log.raft.votes.leader (current_of (table_of log)) s.versions s.log.acted (roles s) c)) (table_of log).contracts under)

-- ---- a part of a stream

-- a part is passed over, acknowledged again, or applied
pub stream_cases : (P : FollowingStep → Type 0) (f : Following) (rows : Rows) (versions : Pieced Version) (from : NodeId) (stream : Stream) (view : ℕ)
    → P (quiet f rows versions) → P (record { following = f; rows = rows; versions = versions; outs = acknowledgement f view ∷ [] })
    → (is_next f stream ≡ true → P (apply_part f rows versions stream view)) → P (stream_row f rows versions from stream view)
stream_cases P f rows versions from stream view passed again new =
    let old : FollowingStep = record { following = f; rows = rows; versions = versions; outs = acknowledgement f view ∷ [] } in
    cond_both (is_ours f from stream) (take_part f rows versions stream view) (quiet f rows versions) P
    (λ _. cond_both (nat_le stream.number f.got) old (cond (is_next f stream) (apply_part f rows versions stream view) (quiet f rows versions)) P (λ _. again)
    (λ _. cond_both (is_next f stream) (apply_part f rows versions stream view) (quiet f rows versions) P new (λ _. passed)))
    (λ _. passed)

module _ (s : NodeState) (input : Input) (from : NodeId) (stream : Stream) (log : LogState) where
  abbrev arrived : Option Brought
  arrived = Some (record { from = from; message = message.Stream stream })

  abbrev pub FromPart : List Following → NodeId → Message → Type 0
  FromPart fs to m = SendsBeside s input arrived log fs to m

  more : (f : Following) (fs : List Following) (to : NodeId) (m : Message) → FromPart fs to m → FromPart (f ∷ fs) to m
  more f fs to (message.Raft m) h = h
  more f fs to (message.Say contract ack) h = h
  more f fs to (message.Stream part) h = h
  more f fs to (message.Got got) h = record { f = h.f; is_in = inr h.is_in; to_is = h.to_is; got_is = h.got_is; why = h.why }

  only_more : (f : Following) (fs : List Following) (outs : List Output) → AllOnly (FromPart fs) outs → AllOnly (FromPart (f ∷ fs)) outs
  only_more f fs [] h = tt
  only_more f fs (output.Message to m ∷ outs) h = (more f fs to m h.0, only_more f fs outs h.1)
  only_more f fs (output.Dispatched op key branch at ∷ outs) h = absurd h.0
  only_more f fs (output.Viewed first results ∷ outs) h = absurd h.0
  only_more f fs (output.Answer op outcome ∷ outs) h = absurd h.0

  pub part_tells : (fs : List Following) (rows : Rows) (versions : Pieced Version)
      → AllOnly (FromPart (stream_all fs rows versions from stream s.log.acted).followings) (stream_all fs rows versions from stream s.log.acted).outs
  part_tells [] rows versions = tt
  part_tells (f ∷ fs) rows versions =
      let rest : Streamed = stream_all fs rows versions from stream s.log.acted in
      cond_both (is_ours f from stream) (taken (stream_row f rows versions from stream s.log.acted) fs) (left_alone f rest) (λ (r : Streamed). AllOnly (FromPart r.followings) r.outs)
      (λ ours. stream_cases (λ (r : FollowingStep). AllOnly (FromPart (r.following ∷ fs)) r.outs) f rows versions from stream s.log.acted tt
      (record { f = f; is_in = inl refl; to_is = refl; got_is = refl; why = OfPart from stream refl ours }, tt)
      (λ _. (record { f = _; is_in = inl refl; to_is = refl; got_is = refl; why = OfPart from stream refl ours }, tt)))
      (λ _. only_more f rest.followings rest.outs (part_tells fs rows versions))
