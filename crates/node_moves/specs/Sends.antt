-- What a step of a node sends: its messages, each with where it comes from.
use Rattle.std.specs.Prelude.{◌≡◌, ◌==◌, ◌+◌, ℕ, true, false, List, [], ◌∷◌, Option, Some, None, nat_lt}
use Rattle.list_laws.specs.Members.{IsIn}
use Rattle.region_map.specs.declared.id.Id.{Id}
use Rattle.region_map.specs.declared.id.NodeId.{NodeId}
use Rattle.region_map.specs.Nodes.{has}
use Rattle.region_map.specs.Made.{mask_map}
use Rattle.branch_history.specs.Equal.{same_version}
use Rattle.register_laws.specs.declared.operation.OpId.{OpId}
use Rattle.register_laws.specs.declared.operation.Op.{Op}
use Rattle.raft_vote.specs.declared.message.RaftMessage.{RaftMessage}
use Rattle.raft_node.specs.declared.input.RaftInput.TheVariants as raft
use Rattle.contract_types.specs.declared.ack.Ack.{Ack}
use Rattle.contract_types.specs.declared.ack.Ack.TheVariants.{NeedPrimary, Backfilling, Streaming}
use Rattle.contract_types.specs.declared.change.Change.{Change}
use Rattle.contract_types.specs.declared.contract.Contract.{Contract}
use Rattle.contract_types.specs.declared.contract.Holder.{Holder}
use Rattle.contract_types.specs.Tables.{Table}
use Rattle.table_log.specs.Logs.{LogState, table_of, restarted, may_take, log_step}
use Rattle.coordinator.specs.declared.acks.ContractAcks.{ContractAcks}
use Rattle.coordinator.specs.Acks.{with_ack}
use Rattle.coordinator.specs.Proposals.{after_proposals, proposals_of}
use Rattle.exec_types.specs.declared.input.Input.{Input}
use Rattle.exec_types.specs.declared.input.Input.TheVariants.{Request, Tick, Crash, Restart}
use Rattle.exec_types.specs.declared.message.Got.{Got}
use Rattle.exec_types.specs.declared.message.Message.{Message}
use Rattle.exec_types.specs.declared.message.Message.TheVariants as message
use Rattle.exec_types.specs.declared.message.Stream.{Stream}
use Rattle.exec_types.specs.declared.output.Output.{Output}
use Rattle.exec_types.specs.declared.output.Output.TheVariants as output
use Rattle.store_api.specs.Rows.{value_of}
use Rattle.secondary_exec.specs.declared.following.Following.{Following}
use Rattle.secondary_exec.specs.declared.waiting.Waiting.{Waiting}
use Rattle.secondary_exec.specs.Stream.{is_ours}
use Rattle.primary_exec.specs.declared.asking.Asking.{Asking}
use Rattle.primary_exec.specs.declared.session.Session.{Session}
use Rattle.primary_exec.specs.Execution.{Execution, has_room, needs_branch, part_of, said}
use Rattle.node_core.specs.declared.node.Brought.{Brought}
use Rattle.node_core.specs.Saying.{is_asking_under, is_run_under, is_waiting_under, is_following_under}
use Rattle.node_core.specs.Starting.{current_of}
use Rattle.node_core.specs.Step.{NodeState, ack_fits, coordinates, leads, propose_all}
use Rattle.node_moves.specs.Says.{IsServing}

-- ---- the log

-- the log of a leader that acts on all of it has what is planned; any other stays
pub data Proposes (s : NodeState) (log : LogState) : Type 0 where
  Plans : coordinates s.log ≡ true → log ≡ propose_all s.log (proposals_of s.acks (table_of s.log)) → Proposes s log
  Leaves : coordinates s.log ≡ false → log ≡ s.log → Proposes s log

-- what the row of a step does to the log, and which messages of the log it sends for that
pub data LogMoves (s : NodeState) (input : Input) (brought : Option Brought) (log : LogState) (sent : List (NodeId × RaftMessage Change)) : Type 0 where
  Rests : log ≡ s.log → sent ≡ [] → LogMoves s input brought log sent
  -- what is planned is proposed, and then the log ticks
  Ticks : (planned : LogState) → input ≡ Tick → Proposes s planned → log ≡ (log_step planned (raft.Tick s.unseen)).log → sent ≡ (log_step planned (raft.Tick s.unseen)).sent
      → LogMoves s input brought log sent
  Takes : (from : NodeId) (m : RaftMessage Change) → brought ≡ Some (record { from = from; message = message.Raft m }) → nat_lt from.0 s.setup.nodes ≡ true
      → may_take s.log (raft.Deliver from m) ≡ true
      → log ≡ (log_step s.log (raft.Deliver from m)).log → sent ≡ (log_step s.log (raft.Deliver from m)).sent → LogMoves s input brought log sent
  GoesDown : input ≡ Crash → log ≡ restarted s.log → sent ≡ [] → LogMoves s input brought log sent
  ComesUp : input ≡ Restart → log ≡ restarted s.log → sent ≡ [] → LogMoves s input brought log sent

-- what a leader keeps of the acks of servers
pub data AcksMove (s : NodeState) (input : Input) (brought : Option Brought) (acks : List ContractAcks) : Type 0 where
  Kept : acks ≡ s.acks → AcksMove s input brought acks
  -- it does not lead, before or after
  Lost : acks ≡ [] → AcksMove s input brought acks
  -- a server said how far it is under a contract
  Put : (from : NodeId) (contract : Id) (ack : Ack) → brought ≡ Some (record { from = from; message = message.Say contract ack }) → nat_lt from.0 s.setup.nodes ≡ true
      → ack_fits s.setup.hashes ack ≡ true → leads s.log ≡ true → acks ≡ with_ack contract from ack s.acks → AcksMove s input brought acks
  -- those on which what is planned rests are forgotten
  Used : input ≡ Tick → coordinates s.log ≡ true → acks ≡ after_proposals s.acks (table_of s.log) → AcksMove s input brought acks

-- the messages of the log among outputs
abbrev pub logged_as : NodeId → Message → List (NodeId × RaftMessage Change) → List (NodeId × RaftMessage Change)
logged_as to (message.Raft m) rest = (to, m) ∷ rest
logged_as to (message.Say contract ack) rest = rest
logged_as to (message.Stream stream) rest = rest
logged_as to (message.Got got) rest = rest

abbrev pub logged : List Output → List (NodeId × RaftMessage Change)
logged [] = []
logged (output.Message to m ∷ outs) = logged_as to m (logged outs)
logged (output.Dispatched op key branch at ∷ outs) = logged outs
logged (output.Viewed first results ∷ outs) = logged outs
logged (output.Answer op outcome ∷ outs) = logged outs

-- ---- acks of contracts

-- what a node says of a contract of a table, by the part that it has in it
pub data SaysUnder (s : NodeState) (t : Table) (c : Contract) (ack : Ack) : Type 0 where
  NeedsPrimary : c.primary ≡ None → ack ≡ NeedPrimary (mask_map same_version c.region s.versions) → SaysUnder s t c ack
  Asks : (h : Holder) (a : Asking) → c.primary ≡ Some h → (h.server.0 == s.me.0) ≡ true → IsIn s.asking a → is_asking_under c a ≡ true
      → ack ≡ needs_branch a (current_of t) s.versions → SaysUnder s t c ack
  Writes : (h : Holder) (x : Execution) → c.primary ≡ Some h → (h.server.0 == s.me.0) ≡ true → IsIn s.executions x → is_run_under c x ≡ true
      → ack ≡ said x → SaysUnder s t c ack
  Waits : (h : Holder) (w : Waiting) → c.primary ≡ Some h → (h.server.0 == s.me.0) ≡ false → IsIn s.waiting w → is_waiting_under c h.server w ≡ true
      → ack ≡ Backfilling → SaysUnder s t c ack
  Follows : (h : Holder) (f : Following) → c.primary ≡ Some h → (h.server.0 == s.me.0) ≡ false → IsIn s.followings f → is_following_under c h.server f ≡ true
      → ack ≡ Streaming → SaysUnder s t c ack

-- a tick tells the leader that the log knows then how far the node is under a contract of the table of before
pub record SendsSay (s : NodeState) (input : Input) (log : LogState) (to : NodeId) (contract : Id) (ack : Ack) : Type 0 where
  pub ticks : input ≡ Tick
  pub leader : log.raft.votes.leader ≡ Some to
  pub c : Contract
  pub is_in : IsIn (table_of log).contracts c
  pub contract_is : contract ≡ c.id
  pub replica : has c.replicas s.me.0 ≡ true
  pub says : SaysUnder s (table_of log) c ack

-- ---- streams

-- a request sends each session of its execution that has room the next part: the operation at its timestamp
pub record SendsStream (s : NodeState) (input : Input) (to : NodeId) (stream : Stream) : Type 0 where
  pub op : OpId
  pub key : List ℕ
  pub what : Op
  pub asked : input ≡ Request op key what
  pub x : Execution
  pub serving : IsServing s.setup.hashes key s.executions x
  pub session : Session
  pub is_in : IsIn x.sessions session
  pub room : has_room session ≡ true
  pub to_is : to ≡ session.server
  pub stream_is : stream ≡ record { session = session.name; number = session.sent + 1; part = part_of (value_of s.rows key) (x.last + 1) key what }

-- why a secondary tells where it stands
pub data Acknowledges (s : NodeState) (input : Input) (brought : Option Brought) (f : Following) : Type 0 where
  AtTick : input ≡ Tick → IsIn s.followings f → Acknowledges s input brought f
  -- a part of its stream came, which it applied or had already
  OfPart : (from : NodeId) (stream : Stream) → brought ≡ Some (record { from = from; message = message.Stream stream }) → is_ours f from stream ≡ true
      → Acknowledges s input brought f

-- it tells its primary where it stands after the step, with the view of before
pub record SendsGot (s : NodeState) (input : Input) (brought : Option Brought) (followings : List Following) (to : NodeId) (got : Got) : Type 0 where
  pub f : Following
  pub is_in : IsIn followings f
  pub to_is : to ≡ f.primary
  pub got_is : got ≡ record { session = f.session; upto = f.got; stands = Some f.position; view = s.log.acted }
  pub why : Acknowledges s input brought f

-- ---- each message

-- a message that is none of the log, where the row leaves this log and these followings
abbrev pub SendsBeside : NodeState → Input → Option Brought → LogState → List Following → NodeId → Message → Type 0
SendsBeside s input brought log followings to (message.Raft m) = ⊥
SendsBeside s input brought log followings to (message.Say contract ack) = SendsSay s input log to contract ack
SendsBeside s input brought log followings to (message.Stream stream) = SendsStream s input to stream
SendsBeside s input brought log followings to (message.Got got) = SendsGot s input brought followings to got

-- one of the log is among those for which the log moved
pub record SendsLog (s : NodeState) (input : Input) (brought : Option Brought) (log : LogState) (to : NodeId) (m : RaftMessage Change) : Type 0 where
  pub sent : List (NodeId × RaftMessage Change)
  pub moves : LogMoves s input brought log sent
  pub is_in : IsIn sent (to, m)

abbrev pub SendsFrom : NodeState → Input → Option Brought → LogState → List Following → NodeId → Message → Type 0
SendsFrom s input brought log followings to (message.Raft m) = SendsLog s input brought log to m
SendsFrom s input brought log followings to (message.Say contract ack) = SendsSay s input log to contract ack
SendsFrom s input brought log followings to (message.Stream stream) = SendsStream s input to stream
SendsFrom s input brought log followings to (message.Got got) = SendsGot s input brought followings to got

-- the log of a step before it acted on what was committed: the view is the old one
abbrev pub unacted : NodeState → NodeState → LogState
unacted s t = record t.log { acted = s.log.acted }

-- where a message of the step from s to t comes from
abbrev pub Sends : NodeState → Input → Option Brought → NodeState → NodeId → Message → Type 0
Sends s input brought t to m = SendsFrom s input brought (unacted s t) t.followings to m

-- what a step does to the log: its row, and then it acts on all that was committed
pub record StepLogs (s : NodeState) (input : Input) (brought : Option Brought) (t : NodeState) (outs : List Output) : Type 0 where
  pub moves : LogMoves s input brought (unacted s t) (logged outs)
  pub acts : t.log.acted ≡ t.log.raft.view
  pub acks : AcksMove s input brought t.acks
