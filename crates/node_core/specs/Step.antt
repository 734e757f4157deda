-- The node machine: what a node begins with, and one step of it.
use Rattle.std.specs.Prelude.{ℕ, ◌+◌, ◌==◌, ◌^◌, Bool, true, false, not, ◌&&◌, ◌||◌, nat_lt, nat_le, List, [], ◌∷◌, ◌++◌, map, length, Option, Some, None, if◌then◌else◌}
use Rattle.std.specs.List.{list_any}
use Rattle.region_map.specs.declared.id.Id.{Id}
use Rattle.region_map.specs.declared.id.NodeId.{NodeId}
use Rattle.region_map.specs.Nodes.{node_id, has, with_member, without}
use Rattle.region_map.specs.Maps.{Pieced}
use Rattle.branch_history.specs.declared.version.Version.{Version}
use Rattle.register_laws.specs.declared.operation.OpId.{OpId}
use Rattle.register_laws.specs.declared.operation.Op.{Op}
use Rattle.raft_vote.specs.declared.message.RaftMessage.{RaftMessage}
use Rattle.raft_vote.specs.Rows.{alone, is_leader}
use Rattle.raft_node.specs.declared.input.RaftInput.TheVariants as raft
use Rattle.raft_node.specs.Rows.{is_full}
use Rattle.raft_node.specs.Rows.{ends_numbers as raft_ends_numbers}
use Rattle.contract_types.specs.Setup.{SetupState}
use Rattle.contract_types.specs.declared.ack.Ack.{Ack}
use Rattle.contract_types.specs.declared.ack.Ack.TheVariants.{NeedBranch, InProgress, Ready, NeedPrimary, Backfilling, Streaming}
use Rattle.contract_types.specs.declared.change.Change.{Change}
use Rattle.contract_types.specs.declared.config.ShardConfig.{ShardConfig}
use Rattle.contract_types.specs.declared.contract.Contract.{Contract}
use Rattle.contract_types.specs.declared.contract.Holder.{Holder}
use Rattle.contract_types.specs.declared.results.Viewed.{Viewed}
use Rattle.contract_types.specs.Tables.{Table, first_contract, first_id}
use Rattle.table_apply.specs.Conditions.{is_held_by}
use Rattle.table_log.specs.Fitting.{fits}
use Rattle.table_log.specs.Logs.{LogState, LogStepped, table_of, begun_log, restarted, may_take, log_step, with_proposed, caught_up, viewed}
use Rattle.coordinator.specs.declared.acks.ContractAcks.{ContractAcks}
use Rattle.coordinator.specs.Acks.{with_ack}
use Rattle.coordinator.specs.Proposals.{proposals_of, after_proposals}
use Rattle.exec_types.specs.declared.message.Message.{Message}
use Rattle.exec_types.specs.declared.message.Message.TheVariants as message
use Rattle.exec_types.specs.declared.message.Got.{Got}
use Rattle.exec_types.specs.declared.message.Stream.{Stream}
use Rattle.exec_types.specs.declared.input.Input.{Input}
use Rattle.exec_types.specs.declared.input.Input.TheVariants.{Request, GiveUp, See, Tick, Deliver, Crash, Restart}
use Rattle.exec_types.specs.declared.output.Output.{Output}
use Rattle.exec_types.specs.declared.output.Output.TheVariants as output
use Rattle.store_api.specs.Rows.{Rows}
use Rattle.store_api.specs.Versions.{point, replaced_map, zero_map}
use Rattle.secondary_exec.specs.declared.following.Following.{Following}
use Rattle.secondary_exec.specs.declared.waiting.Waiting.{Waiting}
use Rattle.secondary_exec.specs.Stream.{setup_following}
use Rattle.primary_exec.specs.declared.asking.Asking.{Asking}
use Rattle.primary_exec.specs.Execution.{Execution, setup_execution}
use Rattle.node_core.specs.declared.node.Brought.{Brought}
use Rattle.node_core.specs.Parts.{Requested, Streamed, is_for, request_all, requests_end_numbers, stream_all, streams_end_numbers, got_all, give_up_all, give_up_all_outs, decide_all, decide_all_outs}
use Rattle.node_core.specs.Starting.{Starting, current_of, start_each, starts_end_numbers}
use Rattle.node_core.specs.Saying.{Roles, says_all}

-- a node. It keeps its life, what its log keeps, its rows and the versions of all keys; a crash takes the rest: which
-- nodes it does not see, the counter of the next id, a leader's acks, and what its contracts give it, in table order:
-- as a primary what asks for a branch and the executions, as a secondary what waits to join and the followings
pub record NodeState : Type 0 where
  pub me : NodeId
  pub setup : SetupState
  pub up : Bool
  pub life : ℕ
  pub log : LogState
  pub unseen : List ℕ
  pub next : ℕ
  pub acks : List ContractAcks
  pub rows : Rows
  pub versions : Pieced Version
  pub asking : List Asking
  pub executions : List Execution
  pub waiting : List Waiting
  pub followings : List Following

-- ---- what a node begins with: of each shard its part, by the shard's place

-- a shard has the node as its primary
abbrev pub is_led : ℕ → ShardConfig → Bool
is_led n s = s.primary.0 == n

-- a shard has the node as a replica beside its primary
abbrev pub is_followed : ℕ → ShardConfig → Bool
is_followed n s = has s.replicas n && not (is_led n s)

-- the executions of the shards that have the node as their primary
abbrev pub executions_from : ℕ → ℕ → List ShardConfig → List Execution
executions_from n place [] = []
executions_from n place (s ∷ ss) =
    if is_led n s then setup_execution (first_contract place s) s.primary place ∷ executions_from n (place + 1) ss
    else executions_from n (place + 1) ss

-- the followings of the shards that have the node as a replica beside their primary
abbrev pub followings_from : ℕ → ℕ → List ShardConfig → List Following
followings_from n place [] = []
followings_from n place (s ∷ ss) =
    if is_followed n s then setup_following (first_contract place s) s.primary (node_id n) place ∷ followings_from n (place + 1) ss
    else followings_from n (place + 1) ss

-- a replica stands at the first branch of its shards, any other node at the zero version
abbrev pub versions_from : ℕ → ℕ → List ShardConfig → Pieced Version → Pieced Version
versions_from n place [] versions = versions
versions_from n place (s ∷ ss) versions =
    versions_from n (place + 1) ss (if has s.replicas n then replaced_map s.region (point (first_id place s) 0) versions else versions)

abbrev pub begin_node : SetupState → ℕ → NodeState
begin_node setup n =
    record {
      me = node_id n;
      setup = setup;
      up = true;
      life = 1;
      log = begun_log setup (node_id n);
      unseen = [];
      next = length setup.shards;
      acks = [];
      rows = [];
      versions = versions_from n 0 setup.shards (zero_map setup.hashes);
      asking = [];
      executions = executions_from n 0 setup.shards;
      waiting = [];
      followings = followings_from n 0 setup.shards;
    }

-- ---- one step: requests

-- a node after a step, and what it gave
pub record Stepped : Type 0 where
  pub node : NodeState
  pub outs : List Output

abbrev pub silent : NodeState → Stepped
silent s = record { node = s; outs = [] }

-- whether the node serves a key: the contract of the key names it primary, and its execution is started
abbrev pub serves : NodeState → List ℕ → Bool
serves s key = list_any (is_for s.setup.hashes key) s.executions

abbrev pub with_requested : NodeState → Requested → Stepped
with_requested s r = record { node = record s { executions = r.executions; rows = r.rows; versions = r.versions }; outs = r.outs }

abbrev pub with_streamed : NodeState → Streamed → Stepped
with_streamed s r = record { node = record s { followings = r.followings; rows = r.rows; versions = r.versions }; outs = r.outs }

-- a primary of the key dispatches the operation; any other node does not serve the key
abbrev pub request_row : NodeState → OpId → List ℕ → Op → Stepped
request_row s op key what = with_requested s (request_all s.setup.hashes s.executions s.rows s.versions op key what)

abbrev pub give_up : NodeState → OpId → Stepped
give_up s op = record { node = record s { executions = give_up_all s.executions op }; outs = give_up_all_outs s.executions op }

abbrev pub take_stream : NodeState → NodeId → Stream → Stepped
take_stream s from stream = with_streamed s (stream_all s.followings s.rows s.versions from stream s.log.acted)

abbrev pub take_got : NodeState → NodeId → Got → Stepped
take_got s from got = silent (record s { executions = got_all s.executions from got })

-- ---- which nodes it sees

-- a node always sees itself; one that is no node of the table is not heeded
abbrev pub unseen_after : NodeId → ℕ → NodeId → Bool → List ℕ → List ℕ
unseen_after me nodes other up unseen =
    if (other.0 == me.0) || not (nat_lt other.0 nodes) then unseen
    else if up then without unseen (alone other) else with_member unseen other.0

abbrev pub see_row : NodeState → NodeId → Bool → Stepped
see_row s other up = silent (record s { unseen = unseen_after s.me s.setup.nodes other up s.unseen })

-- ---- the log

abbrev pub leads : LogState → Bool
leads log = is_leader log.raft.votes.role

-- a node that comes to lead begins without acks, and one that does not lead keeps none
abbrev pub acks_after : LogState → LogState → List ContractAcks → List ContractAcks
acks_after before after acks = if leads before && leads after then acks else []

abbrev pub raft_outs : List (NodeId × RaftMessage Change) → List Output
raft_outs sent = map (λ m. output.Message m.0 (message.Raft m.1)) sent

abbrev pub with_log : NodeState → LogStepped → Stepped
with_log s r = record { node = record s { log = r.log; acks = acks_after s.log r.log s.acks }; outs = raft_outs r.sent }

abbrev pub take_raft : NodeState → NodeId → RaftMessage Change → Stepped
take_raft s from m = with_log s (log_step s.log (raft.Deliver from m))

-- a leader keeps the last ack of each server under each contract's id
abbrev pub take_say : NodeState → NodeId → Id → Ack → Stepped
take_say s from contract ack = silent (if leads s.log then record s { acks = with_ack contract from ack s.acks } else s)

-- ---- ticks

-- a change with maps of another number of hashes, which no run has, is not proposed, and none where the log is full
abbrev pub propose_one : LogState → Change → LogState
propose_one log change = if fits log.config.hashes change && not (is_full log.raft.log) then with_proposed log change else log

abbrev pub propose_all : LogState → List Change → LogState
propose_all log [] = log
propose_all log (c ∷ cs) = propose_all (propose_one log c) cs

-- a leader that acts on all of its log
abbrev pub coordinates : LogState → Bool
coordinates log = leads log && (log.raft.view == length log.raft.log)

-- such a leader proposes what is planned by its acks
abbrev pub with_proposals : NodeState → NodeState
with_proposals s =
    if coordinates s.log
    then record s { log = propose_all s.log (proposals_of s.acks (table_of s.log)); acks = after_proposals s.acks (table_of s.log) }
    else s

abbrev pub roles_of : NodeState → Roles
roles_of s = record { asking = s.asking; executions = s.executions; waiting = s.waiting; followings = s.followings }

-- what it says of its contracts, as the table stood before the step
abbrev pub says_now : NodeState → List Output
says_now s =
    says_all s.me s.log.raft.votes.leader (current_of (table_of s.log)) s.versions s.log.acted (roles_of s) (table_of s.log).contracts

abbrev pub with_said : Stepped → Stepped
with_said step = record step { outs = step.outs ++ says_now step.node }

-- a leader proposes; the log ticks; then the node says how far it is under its contracts
abbrev pub tick_log : NodeState → Stepped
tick_log s = with_log s (log_step s.log (raft.Tick s.unseen))

abbrev pub tick_row : NodeState → Stepped
tick_row s = with_said (tick_log (with_proposals s))

-- ---- crashes and restarts

-- only what a node keeps is left
abbrev pub crash_row : NodeState → Stepped
crash_row s =
    silent (record s { up = false; log = restarted s.log; unseen = []; next = 0; acks = []; asking = []; executions = []; waiting = []; followings = [] })

abbrev pub id_in : NodeId → ℕ → ℕ → Id
id_in me life counter = record { node = me; life = life; counter = counter }

-- a primary asks for a branch of its own in each of its contracts
abbrev pub askings_from : NodeId → ℕ → ℕ → List Contract → List Asking
askings_from me life next [] = []
askings_from me life next (c ∷ cs) =
    if is_held_by c.primary me then record { contract = c; branch = id_in me life next } ∷ askings_from me life (next + 1) cs
    else askings_from me life next cs

-- the primary, where it is another one, of a contract that has the node as a replica
abbrev pub primary_followed : NodeId → Contract → Option Holder → Option NodeId
primary_followed me c None = None
primary_followed me c (Some h) = if has c.replicas me.0 && not (h.server.0 == me.0) then Some h.server else None

abbrev pub waiting_with : NodeId → ℕ → ℕ → Contract → Option NodeId → (ℕ → List Waiting) → List Waiting
waiting_with me life next c None rest = rest next
waiting_with me life next c (Some primary) rest =
    record { primary = primary; region = c.region; tenure = c.tenure; asked = id_in me life next } ∷ rest (next + 1)

-- a secondary waits for its primary to let it join
abbrev pub waitings_from : NodeId → ℕ → ℕ → List Contract → List Waiting
waitings_from me life next [] = []
waitings_from me life next (c ∷ cs) = waiting_with me life next c (primary_followed me c c.primary) (λ n. waitings_from me life n cs)

-- how many ids a node makes as it comes up
abbrev pub roles_count : NodeId → ℕ → List Contract → ℕ
roles_count me life cs = length (askings_from me life 0 cs) + length (waitings_from me life (length (askings_from me life 0 cs)) cs)

abbrev pub with_roles : NodeState → ℕ → List Contract → NodeState
with_roles s life cs =
    record s {
      life = life;
      next = roles_count s.me life cs;
      asking = askings_from s.me life 0 cs;
      waiting = waitings_from s.me life (length (askings_from s.me life 0 cs)) cs;
    }

-- the next life begins with what the node kept
abbrev pub restart_row : NodeState → Stepped
restart_row s =
    silent (with_roles (record s { up = true; log = restarted s.log; unseen = []; acks = []; executions = []; followings = [] }) (s.life + 1) (table_of s.log).contracts)

-- ---- messages

abbrev pub message_row : NodeState → NodeId → Message → Stepped
message_row s from (message.Raft m) = take_raft s from m
message_row s from (message.Say contract ack) = take_say s from contract ack
message_row s from (message.Stream stream) = take_stream s from stream
message_row s from (message.Got got) = take_got s from got

-- the maps of an ack have as many hashes as the table
abbrev pub ack_fits : ℕ → Ack → Bool
ack_fits hashes (NeedBranch branch based_on origin) = (based_on.hashes == hashes) && (origin.hashes == hashes)
ack_fits hashes InProgress = true
ack_fits hashes Ready = true
ack_fits hashes (NeedPrimary versions) = versions.hashes == hashes
ack_fits hashes Backfilling = true
ack_fits hashes Streaming = true

abbrev pub message_fits : NodeState → NodeId → Message → Bool
message_fits s from (message.Raft m) = may_take s.log (raft.Deliver from m)
message_fits s from (message.Say contract ack) = ack_fits s.setup.hashes ack
message_fits s from (message.Stream stream) = true
message_fits s from (message.Got got) = true

-- the sender of a message is a node of the table, and the message fits the table and the log; one that is not well
-- formed, which no run has, does nothing
abbrev pub is_well_formed : NodeState → Brought → Bool
is_well_formed s b = nat_lt b.from.0 s.setup.nodes && message_fits s b.from b.message

abbrev pub brought_row : NodeState → Option Brought → Stepped
brought_row s None = silent s
brought_row s (Some b) = if is_well_formed s b then message_row s b.from b.message else silent s

-- ---- a step

-- the row of the input
abbrev pub input_row : NodeState → Input → Option Brought → Stepped
input_row s (Request op key what) brought = request_row s op key what
input_row s (GiveUp op) brought = give_up s op
input_row s (See other up) brought = see_row s other up
input_row s Tick brought = tick_row s
input_row s (Deliver number) brought = brought_row s brought
input_row s Crash brought = crash_row s
input_row s Restart brought = restart_row s

abbrev pub with_starting : NodeState → Starting → NodeState
with_starting s r = record s { asking = r.asking; executions = r.executions; versions = r.versions }

-- each primary that waits for its branch starts, where that is current now
abbrev pub with_started : NodeState → NodeState
with_started s =
    with_starting s (start_each s.me (table_of s.log) s.asking (record { asking = []; executions = s.executions; versions = s.versions }))

-- the node acts on what was committed
abbrev pub act_on : Stepped → Option Viewed → Stepped
act_on step None = step
act_on step (Some v) =
    record {
      node = with_started (record step.node { log = caught_up step.node.log });
      outs = step.outs ++ output.Viewed v.first v.results ∷ [];
    }

abbrev pub act : Stepped → Stepped
act step = act_on step (viewed step.node.log)

-- each pending operation that is decided is answered
abbrev pub decide_step : Stepped → Stepped
decide_step step =
    record {
      node = record step.node { executions = decide_all step.node.executions };
      outs = step.outs ++ decide_all_outs step.node.executions;
    }

abbrev pub end_step : Stepped → Stepped
end_step step = decide_step (act step)

-- the row of the input; then the node acts on what was committed, and each pending operation that is decided is
-- answered
abbrev pub node_step : NodeState → Input → Option Brought → Stepped
node_step s input brought = end_step (input_row s input brought)

-- ---- where there is no step

abbrev pub message_ends_numbers : NodeState → NodeId → Message → Bool
message_ends_numbers s from (message.Raft m) = raft_ends_numbers s.log.raft (raft.Deliver from m)
message_ends_numbers s from (message.Say contract ack) = false
message_ends_numbers s from (message.Stream stream) = streams_end_numbers s.followings from stream
message_ends_numbers s from (message.Got got) = false

abbrev pub brought_ends_numbers : NodeState → Option Brought → Bool
brought_ends_numbers s None = false
brought_ends_numbers s (Some b) = is_well_formed s b && message_ends_numbers s b.from b.message

-- the next life, or the counter of an id, would be a number that none reaches
abbrev pub restart_ends_numbers : NodeState → Bool
restart_ends_numbers s =
    nat_le (2 ^ 62) (s.life + 1) || nat_le (2 ^ 62) (roles_count s.me (s.life + 1) (table_of s.log).contracts)

abbrev pub tick_ends_numbers : NodeState → Bool
tick_ends_numbers s = raft_ends_numbers (with_proposals s).log.raft (raft.Tick s.unseen)

abbrev pub row_ends_numbers : NodeState → Input → Option Brought → Bool
row_ends_numbers s (Request op key what) brought = requests_end_numbers s.setup.hashes s.executions key
row_ends_numbers s (GiveUp op) brought = false
row_ends_numbers s (See other up) brought = false
row_ends_numbers s Tick brought = tick_ends_numbers s
row_ends_numbers s (Deliver number) brought = brought_ends_numbers s brought
row_ends_numbers s Crash brought = false
row_ends_numbers s Restart brought = restart_ends_numbers s

-- an execution that starts would take a timestamp that none reaches
abbrev pub act_ends_numbers : NodeState → Option Viewed → Bool
act_ends_numbers s None = false
act_ends_numbers s (Some v) = starts_end_numbers (table_of (caught_up s.log)) s.asking

-- a number that the step makes by adding would be one that none reaches: there is no step
abbrev pub ends_numbers : NodeState → Input → Option Brought → Bool
ends_numbers s input brought =
    row_ends_numbers s input brought
    || act_ends_numbers (input_row s input brought).node (viewed (input_row s input brought).node.log)
