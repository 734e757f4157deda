-- A primary's execution of a contract, and its rows.
use Rattle.std.specs.Prelude.{◌≡◌, ℕ, ◌==◌, ◌+◌, ◌-◌, ◌^◌, ◌<◌, Bool, true, false, ◌&&◌, ◌||◌, nat_lt, nat_le, max, min, List, [], ◌∷◌, ◌++◌, map, filter, Option, Some, None, if◌then◌else◌}
use Rattle.std.specs.List.{All, list_any}
use Rattle.region_map.specs.declared.id.NodeId.{NodeId}
use Rattle.region_map.specs.declared.id.Id.{Id}
use Rattle.region_map.specs.Equal.{same_id}
use Rattle.region_map.specs.Maps.{Pieced}
use Rattle.region_map.specs.Made.{mask_map}
use Rattle.region_map.specs.Nodes.{node_id}
use Rattle.branch_history.specs.declared.version.Version.{Version}
use Rattle.branch_history.specs.Equal.{same_version}
use Rattle.register_laws.specs.declared.operation.OpId.{OpId}
use Rattle.register_laws.specs.declared.operation.Op.{Op}
use Rattle.register_laws.specs.declared.operation.Reply.TheVariants.{Was}
use Rattle.register_laws.specs.Register.{reply_of, state_after, writes}
use Rattle.contract_types.specs.declared.contract.Contract.{Contract}
use Rattle.contract_types.specs.declared.contract.Holder.{Holder}
use Rattle.contract_types.specs.declared.ack.Ack.{Ack}
use Rattle.contract_types.specs.declared.ack.Ack.TheVariants.{NeedBranch, InProgress, Ready}
use Rattle.contract_types.specs.Tables.{setup_id}
use Rattle.exec_types.specs.declared.message.SessionName.{SessionName}
use Rattle.exec_types.specs.declared.message.Got.{Got}
use Rattle.exec_types.specs.declared.message.Part.{Part}
use Rattle.exec_types.specs.declared.message.Part.TheVariants.{Write, Sync}
use Rattle.exec_types.specs.declared.message.Message.TheVariants as message
use Rattle.exec_types.specs.declared.outcome.Outcome.TheVariants.{Done, NoMajority}
use Rattle.exec_types.specs.declared.output.Output.{Output}
use Rattle.exec_types.specs.declared.output.Output.TheVariants.{Message, Dispatched, Answer}
use Rattle.exec_types.specs.Parts.{effect_of}
use Rattle.exec_types.specs.Sessions.{same_session, setup_session_name}
use Rattle.store_api.specs.Rows.{Rows, value_of}
use Rattle.store_api.specs.Versions.{point, advanced_rows, advanced_map, replaced_map}
use Rattle.write_dispatch.specs.declared.decided.Decided.{Decided}
use Rattle.write_dispatch.specs.Dispatch.{DispatchState, Acks, no_acks, with_pending, with_ack, all_below, is_counted, counts_of, is_decided, pending_of, without_op}
use Rattle.primary_exec.specs.declared.asking.Asking.{Asking}
use Rattle.primary_exec.specs.declared.session.Session.{Session}

-- a started execution: its contract, the branch that it writes, the last timestamp that it took, what is
-- pending with the kept acks, its sessions in rising servers, the timestamp of the sync that it made under the
-- contract, and whether that sync was decided
pub record Execution : Type 0 where
  pub contract : Contract
  pub me : NodeId
  pub branch : Id
  pub last : ℕ
  pub dispatch : DispatchState
  pub sessions : List Session
  pub sync : Option ℕ
  pub ready : Bool

-- an execution after its row, the rows and the versions of its node, and what it gave
pub record PrimaryStep : Type 0 where
  pub execution : Execution
  pub rows : Rows
  pub versions : Pieced Version
  pub outs : List Output

-- no timestamp and no number of a part reaches the end of the numbers, and what waits took its timestamp already
pub record IsSound (last : ℕ) (waiting : List Decided) (sessions : List Session) : Type 0 where
  pub numbers : last < 2 ^ 62
  pub waiting_below : all_below (last + 1) waiting ≡ true
  pub parts : All (λ (s : Session). s.sent < 2 ^ 62) sessions

-- a secondary that has part 1 of its session, and stands at timestamp 0
abbrev pub joined : Execution → NodeId → SessionName → Execution
joined x server name =
    record x {
      sessions = x.sessions ++ record { server = server; name = name; sent = 1; acked = 1 } ∷ [];
      dispatch = record x.dispatch { acks = with_ack x.dispatch.acks server.0 0 0 };
    }

-- an execution that has taken no timestamp and has no sessions; with a setup it needs no sync
abbrev pub begun : Contract → NodeId → Id → Execution
begun contract me branch =
    record { contract = contract; me = me; branch = branch; last = 0; dispatch = record { waiting = []; acks = no_acks }; sessions = []; sync = None; ready = true }

-- the other servers join, in the shard of a place
abbrev pub join_all : ℕ → Execution → List ℕ → Execution
join_all place x [] = x
join_all place x (n ∷ ns) = join_all place (if n == x.me.0 then x else joined x (node_id n) (setup_session_name place x.me (node_id n))) ns

-- what a primary begins with, in the shard of a place
abbrev pub setup_execution : Contract → NodeId → ℕ → Execution
setup_execution contract me place = join_all place (begun contract me (setup_id place me)) contract.replicas

-- ---- dispatch

-- a session with this many unacknowledged parts ends in place of one more
abbrev pub most_unacked : ℕ
most_unacked = 1024

abbrev pub has_room : Session → Bool
has_room session = nat_lt (session.sent - session.acked) most_unacked

abbrev pub with_sent : Session → Session
with_sent session = record session { sent = session.sent + 1 }

-- the next part of a session
abbrev pub sends : Part → Session → Output
sends part session = Message session.server (message.Stream (record { session = session.name; number = session.sent + 1; part = part }))

-- what the secondaries are sent of an operation at a timestamp on the state before it
abbrev pub part_of : Option (List ℕ) → ℕ → List ℕ → Op → Part
part_of before at key what =
    if writes before what then Write at key (record { value = state_after before what; recency = at }) else Sync at

-- an operation takes the next timestamp: the region comes to it in the primary's own store, the secondaries are
-- told, and it is pending with the register's reply
abbrev pub dispatch_row : Execution → Rows → Pieced Version → OpId → List ℕ → Op → PrimaryStep
dispatch_row x rows versions op key what =
    record {
      execution =
          record x {
            last = x.last + 1;
            dispatch = with_pending x.dispatch (Some op) (x.last + 1) (reply_of (value_of rows key) what);
            sessions = map with_sent (filter has_room x.sessions);
          };
      rows = advanced_rows (effect_of (part_of (value_of rows key) (x.last + 1) key what)) x.contract.region x.branch (x.last + 1) versions rows;
      versions = advanced_map x.contract.region x.branch (x.last + 1) versions;
      outs =
          map (sends (part_of (value_of rows key) (x.last + 1) key what)) (filter has_room x.sessions)
          ++ Dispatched op key x.branch (x.last + 1) ∷ [];
    }

-- the next part of a session that has room would have a number that no part reaches
abbrev pub parts_end_numbers : List Session → Bool
parts_end_numbers sessions = list_any (λ s. has_room s && nat_le (2 ^ 62) (s.sent + 1)) sessions

-- the timestamp or the number of a part would be one that none reaches
abbrev pub dispatch_ends_numbers : Execution → Bool
dispatch_ends_numbers x = nat_le (2 ^ 62) (x.last + 1) || parts_end_numbers x.sessions

-- ---- asking for a branch, and starting it

-- what a primary says while it waits for its branch to be registered: the branch, the branches that it knows as the
-- current ones of its region, and its own versions there
abbrev pub needs_branch : Asking → Pieced Id → Pieced Version → Ack
needs_branch a current versions =
    NeedBranch a.branch (mask_map same_id a.contract.region current) (mask_map same_version a.contract.region versions)

-- what it says once it is started
abbrev pub said : Execution → Ack
said x = if x.ready then Ready else InProgress

-- the branch begins at a timestamp, and a first sync takes the next one
abbrev pub started : Asking → NodeId → ℕ → Execution
started a me initial =
    record {
      contract = a.contract;
      me = me;
      branch = a.branch;
      last = initial + 1;
      dispatch = record { waiting = record { op = None; at = initial + 1; reply = Was None } ∷ []; acks = no_acks };
      sessions = [];
      sync = Some (initial + 1);
      ready = false;
    }

-- the region goes over to the branch, and comes to the sync
abbrev pub started_versions : Asking → ℕ → Pieced Version → Pieced Version
started_versions a initial versions =
    advanced_map a.contract.region a.branch (initial + 1) (replaced_map a.contract.region (point a.branch initial) versions)

abbrev pub start_ends_numbers : ℕ → Bool
start_ends_numbers initial = nat_le (2 ^ 62) (initial + 1)

-- ---- acknowledgements

-- whether this is the live session with that server
abbrev pub is_session : NodeId → SessionName → Session → Bool
is_session from name session = (session.server.0 == from.0) && same_session session.name name

abbrev pub is_any_session : NodeId → SessionName → List Session → Bool
is_any_session from name sessions = list_any (is_session from name) sessions

abbrev pub is_live : Execution → NodeId → SessionName → Bool
is_live x from name = is_any_session from name x.sessions

abbrev pub with_acked : NodeId → SessionName → ℕ → Session → Session
with_acked from name upto session =
    if is_session from name session then record session { acked = max session.acked (min upto session.sent) } else session

-- the acks after a server told where it stands, if it did
abbrev pub with_stands : DispatchState → NodeId → Got → Option ℕ → DispatchState
with_stands d from got None = d
with_stands d from got (Some at) = record d { acks = with_ack d.acks from.0 got.view at }

abbrev pub got_row : Execution → NodeId → Got → Execution
got_row x from got =
    if is_live x from got.session
    then record x { sessions = map (with_acked from got.session got.upto) x.sessions; dispatch = with_stands x.dispatch from got got.stands }
    else x

-- ---- answers

abbrev pub answers : Id → Decided → Option OpId → List Output
answers branch d None = []
answers branch d (Some op) = Answer op (Done d.reply branch d.at) ∷ []

-- whether a pending operation is decided under the contract in force
abbrev pub decides : Execution → Decided → Bool
decides x d = is_decided x.dispatch.acks x.contract x.me.0 d.at

-- the answers to the pending operations that are decided, in the order of their timestamps
abbrev pub answers_under : Acks → Contract → ℕ → Id → List Decided → List Output
answers_under acks contract me branch [] = []
answers_under acks contract me branch (d ∷ ds) =
    if is_decided acks contract me d.at then answers branch d d.op ++ answers_under acks contract me branch ds else []

-- what is pending once they are answered
abbrev pub undecided_under : Acks → Contract → ℕ → List Decided → List Decided
undecided_under acks contract me [] = []
undecided_under acks contract me (d ∷ ds) = if is_decided acks contract me d.at then undecided_under acks contract me ds else d ∷ ds

abbrev pub decided_answers : Execution → List Decided → List Output
decided_answers x ds = answers_under x.dispatch.acks x.contract x.me.0 x.branch ds

abbrev pub undecided : Execution → List Decided → List Decided
undecided x ds = undecided_under x.dispatch.acks x.contract x.me.0 ds

-- whether the sync under the contract is decided
abbrev pub is_synced : Execution → Option ℕ → Bool
is_synced x None = false
is_synced x (Some at) = is_decided x.dispatch.acks x.contract x.me.0 at

-- whether a server to which the region is handed over has all that was taken
abbrev pub is_handed : Execution → Option NodeId → Bool
is_handed x None = true
is_handed x (Some server) = is_counted x.dispatch.acks x.contract.since x.me.0 x.last server.0

abbrev pub hand_over_of : Option Holder → Option NodeId
hand_over_of None = None
hand_over_of (Some h) = h.hand_over

abbrev pub becomes_ready : Execution → Bool
becomes_ready x = is_synced x x.sync && is_handed x (hand_over_of x.contract.primary)

abbrev pub decided : Execution → Execution
decided x = record x { dispatch = record x.dispatch { waiting = undecided x x.dispatch.waiting }; ready = x.ready || becomes_ready x }

-- each pending operation that is decided is answered
abbrev pub decide_outs : Execution → List Output
decide_outs x = decided_answers x x.dispatch.waiting

-- ---- giving up

-- the answer to a pending operation that is given up: its counts, which are no majorities
abbrev pub given_up : Acks → Contract → ℕ → OpId → Option Decided → List Output
given_up acks c me op None = []
given_up acks c me op (Some d) = if is_decided acks c me d.at then [] else Answer op (NoMajority (counts_of acks c me d.at)) ∷ []

-- it is no longer pending; one that is decided is answered Done and not given up, but none is pending between steps
abbrev pub without_given_up : DispatchState → Contract → ℕ → OpId → Option Decided → DispatchState
without_given_up p c me op None = p
without_given_up p c me op (Some d) = if is_decided p.acks c me d.at then p else record p { waiting = without_op p.waiting op }

abbrev pub give_up_outs : Execution → OpId → List Output
give_up_outs x op = given_up x.dispatch.acks x.contract x.me.0 op (pending_of x.dispatch.waiting op)

abbrev pub give_up_row : Execution → OpId → Execution
give_up_row x op = record x { dispatch = without_given_up x.dispatch x.contract x.me.0 op (pending_of x.dispatch.waiting op) }
