-- What a node says at a tick of the contracts of which it is a replica.
use Rattle.std.specs.Prelude.{ℕ, ◌==◌, Bool, ◌&&◌, List, [], ◌∷◌, ◌++◌, Option, Some, None, if◌then◌else◌}
use Rattle.std.specs.List.{flat_map, list_any}
use Rattle.region_map.specs.declared.id.Id.{Id}
use Rattle.region_map.specs.declared.id.NodeId.{NodeId}
use Rattle.region_map.specs.Maps.{Pieced}
use Rattle.region_map.specs.Made.{mask_map}
use Rattle.region_map.specs.Nodes.{has}
use Rattle.region_map.specs.Equal.{same_id}
use Rattle.branch_history.specs.declared.version.Version.{Version}
use Rattle.branch_history.specs.Equal.{same_version}
use Rattle.contract_types.specs.declared.ack.Ack.{Ack}
use Rattle.contract_types.specs.declared.ack.Ack.TheVariants.{NeedPrimary, Backfilling, Streaming}
use Rattle.contract_types.specs.declared.contract.Contract.{Contract}
use Rattle.contract_types.specs.declared.contract.Holder.{Holder}
use Rattle.table_apply.specs.Conditions.{same_regions}
use Rattle.exec_types.specs.declared.message.Message.TheVariants as message
use Rattle.exec_types.specs.declared.output.Output.{Output}
use Rattle.exec_types.specs.declared.output.Output.TheVariants.{Message}
use Rattle.primary_exec.specs.declared.asking.Asking.{Asking}
use Rattle.primary_exec.specs.Execution.{Execution, needs_branch, said}
use Rattle.secondary_exec.specs.declared.following.Following.{Following}
use Rattle.secondary_exec.specs.declared.waiting.Waiting.{Waiting}
use Rattle.secondary_exec.specs.Stream.{acknowledgement}

-- ---- whose part a contract is

abbrev pub is_asking_under : Contract → Asking → Bool
is_asking_under c a = same_id a.contract.id c.id

abbrev pub is_run_under : Contract → Execution → Bool
is_run_under c x = same_id x.contract.id c.id

-- it waits for this primary to let it join, in the contract's region and tenure
abbrev pub is_waiting_under : Contract → NodeId → Waiting → Bool
is_waiting_under c primary w = (w.primary.0 == primary.0) && same_regions w.region c.region && (w.tenure == c.tenure)

-- it follows this primary in the contract's region
abbrev pub is_following_under : Contract → NodeId → Following → Bool
is_following_under c primary f = (f.primary.0 == primary.0) && same_regions f.region c.region

-- ---- acks

abbrev pub or_ack : Option Ack → Option Ack → Option Ack
or_ack None later = later
or_ack (Some ack) later = Some ack

-- a primary that waits for its branch names it, with the current branches and its own versions of the region
abbrev pub asking_ack : Contract → Pieced Id → Pieced Version → List Asking → Option Ack
asking_ack c current versions [] = None
asking_ack c current versions (a ∷ rest) =
    if is_asking_under c a then Some (needs_branch a current versions) else asking_ack c current versions rest

abbrev pub execution_ack : Contract → List Execution → Option Ack
execution_ack c [] = None
execution_ack c (x ∷ xs) = if is_run_under c x then Some (said x) else execution_ack c xs

abbrev pub waiting_ack : Contract → NodeId → List Waiting → Option Ack
waiting_ack c primary ws = if list_any (is_waiting_under c primary) ws then Some Backfilling else None

abbrev pub following_ack : Contract → NodeId → List Following → Option Ack
following_ack c primary fs = if list_any (is_following_under c primary) fs then Some Streaming else None

-- what a node keeps of its contracts, and by which it says how far it is
pub record Roles : Type 0 where
  pub asking : List Asking
  pub executions : List Execution
  pub waiting : List Waiting
  pub followings : List Following

abbrev pub ack_under : NodeId → Pieced Id → Pieced Version → Roles → Contract → Option Holder → Option Ack
ack_under me current versions r c None = Some (NeedPrimary (mask_map same_version c.region versions))
ack_under me current versions r c (Some h) =
    if h.server.0 == me.0 then or_ack (asking_ack c current versions r.asking) (execution_ack c r.executions)
    else or_ack (waiting_ack c h.server r.waiting) (following_ack c h.server r.followings)

-- ---- what is sent

abbrev pub says : NodeId → Contract → Option Ack → List Output
says leader c None = []
says leader c (Some ack) = Message leader (message.Say c.id ack) ∷ []

-- to the leader, where one is known
abbrev pub says_to : Option NodeId → Contract → Option Ack → List Output
says_to None c ack = []
says_to (Some leader) c ack = says leader c ack

-- a secondary that joined tells its primary how far it came
abbrev pub acknowledgements_to : Contract → NodeId → ℕ → List Following → List Output
acknowledgements_to c primary view [] = []
acknowledgements_to c primary view (f ∷ fs) =
    if is_following_under c primary f then acknowledgement f view ∷ acknowledgements_to c primary view fs
    else acknowledgements_to c primary view fs

abbrev pub acknowledges : Contract → ℕ → List Following → Option Holder → List Output
acknowledges c view fs None = []
acknowledges c view fs (Some h) = acknowledgements_to c h.server view fs

abbrev pub says_under : NodeId → Option NodeId → Pieced Id → Pieced Version → ℕ → Roles → Contract → List Output
says_under me leader current versions view r c =
    if has c.replicas me.0
    then says_to leader c (ack_under me current versions r c c.primary) ++ acknowledges c view r.followings c.primary
    else []

-- of each contract of which it is a replica, in table order
abbrev pub says_all : NodeId → Option NodeId → Pieced Id → Pieced Version → ℕ → Roles → List Contract → List Output
says_all me leader current versions view r contracts = flat_map (says_under me leader current versions view r) contracts
