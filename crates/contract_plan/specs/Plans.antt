-- What a leader plans for a contract, from the last acks that servers sent under it.
use Rattle.std.specs.Prelude.{◌==◌, Bool, false, ◌&&◌, not, List, [], ◌∷◌, Option, Some, None, if◌then◌else◌}
use Rattle.region_map.specs.declared.id.Id.{Id}
use Rattle.region_map.specs.declared.id.NodeId.{NodeId}
use Rattle.region_map.specs.Maps.{Pieced}
use Rattle.branch_history.specs.declared.version.Version.{Version}
use Rattle.branch_history.specs.Paths.{Branches}
use Rattle.branch_history.specs.Histories.{knows}
use Rattle.contract_types.specs.declared.ack.Ack.{Ack}
use Rattle.contract_types.specs.declared.ack.Ack.TheVariants.{NeedBranch, InProgress, Ready, NeedPrimary, Backfilling, Streaming}
use Rattle.contract_types.specs.declared.ack.ServerAck.{ServerAck}
use Rattle.contract_types.specs.declared.change.Change.TheVariants.{RegisterBranch}
use Rattle.contract_types.specs.declared.contract.Contract.{Contract}
use Rattle.contract_types.specs.declared.contract.Holder.{Holder}
use Rattle.contract_types.specs.Tables.{Table}
use Rattle.table_apply.specs.Conditions.{is_held_by}
use Rattle.contract_plan.specs.declared.plans.Plan.{Plan}
use Rattle.contract_plan.specs.declared.plans.Plan.TheVariants.{Keep, Propose}

-- the ack of a server: the first that stands there
abbrev pub ack_in : List ServerAck → NodeId → Option Ack
ack_in [] server = None
ack_in (a ∷ rest) server = if a.server.0 == server.0 then Some a.ack else ack_in rest server

-- ---- the one rule: a branch that a primary needs is registered

abbrev pub registers : Contract → NodeId → Branches → Id → Pieced Id → Pieced Version → Plan
registers c maker history branch based_on origin =
    if knows history branch then Keep else Propose (RegisterBranch branch c.region c.tenure maker based_on origin)

-- what is planned by the last ack of the primary
abbrev pub planned : Contract → NodeId → Branches → Option Ack → Plan
planned c maker history None = Keep
planned c maker history (Some (NeedBranch branch based_on origin)) = registers c maker history branch based_on origin
planned c maker history (Some InProgress) = Keep
planned c maker history (Some Ready) = Keep
planned c maker history (Some (NeedPrimary versions)) = Keep
planned c maker history (Some Backfilling) = Keep
planned c maker history (Some Streaming) = Keep

abbrev pub plan_under : Contract → Option Holder → Branches → (NodeId → Option Ack) → Plan
plan_under c None history acks = Keep
plan_under c (Some holder) history acks = planned c holder.server history (acks holder.server)

-- what is planned for a contract, by the last ack of each server under it
abbrev pub plan_of : Contract → Table → (NodeId → Option Ack) → Plan
plan_of c t acks = plan_under c c.primary t.history acks

-- ---- which ack a plan rests on

-- whether an ack asks for a branch that is not registered
abbrev pub wants_branch : Branches → Ack → Bool
wants_branch history (NeedBranch branch based_on origin) = not (knows history branch)
wants_branch history InProgress = false
wants_branch history Ready = false
wants_branch history (NeedPrimary versions) = false
wants_branch history Backfilling = false
wants_branch history Streaming = false

-- whether an ack that a server sent under the contract is the one that its plan rests on
abbrev pub rests_on : Contract → Branches → NodeId → Ack → Bool
rests_on c history server ack = is_held_by c.primary server && wants_branch history ack
