-- The last acks of servers, contract by contract.
use Rattle.std.specs.Prelude.{◌==◌, Bool, List, [], ◌∷◌, Option, if◌then◌else◌}
use Rattle.region_map.specs.declared.id.Id.{Id}
use Rattle.region_map.specs.declared.id.NodeId.{NodeId}
use Rattle.region_map.specs.Equal.{same_id}
use Rattle.contract_types.specs.declared.ack.Ack.{Ack}
use Rattle.contract_types.specs.declared.ack.ServerAck.{ServerAck}
use Rattle.contract_plan.specs.Plans.{ack_in}
use Rattle.coordinator.specs.declared.acks.ContractAcks.{ContractAcks}

-- a list with the first member that passes changed, or else with one more behind the others
abbrev pub put : {X : Type 0} → (X → Bool) → (X → X) → X → List X → List X
put passes change new [] = new ∷ []
put passes change new (x ∷ xs) = if passes x then change x ∷ xs else x ∷ put passes change new xs

-- the acks of a contract after a server sent one
abbrev pub with_server_ack : NodeId → Ack → List ServerAck → List ServerAck
with_server_ack server ack acks = put (λ a. a.server.0 == server.0) (λ a. record a { ack = ack }) (record { server = server; ack = ack }) acks

-- the acks after a server sent one under a contract's id
abbrev pub with_ack : Id → NodeId → Ack → List ContractAcks → List ContractAcks
with_ack contract server ack acks =
    put (λ c. same_id c.contract contract) (λ c. record c { acks = with_server_ack server ack c.acks })
    (record { contract = contract; acks = record { server = server; ack = ack } ∷ [] }) acks

-- the acks under a contract's id
abbrev pub acks_under : List ContractAcks → Id → List ServerAck
acks_under [] contract = []
acks_under (c ∷ rest) contract = if same_id c.contract contract then c.acks else acks_under rest contract

-- the last ack that a server sent under a contract's id
abbrev pub ack_of : List ContractAcks → Id → NodeId → Option Ack
ack_of acks contract server = ack_in (acks_under acks contract) server
