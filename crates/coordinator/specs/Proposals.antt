-- What a leader proposes by the last acks, and which of them it forgets then.
use Rattle.std.specs.Prelude.{Bool, ◌&&◌, not, List, [], ◌∷◌, ◌++◌, map, filter}
use Rattle.std.specs.List.{list_any}
use Rattle.region_map.specs.declared.id.Id.{Id}
use Rattle.region_map.specs.Equal.{same_id}
use Rattle.contract_types.specs.declared.ack.ServerAck.{ServerAck}
use Rattle.contract_types.specs.declared.change.Change.{Change}
use Rattle.contract_types.specs.declared.contract.Contract.{Contract}
use Rattle.contract_types.specs.Tables.{Table}
use Rattle.contract_plan.specs.declared.plans.Plan.{Plan}
use Rattle.contract_plan.specs.declared.plans.Plan.TheVariants.{Keep, Propose}
use Rattle.contract_plan.specs.Plans.{plan_of, rests_on}
use Rattle.coordinator.specs.declared.acks.ContractAcks.{ContractAcks}
use Rattle.coordinator.specs.Acks.{ack_of}

abbrev pub proposed : Plan → List Change
proposed Keep = []
proposed (Propose change) = change ∷ []

-- what is proposed for these contracts, in their order
abbrev pub changes_for : List ContractAcks → Table → List Contract → List Change
changes_for acks t [] = []
changes_for acks t (c ∷ cs) = proposed (plan_of c t (ack_of acks c.id)) ++ changes_for acks t cs

-- what is proposed for the contracts of a table, in table order
abbrev pub proposals_of : List ContractAcks → Table → List Change
proposals_of acks t = changes_for acks t t.contracts

-- whether the plan for a contract of the table rests on an ack under this id
abbrev pub is_used : Table → Id → ServerAck → Bool
is_used t contract ack = list_any (λ c. same_id c.id contract && rests_on c t.history ack.server ack.ack) t.contracts

abbrev pub without_used : Table → ContractAcks → ContractAcks
without_used t c = record c { acks = filter (λ a. not (is_used t c.contract a)) c.acks }

-- the acks once the plans are proposed: those that the plans rest on are forgotten
abbrev pub after_proposals : List ContractAcks → Table → List ContractAcks
after_proposals acks t = map (without_used t) acks
