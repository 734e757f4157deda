-- What is read after an ack was put.
use Rattle.std.proofs.Common.{◌≡◌, ◌==◌, Bool, true, false, cond, ◌&&◌, List, [], ◌∷◌, Some, refl, sym, ap, ◌∙◌, subst}
use Rattle.std.proofs.lemmas.Bool.{both_ways, eqb-true, eq-eqb}
use Rattle.region_map.specs.declared.id.Id.{Id}
use Rattle.region_map.specs.declared.id.NodeId.{NodeId}
use Rattle.region_map.specs.Equal.{same_id}
use Rattle.branch_history.proofs.PathLaws.{id_same, id_self}
use Rattle.contract_types.specs.declared.ack.Ack.{Ack}
use Rattle.contract_types.specs.declared.ack.ServerAck.{ServerAck}
use Rattle.contract_plan.specs.Plans.{ack_in}
use Rattle.coordinator.specs.declared.acks.ContractAcks.{ContractAcks}
use Rattle.coordinator.specs.Acks.{with_server_ack, with_ack, acks_under, ack_of}

-- ---- choices of which at most one holds

same_choice : {X : Type 0} (b d : Bool) → b ≡ d → (x y z : X) → cond b x z ≡ cond d x (cond b y z)
same_choice true true e x y z = refl
same_choice true false e x y z = absurd (cc)
same_choice false true e x y z = absurd (cc)
same_choice false false e x y z = refl

other_choice : {X : Type 0} (b d : Bool) → (b ≡ true → d ≡ true → ⊥) → (x y z : X) → cond b y (cond d x z) ≡ cond d x (cond b y z)
other_choice true true e x y z = absurd (e refl refl)
other_choice true false e x y z = refl
other_choice false true e x y z = refl
other_choice false false e x y z = refl

same_change : {X : Type 0} (w : X → X) (b d : Bool) → b ≡ d → (y z : X) → cond b (w y) z ≡ cond d (w (cond b y z)) (cond b y z)
same_change w true true e y z = refl
same_change w true false e y z = absurd (cc)
same_change w false true e y z = absurd (cc)
same_change w false false e y z = refl

other_change : {X : Type 0} (w : X → X) (b d : Bool) → (b ≡ true → d ≡ true → ⊥) → (y z : X) → cond b y (cond d (w z) z) ≡ cond d (w (cond b y z)) (cond b y z)
other_change w true true e y z = absurd (e refl refl)
other_change w true false e y z = refl
other_change w false true e y z = refl
other_change w false false e y z = refl

-- ---- the acks of a contract

module _ (server : NodeId) (ack : Ack) (node : NodeId) where
  read_server : (acks : List ServerAck) → ack_in (with_server_ack server ack acks) node ≡ cond (server.0 == node.0) (Some ack) (ack_in acks node)
  read_server [] = refl
  read_server (a ∷ rest) =
      elim (a.server.0 == server.0) as (λ v. (a.server.0 == server.0) ≡ v
      → ack_in (cond v (record a { ack = ack } ∷ rest) (a ∷ with_server_ack server ack rest)) node ≡ cond (server.0 == node.0) (Some ack) (ack_in (a ∷ rest) node)) [
        | true ↦ λ e. same_choice (a.server.0 == node.0) (server.0 == node.0) (ap (λ n. n == node.0) (eqb-true a.server.0 server.0 e)) (Some ack) (Some a.ack) (ack_in rest node)
        | false ↦ λ e.
            let other : (a.server.0 == node.0) ≡ true → (server.0 == node.0) ≡ true → ⊥ =
            λ f g. both_ways (a.server.0 == server.0) e (eq-eqb a.server.0 server.0 (eqb-true a.server.0 node.0 f ∙ sym (eqb-true server.0 node.0 g))) in
            ap (cond (a.server.0 == node.0) (Some a.ack)) (read_server rest)
            ∙ other_choice (a.server.0 == node.0) (server.0 == node.0) other (Some ack) (Some a.ack) (ack_in rest node)
      ] refl

-- ---- the acks of all contracts

module _ (contract : Id) (server : NodeId) (ack : Ack) (id : Id) where
  read_under : (acks : List ContractAcks) → acks_under (with_ack contract server ack acks) id
      ≡ cond (same_id contract id) (with_server_ack server ack (acks_under acks id)) (acks_under acks id)
  read_under [] = refl
  read_under (c ∷ rest) =
      let w : List ServerAck → List ServerAck = with_server_ack server ack in
      elim (same_id c.contract contract) as (λ v. same_id c.contract contract ≡ v
      → acks_under (cond v (record c { acks = w c.acks } ∷ rest) (c ∷ with_ack contract server ack rest)) id
      ≡ cond (same_id contract id) (w (acks_under (c ∷ rest) id)) (acks_under (c ∷ rest) id)) [
        | true ↦ λ e. same_change w (same_id c.contract id) (same_id contract id) (ap (λ i. same_id i id) (id_same c.contract contract e)) c.acks (acks_under rest id)
        | false ↦ λ e.
            let other : same_id c.contract id ≡ true → same_id contract id ≡ true → ⊥ =
            λ f g. both_ways (same_id c.contract contract) e (subst (λ i. same_id c.contract i ≡ true) (id_same c.contract id f ∙ sym (id_same contract id g)) (id_self c.contract)) in
            ap (cond (same_id c.contract id) c.acks) (read_under rest)
            ∙ other_change w (same_id c.contract id) (same_id contract id) other c.acks (acks_under rest id)
      ] refl

pub read_ack : (acks : List ContractAcks) (contract : Id) (server : NodeId) (ack : Ack) (id : Id) (node : NodeId)
    → ack_of (with_ack contract server ack acks) id node ≡ cond (same_id contract id && (server.0 == node.0)) (Some ack) (ack_of acks id node)
read_ack acks contract server ack id node =
    ap (λ l. ack_in l node) (read_under contract server ack id acks)
    ∙ elim (same_id contract id) as (λ v. ack_in (cond v (with_server_ack server ack (acks_under acks id)) (acks_under acks id)) node
    ≡ cond (v && (server.0 == node.0)) (Some ack) (ack_of acks id node)) [
      | true ↦ read_server server ack node (acks_under acks id)
      | false ↦ refl
    ]
