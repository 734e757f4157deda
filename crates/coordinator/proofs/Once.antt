-- Proposals are plans, and the acks that are left lead to none.
use Rattle.std.proofs.Common.{◌≡◌, ◌==◌, ℕ, zero, suc, ◌<◌, Bool, true, false, cond, ◌&&◌, not, List, [], ◌∷◌, ◌++◌, length, slice_index_or, map, filter, Some, ◌⊎◌, inl, inr, refl, sym, ap, ap₂, ◌∙◌, arith}
use Rattle.std.specs.List.{Contains}
use Rattle.std.proofs.lemmas.Bool.{and_from, both_ways}
use Rattle.region_map.specs.Equal.{node_decides, same_id}
use Rattle.region_map.specs.declared.id.Id.{Id}
use Rattle.region_map.specs.declared.id.NodeId.{NodeId}
use Rattle.branch_history.proofs.PathLaws.{id_same, id_self}
use Rattle.contract_types.specs.declared.ack.Ack.{Ack}
use Rattle.contract_types.specs.declared.ack.ServerAck.{ServerAck}
use Rattle.contract_types.specs.declared.change.Change.{Change}
use Rattle.contract_types.specs.declared.contract.Contract.{Contract}
use Rattle.contract_types.specs.Tables.{Table}
use Rattle.contract_plan.specs.declared.plans.Plan.{Plan}
use Rattle.contract_plan.specs.declared.plans.Plan.TheVariants.{Keep, Propose}
use Rattle.contract_plan.specs.Plans.{ack_in, plan_of, rests_on}
use Rattle.contract_plan.proofs.Due.{any_at, rests}
use Rattle.coordinator.specs.declared.acks.ContractAcks.{ContractAcks}
use Rattle.coordinator.specs.Acks.{acks_under, ack_of}
use Rattle.coordinator.specs.Proposals.{proposed, changes_for, proposals_of, is_used, without_used, after_proposals}

-- ---- proposals are plans

later : {X : Type 0} (x : X) (xs : List X) (y : X) → Contains xs y → Contains (x ∷ xs) y
later x xs y c = (suc c.0, omega (arith, c.1), c.2)

-- a change of a plan, or of those behind it
either_at : (p : Plan) (rest : List Change) (change : Change) (k : ℕ) → k < length (proposed p ++ rest) → slice_index_or (proposed p ++ rest) k change ≡ change
    → (p ≡ Propose change) ⊎ Contains rest change
either_at Keep rest change k l e = inr (k, l, e)
either_at (Propose c) rest change zero l e = inl (ap Propose e)
either_at (Propose c) rest change (suc k) l e = inr (k, omega arith, e)

planned_for : (acks : List ContractAcks) (t : Table) (cs : List Contract) (change : Change) → Contains (changes_for acks t cs) change
    → (c : Contract) × Contains cs c × (plan_of c t (ack_of acks c.id) ≡ Propose change)
planned_for acks t [] change m = absurd (omega (arith, m.1))
planned_for acks t (c ∷ cs) change m =
    elim (either_at (plan_of c t (ack_of acks c.id)) (changes_for acks t cs) change m.0 m.1 m.2) [
      | inl e ↦ (c, (0, omega arith, refl), e)
      | inr n ↦ let r = planned_for acks t cs change n in (r.0, later c cs r.0 r.1, r.2)
    ]

pub planned : (acks : List ContractAcks) (t : Table) (change : Change) → Contains (proposals_of acks t) change
    → (c : Contract) × Contains t.contracts c × (plan_of c t (ack_of acks c.id) ≡ Propose change)
planned acks t change m = planned_for acks t t.contracts change m

-- ---- the acks that are left

-- an ack that is found among those that pass
record Passing (passes : ServerAck → Bool) (node : NodeId) (ack : Ack) : Type 0 where
  found : ServerAck
  passing : passes found ≡ true
  server : found.server ≡ node
  ack_is : found.ack ≡ ack

module _ (passes : ServerAck → Bool) (node : NodeId) (ack : Ack) where
  found_passes : (acks : List ServerAck) → ack_in (filter passes acks) node ≡ Some ack → Passing passes node ack
  found_passes [] e = absurd (cc)
  found_passes (a ∷ rest) e =
      elim (passes a) as (λ v. passes a ≡ v → ack_in (cond v (a ∷ filter passes rest) (filter passes rest)) node ≡ Some ack → Passing passes node ack) [
        | true ↦ λ p f.
            elim (a.server.0 == node.0) as (λ v. (a.server.0 == node.0) ≡ v → cond v (Some a.ack) (ack_in (filter passes rest) node) ≡ Some ack → Passing passes node ack) [
              | true ↦ λ s g. record { found = a; passing = p; server = (node_decides a.server node).0 s; ack_is = cc }
              | false ↦ λ s g. found_passes rest g
            ] refl f
        | false ↦ λ p f. found_passes rest f
      ] refl e

  passing_stays : passes (record { server = node; ack = ack }) ≡ true → (acks : List ServerAck) → ack_in acks node ≡ Some ack → ack_in (filter passes acks) node ≡ Some ack
  passing_stays h [] e = e
  passing_stays h (a ∷ rest) e =
      elim (a.server.0 == node.0) as (λ v. (a.server.0 == node.0) ≡ v → cond v (Some a.ack) (ack_in rest node) ≡ Some ack → ack_in (filter passes (a ∷ rest)) node ≡ Some ack) [
        | true ↦ λ s f.
            let same : a.ack ≡ ack = cc in
            let server : a.server ≡ node = (node_decides a.server node).0 s in
            let is : a ≡ record { server = node; ack = ack } = λ i. record { server = server i; ack = same i } in
            ap (λ v. ack_in (cond v (a ∷ filter passes rest) (filter passes rest)) node) (ap passes is ∙ h)
            ∙ ap (λ v. cond v (Some a.ack) (ack_in (filter passes rest) node)) s ∙ f
        | false ↦ λ s f.
            elim (passes a) as (λ v. ack_in (cond v (a ∷ filter passes rest) (filter passes rest)) node ≡ Some ack) [
              | true ↦ ap (λ v. cond v (Some a.ack) (ack_in (filter passes rest) node)) s ∙ passing_stays h rest f
              | false ↦ passing_stays h rest f
            ]
      ] refl e

left_under : (t : Table) (id : Id) (acks : List ContractAcks) → acks_under (map (without_used t) acks) id ≡ filter (λ a. not (is_used t id a)) (acks_under acks id)
left_under t id [] = refl
left_under t id (c ∷ rest) =
    elim (same_id c.contract id) as (λ v. same_id c.contract id ≡ v → cond v (filter (λ a. not (is_used t c.contract a)) c.acks) (acks_under (map (without_used t) rest) id)
    ≡ filter (λ a. not (is_used t id a)) (cond v c.acks (acks_under rest id))) [
      | true ↦ λ e. ap (λ i. filter (λ a. not (is_used t i a)) c.acks) (id_same c.contract id e)
      | false ↦ λ e. left_under t id rest
    ] refl

uses : (t : Table) (c : Contract) (a : ServerAck) → Contains t.contracts c → rests_on c t.history a.server a.ack ≡ true → is_used t c.id a ≡ true
uses t c a m r =
    any_at (λ d. same_id d.id c.id && rests_on d t.history a.server a.ack) t.contracts m.0 c m.1 m.2 (and_from _ _ (id_self c.id) r)

none_left : (acks : List ContractAcks) (t : Table) (c : Contract) (change : Change) → Contains t.contracts c
    → plan_of c t (ack_of (after_proposals acks t) c.id) ≡ Propose change → ⊥
none_left acks t c change m f =
    let r = rests c t (ack_of (after_proposals acks t) c.id) change f in
    let p = found_passes (λ a. not (is_used t c.id a)) r.0 r.1 (acks_under acks c.id) (ap (λ l. ack_in l r.0) (sym (left_under t c.id acks)) ∙ r.2) in
    let on : rests_on c t.history p.found.server p.found.ack ≡ true = ap₂ (rests_on c t.history) p.server p.ack_is ∙ r.3 in
    both_ways (not (is_used t c.id p.found)) (ap not (uses t c p.found m on)) p.passing

keeps : (p : Plan) → ((change : Change) → p ≡ Propose change → ⊥) → p ≡ Keep
keeps Keep n = refl
keeps (Propose change) n = absurd (n change refl)

pub kept : (acks : List ContractAcks) (t : Table) (c : Contract) → Contains t.contracts c → plan_of c t (ack_of (after_proposals acks t) c.id) ≡ Keep
kept acks t c m = keeps _ (λ change. none_left acks t c change m)

none_for : (acks : List ContractAcks) (t : Table) (cs : List Contract) → ((c : Contract) → Contains cs c → plan_of c t (ack_of acks c.id) ≡ Keep) → changes_for acks t cs ≡ []
none_for acks t [] h = refl
none_for acks t (c ∷ cs) h =
    ap (λ p. proposed p ++ changes_for acks t cs) (h c (0, omega arith, refl)) ∙ none_for acks t cs (λ d m. h d (later c cs d m))

pub none : (acks : List ContractAcks) (t : Table) → proposals_of (after_proposals acks t) t ≡ []
none acks t = none_for (after_proposals acks t) t t.contracts (kept acks t)

pub others : (acks : List ContractAcks) (t : Table) (contract : Id) (server : NodeId) (ack : Ack)
    → ack_of acks contract server ≡ Some ack → is_used t contract (record { server = server; ack = ack }) ≡ false → ack_of (after_proposals acks t) contract server ≡ Some ack
others acks t contract server ack e u =
    ap (λ l. ack_in l server) (left_under t contract acks)
    ∙ passing_stays (λ a. not (is_used t contract a)) server ack (ap not u) (acks_under acks contract) e
