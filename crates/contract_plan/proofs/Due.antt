-- What is planned is due, and rests on an ack.
use Rattle.std.proofs.Common.{◌≡◌, ◌==◌, ℕ, zero, suc, ◌<◌, Bool, true, false, cond, ◌&&◌, not, List, [], ◌∷◌, length, slice_index_or, Option, Some, None, refl, sym, ap, ◌∙◌, arith}
use Rattle.std.specs.List.{Contains, list_any}
use Rattle.std.proofs.lemmas.Bool.{and_parts, and_from, or_left, or_right, eqb-true, eq-eqb}
use Rattle.region_map.specs.declared.id.Id.{Id}
use Rattle.region_map.specs.declared.id.NodeId.{NodeId}
use Rattle.region_map.specs.declared.region.Region.{Region}
use Rattle.region_map.specs.Maps.{Pieced}
use Rattle.branch_history.specs.declared.version.Version.{Version}
use Rattle.branch_history.specs.Paths.{Branches}
use Rattle.branch_history.specs.Histories.{knows, knows_origins}
use Rattle.contract_types.specs.declared.ack.Ack.{Ack}
use Rattle.contract_types.specs.declared.ack.Ack.TheVariants.{NeedBranch, InProgress, Ready, NeedPrimary, Backfilling, Streaming}
use Rattle.contract_types.specs.declared.change.Change.{Change}
use Rattle.contract_types.specs.declared.change.Change.TheVariants.{RegisterBranch}
use Rattle.contract_types.specs.declared.contract.Contract.{Contract}
use Rattle.contract_types.specs.declared.contract.Holder.{Holder}
use Rattle.contract_types.specs.declared.applied.Applied.TheVariants.{Taken, Skipped}
use Rattle.contract_types.specs.declared.applied.Condition.TheVariants.{Tenure, IdNew, BasedOn}
use Rattle.contract_types.specs.Tables.{Table}
use Rattle.table_apply.specs.Conditions.{same_regions, is_held_by, has_tenure, is_based_on}
use Rattle.table_apply.specs.Effects.{skipped, taken, birth, applied_at}
use Rattle.table_apply.proofs.Based.{region_self}
use Rattle.contract_plan.specs.declared.plans.Plan.TheVariants.{Keep, Propose}
use Rattle.contract_plan.specs.Plans.{planned, plan_under, plan_of, wants_branch, rests_on}

pub any_at : {X : Type 0} (p : X → Bool) (xs : List X) (k : ℕ) (x : X) → k < length xs → slice_index_or xs k x ≡ x → p x ≡ true → list_any p xs ≡ true
any_at p [] k x l e t = absurd (omega arith)
any_at p (y ∷ ys) zero x l e t = or_left (p y) (list_any p ys) (ap p e ∙ t)
any_at p (y ∷ ys) (suc k) x l e t = or_right (p y) (list_any p ys) (any_at p ys k x (omega arith) e t)

-- what a plan that proposes registers: the primary is the maker, and its last ack asks for the branch
record Asked (c : Contract) (history : Branches) (acks : NodeId → Option Ack) (change : Change) : Type 0 where
  holder : Holder
  primary : c.primary ≡ Some holder
  branch : Id
  based_on : Pieced Id
  origin : Pieced Version
  ack : acks holder.server ≡ Some (NeedBranch branch based_on origin)
  new : knows history branch ≡ false
  change_is : RegisterBranch branch c.region c.tenure holder.server based_on origin ≡ change

module _ (c : Contract) (history : Branches) (acks : NodeId → Option Ack) (change : Change) where
  asked_by : (holder : Holder) → c.primary ≡ Some holder → (a : Option Ack) → acks holder.server ≡ a → planned c holder.server history a ≡ Propose change → Asked c history acks change
  asked_by holder p None e f = absurd (cc)
  asked_by holder p (Some (NeedBranch branch based_on origin)) e f =
      let new : Change = RegisterBranch branch c.region c.tenure holder.server based_on origin in
      elim (knows history branch) as (λ v. knows history branch ≡ v → cond v Keep (Propose new) ≡ Propose change → Asked c history acks change) [
        | true ↦ λ k g. absurd (cc)
        | false ↦ λ k g. record { holder = holder; primary = p; branch = branch; based_on = based_on; origin = origin; ack = e; new = k; change_is = cc }
      ] refl f
  asked_by holder p (Some InProgress) e f = absurd (cc)
  asked_by holder p (Some Ready) e f = absurd (cc)
  asked_by holder p (Some (NeedPrimary versions)) e f = absurd (cc)
  asked_by holder p (Some Backfilling) e f = absurd (cc)
  asked_by holder p (Some Streaming) e f = absurd (cc)

  asked_under : (primary : Option Holder) → c.primary ≡ primary → plan_under c primary history acks ≡ Propose change → Asked c history acks change
  asked_under None p f = absurd (cc)
  asked_under (Some holder) p f = asked_by holder p (acks holder.server) refl f

asked : (t : Table) (c : Contract) (acks : NodeId → Option Ack) (change : Change) → plan_of c t acks ≡ Propose change → Asked c t.history acks change
asked t c acks change f = asked_under c t.history acks change c.primary refl f

-- ---- what is planned is due

-- the conditions of a branch, of which two hold
outcome : (t u : Table) (tenure based known origins : Bool) → tenure ≡ true → known ≡ false
    → (cond (not tenure) (skipped t Tenure) (cond (not based) (skipped t BasedOn) (cond (not (not known && origins)) (skipped t IdNew) (taken u)))).applied
    ≡ cond based (cond origins Taken (Skipped IdNew)) (Skipped BasedOn)
outcome t u false based known origins e f = absurd (cc)
outcome t u true based true origins e f = absurd (cc)
outcome t u true true false true e f = refl
outcome t u true true false false e f = refl
outcome t u true false false origins e f = refl

module _ (t : Table) (c : Contract) (acks : NodeId → Option Ack) (branch : Id) (region : Region) (tenure : ℕ) (maker : NodeId) (based_on : Pieced Id) (origin : Pieced Version)
    (f : plan_of c t acks ≡ Propose (RegisterBranch branch region tenure maker based_on origin)) where
  region_is : c.region ≡ region
  region_is = let a = asked t c acks _ f in let e = a.change_is in cc

  tenure_is : c.tenure ≡ tenure
  tenure_is = let a = asked t c acks _ f in let e = a.change_is in cc

  held : is_held_by c.primary maker ≡ true
  held =
      let a = asked t c acks _ f in
      let e = a.change_is in
      let m : a.holder.server ≡ maker = cc in
      ap (λ p. is_held_by p maker) a.primary ∙ eq-eqb a.holder.server.0 maker.0 (ap (λ (n : NodeId). n.0) m)

  pub due_new : knows t.history branch ≡ false
  due_new = let a = asked t c acks _ f in let e = a.change_is in let b : a.branch ≡ branch = cc in ap (λ i. knows t.history i) (sym b) ∙ a.new

  pub due_tenure : Contains t.contracts c → has_tenure t.contracts region tenure maker ≡ true
  due_tenure m =
      let same : same_regions c.region region ≡ true = ap (λ r. same_regions c.region r) (sym region_is) ∙ region_self c.region in
      any_at (λ d. same_regions d.region region && ((d.tenure == tenure) && is_held_by d.primary maker)) t.contracts m.0 c m.1 m.2
      (and_from _ _ same (and_from _ _ (eq-eqb c.tenure tenure tenure_is) held))

  pub due_applied : (index : ℕ) → Contains t.contracts c → (applied_at t index (RegisterBranch branch region tenure maker based_on origin)).applied
      ≡ cond (is_based_on t.config.hashes t.history region based_on) (cond (knows_origins t.history origin.pieces) Taken (Skipped IdNew)) (Skipped BasedOn)
  due_applied index m =
      outcome t (record t { history = (branch, birth region tenure origin) ∷ t.history }) (has_tenure t.contracts region tenure maker)
      (is_based_on t.config.hashes t.history region based_on) (knows t.history branch) (knows_origins t.history origin.pieces) (due_tenure m) due_new

-- ---- a plan rests on an ack

pub rests : (c : Contract) (t : Table) (acks : NodeId → Option Ack) (change : Change) → plan_of c t acks ≡ Propose change
    → (server : NodeId) × (ack : Ack) × (acks server ≡ Some ack) × (rests_on c t.history server ack ≡ true)
rests c t acks change f =
    let a = asked t c acks change f in (
      a.holder.server,
      NeedBranch a.branch a.based_on a.origin,
      a.ack,
      and_from _ _ (ap (λ p. is_held_by p a.holder.server) a.primary ∙ eq-eqb a.holder.server.0 a.holder.server.0 refl) (ap not a.new),
    )

new_branch : (known : Bool) (change : Change) → not known ≡ true → cond known Keep (Propose change) ≡ Propose change
new_branch true change w = absurd (cc)
new_branch false change w = refl

proposes_by : (c : Contract) (history : Branches) (maker : NodeId) (ack : Ack) → wants_branch history ack ≡ true → (change : Change) × (planned c maker history (Some ack) ≡ Propose change)
proposes_by c history maker (NeedBranch branch based_on origin) w =
    (RegisterBranch branch c.region c.tenure maker based_on origin, new_branch (knows history branch) _ w)
proposes_by c history maker InProgress w = absurd (cc)
proposes_by c history maker Ready w = absurd (cc)
proposes_by c history maker (NeedPrimary versions) w = absurd (cc)
proposes_by c history maker Backfilling w = absurd (cc)
proposes_by c history maker Streaming w = absurd (cc)

proposes_under : (c : Contract) (primary : Option Holder) (history : Branches) (acks : NodeId → Option Ack) (server : NodeId) (ack : Ack)
    → acks server ≡ Some ack → (is_held_by primary server && wants_branch history ack) ≡ true → (change : Change) × (plan_under c primary history acks ≡ Propose change)
proposes_under c None history acks server ack e r = absurd (cc)
proposes_under c (Some holder) history acks server ack e r =
    let both = and_parts (holder.server.0 == server.0) (wants_branch history ack) r in
    let n = eqb-true holder.server.0 server.0 both.0 in
    let m : holder.server ≡ server = λ i. record { 0 = n i } in
    let p = proposes_by c history holder.server ack both.1 in
    (p.0, ap (planned c holder.server history) (ap acks m ∙ e) ∙ p.1)

pub proposes : (c : Contract) (t : Table) (acks : NodeId → Option Ack) (server : NodeId) (ack : Ack)
    → acks server ≡ Some ack → rests_on c t.history server ack ≡ true → (change : Change) × (plan_of c t acks ≡ Propose change)
proposes c t acks server ack e r = proposes_under c c.primary t.history acks server ack e r
