-- Which voters of a later contract rest on a decided point.
use Rattle.std.proofs.Common.{◌≡◌, ℕ, zero, suc, ◌+◌, ◌-◌, ◌≤◌, ◌<◌, Bool, true, List, Some, None, inl, inr, refl, sym, ap, ◌∙◌, subst, arith}
use Rattle.std.proofs.lemmas.Bool.{cases_lt, cases_eq}
use Rattle.path_facts.specs.Paths.{Version, Birth, point, on, IsIn}
use Rattle.path_facts.specs.Runs.{Contract, KeyRun, has, IsMost, holds, own_contract}
use Rattle.path_facts.specs.Decided.{Stands, Decided, Safe}
use Rattle.path_facts.specs.Invariant.{Ready, GoesOver, Facts}
use Rattle.path_facts.proofs.Contracts.{none_leads, since_is, one_since, at_since, came_later, since_grows, between}
use Rattle.path_facts.proofs.Keeping.{trans, own_point, stands_holds}
use Rattle.path_facts.proofs.Syncs.{sync_before, below_sync}

-- a node had a point at a moment, with a view not below an index, in a tenure that had begun by that index
pub record Stood {B : Type 0} (r : KeyRun B) (x : Version B) (index q : ℕ) : Type 0 where
  pub moment : ℕ
  pub within : moment ≤ r.end
  pub views : index ≤ r.view q moment
  pub has_it : holds r x moment q ≡ true
  pub leader : ℕ
  pub primary : (own_contract r q moment).primary ≡ Some leader
  pub tenure : (own_contract r q moment).tenure ≤ index

-- and it is a replica from that index up to another one
pub record Member {B : Type 0} (r : KeyRun B) (x : Version B) (index w q : ℕ) : Type 0 where
  pub stood : Stood r x index q
  pub replica : (u : ℕ) → index ≤ u → u ≤ w → has (r.contract u).replicas q ≡ true

-- more than half of the voters of the contract at an index are such nodes
pub record Quorum {B : Type 0} (r : KeyRun B) (x : Version B) (w : ℕ) : Type 0 where
  pub index : ℕ
  pub upto : index ≤ (r.contract w).since
  pub before : (r.contract w).primary ≡ None → index < (r.contract w).since
  pub set : ℕ → Bool
  pub most : IsMost set (r.contract w).voters
  pub each : (q : ℕ) → has (r.contract w).voters q ≡ true → set q ≡ true → Member r x index w q

-- more than half of a set had a point under the contract at an index or later in its tenure
pub record Rests {B : Type 0} (r : KeyRun B) (x : Version B) (w : ℕ) (set : List ℕ) : Type 0 where
  pub counted : ℕ → Bool
  pub most : IsMost counted set
  pub each : (q : ℕ) → counted q ≡ true → Stood r x (r.contract w).since q

module _ {B : Type 0} (r : KeyRun B) (f : Facts r) where
  -- the voters stay: so do those that rest on the point
  voters_stay : (x : Version B) (w : ℕ) → (r.contract (suc w)).voters ≡ (r.contract w).voters → Quorum r x w → Quorum r x (suc w)
  voters_stay x w e q =
      let grows = since_grows r f.log w (suc w) (omega arith) in
      let upto = q.upto in
      record {
        index = q.index;
        upto = omega arith;
        before = λ none. elim (came_later r f.log w (suc w) (omega arith)) [
          | inl same ↦
              let less = q.before (ap (λ (c : Contract). c.primary) (sym same) ∙ none) in
              omega arith
          | inr after ↦ let since = f.since_within w in omega arith
        ];
        set = q.set;
        most = subst (IsMost q.set) (sym e) q.most;
        each = λ n votes is_set.
            let m = q.each n (subst (λ (vs : List ℕ). has vs n ≡ true) e votes) is_set in
            record {
              stood = m.stood;
              replica = λ u lo up. elim (cases_lt w u) [
                | inr before ↦ m.replica u lo before
                | inl after ↦
                    let is : u ≡ suc w = omega arith in
                    subst (λ i. has (r.contract i).replicas n ≡ true) (sym is) (f.voters_are_replicas (suc w) n votes)
              ];
            };
      }

  -- who was counted for a timestamp with the point on its path had it
  stood : (x : Version B) (b : Birth B) (t index q : ℕ) → IsIn r.births b → b.initial ≤ t → b.tenure ≤ index → on r.same r.births (point b.branch t) x ≡ true
      → Stands r b t index q → Stood r x index q
  stood x b t index q i above begun below s =
      let own = s.tenure in
      record {
        moment = s.moment;
        within = s.within;
        views = s.views;
        has_it = trans r f (r.version q s.moment) (point b.branch t) x (stands_holds r f b t q s.moment s.at i above s.reached s.version_is) below;
        leader = b.maker;
        primary = s.primary;
        tenure = omega arith;
      }

  module _ (b : Birth B) (t end : ℕ) (i : IsIn r.births b) (d : Decided r b t) (safe : Safe r b (point b.branch t) end) where
    tenure_begun : b.tenure ≤ (own_contract r b.maker d.moment).since
    tenure_begun =
        let within = f.tenure_within (r.view b.maker d.moment) in
        let own = d.tenure in
        omega arith

    -- under the contract that was in force, the counted
    at_first : Quorum r (point b.branch t) (own_contract r b.maker d.moment).since
    at_first =
        let same = at_since r f.log (r.view b.maker d.moment) in
        let since = since_is r f.log (own_contract r b.maker d.moment).since (r.view b.maker d.moment) same in
        record {
          index = (own_contract r b.maker d.moment).since;
          upto = omega arith;
          before = λ none. absurd (none_leads (r.contract (own_contract r b.maker d.moment).since).primary b.maker none (ap (λ (c : Contract). c.primary) same ∙ d.primary));
          set = d.counted;
          most = subst (λ (c : Contract). IsMost d.counted c.voters) (sym same) d.most;
          each = λ q votes is_set.
              record {
                stood = stood (point b.branch t) b t (own_contract r b.maker d.moment).since q i d.above tenure_begun (own_point r f b t t i d.above (omega arith)) (d.each q is_set);
                replica = λ u lo up.
                    let is : u ≡ (own_contract r b.maker d.moment).since = omega arith in
                    subst (λ k. has (r.contract k).replicas q ≡ true) (sym is) (f.voters_are_replicas (own_contract r b.maker d.moment).since q votes);
              };
        }

    -- where the primary of a later contract with a second set is ready, more than half of that set had the point
    pub second_rests : (w : ℕ) (set : List ℕ) → (r.contract w).second ≡ Some set → (g : Ready r w) → g.branch.registered < end
        → (own_contract r b.maker d.moment).since ≤ (r.contract w).since → Rests r (point b.branch t) w set
    second_rests w set second g known from =
        elim (cases_eq (own_contract r b.maker d.moment).since (r.contract w).since) [
          | inl one ↦
              let is = one_since r f.log (r.view b.maker d.moment) w one in
              let begun = tenure_begun in
              record {
                counted = d.counted;
                most = d.most_of_second set (ap (λ (c : Contract). c.second) is ∙ second);
                each = λ n c. stood (point b.branch t) b t (r.contract w).since n i d.above (omega arith) (own_point r f b t t i d.above (omega arith))
                    (subst (λ s. Stands r b t s n) one (d.each n c));
              }
          | inr other ↦
              let since = since_is r f.log (r.view g.branch.maker g.decided.moment) w g.under in
              let within = f.tenure_within (r.view g.branch.maker g.decided.moment) in
              let own = g.decided.tenure in
              record {
                counted = g.decided.counted;
                most = g.decided.most_of_second set (ap (λ (c : Contract). c.second) g.under ∙ second);
                each = λ n c. stood (point b.branch t) g.branch g.sync (r.contract w).since n g.is_in g.decided.above (omega arith)
                    (below_sync r f b t end w d g i safe (omega arith) known)
                    (subst (λ s. Stands r g.branch g.sync s n) since (g.decided.each n c));
              }
        ]

    -- the voters go over to a set of which more than half had the point
    goes_over : (w : ℕ) (g : GoesOver r w) → Rests r (point b.branch t) w (r.contract (suc w)).voters → Quorum r (point b.branch t) (suc w)
    goes_over w g s =
        let since = f.since_within w in
        let now = g.since_is in
        record {
          index = (r.contract w).since;
          upto = omega arith;
          before = λ _. omega arith;
          set = s.counted;
          most = s.most;
          each = λ q votes is_set.
              record {
                stood = s.each q is_set;
                replica = λ u lo up. elim (cases_lt w u) [
                  | inr before ↦
                      let is = between r f.log w w u refl lo before in
                      subst (λ (c : Contract). has c.replicas q ≡ true) (sym is) (f.second_are_replicas w (r.contract (suc w)).voters q g.second_is votes)
                  | inl after ↦
                      let is : u ≡ suc w = omega arith in
                      subst (λ k. has (r.contract k).replicas q ≡ true) (sym is) (f.voters_are_replicas (suc w) q votes)
                ];
              };
        }

    -- and from each index to the next
    further : (w : ℕ) → (own_contract r b.maker d.moment).since ≤ w → (r.contract (suc w)).since ≤ end → Quorum r (point b.branch t) w → Quorum r (point b.branch t) (suc w)
    further w from upto q =
        elim (f.voters_stay w) [
          | inl same ↦ voters_stay (point b.branch t) w same q
          | inr g ↦
              let grows = since_grows r f.log (own_contract r b.maker d.moment).since w from in
              let same = since_is r f.log (own_contract r b.maker d.moment).since (r.view b.maker d.moment) (at_since r f.log (r.view b.maker d.moment)) in
              let now = g.since_is in
              let known = sync_before r f w g in
              goes_over w g (second_rests w (r.contract (suc w)).voters g.second_is g.ready (omega arith) (omega arith))
        ]

    climb : (n w : ℕ) → (own_contract r b.maker d.moment).since + n ≡ w → (r.contract w).since ≤ end → Quorum r (point b.branch t) w
    climb zero w e upto = let is : (own_contract r b.maker d.moment).since ≡ w = omega arith in subst (Quorum r (point b.branch t)) is at_first
    climb (suc n) w e upto =
        let before : ℕ = (own_contract r b.maker d.moment).since + n in
        let is : suc before ≡ w = omega arith in
        let here : (r.contract (suc before)).since ≤ end = subst (λ k. (r.contract k).since ≤ end) (sym is) upto in
        let grows = since_grows r f.log before (suc before) (omega arith) in
        subst (Quorum r (point b.branch t)) is (further before (omega arith) here (climb n before refl (omega arith)))

    -- More than half of the voters of each later contract rest on a decided point.
    pub quorum : (w : ℕ) → (own_contract r b.maker d.moment).since ≤ w → (r.contract w).since ≤ end → Quorum r (point b.branch t) w
    quorum w from upto = climb (w - (own_contract r b.maker d.moment).since) w (omega arith) upto
