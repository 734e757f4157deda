-- Where a later contract has no primary, more than half of its voters have a decided point at all moments under it.
use Rattle.std.proofs.Common.{◌≡◌, ℕ, ◌≤◌, true, None, inl, inr, sym, ap, ◌∙◌, subst, arith}
use Rattle.std.proofs.lemmas.Bool.{cases_lt}
use Rattle.path_facts.specs.Paths.{Version, Birth, point, IsIn}
use Rattle.path_facts.specs.Runs.{Contract, KeyRun, has, holds, own_contract, StaysReplica}
use Rattle.path_facts.specs.Decided.{Safe}
use Rattle.path_facts.specs.Invariant.{Facts}
use Rattle.path_facts.proofs.Contracts.{since_is, between, leads_no_more}
use Rattle.path_facts.proofs.Keeping.{keep, registered_before}
use Rattle.path_facts.proofs.Quorums.{Member, Quorum}

module _ {B : Type 0} (r : KeyRun B) (f : Facts r) where
  -- from a member's moment on, up to one at which the contract is in its table, it is a replica by its own table
  member_stays : (x : Version B) (index w q : ℕ) (m : Member r x index w q) → index ≤ w → (j : ℕ) → own_contract r q j ≡ r.contract w → StaysReplica r q m.stood.moment j
  member_stays x index w q m l j under n lo up =
      let first = f.views_grow q m.stood.moment n lo in
      let second = f.views_grow q n j up in
      let views = m.stood.views in
      let since = f.since_within w in
      elim (cases_lt w (r.view q n)) [
        | inr before ↦ m.replica (r.view q n) (omega arith) before
        | inl after ↦
            let is = between r f.log w (r.view q j) (r.view q n) under (omega arith) second in
            subst (λ (c : Contract). has c.replicas q ≡ true) (sym is) (m.replica w l (omega arith))
      ]

  -- under a contract without a primary a member stands behind the moment at which it had the point, and has it still
  pub member_holds : (b : Birth B) (t end w : ℕ) → IsIn r.births b → Safe r b (point b.branch t) end → (r.contract w).since ≤ end → (r.contract w).primary ≡ None
      → (s : Quorum r (point b.branch t) w) → (q : ℕ) → has (r.contract w).voters q ≡ true → s.set q ≡ true
      → (j : ℕ) → own_contract r q j ≡ r.contract w → holds r (point b.branch t) j q ≡ true
  member_holds b t end w i safe upto none s q votes is_set j under =
      let member = s.each q votes is_set in
      let m = member.stood in
      let since = f.since_within w in
      let less = s.before none in
      let tenure = m.tenure in
      let past = leads_no_more r f.log (r.view q m.moment) w m.leader m.primary none (omega arith) in
      let same = since_is r f.log (r.view q j) w under in
      let now = f.since_within (r.view q j) in
      let none_now : (own_contract r q j).primary ≡ None = ap (λ (c : Contract). c.primary) under ∙ none in
      elim (cases_lt m.moment j) [
        | inr later ↦ let back = f.views_grow q j m.moment later in absurd (omega arith)
        | inl sooner ↦
            keep r f b t end q m.moment j i safe (omega arith) (member_stays (point b.branch t) s.index w q member (omega arith) j under) m.has_it
            (λ y at k e. let old = registered_before r f q j y at k e none_now in omega arith)
      ]
