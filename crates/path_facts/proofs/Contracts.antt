-- The contracts of a key, by the index of the log.
use Rattle.std.proofs.Common.{◌≡◌, ◌⊎◌, ℕ, ◌≤◌, ◌<◌, Option, Some, None, inl, inr, refl, sym, ap, ◌∙◌, arith}
use Rattle.std.proofs.lemmas.Bool.{cases_lt}
use Rattle.path_facts.specs.Paths.{Birth, IsIn}
use Rattle.path_facts.specs.Runs.{Contract, KeyRun}
use Rattle.path_facts.specs.Invariant.{LogFacts}

pub none_leads : (o : Option ℕ) (p : ℕ) → o ≡ None → o ≡ Some p → ⊥
none_leads o p e d = cc

pub has_primary : (o : Option ℕ) → (o ≡ None) ⊎ ((p : ℕ) × (o ≡ Some p))
has_primary None = inl refl
has_primary (Some p) = inr (p, refl)

module _ {B : Type 0} (r : KeyRun B) (f : LogFacts r) where
  -- ---- one contract

  -- the index at which a contract came has it
  pub at_since : (w : ℕ) → r.contract (r.contract w).since ≡ r.contract w
  at_since w = f.contracts_last w (r.contract w).since (omega arith) (f.since_within w)

  -- contracts that came at one index are one
  pub one_since : (w u : ℕ) → (r.contract w).since ≡ (r.contract u).since → r.contract w ≡ r.contract u
  one_since w u e = sym (at_since w) ∙ ap r.contract e ∙ at_since u

  pub since_is : (w u : ℕ) → r.contract w ≡ r.contract u → (r.contract w).since ≡ (r.contract u).since
  since_is w u e = ap (λ (c : Contract). c.since) e

  pub primary_is : (w u p : ℕ) → r.contract w ≡ r.contract u → (r.contract u).primary ≡ Some p → (r.contract w).primary ≡ Some p
  primary_is w u p e d = ap (λ (c : Contract). c.primary) e ∙ d

  -- a later index has the contract, or one that came behind the earlier index
  pub came_later : (w u : ℕ) → w ≤ u → (r.contract u ≡ r.contract w) ⊎ (w < (r.contract u).since)
  came_later w u l = elim (cases_lt w (r.contract u).since) [
    | inl after ↦ inr after
    | inr before ↦ inl (sym (f.contracts_last u w before l))
  ]

  pub since_grows : (w u : ℕ) → w ≤ u → (r.contract w).since ≤ (r.contract u).since
  since_grows w u l = elim (came_later w u l) [
    | inl same ↦ let e = since_is u w same in omega arith
    | inr after ↦ let s = f.since_within w in omega arith
  ]

  -- where a contract came behind the one of an index, it came behind that index
  pub came_behind : (w u : ℕ) → (r.contract w).since < (r.contract u).since → w < (r.contract u).since
  came_behind w u l = elim (cases_lt w (r.contract u).since) [
    | inl before ↦ before
    | inr after ↦
        let same = f.contracts_last w (r.contract u).since (omega arith) after in
        let e = since_is (r.contract u).since w same in
        let d = since_is (r.contract u).since u (at_since u) in
        absurd (omega arith)
  ]

  -- all indexes between one that has a contract and the index at which it came have it
  pub between : (w v u : ℕ) → r.contract v ≡ r.contract w → (r.contract w).since ≤ u → u ≤ v → r.contract u ≡ r.contract w
  between w v u e lo up =
      let s = since_is v w e in
      f.contracts_last v u (omega arith) up ∙ e

  -- ---- tenures

  pub tenure_before : (w : ℕ) → (r.contract w).tenure ≤ w
  tenure_before w = let t = f.tenure_within w in let s = f.since_within w in omega arith

  -- tenures never fall
  pub tenures_rise : (w u p q : ℕ) → w ≤ u → (r.contract w).primary ≡ Some p → (r.contract u).primary ≡ Some q → (r.contract w).tenure ≤ (r.contract u).tenure
  tenures_rise w u p q l e d = elim (cases_lt w (r.contract u).tenure) [
    | inl before ↦ let t = tenure_before w in omega arith
    | inr after ↦ let same = (f.tenures_last u w q d after l).1 in omega arith
  ]

  -- a contract without a primary came behind each tenure that had begun before it ended, and ended behind each index of it
  pub leads_no_more : (w u p : ℕ) → (r.contract w).primary ≡ Some p → (r.contract u).primary ≡ None → (r.contract w).tenure ≤ u → w < (r.contract u).since
  leads_no_more w u p e n t = elim (cases_lt w (r.contract u).since) [
    | inl before ↦ before
    | inr after ↦ elim (cases_lt w u) [
      | inl less ↦
          let same = f.contracts_last u w after (omega arith) in
          absurd (none_leads (r.contract u).primary p n (ap (λ (c : Contract). c.primary) (sym same) ∙ e))
      | inr more ↦ absurd (none_leads (r.contract u).primary p n (f.tenures_last w u p e t more).0)
    ]
  ]

  -- ---- branches

  pub tenure_of : (y : Birth B) → IsIn r.births y → y.tenure ≤ y.registered
  tenure_of y i = let t = (f.registered_in_tenure y i).1 in let l = tenure_before y.registered in omega arith

  -- branches are registered in the order of their tenures
  pub branches_rise : (y z : Birth B) → IsIn r.births y → IsIn r.births z → y.registered ≤ z.registered → y.tenure ≤ z.tenure
  branches_rise y z i j l =
      let a = f.registered_in_tenure y i in
      let b = f.registered_in_tenure z j in
      let t = tenures_rise y.registered z.registered y.maker z.maker l a.0 b.0 in
      let p = a.1 in
      let q = b.1 in
      omega arith

  -- those of one tenure have one maker
  pub one_maker : (y z : Birth B) → IsIn r.births y → IsIn r.births z → y.registered ≤ z.registered → y.tenure ≡ z.tenure → y.maker ≡ z.maker
  one_maker y z i j l e =
      let a = f.registered_in_tenure y i in
      let b = f.registered_in_tenure z j in
      let p = b.1 in
      let t = tenure_of y i in
      let same = (f.tenures_last z.registered y.registered z.maker b.0 (omega arith) l).0 in
      let one : Some y.maker ≡ Some z.maker = sym a.0 ∙ same in
      cc
