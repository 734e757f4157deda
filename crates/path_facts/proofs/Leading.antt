-- Primaries from one index to another.
use Rattle.std.proofs.Common.{◌≡◌, ◌⊎◌, ℕ, zero, suc, ◌+◌, ◌-◌, ◌≤◌, ◌<◌, Some, None, inl, inr, sym, ap, ◌∙◌, arith}
use Rattle.std.proofs.lemmas.Bool.{cases_lt}
use Rattle.path_facts.specs.Runs.{KeyRun}
use Rattle.path_facts.specs.Invariant.{Facts}
use Rattle.path_facts.proofs.Contracts.{none_leads, has_primary}

-- the contract at an index has a primary
pub record IsLed {B : Type 0} (r : KeyRun B) (u : ℕ) : Type 0 where
  pub leader : ℕ
  pub leads : (r.contract u).primary ≡ Some leader

-- the last index up to another one at which there is no primary
pub record Gap {B : Type 0} (r : KeyRun B) (upto : ℕ) : Type 0 where
  pub index : ℕ
  pub within : index ≤ upto
  pub none : (r.contract index).primary ≡ None
  pub led : (u : ℕ) → index < u → u ≤ upto → IsLed r u

pub last_gap : {B : Type 0} (r : KeyRun B) (upto : ℕ) → ((u : ℕ) → u ≤ upto → IsLed r u) ⊎ Gap r upto
last_gap r zero = elim (has_primary (r.contract zero).primary) [
  | inl none ↦ inr (record { index = zero; within = omega arith; none = none; led = λ u lo up. absurd (omega arith) })
  | inr led ↦ inl (λ u up. let is : u ≡ zero = omega arith in record { leader = led.0; leads = ap (λ k. (r.contract k).primary) is ∙ led.1 })
]
last_gap r (suc n) = elim (has_primary (r.contract (suc n)).primary) [
  | inl none ↦ inr (record { index = suc n; within = omega arith; none = none; led = λ u lo up. absurd (omega arith) })
  | inr led ↦
      let here : (u : ℕ) → u ≡ suc n → IsLed r u = λ u is. record { leader = led.0; leads = ap (λ k. (r.contract k).primary) is ∙ led.1 } in
      elim (last_gap r n) [
        | inl all ↦ inl (λ u up. elim (cases_lt n u) [ inl after ↦ here u (omega arith) | inr before ↦ all u before ])
        | inr gap ↦
            let within = gap.within in
            inr (record {
              index = gap.index;
              within = omega arith;
              none = gap.none;
              led = λ u lo up. elim (cases_lt n u) [ inl after ↦ here u (omega arith) | inr before ↦ gap.led u lo before ];
            })
      ]
]

module _ {B : Type 0} (r : KeyRun B) (f : Facts r) where
  on_and_on : (n u p : ℕ) → (r.contract u).primary ≡ Some p → ((w : ℕ) → u < w → w ≤ u + n → IsLed r w) → (r.contract (u + n)).primary ≡ Some p
  on_and_on zero u p e led = let is : u + 0 ≡ u = omega arith in ap (λ k. (r.contract k).primary) is ∙ e
  on_and_on (suc n) u p e led =
      let before = on_and_on n u p e (λ w lo up. led w lo (omega arith)) in
      let is : u + suc n ≡ suc (u + n) = omega arith in
      elim (f.primaries_stay (u + n) p before) [
        | inl same ↦ ap (λ k. (r.contract k).primary) is ∙ same
        | inr none ↦
            let here = led (suc (u + n)) (omega arith) (omega arith) in
            absurd (none_leads (r.contract (suc (u + n))).primary here.leader none here.leads)
      ]

  -- where there is always a primary, it stays
  pub leads_on : (u w p : ℕ) → u ≤ w → (r.contract u).primary ≡ Some p → ((v : ℕ) → u < v → v ≤ w → IsLed r v) → (r.contract w).primary ≡ Some p
  leads_on u w p l e led =
      let is : u + (w - u) ≡ w = omega arith in
      ap (λ k. (r.contract k).primary) (sym is) ∙ on_and_on (w - u) u p e (λ v lo up. led v lo (omega arith))
