-- Taking the least pending operation, where it is decided.
use Rattle.std.proofs.Common.{◌≡◌, ℕ, ◌<◌, true, false, cond, List, [], ◌∷◌, ◌++◌, length, Some, None, refl, sym, ap, ◌∙◌, subst, arith}
use Rattle.region_map.specs.declared.id.Id.{Id}
use Rattle.contract_types.specs.declared.contract.Contract.{Contract}
use Rattle.write_dispatch.specs.declared.decided.Decided.{Decided}
use Rattle.write_dispatch.specs.Dispatch.{Acks, is_decided, decided_first, behind_first}
use Rattle.primary_exec.specs.Execution.{answers, answers_under, undecided_under}

-- the answers and the rest, once the first is taken
pub record Took (acks : Acks) (c : Contract) (me : ℕ) (branch : Id) (ds : List Decided) (d : Decided) : Type 0 where
  pub said : answers_under acks c me branch ds ≡ answers branch d d.op ++ answers_under acks c me branch (behind_first acks c me ds)
  pub rest : undecided_under acks c me ds ≡ undecided_under acks c me (behind_first acks c me ds)
  pub shorter : length (behind_first acks c me ds) < length ds

pub took : (acks : Acks) (c : Contract) (me : ℕ) (branch : Id) (ds : List Decided) (d : Decided) → Some d ≡ decided_first acks c me ds → Took acks c me branch ds d
took acks c me branch [] d h = absurd (cc)
took acks c me branch (x ∷ ds) d h =
    elim (is_decided acks c me x.at) as (λ b. is_decided acks c me x.at ≡ b → Some d ≡ cond b (Some x) None → Took acks c me branch (x ∷ ds) d) [
      | true ↦ λ e k.
          let same : d ≡ x = cc in
          let behind : behind_first acks c me (x ∷ ds) ≡ ds = ap (λ b. cond b ds (x ∷ ds)) e in
          record {
            said = ap (λ b. cond b (answers branch x x.op ++ answers_under acks c me branch ds) []) e
                ∙ ap (λ (v : Decided). answers branch v v.op ++ answers_under acks c me branch ds) (sym same)
                ∙ ap (λ (l : List Decided). answers branch d d.op ++ answers_under acks c me branch l) (sym behind);
            rest = ap (λ b. cond b (undecided_under acks c me ds) (x ∷ ds)) e ∙ ap (undecided_under acks c me) (sym behind);
            shorter = subst (λ (l : List Decided). length l < length (x ∷ ds)) (sym behind) (omega arith);
          }
      | false ↦ λ e k. absurd (cc)
    ] refl h

-- nothing is decided where the first is not
pub record TookNone (acks : Acks) (c : Contract) (me : ℕ) (branch : Id) (ds : List Decided) : Type 0 where
  pub said : answers_under acks c me branch ds ≡ []
  pub rest : undecided_under acks c me ds ≡ behind_first acks c me ds

pub took_none : (acks : Acks) (c : Contract) (me : ℕ) (branch : Id) (ds : List Decided) → None ≡ decided_first acks c me ds → TookNone acks c me branch ds
took_none acks c me branch [] h = record { said = refl; rest = refl }
took_none acks c me branch (x ∷ ds) h =
    elim (is_decided acks c me x.at) as (λ b. is_decided acks c me x.at ≡ b → None ≡ cond b (Some x) None → TookNone acks c me branch (x ∷ ds)) [
      | true ↦ λ e k. absurd (cc)
      | false ↦ λ e k.
          record {
            said = ap (λ b. cond b (answers branch x x.op ++ answers_under acks c me branch ds) []) e;
            rest = ap (λ b. cond b (undecided_under acks c me ds) (x ∷ ds)) e ∙ sym (ap (λ b. cond b ds (x ∷ ds)) e);
          }
    ] refl h
