-- Lists whose replies the register fills in.
use Rattle.std.proofs.Common.{◌≡◌, Bool, true, false, cond, ◌||◌, List, [], ◌∷◌, filter, refl, sym, ap, ◌∙◌}
use Rattle.std.specs.List.{AllByRecursion}
use Rattle.register_laws.specs.declared.operation.Op.{Op}
use Rattle.register_laws.specs.declared.operation.Op.TheVariants.{Put, Delete, Cas, Read}
use Rattle.register_laws.specs.declared.operation.OpId.{OpId}
use Rattle.register_laws.specs.declared.operation.Told.{Told}
use Rattle.register_laws.specs.Register.{State, reply_of, state_after, writes}
use Rattle.register_laws.specs.Lists.{IsLegalFrom, told_from, is_read}

pub state_after-unwritten : (s : State) (op : Op) → writes s op ≡ false → state_after s op ≡ s
state_after-unwritten s (Put v) e = absurd (cc)
state_after-unwritten s Delete e = absurd (cc)
state_after-unwritten s (Cas expect put) e = ap (λ b. cond b put s) e
state_after-unwritten s Read e = refl

pub legal-told_from : (s : State) (ops : List (OpId × Op)) → IsLegalFrom s (told_from s ops)
legal-told_from s [] = tt
legal-told_from s (x ∷ xs) = (refl, legal-told_from (state_after s x.1) xs)

state_after-read : (s : State) (op : Op) → is_read op ≡ true → state_after s op ≡ s
state_after-read s (Put v) e = absurd (cc)
state_after-read s Delete e = absurd (cc)
state_after-read s (Cas expect put) e = absurd (cc)
state_after-read s Read e = refl

pub told_from-filter : (s : State) (stays : OpId × Op → Bool) (ops : List (OpId × Op))
    → AllByRecursion (λ (x : OpId × Op). (stays x || is_read x.1) ≡ true) ops
    → told_from s (filter stays ops) ≡ filter (λ (t : Told). stays (t.op, t.what)) (told_from s ops)
told_from-filter s stays [] h = refl
told_from-filter s stays (x ∷ xs) h =
    let rest = told_from-filter (state_after s x.1) stays xs h.1 in
    let here : Told = record { op = x.0; what = x.1; reply = reply_of s x.1 } in
    let others : List Told = filter (λ (t : Told). stays (t.op, t.what)) (told_from (state_after s x.1) xs) in
    elim (stays x) as (λ c. (c || is_read x.1) ≡ true → told_from s (cond c (x ∷ filter stays xs) (filter stays xs)) ≡ cond c (here ∷ others) others) [
      | true ↦ λ _. ap (λ ts. here ∷ ts) rest
      | false ↦ λ e. ap (λ t. told_from t (filter stays xs)) (sym (state_after-read s x.1 e)) ∙ rest
    ] h.0
