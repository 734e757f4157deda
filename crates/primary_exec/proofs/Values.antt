-- Pending reads, and the pending operations among which they stand.
use Rattle.std.proofs.Common.{◌≡◌, ◌==◌, ℕ, ◌+◌, ◌<◌, true, false, cond, ◌&&◌, nat_lt, nat_le, List, [], ◌∷◌, ◌++◌, Option, Some, None, option_map, nat_eq, Ok, refl, sym, ap, ◌∙◌, subst, arith}
use Rattle.std.specs.Option.{option_eq}
use Rattle.std.proofs.lemmas.Bool.{and_parts, and_from, ltb-true, eqb-true, eqb-false, false≢true}
use Rattle.std.proofs.lemmas.Bool.Decides.{nat_tests}
use Rattle.write_dispatch.proofs.Queue.{all_above-without_op}
use Rattle.region_map.specs.declared.id.Id.{Id}
use Rattle.register_laws.specs.declared.operation.OpId.{OpId}
use Rattle.register_laws.specs.declared.operation.Reply.{Reply}
use Rattle.register_laws.specs.declared.operation.Reply.TheVariants.{Was}
use Rattle.contract_types.specs.declared.contract.Contract.{Contract}
use Rattle.contract_types.specs.declared.counts.Counts.{Counts}
use Rattle.majority_read.specs.declared.waiting_read.WaitingRead.{WaitingRead}
use Rattle.majority_read.specs.Reads as reads
use Rattle.write_dispatch.specs.declared.decided.Decided.{Decided}
use Rattle.write_dispatch.specs.Dispatch.{Acks, DispatchState, all_below, all_above, is_rising, is_of, with_pending, is_decided, decided_first, behind_first, pending_of, without_op, give_up_answer}
use Rattle.primary_exec.specs.Execution.{answers, answers_under, undecided_under}
use Rattle.primary_exec.specs.Reads.{with_read, with_reads, are_reads_of, IsKept, dispatch_with, without_read_at}
use Rattle.primary_exec.proofs.Decides.{took, took_none}
use Rattle.primary_exec.proofs.Sound.{below-next, below-push, below-behind_first}

-- ---- where the reads stand

pub reads_below : (at : ℕ) (ds : List Decided) (rs : List WaitingRead) → all_below at ds ≡ true → are_reads_of ds rs ≡ true → reads.all_below at rs ≡ true
reads_below at ds [] h k = refl
reads_below at [] (r ∷ rs) h k = absurd (false≢true k)
reads_below at (d ∷ ds) (r ∷ rs) h k =
    let below = and_parts (nat_lt d.at at) (all_below at ds) h in
    elim (d.at == r.at) as (λ c. (d.at == r.at) ≡ c → cond c (is_of r.op d.op && are_reads_of ds rs) (are_reads_of ds (r ∷ rs)) ≡ true → reads.all_below at (r ∷ rs) ≡ true) [
      | true ↦ λ e m.
          let same : d.at ≡ r.at = eqb-true d.at r.at e in
          and_from (nat_lt r.at at) (reads.all_below at rs) (ap (λ n. nat_lt n at) (sym same) ∙ below.0) (reads_below at ds rs below.1 (and_parts (is_of r.op d.op) (are_reads_of ds rs) m).1)
      | false ↦ λ e m. reads_below at ds (r ∷ rs) below.1 m
    ] refl k

reads_above : (at : ℕ) (ds : List Decided) (rs : List WaitingRead) → all_above at ds ≡ true → are_reads_of ds rs ≡ true → reads.all_above at rs ≡ true
reads_above at ds [] h k = refl
reads_above at [] (r ∷ rs) h k = absurd (false≢true k)
reads_above at (d ∷ ds) (r ∷ rs) h k =
    let above = and_parts (nat_lt at d.at) (all_above at ds) h in
    elim (d.at == r.at) as (λ c. (d.at == r.at) ≡ c → cond c (is_of r.op d.op && are_reads_of ds rs) (are_reads_of ds (r ∷ rs)) ≡ true → reads.all_above at (r ∷ rs) ≡ true) [
      | true ↦ λ e m.
          let same : d.at ≡ r.at = eqb-true d.at r.at e in
          and_from (nat_lt at r.at) (reads.all_above at rs) (ap (λ n. nat_lt at n) (sym same) ∙ above.0) (reads_above at ds rs above.1 (and_parts (is_of r.op d.op) (are_reads_of ds rs) m).1)
      | false ↦ λ e m. reads_above at ds (r ∷ rs) above.1 m
    ] refl k

-- ---- one more pending operation

with_none : (ds : List Decided) → with_reads ds [] ≡ ds
with_none [] = refl
with_none (d ∷ ds) = refl

none_of : (ds : List Decided) → are_reads_of ds [] ≡ true
none_of [] = refl
none_of (d ∷ ds) = refl

-- one more that is no read
pub record IsPushed (ds : List Decided) (rs : List WaitingRead) (d : Decided) : Type 0 where
  pub shown : with_reads (ds ++ d ∷ []) rs ≡ with_reads ds rs ++ d ∷ []
  pub kept : are_reads_of (ds ++ d ∷ []) rs ≡ true

pub pushed : (ds : List Decided) (rs : List WaitingRead) (d : Decided) → are_reads_of ds rs ≡ true → IsPushed ds rs d
pushed ds [] d k = record { shown = with_none (ds ++ d ∷ []) ∙ ap (λ (l : List Decided). l ++ d ∷ []) (sym (with_none ds)); kept = refl }
pushed [] (r ∷ rs) d k = absurd (false≢true k)
pushed (x ∷ ds) (r ∷ rs) d k =
    elim (x.at == r.at) as (λ c. (x.at == r.at) ≡ c → cond c (is_of r.op x.op && are_reads_of ds rs) (are_reads_of ds (r ∷ rs)) ≡ true → IsPushed (x ∷ ds) (r ∷ rs) d) [
      | true ↦ λ e m.
          let parts = and_parts (is_of r.op x.op) (are_reads_of ds rs) m in
          let rest = pushed ds rs d parts.1 in
          record {
            shown = rw e (ap (λ (l : List Decided). with_read x (Some r) ∷ l) rest.shown);
            kept = rw e (and_from (is_of r.op x.op) (are_reads_of (ds ++ d ∷ []) rs) parts.0 rest.kept);
          }
      | false ↦ λ e m.
          let rest = pushed ds (r ∷ rs) d m in
          record { shown = rw e (ap (λ (l : List Decided). x ∷ l) rest.shown); kept = rw e rest.kept }
    ] refl k

-- one more read
pub record IsAsked (ds : List Decided) (rs : List WaitingRead) (d : Decided) (r : WaitingRead) : Type 0 where
  pub shown : with_reads (ds ++ d ∷ []) (rs ++ r ∷ []) ≡ with_reads ds rs ++ with_read d (Some r) ∷ []
  pub kept : are_reads_of (ds ++ d ∷ []) (rs ++ r ∷ []) ≡ true

same_at : (a b : ℕ) → a ≡ b → (a == b) ≡ true
same_at a b e = grind (arith, nat_tests)

apart_at : (a b : ℕ) → a < b → (a == b) ≡ false
apart_at a b l = grind (arith, nat_tests)

pub asked : (ds : List Decided) (rs : List WaitingRead) (d : Decided) (r : WaitingRead) → are_reads_of ds rs ≡ true → all_below d.at ds ≡ true → d.at ≡ r.at → is_of r.op d.op ≡ true → IsAsked ds rs d r
asked [] [] d r k below at op =
    let e = same_at d.at r.at at in
    record { shown = rw e refl; kept = rw e (and_from (is_of r.op d.op) true op refl) }
asked [] (q ∷ rs) d r k below at op = absurd (false≢true k)
asked (x ∷ ds) [] d r k below at op =
    let parts = and_parts (nat_lt x.at d.at) (all_below d.at ds) below in
    let less : x.at < d.at = ltb-true x.at d.at parts.0 in
    let e = apart_at x.at r.at (omega arith) in
    let rest = asked ds [] d r refl parts.1 at op in
    record { shown = rw e (ap (λ (l : List Decided). x ∷ l) (rest.shown ∙ ap (λ (l : List Decided). l ++ with_read d (Some r) ∷ []) (with_none ds))); kept = rw e rest.kept }
asked (x ∷ ds) (q ∷ rs) d r k below at op =
    let later = (and_parts (nat_lt x.at d.at) (all_below d.at ds) below).1 in
    elim (x.at == q.at) as (λ c. (x.at == q.at) ≡ c → cond c (is_of q.op x.op && are_reads_of ds rs) (are_reads_of ds (q ∷ rs)) ≡ true → IsAsked (x ∷ ds) (q ∷ rs) d r) [
      | true ↦ λ e m.
          let parts = and_parts (is_of q.op x.op) (are_reads_of ds rs) m in
          let rest = asked ds rs d r parts.1 later at op in
          record {
            shown = rw e (ap (λ (l : List Decided). with_read x (Some q) ∷ l) rest.shown);
            kept = rw e (and_from (is_of q.op x.op) (are_reads_of (ds ++ d ∷ []) (rs ++ r ∷ [])) parts.0 rest.kept);
          }
      | false ↦ λ e m.
          let rest = asked ds (q ∷ rs) d r m later at op in
          record { shown = rw e (ap (λ (l : List Decided). x ∷ l) rest.shown); kept = rw e rest.kept }
    ] refl k

same_op : (op : OpId) → is_of op (Some op) ≡ true
same_op op = same_at op.0 op.0 refl

-- an operation was dispatched, and is no read
pub record IsDispatched (at : ℕ) (p : DispatchState) (rs : List WaitingRead) (q : DispatchState) (qs : List WaitingRead) (op : OpId) (reply : Reply) : Type 0 where
  pub shown : dispatch_with q qs ≡ with_pending (dispatch_with p rs) (Some op) at reply
  pub kept : IsKept (at + 1) q.waiting qs

pub dispatched : (at : ℕ) (p q : DispatchState) (rs : List WaitingRead) (op : OpId) (reply : Reply) → IsKept at p.waiting rs → q ≡ with_pending p (Some op) at reply → IsDispatched at p rs q rs op reply
dispatched at p q rs op reply k e =
    let d : Decided = record { op = Some op; at = at; reply = reply } in
    let one = pushed p.waiting rs d k.reads_of in
    subst (λ (v : DispatchState). IsDispatched at p rs v rs op reply) (sym e)
    (record {
      shown = ap (λ (w : List Decided). let v : DispatchState = record { waiting = w; acks = p.acks } in v) one.shown;
      kept = record { below = below-push at p.waiting d k.below refl; reads_of = one.kept };
    })

-- a read was dispatched, with this value
pub dispatched_read : (at : ℕ) (p q : DispatchState) (rs qs : List WaitingRead) (op : OpId) (value : Option (List ℕ)) → IsKept at p.waiting rs → q ≡ with_pending p (Some op) at (Was None)
    → qs ≡ rs ++ record { op = op; at = at; value = value } ∷ [] → IsDispatched at p rs q qs op (Was value)
dispatched_read at p q rs qs op value k e f =
    let d : Decided = record { op = Some op; at = at; reply = Was None } in
    let r : WaitingRead = record { op = op; at = at; value = value } in
    let one = asked p.waiting rs d r k.reads_of k.below refl (same_op op) in
    subst (λ (v : DispatchState). IsDispatched at p rs v qs op (Was value)) (sym e)
    (subst (λ (ys : List WaitingRead). IsDispatched at p rs (with_pending p (Some op) at (Was None)) ys op (Was value)) (sym f)
    (record {
      shown = ap (λ (w : List Decided). let v : DispatchState = record { waiting = w; acks = p.acks } in v) one.shown;
      kept = record { below = below-push at p.waiting d k.below refl; reads_of = one.kept };
    }))

pub kept-next : (at : ℕ) (ds : List Decided) (rs : List WaitingRead) → IsKept at ds rs → IsKept (at + 1) ds rs
kept-next at ds rs k = record { below = below-next at ds k.below; reads_of = k.reads_of }

-- ---- the first is taken

pub record IsTaken (acks : Acks) (c : Contract) (me : ℕ) (ds : List Decided) (rs : List WaitingRead) (d : Decided) : Type 0 where
  pub first : Some (with_read d (reads.first_upto d.at rs)) ≡ decided_first acks c me (with_reads ds rs)
  pub shown : with_reads (behind_first acks c me ds) (reads.behind_upto d.at rs) ≡ behind_first acks c me (with_reads ds rs)
  pub kept : are_reads_of (behind_first acks c me ds) (reads.behind_upto d.at rs) ≡ true
  pub rises : is_rising (behind_first acks c me ds) ≡ true

-- the first read is that of the first pending operation, or stands above it
record IsFirst (d : Decided) (ds : List Decided) (rs : List WaitingRead) : Type 0 where
  shown : with_reads (d ∷ ds) rs ≡ with_read d (reads.first_upto d.at rs) ∷ with_reads ds (reads.behind_upto d.at rs)
  kept : are_reads_of ds (reads.behind_upto d.at rs) ≡ true

le_same : (a b : ℕ) → a ≡ b → nat_le b a ≡ true
le_same a b e = grind (arith, nat_tests)

le_above : (a b : ℕ) → a < b → nat_le b a ≡ false
le_above a b l = grind (arith, nat_tests)

first_read : (d : Decided) (ds : List Decided) (rs : List WaitingRead) → all_above d.at ds ≡ true → are_reads_of (d ∷ ds) rs ≡ true → IsFirst d ds rs
first_read d ds [] above k = record { shown = ap (λ (l : List Decided). d ∷ l) (sym (with_none ds)); kept = refl }
first_read d ds (r ∷ rs) above k =
    elim (d.at == r.at) as (λ c. (d.at == r.at) ≡ c → cond c (is_of r.op d.op && are_reads_of ds rs) (are_reads_of ds (r ∷ rs)) ≡ true → IsFirst d ds (r ∷ rs)) [
      | true ↦ λ e m.
          let upto = le_same d.at r.at (eqb-true d.at r.at e) in
          record { shown = rw (e, upto) refl; kept = rw upto (and_parts (is_of r.op d.op) (are_reads_of ds rs) m).1 }
      | false ↦ λ e m.
          let later : d.at < r.at = ltb-true d.at r.at (and_parts (nat_lt d.at r.at) (reads.all_above d.at rs) (reads_above d.at ds (r ∷ rs) above m)).0 in
          let upto = le_above d.at r.at later in
          record { shown = rw (e, upto) refl; kept = rw upto m }
    ] refl k

with_read-at : (d : Decided) (o : Option WaitingRead) → (with_read d o).at ≡ d.at
with_read-at d None = refl
with_read-at d (Some r) = refl

pub taken : (acks : Acks) (c : Contract) (me : ℕ) (ds : List Decided) (rs : List WaitingRead) (d : Decided) → Some d ≡ decided_first acks c me ds → is_rising ds ≡ true → are_reads_of ds rs ≡ true → IsTaken acks c me ds rs d
taken acks c me [] rs d h rises k = absurd (cc)
taken acks c me (x ∷ ds) rs d h rises k =
    let order = and_parts (all_above x.at ds) (is_rising ds) rises in
    elim (is_decided acks c me x.at) as (λ b. is_decided acks c me x.at ≡ b → Some d ≡ cond b (Some x) None → IsTaken acks c me (x ∷ ds) rs d) [
      | true ↦ λ e m.
          let same : x ≡ d = cc in
          let first = first_read x ds rs order.0 k in
          let shown = with_read x (reads.first_upto x.at rs) in
          let decided : is_decided acks c me shown.at ≡ true = ap (is_decided acks c me) (with_read-at x (reads.first_upto x.at rs)) ∙ e in
          subst (λ (y : Decided). IsTaken acks c me (x ∷ ds) rs y) same
          (record {
            first = sym (ap (decided_first acks c me) first.shown ∙ ap (λ b. cond b (Some shown) None) decided);
            shown = ap (λ b. with_reads (cond b ds (x ∷ ds)) (reads.behind_upto x.at rs)) e
                ∙ sym (ap (behind_first acks c me) first.shown ∙ ap (λ b. cond b (with_reads ds (reads.behind_upto x.at rs)) (shown ∷ with_reads ds (reads.behind_upto x.at rs))) decided);
            kept = ap (λ b. are_reads_of (cond b ds (x ∷ ds)) (reads.behind_upto x.at rs)) e ∙ first.kept;
            rises = ap (λ b. is_rising (cond b ds (x ∷ ds))) e ∙ order.1;
          })
      | false ↦ λ e m. absurd (cc)
    ] refl h

pub behind_none : (acks : Acks) (c : Contract) (me : ℕ) (ds : List Decided) → None ≡ decided_first acks c me ds → behind_first acks c me ds ≡ ds
behind_none acks c me [] h = refl
behind_none acks c me (x ∷ ds) h =
    elim (is_decided acks c me x.at) as (λ b. None ≡ cond b (Some x) None → cond b ds (x ∷ ds) ≡ x ∷ ds) [
      | true ↦ λ m. absurd (cc)
      | false ↦ λ _. refl
    ] h

pub taken_none : (acks : Acks) (c : Contract) (me : ℕ) (ds : List Decided) (rs : List WaitingRead) → None ≡ decided_first acks c me ds → is_rising ds ≡ true → are_reads_of ds rs ≡ true → None ≡ decided_first acks c me (with_reads ds rs)
taken_none acks c me [] rs h rises k = refl
taken_none acks c me (x ∷ ds) rs h rises k =
    let first = first_read x ds rs (and_parts (all_above x.at ds) (is_rising ds) rises).0 k in
    elim (is_decided acks c me x.at) as (λ b. is_decided acks c me x.at ≡ b → None ≡ cond b (Some x) None → None ≡ decided_first acks c me (with_reads (x ∷ ds) rs)) [
      | true ↦ λ e m. absurd (cc)
      | false ↦ λ e m.
          let decided : is_decided acks c me (with_read x (reads.first_upto x.at rs)).at ≡ false = ap (is_decided acks c me) (with_read-at x (reads.first_upto x.at rs)) ∙ e in
          sym (ap (decided_first acks c me) first.shown ∙ ap (λ b. cond b (Some (with_read x (reads.first_upto x.at rs))) None) decided)
    ] refl h

-- what is left once the first is answered
pub record IsAnswered (acks : Acks) (c : Contract) (me : ℕ) (branch : Id) (ds : List Decided) (rs : List WaitingRead) (v : Decided) (es : List Decided) (qs : List WaitingRead) : Type 0 where
  pub rest : undecided_under acks c me (with_reads es qs) ≡ undecided_under acks c me (with_reads ds rs)
  pub said : answers_under acks c me branch (with_reads ds rs) ≡ answers branch v v.op ++ answers_under acks c me branch (with_reads es qs)
  pub below : (at : ℕ) → all_below at ds ≡ true → all_below at es ≡ true
  pub rises : is_rising es ≡ true
  pub kept : are_reads_of es qs ≡ true

pub answered : (acks : Acks) (c : Contract) (me : ℕ) (branch : Id) (p q : DispatchState) (rs : List WaitingRead) (d v : Decided) (qs : List WaitingRead)
    → p.acks ≡ acks → Some d ≡ decided_first p.acks c me p.waiting → q ≡ record p { waiting = behind_first p.acks c me p.waiting } → v ≡ with_read d (reads.first_upto d.at rs) → qs ≡ reads.behind_upto d.at rs
    → is_rising p.waiting ≡ true → are_reads_of p.waiting rs ≡ true → IsAnswered acks c me branch p.waiting rs v q.waiting qs
answered acks c me branch p q rs d v qs same h e f g rises k =
    let ds : List Decided = p.waiting in
    let taken_first : Some d ≡ decided_first acks c me ds = h ∙ ap (λ (a : Acks). decided_first a c me ds) same in
    let behind : q.waiting ≡ behind_first acks c me ds = ap (λ (x : DispatchState). x.waiting) e ∙ ap (λ (a : Acks). behind_first a c me ds) same in
    let t = taken acks c me ds rs d taken_first rises k in
    let first : Some v ≡ decided_first acks c me (with_reads ds rs) = ap (λ (w : Decided). let o : Option Decided = Some w in o) f ∙ t.first in
    let one = took acks c me branch (with_reads ds rs) v first in
    let shown : with_reads q.waiting qs ≡ behind_first acks c me (with_reads ds rs) = ap (λ (l : List Decided). with_reads l qs) behind ∙ ap (with_reads (behind_first acks c me ds)) g ∙ t.shown in
    record {
      rest = ap (undecided_under acks c me) shown ∙ sym one.rest;
      said = one.said ∙ ap (λ (l : List Decided). answers branch v v.op ++ answers_under acks c me branch l) (sym shown);
      below = λ at b. ap (all_below at) behind ∙ below-behind_first at acks c me ds b;
      rises = ap is_rising behind ∙ t.rises;
      kept = ap (λ (l : List Decided). are_reads_of l qs) behind ∙ ap (are_reads_of (behind_first acks c me ds)) g ∙ t.kept;
    }

-- what is left where the first is not decided
pub record IsUndecided (acks : Acks) (c : Contract) (me : ℕ) (branch : Id) (ds : List Decided) (rs : List WaitingRead) (es : List Decided) : Type 0 where
  pub rest : with_reads es rs ≡ undecided_under acks c me (with_reads ds rs)
  pub said : answers_under acks c me branch (with_reads ds rs) ≡ []

pub undecided : (acks : Acks) (c : Contract) (me : ℕ) (branch : Id) (p q : DispatchState) (rs : List WaitingRead)
    → p.acks ≡ acks → None ≡ decided_first p.acks c me p.waiting → q ≡ record p { waiting = behind_first p.acks c me p.waiting }
    → is_rising p.waiting ≡ true → are_reads_of p.waiting rs ≡ true → IsUndecided acks c me branch p.waiting rs q.waiting
undecided acks c me branch p q rs same h e rises k =
    let ds : List Decided = p.waiting in
    let none : None ≡ decided_first acks c me ds = h ∙ ap (λ (a : Acks). decided_first a c me ds) same in
    let behind : q.waiting ≡ behind_first acks c me ds = ap (λ (x : DispatchState). x.waiting) e ∙ ap (λ (a : Acks). behind_first a c me ds) same in
    let none_shown = taken_none acks c me ds rs none rises k in
    let t = took_none acks c me branch (with_reads ds rs) none_shown in
    record {
      rest = ap (λ (l : List Decided). with_reads l rs) (behind ∙ behind_none acks c me ds none) ∙ sym (t.rest ∙ behind_none acks c me (with_reads ds rs) none_shown);
      said = t.said;
    }

-- ---- one is given up

-- the counts of an operation do not depend on its reply
pub answer-with : (acks : Acks) (c : Contract) (me : ℕ) (op : OpId) (ds : List Decided) (rs : List WaitingRead) → give_up_answer acks c me (pending_of (with_reads ds rs) op) ≡ give_up_answer acks c me (pending_of ds op)
answer-with acks c me op [] rs = refl
answer-with acks c me op (d ∷ ds) [] = refl
answer-with acks c me op (d ∷ ds) (r ∷ rs) =
    elim (d.at == r.at) as (λ e. give_up_answer acks c me (pending_of (cond e (with_read d (Some r) ∷ with_reads ds rs) (d ∷ with_reads ds (r ∷ rs))) op) ≡ give_up_answer acks c me (pending_of (d ∷ ds) op)) [
      | true ↦ elim (is_of op d.op) as (λ b. give_up_answer acks c me (cond b (Some (with_read d (Some r))) (pending_of (with_reads ds rs) op)) ≡ give_up_answer acks c me (cond b (Some d) (pending_of ds op))) [ true ↦ refl | false ↦ answer-with acks c me op ds rs ]
      | false ↦ elim (is_of op d.op) as (λ b. give_up_answer acks c me (cond b (Some d) (pending_of (with_reads ds (r ∷ rs)) op)) ≡ give_up_answer acks c me (cond b (Some d) (pending_of ds op))) [ true ↦ refl | false ↦ answer-with acks c me op ds (r ∷ rs) ]
    ]

-- a pending operation that no read is of stands as it is
skipped : (x : Decided) (ds : List Decided) (rs : List WaitingRead) → reads.all_above x.at rs ≡ true → with_reads (x ∷ ds) rs ≡ x ∷ with_reads ds rs
skipped x ds [] h = ap (λ (l : List Decided). x ∷ l) (sym (with_none ds))
skipped x ds (r ∷ rs) h =
    let above : x.at < r.at = ltb-true x.at r.at (and_parts (nat_lt x.at r.at) (reads.all_above x.at rs) h).0 in
    ap (λ b. cond b (with_read x (Some r) ∷ with_reads ds rs) (x ∷ with_reads ds (r ∷ rs))) (apart_at x.at r.at above)

skipped_reads : (x : Decided) (ds : List Decided) (rs : List WaitingRead) → reads.all_above x.at rs ≡ true → are_reads_of (x ∷ ds) rs ≡ are_reads_of ds rs
skipped_reads x [] [] h = refl
skipped_reads x (d ∷ ds) [] h = refl
skipped_reads x ds (r ∷ rs) h =
    let above : x.at < r.at = ltb-true x.at r.at (and_parts (nat_lt x.at r.at) (reads.all_above x.at rs) h).0 in
    ap (λ b. cond b (is_of r.op x.op && are_reads_of ds rs) (are_reads_of ds (r ∷ rs))) (apart_at x.at r.at above)

same_ops : (op : OpId) (r : WaitingRead) (o : Option OpId) → is_of r.op o ≡ true → reads.is_read_of op r ≡ is_of op o
same_ops op r None h = absurd (false≢true h)
same_ops op r (Some q) h = ap (λ n. n == op.0) (sym (eqb-true q.0 r.op.0 h))

sync_above : (at : ℕ) (op : OpId) (rs : List WaitingRead) → reads.all_above at rs ≡ true → reads.sync_of op rs ≡ Some at → ⊥
sync_above at op [] h e = cc
sync_above at op (r ∷ rs) h e =
    let both = and_parts (nat_lt at r.at) (reads.all_above at rs) h in
    let above : at < r.at = ltb-true at r.at both.0 in
    elim (reads.is_read_of op r) as (λ b. cond b (Some r.at) (reads.sync_of op rs) ≡ Some at → ⊥) [
      | true ↦ λ m. let same : r.at ≡ at = cc in omega arith
      | false ↦ λ m. sync_above at op rs both.1 m
    ] e

-- the operation left, and with it its read, where it is one
pub record IsLeft (op : OpId) (ds : List Decided) (rs qs : List WaitingRead) : Type 0 where
  pub shown : with_reads (without_op ds op) qs ≡ without_op (with_reads ds rs) op
  pub kept : are_reads_of (without_op ds op) qs ≡ true

left_later : (op : OpId) (x : Decided) (ds : List Decided) (rs qs : List WaitingRead) → is_of op x.op ≡ false → all_above x.at ds ≡ true → are_reads_of ds rs ≡ true → IsLeft op ds rs qs → IsLeft op (x ∷ ds) rs qs
left_later op x ds rs qs other above k rest =
    let left_above = reads_above x.at (without_op ds op) qs (all_above-without_op x.at ds op above) rest.kept in
    let all_above = reads_above x.at ds rs above k in
    record {
      shown = ap (λ b. with_reads (cond b ds (x ∷ without_op ds op)) qs) other ∙ skipped x (without_op ds op) qs left_above
          ∙ ap (λ (l : List Decided). x ∷ l) rest.shown
          ∙ sym (ap (λ (l : List Decided). without_op l op) (skipped x ds rs all_above) ∙ ap (λ b. cond b (with_reads ds rs) (x ∷ without_op (with_reads ds rs) op)) other);
      kept = ap (λ b. are_reads_of (cond b ds (x ∷ without_op ds op)) qs) other ∙ skipped_reads x (without_op ds op) qs left_above ∙ rest.kept;
    }

left_beside : (op : OpId) (x : Decided) (ds : List Decided) (r : WaitingRead) (rs qs : List WaitingRead) → is_of op x.op ≡ false → (x.at == r.at) ≡ true → is_of r.op x.op ≡ true → IsLeft op ds rs qs → IsLeft op (x ∷ ds) (r ∷ rs) (r ∷ qs)
left_beside op x ds r rs qs other at of rest =
    record {
      shown = rw (other, at, other) (ap (λ (l : List Decided). with_read x (Some r) ∷ l) rest.shown);
      kept = rw (other, at, of) rest.kept;
    }

pub left_read : (op : OpId) (ds : List Decided) (rs : List WaitingRead) (d : Decided) → pending_of ds op ≡ Some d → reads.sync_of op rs ≡ Some d.at → is_rising ds ≡ true → are_reads_of ds rs ≡ true → IsLeft op ds rs (reads.without_read_of op rs)
left_read op [] rs d p s rises k = absurd (cc)
left_read op (x ∷ ds) [] d p s rises k = absurd (cc)
left_read op (x ∷ ds) (r ∷ rs) d p s rises k =
    let order = and_parts (all_above x.at ds) (is_rising ds) rises in
    elim (x.at == r.at) as (λ e. (x.at == r.at) ≡ e → cond e (is_of r.op x.op && are_reads_of ds rs) (are_reads_of ds (r ∷ rs)) ≡ true → IsLeft op (x ∷ ds) (r ∷ rs) (reads.without_read_of op (r ∷ rs))) [
      | true ↦ λ e m.
          let parts = and_parts (is_of r.op x.op) (are_reads_of ds rs) m in
          elim (is_of op x.op) as (λ b. is_of op x.op ≡ b → IsLeft op (x ∷ ds) (r ∷ rs) (reads.without_read_of op (r ∷ rs))) [
            | true ↦ λ of.
                let same = same_ops op r x.op parts.0 ∙ of in
                record { shown = rw (of, same, e, of) refl; kept = rw (of, same) parts.1 }
            | false ↦ λ other.
                let apart = same_ops op r x.op parts.0 ∙ other in
                let later : pending_of ds op ≡ Some d = ap (λ b. cond b (Some x) (pending_of ds op)) (sym other) ∙ p in
                let sync : reads.sync_of op rs ≡ Some d.at = ap (λ b. cond b (Some r.at) (reads.sync_of op rs)) (sym apart) ∙ s in
                subst (λ (qs : List WaitingRead). IsLeft op (x ∷ ds) (r ∷ rs) qs) (ap (λ b. cond b rs (r ∷ reads.without_read_of op rs)) (sym apart))
                (left_beside op x ds r rs (reads.without_read_of op rs) other e parts.0 (left_read op ds rs d later sync order.1 parts.1))
          ] refl
      | false ↦ λ e m.
          elim (is_of op x.op) as (λ b. is_of op x.op ≡ b → IsLeft op (x ∷ ds) (r ∷ rs) (reads.without_read_of op (r ∷ rs))) [
            | true ↦ λ of.
                let first : Some x ≡ Some d = ap (λ b. cond b (Some x) (pending_of ds op)) (sym of) ∙ p in
                let same : d ≡ x = cc in
                absurd (sync_above x.at op (r ∷ rs) (reads_above x.at ds (r ∷ rs) order.0 m) (s ∙ ap (λ (y : Decided). Some y.at) same))
            | false ↦ λ other.
                let later : pending_of ds op ≡ Some d = ap (λ b. cond b (Some x) (pending_of ds op)) (sym other) ∙ p in
                left_later op x ds (r ∷ rs) (reads.without_read_of op (r ∷ rs)) other order.0 m (left_read op ds (r ∷ rs) d later s order.1 m)
          ] refl
    ] refl k

pub left_other : (op : OpId) (ds : List Decided) (rs : List WaitingRead) (d : Decided) → pending_of ds op ≡ Some d → (reads.sync_of op rs ≡ Some d.at → ⊥) → is_rising ds ≡ true → are_reads_of ds rs ≡ true → IsLeft op ds rs rs
left_other op [] rs d p s rises k = absurd (cc)
left_other op (x ∷ ds) [] d p s rises k =
    record { shown = with_none (without_op (x ∷ ds) op); kept = none_of (without_op (x ∷ ds) op) }
left_other op (x ∷ ds) (r ∷ rs) d p s rises k =
    let order = and_parts (all_above x.at ds) (is_rising ds) rises in
    elim (x.at == r.at) as (λ e. (x.at == r.at) ≡ e → cond e (is_of r.op x.op && are_reads_of ds rs) (are_reads_of ds (r ∷ rs)) ≡ true → IsLeft op (x ∷ ds) (r ∷ rs) (r ∷ rs)) [
      | true ↦ λ e m.
          let parts = and_parts (is_of r.op x.op) (are_reads_of ds rs) m in
          elim (is_of op x.op) as (λ b. is_of op x.op ≡ b → IsLeft op (x ∷ ds) (r ∷ rs) (r ∷ rs)) [
            | true ↦ λ of.
                let same = same_ops op r x.op parts.0 ∙ of in
                let first : Some x ≡ Some d = ap (λ b. cond b (Some x) (pending_of ds op)) (sym of) ∙ p in
                let here : d ≡ x = cc in
                absurd (s (ap (λ b. cond b (Some r.at) (reads.sync_of op rs)) same ∙ ap (λ n. let o : Option ℕ = Some n in o) (sym (eqb-true x.at r.at e) ∙ ap (λ (y : Decided). y.at) (sym here))))
            | false ↦ λ other.
                let apart = same_ops op r x.op parts.0 ∙ other in
                let later : pending_of ds op ≡ Some d = ap (λ b. cond b (Some x) (pending_of ds op)) (sym other) ∙ p in
                left_beside op x ds r rs rs other e parts.0 (left_other op ds rs d later (λ t. s (ap (λ b. cond b (Some r.at) (reads.sync_of op rs)) apart ∙ t)) order.1 parts.1)
          ] refl
      | false ↦ λ e m.
          elim (is_of op x.op) as (λ b. is_of op x.op ≡ b → IsLeft op (x ∷ ds) (r ∷ rs) (r ∷ rs)) [
            | true ↦ λ of. record { shown = rw (of, e, of) refl; kept = rw of m }
            | false ↦ λ other.
                let later : pending_of ds op ≡ Some d = ap (λ b. cond b (Some x) (pending_of ds op)) (sym other) ∙ p in
                left_later op x ds (r ∷ rs) (r ∷ rs) other order.0 m (left_other op ds (r ∷ rs) d later s order.1 m)
          ] refl
    ] refl k

some_of : (acks : Acks) (c : Contract) (me : ℕ) (o : Option Decided) (counts : Counts) → Ok counts ≡ give_up_answer acks c me o → (d : Decided) × (o ≡ Some d)
some_of acks c me None counts h = absurd (cc)
some_of acks c me (Some d) counts h = (d, refl)

same_sync : (o : Option ℕ) (at : ℕ) → option_eq nat_eq o (Some at) ≡ true → o ≡ Some at
same_sync None at h = absurd (false≢true h)
same_sync (Some n) at h = ap (λ m. let o : Option ℕ = Some m in o) (eqb-true n at h)

other_sync : (o : Option ℕ) (at : ℕ) → option_eq nat_eq o (Some at) ≡ false → o ≡ Some at → ⊥
other_sync None at h e = cc
other_sync (Some n) at h e = let same : n ≡ at = cc in eqb-false n at h same

pub left : (acks : Acks) (c : Contract) (me : ℕ) (op : OpId) (ds : List Decided) (rs : List WaitingRead) (counts : Counts) → Ok counts ≡ give_up_answer acks c me (pending_of ds op) → is_rising ds ≡ true → are_reads_of ds rs ≡ true
    → IsLeft op ds rs (without_read_at op (option_map (λ (d : Decided). d.at) (pending_of ds op)) rs)
left acks c me op ds rs counts h rises k =
    let found = some_of acks c me (pending_of ds op) counts h in
    let d = found.0 in
    subst (λ (o : Option Decided). IsLeft op ds rs (without_read_at op (option_map (λ (d : Decided). d.at) o) rs)) (sym found.1)
    (elim (option_eq nat_eq (reads.sync_of op rs) (Some d.at)) as (λ b. option_eq nat_eq (reads.sync_of op rs) (Some d.at) ≡ b → IsLeft op ds rs (cond b (reads.without_read_of op rs) rs)) [
      | true ↦ λ e. left_read op ds rs d found.1 (same_sync (reads.sync_of op rs) d.at e) rises k
      | false ↦ λ e. left_other op ds rs d found.1 (other_sync (reads.sync_of op rs) d.at e) rises k
    ] refl)
