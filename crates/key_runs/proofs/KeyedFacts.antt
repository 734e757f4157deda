-- What holds of the history of every run, over all operations on each key, and how one more entry keeps it.
use Rattle.std.proofs.Common.{◌≡◌, ◌≢◌, ℕ, ◌≤◌, true, List, [], ◌∷◌, ◌++◌, filter, Option, Some, None, refl, sym, ap, ◌∙◌, subst, inl, inr, arith, Bool, ◌&&◌}
use Rattle.std.proofs.lemmas.Bool.{false≢true, or_left, or_right, or_cases, and_parts}
use Rattle.std.specs.List.{AllByRecursion}
use Rattle.change_runs.specs.runs.region_map.declared.id.Id.{Id}
use Rattle.change_runs.specs.runs.register_laws.declared.operation.OpId.{OpId}
use Rattle.change_runs.specs.runs.register_laws.declared.operation.Op.{Op}
use Rattle.change_runs.specs.runs.register_laws.declared.operation.Reply.{Reply}
use Rattle.change_runs.specs.runs.exec_types.declared.outcome.Outcome.{Outcome}
use Rattle.change_runs.specs.runs.exec_types.declared.outcome.Outcome.TheVariants.{Done, NotServing, NoMajority}
use Rattle.change_runs.specs.runs.node_core.declared.journal.Entry.{Entry}
use Rattle.change_runs.specs.runs.write_dispatch.declared.decided.Decided.{Decided}
use Rattle.change_runs.specs.runs.Run.{requests, is_requested, is_fresh}
use Rattle.change_runs.specs.runs.Story.{Point, IsIn, answer_in, or_else, answer, is_answered_outcome, is_answered, points, points_of, Requests, IsRequested, goes_before}
use Rattle.change_runs.proofs.step_runs.Told.{has_point, point_times, point_times-append, has_point-append, TookEffect, TookEffect-more, filter-append, IsIn-append, point_before, point_before-left, point_before-across, IsIn-filter}
use Rattle.change_runs.proofs.Asked.{is_keyed, key_path}
use Rattle.change_runs.proofs.step_runs.Facts.{Requests-test, IsRequested-test, fresh_apart, point_times_or, has_point_of}
use Rattle.key_runs.proofs.Keyed.{key_path-cons}

-- ---- what waits, and what was answered

-- an operation that was requested took effect with this reply
abbrev pub Waits : List Entry → Option OpId → Reply → Type 0
Waits past None reply = Unit {0}
Waits past (Some op) reply = (key : List ℕ) × (what : Op) × IsRequested past key op what × TookEffect (key_path past key) op what reply

pub record WaitsKeyed (past : List Entry) (d : Decided) : Type 0 where
  pub waits : Waits past d.op d.reply

pub Waits-more : (past : List Entry) (e : Entry) (op : Option OpId) (reply : Reply) → Waits past op reply → Waits (e ∷ past) op reply
Waits-more past e None reply h = tt
Waits-more past e (Some op) reply h = (
  h.0,
  h.1,
  inr h.2,
  subst (λ (l : List Point). TookEffect l op h.1 reply) (sym (key_path-cons past e h.0))
      (TookEffect-more (key_path past h.0) op h.1 reply (filter (is_keyed h.0) (points_of e.input e.outputs)) h.3),
)

pub WaitsKeyed-more : (past : List Entry) (e : Entry) (ds : List Decided) → AllByRecursion (WaitsKeyed past) ds → AllByRecursion (WaitsKeyed (e ∷ past)) ds
WaitsKeyed-more past e [] h = tt
WaitsKeyed-more past e (d ∷ ds) h = (record { waits = Waits-more past e d.op d.reply h.0.waits }, WaitsKeyed-more past e ds h.1)

-- what a step may answer to an operation
abbrev pub SaysKeyed : List Entry → Entry → OpId → Outcome → Type 0
SaysKeyed past e op (Done reply branch timestamp) = Waits (e ∷ past) (Some op) reply
SaysKeyed past e op NotServing = (requests e.input op ≡ true) × (points_of e.input e.outputs ≡ [])
SaysKeyed past e op (NoMajority counts) = is_requested (e ∷ past) op ≡ true

pub record Says (past : List Entry) (e : Entry) (op : OpId) (outcome : Outcome) : Type 0 where
  pub says : SaysKeyed past e op outcome

pub record History (past : List Entry) : Type 0 where
  pub requested : (p : Point) → IsIn (points past) p → IsRequested past p.key p.op p.what
  pub once : (op : OpId) → point_times (points past) op ≤ 1
  pub answered : (op : OpId) → is_answered past op ≡ true → is_requested past op ≡ true
  pub done : (op : OpId) (reply : Reply) (branch : Id) (timestamp : ℕ) → answer past op ≡ Some (Done reply branch timestamp) → Waits past (Some op) reply
  pub served : (op : OpId) → has_point (points past) op ≡ true → answer past op ≢ Some NotServing

-- what a step of a run adds to the history
pub record Adds (past : List Entry) (e : Entry) : Type 0 where
  pub fresh : is_fresh past e.input ≡ true
  pub new : (p : Point) → IsIn (points_of e.input e.outputs) p → Requests e.input p.key p.op p.what
  pub few : (op : OpId) → point_times (points_of e.input e.outputs) op ≤ 1
  pub says : (op : OpId) (outcome : Outcome) → answer_in e.outputs op ≡ Some outcome → Says past e op outcome

says_requested : (past : List Entry) (e : Entry) (op : OpId) (outcome : Outcome) → SaysKeyed past e op outcome → is_requested (e ∷ past) op ≡ true
says_requested past e op (Done reply branch timestamp) h = IsRequested-test (e ∷ past) h.0 op h.1 h.2
says_requested past e op NotServing h = or_left (requests e.input op) (is_requested past op) h.0
says_requested past e op (NoMajority counts) h = h

History-requested : (past : List Entry) (e : Entry) → History past → Adds past e → (p : Point) → IsIn (points (e ∷ past)) p → IsRequested (e ∷ past) p.key p.op p.what
History-requested past e h a p i =
    elim (IsIn-append (points past) (points_of e.input e.outputs) p i) [
      | inl old ↦ inr (h.requested p old)
      | inr new ↦ inl (a.new p new)
    ]

-- an operation with an old point and a new one
twice : (past : List Entry) (e : Entry) → History past → Adds past e → (op : OpId) (p q : Point) → IsIn (points past) p → p.op ≡ op → IsIn (points_of e.input e.outputs) q → q.op ≡ op → ⊥
twice past e h a op p q i pe j qe =
    let new : requests e.input op ≡ true = ap (requests e.input) (sym qe) ∙ Requests-test e.input q.key q.op q.what (a.new q j) in
    let old : is_requested past op ≡ true = ap (is_requested past) (sym pe) ∙ IsRequested-test past p.key p.op p.what (h.requested p i) in
    fresh_apart past e.input op a.fresh new old

History-once : (past : List Entry) (e : Entry) → History past → Adds past e → (op : OpId) → point_times (points (e ∷ past)) op ≤ 1
History-once past e h a op =
    let sum = point_times-append (points past) (points_of e.input e.outputs) op in
    let old = h.once op in
    let new = a.few op in
    elim (point_times_or (points past) op) [
      | inl z ↦ omega (arith, sum, old, new, z)
      | inr p ↦ elim (point_times_or (points_of e.input e.outputs) op) [
        | inl z ↦ omega (arith, sum, old, new, z)
        | inr q ↦ absurd (twice past e h a op p.0 q.0 p.1 p.2 q.1 q.2)
      ]
    ]

History-answered : (past : List Entry) (e : Entry) → History past → Adds past e → (op : OpId) → is_answered (e ∷ past) op ≡ true → is_requested (e ∷ past) op ≡ true
History-answered past e h a op =
    elim (answer past op) as (λ v. answer past op ≡ v → is_answered_outcome (or_else v (answer_in e.outputs op)) ≡ true → is_requested (e ∷ past) op ≡ true) [
      | Some outcome ↦ λ is _. or_right (requests e.input op) (is_requested past op) (h.answered op (ap is_answered_outcome is))
      | None ↦ λ _ k.
          elim (answer_in e.outputs op) as (λ v. answer_in e.outputs op ≡ v → is_answered_outcome v ≡ true → is_requested (e ∷ past) op ≡ true) [
            | Some outcome ↦ λ is _. says_requested past e op outcome (a.says op outcome is).says
            | None ↦ λ _ no'. absurd (false≢true no')
          ] refl k
    ] refl

History-done : (past : List Entry) (e : Entry) → History past → Adds past e → (op : OpId) (reply : Reply) (branch : Id) (timestamp : ℕ) → answer (e ∷ past) op ≡ Some (Done reply branch timestamp) → Waits (e ∷ past) (Some op) reply
History-done past e h a op reply branch timestamp =
    elim (answer past op) as (λ v. answer past op ≡ v → or_else v (answer_in e.outputs op) ≡ Some (Done reply branch timestamp) → Waits (e ∷ past) (Some op) reply) [
      | Some outcome ↦ λ is k. Waits-more past e (Some op) reply (h.done op reply branch timestamp (is ∙ k))
      | None ↦ λ _ k. (a.says op (Done reply branch timestamp) k).says
    ] refl

History-served : (past : List Entry) (e : Entry) → History past → Adds past e → (op : OpId) → has_point (points (e ∷ past)) op ≡ true → answer (e ∷ past) op ≢ Some NotServing
History-served past e h a op has =
    let where' = or_cases (has_point (points past) op) (has_point (points_of e.input e.outputs) op) (sym (has_point-append (points past) (points_of e.input e.outputs) op) ∙ has) in
    elim (answer past op) as (λ v. answer past op ≡ v → or_else v (answer_in e.outputs op) ≢ Some NotServing) [
      | Some outcome ↦ λ is k.
          elim where' [
            | inl old ↦ h.served op old (is ∙ k)
            | inr new ↦
                let p = has_point_of (points_of e.input e.outputs) op new in
                let req : requests e.input op ≡ true = ap (requests e.input) (sym p.2) ∙ Requests-test e.input p.0.key p.0.op p.0.what (a.new p.0 p.1) in
                fresh_apart past e.input op a.fresh req (h.answered op (ap is_answered_outcome is))
          ]
      | None ↦ λ _ k.
          let s : SaysKeyed past e op NotServing = (a.says op NotServing k).says in
          elim where' [
            | inl old ↦
                let p = has_point_of (points past) op old in
                let req : is_requested past op ≡ true = ap (is_requested past) (sym p.2) ∙ IsRequested-test past p.0.key p.0.op p.0.what (h.requested p.0 p.1) in
                fresh_apart past e.input op a.fresh s.0 req
            | inr new ↦ false≢true (ap (λ (l : List Point). has_point l op) (sym s.1) ∙ new)
          ]
    ] refl

pub History-more : (past : List Entry) (e : Entry) → History past → Adds past e → History (e ∷ past)
History-more past e h a =
    record {
      requested = History-requested past e h a;
      once = History-once past e h a;
      answered = History-answered past e h a;
      done = History-done past e h a;
      served = History-served past e h a;
    }

pub History-nil : History []
History-nil =
    record {
      requested = λ p i. absurd i;
      once = λ op. omega arith;
      answered = λ op h. absurd (false≢true h);
      done = λ op reply branch timestamp h. cc;
      served = λ op h. absurd (false≢true h);
    }

-- ---- operations that did not overlap stand in their order

-- each entry adds to the history as a step of a run does
abbrev pub AddsAlong : List Entry → Type 0
AddsAlong [] = Unit {0}
AddsAlong (e ∷ past) = Adds past e × AddsAlong past

pub History-along : (past : List Entry) → AddsAlong past → History past
History-along [] h = History-nil
History-along (e ∷ past) h = History-more past e (History-along past h.1) h.0

pub goes_before_requested : (past : List Entry) → AddsAlong past → (a b : OpId) → goes_before past a b ≡ true → (is_requested past a ≡ true) × (is_requested past b ≡ true)
goes_before_requested [] h a b g = absurd (false≢true g)
goes_before_requested (e ∷ past) h a b g =
    elim (or_cases (requests e.input b && is_answered past a) (goes_before past a b) g) [
      | inl now ↦
          let both = and_parts (requests e.input b) (is_answered past a) now in (
            or_right (requests e.input a) (is_requested past a) ((History-along past h.1).answered a both.1),
            or_left (requests e.input b) (is_requested past b) both.0,
          )
      | inr earlier ↦
          let both = goes_before_requested past h.1 a b earlier in
          (or_right (requests e.input a) (is_requested past a) both.0, or_right (requests e.input b) (is_requested past b) both.1)
    ]

-- an operation with an old point was requested earlier, one with a new point is requested now
old_point : (q : Point → Bool) (past : List Entry) → History past → (op : OpId) → has_point (filter q (points past)) op ≡ true → is_requested past op ≡ true
old_point q past h op has =
    let p = has_point_of (filter q (points past)) op has in
    let i = IsIn-filter q (points past) p.0 p.1 in
    ap (is_requested past) (sym p.2) ∙ IsRequested-test past p.0.key p.0.op p.0.what (h.requested p.0 i.0)

new_point : (q : Point → Bool) (past : List Entry) (e : Entry) → Adds past e → (op : OpId) → has_point (filter q (points_of e.input e.outputs)) op ≡ true → requests e.input op ≡ true
new_point q past e h op has =
    let p = has_point_of (filter q (points_of e.input e.outputs)) op has in
    let i = IsIn-filter q (points_of e.input e.outputs) p.0 p.1 in
    ap (requests e.input) (sym p.2) ∙ Requests-test e.input p.0.key p.0.op p.0.what (h.new p.0 i.0)

pub in_order : (q : Point → Bool) (past : List Entry) → AddsAlong past → (a b : OpId) → goes_before past a b ≡ true
    → has_point (filter q (points past)) a ≡ true → has_point (filter q (points past)) b ≡ true → point_before (filter q (points past)) a b ≡ true
in_order q [] h a b g i j = absurd (false≢true g)
in_order q (e ∷ past) h a b g i j =
    let old : List Point = filter q (points past) in
    let new : List Point = filter q (points_of e.input e.outputs) in
    let parts : filter q (points (e ∷ past)) ≡ old ++ new = filter-append q (points past) (points_of e.input e.outputs) in
    let known = History-along past h.1 in
    let here = λ (op : OpId) (has : has_point (filter q (points (e ∷ past))) op ≡ true).
    or_cases (has_point old op) (has_point new op) (sym (has_point-append old new op) ∙ (ap (λ (l : List Point). has_point l op) (sym parts) ∙ has)) in
    let apart = λ (op : OpId) (r : is_requested past op ≡ true) (n : has_point new op ≡ true). fresh_apart past e.input op h.0.fresh (new_point q past e h.0 op n) r in
    let goal : point_before (old ++ new) a b ≡ true =
    elim (or_cases (requests e.input b && is_answered past a) (goes_before past a b) g) [
      | inl now ↦
          let both = and_parts (requests e.input b) (is_answered past a) now in
          let a_old : has_point old a ≡ true = elim (here a i) [ inl o ↦ o | inr n ↦ absurd (apart a (known.answered a both.1) n) ] in
          let b_new : has_point new b ≡ true = elim (here b j) [ inl o ↦ absurd (fresh_apart past e.input b h.0.fresh both.0 (old_point q past known b o)) | inr n ↦ n ] in
          point_before-across old new a b a_old b_new
      | inr earlier ↦
          let both = goes_before_requested past h.1 a b earlier in
          let a_old : has_point old a ≡ true = elim (here a i) [ inl o ↦ o | inr n ↦ absurd (apart a both.0 n) ] in
          let b_old : has_point old b ≡ true = elim (here b j) [ inl o ↦ o | inr n ↦ absurd (apart b both.1 n) ] in
          point_before-left old new a b (in_order q past h.1 a b earlier a_old b_old)
    ] in
    ap (λ (l : List Point). point_before l a b) parts ∙ goal
