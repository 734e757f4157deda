-- The story of all operations on a key is a register story.
use Rattle.std.proofs.Common.{◌≡◌, ◌≢◌, ℕ, ◌≤◌, Bool, true, false, not, ◌&&◌, ◌||◌, List, [], ◌∷◌, ◌++◌, filter, Some, None, refl, sym, ap, ◌∙◌, subst, inl, inr, arith, append_assoc, append-nil}
use Rattle.std.proofs.lemmas.Bool.{false≢true, or_left, or_right, or_parts, not-false}
use Rattle.change_runs.specs.runs.region_map.declared.id.Id.{Id}
use Rattle.change_runs.specs.runs.contract_types.Setup.{SetupState}
use Rattle.change_runs.specs.runs.register_laws.declared.operation.OpId.{OpId}
use Rattle.change_runs.specs.runs.register_laws.declared.operation.Op.{Op}
use Rattle.change_runs.specs.runs.register_laws.declared.operation.Reply.{Reply}
use Rattle.change_runs.specs.runs.register_laws.declared.operation.Told.{Told}
use Rattle.change_runs.specs.runs.register_laws.Lists.{is_read, same_op}
use Rattle.change_runs.specs.runs.exec_types.declared.input.Input.{Input}
use Rattle.change_runs.specs.runs.exec_types.declared.input.Input.TheVariants.{Request, GiveUp, See, Tick, Deliver, Crash, Restart}
use Rattle.change_runs.specs.runs.exec_types.declared.outcome.Outcome.TheVariants.{Done, NotServing}
use Rattle.change_runs.specs.runs.node_core.declared.journal.Entry.{Entry}
use Rattle.change_runs.specs.runs.Story.{Point, IsIn, times, has_told, StandsOnce, stands_before, answer_in, or_else, answer, is_done_outcome, is_done, goes_before, points, points_of, is_shown, is_shown_point, is_shown_told, story, Requests, IsRequested, keep_done, up_to_done, IsRegisterStory}
use Rattle.change_runs.proofs.step_runs.Told.{after, told, legal_told, told-append, LeavesReads, at_point, at_told, told-filter, filter-append, filter-filter, filter_stricter, IsIn-filter, IsIn-told, times-told, point_times-filter, has_point, has_told-told, stands_before-told, point_before, TookEffect, TookEffect-told}
use Rattle.change_runs.proofs.Asked.{is_keyed, key_path}
use Rattle.change_runs.proofs.step_runs.Facts.{same_op-refl, Requests-test, IsRequested-test, fresh_apart}
use Rattle.key_runs.proofs.Keyed.{keyed_story, KeepsKeyed}
use Rattle.key_runs.proofs.KeyedFacts.{History, AddsAlong, History-along, in_order}
use Rattle.change_runs.proofs.step_runs.RegisterStory.{same_key-true, IsIn_times}

-- an operation is requested on one key, with one operation
pub one_request : (past : List Entry) → AddsAlong past → (op : OpId) (key k : List ℕ) (what w : Op) → IsRequested past key op what → IsRequested past k op w → (key ≡ k) × (what ≡ w)
one_request [] h op key k what w r s = absurd r
one_request (e ∷ past) h op key k what w r s =
    elim r [
      | inl new ↦ elim s [
        | inl new' ↦ same e.input op key k what w new new'
        | inr old ↦ absurd (fresh_apart past e.input op h.0.fresh (Requests-test e.input key op what new) (IsRequested-test past k op w old))
      ]
      | inr old ↦ elim s [
        | inl new ↦ absurd (fresh_apart past e.input op h.0.fresh (Requests-test e.input k op w new) (IsRequested-test past key op what old))
        | inr old' ↦ one_request past h.1 op key k what w old old'
      ]
    ]
  where
    same : (input : Input) (op : OpId) (key k : List ℕ) (what w : Op) → Requests input key op what → Requests input k op w → (key ≡ k) × (what ≡ w)
    same (Request q a b) op key k what w r s = (sym r.1 ∙ s.1, sym r.2 ∙ s.2)
    same (GiveUp q) op key k what w r s = absurd r
    same (See other up) op key k what w r s = absurd r
    same Tick op key k what w r s = absurd r
    same (Deliver n) op key k what w r s = absurd r
    same Crash op key k what w r s = absurd r
    same Restart op key k what w r s = absurd r

-- ---- which points a story shows

pub shown_LeavesReads : (past : List Entry) → LeavesReads (is_shown past)
shown_LeavesReads past = record { only = λ op w e. not-false (is_read w) (or_parts (not (is_read w)) (is_done past op) e).0 }

-- what is done stays done
done_more : (past : List Entry) (e : Entry) (op : OpId) → is_done past op ≡ true → is_done (e ∷ past) op ≡ true
done_more past e op h =
    elim (answer past op) as (λ v. is_done_outcome v ≡ true → is_done_outcome (or_else v (answer_in e.outputs op)) ≡ true) [
      | None ↦ λ k. absurd (false≢true k)
      | Some outcome ↦ λ k. k
    ] h

done_later : (later earlier : List Entry) (op : OpId) → is_done earlier op ≡ true → is_done (later ++ earlier) op ≡ true
done_later [] earlier op h = h
done_later (e ∷ later) earlier op h = done_more (later ++ earlier) e op (done_later later earlier op h)

or_monotone : (a b c : Bool) → (b ≡ true → c ≡ true) → (a || b) ≡ true → (a || c) ≡ true
or_monotone true b c f h = refl
or_monotone false b c f h = f h

shown_later : (later earlier : List Entry) (p : Point) → at_point (is_shown earlier) p ≡ true → at_point (is_shown (later ++ earlier)) p ≡ true
shown_later later earlier p h = or_monotone (not (is_read p.what)) (is_done earlier p.op) (is_done (later ++ earlier) p.op) (done_later later earlier p.op) h

-- points only ever come behind the others
points_later : (later earlier : List Entry) → (more : List Point) × (points (later ++ earlier) ≡ points earlier ++ more)
points_later [] earlier = ([], sym (append-nil (points earlier)))
points_later (e ∷ later) earlier =
    let r = points_later later earlier in
    (r.0 ++ points_of e.input e.outputs, ap (λ (l : List Point). l ++ points_of e.input e.outputs) r.1 ∙ append_assoc (points earlier) r.0 (points_of e.input e.outputs))

story_times : (past : List Entry) → History past → (key : List ℕ) (op : OpId) → times (keyed_story past key) op ≤ 1
story_times past h key op =
    let e = times-told None (filter (is_shown_point past) (key_path past key)) op in
    let a = point_times-filter (is_shown_point past) (key_path past key) op in
    let b = point_times-filter (is_keyed key) (points past) op in
    omega (arith, e, a, b, h.once op)

once_in : (past : List Entry) → History past → (key : List ℕ) (t : Told) → IsIn (keyed_story past key) t → StandsOnce (keyed_story past key) t.op
once_in past h key t i = omega (arith, story_times past h key t.op, IsIn_times (keyed_story past key) t i)

-- ---- the clauses

story_done : (past : List Entry) → AddsAlong past → (key : List ℕ) (op : OpId) (what : Op) (reply : Reply) (branch : Id) (timestamp : ℕ) → IsRequested past key op what → answer past op ≡ Some (Done reply branch timestamp)
    → StandsOnce (keyed_story past key) op × IsIn (keyed_story past key) (record { op = op; what = what; reply = reply })
story_done past h key op what reply branch timestamp r a =
    let known = History-along past h in
    let w = known.done op reply branch timestamp a in
    let same = one_request past h op w.0 key w.1 what w.2 r in
    let took : TookEffect (key_path past key) op what reply =
    subst (λ (k : List ℕ). TookEffect (key_path past k) op what reply) same.0 (subst (λ (v : Op). TookEffect (key_path past w.0) op v reply) same.1 w.3) in
    let shown : is_shown past op what ≡ true = or_right (not (is_read what)) (is_done past op) (ap is_done_outcome a) in
    let here : IsIn (keyed_story past key) (record { op = op; what = what; reply = reply }) = TookEffect-told (is_shown past) (shown_LeavesReads past) (key_path past key) op what reply took shown in
    (once_in past known key (record { op = op; what = what; reply = reply }) here, here)

IsIn_has_point : (ps : List Point) (p : Point) → IsIn ps p → has_point ps p.op ≡ true
IsIn_has_point [] p h = absurd h
IsIn_has_point (q ∷ qs) p h =
    elim h [
      | inl e ↦ or_left (same_op q.op p.op) (has_point qs p.op) (ap (λ (v : Point). same_op v.op p.op) e ∙ same_op-refl p.op)
      | inr i ↦ or_right (same_op q.op p.op) (has_point qs p.op) (IsIn_has_point qs p i)
    ]

story_members : (past : List Entry) → AddsAlong past → (key : List ℕ) (t : Told) → IsIn (keyed_story past key) t → IsRequested past key t.op t.what × StandsOnce (keyed_story past key) t.op × (answer past t.op ≢ Some NotServing)
story_members past h key t i =
    let known = History-along past h in
    let p = IsIn-told None (filter (is_shown_point past) (key_path past key)) t i in
    let shown = IsIn-filter (is_shown_point past) (key_path past key) p.0 p.1 in
    let on = IsIn-filter (is_keyed key) (points past) p.0 shown.0 in
    let k : p.0.key ≡ key = same_key-true p.0.key key on.1 in
    let r : IsRequested past key p.0.op p.0.what = subst (λ (v : List ℕ). IsRequested past v p.0.op p.0.what) k (known.requested p.0 on.0) in
    let r' : IsRequested past key t.op p.0.what = subst (λ (v : OpId). IsRequested past key v p.0.what) p.2 r in
    let r'' : IsRequested past key t.op t.what = subst (λ (v : Op). IsRequested past key t.op v) p.3 r' in
    let has : has_point (points past) t.op ≡ true = ap (has_point (points past)) (sym p.2) ∙ IsIn_has_point (points past) p.0 on.0 in
    (r'', once_in past known key t i, known.served t.op has)

story_order : (past : List Entry) → AddsAlong past → (key : List ℕ) (a b : OpId) → goes_before past a b ≡ true → has_told (keyed_story past key) a ≡ true → has_told (keyed_story past key) b ≡ true → stands_before (keyed_story past key) a b ≡ true
story_order past h key a b g i j =
    let shown : List Point = filter (is_shown_point past) (key_path past key) in
    let q = λ (p : Point). is_keyed key p && is_shown_point past p in
    let one : shown ≡ filter q (points past) = filter-filter (is_shown_point past) (is_keyed key) (points past) in
    let here = λ (op : OpId) (has : has_told (keyed_story past key) op ≡ true). ap (λ (l : List Point). has_point l op) (sym one) ∙ sym (has_told-told None shown op) ∙ has in
    stands_before-told None shown a b ∙ ap (λ (l : List Point). point_before l a b) one ∙ in_order q past h a b g (here a i) (here b j)

keep : (d : Bool) (t : Told) (u ys : List Told) → (zs : List Told) × (t ∷ (u ++ ys) ≡ keep_done d t u ++ zs)
keep true t [] ys = (ys, refl)
keep false t [] ys = (t ∷ ys, refl)
keep d t (v ∷ vs) ys = (ys, refl)

up_to_done_prefix : (past : List Entry) (list : List Told) → (rest : List Told) × (list ≡ up_to_done past list ++ rest)
up_to_done_prefix past [] = ([], refl)
up_to_done_prefix past (t ∷ ts) =
    let r = up_to_done_prefix past ts in
    let k = keep (is_done past t.op) t (up_to_done past ts) r.0 in
    (k.0, ap (λ (l : List Told). t ∷ l) r.1 ∙ k.1)

story_prefix_at : (later earlier : List Entry) (key : List ℕ) → KeepsKeyed earlier key (keyed_story (later ++ earlier) key)
story_prefix_at later earlier key =
    let past : List Entry = later ++ earlier in
    let q = is_shown earlier in
    let one : filter (at_told q) (keyed_story past key) ≡ told None (filter (at_point q) (filter (at_point (is_shown past)) (key_path past key))) =
    told-filter q (shown_LeavesReads earlier) None (filter (at_point (is_shown past)) (key_path past key)) in
    let two : filter (at_point q) (filter (at_point (is_shown past)) (key_path past key)) ≡ filter (at_point q) (key_path past key) =
    filter_stricter (at_point q) (at_point (is_shown past)) (λ p e. shown_later later earlier p e) (key_path past key) in
    let more = points_later later earlier in
    let three : key_path past key ≡ key_path earlier key ++ filter (is_keyed key) more.0 =
    ap (filter (is_keyed key)) more.1 ∙ filter-append (is_keyed key) (points earlier) more.0 in
    let rest : List Point = filter (at_point q) (filter (is_keyed key) more.0) in
    let four : filter (at_point q) (key_path past key) ≡ filter (at_point q) (key_path earlier key) ++ rest =
    ap (filter (at_point q)) three ∙ filter-append (at_point q) (key_path earlier key) (filter (is_keyed key) more.0) in
    let tail : List Told = told (after None (filter (at_point q) (key_path earlier key))) rest in
    let five : filter (at_told q) (keyed_story past key) ≡ keyed_story earlier key ++ tail =
    one ∙ ap (told None) (two ∙ four) ∙ told-append None (filter (at_point q) (key_path earlier key)) rest in
    let cut = up_to_done_prefix earlier (keyed_story earlier key) in
    (cut.0 ++ tail, five ∙ ap (λ (l : List Told). l ++ tail) cut.1 ∙ append_assoc (up_to_done earlier (keyed_story earlier key)) cut.0 tail)

story_prefix : (past : List Entry) (key : List ℕ) (later earlier : List Entry) → past ≡ later ++ earlier → KeepsKeyed earlier key (keyed_story past key)
story_prefix past key later earlier e = subst (λ (p : List Entry). KeepsKeyed earlier key (keyed_story p key)) (sym e) (story_prefix_at later earlier key)

-- where the stories up to each moment are those of all operations on the key
pub register_story : (setup : SetupState) (past : List Entry) → AddsAlong past → (key : List ℕ)
    → ((later earlier : List Entry) → past ≡ later ++ earlier → story setup earlier key ≡ keyed_story earlier key) → IsRegisterStory setup past key (keyed_story past key)
register_story setup past h key same =
    let mine : List Told = keyed_story past key in
    record {
      legal = legal_told None (filter (is_shown_point past) (key_path past key));
      done = story_done past h key;
      members = story_members past h key;
      order = story_order past h key;
      prefix = λ later earlier e.
          subst (λ (s : List Told). (rest : List Told) × (filter (is_shown_told earlier) mine ≡ up_to_done earlier s ++ rest)) (sym (same later earlier e))
          (story_prefix past key later earlier e);
    }
