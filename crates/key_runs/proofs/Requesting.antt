-- What a request does to the executions of a node, and to its rows and versions.
use Rattle.std.proofs.Common.{◌≡◌, ℕ, ◌+◌, ◌≤◌, ◌<◌, ◌==◌, Bool, true, false, cond, ◌&&◌, ◌||◌, nat_lt, List, [], ◌∷◌, ◌++◌, map, filter, Option, Some, None, refl, sym, ap, ap₂, ◌∙◌, subst, ◌⊎◌, inl, inr, arith, append-nil, sum}
use Rattle.std.proofs.Math.Nat.{mod-lt}
use Rattle.std.proofs.lemmas.Bool.{false≢true, cond_both, and_from, eq-eqb, lt-ltb, or_left}
use Rattle.std.specs.List.{list_any}
use Rattle.std.specs.Cmp.Lexicographic.{nat_list_eq_equiv}
use Rattle.change_runs.specs.runs.region_map.declared.id.Id.{Id}
use Rattle.change_runs.specs.runs.region_map.declared.id.NodeId.{NodeId}
use Rattle.change_runs.specs.runs.region_map.declared.region.Region.{Region}
use Rattle.change_runs.specs.runs.region_map.Keys.{hash_of}
use Rattle.change_runs.specs.runs.region_map.Regions.{in_region}
use Rattle.change_runs.specs.runs.region_map.Maps.{Pieced, value_at}
use Rattle.change_runs.specs.runs.region_map.Equal.{same_id}
use Rattle.change_runs.specs.runs.branch_history.declared.version.Version.{Version}
use Rattle.change_runs.specs.runs.register_laws.declared.operation.OpId.{OpId}
use Rattle.change_runs.specs.runs.register_laws.declared.operation.Op.{Op}
use Rattle.change_runs.specs.runs.register_laws.declared.operation.Op.TheVariants.{Put, Delete, Cas, Read}
use Rattle.change_runs.specs.runs.register_laws.Register.{State, reply_of, state_after, writes}
use Rattle.change_runs.specs.runs.register_laws.Lists.{same_op}
use Rattle.change_runs.specs.runs.contract_types.Setup.{SetupState}
use Rattle.change_runs.specs.runs.contract_types.Tilings.{holders}
use Rattle.change_runs.specs.runs.exec_types.Parts.{effect_of}
use Rattle.change_runs.specs.runs.exec_types.declared.message.Part.{Part}
use Rattle.change_runs.specs.runs.exec_types.declared.message.Part.TheVariants.{Write, Sync}
use Rattle.change_runs.specs.runs.exec_types.declared.input.Input.TheVariants.{Request}
use Rattle.change_runs.specs.runs.exec_types.declared.outcome.Outcome.{Outcome}
use Rattle.change_runs.specs.runs.exec_types.declared.outcome.Outcome.TheVariants.{NotServing}
use Rattle.change_runs.specs.runs.exec_types.declared.output.Output.{Output}
use Rattle.change_runs.specs.runs.exec_types.declared.output.Output.TheVariants.{Dispatched}
use Rattle.change_runs.specs.runs.store_api.declared.Row.{Row}
use Rattle.change_runs.specs.runs.store_api.Rows.{Rows, has_key, row_of, value_in, value_of, with_row}
use Rattle.change_runs.specs.runs.store_api.Versions.{point, is_behind, comes_to, advanced_rows, advanced_map}
use Rattle.change_runs.proofs.runs.store_api.RowLemmas.{row_of-with_row_same, row_of-with_row_other}
use Rattle.change_runs.proofs.runs.store_api.VersionMaps.{advanced_map_at}
use Rattle.change_runs.specs.runs.write_dispatch.declared.decided.Decided.{Decided}
use Rattle.change_runs.specs.runs.primary_exec.declared.session.Session.{Session}
use Rattle.change_runs.specs.runs.primary_exec.Execution.{Execution, PrimaryStep, has_room, sends, part_of, dispatch_row}
use Rattle.change_runs.specs.runs.node_core.declared.journal.Entry.{Entry}
use Rattle.change_runs.specs.runs.node_core.Parts.{Requested, is_for, dispatched, passed_on, request_all}
use Rattle.change_runs.specs.runs.Story.{Point, answer_in, or_else, points_in, same_key}
use Rattle.change_runs.proofs.step_runs.Begun.{is_branch, begun_branch, is_on_begun, begun_path}
use Rattle.change_runs.proofs.step_runs.Told.{after, after-append, TookEffect, TookEffect-last}
use Rattle.change_runs.proofs.step_runs.Facts.{WaitsWell, WaitsWell-more, path-cons}
use Rattle.change_runs.proofs.step_runs.Outs.{points_in-append, points_in-sends, answer_in-append, answer_in-sends, Answered, all_push}
use Rattle.change_runs.proofs.step_runs.RegisterStory.{same_key-true}
use Rattle.change_runs.proofs.step_runs.Setups.{exec_region}
use Rattle.change_runs.proofs.step_runs.Nodes.{ExecutionFacts, AllRun, StoreStays, PathsStay, holders-in, holders-rest, some_holds, kept, all_kept}

-- ---- keys and ids

same_key_sym : (a b : List ℕ) → same_key a b ≡ false → same_key b a ≡ false
same_key_sym a b e = nat_list_eq_equiv.symm b a ∙ e

same_key-self : (key : List ℕ) → same_key key key ≡ true
same_key-self key = nat_list_eq_equiv.refl key

same_id-refl : (i : Id) → same_id i i ≡ true
same_id-refl i = and_from ((i.node.0 == i.node.0) && (i.life == i.life)) (i.counter == i.counter) (and_from (i.node.0 == i.node.0) (i.life == i.life) (eq-eqb i.node.0 i.node.0 refl) (eq-eqb i.life i.life refl)) (eq-eqb i.counter i.counter refl)

-- a test that tells two keys apart
apart_by : (test : List ℕ → Bool) (a b : List ℕ) → test a ≡ true → test b ≡ false → same_key a b ≡ false
apart_by test a b here there =
    elim (same_key a b) as (λ c. same_key a b ≡ c → c ≡ false) [
      | true ↦ λ is. absurd (false≢true (sym there ∙ ap test (sym (same_key-true a b is)) ∙ here))
      | false ↦ λ _. refl
    ] refl

-- ---- the rows after a part was applied to a region

keeps_state : (s : State) (w : Op) → writes s w ≡ false → state_after s w ≡ s
keeps_state s (Put v) e = absurd (false≢true (sym e))
keeps_state s Delete e = absurd (false≢true (sym e))
keeps_state s (Cas expect put) e = ap (λ b. cond b put s) e
keeps_state s Read e = refl

-- a key outside of the region keeps its row
row_of-outside : (part : Part) (region : Region) (branch : Id) (at : ℕ) (versions : Pieced Version) (rows : Rows) (other : List ℕ) → has_key region versions.hashes other ≡ false
    → row_of (advanced_rows (effect_of part) region branch at versions rows) other ≡ row_of rows other
row_of-outside (Sync t) region branch at versions rows other out = refl
row_of-outside (Write t key row) region branch at versions rows other out =
    cond_both (comes_to region branch at versions key) (with_row rows key row) rows (λ (l : Rows). row_of l other ≡ row_of rows other)
    (λ comes. row_of-with_row_other rows key other row (same_key_sym key other (apart_by (has_key region versions.hashes) key other (first_of_and _ _ comes) out)))
    (λ _. refl)
  where
    first_of_and : (a b : Bool) → (a && b) ≡ true → a ≡ true
    first_of_and true b e = refl
    first_of_and false b e = absurd (false≢true e)

-- the value of the key of an operation that comes to its timestamp, and of any other key
value_of-own : (rows : Rows) (region : Region) (branch : Id) (at : ℕ) (versions : Pieced Version) (key : List ℕ) (what : Op) → comes_to region branch at versions key ≡ true
    → value_of (advanced_rows (effect_of (part_of (value_of rows key) at key what)) region branch at versions rows) key ≡ state_after (value_of rows key) what
value_of-own rows region branch at versions key what comes =
    let before : State = value_of rows key in
    let row : Row = record { value = state_after before what; recency = at } in
    cond_both (writes before what) (Write at key row) (Sync at) (λ (p : Part). value_of (advanced_rows (effect_of p) region branch at versions rows) key ≡ state_after before what)
    (λ _. ap (λ b. value_of (cond b (with_row rows key row) rows) key) comes ∙ ap value_in (row_of-with_row_same rows key row))
    (λ e. sym (keeps_state before what e))

value_of-other : (rows : Rows) (region : Region) (branch : Id) (at : ℕ) (versions : Pieced Version) (key other : List ℕ) (what : Op) → same_key other key ≡ false
    → value_of (advanced_rows (effect_of (part_of (value_of rows key) at key what)) region branch at versions rows) other ≡ value_of rows other
value_of-other rows region branch at versions key other what ne =
    let before : State = value_of rows key in
    let row : Row = record { value = state_after before what; recency = at } in
    cond_both (writes before what) (Write at key row) (Sync at) (λ (p : Part). value_of (advanced_rows (effect_of p) region branch at versions rows) other ≡ value_of rows other)
    (λ _. cond_both (comes_to region branch at versions key) (with_row rows key row) rows (λ (l : Rows). value_of l other ≡ value_of rows other)
    (λ _. ap value_in (row_of-with_row_other rows key other row ne)) (λ _. refl))
    (λ _. refl)

-- ---- the versions after a region came to a point of its branch

behind_own : (branch : Id) (last at : ℕ) → last < at → is_behind branch at (Some (point branch last)) ≡ true
behind_own branch last at lt = and_from (same_id branch branch) (nat_lt last at) (same_id-refl branch) (lt-ltb last at lt)

value_at-inside : (region : Region) (branch : Id) (last at : ℕ) (versions : Pieced Version) (h : ℕ) (k : List ℕ) → h < versions.hashes → in_region region h k ≡ true → last < at
    → value_at versions.pieces h k ≡ Some (point branch last) → value_at (advanced_map region branch at versions).pieces h k ≡ Some (point branch at)
value_at-inside region branch last at versions h k lt i later stands =
    let comes : (in_region region h k && is_behind branch at (value_at versions.pieces h k)) ≡ true =
    and_from (in_region region h k) (is_behind branch at (value_at versions.pieces h k)) i (ap (is_behind branch at) stands ∙ behind_own branch last at later) in
    advanced_map_at region branch at versions h k lt ∙ ap (λ b. cond b (Some (point branch at)) (value_at versions.pieces h k)) comes

-- a part that is applied to a region leaves the other pairs as they were
pub region_stays : (hashes : ℕ) (part : Part) (region : Region) (branch : Id) (at : ℕ) (versions : Pieced Version) (rows : Rows) → versions.hashes ≡ hashes
    → StoreStays hashes (λ h k. cond (in_region region h k) 1 0) rows (advanced_rows (effect_of part) region branch at versions rows) versions (advanced_map region branch at versions)
region_stays hashes part region branch at versions rows same =
    record {
      versions_stay = λ h k lt none.
          advanced_map_at region branch at versions h k (subst (λ n. h < n) (sym same) lt)
          ∙ ap (λ b. cond (b && is_behind branch at (value_at versions.pieces h k)) (Some (point branch at)) (value_at versions.pieces h k)) (outside (in_region region h k) none);
      rows_stay = λ key none.
          row_of-outside part region branch at versions rows key
          (ap (λ n. in_region region (hash_of key n) key) same ∙ outside (in_region region (hash_of key hashes) key) none);
    }
  where
    outside : (b : Bool) → ◌≡◌ {A = ℕ} (cond b 1 0) 0 → b ≡ false
    outside true e = absurd (omega arith)
    outside false e = refl

pub stays_weaker : (hashes : ℕ) (count more : ℕ → List ℕ → ℕ) (rows later : Rows) (versions newer : Pieced Version) → ((h : ℕ) (k : List ℕ) → more h k ≡ 0 → count h k ≡ 0)
    → StoreStays hashes count rows later versions newer → StoreStays hashes more rows later versions newer
stays_weaker hashes count more rows later versions newer weaker s =
    record { versions_stay = λ h k lt none. s.versions_stay h k lt (weaker h k none); rows_stay = λ key none. s.rows_stay key (weaker (hash_of key hashes) key none) }

pub stays_same : (hashes : ℕ) (count : ℕ → List ℕ → ℕ) (rows : Rows) (versions : Pieced Version) → StoreStays hashes count rows rows versions versions
stays_same hashes count rows versions = record { versions_stay = λ h k lt none. refl; rows_stay = λ key none. refl }

-- ---- requests

-- a request leaves the pairs of no execution as they were
request_stays : (hashes : ℕ) (xs : List Execution) (rows : Rows) (versions : Pieced Version) (op : OpId) (key : List ℕ) (what : Op) → versions.hashes ≡ hashes
    → StoreStays hashes (holders exec_region xs) rows (request_all hashes xs rows versions op key what).rows versions (request_all hashes xs rows versions op key what).versions
request_stays hashes [] rows versions op key what same = stays_same hashes (holders exec_region []) rows versions
request_stays hashes (x ∷ xs) rows versions op key what same =
    let part : Part = part_of (value_of rows key) (x.last + 1) key what in
    let rest : Requested = request_all hashes xs rows versions op key what in
    cond_both (is_for hashes key x) (dispatched (dispatch_row x rows versions op key what) xs) (passed_on x rest)
    (λ (r : Requested). StoreStays hashes (holders exec_region (x ∷ xs)) rows r.rows versions r.versions)
    (λ _. stays_weaker hashes (λ h k. cond (in_region x.contract.region h k) 1 0) (holders exec_region (x ∷ xs)) rows _ versions _
    (λ h k none. let e = holders-rest exec_region x xs h k in omega (arith, e, none))
    (region_stays hashes part x.contract.region x.branch (x.last + 1) versions rows same))
    (λ _. stays_weaker hashes (holders exec_region xs) (holders exec_region (x ∷ xs)) rows _ versions _
    (λ h k none. let e = holders-rest exec_region x xs h k in omega (arith, e, none))
    (request_stays hashes xs rows versions op key what same))

-- a request changes no region and not the number of hashes
pub request_regions : (hashes : ℕ) (xs : List Execution) (rows : Rows) (versions : Pieced Version) (op : OpId) (key : List ℕ) (what : Op) → map exec_region (request_all hashes xs rows versions op key what).executions ≡ map exec_region xs
request_regions hashes [] rows versions op key what = refl
request_regions hashes (x ∷ xs) rows versions op key what =
    let rest : Requested = request_all hashes xs rows versions op key what in
    cond_both (is_for hashes key x) (dispatched (dispatch_row x rows versions op key what) xs) (passed_on x rest)
    (λ (r : Requested). map exec_region r.executions ≡ map exec_region (x ∷ xs))
    (λ _. refl) (λ _. ap (λ rs. x.contract.region ∷ rs) (request_regions hashes xs rows versions op key what))

abbrev pub point_at : OpId → List ℕ → Op → Id → ℕ → Point
point_at op key what branch at = record { op = op; what = what; key = key; branch = branch; timestamp = at }

-- a request of a key that some execution has gets one point, and any other none
abbrev pub RequestPoints : ℕ → List Execution → OpId → List ℕ → Op → List Point → Type 0
RequestPoints hashes xs op key what ps =
    ((list_any (is_for hashes key) xs ≡ false) × (ps ≡ [])) ⊎ ((list_any (is_for hashes key) xs ≡ true) × ((branch : Id) × (at : ℕ) × (ps ≡ point_at op key what branch at ∷ [])))

pub dispatch_points : (x : Execution) (rows : Rows) (versions : Pieced Version) (op : OpId) (key : List ℕ) (what : Op)
    → points_in what (dispatch_row x rows versions op key what).outs ≡ point_at op key what x.branch (x.last + 1) ∷ []
dispatch_points x rows versions op key what =
    let part : Part = part_of (value_of rows key) (x.last + 1) key what in
    let sessions : List Session = filter has_room x.sessions in
    let own : Output = Dispatched op key x.branch (x.last + 1) in
    points_in-append what (map (sends part) sessions) (own ∷ []) ∙ ap (λ (l : List Point). l ++ point_at op key what x.branch (x.last + 1) ∷ []) (points_in-sends what part sessions)

pub request_points : (hashes : ℕ) (xs : List Execution) (rows : Rows) (versions : Pieced Version) (op : OpId) (key : List ℕ) (what : Op)
    → RequestPoints hashes xs op key what (points_in what (request_all hashes xs rows versions op key what).outs)
request_points hashes [] rows versions op key what = inl (refl, refl)
request_points hashes (x ∷ xs) rows versions op key what =
    let rest : Requested = request_all hashes xs rows versions op key what in
    let row : PrimaryStep = dispatch_row x rows versions op key what in
    elim (is_for hashes key x) as (λ c.
    ((c || list_any (is_for hashes key) xs ≡ false) × (points_in what (cond c (dispatched row xs) (passed_on x rest)).outs ≡ []))
    ⊎ ((c || list_any (is_for hashes key) xs ≡ true) × ((branch : Id) × (at : ℕ) × (points_in what (cond c (dispatched row xs) (passed_on x rest)).outs ≡ point_at op key what branch at ∷ [])))) [
      | true ↦ inr (refl, (x.branch, x.last + 1, dispatch_points x rows versions op key what))
      | false ↦ request_points hashes xs rows versions op key what
    ]

dispatch_answers : (x : Execution) (rows : Rows) (versions : Pieced Version) (op : OpId) (key : List ℕ) (what : Op) (q : OpId) → answer_in (dispatch_row x rows versions op key what).outs q ≡ None
dispatch_answers x rows versions op key what q =
    let part : Part = part_of (value_of rows key) (x.last + 1) key what in
    let sessions : List Session = filter has_room x.sessions in
    answer_in-append (map (sends part) sessions) (Dispatched op key x.branch (x.last + 1) ∷ []) q ∙ ap (λ (v : Option Outcome). or_else v None) (answer_in-sends part sessions q)

-- ---- a request as an entry of a node

module _ (setup : SetupState) (past : List Entry) (node : NodeId) (op : OpId) (key : List ℕ) (what : Op) (outs : List Output) where
  abbrev pub request_entry : Entry
  request_entry = record { node = node; input = Request op key what; outputs = outs }

  -- what it answers at once
  pub request_answers : (hashes : ℕ) (xs : List Execution) (rows : Rows) (versions : Pieced Version) → points_in what outs ≡ points_in what (request_all hashes xs rows versions op key what).outs
      → (q : OpId) → Answered setup past request_entry q (answer_in (request_all hashes xs rows versions op key what).outs q)
  request_answers hashes [] rows versions pts q =
      cond_both (same_op op q) (Some NotServing) None (λ (v : Option Outcome). Answered setup past request_entry q v) (λ same. (same, pts)) (λ _. tt)
  request_answers hashes (x ∷ xs) rows versions pts q =
      let rest : Requested = request_all hashes xs rows versions op key what in
      let row : PrimaryStep = dispatch_row x rows versions op key what in
      elim (is_for hashes key x) as (λ c. points_in what outs ≡ points_in what (cond c (dispatched row xs) (passed_on x rest)).outs → Answered setup past request_entry q (answer_in (cond c (dispatched row xs) (passed_on x rest)).outs q)) [
        | true ↦ λ _. subst (λ (v : Option Outcome). Answered setup past request_entry q v) (sym (dispatch_answers x rows versions op key what q)) tt
        | false ↦ λ p. request_answers hashes xs rows versions p q
      ] pts

  -- the paths of keys that no execution has stay
  pub request_paths : (xs : List Execution) → RequestPoints setup.hashes xs op key what (points_in what outs) → PathsStay setup (holders exec_region xs) past request_entry
  request_paths xs pts =
      record {
        stays = λ other none.
            elim pts [
              | inl p ↦ same_path other [] p.1 refl
              | inr p ↦
                  let ne : same_key key other ≡ false =
                  apart_by (λ k. nat_lt 0 (holders exec_region xs (hash_of k setup.hashes) k)) key other
                  (lt-ltb 0 (holders exec_region xs (hash_of key setup.hashes) key) (some_holds setup.hashes key xs p.0))
                  (ap (nat_lt 0) none) in
                  same_path other (point_at op key what p.1.0 p.1.1 ∷ []) p.1.2 (ap (λ c. cond (c && is_branch (begun_branch setup other) p.1.0) (point_at op key what p.1.0 p.1.1 ∷ []) []) ne)
            ];
      }
    where
      same_path : (other : List ℕ) (ps : List Point) → points_in what outs ≡ ps → filter (is_on_begun setup other) ps ≡ [] → begun_path setup (request_entry ∷ past) other ≡ begun_path setup past other
      same_path other ps are none =
          path-cons setup past request_entry other ∙ ap (λ (l : List Point). begun_path setup past other ++ filter (is_on_begun setup other) l) are
          ∙ ap (λ (l : List Point). begun_path setup past other ++ l) none ∙ append-nil (begun_path setup past other)

  -- the execution of the key, after the operation took its timestamp
  own_facts : (rows : Rows) (versions : Pieced Version) (x : Execution) → 0 < setup.hashes → versions.hashes ≡ setup.hashes → is_for setup.hashes key x ≡ true
      → points_in what outs ≡ point_at op key what x.branch (x.last + 1) ∷ [] → ExecutionFacts setup past rows versions x
      → ExecutionFacts setup (request_entry ∷ past) (dispatch_row x rows versions op key what).rows (dispatch_row x rows versions op key what).versions (dispatch_row x rows versions op key what).execution
  own_facts rows versions x some same has pts f =
      let before : State = value_of rows key in
      let row : PrimaryStep = dispatch_row x rows versions op key what in
      let region : Region = x.contract.region in
      let at : ℕ = x.last + 1 in
      let new : Point = point_at op key what x.branch at in
      let later : x.last < at = omega arith in
      let comes_with = λ (n : ℕ). in_region region (hash_of key n) key && is_behind x.branch at (value_at versions.pieces (hash_of key n) key) in
      let comes : comes_to region x.branch at versions key ≡ true =
      ap comes_with same
      ∙ and_from (in_region region (hash_of key setup.hashes) key) (is_behind x.branch at (value_at versions.pieces (hash_of key setup.hashes) key)) has
      (ap (is_behind x.branch at) (f.stands (hash_of key setup.hashes) key (mod-lt (sum key) some) has) ∙ behind_own x.branch x.last at later) in
      let on = λ (k : List ℕ) (i : is_for setup.hashes k x ≡ true). ap (λ o. is_branch o x.branch) (f.branch k i) ∙ same_id-refl x.branch in
      let way = λ (k : List ℕ). path-cons setup past request_entry k ∙ ap (λ (l : List Point). begun_path setup past k ++ filter (is_on_begun setup k) l) pts in
      let store = λ (k : List ℕ) (i : is_for setup.hashes k x ≡ true).
      let value : after None (begun_path setup (request_entry ∷ past) k) ≡ after (value_of rows k) (filter (is_on_begun setup k) (new ∷ [])) =
      ap (after None) (way k) ∙ after-append None (begun_path setup past k) (filter (is_on_begun setup k) (new ∷ [])) ∙ ap (λ (s : State). after s (filter (is_on_begun setup k) (new ∷ []))) (sym (f.store k i)) in
      let here : value_of row.rows k ≡ after (value_of rows k) (filter (is_on_begun setup k) (new ∷ [])) =
      elim (same_key key k) as (λ c. same_key key k ≡ c → value_of row.rows k ≡ after (value_of rows k) (cond (c && is_branch (begun_branch setup k) x.branch) (new ∷ []) [])) [
        | true ↦ λ is.
            subst (λ (v : List ℕ). value_of row.rows v ≡ after (value_of rows v) (cond (is_branch (begun_branch setup v) x.branch) (new ∷ []) [])) (same_key-true key k is)
            (value_of-own rows region x.branch at versions key what comes ∙ sym (ap (λ c. after before (cond c (new ∷ []) [])) (on key has)))
        | false ↦ λ ne. value_of-other rows region x.branch at versions key k what (same_key_sym key k ne)
      ] refl in
      here ∙ sym value in
      let d : Decided = record { op = Some op; at = at; reply = reply_of before what } in
      let way_here : begun_path setup (request_entry ∷ past) key ≡ begun_path setup past key ++ new ∷ [] =
      way key ∙ ap₂ (λ (a c : Bool). begun_path setup past key ++ cond (a && c) (new ∷ []) []) (same_key-self key) (on key has) in
      let took_here : TookEffect (begun_path setup past key ++ new ∷ []) op what (reply_of before what) =
      subst (λ (s : State). TookEffect (begun_path setup past key ++ new ∷ []) op what (reply_of s what)) (sym (f.store key has)) (TookEffect-last (begun_path setup past key) new) in
      let took : TookEffect (begun_path setup (request_entry ∷ past) key) op what (reply_of before what) =
      subst (λ (l : List Point). TookEffect l op what (reply_of before what)) (sym way_here) took_here in
      let own : WaitsWell setup (request_entry ∷ past) d = record { waits = (key, what, inl (refl, refl, refl), took) } in
      record {
        branch = f.branch;
        stands = λ h k lt i. value_at-inside region x.branch x.last at versions h k (subst (λ n. h < n) (sym same) lt) i later (f.stands h k lt i);
        store = store;
        waiting = all_push (WaitsWell setup (request_entry ∷ past)) x.dispatch.waiting d (WaitsWell-more setup past request_entry x.dispatch.waiting f.waiting) own;
      }

  -- each execution keeps its facts
  pub request_runs : (xs : List Execution) (rows : Rows) (versions : Pieced Version) → 0 < setup.hashes → versions.hashes ≡ setup.hashes
      → points_in what outs ≡ points_in what (request_all setup.hashes xs rows versions op key what).outs → ((h : ℕ) (k : List ℕ) → holders exec_region xs h k ≤ 1)
      → AllRun setup past rows versions xs
      → AllRun setup (request_entry ∷ past) (request_all setup.hashes xs rows versions op key what).rows (request_all setup.hashes xs rows versions op key what).versions (request_all setup.hashes xs rows versions op key what).executions
  request_runs [] rows versions some same pts one f = tt
  request_runs (x ∷ xs) rows versions some same pts one f =
      let rest : Requested = request_all setup.hashes xs rows versions op key what in
      let row : PrimaryStep = dispatch_row x rows versions op key what in
      let part : Part = part_of (value_of rows key) (x.last + 1) key what in
      elim (is_for setup.hashes key x) as (λ c. is_for setup.hashes key x ≡ c → points_in what outs ≡ points_in what (cond c (dispatched row xs) (passed_on x rest)).outs
      → AllRun setup (request_entry ∷ past) (cond c (dispatched row xs) (passed_on x rest)).rows (cond c (dispatched row xs) (passed_on x rest)).versions (cond c (dispatched row xs) (passed_on x rest)).executions) [
        | true ↦ λ has p. (
          own_facts rows versions x some same has (p ∙ dispatch_points x rows versions op key what) f.0,
          all_kept setup past request_entry (holders exec_region (x ∷ [])) rows row.rows versions row.versions xs
              (λ h k. let a = one h k in let b = holders-rest exec_region x xs h k in omega (arith, a, b))
              (stays_weaker setup.hashes (λ h k. cond (in_region x.contract.region h k) 1 0) (holders exec_region (x ∷ [])) rows row.rows versions row.versions
              (λ h k none. none)
              (region_stays setup.hashes part x.contract.region x.branch (x.last + 1) versions rows same))
              (request_paths (x ∷ []) (inr (or_left (is_for setup.hashes key x) false has, (x.branch, x.last + 1, p ∙ dispatch_points x rows versions op key what))))
              f.1,
        )
        | false ↦ λ has_not p. (
          kept setup past request_entry (holders exec_region xs) rows rest.rows versions rest.versions x
              (λ h k i. let a = one h k in let b = holders-in exec_region x xs h k i in omega (arith, a, b))
              (request_stays setup.hashes xs rows versions op key what same)
              (request_paths xs (subst (RequestPoints setup.hashes xs op key what) (sym p) (request_points setup.hashes xs rows versions op key what)))
              f.0,
          request_runs xs rows versions some same p (λ h k. let a = one h k in let b = holders-rest exec_region x xs h k in omega (arith, a, b)) f.1,
        )
      ] refl pts
