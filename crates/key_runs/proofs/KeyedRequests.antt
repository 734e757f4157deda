-- What a request does to a node and to the paths of the keys.
use Rattle.std.proofs.Common.{◌≡◌, ℕ, ◌+◌, ◌≤◌, ◌<◌, ◌==◌, true, false, cond, ◌&&◌, ◌||◌, nat_lt, List, [], ◌∷◌, ◌++◌, map, filter, Option, Some, None, is_some, refl, sym, ap, ◌∙◌, subst, ◌⊎◌, inl, inr, arith, sum}
use Rattle.std.proofs.Math.Nat.{mod-lt}
use Rattle.std.proofs.lemmas.Bool.{cond_both, and_from, eq-eqb, lt-ltb}
use Rattle.std.specs.List.{list_any}
use Rattle.std.specs.Cmp.Lexicographic.{nat_list_eq_equiv}
use Rattle.change_runs.specs.runs.region_map.declared.id.Id.{Id}
use Rattle.change_runs.specs.runs.region_map.declared.id.NodeId.{NodeId}
use Rattle.change_runs.specs.runs.region_map.declared.region.Region.{Region}
use Rattle.change_runs.specs.runs.region_map.Keys.{hash_of}
use Rattle.change_runs.specs.runs.region_map.Regions.{in_region}
use Rattle.change_runs.specs.runs.region_map.Maps.{Pieced, value_at}
use Rattle.change_runs.specs.runs.region_map.Equal.{same_id}
use Rattle.change_runs.specs.runs.branch_history.declared.version.Version.{Version}
use Rattle.change_runs.specs.runs.register_laws.declared.operation.OpId.{OpId}
use Rattle.change_runs.specs.runs.register_laws.declared.operation.Op.{Op}
use Rattle.change_runs.specs.runs.register_laws.Register.{State, reply_of}
use Rattle.change_runs.specs.runs.contract_types.Setup.{SetupState}
use Rattle.change_runs.specs.runs.contract_types.Tilings.{holders}
use Rattle.change_runs.specs.runs.exec_types.declared.message.Part.{Part}
use Rattle.change_runs.specs.runs.exec_types.declared.input.Input.TheVariants.{Request}
use Rattle.change_runs.specs.runs.exec_types.declared.outcome.Outcome.TheVariants.{NotServing}
use Rattle.change_runs.specs.runs.exec_types.declared.output.Output.{Output}
use Rattle.change_runs.specs.runs.exec_types.declared.output.Output.TheVariants.{Dispatched, Answer}
use Rattle.change_runs.specs.runs.store_api.declared.Row.{Row}
use Rattle.change_runs.specs.runs.store_api.Rows.{Rows, row_of, value_in, value_of}
use Rattle.change_runs.specs.runs.store_api.Versions.{point, is_behind, comes_to, advanced_map}
use Rattle.change_runs.proofs.runs.store_api.VersionMaps.{advanced_map_hashes, advanced_map_at}
use Rattle.change_runs.specs.runs.primary_exec.Execution.{Execution, PrimaryStep, has_room, sends, part_of, dispatch_row}
use Rattle.change_runs.specs.runs.node_core.declared.journal.Entry.{Entry}
use Rattle.change_runs.specs.runs.node_core.Parts.{Requested, is_for, dispatched, passed_on, request_all}
use Rattle.change_runs.specs.runs.Story.{Point, points_in, same_key}
use Rattle.change_runs.specs.runs.Stored.{row_after}
use Rattle.change_runs.proofs.Asked.{is_keyed, key_path}
use Rattle.change_runs.proofs.step_runs.Told.{TookEffect, TookEffect-last}
use Rattle.change_runs.proofs.step_runs.Outs.{all_push}
use Rattle.change_runs.proofs.step_runs.RegisterStory.{same_key-true}
use Rattle.change_runs.proofs.step_runs.RowSteps.{row_after-append, value_in-after, row-own, row-other}
use Rattle.change_runs.proofs.step_runs.Setups.{exec_region}
use Rattle.change_runs.proofs.step_runs.Nodes.{StoreStays, holders-in}
use Rattle.key_runs.proofs.Requesting.{point_at, region_stays}
use Rattle.key_runs.proofs.Keyed.{key_path-cons}
use Rattle.key_runs.proofs.KeyedFacts.{WaitsKeyed, WaitsKeyed-more}
use Rattle.key_runs.proofs.KeyedRoles.{led, holders-append}
use Rattle.key_runs.proofs.KeyedOuts.{AnswersNone, none_both, none_sends}
use Rattle.key_runs.proofs.KeyedNodes.{Holding, IsFilled, Runs, AllRun, KeyedNode, all_append, all_split, all_weaker, run_more, all_stand}

-- ---- which execution takes a request

abbrev pub among : List Execution → PrimaryStep → List Execution → Requested
among before step later = record { executions = before ++ step.execution ∷ later; rows = step.rows; versions = step.versions; outs = step.outs }

-- one of the executions is for the key, and dispatches
pub record Dispatches (hashes : ℕ) (xs : List Execution) (rows : Rows) (versions : Pieced Version) (op : OpId) (key : List ℕ) (what : Op) (r : Requested) : Type 0 where
  pub before : List Execution
  pub own : Execution
  pub later : List Execution
  pub split : xs ≡ before ++ own ∷ later
  pub has : is_for hashes key own ≡ true
  pub result : r ≡ among before (dispatch_row own rows versions op key what) later

-- or none is
pub record Refuses (hashes : ℕ) (xs : List Execution) (rows : Rows) (versions : Pieced Version) (op : OpId) (key : List ℕ) (r : Requested) : Type 0 where
  pub none : list_any (is_for hashes key) xs ≡ false
  pub result : r ≡ record { executions = xs; rows = rows; versions = versions; outs = Answer op NotServing ∷ [] }

pub request_cases : (hashes : ℕ) (xs : List Execution) (rows : Rows) (versions : Pieced Version) (op : OpId) (key : List ℕ) (what : Op)
    → Refuses hashes xs rows versions op key (request_all hashes xs rows versions op key what) ⊎ Dispatches hashes xs rows versions op key what (request_all hashes xs rows versions op key what)
request_cases hashes [] rows versions op key what = inl (record { none = refl; result = refl })
request_cases hashes (x ∷ xs) rows versions op key what =
    let rest : Requested = request_all hashes xs rows versions op key what in
    let row : PrimaryStep = dispatch_row x rows versions op key what in
    cond_both (is_for hashes key x) (dispatched row xs) (passed_on x rest)
    (λ (r : Requested). Refuses hashes (x ∷ xs) rows versions op key r ⊎ Dispatches hashes (x ∷ xs) rows versions op key what r)
    (λ has. inr (record { before = []; own = x; later = xs; split = refl; has = has; result = refl }))
    (λ has_not. elim (request_cases hashes xs rows versions op key what) [
      | inl r ↦ inl (record { none = ap (λ b. b || list_any (is_for hashes key) xs) has_not ∙ r.none; result = ap (passed_on x) r.result })
      | inr d ↦ inr (record {
        before = x ∷ d.before;
        own = d.own;
        later = d.later;
        split = ap (λ (l : List Execution). x ∷ l) d.split;
        has = d.has;
        result = ap (passed_on x) d.result;
      })
    ])

-- ---- keys and ids

same_key_sym : (a b : List ℕ) → same_key a b ≡ false → same_key b a ≡ false
same_key_sym a b e = nat_list_eq_equiv.symm b a ∙ e

pub same_key-self : (key : List ℕ) → same_key key key ≡ true
same_key-self key = nat_list_eq_equiv.refl key

same_id-refl : (i : Id) → same_id i i ≡ true
same_id-refl i = and_from ((i.node.0 == i.node.0) && (i.life == i.life)) (i.counter == i.counter) (and_from (i.node.0 == i.node.0) (i.life == i.life) (eq-eqb i.node.0 i.node.0 refl) (eq-eqb i.life i.life refl)) (eq-eqb i.counter i.counter refl)

-- ---- versions

behind_own : (branch : Id) (last at : ℕ) → last < at → is_behind branch at (Some (point branch last)) ≡ true
behind_own branch last at lt = and_from (same_id branch branch) (nat_lt last at) (same_id-refl branch) (lt-ltb last at lt)

-- a region that stands at an earlier point of the branch comes to a later one
pub value_at-inside : (region : Region) (branch : Id) (last at : ℕ) (versions : Pieced Version) (h : ℕ) (k : List ℕ) → h < versions.hashes → in_region region h k ≡ true → last < at
    → value_at versions.pieces h k ≡ Some (point branch last) → value_at (advanced_map region branch at versions).pieces h k ≡ Some (point branch at)
value_at-inside region branch last at versions h k lt i later stands =
    let comes : (in_region region h k && is_behind branch at (value_at versions.pieces h k)) ≡ true =
    and_from (in_region region h k) (is_behind branch at (value_at versions.pieces h k)) i (ap (is_behind branch at) stands ∙ behind_own branch last at later) in
    advanced_map_at region branch at versions h k lt ∙ ap (λ b. cond b (Some (point branch at)) (value_at versions.pieces h k)) comes

pub advanced_filled : (hashes : ℕ) (region : Region) (branch : Id) (at : ℕ) (m : Pieced Version) → IsFilled hashes m → IsFilled hashes (advanced_map region branch at m)
advanced_filled hashes region branch at m f =
    record {
      hashes_are = advanced_map_hashes region branch at m ∙ f.hashes_are;
      some = λ h k l.
          let same = f.hashes_are in
          ap is_some (advanced_map_at region branch at m h k (omega (arith, same, l)))
          ∙ cond_both (in_region region h k && is_behind branch at (value_at m.pieces h k)) (Some (point branch at)) (value_at m.pieces h k) (λ (o : Option Version). is_some o ≡ true) (λ _. refl) (λ _. f.some h k l);
    }

-- ---- the execution that dispatches

abbrev pub request_entry : NodeId → OpId → List ℕ → Op → List Output → Entry
request_entry node op key what outs = record { node = node; input = Request op key what; outputs = outs }

pub none_dispatch : (x : Execution) (rows : Rows) (versions : Pieced Version) (op : OpId) (key : List ℕ) (what : Op) → AnswersNone (dispatch_row x rows versions op key what).outs
none_dispatch x rows versions op key what =
    let part : Part = part_of (value_of rows key) (x.last + 1) key what in
    none_both (map (sends part) (filter has_room x.sessions)) (Dispatched op key x.branch (x.last + 1) ∷ []) (none_sends part (filter has_room x.sessions)) (λ q. refl)

module _ (setup : SetupState) (past : List Entry) (node : NodeId) (op : OpId) (key : List ℕ) (what : Op) (outs : List Output) (n : ℕ) (s : Holding) (f : KeyedNode setup past n s) (some : 0 < setup.hashes)
    (one : (h : ℕ) (k : List ℕ) → led n setup.shards h k ≤ 1)
    (before : List Execution) (x : Execution) (later : List Execution) (split : s.executions ≡ before ++ x ∷ later) (has : is_for setup.hashes key x ≡ true)
    (pts : points_in what outs ≡ point_at op key what x.branch (x.last + 1) ∷ []) where
  abbrev e : Entry
  e = request_entry node op key what outs

  abbrev row : PrimaryStep
  row = dispatch_row x s.rows s.versions op key what

  abbrev new : Point
  new = point_at op key what x.branch (x.last + 1)

  abbrev region : Region
  region = x.contract.region

  abbrev old : State
  old = value_of s.rows key

  -- the counts of its parts
  parts : (h : ℕ) (k : List ℕ) → holders exec_region s.executions h k ≡ holders exec_region before h k + (holders exec_region (x ∷ []) h k + holders exec_region later h k)
  parts h k =
      let a = holders-append exec_region before (x ∷ later) h k in
      let b = holders-append exec_region (x ∷ []) later h k in
      let c : holders exec_region s.executions h k ≡ holders exec_region (before ++ x ∷ later) h k = ap (λ (l : List Execution). holders exec_region l h k) split in
      omega (arith, a, b, c)

  pub leads_key : 1 ≤ led n setup.shards (hash_of key setup.hashes) key
  leads_key =
      let a = parts (hash_of key setup.hashes) key in
      let b = holders-in exec_region x [] (hash_of key setup.hashes) key has in
      let c = f.leads (hash_of key setup.hashes) key in
      omega (arith, a, b, c)

  way : (k : List ℕ) → key_path (e ∷ past) k ≡ key_path past k ++ cond (same_key key k) (new ∷ []) []
  way k = key_path-cons past e k ∙ ap (λ (l : List Point). key_path past k ++ filter (is_keyed k) l) pts

  comes : comes_to region x.branch (x.last + 1) s.versions key ≡ true
  comes =
      let later' : x.last < x.last + 1 = omega arith in
      let runs = all_split (Runs setup.hashes past s.versions) before (x ∷ later) (subst (AllRun setup.hashes past s.versions) split f.runs) in
      ap (λ (c : ℕ). in_region region (hash_of key c) key && is_behind x.branch (x.last + 1) (value_at s.versions.pieces (hash_of key c) key)) f.filled.hashes_are
      ∙ and_from (in_region region (hash_of key setup.hashes) key) (is_behind x.branch (x.last + 1) (value_at s.versions.pieces (hash_of key setup.hashes) key)) has
      (ap (is_behind x.branch (x.last + 1)) (runs.1.0.stands (hash_of key setup.hashes) key (mod-lt (sum key) some) has) ∙ behind_own x.branch x.last (x.last + 1) later')

  own_store : (k : List ℕ) → 1 ≤ led n setup.shards (hash_of k setup.hashes) k → row_of row.rows k ≡ row_after None (key_path (e ∷ past) k)
  own_store k l =
      let all : row_after None (key_path (e ∷ past) k) ≡ row_after (row_of s.rows k) (cond (same_key key k) (new ∷ []) []) =
      ap (row_after None) (way k) ∙ row_after-append None (key_path past k) (cond (same_key key k) (new ∷ []) [])
      ∙ ap (λ (r : Option Row). row_after r (cond (same_key key k) (new ∷ []) [])) (sym (f.store k l)) in
      let here : row_of row.rows k ≡ row_after (row_of s.rows k) (cond (same_key key k) (new ∷ []) []) =
      elim (same_key key k) as (λ c. same_key key k ≡ c → row_of row.rows k ≡ row_after (row_of s.rows k) (cond c (new ∷ []) [])) [
        | true ↦ λ is.
            subst (λ (v : List ℕ). row_of row.rows v ≡ row_after (row_of s.rows v) (new ∷ [])) (same_key-true key k is)
            (row-own new region x.branch (x.last + 1) s.versions s.rows refl comes)
        | false ↦ λ ne. row-other old what key k region x.branch (x.last + 1) s.versions s.rows (λ _. same_key_sym key k ne)
      ] refl in
      here ∙ sym all

  own_waits : WaitsKeyed (e ∷ past) (record { op = Some op; at = x.last + 1; reply = reply_of old what })
  own_waits =
      let way_here : key_path (e ∷ past) key ≡ key_path past key ++ new ∷ [] = way key ∙ ap (λ c. key_path past key ++ cond c (new ∷ []) []) (same_key-self key) in
      let took_here : TookEffect (key_path past key ++ new ∷ []) op what (reply_of old what) =
      subst (λ (v : State). TookEffect (key_path past key ++ new ∷ []) op what (reply_of v what)) (sym (ap value_in (f.store key leads_key) ∙ value_in-after None (key_path past key))) (TookEffect-last (key_path past key) new) in
      record { waits = (key, what, inl (refl, refl, refl), subst (λ (l : List Point). TookEffect l op what (reply_of old what)) (sym way_here) took_here) }

  stays : StoreStays setup.hashes (λ h k. cond (in_region region h k) 1 0) s.rows row.rows s.versions row.versions
  stays = region_stays setup.hashes (part_of old (x.last + 1) key what) region x.branch (x.last + 1) s.versions s.rows f.filled.hashes_are

  own_runs : AllRun setup.hashes (e ∷ past) row.versions (before ++ row.execution ∷ later)
  own_runs =
      let runs = all_split (Runs setup.hashes past s.versions) before (x ∷ later) (subst (AllRun setup.hashes past s.versions) split f.runs) in
      let count : ℕ → List ℕ → ℕ = λ h k. cond (in_region region h k) 1 0 in
      let more = λ (xs : List Execution) (r : AllRun setup.hashes past row.versions xs).
      all_weaker (Runs setup.hashes past row.versions) (Runs setup.hashes (e ∷ past) row.versions) (run_more setup.hashes past e row.versions) xs r in
      let few_before : (h : ℕ) (k : List ℕ) → holders exec_region before h k + count h k ≤ 1 = λ h k. let a = parts h k in let b = f.leads h k in let c = one h k in omega (arith, a, b, c) in
      let few_later : (h : ℕ) (k : List ℕ) → holders exec_region later h k + count h k ≤ 1 = λ h k. let a = parts h k in let b = f.leads h k in let c = one h k in omega (arith, a, b, c) in
      let earlier = all_stand setup.hashes past count s.versions row.versions before few_before (λ h k l none. stays.versions_stay h k l none) runs.0 in
      let after' = all_stand setup.hashes past count s.versions row.versions later few_later (λ h k l none. stays.versions_stay h k l none) runs.1.1 in
      let same = f.filled.hashes_are in
      let up : x.last < x.last + 1 = omega arith in
      let own : Runs setup.hashes (e ∷ past) row.versions row.execution =
      record {
        stands = λ h k l i. value_at-inside region x.branch x.last (x.last + 1) s.versions h k (omega (arith, same, l)) i up (runs.1.0.stands h k l i);
        waiting = all_push (WaitsKeyed (e ∷ past)) x.dispatch.waiting (record { op = Some op; at = x.last + 1; reply = reply_of old what }) (WaitsKeyed-more past e x.dispatch.waiting runs.1.0.waiting) own_waits;
      } in
      all_append (Runs setup.hashes (e ∷ past) row.versions) before (row.execution ∷ later) (more before earlier) (own, more later after')

  -- the node once the operation took its timestamp
  pub dispatch_facts : KeyedNode setup (e ∷ past) n (record s { executions = before ++ row.execution ∷ later; rows = row.rows; versions = row.versions })
  dispatch_facts =
      record {
        begun = f.begun;
        me_is = f.me_is;
        filled = advanced_filled setup.hashes region x.branch (x.last + 1) s.versions f.filled;
        leads = λ h k.
            let a = holders-append exec_region before (row.execution ∷ later) h k in
            let b = holders-append exec_region (row.execution ∷ []) later h k in
            let c = parts h k in
            let d = f.leads h k in
            omega (arith, a, b, c, d);
        follows = f.follows;
        store = own_store;
        runs = own_runs;
      }
