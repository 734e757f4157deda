-- What a step does to the versions of a node and to its followings, where each new version is one that may be there.
use Rattle.std.proofs.Common.{◌≡◌, ◌⊎◌, ℕ, ◌+◌, ◌<◌, ◌&&◌, true, cond, List, [], ◌∷◌, ◌++◌, map, filter, Option, Some, None, is_some, inl, inr, refl, sym, ◌∙◌, subst, arith}
use Rattle.std.proofs.lemmas.Bool.{cond_both, cases_lt, and_parts}
use Rattle.path_runs.specs.runs.region_map.declared.id.Id.{Id}
use Rattle.path_runs.specs.runs.region_map.declared.id.NodeId.{NodeId}
use Rattle.path_runs.specs.runs.region_map.declared.region.Region.{Region}
use Rattle.path_runs.specs.runs.region_map.Equal.{same_id}
use Rattle.path_runs.specs.runs.region_map.Regions.{in_region}
use Rattle.path_runs.specs.runs.region_map.Maps.{Pieced, value_at}
use Rattle.path_runs.specs.runs.region_map.Made.{ends_of, cuts_of, mask_map}
use Rattle.path_runs.proofs.runs.region_map.Made.{made_hashes, made_canonical, mask_changes}
use Rattle.path_runs.proofs.runs.region_map.Bands.{none_beyond}
use Rattle.path_runs.specs.runs.branch_history.declared.version.Version.{Version}
use Rattle.path_runs.specs.runs.branch_history.Equal.{same_version, version_decides}
use Rattle.path_runs.specs.runs.branch_history.Paths.{zero}
use Rattle.path_runs.proofs.runs.branch_history.PathLaws.{id_same}
use Rattle.path_runs.specs.runs.register_laws.declared.operation.OpId.{OpId}
use Rattle.path_runs.specs.runs.register_laws.declared.operation.Op.{Op}
use Rattle.path_runs.specs.runs.contract_types.declared.contract.Contract.{Contract}
use Rattle.path_runs.specs.runs.contract_types.declared.results.Viewed.{Viewed as Results}
use Rattle.path_runs.specs.runs.contract_types.Tables.{Table}
use Rattle.path_runs.specs.runs.coordinator.Acks.{with_ack}
use Rattle.path_runs.specs.runs.coordinator.Proposals.{proposals_of, after_proposals}
use Rattle.path_runs.specs.runs.table_log.Logs.{table_of, caught_up, viewed}
use Rattle.path_runs.specs.runs.exec_types.Parts.{timestamp_of}
use Rattle.path_runs.specs.runs.exec_types.Sessions.{same_session}
use Rattle.path_runs.specs.runs.exec_types.declared.message.Message.{Message as Sent}
use Rattle.path_runs.specs.runs.exec_types.declared.message.Message.TheVariants as message
use Rattle.path_runs.specs.runs.exec_types.declared.message.SessionName.{SessionName}
use Rattle.path_runs.specs.runs.exec_types.declared.message.Stream.{Stream}
use Rattle.path_runs.specs.runs.exec_types.declared.input.Input.{Input}
use Rattle.path_runs.specs.runs.exec_types.declared.input.Input.TheVariants.{Request, GiveUp, See, Tick, Deliver, Crash, Restart}
use Rattle.path_runs.specs.runs.exec_types.declared.output.Output.TheVariants.{Dispatched}
use Rattle.path_runs.specs.runs.store_api.Rows.{Rows, value_of}
use Rattle.path_runs.specs.runs.store_api.Versions.{point, is_behind, advanced_map, replaced_map}
use Rattle.path_runs.proofs.runs.store_api.VersionMaps.{advanced_map_hashes, advanced_map_at, replaced_map_hashes, replaced_map_at}
use Rattle.path_runs.specs.runs.secondary_exec.declared.following.Following.{Following}
use Rattle.path_runs.specs.runs.secondary_exec.Stream.{FollowingStep, is_ours, stream_row, applied}
use Rattle.path_runs.specs.runs.primary_exec.declared.asking.Asking.{Asking}
use Rattle.path_runs.specs.runs.primary_exec.Execution.{Execution, PrimaryStep, has_room, sends, part_of, dispatch_row, started}
use Rattle.path_runs.specs.runs.node_core.declared.node.Brought.{Brought}
use Rattle.path_runs.specs.runs.node_core.Parts.{Requested, Streamed, is_for, dispatched, passed_on, request_all, taken, left_alone, stream_all}
use Rattle.path_runs.specs.runs.node_core.Starting.{Starting, due, start_one, start_each}
use Rattle.path_runs.specs.runs.node_core.Step.{NodeState, Stepped, silent, leads, coordinates, propose_all, tick_row, message_row, is_well_formed, brought_row, input_row, act_on, node_step}
use Rattle.path_runs.specs.runs.Story.{IsIn}
use Rattle.path_runs.proofs.runs.list_laws.Members.{IsIn-right}
use Rattle.path_runs.proofs.change_runs.LedHistories.{some_inner}
use Rattle.path_runs.proofs.change_runs.LedMaps.{mask_at}
use Rattle.path_runs.proofs.step_runs.Outs.{stream_cases}
use Rattle.version_runs.proofs.Executions.{each_starts}

pub none_some : {A : Type 0} (a : A) → None ≡ Some a → ⊥
none_some a f = absurd (cc f)

pub same_name : (a b : SessionName) → same_session a b ≡ true → a ≡ b
same_name a b e =
    let parts = and_parts (same_id a.asked b.asked) (same_id a.opened b.opened) e in
    let asked : a.asked ≡ b.asked = id_same a.asked b.asked parts.0 in
    let opened : a.opened ≡ b.opened = id_same a.opened b.opened parts.1 in
    λ i. record { asked = asked i; opened = opened i }

-- P says which points of a branch may be there
module _ (P : Id → ℕ → Type 0) where
  -- zero, or such a point
  abbrev pub Traced : Version → Type 0
  Traced v = (v ≡ zero) ⊎ ((branch : Id) × (v.branch ≡ Some branch) × P branch v.timestamp)

  -- each version of a map with a hash of the map
  abbrev pub MapTraced : Pieced Version → Type 0
  MapTraced m = (h : ℕ) (k : List ℕ) (v : Version) → h < m.hashes → value_at m.pieces h k ≡ Some v → Traced v

  -- each version of a map
  abbrev pub WholeTraced : Pieced Version → Type 0
  WholeTraced m = (h : ℕ) (k : List ℕ) (v : Version) → value_at m.pieces h k ≡ Some v → Traced v

  pub point_traced : (branch : Id) (at : ℕ) → P branch at → Traced (point branch at)
  point_traced branch at p = inr (branch, refl, p)

  -- ---- maps

  pub advanced_traced : (part : Region) (branch : Id) (at : ℕ) (m : Pieced Version) → P branch at → MapTraced m → MapTraced (advanced_map part branch at m)
  advanced_traced part branch at m p old h k v lt e =
      let hashes = advanced_map_hashes part branch at m in
      let within : h < m.hashes = omega (arith, lt, hashes) in
      cond_both (in_region part h k && is_behind branch at (value_at m.pieces h k)) (Some (point branch at)) (value_at m.pieces h k) (λ (o : Option Version). o ≡ Some v → Traced v)
      (λ _ f. subst Traced (some_inner (point branch at) v f) (point_traced branch at p)) (λ _ f. old h k v within f)
      (sym (advanced_map_at part branch at m h k within) ∙ e)

  pub replaced_traced : (part : Region) (branch : Id) (at : ℕ) (m : Pieced Version) → P branch at → MapTraced m → MapTraced (replaced_map part (point branch at) m)
  replaced_traced part branch at m p old h k v lt e =
      let hashes = replaced_map_hashes part (point branch at) m in
      let within : h < m.hashes = omega (arith, lt, hashes) in
      cond_both (in_region part h k && is_some (value_at m.pieces h k)) (Some (point branch at)) (value_at m.pieces h k) (λ (o : Option Version). o ≡ Some v → Traced v)
      (λ _ f. subst Traced (some_inner (point branch at) v f) (point_traced branch at p)) (λ _ f. old h k v within f)
      (sym (replaced_map_at part (point branch at) m h k within) ∙ e)

  pub masked_traced : (part : Region) (m : Pieced Version) → 0 < m.hashes → MapTraced m → WholeTraced (mask_map same_version part m)
  masked_traced part m some old h k v e =
      let value : ℕ → List ℕ → Option Version = λ g q. cond (in_region part g q) (value_at m.pieces g q) None in
      elim (cases_lt h m.hashes) [
        | inl lt ↦
            cond_both (in_region part h k) (value_at m.pieces h k) None (λ (o : Option Version). o ≡ Some v → Traced v) (λ _ f. old h k v lt f) (λ _ f. absurd (none_some v f))
            (sym (mask_at same_version version_decides part m h k lt) ∙ e)
        | inr le ↦
            let hashes = made_hashes same_version m.hashes (ends_of part ++ cuts_of m.pieces) value in
            let canonical = made_canonical same_version version_decides m.hashes (ends_of part ++ cuts_of m.pieces) value (mask_changes part m) some in
            absurd (none_some v (sym (none_beyond (mask_map same_version part m) h k canonical (omega (arith, hashes, le))) ∙ e))
      ]

  -- ---- requests

  request_traced : (hashes : ℕ) (xs : List Execution) (rows : Rows) (versions : Pieced Version) (op : OpId) (key : List ℕ) (what : Op)
      → ((x : Execution) → IsIn xs x → IsIn (request_all hashes xs rows versions op key what).outs (Dispatched op key x.branch (x.last + 1)) → P x.branch (x.last + 1))
      → MapTraced versions → MapTraced (request_all hashes xs rows versions op key what).versions
  request_traced hashes [] rows versions op key what may old = old
  request_traced hashes (x ∷ xs) rows versions op key what may old =
      let step : PrimaryStep = dispatch_row x rows versions op key what in
      let rest : Requested = request_all hashes xs rows versions op key what in
      cond_both (is_for hashes key x) (dispatched step xs) (passed_on x rest)
      (λ (r : Requested). ((y : Execution) → IsIn (x ∷ xs) y → IsIn r.outs (Dispatched op key y.branch (y.last + 1)) → P y.branch (y.last + 1)) → MapTraced r.versions)
      (λ _ m. advanced_traced x.contract.region x.branch (x.last + 1) versions (m x (inl refl) (told x)) old)
      (λ _ m. request_traced hashes xs rows versions op key what (λ y i. m y (inr i)) old) may
    where
      told : (x : Execution) → IsIn (dispatch_row x rows versions op key what).outs (Dispatched op key x.branch (x.last + 1))
      told x = IsIn-right (map (sends (part_of (value_of rows key) (x.last + 1) key what)) (filter has_room x.sessions)) (Dispatched op key x.branch (x.last + 1) ∷ []) (Dispatched op key x.branch (x.last + 1)) (inl refl)

  -- ---- streams

  pub record Follows (f : Following) : Type 0 where
    pub opened : f.session.opened ≡ f.branch
    pub stands : P f.branch f.position

  pub record StreamTraced (fs : List Following) (versions : Pieced Version) : Type 0 where
    pub follows : (f : Following) → IsIn fs f → Follows f
    pub versions_are : MapTraced versions

  more_follow : (f : Following) (fs : List Following) → Follows f → ((g : Following) → IsIn fs g → Follows g) → (g : Following) → IsIn (f ∷ fs) g → Follows g
  more_follow f fs h hs g i = elim i [ inl e ↦ subst Follows e h | inr j ↦ hs g j ]

  stream_traced : (fs : List Following) (rows : Rows) (versions : Pieced Version) (from : NodeId) (stream : Stream) (view : ℕ)
      → ((f : Following) → IsIn fs f → is_ours f from stream ≡ true → P f.branch (timestamp_of stream.part)) → StreamTraced fs versions
      → StreamTraced (stream_all fs rows versions from stream view).followings (stream_all fs rows versions from stream view).versions
  stream_traced [] rows versions from stream view next h = record { follows = λ f i. absurd i; versions_are = h.versions_are }
  stream_traced (f ∷ fs) rows versions from stream view next h =
      let rest : Streamed = stream_all fs rows versions from stream view in
      let own : Follows f = h.follows f (inl refl) in
      let others : (g : Following) → IsIn fs g → Follows g = λ g i. h.follows g (inr i) in
      let R : Streamed → Type 0 = λ r. StreamTraced r.followings r.versions in
      cond_both (is_ours f from stream) (taken (stream_row f rows versions from stream view) fs) (left_alone f rest) R
      (λ ours. stream_cases (λ (step : FollowingStep). R (taken step fs)) f rows versions from stream view
      (record { follows = more_follow f fs own others; versions_are = h.versions_are })
      (record { follows = more_follow f fs own others; versions_are = h.versions_are })
      (record {
        follows = more_follow (applied f stream) fs (record { opened = own.opened; stands = next f (inl refl) ours }) others;
        versions_are = advanced_traced f.region f.branch (timestamp_of stream.part) versions (next f (inl refl) ours) h.versions_are;
      }))
      (λ _.
      let r = stream_traced fs rows versions from stream view (λ g i. next g (inr i)) (record { follows = others; versions_are = h.versions_are }) in
      record { follows = more_follow f rest.followings own r.follows; versions_are = r.versions_are })

  -- ---- rows

  abbrev pub StoreTraced : NodeState → Type 0
  StoreTraced s = StreamTraced s.followings s.versions

  -- what a message that is brought lets a following come to
  abbrev pub MayCome : List Following → Option Brought → Type 0
  MayCome fs None = Unit {0}
  MayCome fs (Some b) = (f : Following) → IsIn fs f → (stream : Stream) → b.message ≡ message.Stream stream → is_ours f b.from stream ≡ true → P f.branch (timestamp_of stream.part)

  message_traced : (s : NodeState) (from : NodeId) (m : Sent) → MayCome s.followings (Some (record { from = from; message = m })) → StoreTraced s → StoreTraced (message_row s from m).node
  message_traced s from (message.Raft m) next h = h
  message_traced s from (message.Say contract ack) next h =
      cond_both (leads s.log) (record s { acks = with_ack contract from ack s.acks }) s StoreTraced (λ _. h) (λ _. h)
  message_traced s from (message.Stream stream) next h = stream_traced s.followings s.rows s.versions from stream s.log.acted (λ f i ours. next f i stream refl ours) h
  message_traced s from (message.Got got) next h = h

  brought_traced : (s : NodeState) (b : Option Brought) → MayCome s.followings b → StoreTraced s → StoreTraced (brought_row s b).node
  brought_traced s None next h = h
  brought_traced s (Some b) next h =
      cond_both (is_well_formed s b) (message_row s b.from b.message) (silent s) (λ (step : Stepped). StoreTraced step.node) (λ _. message_traced s b.from b.message next h) (λ _. h)

  tick_traced : (s : NodeState) → StoreTraced s → StoreTraced (tick_row s).node
  tick_traced s h =
      cond_both (coordinates s.log)
      (record s { log = propose_all s.log (proposals_of s.acks (table_of s.log)); acks = after_proposals s.acks (table_of s.log) }) s StoreTraced (λ _. h) (λ _. h)

  -- which points a request may take
  abbrev pub MayTake : NodeState → Input → Option Brought → Type 0
  MayTake s input b =
      (op : OpId) (key : List ℕ) (what : Op) → input ≡ Request op key what → (x : Execution) → IsIn s.executions x
      → IsIn (input_row s input b).outs (Dispatched op key x.branch (x.last + 1)) → P x.branch (x.last + 1)

  row_traced : (s : NodeState) (input : Input) (b : Option Brought) → MayTake s input b → MayCome s.followings b → StoreTraced s → StoreTraced (input_row s input b).node
  row_traced s (Request op key what) b may next h =
      record { follows = h.follows; versions_are = request_traced s.setup.hashes s.executions s.rows s.versions op key what (λ x i. may op key what refl x i) h.versions_are }
  row_traced s (GiveUp op) b may next h = h
  row_traced s (See other up) b may next h = h
  row_traced s Tick b may next h = tick_traced s h
  row_traced s (Deliver number) b may next h = brought_traced s b next h
  row_traced s Crash b may next h = record { follows = λ f i. absurd i; versions_are = h.versions_are }
  row_traced s Restart b may next h = record { follows = λ f i. absurd i; versions_are = h.versions_are }

  -- ---- starting

  -- the points with which a branch begins
  abbrev pub MayBegin : Id → ℕ → Type 0
  MayBegin branch initial = P branch initial × P branch (initial + 1)

  one_traced : (me : NodeId) (cs : List Contract) (a : Asking) (o : Option ℕ) (s : Starting) → ((initial : ℕ) → o ≡ Some initial → MayBegin a.branch initial) → MapTraced s.versions
      → MapTraced (start_one me cs a o s).versions
  one_traced me cs a None s may h = h
  one_traced me cs a (Some initial) s may h =
      let m = may initial refl in
      let first : Pieced Version = replaced_map a.contract.region (point a.branch initial) s.versions in
      advanced_traced a.contract.region a.branch (initial + 1) first m.1 (replaced_traced a.contract.region a.branch initial s.versions m.0 h)

  each_traced : (me : NodeId) (t : Table) (rest : List Asking) (s : Starting) → ((a : Asking) → IsIn rest a → (initial : ℕ) → due t a ≡ Some initial → MayBegin a.branch initial) → MapTraced s.versions
      → MapTraced (start_each me t rest s).versions
  each_traced me t [] s may h = h
  each_traced me t (a ∷ rest) s may h =
      each_traced me t rest (start_one me t.contracts a (due t a) s) (λ b i. may b (inr i)) (one_traced me t.contracts a (due t a) s (λ initial e. may a (inl refl) initial e) h)

  -- what starts in a step
  abbrev pub MayStart : Stepped → Option Results → Type 0
  MayStart step v =
      (a : Asking) → IsIn step.node.asking a → (initial : ℕ) → due (table_of (act_on step v).node.log) a ≡ Some initial
      → IsIn (act_on step v).node.executions (started a step.node.me initial) → MayBegin a.branch initial

  act_traced : (step : Stepped) (v : Option Results) → MayStart step v → StoreTraced step.node → StoreTraced (act_on step v).node
  act_traced step None may h = h
  act_traced step (Some v) may h =
      let t : Table = table_of (caught_up step.node.log) in
      let begin : Starting = record { asking = []; executions = step.node.executions; versions = step.node.versions } in
      record {
        follows = h.follows;
        versions_are = each_traced step.node.me t step.node.asking begin (λ a i initial e. may a i initial e (each_starts step.node.me t step.node.asking begin a initial i e)) h.versions_are;
      }

  pub step_traced : (s : NodeState) (input : Input) (b : Option Brought) → MayTake s input b → MayCome s.followings b
      → MayStart (input_row s input b) (viewed (input_row s input b).node.log) → StoreTraced s → StoreTraced (node_step s input b).node
  step_traced s input b may next starts h =
      act_traced (input_row s input b) (viewed (input_row s input b).node.log) starts (row_traced s input b may next h)
