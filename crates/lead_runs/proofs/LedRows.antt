-- What the row of an input does to what a node keeps of branches, regions and versions.
use Rattle.std.proofs.Common.{◌≡◌, ◌⊎◌, ℕ, ◌+◌, true, List, [], ◌∷◌, ◌++◌, map, filter, Option, Some, None, inl, inr, refl, ap, ◌∙◌}
use Rattle.std.proofs.lemmas.Bool.{cond_both}
use Rattle.change_runs.specs.runs.region_map.declared.id.Id.{Id}
use Rattle.change_runs.specs.runs.region_map.declared.id.NodeId.{NodeId}
use Rattle.change_runs.specs.runs.region_map.declared.region.Region.{Region}
use Rattle.change_runs.specs.runs.region_map.Keys.{hash_of}
use Rattle.change_runs.specs.runs.region_map.Regions.{in_region}
use Rattle.change_runs.specs.runs.region_map.Maps.{Pieced}
use Rattle.change_runs.specs.runs.branch_history.declared.version.Version.{Version}
use Rattle.change_runs.specs.runs.register_laws.declared.operation.OpId.{OpId}
use Rattle.change_runs.specs.runs.register_laws.declared.operation.Op.{Op}
use Rattle.change_runs.specs.runs.contract_types.declared.contract.Contract.{Contract}
use Rattle.change_runs.specs.runs.table_log.Logs.{table_of}
use Rattle.change_runs.specs.runs.coordinator.Acks.{with_ack}
use Rattle.change_runs.specs.runs.coordinator.Proposals.{proposals_of, after_proposals}
use Rattle.change_runs.specs.runs.exec_types.Parts.{timestamp_of}
use Rattle.change_runs.specs.runs.exec_types.declared.message.Got.{Got}
use Rattle.change_runs.specs.runs.exec_types.declared.message.Message.{Message as Sent}
use Rattle.change_runs.specs.runs.exec_types.declared.message.Message.TheVariants as message
use Rattle.change_runs.specs.runs.exec_types.declared.message.Part.{Part}
use Rattle.change_runs.specs.runs.exec_types.declared.message.Stream.{Stream}
use Rattle.change_runs.specs.runs.exec_types.declared.input.Input.{Input}
use Rattle.change_runs.specs.runs.exec_types.declared.input.Input.TheVariants.{Request, GiveUp, See, Tick, Deliver, Crash, Restart}
use Rattle.change_runs.specs.runs.exec_types.declared.output.Output.TheVariants as output
use Rattle.change_runs.specs.runs.store_api.Rows.{Rows, value_of}
use Rattle.change_runs.specs.runs.store_api.Versions.{advanced_map}
use Rattle.change_runs.specs.runs.primary_exec.declared.asking.Asking.{Asking}
use Rattle.change_runs.specs.runs.primary_exec.declared.session.Session.{Session}
use Rattle.change_runs.specs.runs.primary_exec.Execution.{Execution, PrimaryStep, has_room, sends, part_of, dispatch_row, with_acked, with_stands, is_live, got_row, give_up_row}
use Rattle.change_runs.specs.runs.secondary_exec.declared.following.Following.{Following}
use Rattle.change_runs.specs.runs.secondary_exec.Stream.{FollowingStep, is_ours, stream_row}
use Rattle.change_runs.specs.runs.node_core.declared.node.Brought.{Brought}
use Rattle.change_runs.specs.runs.node_core.Parts.{Requested, Streamed, is_for, dispatched, passed_on, request_all, taken, left_alone, stream_all}
use Rattle.change_runs.specs.runs.node_core.Step.{NodeState, Stepped, silent, message_row, is_well_formed, brought_row, leads, coordinates, propose_all, with_proposals, input_row, askings_from}
use Rattle.change_runs.specs.runs.Story.{Point, IsIn, points_in, points_of}
use Rattle.change_runs.proofs.step_runs.Outs.{points_in-append, points_in-sends, stream_cases}

-- ---- what a node keeps

-- a branch that a primary writes: its contract, and the last timestamp that was taken of it
pub record Lead : Type 0 where
  pub contract : Contract
  pub branch : Id
  pub last : ℕ

abbrev pub lead_of : Execution → Lead
lead_of x = record { contract = x.contract; branch = x.branch; last = x.last }

abbrev pub leads_of : List Execution → List Lead
leads_of xs = map lead_of xs

abbrev pub region_of : Following → Region
region_of f = f.region

abbrev pub regions_of : List Following → List Region
regions_of fs = map region_of fs

pub record Kept : Type 0 where
  pub life : ℕ
  pub versions : Pieced Version
  pub asking : List Asking
  pub leads : List Lead
  pub followed : List Region

abbrev pub kept : NodeState → Kept
kept s = record { life = s.life; versions = s.versions; asking = s.asking; leads = leads_of s.executions; followed = regions_of s.followings }

-- ---- what a row does to it

pub data Done (me : NodeId) (hashes : ℕ) (contracts : List Contract) (k next : Kept) (qs : List Point) : Type 0 where
  Still : next ≡ k → qs ≡ [] → Done me hashes contracts k next qs
  Dispatches : (before after : List Lead) (x : Lead) (q : Point) → k.leads ≡ before ++ x ∷ after → in_region x.contract.region (hash_of q.key hashes) q.key ≡ true
      → q.branch ≡ x.branch → q.timestamp ≡ x.last + 1
      → next ≡ record k { versions = advanced_map x.contract.region x.branch (x.last + 1) k.versions; leads = before ++ record x { last = x.last + 1 } ∷ after }
      → qs ≡ q ∷ [] → Done me hashes contracts k next qs
  Streams : (region : Region) (branch : Id) (at : ℕ) → IsIn k.followed region → next ≡ record k { versions = advanced_map region branch at k.versions } → qs ≡ [] → Done me hashes contracts k next qs
  GoesDown : next ≡ record k { asking = []; leads = []; followed = [] } → qs ≡ [] → Done me hashes contracts k next qs
  ComesUp : next ≡ record { life = k.life + 1; versions = k.versions; asking = askings_from me (k.life + 1) 0 contracts; leads = []; followed = [] } → qs ≡ [] → Done me hashes contracts k next qs

-- ---- executions

leads_map : (f : Execution → Execution) → ((x : Execution) → lead_of (f x) ≡ lead_of x) → (xs : List Execution) → leads_of (map f xs) ≡ leads_of xs
leads_map f same [] = refl
leads_map f same (x ∷ xs) = λ i. same x i ∷ leads_map f same xs i

got_lead : (from : NodeId) (got : Got) (x : Execution) → lead_of (got_row x from got) ≡ lead_of x
got_lead from got x =
    cond_both (is_live x from got.session)
    (record x { sessions = map (with_acked from got.session got.upto) x.sessions; dispatch = with_stands x.dispatch from got got.stands }) x
    (λ (y : Execution). lead_of y ≡ lead_of x) (λ _. refl) (λ _. refl)

pub with_leads : (s : NodeState) (xs : List Execution) → leads_of xs ≡ leads_of s.executions → kept (record s { executions = xs }) ≡ kept s
with_leads s xs same = λ i. record { life = s.life; versions = s.versions; asking = s.asking; leads = same i; followed = regions_of s.followings }

pub decided_leads : (f : Execution → Execution) → ((x : Execution) → lead_of (f x) ≡ lead_of x) → (s : NodeState) → kept (record s { executions = map f s.executions }) ≡ kept s
decided_leads f same s = with_leads s (map f s.executions) (leads_map f same s.executions)

leads_append : (xs ys : List Execution) → leads_of (xs ++ ys) ≡ leads_of xs ++ leads_of ys
leads_append [] ys = refl
leads_append (x ∷ xs) ys = ap (λ (l : List Lead). lead_of x ∷ l) (leads_append xs ys)

-- ---- requests

record Moves (hashes : ℕ) (xs : List Execution) (rows : Rows) (versions : Pieced Version) (op : OpId) (key : List ℕ) (what : Op) (r : Requested) : Type 0 where
  before : List Execution
  x : Execution
  after : List Execution
  these : xs ≡ before ++ x ∷ after
  has : is_for hashes key x ≡ true
  executions : r.executions ≡ before ++ (dispatch_row x rows versions op key what).execution ∷ after
  versions_are : r.versions ≡ (dispatch_row x rows versions op key what).versions
  outs : r.outs ≡ (dispatch_row x rows versions op key what).outs

record Nothing (xs : List Execution) (versions : Pieced Version) (what : Op) (r : Requested) : Type 0 where
  executions : r.executions ≡ xs
  versions_are : r.versions ≡ versions
  outs : points_in what r.outs ≡ []

request_moves : (hashes : ℕ) (xs : List Execution) (rows : Rows) (versions : Pieced Version) (op : OpId) (key : List ℕ) (what : Op)
    → Nothing xs versions what (request_all hashes xs rows versions op key what) ⊎ Moves hashes xs rows versions op key what (request_all hashes xs rows versions op key what)
request_moves hashes [] rows versions op key what = inl (record { executions = refl; versions_are = refl; outs = refl })
request_moves hashes (x ∷ xs) rows versions op key what =
    let rest : Requested = request_all hashes xs rows versions op key what in
    let row : PrimaryStep = dispatch_row x rows versions op key what in
    let M : Requested → Type 0 = λ r. Nothing (x ∷ xs) versions what r ⊎ Moves hashes (x ∷ xs) rows versions op key what r in
    cond_both (is_for hashes key x) (dispatched row xs) (passed_on x rest) M
    (λ has. inr (record { before = []; x = x; after = xs; these = refl; has = has; executions = refl; versions_are = refl; outs = refl }))
    (λ _. elim (request_moves hashes xs rows versions op key what) [
      | inl e ↦ inl (record { executions = ap (λ (l : List Execution). x ∷ l) e.executions; versions_are = e.versions_are; outs = e.outs })
      | inr m ↦ inr (record {
        before = x ∷ m.before;
        x = m.x;
        after = m.after;
        these = ap (λ (l : List Execution). x ∷ l) m.these;
        has = m.has;
        executions = ap (λ (l : List Execution). x ∷ l) m.executions;
        versions_are = m.versions_are;
        outs = m.outs;
      })
    ])

abbrev taken_point : OpId → List ℕ → Op → Execution → Point
taken_point op key what x = record { op = op; what = what; key = key; branch = x.branch; timestamp = x.last + 1 }

dispatch_points : (x : Execution) (rows : Rows) (versions : Pieced Version) (op : OpId) (key : List ℕ) (what : Op) → points_in what (dispatch_row x rows versions op key what).outs ≡ taken_point op key what x ∷ []
dispatch_points x rows versions op key what =
    let part : Part = part_of (value_of rows key) (x.last + 1) key what in
    let sessions : List Session = filter has_room x.sessions in
    points_in-append what (map (sends part) sessions) (output.Dispatched op key x.branch (x.last + 1) ∷ [])
    ∙ ap (λ (l : List Point). l ++ taken_point op key what x ∷ []) (points_in-sends what part sessions)

module _ (me : NodeId) (hashes : ℕ) (contracts : List Contract) where
  request_done : (s : NodeState) (op : OpId) (key : List ℕ) (what : Op) (r : Requested) → Nothing s.executions s.versions what r ⊎ Moves hashes s.executions s.rows s.versions op key what r
      → Done me hashes contracts (kept s) (kept (record s { executions = r.executions; rows = r.rows; versions = r.versions })) (points_in what r.outs)
  request_done s op key what r (inl e) =
      Still (λ i. record { life = s.life; versions = e.versions_are i; asking = s.asking; leads = leads_of (e.executions i); followed = regions_of s.followings }) e.outs
  request_done s op key what r (inr m) =
      let leads_are : leads_of r.executions ≡ leads_of m.before ++ record { contract = m.x.contract; branch = m.x.branch; last = m.x.last + 1 } ∷ leads_of m.after =
      ap leads_of m.executions ∙ leads_append m.before ((dispatch_row m.x s.rows s.versions op key what).execution ∷ m.after) in
      Dispatches (leads_of m.before) (leads_of m.after) (lead_of m.x) (taken_point op key what m.x)
      (ap leads_of m.these ∙ leads_append m.before (m.x ∷ m.after)) m.has refl refl
      (λ i. record { life = s.life; versions = m.versions_are i; asking = s.asking; leads = leads_are i; followed = regions_of s.followings })
      (ap (points_in what) m.outs ∙ dispatch_points m.x s.rows s.versions op key what)

-- ---- streams

-- one of the regions moves, or none does
data Moved (followed : List Region) (versions : Pieced Version) (regions : List Region) (newer : Pieced Version) : Type 0 where
  Unmoved : regions ≡ followed → newer ≡ versions → Moved followed versions regions newer
  One : (region : Region) (branch : Id) (at : ℕ) → IsIn followed region → regions ≡ followed → newer ≡ advanced_map region branch at versions → Moved followed versions regions newer

one_more : (f : Region) (followed : List Region) (versions : Pieced Version) (regions : List Region) (newer : Pieced Version) → Moved followed versions regions newer → Moved (f ∷ followed) versions (f ∷ regions) newer
one_more f followed versions regions newer (Unmoved a b) = Unmoved (ap (λ (l : List Region). f ∷ l) a) b
one_more f followed versions regions newer (One region branch at i a b) = One region branch at (inr i) (ap (λ (l : List Region). f ∷ l) a) b

stream_moved : (fs : List Following) (rows : Rows) (versions : Pieced Version) (from : NodeId) (stream : Stream) (view : ℕ)
    → Moved (regions_of fs) versions (regions_of (stream_all fs rows versions from stream view).followings) (stream_all fs rows versions from stream view).versions
stream_moved [] rows versions from stream view = Unmoved refl refl
stream_moved (f ∷ fs) rows versions from stream view =
    let M : Streamed → Type 0 = λ r. Moved (regions_of (f ∷ fs)) versions (regions_of r.followings) r.versions in
    let rest : Streamed = stream_all fs rows versions from stream view in
    cond_both (is_ours f from stream) (taken (stream_row f rows versions from stream view) fs) (left_alone f rest) M
    (λ _. stream_cases (λ (step : FollowingStep). M (taken step fs)) f rows versions from stream view (Unmoved refl refl) (Unmoved refl refl)
    (One f.region f.branch (timestamp_of stream.part) (inl refl) refl refl))
    (λ _. one_more f.region (regions_of fs) versions (regions_of rest.followings) rest.versions (stream_moved fs rows versions from stream view))

module _ (me : NodeId) (hashes : ℕ) (contracts : List Contract) where
  stream_done : (s : NodeState) (r : Streamed) → Moved (regions_of s.followings) s.versions (regions_of r.followings) r.versions
      → Done me hashes contracts (kept s) (kept (record s { followings = r.followings; rows = r.rows; versions = r.versions })) []
  stream_done s r (Unmoved a b) = Still (λ i. record { life = s.life; versions = b i; asking = s.asking; leads = leads_of s.executions; followed = a i }) refl
  stream_done s r (One region branch at i a b) =
      Streams region branch at i (λ j. record { life = s.life; versions = b j; asking = s.asking; leads = leads_of s.executions; followed = a j }) refl

  message_done : (s : NodeState) (from : NodeId) (m : Sent) → Done me hashes contracts (kept s) (kept (message_row s from m).node) []
  message_done s from (message.Raft m) = Still refl refl
  message_done s from (message.Say contract ack) =
      cond_both (leads s.log) (record s { acks = with_ack contract from ack s.acks }) s (λ (t : NodeState). Done me hashes contracts (kept s) (kept t) []) (λ _. Still refl refl) (λ _. Still refl refl)
  message_done s from (message.Stream stream) = stream_done s (stream_all s.followings s.rows s.versions from stream s.log.acted) (stream_moved s.followings s.rows s.versions from stream s.log.acted)
  message_done s from (message.Got got) = Still (decided_leads (λ x. got_row x from got) (got_lead from got) s) refl

  brought_done : (s : NodeState) (b : Option Brought) → Done me hashes contracts (kept s) (kept (brought_row s b).node) []
  brought_done s None = Still refl refl
  brought_done s (Some b) =
      cond_both (is_well_formed s b) (message_row s b.from b.message) (silent s) (λ (step : Stepped). Done me hashes contracts (kept s) (kept step.node) [])
      (λ _. message_done s b.from b.message) (λ _. Still refl refl)

tick_kept : (s : NodeState) → kept (with_proposals s) ≡ kept s
tick_kept s =
    cond_both (coordinates s.log)
    (record s { log = propose_all s.log (proposals_of s.acks (table_of s.log)); acks = after_proposals s.acks (table_of s.log) }) s
    (λ (t : NodeState). kept t ≡ kept s) (λ _. refl) (λ _. refl)

pub row_done : (s : NodeState) (input : Input) (b : Option Brought)
    → Done s.me s.setup.hashes (table_of s.log).contracts (kept s) (kept (input_row s input b).node) (points_of input (input_row s input b).outs)
row_done s (Request op key what) b =
    request_done s.me s.setup.hashes (table_of s.log).contracts s op key what (request_all s.setup.hashes s.executions s.rows s.versions op key what)
    (request_moves s.setup.hashes s.executions s.rows s.versions op key what)
row_done s (GiveUp op) b = Still (decided_leads (λ x. give_up_row x op) (λ x. refl) s) refl
row_done s (See other up) b = Still refl refl
row_done s Tick b = Still (tick_kept s) refl
row_done s (Deliver number) b = brought_done s.me s.setup.hashes (table_of s.log).contracts s b
row_done s Crash b = GoesDown refl refl
row_done s Restart b = ComesUp refl refl
