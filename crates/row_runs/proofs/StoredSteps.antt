-- What a step of a node leaves of the rows, the executions and the followings of the node, and what it tells others.
use Rattle.std.proofs.Common.{◌≡◌, ℕ, ◌+◌, ◌≤◌, ◌<◌, ◌==◌, Bool, true, false, cond, nat_lt, nat_le, List, [], ◌∷◌, ◌++◌, map, filter, Some, refl, sym, ap, ◌∙◌, subst, ◌⊎◌, inl, inr, arith, append-nil}
use Rattle.std.proofs.lemmas.Bool.{false≢true, false_from_ne_true, cond_both, and_parts, eqb-true}
use Rattle.std.specs.List.{AllByRecursion}
use Rattle.path_runs.specs.runs.region_map.declared.id.Id.{Id}
use Rattle.path_runs.specs.runs.region_map.declared.id.NodeId.{NodeId}
use Rattle.path_runs.specs.runs.region_map.declared.region.Region.{Region}
use Rattle.path_runs.specs.runs.region_map.Keys.{hash_of}
use Rattle.path_runs.specs.runs.region_map.Regions.{in_region}
use Rattle.path_runs.specs.runs.region_map.Maps.{Pieced}
use Rattle.path_runs.specs.runs.region_map.Equal.{same_id}
use Rattle.path_runs.specs.runs.branch_history.declared.version.Version.{Version}
use Rattle.path_runs.specs.runs.contract_types.Setup.{SetupState}
use Rattle.path_runs.specs.runs.register_laws.declared.operation.OpId.{OpId}
use Rattle.path_runs.specs.runs.register_laws.declared.operation.Op.{Op}
use Rattle.path_runs.specs.runs.register_laws.Register.{State, state_after, writes}
use Rattle.path_runs.specs.runs.contract_types.Tilings.{holders}
use Rattle.path_runs.specs.runs.exec_types.Parts.{timestamp_of, effect_of}
use Rattle.path_runs.specs.runs.exec_types.Sessions.{same_session}
use Rattle.path_runs.specs.runs.exec_types.declared.message.Message.{Message as Sent}
use Rattle.path_runs.specs.runs.exec_types.declared.message.Message.TheVariants as message
use Rattle.path_runs.specs.runs.exec_types.declared.message.Part.{Part}
use Rattle.path_runs.specs.runs.exec_types.declared.message.Part.TheVariants.{Write, Sync}
use Rattle.path_runs.specs.runs.exec_types.declared.message.Stream.{Stream}
use Rattle.path_runs.specs.runs.exec_types.declared.outcome.Outcome.TheVariants.{NotServing}
use Rattle.path_runs.specs.runs.exec_types.declared.output.Output.{Output}
use Rattle.path_runs.specs.runs.exec_types.declared.output.Output.TheVariants.{Message, Dispatched, Viewed, Answer}
use Rattle.path_runs.specs.runs.store_api.Rows.{Rows, has_key, row_of, value_of}
use Rattle.path_runs.specs.runs.store_api.Versions.{point, version_of, advanced_rows, advanced_map}
use Rattle.path_runs.specs.runs.primary_exec.declared.session.Session.{Session}
use Rattle.path_runs.specs.runs.primary_exec.Execution.{Execution, PrimaryStep, has_room, with_sent, sends, part_of, dispatch_row}
use Rattle.path_runs.specs.runs.secondary_exec.declared.following.Following.{Following}
use Rattle.path_runs.specs.runs.secondary_exec.Stream.{FollowingStep, stream_row, is_ours, take_part, is_next, apply_part, acknowledgement, quiet}
use Rattle.path_runs.specs.runs.node_core.Parts.{Requested, Streamed, is_for, dispatched, passed_on, request_all, taken as took, left_alone, stream_all}
use Rattle.path_runs.specs.runs.Story.{Point, IsIn, points_in}
use Rattle.path_runs.proofs.step_runs.Begun.{begun_branch}
use Rattle.path_runs.proofs.step_runs.Setups.{following_region}
use Rattle.path_runs.proofs.step_runs.Nodes.{holders-in, holders-rest}
use Rattle.path_runs.proofs.step_runs.Told.{IsIn-right}
use Rattle.path_runs.proofs.key_runs.Requesting.{point_at, dispatch_points}
use Rattle.path_runs.proofs.change_runs.StoredPaths.{row_at, same_id-true, IsReached, IsAbove, reached_last, Grows, grows_same, grows_next}
pub use Rattle.path_runs.proofs.runs.list_laws.All.{all_append}
use Rattle.path_runs.proofs.runs.list_laws.All.{all_filter}
use Rattle.row_runs.proofs.StoredMoves.{AllKept, kept_grown, Tells, tells_grown, tells_new, StandsAt, version_outside, version_inside, kept_outside, kept_moved}

-- ---- lists with one member that changes

abbrev pub Pairs : {A : Type 0} → (A → A → Type 0) → List A → Type 0
Pairs R [] = Unit {0}
Pairs R (x ∷ xs) = AllByRecursion (R x) xs × Pairs R xs

pub all_step : {A B : Type 0} (P : A → Type 0) (Q : B → Type 0) (f : A → B) → ((x : A) → P x → Q (f x)) → (xs : List A) → AllByRecursion P xs → AllByRecursion Q (map f xs)
all_step P Q f step [] h = tt
all_step P Q f step (x ∷ xs) h = (step x h.0, all_step P Q f step xs h.1)

pub all_weaker : {A : Type 0} (P Q : A → Type 0) → ((x : A) → P x → Q x) → (xs : List A) → AllByRecursion P xs → AllByRecursion Q xs
all_weaker P Q step [] h = tt
all_weaker P Q step (x ∷ xs) h = (step x h.0, all_weaker P Q step xs h.1)

all_middle : {A : Type 0} (P : A → Type 0) (before : List A) (x : A) (after : List A) → AllByRecursion P (before ++ x ∷ after) → P x
all_middle P [] x after h = h.0
all_middle P (z ∷ before) x after h = all_middle P before x after h.1

-- one member changes, and the others are apart from it
around : {A : Type 0} (P Q : A → Type 0) (R : A → A → Type 0) (before : List A) (x y : A) (after : List A) → Pairs R (before ++ x ∷ after)
    → ((z : A) → R z x ⊎ R x z → P z → Q z) → Q y → AllByRecursion P (before ++ x ∷ after) → AllByRecursion Q (before ++ y ∷ after)
around P Q R [] x y after r step new h = (new, rest after r.0 h.1)
  where
    rest : (zs : List _) → AllByRecursion (R x) zs → AllByRecursion P zs → AllByRecursion Q zs
    rest [] r h = tt
    rest (z ∷ zs) r h = (step z (inr r.0) h.0, rest zs r.1 h.1)
around P Q R (z ∷ before) x y after r step new h = (step z (inl (all_middle (R z) before x after r.0)) h.0, around P Q R before x y after r.1 step new h.1)

-- one member changes, and the others keep what holds of them
all_changed : {A : Type 0} (P Q : A → Type 0) (before : List A) (x y : A) (after : List A) → ((z : A) → P z → Q z) → Q y → AllByRecursion P (before ++ x ∷ after) → AllByRecursion Q (before ++ y ∷ after)
all_changed P Q [] x y after step new h = (new, all_weaker P Q step after h.1)
all_changed P Q (z ∷ before) x y after step new h = (step z h.0, all_changed P Q before x y after step new h.1)

-- ---- the facts

-- the sessions of an execution have been sent a part for each timestamp that it took, behind the first part
abbrev pub IsSessionOf : Id → ℕ → Session → Type 0
IsSessionOf branch last s = (s.sent ≡ last + 1) × (s.name.opened ≡ branch)

-- an execution of the branch with which its shards begin, at a timestamp that was taken
abbrev pub IsFirst : SetupState → List Point → Execution → Type 0
IsFirst setup ps x = ((key : List ℕ) → is_for setup.hashes key x ≡ true → begun_branch setup key ≡ Some x.branch) × IsReached ps (point x.branch x.last)

-- an execution that has sessions is such a one
pub record Runs (setup : SetupState) (ps : List Point) (x : Execution) : Type 0 where
  pub first : (x.sessions ≡ []) ⊎ IsFirst setup ps x
  pub sessions : AllByRecursion (IsSessionOf x.branch x.last) x.sessions

-- a following has a part for each timestamp up to its position, behind the first part, and its region stands there, which
-- has kept keys alone
pub record Follows (Q : List ℕ → Type 0) (hashes : ℕ) (versions : Pieced Version) (f : Following) : Type 0 where
  pub got : f.got ≡ f.position + 1
  pub opened : f.session.opened ≡ f.branch
  pub stands : StandsAt hashes versions f.region f.branch f.position
  pub away : (key : List ℕ) → has_key f.region hashes key ≡ true → Q key

pub record NodeKept (Q : List ℕ → Type 0) (setup : SetupState) (ps : List Point) (rows : Rows) (versions : Pieced Version) (xs : List Execution) (fs : List Following) : Type 0 where
  pub kept : AllKept Q setup ps rows versions
  pub runs : AllByRecursion (Runs setup ps) xs
  pub follows : AllByRecursion (Follows Q setup.hashes versions) fs

-- a part tells of the point of its timestamp of the branch under whose id its session was opened
pub record StreamTells (ps : List Point) (s : Stream) : Type 0 where
  pub at : ℕ
  pub number : s.number ≡ at + 2
  pub time : timestamp_of s.part ≡ at + 1
  pub tells : Tells ps s.session.opened at s.part

abbrev pub SentTells : List Point → Sent → Type 0
SentTells ps (message.Raft m) = Unit {0}
SentTells ps (message.Say contract ack) = Unit {0}
SentTells ps (message.Stream s) = StreamTells ps s
SentTells ps (message.Got g) = Unit {0}

abbrev pub OutTells : List Point → Output → Type 0
OutTells ps (Message to m) = SentTells ps m
OutTells ps (Dispatched op key branch timestamp) = Unit {0}
OutTells ps (Viewed first results) = Unit {0}
OutTells ps (Answer op outcome) = Unit {0}

-- ---- more points

pub stream_grown : (ps more : List Point) (s : Stream) → Grows ps more → StreamTells ps s → StreamTells more s
stream_grown ps more s g t = record { at = t.at; number = t.number; time = t.time; tells = tells_grown ps more s.session.opened t.at s.part g t.tells }

pub sent_grown : (ps more : List Point) → Grows ps more → (m : Sent) → SentTells ps m → SentTells more m
sent_grown ps more g (message.Raft m) t = tt
sent_grown ps more g (message.Say contract ack) t = tt
sent_grown ps more g (message.Stream s) t = stream_grown ps more s g t
sent_grown ps more g (message.Got got) t = tt

runs_grown : (setup : SetupState) (ps more : List Point) (x : Execution) → Grows ps more → Runs setup ps x → Runs setup more x
runs_grown setup ps more x g r =
    record { first = elim r.first [ inl none ↦ inl none | inr f ↦ inr (f.0, g.reached (point x.branch x.last) f.1) ]; sessions = r.sessions }

-- where another node moved
pub other_kept : (Q : List ℕ → Type 0) (setup : SetupState) (ps more : List Point) (rows : Rows) (versions : Pieced Version) (xs : List Execution) (fs : List Following) → Grows ps more
    → NodeKept Q setup ps rows versions xs fs → NodeKept Q setup more rows versions xs fs
other_kept Q setup ps more rows versions xs fs g h =
    record {
      kept = λ key away. kept_grown setup ps more rows versions key g (h.kept key away);
      runs = all_weaker (Runs setup ps) (Runs setup more) (λ x r. runs_grown setup ps more x g r) xs h.runs;
      follows = h.follows;
    }

-- ---- requests

abbrev moved_request : List Execution → PrimaryStep → List Execution → Requested
moved_request before step after = record { executions = before ++ step.execution ∷ after; rows = step.rows; versions = step.versions; outs = step.outs }

-- one execution dispatches
record RequestMoves (hashes : ℕ) (xs : List Execution) (rows : Rows) (versions : Pieced Version) (op : OpId) (key : List ℕ) (what : Op) (r : Requested) : Type 0 where
  before : List Execution
  x : Execution
  after : List Execution
  these : xs ≡ before ++ x ∷ after
  has : is_for hashes key x ≡ true
  all : r ≡ moved_request before (dispatch_row x rows versions op key what) after

-- or nothing but the answer happens
abbrev unserved : List Execution → Rows → Pieced Version → OpId → Requested
unserved xs rows versions op = record { executions = xs; rows = rows; versions = versions; outs = Answer op NotServing ∷ [] }

request_moves : (hashes : ℕ) (xs : List Execution) (rows : Rows) (versions : Pieced Version) (op : OpId) (key : List ℕ) (what : Op)
    → (request_all hashes xs rows versions op key what ≡ unserved xs rows versions op) ⊎ RequestMoves hashes xs rows versions op key what (request_all hashes xs rows versions op key what)
request_moves hashes [] rows versions op key what = inl refl
request_moves hashes (x ∷ xs) rows versions op key what =
    let rest : Requested = request_all hashes xs rows versions op key what in
    let row : PrimaryStep = dispatch_row x rows versions op key what in
    let M : Requested → Type 0 = λ r. (r ≡ unserved (x ∷ xs) rows versions op) ⊎ RequestMoves hashes (x ∷ xs) rows versions op key what r in
    cond_both (is_for hashes key x) (dispatched row xs) (passed_on x rest) M
    (λ has. inr (record { before = []; x = x; after = xs; these = refl; has = has; all = refl }))
    (λ _. elim (request_moves hashes xs rows versions op key what) [
      | inl e ↦ inl (ap (passed_on x) e)
      | inr m ↦ inr (record { before = x ∷ m.before; x = m.x; after = m.after; these = ap (λ l. x ∷ l) m.these; has = m.has; all = ap (passed_on x) m.all })
    ])

-- what is kept after a row, in a history that the row's points are in
pub record RowKept (Q : List ℕ → Type 0) (setup : SetupState) (ps more : List Point) (rows : Rows) (versions : Pieced Version) (xs : List Execution) (fs : List Following) (outs : List Output) : Type 0 where
  pub grows : Grows ps more
  pub node : NodeKept Q setup more rows versions xs fs
  pub tells : AllByRecursion (OutTells more) outs

part_time : (before : State) (at : ℕ) (key : List ℕ) (what : Op) → timestamp_of (part_of before at key what) ≡ at
part_time before at key what =
    cond_both (writes before what) (Write at key (record { value = state_after before what; recency = at })) (Sync at) (λ (p : Part). timestamp_of p ≡ at) (λ _. refl) (λ _. refl)

-- what a session is sent of a new point
session_tells : (ps : List Point) (branch : Id) (last : ℕ) (part : Part) (ss : List Session) → timestamp_of part ≡ last + 1 → Tells ps branch last part → AllByRecursion (IsSessionOf branch last) ss
    → AllByRecursion (OutTells ps) (map (sends part) ss)
session_tells ps branch last part ss time t h =
    all_step (IsSessionOf branch last) (OutTells ps) (sends part)
    (λ s is.
    let sent = is.0 in
    record { at = last; number = omega (arith, sent); time = time; tells = subst (λ b. Tells ps b last part) (sym is.1) t }) ss h

-- a following keeps where it stands while a region without kept keys moves
pub follows_outside : (Q : List ℕ → Type 0) (hashes : ℕ) (versions newer : Pieced Version) → ((key : List ℕ) → Q key → version_of newer key ≡ version_of versions key)
    → (fs : List Following) → AllByRecursion (Follows Q hashes versions) fs → AllByRecursion (Follows Q hashes newer) fs
follows_outside Q hashes versions newer stay fs h =
    all_weaker (Follows Q hashes versions) (Follows Q hashes newer)
    (λ f k. record { got = k.got; opened = k.opened; stands = λ key has. stay key (k.away key has) ∙ k.stands key has; away = k.away }) fs h

dispatch_kept : (Q : List ℕ → Type 0) (setup : SetupState) (ps : List Point) (rows : Rows) (versions : Pieced Version) (before : List Execution) (x : Execution) (after : List Execution) (fs : List Following)
    (op : OpId) (key : List ℕ) (what : Op) → 0 < setup.hashes → versions.hashes ≡ setup.hashes → ((k : List ℕ) → Q k → is_for setup.hashes k x ≡ false)
    → (IsFirst setup ps x → row_of rows key ≡ row_at ps key (point x.branch x.last)) → IsAbove ps (point_at op key what x.branch (x.last + 1)) → NodeKept Q setup ps rows versions (before ++ x ∷ after) fs
    → RowKept Q setup ps (ps ++ point_at op key what x.branch (x.last + 1) ∷ []) (dispatch_row x rows versions op key what).rows (dispatch_row x rows versions op key what).versions
    (before ++ (dispatch_row x rows versions op key what).execution ∷ after) fs (dispatch_row x rows versions op key what).outs
dispatch_kept Q setup ps rows versions before x after fs op key what some same apart row_is new h =
    let region : Region = x.contract.region in
    let part : Part = part_of (value_of rows key) (x.last + 1) key what in
    let row : PrimaryStep = dispatch_row x rows versions op key what in
    let q : Point = point_at op key what x.branch (x.last + 1) in
    let more : List Point = ps ++ q ∷ [] in
    let own : Runs setup ps x = all_middle (Runs setup ps) before x after h.runs in
    let up : 0 < x.last + 1 = omega arith in
    let g : Grows ps more = grows_next ps q new up in
    let some_too : 0 < versions.hashes = omega (arith, some, same) in
    let out = λ (k : List ℕ) (away : Q k). ap (λ c. has_key region c k) same ∙ apart k away in
    let with_room = all_filter (IsSessionOf x.branch x.last) has_room x.sessions own.sessions in
    record {
      grows = g;
      node =
          record {
            kept = λ k away.
                kept_outside region x.branch x.last part rows versions setup more k some_too (value_of rows key) key what refl (out k away) (kept_grown setup ps more rows versions k g (h.kept k away));
            runs =
                all_changed (Runs setup ps) (Runs setup more) before x row.execution after (λ z r. runs_grown setup ps more z g r)
                (record {
                  first = elim own.first [
                    | inl none ↦ inl (ap (λ (ss : List Session). map with_sent (filter has_room ss)) none)
                    | inr f ↦ inr (f.0, reached_last ps q)
                  ];
                  sessions = all_step (IsSessionOf x.branch x.last) (IsSessionOf x.branch (x.last + 1)) with_sent (λ s is. let sent = is.0 in (omega (arith, sent), is.1)) (filter has_room x.sessions) with_room;
                })
                h.runs;
            follows = follows_outside Q setup.hashes versions row.versions (λ k away. version_outside region x.branch x.last part rows versions k some_too (out k away)) fs h.follows;
          };
      tells = all_append (OutTells more) (map (sends part) (filter has_room x.sessions)) (Dispatched op key x.branch (x.last + 1) ∷ [])
          (elim own.first [
            | inl none ↦ subst (λ (ss : List Session). AllByRecursion (OutTells more) (map (sends part) (filter has_room ss))) (sym none) tt
            | inr f ↦
                session_tells more x.branch x.last part (filter has_room x.sessions) (part_time (value_of rows key) (x.last + 1) key what)
                (tells_new ps q x.last rows new refl f.1 (row_is f)) with_room
          ])
          (tt, tt);
    }

-- a row without a point
pub still_row : (Q : List ℕ → Type 0) (setup : SetupState) (ps more : List Point) (rows : Rows) (versions : Pieced Version) (xs : List Execution) (fs : List Following) (outs : List Output) → more ≡ ps
    → NodeKept Q setup ps rows versions xs fs → AllByRecursion (OutTells ps) outs → RowKept Q setup ps more rows versions xs fs outs
still_row Q setup ps more rows versions xs fs outs same h t =
    subst (λ l. RowKept Q setup ps l rows versions xs fs outs) (sym same) (record { grows = grows_same ps; node = h; tells = t })

pub request_kept : (Q : List ℕ → Type 0) (setup : SetupState) (ps : List Point) (rows : Rows) (versions : Pieced Version) (xs : List Execution) (fs : List Following) (op : OpId) (key : List ℕ) (what : Op)
    → 0 < setup.hashes → versions.hashes ≡ setup.hashes → ((x : Execution) → IsIn xs x → (k : List ℕ) → Q k → is_for setup.hashes k x ≡ false)
    → ((x : Execution) → IsIn xs x → is_for setup.hashes key x ≡ true → IsFirst setup ps x → row_of rows key ≡ row_at ps key (point x.branch x.last))
    → ((q : Point) → points_in what (request_all setup.hashes xs rows versions op key what).outs ≡ q ∷ [] → IsAbove ps q) → NodeKept Q setup ps rows versions xs fs
    → RowKept Q setup ps (ps ++ points_in what (request_all setup.hashes xs rows versions op key what).outs) (request_all setup.hashes xs rows versions op key what).rows
    (request_all setup.hashes xs rows versions op key what).versions (request_all setup.hashes xs rows versions op key what).executions fs (request_all setup.hashes xs rows versions op key what).outs
request_kept Q setup ps rows versions xs fs op key what some same apart row_is new h =
    let P : Requested → Type 0 = λ r. RowKept Q setup ps (ps ++ points_in what r.outs) r.rows r.versions r.executions fs r.outs in
    elim (request_moves setup.hashes xs rows versions op key what) [
      | inl e ↦ subst P (sym e) (still_row Q setup ps (ps ++ []) rows versions xs fs (Answer op NotServing ∷ []) (append-nil ps) h (tt, tt))
      | inr m ↦
          let row : PrimaryStep = dispatch_row m.x rows versions op key what in
          let q : Point = point_at op key what m.x.branch (m.x.last + 1) in
          let here : IsIn xs m.x = subst (λ (l : List Execution). IsIn l m.x) (sym m.these) (IsIn-right m.before (m.x ∷ m.after) m.x (inl refl)) in
          let points : points_in what (request_all setup.hashes xs rows versions op key what).outs ≡ q ∷ [] = ap (λ (r : Requested). points_in what r.outs) m.all ∙ dispatch_points m.x rows versions op key what in
          let kept = dispatch_kept Q setup ps rows versions m.before m.x m.after fs op key what some same (apart m.x here) (row_is m.x here m.has) (new q points)
          (subst (λ l. NodeKept Q setup ps rows versions l fs) m.these h) in
          subst P (sym m.all)
          (subst (λ l. RowKept Q setup ps (ps ++ l) row.rows row.versions (m.before ++ row.execution ∷ m.after) fs row.outs) (sym (dispatch_points m.x rows versions op key what)) kept)
    ]

-- ---- parts of streams

abbrev moved_stream : List Following → FollowingStep → List Following → Streamed
moved_stream before step after = record { followings = before ++ step.following ∷ after; rows = step.rows; versions = step.versions; outs = step.outs }

-- one following takes the part
record StreamMoves (fs : List Following) (rows : Rows) (versions : Pieced Version) (from : NodeId) (stream : Stream) (view : ℕ) (r : Streamed) : Type 0 where
  before : List Following
  f : Following
  after : List Following
  these : fs ≡ before ++ f ∷ after
  ours : is_ours f from stream ≡ true
  all : r ≡ moved_stream before (stream_row f rows versions from stream view) after

-- or none does
abbrev unheard : List Following → Rows → Pieced Version → Streamed
unheard fs rows versions = record { followings = fs; rows = rows; versions = versions; outs = [] }

stream_moves : (fs : List Following) (rows : Rows) (versions : Pieced Version) (from : NodeId) (stream : Stream) (view : ℕ)
    → (stream_all fs rows versions from stream view ≡ unheard fs rows versions) ⊎ StreamMoves fs rows versions from stream view (stream_all fs rows versions from stream view)
stream_moves [] rows versions from stream view = inl refl
stream_moves (f ∷ fs) rows versions from stream view =
    let rest : Streamed = stream_all fs rows versions from stream view in
    let first : FollowingStep = stream_row f rows versions from stream view in
    let M : Streamed → Type 0 = λ r. (r ≡ unheard (f ∷ fs) rows versions) ⊎ StreamMoves (f ∷ fs) rows versions from stream view r in
    cond_both (is_ours f from stream) (took first fs) (left_alone f rest) M
    (λ ours. inr (record { before = []; f = f; after = fs; these = refl; ours = ours; all = refl }))
    (λ _. elim (stream_moves fs rows versions from stream view) [
      | inl e ↦ inl (ap (left_alone f) e)
      | inr m ↦ inr (record { before = f ∷ m.before; f = m.f; after = m.after; these = ap (λ l. f ∷ l) m.these; ours = m.ours; all = ap (left_alone f) m.all })
    ])

-- two followings that share no key
abbrev RegionsApart : ℕ → Following → Following → Type 0
RegionsApart hashes f g = (key : List ℕ) → has_key f.region hashes key ≡ true → has_key g.region hashes key ≡ false

regions_apart : (hashes : ℕ) (fs : List Following) → ((h : ℕ) (k : List ℕ) → holders following_region fs h k ≤ 1) → Pairs (RegionsApart hashes) fs
regions_apart hashes [] one = tt
regions_apart hashes (f ∷ fs) one = (
  rest fs (λ h k i. let few = one h k in let here = holders-in following_region f fs h k i in omega (arith, few, here)),
  regions_apart hashes fs (λ h k. let few = one h k in let more = holders-rest following_region f fs h k in omega (arith, few, more)),
)
  where
    outside : (b : Bool) (t : ℕ) → ◌≡◌ {A = ℕ} (cond b (1 + t) t) 0 → (b ≡ false) × (t ≡ 0)
    outside true t e = absurd (omega arith)
    outside false t e = (refl, e)

    rest : (gs : List Following) → ((h : ℕ) (k : List ℕ) → in_region f.region h k ≡ true → holders following_region gs h k ≡ 0) → AllByRecursion (RegionsApart hashes f) gs
    rest [] none = tt
    rest (g ∷ gs) none = (
      λ key has. (outside (in_region g.region (hash_of key hashes) key) (holders following_region gs (hash_of key hashes) key) (none (hash_of key hashes) key has)).0,
      rest gs (λ h k i. (outside (in_region g.region h k) (holders following_region gs h k) (none h k i)).1),
    )

-- what is kept after a following's row
record PartKept (Q : List ℕ → Type 0) (setup : SetupState) (ps : List Point) (xs : List Execution) (before after : List Following) (step : FollowingStep) : Type 0 where
  node : NodeKept Q setup ps step.rows step.versions xs (before ++ step.following ∷ after)
  tells : AllByRecursion (OutTells ps) step.outs

-- the next part is applied at the timestamp that it has
apply_kept : (Q : List ℕ → Type 0) (setup : SetupState) (ps : List Point) (rows : Rows) (versions : Pieced Version) (xs : List Execution) (before : List Following) (f : Following) (after : List Following) (stream : Stream) (view : ℕ)
    → 0 < setup.hashes → versions.hashes ≡ setup.hashes → Pairs (RegionsApart setup.hashes) (before ++ f ∷ after) → stream.session.opened ≡ f.session.opened → stream.number ≡ f.got + 1 → StreamTells ps stream
    → NodeKept Q setup ps rows versions xs (before ++ f ∷ after) → PartKept Q setup ps xs before after (apply_part f rows versions stream view)
apply_kept Q setup ps rows versions xs before f after stream view some same apart ours next t h =
    let hashes : ℕ = setup.hashes in
    let own : Follows Q hashes versions f = all_middle (Follows Q hashes versions) before f after h.follows in
    let got = own.got in
    let number = t.number in
    let place : t.at ≡ f.position = omega (arith, got, number, next) in
    let tells : Tells ps f.branch f.position stream.part =
    subst (λ b. Tells ps b f.position stream.part) (ours ∙ own.opened) (subst (λ a. Tells ps stream.session.opened a stream.part) place t.tells) in
    let time : timestamp_of stream.part ≡ f.position + 1 = t.time ∙ ap (λ a. a + 1) place in
    let some_too : 0 < versions.hashes = omega (arith, some, same) in
    let stands_too = subst (λ c. StandsAt c versions f.region f.branch f.position) (sym same) own.stands in
    let has_too = λ (k : List ℕ) (b : Bool) (e : has_key f.region hashes k ≡ b). ap (λ c. has_key f.region c k) same ∙ e in
    let newer : Pieced Version = advanced_map f.region f.branch (f.position + 1) versions in
    let node : NodeKept Q setup ps (advanced_rows (effect_of stream.part) f.region f.branch (f.position + 1) versions rows) newer xs (before ++ record f { got = stream.number; position = f.position + 1 } ∷ after) =
    record {
      kept = kept_moved f.region f.branch f.position stream.part rows versions Q setup ps some_too stands_too tells h.kept;
      runs = h.runs;
      follows =
          around (Follows Q hashes versions) (Follows Q hashes newer) (RegionsApart hashes) before f (record f { got = stream.number; position = f.position + 1 }) after apart
          (λ g r k. record {
            got = k.got;
            opened = k.opened;
            stands = λ key has.
                let out : has_key f.region hashes key ≡ false = elim r [
                  | inl a ↦ a key has
                  | inr a ↦ false_from_ne_true (has_key f.region hashes key) (λ is. false≢true (sym (a key is) ∙ has))
                ] in
                version_outside f.region f.branch f.position stream.part rows versions key some_too (has_too key false out) ∙ k.stands key has;
            away = k.away;
          })
          (record {
            got = omega (arith, got, next);
            opened = own.opened;
            stands = λ key has. version_inside f.region f.branch f.position stream.part rows versions key some_too stands_too (has_too key true has);
            away = own.away;
          })
          h.follows;
    } in
    subst (λ a. PartKept Q setup ps xs before after (record {
      following = record f { got = stream.number; position = a };
      rows = advanced_rows (effect_of stream.part) f.region f.branch a versions rows;
      versions = advanced_map f.region f.branch a versions;
      outs = acknowledgement (record f { got = stream.number; position = a }) view ∷ [];
    })) (sym time) (record { node = node; tells = (tt, tt) })

part_kept : (Q : List ℕ → Type 0) (setup : SetupState) (ps : List Point) (rows : Rows) (versions : Pieced Version) (xs : List Execution) (before : List Following) (f : Following) (after : List Following) (from : NodeId) (stream : Stream) (view : ℕ)
    → 0 < setup.hashes → versions.hashes ≡ setup.hashes → Pairs (RegionsApart setup.hashes) (before ++ f ∷ after) → is_ours f from stream ≡ true → StreamTells ps stream
    → NodeKept Q setup ps rows versions xs (before ++ f ∷ after) → PartKept Q setup ps xs before after (stream_row f rows versions from stream view)
part_kept Q setup ps rows versions xs before f after from stream view some same apart ours t h =
    let P : FollowingStep → Type 0 = PartKept Q setup ps xs before after in
    let silent' : P (quiet f rows versions) = record { node = h; tells = tt } in
    let again : FollowingStep = record { following = f; rows = rows; versions = versions; outs = acknowledgement f view ∷ [] } in
    let next : FollowingStep = apply_part f rows versions stream view in
    let opened = and_parts (same_id stream.session.asked f.session.asked) (same_id stream.session.opened f.session.opened)
    (and_parts (from.0 == f.primary.0) (same_session stream.session f.session) ours).1 in
    cond_both (is_ours f from stream) (take_part f rows versions stream view) (quiet f rows versions) P
    (λ _. cond_both (nat_le stream.number f.got) again (cond (is_next f stream) next (quiet f rows versions)) P (λ _. record { node = h; tells = (tt, tt) })
    (λ _. cond_both (is_next f stream) next (quiet f rows versions) P
    (λ is. apply_kept Q setup ps rows versions xs before f after stream view some same apart (same_id-true stream.session.opened f.session.opened opened.1)
    (eqb-true stream.number (f.got + 1) (and_parts (stream.number == f.got + 1) (nat_lt f.position (timestamp_of stream.part)) is).0) t h)
    (λ _. silent')))
    (λ _. silent')

pub stream_kept : (Q : List ℕ → Type 0) (setup : SetupState) (ps : List Point) (rows : Rows) (versions : Pieced Version) (xs : List Execution) (fs : List Following) (from : NodeId) (stream : Stream) (view : ℕ)
    → 0 < setup.hashes → versions.hashes ≡ setup.hashes → ((h : ℕ) (k : List ℕ) → holders following_region fs h k ≤ 1) → StreamTells ps stream → NodeKept Q setup ps rows versions xs fs
    → RowKept Q setup ps ps (stream_all fs rows versions from stream view).rows (stream_all fs rows versions from stream view).versions xs (stream_all fs rows versions from stream view).followings
    (stream_all fs rows versions from stream view).outs
stream_kept Q setup ps rows versions xs fs from stream view some same one t h =
    let P : Streamed → Type 0 = λ r. RowKept Q setup ps ps r.rows r.versions xs r.followings r.outs in
    elim (stream_moves fs rows versions from stream view) [
      | inl e ↦ subst P (sym e) (record { grows = grows_same ps; node = h; tells = tt })
      | inr m ↦
          let kept = part_kept Q setup ps rows versions xs m.before m.f m.after from stream view some same (subst (Pairs (RegionsApart setup.hashes)) m.these (regions_apart setup.hashes fs one)) m.ours t
          (subst (λ l. NodeKept Q setup ps rows versions xs l) m.these h) in
          subst P (sym m.all) (record { grows = grows_same ps; node = kept.node; tells = kept.tells })
    ]
