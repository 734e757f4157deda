-- Answers, stories, and what makes a list a register story of a journal.
use Rattle.std.specs.Prelude.{◌≡◌, ◌≢◌, ℕ, ◌+◌, Bool, true, false, not, ◌&&◌, ◌||◌, ◌⊎◌, nat_eq, List, [], ◌∷◌, ◌++◌, map, filter, Option, Some, None, if◌then◌else◌}
use Rattle.std.specs.Cmp.Lexicographic.{pointwise}
pub use Rattle.list_laws.specs.Members.{IsIn}
use Rattle.region_map.specs.declared.id.Id.{Id}
use Rattle.region_map.specs.Keys.{hash_of}
use Rattle.contract_types.specs.Setup.{SetupState}
use Rattle.contract_types.specs.Tables.{Table, branch_at}
use Rattle.branch_history.specs.declared.version.Version.{Version}
use Rattle.branch_history.specs.Paths.{is_on, whole}
use Rattle.store_api.specs.Versions.{point}
use Rattle.register_laws.specs.declared.operation.OpId.{OpId}
use Rattle.register_laws.specs.declared.operation.Op.{Op}
use Rattle.register_laws.specs.declared.operation.Reply.{Reply}
use Rattle.register_laws.specs.declared.operation.Told.{Told}
use Rattle.register_laws.specs.Lists.{IsLegal, told_from, is_read, same_op}
use Rattle.exec_types.specs.declared.input.Input.{Input}
use Rattle.exec_types.specs.declared.input.Input.TheVariants.{Request, GiveUp, See, Tick, Deliver, Crash, Restart}
use Rattle.exec_types.specs.declared.outcome.Outcome.{Outcome}
use Rattle.exec_types.specs.declared.outcome.Outcome.TheVariants.{Done, NotServing, NoMajority}
use Rattle.exec_types.specs.declared.output.Output.{Output}
use Rattle.exec_types.specs.declared.output.Output.TheVariants.{Message, Dispatched, Viewed, Answer}
use Rattle.node_core.specs.declared.journal.Entry.{Entry}
use Rattle.runs.specs.Run.{requests}
use Rattle.runs.specs.Latest.{told_table}

-- ---- answers

abbrev pub answer_in : List Output → OpId → Option Outcome
answer_in [] op = None
answer_in (Message to message ∷ outs) op = answer_in outs op
answer_in (Dispatched q key branch timestamp ∷ outs) op = answer_in outs op
answer_in (Viewed first results ∷ outs) op = answer_in outs op
answer_in (Answer q outcome ∷ outs) op = if same_op q op then Some outcome else answer_in outs op

abbrev pub or_else : Option Outcome → Option Outcome → Option Outcome
or_else None later = later
or_else (Some outcome) later = Some outcome

-- the answer to an operation in a journal
abbrev pub answer : List Entry → OpId → Option Outcome
answer [] op = None
answer (e ∷ past) op = or_else (answer past op) (answer_in e.outputs op)

abbrev pub is_done_outcome : Option Outcome → Bool
is_done_outcome None = false
is_done_outcome (Some (Done reply branch timestamp)) = true
is_done_outcome (Some NotServing) = false
is_done_outcome (Some (NoMajority counts)) = false

abbrev pub is_answered_outcome : Option Outcome → Bool
is_answered_outcome None = false
is_answered_outcome (Some outcome) = true

abbrev pub is_done : List Entry → OpId → Bool
is_done past op = is_done_outcome (answer past op)

abbrev pub is_answered : List Entry → OpId → Bool
is_answered past op = is_answered_outcome (answer past op)

-- whether an operation was answered, in any way, in an entry before that which requested another
abbrev pub goes_before : List Entry → OpId → OpId → Bool
goes_before [] a b = false
goes_before (e ∷ past) a b = (requests e.input b && is_answered past a) || goes_before past a b

-- ---- points: which operation took which timestamp of which branch

pub record Point : Type 0 where
  pub op : OpId
  pub what : Op
  pub key : List ℕ
  pub branch : Id
  pub timestamp : ℕ

abbrev pub points_in : Op → List Output → List Point
points_in what [] = []
points_in what (Message to message ∷ outs) = points_in what outs
points_in what (Dispatched op key branch timestamp ∷ outs) =
    record { op = op; what = what; key = key; branch = branch; timestamp = timestamp } ∷ points_in what outs
points_in what (Viewed first results ∷ outs) = points_in what outs
points_in what (Answer op outcome ∷ outs) = points_in what outs

abbrev pub points_of : Input → List Output → List Point
points_of (Request op key what) outs = points_in what outs
points_of (GiveUp op) outs = []
points_of (See other up) outs = []
points_of Tick outs = []
points_of (Deliver number) outs = []
points_of Crash outs = []
points_of Restart outs = []

-- every point that a journal dispatches, the oldest first
abbrev pub points : List Entry → List Point
points [] = []
points (e ∷ past) = points past ++ points_of e.input e.outputs

-- ---- the story of a key

abbrev pub same_key : List ℕ → List ℕ → Bool
same_key = pointwise nat_eq

-- the branch of a key in a table: the one registered last for it. Each key has one from the beginning
abbrev pub branch_in : SetupState → Table → List ℕ → Option Id
branch_in setup t key = branch_at t.history (hash_of key setup.hashes) key

-- whether a version lies on the path of the whole of a branch
abbrev pub is_on_branch : SetupState → Table → List ℕ → Option Id → Version → Bool
is_on_branch setup t key None v = false
is_on_branch setup t key (Some branch) v = is_on t.history (hash_of key setup.hashes) key (whole branch) v

-- whether a point is of a key, and lies on the path of the key's branch
abbrev pub is_on_path : SetupState → Table → List ℕ → Point → Bool
is_on_path setup t key p = same_key p.key key && is_on_branch setup t key (branch_in setup t key) (point p.branch p.timestamp)

-- the points of a key on the path of its branch, as they were dispatched
abbrev pub path : SetupState → List Entry → List ℕ → List Point
path setup past key = filter (is_on_path setup (told_table setup past) key) (points past)

-- a read stands in the story once it is done; any other operation once it is dispatched
abbrev pub is_shown : List Entry → OpId → Op → Bool
is_shown past op what = not (is_read what) || is_done past op

abbrev pub is_shown_point : List Entry → Point → Bool
is_shown_point past p = is_shown past p.op p.what

abbrev pub call_of : Point → OpId × Op
call_of p = (p.op, p.what)

-- the operations on a key in the order in which they took effect, with the replies of the register
abbrev pub story : SetupState → List Entry → List ℕ → List Told
story setup past key = told_from None (map call_of (filter (is_shown_point past) (path setup past key)))

-- ---- register stories

-- how often an operation stands in a list
abbrev pub times : List Told → OpId → ℕ
times [] op = 0
times (t ∷ ts) op = (if same_op t.op op then 1 else 0) + times ts op

-- an operation stands in a list once
abbrev pub StandsOnce : List Told → OpId → Type 0
StandsOnce list op = times list op ≡ 1

abbrev pub has_told : List Told → OpId → Bool
has_told [] op = false
has_told (t ∷ ts) op = same_op t.op op || has_told ts op

-- one operation stands somewhere before another
abbrev pub stands_before : List Told → OpId → OpId → Bool
stands_before [] a b = false
stands_before (t ∷ ts) a b = (same_op t.op a && has_told ts b) || stands_before ts a b

-- an operation was requested on a key
abbrev pub Requests : Input → List ℕ → OpId → Op → Type 0
Requests (Request q k w) key op what = (q ≡ op) × (k ≡ key) × (w ≡ what)
Requests (GiveUp q) key op what = ⊥
Requests (See other up) key op what = ⊥
Requests Tick key op what = ⊥
Requests (Deliver number) key op what = ⊥
Requests Crash key op what = ⊥
Requests Restart key op what = ⊥

abbrev pub IsRequested : List Entry → List ℕ → OpId → Op → Type 0
IsRequested [] key op what = ⊥
IsRequested (e ∷ past) key op what = Requests e.input key op what ⊎ IsRequested past key op what

-- a list up to its last operation that is done in a journal
abbrev pub keep_done : Bool → Told → List Told → List Told
keep_done done t [] = if done then t ∷ [] else []
keep_done done t (u ∷ us) = t ∷ u ∷ us

abbrev pub up_to_done : List Entry → List Told → List Told
up_to_done past [] = []
up_to_done past (t ∷ ts) = keep_done (is_done past t.op) t (up_to_done past ts)

abbrev pub is_shown_told : List Entry → Told → Bool
is_shown_told past t = is_shown past t.op t.what

-- what is done stays: the story of a shorter journal up to its last done operation is a prefix of the list,
-- without the reads that were not done by then
abbrev pub KeepsDone : SetupState → List Entry → List ℕ → List Told → Type 0
KeepsDone setup earlier key list =
    (rest : List Told) × (filter (is_shown_told earlier) list ≡ up_to_done earlier (story setup earlier key) ++ rest)

pub record IsRegisterStory (setup : SetupState) (past : List Entry) (key : List ℕ) (list : List Told) : Type 0 where
  pub legal : IsLegal list
  -- each operation on the key that is done stands in it once, with the reply of its answer
  pub done : (op : OpId) (what : Op) (reply : Reply) (branch : Id) (timestamp : ℕ) → IsRequested past key op what → answer past op ≡ Some (Done reply branch timestamp)
      → StandsOnce list op × IsIn list (record { op = op; what = what; reply = reply })
  -- each member was requested on the key with that operation, stands once, and was not answered that its node did not serve
  pub members : (t : Told) → IsIn list t → IsRequested past key t.op t.what × StandsOnce list t.op × (answer past t.op ≢ Some NotServing)
  -- an operation that was answered before another was requested stands before it
  pub order : (a b : OpId) → goes_before past a b ≡ true → has_told list a ≡ true → has_told list b ≡ true → stands_before list a b ≡ true
  pub prefix : (later earlier : List Entry) → past ≡ later ++ earlier → KeepsDone setup earlier key list
