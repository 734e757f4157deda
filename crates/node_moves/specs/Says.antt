-- What a step of a node says: its answers, dispatches and views, each with its cause.
use Rattle.std.specs.Prelude.{◌≡◌, ℕ, ◌+◌, ◌-◌, ◌==◌, true, false, List, [], ◌∷◌, ◌++◌, Some}
use Rattle.std.specs.List.{list_any}
use Rattle.list_laws.specs.Members.{IsIn}
use Rattle.region_map.specs.declared.id.Id.{Id}
use Rattle.register_laws.specs.declared.operation.OpId.{OpId}
use Rattle.register_laws.specs.declared.operation.Op.{Op}
use Rattle.register_laws.specs.declared.operation.Reply.{Reply}
use Rattle.register_laws.specs.Register.{reply_of}
use Rattle.contract_types.specs.declared.change.Change.{Change}
use Rattle.contract_types.specs.declared.applied.Applied.{Applied}
use Rattle.contract_types.specs.declared.counts.Counts.{Counts}
use Rattle.table_log.specs.Fitting.{changes_of}
use Rattle.table_log.specs.Logs.{results_from}
use Rattle.exec_types.specs.declared.input.Input.{Input}
use Rattle.exec_types.specs.declared.input.Input.TheVariants.{Request, GiveUp, See, Tick, Deliver, Crash, Restart}
use Rattle.exec_types.specs.declared.outcome.Outcome.{Outcome}
use Rattle.exec_types.specs.declared.outcome.Outcome.TheVariants.{Done, NotServing, NoMajority}
use Rattle.exec_types.specs.declared.output.Output.{Output}
use Rattle.exec_types.specs.declared.output.Output.TheVariants.{Message, Dispatched, Viewed, Answer}
use Rattle.store_api.specs.Rows.{value_of}
use Rattle.write_dispatch.specs.declared.decided.Decided.{Decided}
use Rattle.write_dispatch.specs.Dispatch.{are_majorities, counts_of, is_decided, pending_of}
use Rattle.primary_exec.specs.Execution.{Execution}
use Rattle.node_core.specs.Parts.{is_for, give_up_all_outs, decide_all, decide_all_outs}
use Rattle.node_core.specs.Step.{NodeState, serves}

-- ---- causes

-- the execution that takes a request: the first whose region has the key
pub record IsServing (hashes : ℕ) (key : List ℕ) (xs : List Execution) (x : Execution) : Type 0 where
  pub before : List Execution  -- those that do not have it
  pub after : List Execution
  pub these : xs ≡ before ++ x ∷ after
  pub none_before : list_any (is_for hashes key) before ≡ false
  pub has : is_for hashes key x ≡ true

-- an operation waits under a branch for its answer: since before the step, or since its request in this step
pub data Awaits (s : NodeState) (input : Input) (branch : Id) (op : OpId) (at : ℕ) (reply : Reply) : Type 0 where
  Pending : (x : Execution) → IsIn s.executions x → x.branch ≡ branch → IsIn x.dispatch.waiting (record { op = Some op; at = at; reply = reply })
      → Awaits s input branch op at reply
  Requested : (key : List ℕ) (what : Op) (x : Execution) → input ≡ Request op key what → IsServing s.setup.hashes key s.executions x
      → x.branch ≡ branch → at ≡ x.last + 1 → reply ≡ reply_of (value_of s.rows key) what → Awaits s input branch op at reply

-- an operation was requested in this step, and takes the next timestamp of the execution that has its key
pub record SaysDispatched (s : NodeState) (input : Input) (op : OpId) (key : List ℕ) (branch : Id) (at : ℕ) : Type 0 where
  pub what : Op
  pub asked : input ≡ Request op key what
  pub x : Execution
  pub serving : IsServing s.setup.hashes key s.executions x
  pub branch_is : branch ≡ x.branch
  pub next : at ≡ x.last + 1

-- an operation was requested in this step, and no execution has its key
pub record SaysNotServing (s : NodeState) (input : Input) (op : OpId) : Type 0 where
  pub key : List ℕ
  pub what : Op
  pub asked : input ≡ Request op key what
  pub none : serves s key ≡ false

-- an operation waits, and at the end of the step its timestamp is counted by majorities under the contract in force
pub record SaysDone (s : NodeState) (input : Input) (t : NodeState) (op : OpId) (reply : Reply) (branch : Id) (at : ℕ) : Type 0 where
  pub awaits : Awaits s input branch op at reply
  pub x : Execution  -- as the step leaves it
  pub is_in : IsIn t.executions x
  pub branch_is : x.branch ≡ branch
  pub counted : is_decided x.dispatch.acks x.contract x.me.0 at ≡ true

-- why a pending operation is answered without a majority
pub data SaysNoMajority (s : NodeState) (input : Input) (op : OpId) (counts : Counts) : Type 0 where
  -- the client gave it up, and these were its counts, which are no majorities
  ByClient : (x : Execution) (d : Decided) → input ≡ GiveUp op → IsIn s.executions x → pending_of x.dispatch.waiting op ≡ Some d
      → counts ≡ counts_of x.dispatch.acks x.contract x.me.0 d.at → are_majorities counts ≡ false → SaysNoMajority s input op counts

-- the view rose, and these are the changes behind the old one, with what became of each
pub record SaysViewed (s t : NodeState) (first : ℕ) (results : List (Change × Applied)) : Type 0 where
  pub rose : (s.log.acted == t.log.acted) ≡ false
  pub first_is : first ≡ s.log.acted + 1
  pub results_are : results ≡ results_from s.log.config (changes_of t.log.raft.log) s.log.acted (t.log.acted - s.log.acted)

abbrev pub SaysAnswer : NodeState → Input → NodeState → OpId → Outcome → Type 0
SaysAnswer s input t op (Done reply branch at) = SaysDone s input t op reply branch at
SaysAnswer s input t op NotServing = SaysNotServing s input op
SaysAnswer s input t op (NoMajority counts) = SaysNoMajority s input op counts

-- the cause of an output of the step from s to t; of messages `Sends` tells
abbrev pub Says : NodeState → Input → NodeState → Output → Type 0
Says s input t (Message to message) = Unit {0}
Says s input t (Dispatched op key branch at) = SaysDispatched s input op key branch at
Says s input t (Viewed first results) = SaysViewed s t first results
Says s input t (Answer op outcome) = SaysAnswer s input t op outcome

-- ---- all of it, in order

-- the outputs that are no messages
abbrev pub spoken : List Output → List Output
spoken [] = []
spoken (Message to message ∷ outs) = spoken outs
spoken (Dispatched op key branch at ∷ outs) = Dispatched op key branch at ∷ spoken outs
spoken (Viewed first results ∷ outs) = Viewed first results ∷ spoken outs
spoken (Answer op outcome ∷ outs) = Answer op outcome ∷ spoken outs

-- what a request is told
pub data RequestSays (s : NodeState) (op : OpId) (key : List ℕ) (outs : List Output) : Type 0 where
  Dispatches : (x : Execution) → IsServing s.setup.hashes key s.executions x → outs ≡ Dispatched op key x.branch (x.last + 1) ∷ [] → RequestSays s op key outs
  Refuses : serves s key ≡ false → outs ≡ Answer op NotServing ∷ [] → RequestSays s op key outs

-- what the row of an input says
abbrev pub RowSays : NodeState → Input → List Output → Type 0
RowSays s (Request op key what) outs = RequestSays s op key outs
RowSays s (GiveUp op) outs = outs ≡ give_up_all_outs s.executions op
RowSays s (See other up) outs = outs ≡ []
RowSays s Tick outs = outs ≡ []
RowSays s (Deliver number) outs = outs ≡ []
RowSays s Crash outs = outs ≡ []
RowSays s Restart outs = outs ≡ []

-- what it says of its view
pub data ViewSays (s t : NodeState) (outs : List Output) : Type 0 where
  Stays : t.log.acted ≡ s.log.acted → outs ≡ [] → ViewSays s t outs
  Rises : (first : ℕ) (results : List (Change × Applied)) → SaysViewed s t first results → outs ≡ Viewed first results ∷ [] → ViewSays s t outs

-- what the step says: these are the executions before what is decided is answered
pub record StepSays (s : NodeState) (input : Input) (t : NodeState) (outs : List Output) (xs : List Execution) : Type 0 where
  pub row : List Output
  pub row_says : RowSays s input row
  pub view : List Output
  pub view_says : ViewSays s t view
  pub after : t.executions ≡ decide_all xs
  -- each operation that waits there
  pub awaits : (x : Execution) → IsIn xs x → (op : OpId) (at : ℕ) (reply : Reply) → IsIn x.dispatch.waiting (record { op = Some op; at = at; reply = reply })
      → Awaits s input x.branch op at reply
  pub whole : spoken outs ≡ row ++ view ++ decide_all_outs xs
