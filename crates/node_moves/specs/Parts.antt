-- What a step does to the parts of a node: what asks and writes as a primary, what waits and follows as a secondary, and its store.
use Rattle.std.specs.Prelude.{◌≡◌, ◌==◌, ◌+◌, ℕ, Bool, true, false, List, [], ◌∷◌, ◌++◌, length, Option, Some, None}
use Rattle.std.specs.List.{AllByRecursion}
use Rattle.region_map.specs.declared.id.NodeId.{NodeId}
use Rattle.region_map.specs.Maps.{Pieced}
use Rattle.branch_history.specs.declared.version.Version.{Version}
use Rattle.register_laws.specs.declared.operation.OpId.{OpId}
use Rattle.register_laws.specs.declared.operation.Op.{Op}
use Rattle.contract_types.specs.declared.contract.Contract.{Contract}
use Rattle.contract_types.specs.Tables.{Table}
use Rattle.table_log.specs.Logs.{table_of}
use Rattle.exec_types.specs.Parts.{effect_of, timestamp_of}
use Rattle.exec_types.specs.declared.input.Input.{Input}
use Rattle.exec_types.specs.declared.input.Input.TheVariants.{Request, GiveUp, See, Tick, Deliver, Crash, Restart}
use Rattle.exec_types.specs.declared.message.Got.{Got}
use Rattle.exec_types.specs.declared.message.Message.TheVariants as message
use Rattle.exec_types.specs.declared.message.Stream.{Stream}
use Rattle.store_api.specs.Rows.{Rows}
use Rattle.store_api.specs.Versions.{advanced_map, advanced_rows}
use Rattle.secondary_exec.specs.declared.following.Following.{Following}
use Rattle.secondary_exec.specs.declared.waiting.Waiting.{Waiting}
use Rattle.secondary_exec.specs.Stream.{applied, is_next, is_ours}
use Rattle.primary_exec.specs.declared.asking.Asking.{Asking}
use Rattle.primary_exec.specs.Execution.{Execution, dispatch_row, started, started_versions}
use Rattle.node_core.specs.declared.node.Brought.{Brought}
use Rattle.node_core.specs.Parts.{decide_all, give_up_all, got_all}
use Rattle.node_core.specs.Starting.{due}
use Rattle.node_core.specs.Step.{NodeState, askings_from, roles_count, serves, waitings_from}
use Rattle.node_moves.specs.Says.{IsServing}

pub record Held : Type 0 where
  pub life : ℕ
  pub acted : ℕ  -- the view
  pub asking : List Asking
  pub executions : List Execution
  pub waiting : List Waiting
  pub followings : List Following
  pub versions : Pieced Version
  pub rows : Rows

abbrev pub held : NodeState → Held
held s =
    record {
      life = s.life;
      acted = s.log.acted;
      asking = s.asking;
      executions = s.executions;
      waiting = s.waiting;
      followings = s.followings;
      versions = s.versions;
      rows = s.rows;
    }

-- an input that may leave all parts as they were
abbrev pub LeavesParts : NodeState → Input → Type 0
LeavesParts s (Request op key what) = serves s key ≡ false
LeavesParts s (GiveUp op) = ⊥
LeavesParts s (See other up) = Unit {0}
LeavesParts s Tick = Unit {0}
LeavesParts s (Deliver number) = Unit {0}
LeavesParts s Crash = ⊥
LeavesParts s Restart = ⊥

-- what the row of an input does
pub data PartsMove (s : NodeState) (input : Input) (brought : Option Brought) (r : Held) : Type 0 where
  Rest : LeavesParts s input → r ≡ held s → PartsMove s input brought r
  -- the execution that has the key takes the next timestamp
  Take : (op : OpId) (key : List ℕ) (what : Op) (x : Execution) → input ≡ Request op key what → (serving : IsServing s.setup.hashes key s.executions x)
      → r ≡ record (held s) {
        executions = serving.before ++ (dispatch_row x s.rows s.versions op key what).execution ∷ serving.after;
        versions = (dispatch_row x s.rows s.versions op key what).versions;
        rows = (dispatch_row x s.rows s.versions op key what).rows;
      }
      → PartsMove s input brought r
  -- the following that has the session of a part applies it, as it is the next one
  Apply : (number : ℕ) (from : NodeId) (stream : Stream) (before : List Following) (f : Following) (after : List Following) → input ≡ Deliver number → brought ≡ Some (record { from = from; message = message.Stream stream })
      → s.followings ≡ before ++ f ∷ after → is_ours f from stream ≡ true → is_next f stream ≡ true
      → r ≡ record (held s) {
        followings = before ++ applied f stream ∷ after;
        versions = advanced_map f.region f.branch (timestamp_of stream.part) s.versions;
        rows = advanced_rows (effect_of stream.part) f.region f.branch (timestamp_of stream.part) s.versions s.rows;
      }
      → PartsMove s input brought r
  -- a secondary tells where it stands
  Keep : (number : ℕ) (from : NodeId) (got : Got) → input ≡ Deliver number → brought ≡ Some (record { from = from; message = message.Got got })
      → r ≡ record (held s) { executions = got_all s.executions from got } → PartsMove s input brought r
  -- a client gives up
  Forget : (op : OpId) → input ≡ GiveUp op → r ≡ record (held s) { executions = give_up_all s.executions op } → PartsMove s input brought r
  Fall : input ≡ Crash → r ≡ record (held s) { asking = []; executions = []; waiting = []; followings = [] } → PartsMove s input brought r
  -- the next life asks and waits by the table that the node knows
  Rise : (contracts : List Contract) → input ≡ Restart → contracts ≡ (table_of s.log).contracts
      → r ≡ record (held s) {
        life = s.life + 1;
        asking = askings_from s.me (s.life + 1) 0 contracts;
        executions = [];
        waiting = waitings_from s.me (s.life + 1) (length (askings_from s.me (s.life + 1) 0 contracts)) contracts;
        followings = [];
      }
      → PartsMove s input brought r

-- what starts by a table: what asks, and whose branch is the current one of its region
pub data Begins (me : NodeId) (t : Table) : Held → Held → Type 0 where
  Ends : (a : Held) → Begins me t a a
  Begin : (a b : Held) (asking : Asking) (initial : ℕ) (first rest : List Asking) (before after : List Execution) → a.asking ≡ first ++ asking ∷ rest → due t asking ≡ Some initial
      → a.executions ≡ before ++ after
      → Begins me t (record a { asking = first ++ rest; executions = before ++ started asking me initial ∷ after; versions = started_versions asking initial a.versions }) b
      → Begins me t a b

-- what the node does as it acts on what was committed
pub data PartsAct (s t : NodeState) (a b : Held) : Type 0 where
  Same : t.log.acted ≡ s.log.acted → b ≡ a → PartsAct s t a b
  -- the view rises, what is due by the new table starts, and what still asks is not due
  More : (s.log.acted == t.log.acted) ≡ false → Begins s.me (table_of t.log) (record a { acted = t.log.acted }) b
      → AllByRecursion (λ (x : Asking). due (table_of t.log) x ≡ None) b.asking → PartsAct s t a b

-- whether the node is up after an input
abbrev pub up_after : Bool → Input → Bool
up_after up (Request op key what) = up
up_after up (GiveUp op) = up
up_after up (See other sees) = up
up_after up Tick = up
up_after up (Deliver number) = up
up_after up Crash = false
up_after up Restart = true

-- the counter of the next id after an input: a node that comes up draws one for each part
abbrev pub next_after : NodeState → Input → ℕ
next_after s (Request op key what) = s.next
next_after s (GiveUp op) = s.next
next_after s (See other sees) = s.next
next_after s Tick = s.next
next_after s (Deliver number) = s.next
next_after s Crash = 0
next_after s Restart = roles_count s.me (s.life + 1) (table_of s.log).contracts

-- the whole step: these are the executions before each answers what is decided there
pub record StepParts (s : NodeState) (input : Input) (brought : Option Brought) (t : NodeState) (xs : List Execution) : Type 0 where
  pub me_is : t.me ≡ s.me
  pub setup_is : t.setup ≡ s.setup
  pub up_is : t.up ≡ up_after s.up input
  pub next_is : t.next ≡ next_after s input
  pub row : Held  -- as the row of the input leaves them
  pub moves : PartsMove s input brought row
  pub acted : Held  -- once the node acted on what was committed
  pub acts : PartsAct s t row acted
  pub executions : acted.executions ≡ xs
  pub decides : held t ≡ record acted { executions = decide_all acted.executions }
