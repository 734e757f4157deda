-- What a step does at one key of a node: a move of its row, then the view and what starts by it, then what is decided.
use Rattle.std.specs.Prelude.{◌≡◌, ◌==◌, ◌+◌, ◌<◌, ℕ, true, false, List, [], ◌∷◌, ◌++◌, map, filter, length, Option, Some, None}
use Rattle.std.specs.List.{AllByRecursion}
use Rattle.region_map.specs.declared.id.NodeId.{NodeId}
use Rattle.register_laws.specs.declared.operation.OpId.{OpId}
use Rattle.register_laws.specs.declared.operation.Op.{Op}
use Rattle.contract_types.specs.declared.contract.Contract.{Contract}
use Rattle.contract_types.specs.Tables.{Table}
use Rattle.table_log.specs.Logs.{table_of}
use Rattle.exec_types.specs.Parts.{timestamp_of}
use Rattle.exec_types.specs.declared.input.Input.{Input}
use Rattle.exec_types.specs.declared.input.Input.TheVariants.{Request, GiveUp, See, Tick, Deliver, Crash, Restart}
use Rattle.exec_types.specs.declared.message.Got.{Got}
use Rattle.exec_types.specs.declared.message.Message.TheVariants as message
use Rattle.exec_types.specs.declared.message.Stream.{Stream}
use Rattle.store_api.specs.Rows.{has_key, value_of}
use Rattle.secondary_exec.specs.declared.following.Following.{Following}
use Rattle.secondary_exec.specs.Stream.{applied, is_next, is_ours}
use Rattle.primary_exec.specs.declared.asking.Asking.{Asking}
use Rattle.primary_exec.specs.Execution.{Execution, decided, dispatch_row, give_up_row, got_row, part_of, started}
use Rattle.node_core.specs.declared.node.Brought.{Brought}
use Rattle.node_core.specs.Starting.{due}
use Rattle.node_core.specs.Step.{NodeState, askings_from, waitings_from}
use Rattle.node_moves.specs.Keys.{AtKey, asks_for, at_key, row_at, version_at, version_started, waits_for}
use Rattle.node_moves.specs.Parts.{held}
use Rattle.node_moves.specs.Says.{IsServing}

-- the versions of a node are of as many hashes as its table, and there are some
pub record HasHashes (s : NodeState) : Type 0 where
  pub some : 0 < s.setup.hashes
  pub hashes_are : s.versions.hashes ≡ s.setup.hashes

-- an input after which a key may be as it was: no execution that has the key takes a request, and the node stays up
abbrev pub Leaves : NodeState → List ℕ → Input → Type 0
Leaves s key (Request op own what) = (x : Execution) → IsServing s.setup.hashes own s.executions x → has_key x.contract.region s.setup.hashes key ≡ false
Leaves s key (GiveUp op) = ⊥
Leaves s key (See other up) = Unit {0}
Leaves s key Tick = Unit {0}
Leaves s key (Deliver number) = Unit {0}
Leaves s key Crash = ⊥
Leaves s key Restart = ⊥

-- what the row of an input does at a key
pub data Move (s : NodeState) (input : Input) (brought : Option Brought) (key : List ℕ) (a b : AtKey) : Type 0 where
  Still : Leaves s key input → b ≡ a → Move s input brought key a b
  -- an operation on this key, or on another of the region, takes the next timestamp
  Takes : (op : OpId) (own : List ℕ) (what : Op) (x : Execution) (before after : List Execution) → input ≡ Request op own what → IsServing s.setup.hashes own s.executions x
      → has_key x.contract.region s.setup.hashes key ≡ true → a.writes ≡ before ++ x ∷ after
      → b ≡ record a {
        writes = before ++ (dispatch_row x s.rows s.versions op own what).execution ∷ after;
        version = version_at x.contract.region x.branch (x.last + 1) s.setup.hashes key a.version;
        row = row_at (part_of (value_of s.rows own) (x.last + 1) own what) x.contract.region x.branch s.setup.hashes key a.version a.row;
      }
      → Move s input brought key a b
  -- the next part of the stream is applied, of this key or of another of the region
  Applies : (from : NodeId) (stream : Stream) (f : Following) (before after : List Following) → brought ≡ Some (record { from = from; message = message.Stream stream })
      → is_ours f from stream ≡ true → is_next f stream ≡ true → has_key f.region s.setup.hashes key ≡ true → a.follows ≡ before ++ f ∷ after
      → b ≡ record a {
        follows = before ++ applied f stream ∷ after;
        version = version_at f.region f.branch (timestamp_of stream.part) s.setup.hashes key a.version;
        row = row_at stream.part f.region f.branch s.setup.hashes key a.version a.row;
      }
      → Move s input brought key a b
  -- a secondary tells where it stands
  Keeps : (from : NodeId) (got : Got) → brought ≡ Some (record { from = from; message = message.Got got })
      → b ≡ record a { writes = map (λ x. got_row x from got) a.writes } → Move s input brought key a b
  -- a client gives up
  GivesUp : (op : OpId) → input ≡ GiveUp op → b ≡ record a { writes = map (λ x. give_up_row x op) a.writes } → Move s input brought key a b
  GoesDown : input ≡ Crash → b ≡ record a { asks = []; writes = []; waits = []; follows = [] } → Move s input brought key a b
  -- the next life asks and waits by the table that the node knows
  ComesUp : (contracts : List Contract) → input ≡ Restart → contracts ≡ (table_of s.log).contracts
      → b ≡ record a {
        life = a.life + 1;
        asks = filter (asks_for s.setup.hashes key) (askings_from s.me (s.life + 1) 0 contracts);
        writes = [];
        waits = filter (waits_for s.setup.hashes key) (waitings_from s.me (s.life + 1) (length (askings_from s.me (s.life + 1) 0 contracts)) contracts);
        follows = [];
      }
      → Move s input brought key a b

-- what starts at a key by a table: what asks, and whose branch is the current one of its region
pub data Starts (me : NodeId) (hashes : ℕ) (t : Table) (key : List ℕ) : AtKey → AtKey → Type 0 where
  NoMore : (a : AtKey) → Starts me hashes t key a a
  One : (a b : AtKey) (asking : Asking) (initial : ℕ) (first rest : List Asking) (before after : List Execution) → a.asks ≡ first ++ asking ∷ rest → due t asking ≡ Some initial
      → has_key asking.contract.region hashes key ≡ true → a.writes ≡ before ++ after
      → Starts me hashes t key
      (record a {
        asks = first ++ rest;
        writes = before ++ started asking me initial ∷ after;
        version = version_started asking.contract.region asking.branch initial hashes key a.version;
      })
      b
      → Starts me hashes t key a b

-- what the node does at a key as it acts on what was committed
pub data Acts (s t : NodeState) (key : List ℕ) (a b : AtKey) : Type 0 where
  Stays : t.log.acted ≡ s.log.acted → b ≡ a → Acts s t key a b
  -- the view rises, what is due by the new table starts, and what still asks is not due
  Rises : (s.log.acted == t.log.acted) ≡ false → Starts s.me s.setup.hashes (table_of t.log) key (record a { acted = t.log.acted }) b
      → AllByRecursion (λ (x : Asking). due (table_of t.log) x ≡ None) b.asks → Acts s t key a b

-- the whole step at a key
pub record StepMoves (s : NodeState) (input : Input) (brought : Option Brought) (key : List ℕ) (t : NodeState) : Type 0 where
  pub row : AtKey  -- as the row of the input leaves it
  pub moves : Move s input brought key (at_key s.setup.hashes key (held s)) row
  pub acted : AtKey  -- once the node acted on what was committed
  pub acts : Acts s t key row acted
  pub decides : at_key s.setup.hashes key (held t) ≡ record acted { writes = map decided acted.writes }  -- each pending operation that is decided is answered
