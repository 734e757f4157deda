-- What a run shows of one key.
use Rattle.std.specs.Prelude.{ℕ, zero, suc, nat_le, List, [], ◌∷◌, length, map, Option, Some, None, if◌then◌else◌}
use Rattle.path_facts.specs.Runs.{Contract, KeyRun}
use Rattle.key_births.specs.Births.{key_version, births_at}
use Rattle.row_runs.specs.runs.region_map.declared.id.Id.{Id}
use Rattle.row_runs.specs.runs.region_map.Keys.{hash_of}
use Rattle.row_runs.specs.runs.region_map.Maps.{value_at}
use Rattle.row_runs.specs.runs.region_map.Equal.{same_id}
use Rattle.row_runs.specs.runs.branch_history.Paths.{or_zero}
use Rattle.row_runs.specs.runs.branch_history.Histories.{knows}
use Rattle.row_runs.specs.runs.contract_types.declared.applied.Applied.{Applied}
use Rattle.row_runs.specs.runs.contract_types.declared.change.Change.{Change}
use Rattle.row_runs.specs.runs.contract_types.declared.contract.Contract.{Contract as TableContract}
use Rattle.row_runs.specs.runs.contract_types.declared.contract.Holder.{Holder}
use Rattle.row_runs.specs.runs.contract_types.Setup.{SetupState}
use Rattle.row_runs.specs.runs.table_apply.Runs.{table_at, contract_at}
use Rattle.row_runs.specs.runs.node_core.declared.journal.Entry.{Entry}
use Rattle.row_runs.specs.runs.node_core.Step.{NodeState}
use Rattle.row_runs.specs.runs.Latest.{longest, told_table}
use Rattle.row_runs.specs.runs.Run.{state}

-- ---- moments

-- the journal as it stood after so many entries; past the end, the whole
abbrev pub moment : List Entry → ℕ → List Entry
moment [] m = []
moment (e ∷ past) m = if nat_le m (length past) then moment past m else e ∷ past

abbrev pub state_at : SetupState → List Entry → ℕ → ℕ → NodeState
state_at setup past node m = state setup node (moment past m)

-- ---- the log

-- the longest list of changes that a node told to have acted on
abbrev pub told_changes : SetupState → List Entry → List Change
told_changes setup past = map (λ (r : Change × Applied). r.0) (longest setup past)

-- the index, up to one, at which changes bring a branch into the table; 0 where it is there from the beginning
abbrev pub index_of : SetupState → List Change → ℕ → Id → ℕ
index_of setup changes zero id = 0
index_of setup changes (suc w) id = if knows (table_at setup changes w).history id then index_of setup changes w id else suc w

abbrev pub told_index : SetupState → List Entry → Id → ℕ
told_index setup past id = index_of setup (told_changes setup past) (length (told_changes setup past)) id

-- ---- contracts

abbrev pub server_of : Option Holder → Option ℕ
server_of None = None
server_of (Some h) = Some h.server.0

abbrev pub key_contract : TableContract → Contract
key_contract c = record {
  voters = c.voters;
  second = c.temp_voters;
  primary = server_of c.primary;
  replicas = c.replicas;
  since = c.since;
  tenure = c.tenure;
}

-- a contract of no node, where a pair has none; each pair of a hash of the table has one
abbrev pub no_contract : Contract
no_contract = record { voters = []; second = None; primary = None; replicas = []; since = 0; tenure = 0 }

abbrev pub contract_or_none : Option TableContract → Contract
contract_or_none None = no_contract
contract_or_none (Some c) = key_contract c

-- ---- the run at a key

-- branches, contracts and indexes are those of the longest list of changes that was told, and a moment is the journal after
-- so many entries
abbrev pub key_run : SetupState → List Entry → List ℕ → KeyRun Id
key_run setup past key = record {
  same = same_id;
  births = births_at (told_index setup past) (told_table setup past).history (hash_of key setup.hashes) key;
  contract = λ w. contract_or_none (contract_at (table_at setup (told_changes setup past) w).contracts (hash_of key setup.hashes) key);
  version = λ node m. key_version (or_zero (value_at (state_at setup past node m).versions.pieces (hash_of key setup.hashes) key));
  view = λ node m. (state_at setup past node m).log.acted;
  life = λ node m. (state_at setup past node m).life;
  last = length (told_changes setup past);
  end = length past;
  top = 18446744073709551615;
}
