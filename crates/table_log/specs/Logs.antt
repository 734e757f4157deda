-- What clients see of the log of a table at a node, and what each call does to it.
use Rattle.std.specs.Prelude.{◌≡◌, ℕ, zero, suc, ◌+◌, ◌-◌, ◌<◌, ◌≤◌, ◌==◌, Bool, true, ◌&&◌, List, [], ◌∷◌, ◌++◌, Option, Some, None, if◌then◌else◌}
use Rattle.region_map.specs.declared.id.NodeId.{NodeId}
use Rattle.raft_vote.specs.declared.message.RaftMessage.{RaftMessage}
use Rattle.raft_vote.specs.Rows.{all_nodes}
use Rattle.raft_node.specs.declared.input.RaftInput.{RaftInput}
use Rattle.raft_node.specs.State.{RaftState, begun, kept_of}
use Rattle.raft_node.specs.Rows.{raft_step, proposed, is_well_formed}
use Rattle.contract_types.specs.declared.change.Change.{Change}
use Rattle.contract_types.specs.declared.change.Change.TheVariants.{Noop}
use Rattle.contract_types.specs.declared.applied.Applied.{Applied}
use Rattle.contract_types.specs.declared.results.Viewed.{Viewed}
use Rattle.contract_types.specs.Configs.{ConfigState}
use Rattle.contract_types.specs.Tables.{Table}
use Rattle.table_apply.specs.Effects.{applied_at}
use Rattle.table_apply.specs.Runs.{change_at, table_at}
use Rattle.table_log.specs.Fitting.{changes_of, log_fits, input_fits}

pub record LogState : Type 0 where
  pub config : ConfigState  -- what the table began with
  pub raft : RaftState Change
  pub acted : ℕ  -- up to which index the table follows the log

-- the table that follows from the log up to there
abbrev pub table_of : LogState → Table
table_of s = table_at s.config (changes_of s.raft.log) s.acted

-- a table is kept beside the log: it is the one that follows from it
pub record IsFollowed (me : NodeId) (s : LogState) (table : Table) : Type 0 where
  pub me_is : s.raft.votes.me ≡ me
  pub me_within : me.0 < s.config.nodes
  pub few : s.config.nodes ≤ 64
  pub nodes_are : s.raft.votes.nodes ≡ all_nodes s.config.nodes
  pub acted_within : s.acted ≤ s.raft.view
  pub fitting : log_fits s.config.hashes s.raft.log ≡ true
  pub table_is : table ≡ table_of s

-- ---- begin and restart

abbrev pub begun_log : ConfigState → NodeId → LogState
begun_log config me = record { config = config; raft = begun me config.nodes (record { term = 0; vote = None; log = []; view = 0 }); acted = 0 }

-- the log goes on with what it kept, and the table stays
abbrev pub restarted : LogState → LogState
restarted s = record s { raft = begun s.raft.votes.me s.config.nodes (kept_of s.raft) }

-- ---- steps of the log

-- what it may be given
abbrev pub may_take : LogState → RaftInput Change → Bool
may_take s input = is_well_formed s.raft input && input_fits s.config.hashes input

-- a log, and what was sent on the way to it
pub record LogStepped : Type 0 where
  pub log : LogState
  pub sent : List (NodeId × RaftMessage Change)

abbrev pub log_step : LogState → RaftInput Change → LogStepped
log_step s input = let r = raft_step Noop s.raft input in record { log = record s { raft = r.node }; sent = r.sent }

abbrev pub with_proposed : LogState → Change → LogState
with_proposed s change = record s { raft = proposed s.raft change }

-- ---- acting on what was committed

-- the change at a place from 0, with what becomes of it
abbrev pub result_at : ConfigState → List Change → ℕ → Change × Applied
result_at config changes place =
    let change = change_at changes place in
    (change, (applied_at (table_at config changes place) (suc place) change).applied)

-- so many changes behind the first ones, each with what becomes of it
abbrev pub results_from : ConfigState → List Change → ℕ → ℕ → List (Change × Applied)
results_from config changes first zero = []
results_from config changes first (suc n) = results_from config changes first n ++ result_at config changes (first + n) ∷ []

-- the changes up to the view that were not acted on yet
abbrev pub results : LogState → List (Change × Applied)
results s = results_from s.config (changes_of s.raft.log) s.acted (s.raft.view - s.acted)

abbrev pub acted_once : LogState → LogState
acted_once s = record s { acted = s.acted + 1 }

abbrev pub caught_up : LogState → LogState
caught_up s = record s { acted = s.raft.view }

-- what catching up gives
abbrev pub viewed : LogState → Option Viewed
viewed s = if s.acted == s.raft.view then None else Some (record { first = s.acted + 1; results = results s })
