-- Which keys a node is to serve, by the table that it knows.
use Rattle.std.specs.Prelude.{ℕ, ◌==◌, Bool, false, not, ◌&&◌, List, Option, Some, None}
use Rattle.std.specs.Option.{is_some}
use Rattle.std.specs.List.{list_any}
use Rattle.region_map.specs.declared.id.Id.{Id}
use Rattle.region_map.specs.declared.id.NodeId.{NodeId}
use Rattle.region_map.specs.Keys.{hash_of}
use Rattle.branch_history.specs.declared.history.BranchBirth.{BranchBirth}
use Rattle.branch_history.specs.Histories.{birth_of}
use Rattle.contract_types.specs.declared.contract.Contract.{Contract}
use Rattle.contract_types.specs.declared.contract.Holder.{Holder}
use Rattle.contract_types.specs.Tables.{Table, branch_at}
use Rattle.store_api.specs.Rows.{has_key}
use Rattle.table_log.specs.Logs.{table_of}
use Rattle.node_core.specs.Step.{NodeState}

-- the primary is this node, and hands over to no other
abbrev pub is_primary : NodeId → Option Holder → Bool
is_primary me None = false
is_primary me (Some h) = (h.server.0 == me.0) && not (is_some h.hand_over)

abbrev pub is_of_tenure : ℕ → Option BranchBirth → Bool
is_of_tenure tenure None = false
is_of_tenure tenure (Some birth) = birth.tenure == tenure

-- a branch of the table was made by this node in this life, and in this tenure
abbrev pub is_made_in : NodeId → ℕ → ℕ → Table → Option Id → Bool
is_made_in me life tenure t None = false
is_made_in me life tenure t (Some b) = (b.node.0 == me.0) && (b.life == life) && is_of_tenure tenure (birth_of t.history b)

-- a contract has the key and this node as its primary, which made the key's current branch in this life and in the
-- contract's tenure
abbrev pub is_served_under : NodeId → ℕ → Table → List ℕ → Contract → Bool
is_served_under me life t key c =
    has_key c.region t.config.hashes key && is_primary me c.primary
    && is_made_in me life c.tenure t (branch_at t.history (hash_of key t.config.hashes) key)

-- a node that is up is to serve a key under some contract of its table
abbrev pub is_served_by : NodeState → List ℕ → Bool
is_served_by s key = s.up && list_any (is_served_under s.me s.life (table_of s.log) key) (table_of s.log).contracts
