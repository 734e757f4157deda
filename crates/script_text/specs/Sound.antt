-- What holds of every accepted script.
use Rattle.std.specs.Prelude.{◌≡◌, ℕ, Bool, true, not, ◌&&◌, nat_lt, List, [], ◌∷◌, ◌++◌, Option, Some, None}
use Rattle.std.specs.List.{list_all}
use Rattle.region_map.specs.declared.id.NodeId.{NodeId}
use Rattle.contract_types.specs.Setup.{SetupState, IsSetup}
use Rattle.script_text.specs.declared.script.ScriptWord.{ScriptWord}
use Rattle.script_text.specs.declared.script.ScriptWord.TheVariants.{Request, GiveUp, See, Crash, Restart, Tick, Deliver, Lose, LoseBetween, Flush, Settle}
use Rattle.script_text.specs.declared.script.ScriptItem.{ScriptItem}
use Rattle.script_text.specs.Script.{ScriptState, is_again}

abbrev pub fits_node : SetupState → Option NodeId → Bool
fits_node setup None = true
fits_node setup (Some node) = nat_lt node.0 setup.nodes

abbrev pub fits_only : SetupState → Option (List ℕ) → Bool
fits_only setup None = true
fits_only setup (Some only) = list_all (λ n. nat_lt n setup.nodes) only

-- a node that a word names is one of the table
abbrev pub fits_table : SetupState → ScriptWord → Bool
fits_table setup (Request op node key what) = nat_lt node.0 setup.nodes
fits_table setup (GiveUp node op) = nat_lt node.0 setup.nodes
fits_table setup (See node other up) = nat_lt node.0 setup.nodes && nat_lt other.0 setup.nodes
fits_table setup (Crash node) = nat_lt node.0 setup.nodes
fits_table setup (Restart node) = nat_lt node.0 setup.nodes
fits_table setup (Tick node) = nat_lt node.0 setup.nodes
fits_table setup (Deliver message node) = fits_node setup node
fits_table setup (Lose message) = true
fits_table setup (LoseBetween from to) = nat_lt from.0 setup.nodes && nat_lt to.0 setup.nodes
fits_table setup (Flush only) = fits_only setup only
fits_table setup (Settle rounds only) = fits_only setup only

-- no item gives an operation's number that an earlier one gave; `before` are the items before these
abbrev pub are_new : List ScriptItem → List ScriptItem → Bool
are_new before [] = true
are_new before (item ∷ items) = not (is_again item.word before) && are_new (before ++ item ∷ []) items

-- a table may begin with the setup, each node is one of the table, and no operation's number is given twice
pub record IsSound (script : ScriptState) : Type 0 where
  pub begins : IsSetup script.setup
  pub fits : list_all (λ item. fits_table script.setup item.word) script.items ≡ true
  pub new : are_new [] script.items ≡ true
