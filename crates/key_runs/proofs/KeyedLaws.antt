-- What holds in every run of stories and answers.
use Rattle.std.proofs.Common.{◌≡◌, true, ℕ, List, ◌++◌, Some}
use Rattle.change_runs.specs.runs.register_laws.declared.operation.OpId.{OpId}
use Rattle.change_runs.specs.runs.contract_types.Setup.{SetupState, IsSetup}
use Rattle.change_runs.specs.runs.exec_types.declared.outcome.Outcome.TheVariants.{NotServing}
use Rattle.change_runs.specs.runs.node_core.declared.journal.Entry.{Entry}
use Rattle.change_runs.specs.runs.Run.{is_requested, state, IsRun}
use Rattle.change_runs.specs.runs.Story.{answer, is_answered, story, IsRegisterStory}
use Rattle.change_runs.proofs.AskedRuns.{contracts_stay}
use Rattle.key_runs.proofs.Keyed.{keyed_story}
use Rattle.key_runs.proofs.KeyedFacts.{AddsAlong}
use Rattle.key_runs.proofs.KeyedNodes.{KeyedNode, holding}
use Rattle.key_runs.proofs.KeyedStory.{register_story}
use Rattle.key_runs.proofs.Refused.{IsRefused}
use Rattle.key_runs.proofs.KeyedRuns.{keyed_nodes, requested, refused_only, refused_always}

-- what holds of each node over all operations on the keys that it leads
pub keyed_facts : (setup : SetupState) → IsSetup setup → (past : List Entry) → IsRun setup past → AddsAlong past × ((n : ℕ) → KeyedNode setup past n (holding (state setup n past)))
keyed_facts setup ok = keyed_nodes setup ok (contracts_stay setup ok)

-- all operations on a key are a register story, where the stories up to each moment are those
pub keyed_register_story : (setup : SetupState) → IsSetup setup → (past : List Entry) → IsRun setup past → (key : List ℕ)
    → ((later earlier : List Entry) → past ≡ later ++ earlier → story setup earlier key ≡ keyed_story earlier key) → IsRegisterStory setup past key (keyed_story past key)
keyed_register_story setup ok past h key same = register_story setup past (keyed_facts setup ok past h).0 key same

-- an operation that was answered was requested
pub answered_requested : (setup : SetupState) → IsSetup setup → (past : List Entry) → IsRun setup past → (op : OpId) → is_answered past op ≡ true → is_requested past op ≡ true
answered_requested setup ok = requested setup ok (contracts_stay setup ok)

-- "not serving" is answered exactly where the node had no execution of the key as it took the request
pub answered_refused : (setup : SetupState) → IsSetup setup → (past : List Entry) → IsRun setup past → (op : OpId) → answer past op ≡ Some NotServing → IsRefused setup past op
answered_refused setup ok = refused_only setup ok (contracts_stay setup ok)

pub refused_answered : (setup : SetupState) → IsSetup setup → (past : List Entry) → IsRun setup past → (op : OpId) → IsRefused setup past op → answer past op ≡ Some NotServing
refused_answered setup ok = refused_always setup ok (contracts_stay setup ok)
