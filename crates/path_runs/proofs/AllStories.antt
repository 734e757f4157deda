-- In every run each key's story is a register story: it is the list of all operations on the key.
use Rattle.std.proofs.Common.{◌≡◌, ℕ, List, map, filter, None, sym, ap, subst}
use Rattle.id_runs.specs.runs.contract_types.Setup.{SetupState, IsSetup}
use Rattle.id_runs.specs.runs.register_laws.Lists.{told_from}
use Rattle.id_runs.specs.runs.node_core.declared.journal.Entry.{Entry}
use Rattle.id_runs.specs.runs.Run.{IsRun}
use Rattle.id_runs.specs.runs.Story.{Point, IsRegisterStory, call_of, is_shown_point, story}
use Rattle.id_runs.proofs.change_runs.AskedRuns.{earlier_run}
use Rattle.key_runs.proofs.Keyed.{keyed_story}
use Rattle.key_runs.proofs.KeyedLaws.{keyed_register_story}
use Rattle.path_runs.proofs.OnPath.{all_on_path}

story_is : (setup : SetupState) → IsSetup setup → (past : List Entry) → IsRun setup past → (key : List ℕ) → story setup past key ≡ keyed_story past key
story_is setup ok past h key = ap (λ (ps : List Point). told_from None (map call_of (filter (is_shown_point past) ps))) (all_on_path setup ok past h key)

pub run_stories : (setup : SetupState) → IsSetup setup → (past : List Entry) → IsRun setup past → (key : List ℕ) → IsRegisterStory setup past key (story setup past key)
run_stories setup ok past h key =
    subst (IsRegisterStory setup past key) (sym (story_is setup ok past h key))
    (keyed_register_story setup ok past h key
    (λ later earlier is. story_is setup ok earlier (earlier_run setup past earlier h (record { later = later; is = is })) key))
