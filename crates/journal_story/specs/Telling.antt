-- The story of a key as it is gathered from a journal.
use Rattle.std.specs.Prelude.{ℕ, Bool, not, ◌&&◌, ◌||◌, List, [], map, filter, Option, Some, None}
use Rattle.contract_types.specs.Setup.{SetupState}
use Rattle.contract_types.specs.Tables.{Table}
use Rattle.register_laws.specs.declared.operation.OpId.{OpId}
use Rattle.register_laws.specs.declared.operation.Op.{Op}
use Rattle.register_laws.specs.declared.operation.Told.{Told}
use Rattle.register_laws.specs.Lists.{is_read}
use Rattle.node_core.specs.declared.journal.Entry.{Entry}
use Rattle.node_core.specs.Journal.{JournalState}
use Rattle.journal_story.specs.Done.{Marks, is_done_by}
use Rattle.step_runs.specs.runs.Story.{Point, call_of, is_on_path, story}

-- the story of a key in a journal; where no table began there is none
abbrev pub story_from : Option SetupState → List Entry → List ℕ → List Told
story_from None past key = []
story_from (Some setup) past key = story setup past key

abbrev pub story_in : JournalState → List ℕ → List Told
story_in journal key = story_from journal.setup journal.past key

-- whether an operation stands in stories, by the marks of what is done
abbrev pub is_shown_by : Marks → OpId → Op → Bool
is_shown_by marks op what = not (is_read what) || is_done_by marks op

abbrev pub is_told_by : Table → Marks → List ℕ → Point → Bool
is_told_by t marks key p = is_on_path t.config t key p && is_shown_by marks p.op p.what

-- the operations of the points that stand in the story of a key, by a table and by marks
abbrev pub calls_of : Table → Marks → List ℕ → List Point → List (OpId × Op)
calls_of t marks key ps = map call_of (filter (is_told_by t marks key) ps)
