use Rattle.std.proofs.Common.{◌≡◌, List, Option, None, map, ap, subst, ◌∙◌}
use Rattle.contract_types.specs.Tables.{setup as table_of}
use Rattle.contract_types.specs.Setup.{SetupState}
use Rattle.register_laws.specs.Lists.{told_from}
use Rattle.node_core.specs.declared.journal.Entry.{Entry}
use Rattle.journal_story.specs.Done.{MarksAnswers}
use Rattle.step_runs.specs.runs.Latest.{longest, told_table, told_from as table_from}
use Rattle.step_runs.specs.runs.Story.{points}
use Rattle.journal_story.specs.Telling.{calls_of, story_from}
use Rattle.journal_story.proofs.Telling.{calls-story}
use Rattle.journal_story.proofs.story.story.Goals as goal

pub returns : goal.returns
returns c =
    let setup = c.in-Some.setup.now in
    let past = c.args.journal.now.past in
    let key = c.args.key.now in
    let table = c.in_ok-table.table in
    let marks = c.in_ok-marks.marks in
    let told : table ≡ told_table setup past =
    c.in_ok-table.ensures.value
    ∙ ap (λ (xs : List _). table_from setup.hashes (table_of setup) 1 (map (λ r. r.now) xs)) c.as_slice.ensures.value
    ∙ ap (table_from setup.hashes (table_of setup) 1) (c.in_ok-viewed.ensures ∙ ap (longest setup) c.entries-entries.ensures) in
    let kept : MarksAnswers marks past = subst (MarksAnswers marks) c.entries-entries.ensures c.in_ok-marks.ensures in
    c.in_ok-told.ensures
    ∙ ap (λ (xs : List _). told_from None (map (λ x. (x.0, x.1.now)) xs)) c.as_slice-2.ensures.value
    ∙ ap (told_from None) c.in_ok-calls.ensures
    ∙ ap (λ (es : List Entry). told_from None (calls_of table marks key (points es))) c.entries-entries.ensures
    ∙ calls-story setup table marks past key told c.in_ok-table.ensures.hashes kept
    ∙ ap (λ (o : Option SetupState). story_from o past key) c.in-Some.ensures
