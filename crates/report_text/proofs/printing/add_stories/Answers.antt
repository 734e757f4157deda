use Rattle.std.proofs.Common.{ℕ, List, [], ◌++◌, map, ap, ◌∙◌}
use Rattle.report_text.specs.Report.{keys_from}
use Rattle.report_text.specs.Stories.{line_by}
use Rattle.report_text.proofs.Telling.{lines-by, points-story}
use Rattle.report_text.proofs.printing.add_stories.Goals as goal

pub returns : goal.returns
returns c =
    c.in_ok-add_story_lines.ensures
    ∙ ap (λ (ls : List (List ℕ)). c.args.lines.now.items ++ ls) (ap (map (line_by c.in_ok-texts.texts)) c.in_ok-keys.ensures ∙ lines-by c.in_ok-texts.texts c.args.setup.now c.args.known.now.past (λ key. c.in_ok-texts.ensures key ∙ points-story c.args.setup.now c.args.table.now c.args.known.now.past key c.requires.told c.requires.hashes) (keys_from [] c.args.items.now))
