use Rattle.std.proofs.Common.{ap, ◌∙◌}
use Rattle.region_map.specs.Keys.{hash_of}
use Rattle.branch_history.specs.Paths.{Branches, is_on, whole}
use Rattle.branch_history.specs.Histories.{hashes_of}
use Rattle.journal_story.proofs.Branches.{on-current}
use Rattle.journal_story.proofs.paths.is_on_whole.Goals as goal

pub returns : goal.returns
returns c =
    c.path_has.ensures
    ∙ ap (λ (bs : Branches). is_on bs (hash_of c.args.key.now (hashes_of bs)) c.args.key.now (whole c.args.branch) c.args.version.now) c.history.ensures.value
    ∙ on-current c.args.table.now c.args.key.now c.args.branch c.args.version.now c.history.ensures.hashes c.requires
