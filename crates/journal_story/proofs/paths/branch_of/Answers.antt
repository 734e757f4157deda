use Rattle.std.proofs.Common.{◌<◌, subst, ◌∙◌}
use Rattle.contract_types.specs.Configs.{ConfigState}
use Rattle.contract_types.proofs.Begins.{hashes_some}
use Rattle.journal_story.proofs.Branches.{branch-current}
use Rattle.journal_story.proofs.paths.branch_of.Goals as goal

pub returns : goal.returns
returns c =
    let some = subst (λ (x : ConfigState). 0 < x.hashes) c.config.ensures (hashes_some c.config.result.now c.hashes-hashes.ensures.config) in
    branch-current c.args.table.now c.current.result.now c.args.key.now c.copied.result some c.current.ensures.hashes c.current.ensures.at (c.copied.ensures ∙ c.get.ensures)
