use Rattle.branch_history.proofs.Ancestors.{on_whole}
use Rattle.branch_history.proofs.laws.a_whole_branch_has_its_versions.Goals as goal

pub returns : goal.returns
returns c = on_whole
