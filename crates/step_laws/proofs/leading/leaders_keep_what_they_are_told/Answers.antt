use Rattle.step_laws.proofs.Appends.{keeps_what_it_is_told}
use Rattle.step_laws.proofs.leading.leaders_keep_what_they_are_told.Goals as goal

pub returns : goal.returns
returns c = keeps_what_it_is_told
