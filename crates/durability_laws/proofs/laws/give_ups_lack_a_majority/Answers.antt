use Rattle.durability_laws.proofs.Lacking.{given_up_lacks}
use Rattle.durability_laws.proofs.laws.give_ups_lack_a_majority.Goals as goal

pub returns : goal.returns
returns c = given_up_lacks
