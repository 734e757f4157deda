use Rattle.register_laws.proofs.Replies.{legal-told_from}
use Rattle.register_laws.proofs.laws.filled_list_is_legal.Goals as goal

pub returns : goal.returns
returns c = legal-told_from
