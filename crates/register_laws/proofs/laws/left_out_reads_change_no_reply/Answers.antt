use Rattle.register_laws.proofs.Replies.{told_from-filter}
use Rattle.register_laws.proofs.laws.left_out_reads_change_no_reply.Goals as goal

pub returns : goal.returns
returns c = told_from-filter
