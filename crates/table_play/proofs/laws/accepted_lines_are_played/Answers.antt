use Rattle.table_play.proofs.EachLine.{accepted_lines_do}
use Rattle.table_play.proofs.laws.accepted_lines_are_played.Goals as goal

pub returns : goal.returns
returns c = accepted_lines_do
