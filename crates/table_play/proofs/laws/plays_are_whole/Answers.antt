use Rattle.table_play.proofs.Complete.{play_whole}
use Rattle.table_play.proofs.laws.plays_are_whole.Goals as goal

pub returns : goal.returns
returns c = λ words result journal text rest held written faults faults' writes writes' p command read_well wrote_well.
    play_whole result journal text rest held written faults faults' writes writes' read_well wrote_well words p command
