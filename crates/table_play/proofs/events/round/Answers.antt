-- A call that wants memory among the ticks leaves a part of what the round makes.
use Rattle.std.proofs.Common.{None}
use Rattle.table_play.specs.Steps.{played_at}
use Rattle.table_play.proofs.Grows.{on_err, ticks_part}
use Rattle.table_play.proofs.events.round.Goals as goal

pub returns-in_err-which-clause-err : goal.returns-in_err-which-clause-err
returns-in_err-which-clause-err c =
    let p = played_at c.args.world.now c.args.down.now.items c.args.refused.now.items None in
    on_err c.from_residual.result (ticks_part c.args.world.now.setup c.args.only.now p c.args.line c.ticks.new.world c.in_err-which.ensures.err)
