-- A call that wants memory leaves a part of what the word makes.
use Rattle.std.proofs.Common.{None}
use Rattle.std.proofs.lemmas.Result.{on_err_weaker}
use Rattle.table_play.specs.Play.{play_word}
use Rattle.table_play.specs.Steps.{played_at}
use Rattle.table_play.proofs.Grows.{on_err, keeps_part, word_adds}
use Rattle.table_play.proofs.events.play_word.Goals as goal

pub returns-in_err-key-in-Request-clause-err : goal.returns-in_err-key-in-Request-clause-err
returns-in_err-key-in-Request-clause-err c =
    let w = c.args.world.now in
    let p = played_at w c.args.down.now.items c.args.refused.now.items None in
    let item = c.args.item.now in
    let more = word_adds w.setup p item.line item.word in
    on_err c.from_residual.result (more.later, more.split)

pub returns-in_err-what-in-Request-clause-err : goal.returns-in_err-what-in-Request-clause-err
returns-in_err-what-in-Request-clause-err c =
    let w = c.args.world.now in
    let p = played_at w c.args.down.now.items c.args.refused.now.items None in
    let item = c.args.item.now in
    let more = word_adds w.setup p item.line item.word in
    on_err c.from_residual-in_err-what-in-Request.result (more.later, more.split)

pub returns-in_ok-what-in-Request-clause-err : goal.returns-in_ok-what-in-Request-clause-err
returns-in_ok-what-in-Request-clause-err c =
    let w = c.args.world.now in
    let p = played_at w c.args.down.now.items c.args.refused.now.items None in
    let item = c.args.item.now in
    on_err_weaker c.event.result (keeps_part w c.event.new.world (play_word w.setup p item.line item.word) (word_adds w.setup p item.line item.word)) c.event.ensures.err

pub returns-in-GiveUp-clause-err : goal.returns-in-GiveUp-clause-err
returns-in-GiveUp-clause-err c =
    let w = c.args.world.now in
    let p = played_at w c.args.down.now.items c.args.refused.now.items None in
    let item = c.args.item.now in
    on_err_weaker c.event-in-GiveUp.result (keeps_part w c.event-in-GiveUp.new.world (play_word w.setup p item.line item.word) (word_adds w.setup p item.line item.word)) c.event-in-GiveUp.ensures.err

pub returns-in-See-clause-err : goal.returns-in-See-clause-err
returns-in-See-clause-err c =
    let w = c.args.world.now in
    let p = played_at w c.args.down.now.items c.args.refused.now.items None in
    let item = c.args.item.now in
    on_err_weaker c.event-in-See.result (keeps_part w c.event-in-See.new.world (play_word w.setup p item.line item.word) (word_adds w.setup p item.line item.word)) c.event-in-See.ensures.err

pub returns-in-Crash-clause-err : goal.returns-in-Crash-clause-err
returns-in-Crash-clause-err c =
    let w = c.args.world.now in
    let p = played_at w c.args.down.now.items c.args.refused.now.items None in
    let item = c.args.item.now in
    on_err_weaker c.event-in-Crash.result (keeps_part w c.event-in-Crash.new.world (play_word w.setup p item.line item.word) (word_adds w.setup p item.line item.word)) c.event-in-Crash.ensures.err

pub returns-in-Restart-clause-err : goal.returns-in-Restart-clause-err
returns-in-Restart-clause-err c =
    let w = c.args.world.now in
    let p = played_at w c.args.down.now.items c.args.refused.now.items None in
    let item = c.args.item.now in
    on_err_weaker c.event-in-Restart.result (keeps_part w c.event-in-Restart.new.world (play_word w.setup p item.line item.word) (word_adds w.setup p item.line item.word)) c.event-in-Restart.ensures.err

pub returns-in-Tick-clause-err : goal.returns-in-Tick-clause-err
returns-in-Tick-clause-err c =
    let w = c.args.world.now in
    let p = played_at w c.args.down.now.items c.args.refused.now.items None in
    let item = c.args.item.now in
    on_err_weaker c.event-in-Tick.result (keeps_part w c.event-in-Tick.new.world (play_word w.setup p item.line item.word) (word_adds w.setup p item.line item.word)) c.event-in-Tick.ensures.err

pub returns-in-Deliver-clause-err : goal.returns-in-Deliver-clause-err
returns-in-Deliver-clause-err c =
    let w = c.args.world.now in
    let p = played_at w c.args.down.now.items c.args.refused.now.items None in
    let item = c.args.item.now in
    on_err_weaker c.delivery.result (keeps_part w c.delivery.new.world (play_word w.setup p item.line item.word) (word_adds w.setup p item.line item.word)) c.delivery.ensures.err
