-- A node that is up takes its tick.
use Rattle.std.proofs.Common.{◌≡◌, ◌∙◌, true, cond, nat_lt, Option, None, sym, subst}
use Rattle.std.specs.Result.{IfOk}
use Rattle.std.proofs.lemmas.Bool.{and_parts}
use Rattle.contract_types.specs.declared.limits.Which.{Which}
use Rattle.exec_types.specs.declared.input.Input.TheVariants.{Tick}
use Rattle.world_core.specs.runs.Run.{state}
use Rattle.table_play.specs.Play.{Played, play_event}
use Rattle.table_play.specs.Steps.{played_at}
use Rattle.table_play.proofs.events.tick.Goals as goal

pub returns-then-is_up-clause-ok : goal.returns-then-is_up-clause-ok
returns-then-is_up-clause-ok c =
    let w = c.args.world.now in
    let n = c.args.node.0 in
    let p : Played = played_at w c.args.down.now.items c.args.refused.now.items None in
    let up : (state w.setup n w.past).up ≡ true =
    (and_parts (nat_lt n w.setup.nodes) (state w.setup n w.past).up (sym (c.is_up.ensures c.requires.on) ∙ c.if-is_up.true)).1 in
    subst
    (λ b. IfOk c.event.result (λ (met : Option Which). played_at c.event.new.world c.event.new.down.items c.event.new.refused.items met
    ≡ cond b (play_event w.setup p c.args.line c.args.node Tick) p))
    (sym up) c.event.ensures.ok
