-- The slice from a place on is all that lies behind it.
use Rattle.std.proofs.Common.{◌≡◌, ◌-◌, drop, length, ap, ◌∙◌, arith}
use Rattle.std.proofs.lemmas.List.{take_all, length-drop}
use Rattle.std.specs.List.{list_any}
use Rattle.node_turn.specs.Outcomes.{answers}
use Rattle.node_turn.proofs.Answering.{outcome_behind}
use Rattle.node_turn.proofs.outcomes.is_answered.Goals as goal

pub returns : goal.returns
returns c =
    let seen = c.args.seen.now in
    let asked = c.args.asked in
    let behind : length (drop asked seen) ≡ length seen - asked = length-drop asked seen in
    c.has_outcome.ensures
    ∙ ap (list_any (answers c.args.op)) (take_all (length seen - asked) (drop asked seen) (omega (arith, behind)))
    ∙ outcome_behind c.args.op seen asked c.requires.lacking
