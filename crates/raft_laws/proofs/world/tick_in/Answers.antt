use Rattle.std.proofs.Common.{◌≡◌, false, sym, ◌∙◌}
use Rattle.std.proofs.lemmas.Bool.{both_ways}
use Rattle.raft_node.specs.declared.input.RaftInput.TheVariants.{Tick as InputTick}
use Rattle.raft_node.specs.Rows.{ends_numbers}
use Rattle.raft_laws.specs.Net.{node_in}
use Rattle.raft_laws.proofs.world.tick_in.Goals as goal

pub returns-clause-numbers : goal.returns-clause-numbers
returns-clause-numbers g c =
    let s = node_in c.args.count c.args.nodes.now.items c.args.node.0 in
    let goes : ends_numbers s (InputTick c.args.unseen) ≡ false = sym c.ends_at_tick.ensures ∙ c.if-ends_at_tick.false in
    (c.step_in.ensures.numbers, λ h. absurd (both_ways (ends_numbers s (InputTick c.args.unseen)) goes h))
