use Rattle.std.proofs.Common.{◌∙◌, refl, sym, ap, arith}
use Rattle.raft_laws.specs.World.{happens}
use Rattle.raft_laws.specs.Net.{world_in}
use Rattle.raft_laws.proofs.Nets.{reached_fits, reached_me, tick_is, arrives_is, on_ok, up_read}
use Rattle.raft_laws.proofs.world.push_in.Goals as goal

pub deliver_in-requires-clause-fits : goal.deliver_in-requires-clause-fits
deliver_in-requires-clause-fits g c m e = reached_fits g.E.RaftEntry.noop_entry c.args.count c.args.nodes.now.items c.args.up.now.items c.args.sent.now.items c.requires.reached c.args.node.0 c.in-Deliver.number m e

pub stop_in-requires-clause-me : goal.stop_in-requires-clause-me
stop_in-requires-clause-me g c = reached_me g.E.RaftEntry.noop_entry c.args.count c.args.nodes.now.items c.args.up.now.items c.args.sent.now.items c.requires.reached c.args.node.0

pub stop_in-requires-in-Restart-clause-me : goal.stop_in-requires-in-Restart-clause-me
stop_in-requires-in-Restart-clause-me g c = reached_me g.E.RaftEntry.noop_entry c.args.count c.args.nodes.now.items c.args.up.now.items c.args.sent.now.items c.requires.reached c.args.node.0

pub returns-else-not-index-clause-ok : goal.returns-else-not-index-clause-ok
returns-else-not-index-clause-ok g c =
    let r = c.requires.reached in
    let below = c.requires.node in
    let ups = r.ups_are in
    let is = up_read c.args.up.now.items c.args.node.0 c.index.result.now (omega (arith, below, ups)) c.index.ensures c.if-not-index.false in
    on_ok c.tick_in.result _ _ _ _ c.tick_in.ensures.nodes c.tick_in.ensures.sent c.tick_in.ensures.goes
    (λ a b e.
    tick_is g.E.RaftEntry.noop_entry c.args.count c.args.nodes.now.items c.args.up.now.items c.args.sent.now.items c.args.node below r.states_are c.in-Tick.unseen _ _ is e a b
    ∙ ap (λ event. happens c.args.count g.E.RaftEntry.noop_entry (world_in c.args.count c.args.nodes.now.items c.args.up.now.items c.args.sent.now.items) (c.args.node, event)) (sym c.in-Tick.is))

pub returns-else-not-index-3-clause-ok : goal.returns-else-not-index-3-clause-ok
returns-else-not-index-3-clause-ok g c =
    let r = c.requires.reached in
    let below = c.requires.node in
    let ups = r.ups_are in
    let is = up_read c.args.up.now.items c.args.node.0 c.index-in-Deliver.result.now (omega (arith, below, ups)) c.index-in-Deliver.ensures c.if-not-index-3.false in
    on_ok c.deliver_in.result _ _ _ _ c.deliver_in.ensures.comes c.deliver_in.ensures.comes c.deliver_in.ensures.goes
    (λ a b e.
    arrives_is g.E.RaftEntry.noop_entry c.args.count c.args.nodes.now.items c.args.up.now.items c.args.sent.now.items c.args.node below r.states_are c.in-Deliver.number _ _ is _ refl e a
    ∙ ap (λ event. happens c.args.count g.E.RaftEntry.noop_entry (world_in c.args.count c.args.nodes.now.items c.args.up.now.items c.args.sent.now.items) (c.args.node, event)) (sym c.in-Deliver.is))
