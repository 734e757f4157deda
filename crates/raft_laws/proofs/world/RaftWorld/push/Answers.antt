use Rattle.std.proofs.Common.{IsErrOf, IsTrue, Ok, subst}
use Rattle.raft_laws.specs.World.{committed}
use Rattle.raft_laws.specs.Laws.{IsFrontOf}
use Rattle.raft_laws.specs.Net.{RaftNet, world_of, world_in, finds_end}
use Rattle.raft_laws.proofs.Nets.{reached_goes, reached_longer, err_given, err_handed}
use Rattle.raft_laws.specs.declared.world.RaftPushRefused.TheVariants.{NumbersEnd}
use Rattle.raft_laws.proofs.world.RaftWorld.push.Goals as goal

pub returns-in_err-push_in-clause-numbers : goal.returns-in_err-push_in-clause-numbers
returns-in_err-push_in-clause-numbers g c =
    let told = c.in_err-push_in.ensures.numbers in
    let r = c.from_residual.result in
    subst
    (λ (v : RaftNet g.row.E.Denot). (IsErrOf r NumbersEnd → IsTrue (finds_end (world_of v) c.args.node.0 c.args.event)) × (IsTrue (finds_end (world_of v) c.args.node.0 c.args.event) → IsErrOf r NumbersEnd))
    c.self.view_is
    (λ h. told.0 (err_given r c.in_err-push_in.field-0.0 NumbersEnd c.from_residual.ensures.1 h), λ h. err_handed r c.in_err-push_in.field-0.0 NumbersEnd c.from_residual.ensures.1 (told.1 h))

pub returns-clause-numbers : goal.returns-clause-numbers
returns-clause-numbers g c =
    subst
    (λ (v : RaftNet g.row.E.Denot). (IsErrOf (Ok tt) NumbersEnd → IsTrue (finds_end (world_of v) c.args.node.0 c.args.event)) × (IsTrue (finds_end (world_of v) c.args.node.0 c.args.event) → IsErrOf (Ok tt) NumbersEnd))
    c.self.view_is c.in_ok-push_in.ensures.numbers

pub invariant_of-self-2 : goal.invariant_of-self-2
invariant_of-self-2 g c =
    reached_goes g.E.RaftEntry.noop_entry c.self.inside.count c.self.inside.nodes.items c.self.inside.up.items c.self.inside.sent.items c.self.invariant (c.args.node, c.args.event) _ _ _
    c.in_ok-push_in.ensures.states c.in_ok-push_in.ensures.ups c.in_ok-push_in.ensures.ok

pub returns-clause-longer : goal.returns-clause-longer
returns-clause-longer g c n =
    let now = world_in c.self.inside.count c.push_in.new.nodes.items c.push_in.new.up.items c.push_in.new.sent.items in
    subst (λ (v : RaftNet g.row.E.Denot). IsFrontOf (committed (world_of v) n) (committed now n)) c.self.view_is
    (reached_longer g.E.RaftEntry.noop_entry c.self.inside.count c.self.inside.nodes.items c.self.inside.up.items c.self.inside.sent.items c.self.invariant (c.args.node, c.args.event) now c.in_ok-push_in.ensures.ok n)
