use Rattle.std.proofs.Common.{◌∙◌, sym, ap, subst}
use Rattle.raft_node.specs.Rows.{RaftStepped, advanced}
use Rattle.raft_node.specs.Committed.{KeepsCommitted}
use Rattle.raft_node.proofs.Commits.{step_keeps}
use Rattle.raft_node.proofs.node.RaftNode.step.Goals as goal

pub returns-clause-committed : goal.returns-clause-committed
returns-clause-committed g c =
    let row = ap (λ (r : RaftStepped g.row.E.Denot). r.node) c.in_ok-sent.ensures.ok in
    subst (KeepsCommitted c.args.self.now) (sym (c.advance.ensures ∙ ap advanced row))
    (step_keeps c.args.self.now g.E.RaftEntry.noop_entry c.args.input c.in_ok-sent.ensures.within c.requires)
