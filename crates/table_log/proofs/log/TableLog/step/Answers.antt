use Rattle.std.proofs.Common.{◌≡◌, ◌∙◌, true, sym, ap, subst}
use Rattle.raft_node.specs.Rows.{RaftStepped}
use Rattle.contract_types.specs.declared.change.Change.{Change}
use Rattle.table_log.specs.Logs.{LogState, table_of, may_take}
use Rattle.table_log.proofs.Keeping.{followed_step}
use Rattle.table_log.proofs.Prefixes.{kept_table}
use Rattle.table_log.proofs.log.TableLog.step.Goals as goal

pub invariant_of-log : goal.invariant_of-log
invariant_of-log c =
    followed_step c.self.inside.me c.self.inside.config c.self.inside.raft c.self.inside.acted c.self.inside.table c.self.invariant c.args.input c.step.new.self
    (subst (λ (s : LogState). may_take s c.args.input ≡ true) (sym c.self.view_is) c.requires)
    (ap (λ (r : RaftStepped Change). r.node) c.in_ok-sent.ensures.ok) c.in_ok-sent.ensures.committed

pub returns-clause-table : goal.returns-clause-table
returns-clause-table c =
    kept_table c.self.inside.config c.self.inside.raft c.step.new.self c.self.inside.acted c.in_ok-sent.ensures.committed c.self.invariant.acted_within
    ∙ ap table_of c.self.view_is
