use Rattle.std.proofs.Common.{◌≡◌, ◌∙◌, true, sym, ap, subst}
use Rattle.table_log.specs.Fitting.{fits}
use Rattle.table_log.specs.Logs.{LogState, table_of}
use Rattle.table_log.proofs.Keeping.{followed_propose}
use Rattle.table_log.proofs.Prefixes.{kept_table}
use Rattle.table_log.proofs.log.TableLog.propose.Goals as goal

pub invariant_of-self : goal.invariant_of-self
invariant_of-self c =
    followed_propose c.self.inside.me c.self.inside.config c.self.inside.raft c.self.inside.acted c.self.inside.table c.self.invariant c.propose.result c.propose.new.self c.args.change
    (subst (λ (s : LogState). fits s.config.hashes c.args.change ≡ true) (sym c.self.view_is) c.requires)
    c.propose.ensures.ok c.propose.ensures.err c.propose.ensures.committed

pub returns-clause-table : goal.returns-clause-table
returns-clause-table c =
    kept_table c.self.inside.config c.self.inside.raft c.propose.new.self c.self.inside.acted c.propose.ensures.committed c.self.invariant.acted_within
    ∙ ap table_of c.self.view_is
