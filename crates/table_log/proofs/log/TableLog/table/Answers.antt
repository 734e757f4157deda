use Rattle.std.proofs.Common.{◌∙◌, ap}
use Rattle.table_log.specs.Logs.{LogState}
use Rattle.table_log.proofs.Keeping.{followed_hashes}
use Rattle.table_log.proofs.log.TableLog.table.Goals as goal

pub returns-clause-hashes : goal.returns-clause-hashes
returns-clause-hashes c =
    followed_hashes c.self.inside.me c.self.inside.config c.self.inside.raft c.self.inside.acted c.self.inside.table c.self.invariant
    ∙ ap (λ (s : LogState). s.config.hashes) c.self.view_is
