use Rattle.std.proofs.Common.{◌∙◌, ap, arith}
use Rattle.table_log.specs.Fitting.{changes_of}
use Rattle.table_log.specs.Logs.{LogState, result_at, acted_once}
use Rattle.table_log.proofs.Acting.{results_more}
use Rattle.table_log.proofs.log.TableLog.catch_up.Goals as goal

pub loop-preserved : goal.loop-preserved
loop-preserved c =
    record {
      log = c.in_ok-act.ensures.ok ∙ ap acted_once c.loop.invariant.log;
      items =
          results_more c.args.self.now.config (changes_of c.args.self.now.raft.log) c.acted-acted.result c.loop.counter c.loop.items.items c.push.new.self.items c.in_ok-act.field-0
          (omega arith) c.loop.invariant.items
          (c.in_ok-act.ensures.result_is ∙ ap (λ (s : LogState). result_at s.config (changes_of s.raft.log) s.acted) c.loop.invariant.log)
          c.in_ok-push.ensures.items;
    }
