use Rattle.std.proofs.Common.{◌≡◌, ◌-◌}
use Rattle.table_log.specs.Fitting.{changes_of}
use Rattle.table_log.specs.Logs.{results_from}
use Rattle.table_log.proofs.log.TableLog.catch_up.Given as goal

abbrev pub invariant-loop : goal.invariant-loop
invariant-loop l =
    record {
      log : l.self ≡ record l.fn.self { acted = l.counter };
      items : l.items.items ≡ results_from l.fn.self.config (changes_of l.fn.self.raft.log) l.acted (l.counter - l.acted);
    }
