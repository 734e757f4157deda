use Rattle.std.proofs.Common.{◌-◌}
use Rattle.table_log.specs.Fitting.{changes_of}
use Rattle.table_log.proofs.Acting.{results_count, results_each, results_joined}
use Rattle.table_log.proofs.laws.results_come_in_order.Goals as goal

pub returns : goal.returns
returns c =
    record {
      count = λ s. results_count s.config (changes_of s.raft.log) s.acted (s.raft.view - s.acted);
      each = λ s. results_each s.config (changes_of s.raft.log) s.acted (s.raft.view - s.acted);
      parts = results_joined;
    }
