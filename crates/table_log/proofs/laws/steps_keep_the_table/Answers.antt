use Rattle.std.proofs.Common.{◌≡◌, ◌≤◌, true, length, refl}
use Rattle.std.proofs.lemmas.Bool.{and_parts}
use Rattle.raft_node.specs.declared.input.RaftInput.{RaftInput}
use Rattle.raft_node.specs.Rows.{raft_step, proposed, is_well_formed}
use Rattle.raft_node.proofs.Commits.{step_keeps, proposed_keeps}
use Rattle.contract_types.specs.declared.change.Change.{Change}
use Rattle.contract_types.specs.declared.change.Change.TheVariants.{Noop}
use Rattle.table_log.specs.Fitting.{input_fits}
use Rattle.table_log.specs.Logs.{LogState, table_of, may_take, log_step}
use Rattle.table_log.proofs.Prefixes.{kept_table}
use Rattle.table_log.proofs.laws.steps_keep_the_table.Goals as goal

after_step : (s : LogState) (input : RaftInput Change) → s.acted ≤ s.raft.view → s.raft.view ≤ length s.raft.log → may_take s input ≡ true → table_of (log_step s input).log ≡ table_of s
after_step s input acted view given =
    let formed = and_parts (is_well_formed s.raft input) (input_fits s.config.hashes input) given in
    kept_table s.config s.raft (raft_step Noop s.raft input).node s.acted (step_keeps s.raft Noop input view formed.0) acted

pub returns : goal.returns
returns c =
    record {
      steps = after_step;
      proposals = λ s change acted view. kept_table s.config s.raft (proposed s.raft change) s.acted (proposed_keeps s.raft change view) acted;
      restarts = λ s. refl;
    }
