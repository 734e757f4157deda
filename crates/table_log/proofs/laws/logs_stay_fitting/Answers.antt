use Rattle.std.proofs.Common.{◌≡◌, true, refl}
use Rattle.std.proofs.lemmas.Bool.{and_parts}
use Rattle.raft_node.specs.declared.input.RaftInput.{RaftInput}
use Rattle.raft_node.specs.Rows.{is_well_formed}
use Rattle.contract_types.specs.declared.change.Change.{Change}
use Rattle.contract_types.specs.declared.change.Change.TheVariants.{Noop}
use Rattle.table_log.specs.Fitting.{fits, log_fits, input_fits}
use Rattle.table_log.specs.Logs.{LogState, may_take, log_step}
use Rattle.table_log.proofs.Frames.{passes_proposed}
use Rattle.table_log.proofs.Keeping.{step_fitting}
use Rattle.table_log.proofs.Sending.{sends_fitting}
use Rattle.table_log.proofs.laws.logs_stay_fitting.Goals as goal

stays : (s : LogState) (input : RaftInput Change) → log_fits s.config.hashes s.raft.log ≡ true → may_take s input ≡ true → log_fits s.config.hashes (log_step s input).log.raft.log ≡ true
stays s input own given =
    step_fitting s.config.hashes s.raft input own (and_parts (is_well_formed s.raft input) (input_fits s.config.hashes input) given).1

pub returns : goal.returns
returns c =
    record {
      begins = λ config me. refl;
      steps = stays;
      sends = λ s input own. sends_fitting s.config.hashes s.raft own input;
      proposals = λ s change own given. passes_proposed (fits s.config.hashes) Noop s.raft refl own change given;
    }
