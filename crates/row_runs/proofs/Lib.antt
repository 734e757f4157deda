pub use Rattle.path_runs.proofs.change_runs as change_runs
pub use Rattle.path_runs.proofs.key_runs as key_runs
pub use Rattle.path_runs.proofs.lead_runs as lead_runs
pub use Rattle.path_runs.proofs.log_runs as log_runs
pub use Rattle.path_runs.proofs as path_runs
pub use Rattle.path_runs.proofs.runs as runs
pub use Rattle.path_runs.proofs.step_runs as step_runs
pub mod StoredFirsts
pub mod StoredLaws
pub mod StoredMoves
pub mod StoredRuns
pub mod StoredSetups
pub mod StoredSteps
