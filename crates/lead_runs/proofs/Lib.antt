pub use Rattle.change_runs.proofs as change_runs
pub use Rattle.change_runs.proofs.log_runs as log_runs
pub use Rattle.change_runs.proofs.runs as runs
pub use Rattle.change_runs.proofs.step_runs as step_runs
pub mod LedAsked
pub mod LedKeys
pub mod LedMoves
pub mod LedRoles
pub mod LedRows
pub mod LedRuns
pub mod LedShards
pub mod LedStarts
