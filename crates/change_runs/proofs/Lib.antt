pub use Rattle.log_runs.proofs as log_runs
pub use Rattle.log_runs.proofs.runs as runs
pub use Rattle.log_runs.proofs.step_runs as step_runs
pub mod Asked
pub mod AskedRuns
pub mod AskedRunsLogs
pub mod AskedRunsRoles
pub mod AskedRunsSteps
pub mod AskedRunsTables
pub mod LedHistories
pub mod LedMaps
pub mod Registered
pub mod ServedCurrent
pub mod StoredPaths
