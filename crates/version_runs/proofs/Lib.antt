pub use Rattle.path_runs.proofs as path_runs
pub mod Executions
pub mod Heads
pub mod Outputs
pub mod TakenRuns
pub mod Times
pub mod TracedBegins
pub mod TracedRuns
pub mod TracedSteps
