pub use Rattle.step_runs.proofs.runs as runs
pub use Rattle.step_runs.proofs as step_runs
pub mod LogReceivers
pub mod LogWorldLaws
pub mod LogWorldMoves
pub mod LogWorldOuts
pub mod LogWorldRows
pub mod LogWorldRuns
pub mod Table
