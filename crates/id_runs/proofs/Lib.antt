pub use Rattle.lead_runs.proofs.change_runs as change_runs
pub use Rattle.lead_runs.proofs as lead_runs
pub use Rattle.lead_runs.proofs.log_runs as log_runs
pub use Rattle.lead_runs.proofs.runs as runs
pub use Rattle.lead_runs.proofs.step_runs as step_runs
pub mod DrawnIds
pub mod Makers
pub mod TakenPoints
