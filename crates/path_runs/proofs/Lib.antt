pub use Rattle.id_runs.proofs.change_runs as change_runs
pub use Rattle.key_runs.proofs as key_runs
pub use Rattle.id_runs.proofs.lead_runs as lead_runs
pub use Rattle.id_runs.proofs.log_runs as log_runs
pub use Rattle.id_runs.proofs.runs as runs
pub use Rattle.id_runs.proofs.step_runs as step_runs
pub mod AllStories
pub mod BranchStarts
pub mod OnPath
pub mod OnPathPoints
pub mod OnPathTables
pub mod PathOrder
pub mod Stays
pub mod StoryOrder
