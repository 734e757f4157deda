pub use Rattle.runs.proofs as runs
pub mod Begun
pub mod EndPoints
pub mod Facts
pub mod Nodes
pub mod Outs
pub mod PointBegins
pub mod PointBranches
pub mod PointRuns
pub mod PointSteps
pub mod RegisterStory
pub mod RowSteps
pub mod Runs
pub mod Setups
pub mod ShardRoles
pub mod Told
