pub use Rattle.step_runs.proofs as step_runs
pub mod Branches
pub mod Keeping
pub mod Telling
pub mod Viewing
