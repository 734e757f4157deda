pub use Rattle.step_runs.specs.runs as runs
pub mod Done
pub mod Telling
