pub use Rattle.path_runs.specs.runs as runs
pub mod Synced
