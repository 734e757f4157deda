pub use Rattle.path_runs.specs.runs as runs
pub mod Carried
pub mod Origins
pub mod Takings
pub mod Traced
