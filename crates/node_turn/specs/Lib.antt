pub use Rattle.runs.specs as runs
pub mod Chances
pub mod Outcomes
pub mod Search
pub mod Turn
