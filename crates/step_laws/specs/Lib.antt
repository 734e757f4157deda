pub use Rattle.runs.specs as runs
pub mod Begins
pub mod Counting
pub mod Follows
pub mod Outs
