pub use Rattle.runs.specs as runs
