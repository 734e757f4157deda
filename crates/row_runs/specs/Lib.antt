pub use Rattle.path_runs.specs.runs as runs
