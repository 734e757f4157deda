pub use Rattle.id_runs.specs.runs as runs
