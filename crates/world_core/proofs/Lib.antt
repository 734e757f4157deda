pub use Rattle.path_runs.proofs as path_runs
