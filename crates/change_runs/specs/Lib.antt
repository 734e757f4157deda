pub use Rattle.log_runs.specs.raft_laws as raft_laws
pub use Rattle.log_runs.specs.runs as runs
