pub use Rattle.raft_laws.specs as raft_laws
pub use Rattle.step_runs.specs.runs as runs
