pub use Rattle.change_runs.specs.raft_laws as raft_laws
pub use Rattle.change_runs.specs.runs as runs
