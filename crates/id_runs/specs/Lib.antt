pub use Rattle.lead_runs.specs.raft_laws as raft_laws
pub use Rattle.lead_runs.specs.runs as runs
