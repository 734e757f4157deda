pub use Rattle.branch_history.specs as branch_history
pub use Rattle.contract_types.specs as contract_types
pub use Rattle.coordinator.specs as coordinator
pub use Rattle.exec_types.specs as exec_types
pub use Rattle.list_laws.specs as list_laws
pub use Rattle.node_core.specs as node_core
pub use Rattle.primary_exec.specs as primary_exec
pub use Rattle.raft_node.specs as raft_node
pub use Rattle.raft_vote.specs as raft_vote
pub use Rattle.region_map.specs as region_map
pub use Rattle.register_laws.specs as register_laws
pub mod Keys
pub mod Move
pub mod Parts
pub mod Says
pub mod Sends
pub use Rattle.secondary_exec.specs as secondary_exec
pub use Rattle.store_api.specs as store_api
pub use Rattle.table_log.specs as table_log
pub use Rattle.write_dispatch.specs as write_dispatch
