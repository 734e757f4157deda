pub use Rattle.branch_history.proofs as branch_history
pub use Rattle.list_laws.proofs as list_laws
pub use Rattle.region_map.proofs as region_map
pub use Rattle.store_api.proofs as store_api
pub use Rattle.table_apply.proofs as table_apply
pub use Rattle.table_log.proofs as table_log
pub use Rattle.write_dispatch.proofs as write_dispatch
