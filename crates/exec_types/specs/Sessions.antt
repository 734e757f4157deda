-- Sessions: when two are the same, and with which a table begins.
use Rattle.std.specs.Prelude.{ℕ, Bool, ◌&&◌}
use Rattle.region_map.specs.declared.id.NodeId.{NodeId}
use Rattle.region_map.specs.Equal.{same_id}
use Rattle.contract_types.specs.Tables.{setup_id}
use Rattle.exec_types.specs.declared.message.SessionName.{SessionName}

abbrev pub same_session : SessionName → SessionName → Bool
same_session a b = same_id a.asked b.asked && same_id a.opened b.opened

-- the session of a secondary with a primary, in the shard of a place, with which a table begins
abbrev pub setup_session_name : ℕ → NodeId → NodeId → SessionName
setup_session_name place primary server = record { asked = setup_id place server; opened = setup_id place primary }
