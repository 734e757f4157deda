-- What a secondary does with a part of a stream.
use Rattle.std.specs.Prelude.{ℕ, ◌==◌, ◌+◌, ◌^◌, Bool, ◌&&◌, not, nat_lt, nat_le, List, [], ◌∷◌, Some, if◌then◌else◌}
use Rattle.region_map.specs.declared.id.NodeId.{NodeId}
use Rattle.exec_types.specs.Parts.{timestamp_of, effect_of}
use Rattle.exec_types.specs.Sessions.{same_session, setup_session_name}
use Rattle.exec_types.specs.declared.message.Stream.{Stream}
use Rattle.exec_types.specs.declared.output.Output.{Output}
use Rattle.exec_types.specs.declared.message.Message.TheVariants as message
use Rattle.exec_types.specs.declared.output.Output.TheVariants.{Message}
use Rattle.region_map.specs.Maps.{Pieced}
use Rattle.branch_history.specs.declared.version.Version.{Version}
use Rattle.contract_types.specs.declared.contract.Contract.{Contract}
use Rattle.contract_types.specs.Tables.{setup_id}
use Rattle.store_api.specs.Rows.{Rows}
use Rattle.store_api.specs.Versions.{advanced_rows, advanced_map}
use Rattle.secondary_exec.specs.declared.following.Following.{Following}

-- a secondary after its row, the rows and the versions of its node, and what it gave
pub record FollowingStep : Type 0 where
  pub following : Following
  pub rows : Rows
  pub versions : Pieced Version
  pub outs : List Output

-- what a secondary begins with, in the shard of a place: it is joined, and has the first part of its session
abbrev pub setup_following : Contract → NodeId → NodeId → ℕ → Following
setup_following contract primary me place =
    record {
      primary = primary;
      region = contract.region;
      branch = setup_id place primary;
      session = setup_session_name place primary me;
      got = 1;
      position = 0;
    }

-- how far the secondary came, as it tells the primary
abbrev pub acknowledgement : Following → ℕ → Output
acknowledgement f view =
    Message f.primary (message.Got (record { session = f.session; upto = f.got; stands = Some f.position; view = view }))

-- the next part was applied
abbrev pub applied : Following → Stream → Following
applied f stream = record f { got = stream.number; position = timestamp_of stream.part }

-- whether the part is the session's next one; as every next part it lies above the position
abbrev pub is_next : Following → Stream → Bool
is_next f stream = (stream.number == f.got + 1) && nat_lt f.position (timestamp_of stream.part)

-- whether the part comes from the primary in the session
abbrev pub is_ours : Following → NodeId → Stream → Bool
is_ours f from stream = (from.0 == f.primary.0) && same_session stream.session f.session

abbrev pub quiet : Following → Rows → Pieced Version → FollowingStep
quiet f rows versions = record { following = f; rows = rows; versions = versions; outs = [] }

-- the next part brings the region to its timestamp, with its row
abbrev pub apply_part : Following → Rows → Pieced Version → Stream → ℕ → FollowingStep
apply_part f rows versions stream view =
    record {
      following = applied f stream;
      rows = advanced_rows (effect_of stream.part) f.region f.branch (timestamp_of stream.part) versions rows;
      versions = advanced_map f.region f.branch (timestamp_of stream.part) versions;
      outs = acknowledgement (applied f stream) view ∷ [];
    }

abbrev pub take_part : Following → Rows → Pieced Version → Stream → ℕ → FollowingStep
take_part f rows versions stream view =
    if nat_le stream.number f.got then record { following = f; rows = rows; versions = versions; outs = acknowledgement f view ∷ [] }
    else if is_next f stream then apply_part f rows versions stream view
    else quiet f rows versions

-- the next part is applied and acknowledged, an earlier one acknowledged again, any other does nothing
abbrev pub stream_row : Following → Rows → Pieced Version → NodeId → Stream → ℕ → FollowingStep
stream_row f rows versions from stream view = if is_ours f from stream then take_part f rows versions stream view else quiet f rows versions

-- the part that it would apply has a number that no part reaches
abbrev pub stream_ends_numbers : Following → NodeId → Stream → Bool
stream_ends_numbers f from stream = is_ours f from stream && not (nat_le stream.number f.got) && is_next f stream && nat_le (2 ^ 62) stream.number
