-- What a secondary has once it has applied a part.
use Rattle.std.specs.Prelude.{◌≡◌, ℕ, true, List, Some}
use Rattle.list_laws.specs.Members.{IsIn}
use Rattle.runs.specs.region_map.Maps.{Pieced}
use Rattle.runs.specs.branch_history.declared.version.Version.{Version}
use Rattle.runs.specs.store_api.Rows.{Rows, has_key, row_of}
use Rattle.runs.specs.store_api.Versions.{point, version_of}
use Rattle.runs.specs.exec_types.Parts.{timestamp_of}
use Rattle.runs.specs.exec_types.declared.message.Message.TheVariants.{Got}
use Rattle.runs.specs.exec_types.declared.message.Part.{Part}
use Rattle.runs.specs.exec_types.declared.message.Part.TheVariants.{Write, Sync}
use Rattle.runs.specs.exec_types.declared.message.Stream.{Stream}
use Rattle.runs.specs.exec_types.declared.output.Output.TheVariants.{Message}
use Rattle.runs.specs.secondary_exec.declared.following.Following.{Following}
use Rattle.runs.specs.node_core.Step.{NodeState, Stepped}

-- each key of the region stands at the following's position
abbrev pub StandsThere : Pieced Version → Following → Type 0
StandsThere versions f = (key : List ℕ) → has_key f.region versions.hashes key ≡ true → version_of versions key ≡ Some (point f.branch f.position)

-- the key of a part has the row that the part brings
abbrev pub HasRow : Rows → ℕ → Following → Part → Type 0
HasRow rows hashes f (Write at key row) = has_key f.region hashes key ≡ true → row_of rows key ≡ Some row
HasRow rows hashes f (Sync at) = Unit {0}

-- a following after it applied a part
abbrev pub after_part : Following → Stream → Following
after_part f stream = record f { got = stream.number; position = timestamp_of stream.part }

-- a step applied a part at a following: the following has it, each key of its region stands there with the part's row, and its primary
-- is told so
pub record IsApplied (s : NodeState) (step : Stepped) (f : Following) (stream : Stream) : Type 0 where
  pub follows : IsIn step.node.followings (after_part f stream)
  pub stands : StandsThere step.node.versions (after_part f stream)
  pub row : HasRow step.node.rows step.node.versions.hashes f stream.part
  pub told : IsIn step.outs (Message f.primary (Got (record { session = f.session; upto = stream.number; stands = Some (timestamp_of stream.part); view = s.log.acted })))
