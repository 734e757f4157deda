-- What a step weighs: a sum over the parts of its input and its outputs, which grows with the memory that these take.
use Rattle.std.specs.Prelude.{ℕ, ◌+◌, ◌-◌, ◌^◌, min, List, length, sum_by, Option, Some, None}
use Rattle.region_map.specs.declared.region.Region.{Region}
use Rattle.region_map.specs.Maps.{Pieced}
use Rattle.register_laws.specs.declared.operation.Op.{Op}
use Rattle.register_laws.specs.declared.operation.Op.TheVariants.{Put, Delete, Cas, Read}
use Rattle.register_laws.specs.declared.operation.Reply.{Reply}
use Rattle.register_laws.specs.declared.operation.Reply.TheVariants.{Was, Swapped, Kept}
use Rattle.raft_vote.specs.declared.log.LogEntry.{LogEntry}
use Rattle.raft_vote.specs.declared.message.RaftMessage.{RaftMessage}
use Rattle.raft_vote.specs.declared.message.RaftMessage.TheVariants.{VoteAsk, VoteSay, Append, AppendSay}
use Rattle.contract_types.specs.declared.ack.Ack.{Ack}
use Rattle.contract_types.specs.declared.ack.Ack.TheVariants.{NeedBranch, InProgress, Ready, NeedPrimary, Backfilling, Streaming}
use Rattle.contract_types.specs.declared.change.Change.{Change}
use Rattle.contract_types.specs.declared.change.Change.TheVariants.{Noop, SetConfig, NewContracts, RegisterBranch}
use Rattle.contract_types.specs.declared.config.ShardConfig.{ShardConfig}
use Rattle.contract_types.specs.declared.contract.Contract.{Contract}
use Rattle.contract_types.specs.declared.applied.Applied.{Applied}
use Rattle.exec_types.specs.declared.input.Input.{Input}
use Rattle.exec_types.specs.declared.input.Input.TheVariants.{Request, GiveUp, See, Tick, Deliver, Crash, Restart}
use Rattle.exec_types.specs.declared.message.Message.{Message}
use Rattle.exec_types.specs.declared.message.Message.TheVariants.{Raft, Say, Stream, Got}
use Rattle.exec_types.specs.declared.message.Part.{Part}
use Rattle.exec_types.specs.declared.message.Part.TheVariants.{Write, Sync}
use Rattle.exec_types.specs.declared.outcome.Outcome.{Outcome}
use Rattle.exec_types.specs.declared.outcome.Outcome.TheVariants.{Done, NotServing, NoMajority}
use Rattle.exec_types.specs.declared.output.Output.{Output}
use Rattle.exec_types.specs.declared.output.Output.TheVariants as output

-- a sum that passes the greatest number counts as that number
abbrev pub capped : ℕ → ℕ
capped n = min n (2 ^ 64 - 1)

-- ---- keys and values weigh their bytes

-- one that may be absent
abbrev pub bytes_weight : Option (List ℕ) → ℕ
bytes_weight None = 0
bytes_weight (Some bytes) = length bytes

-- the key bounds of a region
abbrev pub region_weight : Region → ℕ
region_weight r = bytes_weight r.from + bytes_weight r.to

abbrev pub piece_weight : {V : Type 0} → Region × V → ℕ
piece_weight p = 64 + region_weight p.0

abbrev pub map_weight : {V : Type 0} → Pieced V → ℕ
map_weight m = sum_by piece_weight m.pieces

abbrev pub op_weight : Op → ℕ
op_weight (Put value) = length value
op_weight Delete = 0
op_weight (Cas expect put) = bytes_weight expect + bytes_weight put
op_weight Read = 0

abbrev pub reply_weight : Reply → ℕ
reply_weight (Was value) = bytes_weight value
reply_weight Swapped = 0
reply_weight (Kept value) = bytes_weight value

-- ---- the changes of a table's log

abbrev pub shard_weight : ShardConfig → ℕ
shard_weight s = 256 + region_weight s.region

abbrev pub contract_weight : Contract → ℕ
contract_weight c = 256 + region_weight c.region

abbrev pub change_weight : Change → ℕ
change_weight Noop = 0
change_weight (SetConfig config) = sum_by shard_weight config.shards
change_weight (NewContracts removed added) = sum_by contract_weight added
change_weight (RegisterBranch branch region tenure maker based_on origin) = region_weight region + map_weight based_on + map_weight origin

abbrev pub log_entry_weight : LogEntry Change → ℕ
log_entry_weight e = 64 + change_weight e.change

-- a change that a node acted on
abbrev pub result_weight : Change × Applied → ℕ
result_weight r = 64 + change_weight r.0

-- ---- messages

abbrev pub log_message_weight : RaftMessage Change → ℕ
log_message_weight (VoteAsk term last_term last_index) = 0
log_message_weight (VoteSay term granted) = 0
log_message_weight (Append term prev_index prev_term entries commit) = sum_by log_entry_weight entries
log_message_weight (AppendSay term ok upto) = 0

abbrev pub ack_weight : Ack → ℕ
ack_weight (NeedBranch branch based_on origin) = map_weight based_on + map_weight origin
ack_weight InProgress = 0
ack_weight Ready = 0
ack_weight (NeedPrimary versions) = map_weight versions
ack_weight Backfilling = 0
ack_weight Streaming = 0

abbrev pub part_weight : Part → ℕ
part_weight (Write at key row) = length key + bytes_weight row.value
part_weight (Sync at) = 0

abbrev pub message_weight : Message → ℕ
message_weight (Raft message) = log_message_weight message
message_weight (Say contract ack) = ack_weight ack
message_weight (Stream stream) = part_weight stream.part
message_weight (Got got) = 0

-- ---- steps

abbrev pub outcome_weight : Outcome → ℕ
outcome_weight (Done reply branch timestamp) = reply_weight reply
outcome_weight NotServing = 0
outcome_weight (NoMajority counts) = 0

-- what an output holds
abbrev pub content_weight : Output → ℕ
content_weight (output.Message to message) = message_weight message
content_weight (output.Dispatched op key branch timestamp) = length key
content_weight (output.Viewed first results) = sum_by result_weight results
content_weight (output.Answer op outcome) = outcome_weight outcome

abbrev pub output_weight : Output → ℕ
output_weight o = 64 + content_weight o

abbrev pub input_weight : Input → ℕ
input_weight (Request op key what) = length key + op_weight what
input_weight (GiveUp op) = 0
input_weight (See other up) = 0
input_weight Tick = 0
input_weight (Deliver message) = 0
input_weight Crash = 0
input_weight Restart = 0

-- a step, with all its parts
abbrev pub full_weight : Input → List Output → ℕ
full_weight input outputs = 64 + input_weight input + sum_by output_weight outputs

-- what a step counts
unfoldable pub step_weight : Input → List Output → ℕ
step_weight input outputs = capped (full_weight input outputs)
