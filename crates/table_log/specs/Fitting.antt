-- Which changes the log of a table may hold.
use Rattle.std.specs.Prelude.{ℕ, ◌==◌, Bool, true, List, map}
use Rattle.std.specs.List.{list_all}
use Rattle.region_map.specs.declared.id.NodeId.{NodeId}
use Rattle.raft_vote.specs.declared.log.LogEntry.{LogEntry}
use Rattle.raft_vote.specs.declared.message.RaftMessage.{RaftMessage}
use Rattle.raft_vote.specs.declared.message.RaftMessage.TheVariants.{VoteAsk, VoteSay, Append, AppendSay}
use Rattle.raft_node.specs.declared.input.RaftInput.{RaftInput}
use Rattle.raft_node.specs.declared.input.RaftInput.TheVariants.{Tick, Deliver}
use Rattle.contract_types.specs.declared.change.Change.{Change}
use Rattle.contract_types.specs.declared.change.Change.TheVariants.{Noop, SetConfig, NewContracts, RegisterBranch}

-- the changes of entries
abbrev pub changes_of : List (LogEntry Change) → List Change
changes_of log = map (λ e. e.change) log

-- the maps that a change brings have as many hashes as the table
abbrev pub fits : ℕ → Change → Bool
fits hashes Noop = true
fits hashes (SetConfig config) = config.hashes == hashes
fits hashes (NewContracts removed added) = true
fits hashes (RegisterBranch branch region tenure maker based_on origin) = origin.hashes == hashes

abbrev pub log_fits : ℕ → List (LogEntry Change) → Bool
log_fits hashes log = list_all (λ e. fits hashes e.change) log

abbrev pub message_fits : ℕ → RaftMessage Change → Bool
message_fits hashes (VoteAsk term last_term last_index) = true
message_fits hashes (VoteSay term granted) = true
message_fits hashes (Append term prev prev_term entries commit) = log_fits hashes entries
message_fits hashes (AppendSay term ok upto) = true

abbrev pub input_fits : ℕ → RaftInput Change → Bool
input_fits hashes (Tick unseen) = true
input_fits hashes (Deliver from message) = message_fits hashes message

-- what is sent brings changes that fit
abbrev pub sent_fits : ℕ → List (NodeId × RaftMessage Change) → Bool
sent_fits hashes sent = list_all (λ m. message_fits hashes m.1) sent
