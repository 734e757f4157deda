-- Which versions a message carries, and which ones a change of the log.
use Rattle.std.specs.Prelude.{◌≡◌, ◌⊎◌, ℕ, List, Some}
use Rattle.path_runs.specs.runs.region_map.declared.id.Id.{Id}
use Rattle.path_runs.specs.runs.region_map.Maps.{Pieced, value_at}
use Rattle.path_runs.specs.runs.branch_history.declared.version.Version.{Version}
use Rattle.path_runs.specs.runs.raft_vote.declared.log.LogEntry.{LogEntry}
use Rattle.path_runs.specs.runs.raft_vote.declared.message.RaftMessage.{RaftMessage}
use Rattle.path_runs.specs.runs.raft_vote.declared.message.RaftMessage.TheVariants.{VoteAsk, VoteSay, Append, AppendSay}
use Rattle.path_runs.specs.runs.contract_types.Setup.{SetupState}
use Rattle.path_runs.specs.runs.contract_types.declared.ack.Ack.{Ack}
use Rattle.path_runs.specs.runs.contract_types.declared.ack.Ack.TheVariants.{NeedBranch, InProgress, Ready, NeedPrimary, Backfilling, Streaming}
use Rattle.path_runs.specs.runs.contract_types.declared.change.Change.{Change}
use Rattle.path_runs.specs.runs.contract_types.declared.change.Change.TheVariants.{Noop, SetConfig, NewContracts, RegisterBranch}
use Rattle.path_runs.specs.runs.exec_types.Parts.{timestamp_of}
use Rattle.path_runs.specs.runs.exec_types.declared.message.Message.{Message}
use Rattle.path_runs.specs.runs.exec_types.declared.message.Message.TheVariants as message
use Rattle.path_runs.specs.runs.exec_types.declared.message.SessionName.{SessionName}
use Rattle.path_runs.specs.runs.store_api.Versions.{point}
use Rattle.path_runs.specs.runs.primary_exec.Execution.{Execution}
use Rattle.path_runs.specs.runs.primary_exec.declared.session.Session.{Session}
use Rattle.path_runs.specs.runs.secondary_exec.declared.following.Following.{Following}
use Rattle.path_runs.specs.runs.node_core.declared.journal.Entry.{Entry}
use Rattle.path_runs.specs.runs.node_core.Step.{NodeState}
use Rattle.path_runs.specs.runs.Committed.{IsEarlier}
use Rattle.path_runs.specs.runs.Run.{state}
use Rattle.path_runs.specs.runs.Story.{IsIn}

-- ---- maps

-- a map has the version at some pair of a hash and a byte list
pub record Gives (m : Pieced Version) (version : Version) : Type 0 where
  pub hash : ℕ
  pub key : List ℕ
  pub is : value_at m.pieces hash key ≡ Some version

-- ---- changes and acks

-- the branch that a change registers goes on from the version
abbrev pub GivesOrigin : Change → Version → Type 0
GivesOrigin Noop version = ⊥
GivesOrigin (SetConfig config) version = ⊥
GivesOrigin (NewContracts removed added) version = ⊥
GivesOrigin (RegisterBranch branch region tenure maker based_on origin) version = Gives origin version

-- one of some entries of the log holds such a change
pub record HasOrigin (entries : List (LogEntry Change)) (version : Version) : Type 0 where
  pub entry : LogEntry Change
  pub is_in : IsIn entries entry
  pub gives : GivesOrigin entry.change version

abbrev pub RaftCarries : RaftMessage Change → Version → Type 0
RaftCarries (VoteAsk term last_term last_index) version = ⊥
RaftCarries (VoteSay term granted) version = ⊥
RaftCarries (Append term prev prev_term entries commit) version = HasOrigin entries version
RaftCarries (AppendSay term ok upto) version = ⊥

abbrev pub Reports : Ack → Version → Type 0
Reports (NeedBranch branch based_on origin) version = Gives origin version
Reports InProgress version = ⊥
Reports Ready version = ⊥
Reports (NeedPrimary versions) version = Gives versions version
Reports Backfilling version = ⊥
Reports Streaming version = ⊥

-- ---- sessions

-- an execution of a node has a session of this name
pub record Streams (s : NodeState) (name : SessionName) (branch : Id) : Type 0 where
  pub execution : Execution
  pub is_in : IsIn s.executions execution
  pub session : Session
  pub has : IsIn execution.sessions session
  pub name_is : session.name ≡ name
  pub branch_is : execution.branch ≡ branch

-- a following of a node is joined in it
pub record Joins (s : NodeState) (name : SessionName) (branch : Id) : Type 0 where
  pub following : Following
  pub is_in : IsIn s.followings following
  pub name_is : following.session ≡ name
  pub branch_is : following.branch ≡ branch

-- at some moment a session of this name brought the points of a branch
pub record IsSessionOf (setup : SetupState) (past : List Entry) (name : SessionName) (branch : Id) : Type 0 where
  pub moment : List Entry
  pub earlier : IsEarlier past moment
  pub node : ℕ
  pub is : Streams (state setup node moment) name branch ⊎ Joins (state setup node moment) name branch

-- a message is of no session, or of one that was there
abbrev pub IsInSession : SetupState → List Entry → Message → Type 0
IsInSession setup past (message.Raft m) = Unit {0}
IsInSession setup past (message.Say contract ack) = Unit {0}
IsInSession setup past (message.Stream stream) = (branch : Id) × IsSessionOf setup past stream.session branch
IsInSession setup past (message.Got got) = (branch : Id) × IsSessionOf setup past got.session branch

-- ---- messages

-- a timestamp in a message of a session is one of the session's branch
pub record CarriesAt (setup : SetupState) (past : List Entry) (name : SessionName) (at : ℕ) (version : Version) : Type 0 where
  pub branch : Id
  pub session : IsSessionOf setup past name branch
  pub version_is : version ≡ point branch at

-- a message carries a version
abbrev pub Carries : SetupState → List Entry → Message → Version → Type 0
Carries setup past (message.Raft m) version = RaftCarries m version
Carries setup past (message.Say contract ack) version = Reports ack version
Carries setup past (message.Stream stream) version = CarriesAt setup past stream.session (timestamp_of stream.part) version
Carries setup past (message.Got got) version = (at : ℕ) × (got.stands ≡ Some at) × CarriesAt setup past got.session at version
