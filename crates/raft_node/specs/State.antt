-- What clients see of a node of the log.
use Rattle.std.specs.Prelude.{ℕ, List, replicate}
use Rattle.region_map.specs.declared.id.NodeId.{NodeId}
use Rattle.raft_vote.specs.declared.log.LogEntry.{LogEntry}
use Rattle.raft_vote.specs.State.{VoteState}
use Rattle.raft_vote.specs.Rows.{all_nodes, started}
use Rattle.raft_append.specs.declared.peers.Progress.{Progress}
use Rattle.raft_append.specs.Peers.{fresh}
use Rattle.raft_node.specs.declared.kept.RaftKept.{RaftKept}

pub record RaftState (E : Type 0) : Type 0 where
  pub votes : VoteState
  pub log : List (LogEntry E)
  pub view : ℕ  -- how far it acts on the log
  pub peers : List Progress  -- of a leader

-- a node that comes up with what it kept
abbrev pub begun : {E : Type 0} → NodeId → ℕ → RaftKept E → RaftState E
begun me nodes kept =
    record {
      votes = started me (all_nodes nodes) kept.term kept.vote;
      log = kept.log;
      view = kept.view;
      peers = replicate nodes (fresh 1);
    }

-- what a node keeps
abbrev pub kept_of : {E : Type 0} → RaftState E → RaftKept E
kept_of s = record { term = s.votes.term; vote = s.votes.vote; log = s.log; view = s.view }
