-- What nodes act on of the log, at the moments of a run.
use Rattle.std.specs.Prelude.{◌≡◌, ℕ, ◌==◌, List, [], ◌∷◌, ◌++◌, take, if◌then◌else◌}
use Rattle.raft_vote.specs.declared.log.LogEntry.{LogEntry}
use Rattle.contract_types.specs.declared.change.Change.{Change}
use Rattle.contract_types.specs.declared.applied.Applied.{Applied}
use Rattle.exec_types.specs.declared.output.Output.{Output}
use Rattle.exec_types.specs.declared.output.Output.TheVariants.{Message, Dispatched, Viewed, Answer}
use Rattle.node_core.specs.declared.journal.Entry.{Entry}
use Rattle.node_core.specs.Step.{NodeState}

-- the entries of the log that a node acts on
abbrev pub committed : NodeState → List (LogEntry Change)
committed s = take s.log.acted s.log.raft.log

-- a journal as it stood at some moment
pub record IsEarlier (past earlier : List Entry) : Type 0 where
  pub later : List Entry
  pub is : past ≡ later ++ earlier

-- the changes that a node acted on, each with what became of it, as its outputs tell
abbrev pub viewed_in : List Output → List (Change × Applied)
viewed_in [] = []
viewed_in (Message to message ∷ outs) = viewed_in outs
viewed_in (Dispatched op key branch timestamp ∷ outs) = viewed_in outs
viewed_in (Viewed first results ∷ outs) = results ++ viewed_in outs
viewed_in (Answer op outcome ∷ outs) = viewed_in outs

abbrev pub viewed_by : ℕ → List Entry → List (Change × Applied)
viewed_by n [] = []
viewed_by n (e ∷ past) = if e.node.0 == n then viewed_by n past ++ viewed_in e.outputs else viewed_by n past
