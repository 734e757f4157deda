-- What clients see of a journal.
use Rattle.std.specs.Prelude.{List, [], Option, None}
use Rattle.contract_types.specs.Setup.{SetupState}
use Rattle.node_core.specs.declared.journal.Entry.{Entry}

-- what the table began with, and the entries since, the newest first
pub record JournalState : Type 0 where
  pub setup : Option SetupState
  pub past : List Entry

abbrev pub empty_journal : JournalState
empty_journal = record { setup = None; past = [] }
