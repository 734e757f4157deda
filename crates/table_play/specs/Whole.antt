-- What a call owes where its source and its sink tell their bytes and meet no fault.
use Rattle.std.specs.Prelude.{◌≡◌, ℕ, nat_le, ◌++◌, List, length, if◌then◌else◌}
use Rattle.node_core.specs.Journal.{JournalState}
use Rattle.script_text.specs.declared.status.Status.{Status}
use Rattle.script_text.specs.Lines.{read_lines}
use Rattle.table_play.specs.Headline.{Outcome, most_script_bytes, outcome_of, outcome_of_script, Exceeded}

-- what comes of a text, as a function of it
abbrev pub outcome_of_text : List ℕ → Outcome
outcome_of_text text = if nat_le (length text) most_script_bytes then outcome_of_script (read_lines text) else outcome_of Exceeded

-- the status, the journal and the whole text of an outcome
pub record IsWhole (o : Outcome) (result : Status) (journal : JournalState) (held held' : List ℕ) : Type 0 where
  pub status_is : result ≡ o.status
  pub journal_is : journal ≡ o.journal
  pub text_is : held' ≡ held ++ o.text
