-- What `play` promises: the status, the journal and the bytes that are written, from the words and the bytes that are read.
use Rattle.std.specs.Prelude.{◌≡◌, ℕ, ◌<◌, ◌≤◌, Bool, true, false, ◌⊎◌, List, [], ◌∷◌, ◌++◌, length, take, codes, bytes_eq, Option, Some, None, IsTrue}
use Rattle.contract_types.specs.declared.limits.Which.{Which}
use Rattle.contract_types.specs.declared.limits.Which.TheVariants.{ScriptBytes, LineBytes}
use Rattle.line_io.specs.Bytes.{Gives, Appends, IsAtEnd}
use Rattle.line_io.specs.Counts.{rose}
use Rattle.contract_types.specs.Setup.{SetupState, IsSetup}
use Rattle.world_core.specs.runs.Run.{IsRun}
use Rattle.node_core.specs.declared.journal.Entry.{Entry}
use Rattle.node_core.specs.Journal.{JournalState, empty_journal}
use Rattle.script_text.specs.declared.status.Status.{Status}
use Rattle.script_text.specs.declared.status.Status.TheVariants as status
use Rattle.script_text.specs.Script.{ScriptState}
use Rattle.script_text.specs.Lines.{ScriptRead, Accepted, Refused, TooLong, most_line_bytes, read_lines}
use Rattle.report_text.specs.Report.{report, joined, usage_line, read_fault_line, script_line, limit_line}
use Rattle.table_play.specs.Play.{play_journal, ending_of, number_of}

-- the one command
abbrev pub is_command : List (List ℕ) → Bool
is_command [] = false
is_command (word ∷ []) = bytes_eq word (codes "play")
is_command (word ∷ next ∷ words) = false

-- the most bytes of a script
abbrev pub most_script_bytes : ℕ
most_script_bytes = 16777216

-- what came of reading the script
pub data Reading : Type 0 where
  Came : List ℕ → Reading
  Faulted : Reading
  Exceeded : Reading

-- how the source tells of a reading: what is left in it before and after, and its counts of faults
abbrev pub IsReading : Reading → Option (List ℕ) → Option (List ℕ) → ℕ → ℕ → Type 0
IsReading (Came text) before after faults faults' = Gives before text after × IsAtEnd after × (length text ≤ most_script_bytes)
IsReading Faulted before after faults faults' = IsTrue (rose faults faults')
IsReading Exceeded before after faults faults' = (came : List ℕ) × Gives before came after × (most_script_bytes < length came)

-- the status, the journal and the text of a call that meets no fault of its sink and no want of memory
pub record Outcome : Type 0 where
  pub status : Status
  pub journal : JournalState
  pub text : List ℕ

-- nothing was played
abbrev pub only_says : Status → List ℕ → Outcome
only_says s text = record { status = s; journal = empty_journal; text = text }

abbrev pub status_of : Option Which → Status
status_of None = status.Ok
status_of (Some which) = status.Limit which (number_of which)

-- the journal is the play journal of the script, and the text its report
abbrev pub plays : ScriptState → Outcome
plays script =
    let p = play_journal script.setup script.items in
    record {
      status = status_of p.met;
      journal = record { setup = Some script.setup; past = p.past };
      text = joined (report script.setup script.items p.past p.down p.refused (ending_of p.met));
    }

abbrev pub outcome_of_script : ScriptRead → Outcome
outcome_of_script (Accepted script) = plays script
outcome_of_script (Refused line reason) = only_says (status.Script line reason) (script_line line reason)
outcome_of_script TooLong = only_says (status.Limit LineBytes most_line_bytes) (limit_line LineBytes most_line_bytes)

abbrev pub outcome_of : Reading → Outcome
outcome_of (Came text) = outcome_of_script (read_lines text)
outcome_of Faulted = only_says status.ReadFault read_fault_line
outcome_of Exceeded = only_says (status.Limit ScriptBytes most_script_bytes) (limit_line ScriptBytes most_script_bytes)

abbrev pub outcome_of_words : Outcome
outcome_of_words = only_says status.Usage usage_line

-- the text was appended whole, with the status; or a fault of the sink kept all but a prefix of it
abbrev pub Says : Status → List ℕ → Status → Option (List ℕ) → Option (List ℕ) → ℕ → ℕ → Type 0
Says s text result held held' faults faults' =
    ((result ≡ s) × Appends held text held')
    ⊎ ((result ≡ status.WriteFault) × IsTrue (rose faults faults') × ((n : ℕ) × (n ≤ length text) × Appends held (take n text) held'))

-- a call that did what its outcome says
pub record Ends (o : Outcome) (result : Status) (journal : JournalState) (held held' : Option (List ℕ)) (faults faults' : ℕ) : Type 0 where
  pub journal_is : journal ≡ o.journal
  pub says : Says o.status o.text result held held' faults faults'

-- memory was wanted before anything was written
abbrev pub WantsUnsaid : Status → Option (List ℕ) → Option (List ℕ) → Type 0
WantsUnsaid result held held' = (result ≡ status.OutOfMemory) × (held' ≡ held)

-- a journal that holds what was played so far of a script that was read
abbrev pub IsPartOf : JournalState → ScriptState → Type 0
IsPartOf journal script = (journal.setup ≡ Some script.setup) × ((later : List Entry) × ((play_journal script.setup script.items).past ≡ later ++ journal.past))

-- a call that wanted memory once the script was read: nothing was written, and nothing played or a part of that script
pub record Wants (said : ScriptRead) (result : Status) (journal : JournalState) (held held' : Option (List ℕ)) : Type 0 where
  pub status_is : result ≡ status.OutOfMemory
  pub nothing_written : held' ≡ held
  pub played : (journal ≡ empty_journal) ⊎ ((script : ScriptState) × (said ≡ Accepted script) × IsPartOf journal script)

-- the same, of what came of reading
abbrev pub WantsOf : Reading → Status → JournalState → Option (List ℕ) → Option (List ℕ) → Type 0
WantsOf (Came text) result journal held held' = Wants (read_lines text) result journal held held'
WantsOf Faulted result journal held held' = ⊥
WantsOf Exceeded result journal held held' = ⊥

-- a call that wanted memory before anything was played
pub record WantsFirst (result : Status) (journal : JournalState) (held held' : Option (List ℕ)) : Type 0 where
  pub status_is : result ≡ status.OutOfMemory
  pub nothing_written : held' ≡ held
  pub nothing_played : journal ≡ empty_journal

-- the words are no command, and the source was left as it was; or they are, and the outcome is that of what was read, or memory was
-- wanted on the way; or memory was wanted before
abbrev pub IsPlay : List (List ℕ) → Status → JournalState → Option (List ℕ) → Option (List ℕ) → ℕ → ℕ → Option (List ℕ) → Option (List ℕ) → ℕ → ℕ → Type 0
IsPlay words result journal left left' faults faults' held held' writes writes' =
    ((is_command words ≡ false) × (left' ≡ left) × (faults' ≡ faults) × Ends outcome_of_words result journal held held' writes writes')
    ⊎ (((is_command words ≡ true) × ((r : Reading) × IsReading r left left' faults faults' × (Ends (outcome_of r) result journal held held' writes writes' ⊎ WantsOf r result journal held held')))
    ⊎ ((is_command words ≡ true) × WantsFirst result journal held held'))

-- a table may begin with the setup of a journal, where it has one, and from there the entries are a run
abbrev pub IsRunFrom : Option SetupState → List Entry → Type 0
IsRunFrom None past = past ≡ []
IsRunFrom (Some setup) past = IsSetup setup × IsRun setup past

abbrev pub IsRunJournal : JournalState → Type 0
IsRunJournal journal = IsRunFrom journal.setup journal.past
