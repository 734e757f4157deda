-- Joining what was played with what was printed, and what the laws of runs say of a journal.
use Rattle.std.proofs.Common.{◌≡◌, ◌≤◌, ℕ, false, List, [], ◌++◌, Option, Some, None, refl, sym, ap, ◌∙◌, subst, ◌⊎◌, inl, inr, arith}
use Rattle.contract_types.specs.Setup.{SetupState, IsSetup}
use Rattle.contract_types.specs.declared.counts.Counts.{Counts}
use Rattle.exec_types.specs.declared.outcome.Outcome.TheVariants.{NoMajority}
use Rattle.world_core.specs.runs.write_dispatch.Dispatch.{are_majorities}
use Rattle.node_core.specs.declared.journal.Entry.{Entry}
use Rattle.node_core.specs.Journal.{JournalState}
use Rattle.script_text.specs.declared.status.Status.{Status}
use Rattle.script_text.specs.declared.status.Status.TheVariants as status
use Rattle.script_text.specs.Script.{ScriptState}
use Rattle.script_text.specs.Lines.{Accepted}
use Rattle.contract_types.specs.declared.limits.Which.{Which}
use Rattle.register_laws.specs.declared.operation.OpId.{OpId}
use Rattle.report_text.specs.declared.ending.Refusal.{Refusal}
use Rattle.report_text.specs.Report.{report, joined}
use Rattle.world_core.specs.runs.Run.{IsRun}
use Rattle.world_core.specs.runs.Answers.{answers_to}
use Rattle.world_core.specs.runs.Story.{IsRegisterStory, answer, story}
use Rattle.answer_runs.proofs.Once.{once_answered}
use Rattle.answer_runs.proofs.OnceGivenUp.{given_up_short}
use Rattle.world_core.proofs.path_runs.AllStories.{run_stories}
use Rattle.table_play.specs.Play.{Played, play_journal, ending_of}
use Rattle.table_play.specs.Steps.{played_by}
use Rattle.table_play.specs.Headline.{Ends, Wants, WantsUnsaid, Says, plays, status_of, IsRunFrom, IsRunJournal}

-- the journal of a script that was played to its end, or to a limit
abbrev pub journal_of : ScriptState → List Entry → JournalState
journal_of script past = record { setup = Some script.setup; past = past }

-- what was printed of what was played
abbrev pub Printed : ScriptState → Played → Status → Option (List ℕ) → Option (List ℕ) → ℕ → ℕ → Type 0
Printed script p result h h' f f' =
    Says (status_of p.met) (joined (report script.setup script.items p.past p.down p.refused (ending_of p.met))) result h h' f f'
    ⊎ WantsUnsaid result h h'

pub script_ends : (script : ScriptState) (past : List Entry) (lost : List ℕ) (down : List OpId) (refused : List Refusal) (met : Option Which) (result : Status) (h h' : Option (List ℕ)) (f f' : ℕ)
    → played_by past lost down refused met ≡ play_journal script.setup script.items → Printed script (played_by past lost down refused met) result h h' f f'
    → Ends (plays script) result (journal_of script past) h h' f f' ⊎ Wants (Accepted script) result (journal_of script past) h h'
script_ends script past lost down refused met result h h' f f' e printed =
    elim (subst (λ (p : Played). Printed script p result h h' f f') e printed) [
      | inl says' ↦ inl (record { journal_is = λ i. record { setup = Some script.setup; past = (e i).past }; says = says' })
      | inr wants ↦ inr (record { status_is = wants.0; nothing_written = wants.1; played = inr (script, refl, (refl, ([], sym (ap (λ (p : Played). p.past) e)))) })
    ]

-- memory was wanted while the script was played
pub script_wants : (script : ScriptState) (past : List Entry) (held : Option (List ℕ)) → (later : List Entry) × ((play_journal script.setup script.items).past ≡ later ++ past)
    → Wants (Accepted script) status.OutOfMemory (journal_of script past) held held
script_wants script past held part = record { status_is = refl; nothing_written = refl; played = inr (script, refl, (refl, part)) }

-- the entries of a journal that has a setup are a run of it, and a table may begin with it
pub journal_run : (journal : JournalState) → IsRunJournal journal → (setup : SetupState) → journal.setup ≡ Some setup → IsSetup setup × IsRun setup journal.past
journal_run journal h setup e = subst (λ (o : Option SetupState). IsRunFrom o journal.past) e h

-- each key's story in such a journal
pub journal_story : (journal : JournalState) → IsRunJournal journal → (setup : SetupState) (key : List ℕ) → journal.setup ≡ Some setup → IsRegisterStory setup journal.past key (story setup journal.past key)
journal_story journal h setup key e = let r = journal_run journal h setup e in run_stories setup r.0 journal.past r.1 key

-- a journal without a setup has no entries
once_of : (setup : Option SetupState) (past : List Entry) → IsRunFrom setup past → (op : OpId) → answers_to past op ≤ 1
once_of None past h op = subst (λ (p : List Entry). answers_to p op ≤ 1) (sym h) (omega arith)
once_of (Some setup) past h op = once_answered setup h.0 past h.1 op

-- no operation is answered twice in such a journal
pub journal_once : (journal : JournalState) → IsRunJournal journal → (op : OpId) → answers_to journal.past op ≤ 1
journal_once journal h op = once_of journal.setup journal.past h op

short_of : (setup : Option SetupState) (past : List Entry) → IsRunFrom setup past → (op : OpId) (counts : Counts) → answer past op ≡ Some (NoMajority counts) → are_majorities counts ≡ false
short_of None past h op counts a = let none : None ≡ Some (NoMajority counts) = sym (ap (λ (p : List Entry). answer p op) h) ∙ a in absurd (cc none)
short_of (Some setup) past h op counts a = given_up_short setup h.0 past h.1 op counts a

-- and no majority is one
pub journal_short : (journal : JournalState) → IsRunJournal journal → (op : OpId) (counts : Counts) → answer journal.past op ≡ Some (NoMajority counts) → are_majorities counts ≡ false
journal_short journal h op counts a = short_of journal.setup journal.past h op counts a
