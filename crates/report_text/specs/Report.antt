-- The report: one line a fact, each ending with LF.
use Rattle.std.specs.Prelude.{ℕ, ◌+◌, ◌==◌, Bool, codes, List, [], ◌∷◌, ◌++◌, length, map, Option, Some, None, if◌then◌else◌}
use Rattle.std.specs.List.{list_any}
use Rattle.std.specs.Fmt.{decimal}
use Rattle.std.specs.Str.{is_utf8}
use Rattle.std.specs.Ordering.{nat_cmp}
use Rattle.std.specs.Cmp.Lexicographic.{slice_cmp}
use Rattle.std.specs.BTreeSet.{insert_key}
use Rattle.serde_json.specs.Data.{string}
use Rattle.serde_json.specs.Written.{compact_text}
use Rattle.region_map.specs.declared.id.Id.{Id}
use Rattle.register_laws.specs.declared.operation.OpId.{OpId}
use Rattle.register_laws.specs.declared.operation.Reply.{Reply}
use Rattle.register_laws.specs.declared.operation.Reply.TheVariants.{Was, Swapped, Kept}
use Rattle.register_laws.specs.declared.operation.Told.{Told}
use Rattle.contract_types.specs.Setup.{SetupState}
use Rattle.contract_types.specs.declared.change.Change.{Change}
use Rattle.contract_types.specs.declared.counts.Counts.{Counts}
use Rattle.contract_types.specs.declared.limits.Which.{Which}
use Rattle.contract_types.specs.declared.limits.Which.TheVariants.{ScriptBytes, LineBytes, JournalEntries, JournalWeight, Numbers}
use Rattle.contract_types.specs.declared.applied.Applied.{Applied}
use Rattle.contract_types.specs.declared.applied.Applied.TheVariants.{Taken, Skipped}
use Rattle.contract_types.specs.declared.applied.Condition.{Condition}
use Rattle.contract_types.specs.declared.applied.Condition.TheVariants.{Removed, Regions, Primary, IdNew, Tenure, BasedOn}
use Rattle.exec_types.specs.declared.outcome.Outcome.{Outcome}
use Rattle.exec_types.specs.declared.outcome.Outcome.TheVariants.{Done, NotServing, NoMajority}
use Rattle.node_core.specs.declared.journal.Entry.{Entry}
use Rattle.journal_story.specs.runs.Run.{is_requested}
use Rattle.journal_story.specs.runs.Latest.{longest}
use Rattle.journal_story.specs.runs.Story.{answer, story}
use Rattle.script_text.specs.declared.script.ScriptWord.{ScriptWord}
use Rattle.script_text.specs.declared.script.ScriptWord.TheVariants.{Request, GiveUp, See, Crash, Restart, Tick, Deliver, Lose, LoseBetween, Flush, Settle}
use Rattle.script_text.specs.declared.script.ScriptItem.{ScriptItem}
use Rattle.script_text.specs.declared.status.Reason.{Reason}
use Rattle.script_text.specs.Statuses.{reason_text}
use Rattle.report_text.specs.declared.ending.EventRefused.{EventRefused}
use Rattle.report_text.specs.declared.ending.EventRefused.TheVariants.{Down, Up, NoSuchMessage, NotYours}
use Rattle.report_text.specs.declared.ending.Refusal.{Refusal}
use Rattle.report_text.specs.declared.ending.Ending.{Ending}
use Rattle.report_text.specs.declared.ending.Ending.TheVariants.{End, Limit}

abbrev pub Text : Type 0
Text = List ℕ

-- a line of these bytes
abbrev pub ended : Text → Text
ended text = text ++ 10 ∷ []

-- ---- values

-- a text that is UTF-8 as its JSON string
abbrev pub bytes_text : Text → Text
bytes_text bytes = if is_utf8 bytes then compact_text (string bytes) else codes "bytes"

abbrev pub value_text : Option Text → Text
value_text None = codes "none"
value_text (Some bytes) = bytes_text bytes

abbrev pub reply_text : Reply → Text
reply_text (Was value) = value_text value
reply_text Swapped = codes "swapped"
reply_text (Kept value) = codes "kept " ++ value_text value

abbrev pub id_text : Id → Text
id_text id = decimal id.node.0 ++ codes "." ++ decimal id.life ++ codes "." ++ decimal id.counter

-- ---- operations

abbrev pub pair_text : ℕ → ℕ → Text
pair_text counted of = decimal counted ++ codes " of " ++ decimal of

abbrev pub temp_text : Option (ℕ × ℕ) → Text
temp_text None = []
temp_text (Some c) = codes " temp " ++ pair_text c.0 c.1

abbrev pub counts_text : Counts → Text
counts_text counts = codes "voters " ++ pair_text counts.voters counts.of ++ temp_text counts.temp

-- what became of an operation that was answered
abbrev pub outcome_text : Outcome → Text
outcome_text (Done reply branch timestamp) = codes "done " ++ reply_text reply ++ codes " " ++ id_text branch ++ codes ":" ++ decimal timestamp
outcome_text NotServing = codes "unavailable not_serving"
outcome_text (NoMajority counts) = codes "unavailable no_majority " ++ counts_text counts

-- an operation that was not requested was refused by a node that was down, or was not sent
abbrev pub unasked_text : Bool → Text
unasked_text down = if down then codes "down" else codes "unsent"

-- an operation that was not answered is open where it was requested
abbrev pub fate_text : Option Outcome → Bool → Bool → Text
fate_text None requested down = if requested then codes "open" else unasked_text down
fate_text (Some outcome) requested down = outcome_text outcome

-- the operation is among those that were asked of a node that was down
abbrev pub is_down : List OpId → OpId → Bool
is_down down op = list_any (λ q. q.0 == op.0) down

abbrev pub op_line : List Entry → List OpId → OpId → Text
op_line past down op =
    ended (codes "op " ++ decimal op.0 ++ codes " " ++ fate_text (answer past op) (is_requested past op) (is_down down op))

-- the line of a word that asks for an operation, before others
abbrev pub with_op_line : List Entry → List OpId → ScriptWord → List Text → List Text
with_op_line past down (Request op node key what) rest = op_line past down op ∷ rest
with_op_line past down (GiveUp node op) rest = rest
with_op_line past down (See node other up) rest = rest
with_op_line past down (Crash node) rest = rest
with_op_line past down (Restart node) rest = rest
with_op_line past down (Tick node) rest = rest
with_op_line past down (Deliver message to) rest = rest
with_op_line past down (Lose message) rest = rest
with_op_line past down (LoseBetween from to) rest = rest
with_op_line past down (Flush only) rest = rest
with_op_line past down (Settle rounds only) rest = rest

abbrev pub op_lines : List Entry → List OpId → List ScriptItem → List Text
op_lines past down [] = []
op_lines past down (item ∷ items) = with_op_line past down item.word (op_lines past down items)

-- ---- refused events

abbrev pub event_refused_text : EventRefused → Text
event_refused_text Down = codes "down"
event_refused_text Up = codes "up"
event_refused_text NoSuchMessage = codes "no_such_message"
event_refused_text NotYours = codes "not_yours"

abbrev pub refusal_line : Refusal → Text
refusal_line refusal = ended (codes "refused " ++ decimal refusal.line ++ codes " " ++ event_refused_text refusal.reason)

-- ---- skipped changes

abbrev pub condition_text : Condition → Text
condition_text Removed = codes "removed"
condition_text Regions = codes "regions"
condition_text Primary = codes "primary"
condition_text IdNew = codes "id_new"
condition_text Tenure = codes "tenure"
condition_text BasedOn = codes "based_on"

abbrev pub skipped_line : ℕ → Condition → Text
skipped_line index condition = ended (codes "skipped " ++ decimal index ++ codes " " ++ condition_text condition)

abbrev pub with_skipped : ℕ → Applied → List Text → List Text
with_skipped index Taken rest = rest
with_skipped index (Skipped condition) rest = skipped_line index condition ∷ rest

-- the changes of a log that were skipped, of which the first has this index
abbrev pub skipped_lines : ℕ → List (Change × Applied) → List Text
skipped_lines index [] = []
skipped_lines index (r ∷ rs) = with_skipped index r.1 (skipped_lines (index + 1) rs)

-- ---- stories

-- the keys that the words name, with that of one more word, in rising order and each once
abbrev pub with_key : List Text → ScriptWord → List Text
with_key keys (Request op node key what) = insert_key (slice_cmp nat_cmp) keys key
with_key keys (GiveUp node op) = keys
with_key keys (See node other up) = keys
with_key keys (Crash node) = keys
with_key keys (Restart node) = keys
with_key keys (Tick node) = keys
with_key keys (Deliver message to) = keys
with_key keys (Lose message) = keys
with_key keys (LoseBetween from to) = keys
with_key keys (Flush only) = keys
with_key keys (Settle rounds only) = keys

abbrev pub keys_from : List Text → List ScriptItem → List Text
keys_from keys [] = keys
keys_from keys (item ∷ items) = keys_from (with_key keys item.word) items

abbrev pub told_text : List Told → Text
told_text [] = []
told_text (t ∷ ts) = codes " " ++ decimal t.op.0 ++ told_text ts

abbrev pub story_line : SetupState → List Entry → Text → Text
story_line setup past key = ended (codes "story " ++ bytes_text key ++ told_text (story setup past key))

-- ---- the whole

abbrev pub which_text : Which → Text
which_text ScriptBytes = codes "script_bytes"
which_text LineBytes = codes "line_bytes"
which_text JournalEntries = codes "journal_entries"
which_text JournalWeight = codes "journal_weight"
which_text Numbers = codes "numbers"

abbrev pub limit_line : Which → ℕ → Text
limit_line which number = ended (codes "limit " ++ which_text which ++ codes " " ++ decimal number)

abbrev pub ending_line : Ending → Text
ending_line End = ended (codes "end")
ending_line (Limit which number) = limit_line which number

-- nodes, hashes and shards of a table
abbrev pub table_text : ℕ → ℕ → ℕ → Text
table_text nodes hashes shards = codes "nodes " ++ decimal nodes ++ codes " hash " ++ decimal hashes ++ codes " shards " ++ decimal shards

abbrev pub header_line : SetupState → Text
header_line setup = ended (codes "table " ++ table_text setup.nodes setup.hashes (length setup.shards))

-- the lines of the report of a script, its journal, the operations that were asked of nodes that were down, the other events
-- that were refused, and how the run ended
abbrev pub report : SetupState → List ScriptItem → List Entry → List OpId → List Refusal → Ending → List Text
report setup items past down refused ending =
    header_line setup
    ∷ (op_lines past down items ++ map refusal_line refused ++ skipped_lines 1 (longest setup past)
    ++ map (story_line setup past) (keys_from [] items) ++ ending_line ending ∷ [])

-- the bytes of some lines
abbrev pub joined : List Text → Text
joined [] = []
joined (line ∷ lines) = line ++ joined lines

-- ---- lines that stand alone

abbrev pub usage_line : Text
usage_line = ended (codes "usage")

abbrev pub read_fault_line : Text
read_fault_line = ended (codes "read fault")

-- the line of a script that is refused, and why
abbrev pub script_line : ℕ → Reason → Text
script_line line reason = ended (codes "script " ++ decimal line ++ codes " " ++ reason_text reason)
