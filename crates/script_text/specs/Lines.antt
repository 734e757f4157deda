-- The lines of a script, and what a script says.
use Rattle.std.specs.Prelude.{ℕ, ◌+◌, ◌==◌, Bool, true, false, not, ◌||◌, bytes_eq, codes, nat_le, List, [], ◌∷◌, ◌++◌, length, Option, None, is_some, ok_or, Result, Ok, Err, if◌then◌else◌}
use Rattle.std.specs.List.{list_all}
use Rattle.std.specs.Str.{is_utf8}
use Rattle.serde_json.specs.Data.{Data}
use Rattle.serde_json.specs.Read.{read}
use Rattle.serde_json.specs.Find.{as_object}
use Rattle.contract_types.specs.Setup.{SetupState, whole}
use Rattle.script_text.specs.declared.script.ScriptWord.{ScriptWord}
use Rattle.script_text.specs.declared.script.ScriptItem.{ScriptItem}
use Rattle.script_text.specs.Script.{ScriptState, is_again}
use Rattle.script_text.specs.declared.status.Reason.{Reason}
use Rattle.script_text.specs.declared.status.Reason.TheVariants.{BadJson, Word, Member, NotHere, Place, OpKnown}
use Rattle.script_text.specs.Members.{text_in}
use Rattle.script_text.specs.Shapes.{has_members, is_here}
use Rattle.script_text.specs.Grammar.{◌>>=◌, needs, setup_of, word_named}

-- this byte, and then the lines
abbrev pub begin_line : ℕ → List (List ℕ) → List (List ℕ)
begin_line c [] = (c ∷ []) ∷ []
begin_line c (first ∷ others) = (c ∷ first) ∷ others

-- LF
abbrev pub is_line_end : ℕ → Bool
is_line_end c = c == 10

-- the lines of a text: LF ends each, and may be missing at the last
abbrev pub lines : List ℕ → List (List ℕ)
lines [] = []
lines (c ∷ rest) = if is_line_end c then [] ∷ lines rest else begin_line c (lines rest)

-- a space, a tab or CR
abbrev pub is_space : ℕ → Bool
is_space c = (c == 32) || (c == 9) || (c == 13)

-- a line of spaces alone; it says nothing
abbrev pub is_blank : List ℕ → Bool
is_blank line = list_all is_space line

-- what serde_json reads of a line that is UTF-8
abbrev pub line_data : List ℕ → Option Data
line_data line = if is_utf8 line then read line else None

-- what the lines so far said: whether one was not blank, the setup, and the words
pub record Reading : Type 0 where
  pub begun : Bool
  pub setup : SetupState
  pub items : List ScriptItem

-- one shard, one node and eight hashes, where no line sets the table up
abbrev pub at_first : Reading
at_first = record { begun = false; setup = whole 1 8; items = [] }

-- a setup, which may stand first alone
abbrev pub take_setup : Reading → Data → Result Reading Reason
take_setup r line = needs (not r.begun) Place (do
  setup ← setup_of line
  Ok (record r { begun = true; setup = setup }))

-- a word, with no operation's number again
abbrev pub take_word : Reading → ℕ → ScriptWord → Result Reading Reason
take_word r number word =
    needs (not (is_again word r.items)) OpKnown (Ok (record r { begun = true; items = r.items ++ record { line = number; word = word } ∷ [] }))

abbrev pub take_named : Reading → ℕ → List ℕ → Data → Result Reading Reason
take_named r number name line = if bytes_eq name (codes "setup") then take_setup r line else do
  word ← word_named r.setup name line
  take_word r number word

-- a line with the members of its word, and none of the other program
abbrev pub take_data : Reading → ℕ → Data → Result Reading Reason
take_data r number line = do
  name ← ok_or (text_in (codes "do") line) Word
  fits ← has_members name line
  needs fits Member (needs (is_here line) NotHere (take_named r number name line))

-- an object
abbrev pub take_json : Reading → ℕ → Data → Result Reading Reason
take_json r number line = needs (is_some (as_object line)) BadJson (take_data r number line)

-- what is said after the line of this number, or the first reason against it
abbrev pub take_line : Reading → ℕ → List ℕ → Result Reading Reason
take_line r number line = if is_blank line then Ok r else do
  data' ← ok_or (line_data line) BadJson
  take_json r number data'

-- a script is accepted, or refused at the first line that is refused, or it has a line that is too long
pub data ScriptRead : Type 0 where
  Accepted : ScriptState → ScriptRead
  Refused : ℕ → Reason → ScriptRead
  TooLong : ScriptRead

abbrev pub said : Reading → ScriptState
said r = record { setup = r.setup; items = r.items }

-- the most bytes of a line, without its LF
abbrev pub most_line_bytes : ℕ
most_line_bytes = 65536

abbrev pub unless_refused : ℕ → Result Reading Reason → (Reading → ScriptRead) → ScriptRead
unless_refused number (Err reason) later = Refused number reason
unless_refused number (Ok r) later = later r

-- what these lines say, of which the first has this number, after what was said before
abbrev pub read_from : List (List ℕ) → ℕ → Reading → ScriptRead
read_from [] number r = Accepted (said r)
read_from (line ∷ others) number r =
    if nat_le (length line) most_line_bytes then unless_refused number (take_line r number line) (read_from others (number + 1)) else TooLong

-- what a text says
abbrev pub read_lines : List ℕ → ScriptRead
read_lines text = read_from (lines text) 1 at_first
