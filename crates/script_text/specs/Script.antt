-- What a script asks.
use Rattle.std.specs.Prelude.{ℕ, Bool, false, ◌==◌, List}
use Rattle.std.specs.List.{list_any}
use Rattle.contract_types.specs.Setup.{SetupState}
use Rattle.script_text.specs.declared.script.ScriptWord.{ScriptWord}
use Rattle.script_text.specs.declared.script.ScriptWord.TheVariants.{Request, GiveUp, See, Crash, Restart, Tick, Deliver, Lose, LoseBetween, Flush, Settle}
use Rattle.script_text.specs.declared.script.ScriptItem.{ScriptItem}

-- what the table begins with, and the words in order
pub record ScriptState : Type 0 where
  pub setup : SetupState
  pub items : List ScriptItem

-- this word gives this number to an operation
abbrev pub requests : ℕ → ScriptWord → Bool
requests q (Request op node key what) = op.0 == q
requests q (GiveUp node op) = false
requests q (See node other up) = false
requests q (Crash node) = false
requests q (Restart node) = false
requests q (Tick node) = false
requests q (Deliver message to) = false
requests q (Lose message) = false
requests q (LoseBetween from to) = false
requests q (Flush only) = false
requests q (Settle rounds only) = false

-- some of these words give this number to an operation
abbrev pub is_known : ℕ → List ScriptItem → Bool
is_known q items = list_any (λ item. requests q item.word) items

-- this word gives a number that an earlier one gave
abbrev pub is_again : ScriptWord → List ScriptItem → Bool
is_again (Request op node key what) items = is_known op.0 items
is_again (GiveUp node op) items = false
is_again (See node other up) items = false
is_again (Crash node) items = false
is_again (Restart node) items = false
is_again (Tick node) items = false
is_again (Deliver message to) items = false
is_again (Lose message) items = false
is_again (LoseBetween from to) items = false
is_again (Flush only) items = false
is_again (Settle rounds only) items = false
