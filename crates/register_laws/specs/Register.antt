-- The register: what it replies, and what it then holds.
use Rattle.std.specs.Prelude.{ℕ, Bool, true, false, nat_eq, List, Option, Some, None, if◌then◌else◌}
use Rattle.std.specs.Cmp.Lexicographic.{pointwise}
use Rattle.std.specs.Option.{option_eq}
use Rattle.register_laws.specs.declared.operation.Op.{Op}
use Rattle.register_laws.specs.declared.operation.Op.TheVariants.{Put, Delete, Cas, Read}
use Rattle.register_laws.specs.declared.operation.Reply.{Reply}
use Rattle.register_laws.specs.declared.operation.Reply.TheVariants.{Was, Swapped, Kept}

-- a value is its bytes, and the state of a register a value or none
abbrev pub State : Type 0
State = Option (List ℕ)

abbrev pub same_state : State → State → Bool
same_state = option_eq (pointwise nat_eq)

-- what the register replies to an operation
abbrev pub reply_of : State → Op → Reply
reply_of s (Put v) = Was s
reply_of s Delete = Was s
reply_of s (Cas expect put) = if same_state s expect then Swapped else Kept s
reply_of s Read = Was s

-- what the register holds after it
abbrev pub state_after : State → Op → State
state_after s (Put v) = Some v
state_after s Delete = None
state_after s (Cas expect put) = if same_state s expect then put else s
state_after s Read = s

-- whether the operation writes: a put, a delete, and a cas that swaps
abbrev pub writes : State → Op → Bool
writes s (Put v) = true
writes s Delete = true
writes s (Cas expect put) = same_state s expect
writes s Read = false
