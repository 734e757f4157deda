-- Bytes that are left in a source and bytes that a sink holds, where these are told.
use Rattle.std.specs.Prelude.{◌≡◌, ℕ, List, [], ◌++◌, Option, Some, None, IfSome}

-- these bytes, and then the told ones
abbrev pub prepended : List ℕ → Option (List ℕ) → Option (List ℕ)
prepended given None = None
prepended given (Some rest) = Some (given ++ rest)

-- the told bytes, and then these
abbrev pub appended : Option (List ℕ) → List ℕ → Option (List ℕ)
appended None piece = None
appended (Some held) piece = Some (held ++ piece)

-- a source gave these bytes: they came before all that is left; one that tells nothing still tells nothing
abbrev pub Gives : Option (List ℕ) → List ℕ → Option (List ℕ) → Type 0
Gives before given after = before ≡ prepended given after

-- a sink took these bytes, behind all that it held; one that tells nothing still tells nothing
abbrev pub Appends : Option (List ℕ) → List ℕ → Option (List ℕ) → Type 0
Appends before piece after = after ≡ appended before piece

-- no byte is left, where that is told
abbrev pub IsAtEnd : Option (List ℕ) → Type 0
IsAtEnd left = IfSome left (λ rest. rest ≡ [])
