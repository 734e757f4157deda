-- What came before a reading was given up.
use Rattle.std.specs.Prelude.{ℕ, ◌<◌, ◌≤◌, List, length, Option}
use Rattle.line_io.specs.declared.read_refused.ReadRefused.{ReadRefused}
use Rattle.line_io.specs.declared.read_refused.ReadRefused.TheVariants.{ReadFault, TooLong, OutOfMemory}
use Rattle.line_io.specs.Bytes.{Gives}

-- more than `limit` bytes came where the answer is TooLong, and no more than that where it is another
abbrev pub CameBefore : ReadRefused → ℕ → Option (List ℕ) → Option (List ℕ) → Type 0
CameBefore TooLong limit before after = (came : List ℕ) × Gives before came after × (limit < length came)
CameBefore ReadFault limit before after = (came : List ℕ) × Gives before came after × (length came ≤ limit)
CameBefore OutOfMemory limit before after = (came : List ℕ) × Gives before came after × (length came ≤ limit)
