-- The words of the command as text.
use Rattle.std.specs.Prelude.{◌≡◌, ℕ, ◌<◌, List, [], Option, Some, None, length, get_or, IsUtf8}

-- the texts are the words; there are none only where some word is no text
abbrev pub IsTexts : List (List ℕ) → Option (List (List ℕ)) → Type 0
IsTexts words None = (place : ℕ) × (place < length words) × (IsUtf8 (get_or words place []) → ⊥)
IsTexts words (Some texts) = texts ≡ words
