use Rattle.std.proofs.Common.{◌≡◌, ◌++◌, true}
use Rattle.std.specs.Prelude.{chars, IsUtf8}
use Rattle.std.specs.Str.Iter.{chars_rest}
use Rattle.json_base.specs.Texts.{are_bytes}
use Rattle.json_base.proofs.texts.bytes_of.Given as goal

-- the characters so far were these bytes, and what is left is a text
abbrev pub invariant-loop-character : goal.invariant-loop-character
invariant-loop-character l = record {
  so_far : l.bytes.items ++ chars (chars_rest l.character-iterator) ≡ chars l.text;
  bytes : are_bytes l.bytes.items ≡ true;
  left : IsUtf8 (chars_rest l.character-iterator);
}
