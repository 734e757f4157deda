-- Laws of printed texts.
use Rattle.std.proofs.Common.{◌≡◌, ℕ, true, false, cond, codes, List, refl, ap}
use Rattle.std.specs.Str.{IsUtf8, is_utf8}
use Rattle.std.proofs.lemmas.Str.{is_utf8-from_IsUtf8, IsUtf8-from_is_utf8}
use Rattle.serde_json.specs.Data.{string}
use Rattle.serde_json.specs.Written.{compact_text}
use Rattle.report_text.specs.Report.{bytes_text}

pub bytes_text-utf8 : (bytes : List ℕ) → IsUtf8 bytes → bytes_text bytes ≡ compact_text (string bytes)
bytes_text-utf8 bytes utf8 = ap (λ b. cond b (compact_text (string bytes)) (codes "bytes")) (is_utf8-from_IsUtf8 bytes utf8)

pub bytes_text-other : (bytes : List ℕ) → ¬ (IsUtf8 bytes) → bytes_text bytes ≡ codes "bytes"
bytes_text-other bytes other =
    elim (is_utf8 bytes) as (λ b. is_utf8 bytes ≡ b → cond b (compact_text (string bytes)) (codes "bytes") ≡ codes "bytes") [
      | true ↦ λ is. absurd (other (IsUtf8-from_is_utf8 bytes is))
      | false ↦ λ _. refl
    ] refl
