-- Bytes as a text: a string with one character a byte, whose number is the byte.
use Rattle.std.specs.Prelude.{◌≡◌, ℕ, Bool, true, ◌&&◌, nat_lt, List, [], ◌∷◌, bytes_eq, chars, encode_utf8_all, Option, Some, option_and_then}
use Rattle.std.specs.List.{list_all}
use Rattle.std.specs.Char.{IsScalar}
use Rattle.std.specs.Str.{all_scalars}
use Rattle.std.proofs.Common.{refl, sym, ap, ◌∙◌, arith}
use Rattle.std.proofs.lemmas.Bool.{and_parts, and_from}
use Rattle.std.proofs.lemmas.Bool.Decides.{nat_tests}
use Rattle.std.proofs.lemmas.Slice.Eq.{bytes_eq-Decides}
use Rattle.std.proofs.lemmas.Str.{chars-encodes}
use Rattle.serde_json.specs.Data.{Data, null, boolean, number, string, array, object}
use Rattle.serde_json.specs.Find.{as_str}
use Rattle.json_base.specs.Forms.{Form, IsExact, kept_if, kept_some}
use Rattle.json_base.specs.Objects.{bind_some, same_name}

abbrev pub are_bytes : List ℕ → Bool
are_bytes cs = list_all (λ c. nat_lt c 256) cs

-- the numbers of the characters of a text, if they are bytes
abbrev pub bytes_of : List ℕ → Option (List ℕ)
bytes_of s = kept_if (are_bytes (chars s) && bytes_eq (encode_utf8_all (chars s)) s) (chars s)

abbrev pub text_form : Form (List ℕ)
text_form = record { tree = λ bytes. string (encode_utf8_all bytes); read = λ h d. option_and_then bytes_of (as_str d) }

abbrev pub text_fits : ℕ → List ℕ → Type 0
text_fits h bytes = are_bytes bytes ≡ true

-- ---- texts are read exactly

byte_scalar : (c : ℕ) → nat_lt c 256 ≡ true → IsScalar c
byte_scalar c e = let f : nat_lt c 55296 ≡ true = grind (arith, nat_tests) in rw f refl

are_scalars : (bytes : List ℕ) → are_bytes bytes ≡ true → all_scalars bytes ≡ true
are_scalars [] e = refl
are_scalars (c ∷ cs) e =
    let p = and_parts (nat_lt c 256) (are_bytes cs) e in
    and_from _ _ (byte_scalar c p.0) (are_scalars cs p.1)

pub text_told : (d : Data) (s : List ℕ) → as_str d ≡ Some s → string s ≡ d
text_told null s e = absurd (cc)
text_told (boolean b) s e = absurd (cc)
text_told (number n) s e = absurd (cc)
text_told (string t) s e = cc
text_told (array ds) s e = absurd (cc)
text_told (object ms) s e = absurd (cc)

pub text_exact : IsExact text_fits text_form
text_exact = record { finds = λ h bytes k. found bytes k; tells = λ h d bytes e. told d bytes e }
  where
    found : (bytes : List ℕ) → are_bytes bytes ≡ true → bytes_of (encode_utf8_all bytes) ≡ Some bytes
    found bytes k = let c = chars-encodes bytes (are_scalars bytes k) in rw (c, k, same_name (encode_utf8_all bytes)) refl

    told : (d : Data) (bytes : List ℕ) → option_and_then bytes_of (as_str d) ≡ Some bytes → (string (encode_utf8_all bytes) ≡ d) × (are_bytes bytes ≡ true)
    told d bytes e =
        let s = bind_some (as_str d) bytes_of bytes e in
        let k = kept_some (λ cs. are_bytes cs && bytes_eq (encode_utf8_all cs) s.0) (chars s.0) bytes s.2 in
        let p = and_parts (are_bytes bytes) (bytes_eq (encode_utf8_all bytes) s.0) k.1 in
        (ap string ((bytes_eq-Decides (encode_utf8_all bytes) s.0).0 p.1) ∙ text_told d s.0 s.1, p.0)
