-- The bytes of a text, character by character.
use Rattle.std.proofs.Common.{◌≡◌, ℕ, Bool, true, false, ◌&&◌, List, [], ◌∷◌, ◌++◌, Some, None, bytes_eq, length, append-nil, refl, sym, ap, ◌∙◌, subst, arith}
use Rattle.std.specs.Prelude.{nat_lt, chars, IsUtf8, encode_utf8_all}
use Rattle.std.proofs.lemmas.Str.{encodes-chars, chars-nil}
use Rattle.std.proofs.lemmas.Bool.{and_parts}
use Rattle.std.proofs.lemmas.Slice.Eq.{bytes_eq-Decides}
use Rattle.json_base.specs.Forms.{kept_if}
use Rattle.json_base.specs.Texts.{are_bytes, bytes_of}

kept : (a b : Bool) (x : List ℕ) → a ≡ true → b ≡ true → Some x ≡ kept_if (a && b) x
kept a b x e f = rw (e, f) refl

dropped : (a b : Bool) (x : List ℕ) → a ≡ false → None ≡ kept_if (a && b) x
dropped a b x e = rw e refl

pub bytes_found : (s bytes : List ℕ) → IsUtf8 s → bytes ≡ chars s → are_bytes bytes ≡ true → Some bytes ≡ bytes_of s
bytes_found s bytes u e are =
    ap Some e ∙ kept (are_bytes (chars s)) (bytes_eq (encode_utf8_all (chars s)) s) (chars s) (subst (λ x. are_bytes x ≡ true) e are) ((bytes_eq-Decides _ _).1 (encodes-chars s u))

and_false : (a b : Bool) → b ≡ false → (a && b) ≡ false
and_false true b e = e
and_false false b e = refl

not_all : (front rest : List ℕ) (c : ℕ) → nat_lt c 256 ≡ false → are_bytes (front ++ c ∷ rest) ≡ false
not_all [] rest c e = rw e refl
not_all (x ∷ front) rest c e = and_false (nat_lt x 256) _ (not_all front rest c e)

pub bytes_none : (s front rest : List ℕ) (c : ℕ) → front ++ c ∷ rest ≡ chars s → nat_lt c 256 ≡ false → None ≡ bytes_of s
bytes_none s front rest c e big = dropped (are_bytes (chars s)) _ (chars s) (subst (λ x. are_bytes x ≡ false) e (not_all front rest c big))

and_true : (a b : Bool) → a ≡ true → b ≡ true → (a && b) ≡ true
and_true a b e f = rw (e, f) refl

pub bytes_more : (bytes : List ℕ) (c : ℕ) → are_bytes bytes ≡ true → nat_lt c 256 ≡ true → are_bytes (bytes ++ c ∷ []) ≡ true
bytes_more [] c e f = rw f refl
bytes_more (x ∷ bytes) c e f = let p = and_parts (nat_lt x 256) (are_bytes bytes) e in and_true (nat_lt x 256) _ p.0 (bytes_more bytes c p.1 f)

pub no_chars : (bytes rest all : List ℕ) → length rest ≡ 0 → bytes ++ chars rest ≡ all → bytes ≡ all
no_chars bytes [] all e f = sym (append-nil bytes) ∙ ap (λ cs. bytes ++ cs) (sym chars-nil) ∙ f
no_chars bytes (x ∷ rest) all e f = absurd (omega arith)
