-- Laws of the lines of a text.
use Rattle.std.proofs.Common.{◌≡◌, ℕ, suc, ◌&&◌, ◌||◌, ◌+◌, ◌<◌, ◌≤◌, Bool, true, false, List, [], ◌∷◌, length, take, drop, Some, None, refl, sym, subst, ap, arith, Bor}
use Rattle.std.proofs.lemmas.Bool.Decides.{nat_tests}
use Rattle.std.specs.Str.{is_utf8}
use Rattle.std.specs.Prelude.{IsUtf8, map, bytes_eq, string_bytes, String}
use Rattle.std.specs.declared.alloc.Global.{Global}
use Rattle.std.specs.List.{position, position_or_len, list_all, list_any}
use Rattle.std.specs.Map.{keys_of}
use Rattle.std.proofs.lemmas.Str.{IsUtf8-from_is_utf8}
use Rattle.serde_json.specs.Read.{read}
use Rattle.serde_json.specs.View.{members_view}
use Rattle.serde_json.specs.declared.value.Value.{Value}
use Rattle.script_text.specs.Lines.{lines, is_line_end, begin_line, line_data}
use Rattle.script_text.specs.Members.{are_named}

-- where the first LF stands, or the length
abbrev end_of : List ℕ → ℕ
end_of xs = position_or_len is_line_end xs

cut_at : (x : ℕ) (xs : List ℕ) (b : Bool) → is_line_end x ≡ b
    → (end_of xs < length xs → lines xs ≡ take (end_of xs) xs ∷ lines (drop (end_of xs + 1) xs))
    → end_of (x ∷ xs) < length (x ∷ xs)
    → lines (x ∷ xs) ≡ take (end_of (x ∷ xs)) (x ∷ xs) ∷ lines (drop (end_of (x ∷ xs) + 1) (x ∷ xs))
cut_at x xs true e later within = rw e refl
cut_at x xs false e later within =
    let n = end_of xs in
    let inside = rw e at within in
    let h = later (omega arith) in
    let one : 1 + n ≡ suc n = omega arith in
    let two : 1 + n + 1 ≡ suc (n + 1) = omega arith in
    let front : take (1 + n) (x ∷ xs) ≡ x ∷ take n xs = rw one refl in
    let back : drop (1 + n + 1) (x ∷ xs) ≡ drop (n + 1) xs = rw two refl in
    rw (e, front, back) (ap (begin_line x) h)

-- a line that LF ends
pub lines-cut : (xs : List ℕ) → end_of xs < length xs → lines xs ≡ take (end_of xs) xs ∷ lines (drop (end_of xs + 1) xs)
lines-cut [] within = absurd (omega arith)
lines-cut (x ∷ xs) within = cut_at x xs (is_line_end x) refl (lines-cut xs) within

end_at : (xs : List ℕ) (n : ℕ) → Some n ≡ position is_line_end xs → (end_of xs ≡ n) × (n < length xs)
end_at xs n is = (grind (arith, nat_tests), grind (arith, nat_tests))

-- a line that LF ends, by its place
pub lines-at : (xs : List ℕ) (n : ℕ) → Some n ≡ position is_line_end xs → lines xs ≡ take n xs ∷ lines (drop (n + 1) xs)
lines-at xs n is =
    let h = end_at xs n is in
    let within : end_of xs < length xs = omega arith in
    subst (λ k. lines xs ≡ take k xs ∷ lines (drop (k + 1) xs)) h.0 (lines-cut xs within)

whole_one : (x : ℕ) (b : Bool) → is_line_end x ≡ b → length (x ∷ []) ≤ end_of (x ∷ []) → lines (x ∷ []) ≡ (x ∷ []) ∷ []
whole_one x true e none = let h = rw e at none in absurd (omega arith)
whole_one x false e none = rw e refl

whole_more : (x y : ℕ) (ys : List ℕ) (b : Bool) → is_line_end x ≡ b → (length (y ∷ ys) ≤ end_of (y ∷ ys) → lines (y ∷ ys) ≡ (y ∷ ys) ∷ []) → length (x ∷ y ∷ ys) ≤ end_of (x ∷ y ∷ ys) → lines (x ∷ y ∷ ys) ≡ (x ∷ y ∷ ys) ∷ []
whole_more x y ys true e later none = let h = rw e at none in absurd (omega arith)
whole_more x y ys false e later none =
    let h = rw e at none in
    rw e (ap (begin_line x) (later (omega arith)))

-- a last line without LF
pub lines-whole : (xs : List ℕ) → 0 < length xs → length xs ≤ end_of xs → lines xs ≡ xs ∷ []
lines-whole [] some none = absurd (omega arith)
lines-whole (x ∷ []) some none = whole_one x (is_line_end x) refl none
lines-whole (x ∷ y ∷ ys) some none = whole_more x y ys (is_line_end x) refl (lines-whole (y ∷ ys) (omega arith)) none

refused_at : (line : List ℕ) (b : Bool) → is_utf8 line ≡ b → (IsUtf8 line → read line ≡ None) → None ≡ line_data line
refused_at line true e none = rw e (sym (none (IsUtf8-from_is_utf8 line e)))
refused_at line false e none = rw e refl

-- a line that is no UTF-8, or reads as nothing
pub line_data-none : (line : List ℕ) → (IsUtf8 line → read line ≡ None) → None ≡ line_data line
line_data-none line none = refused_at line (is_utf8 line) refl none

list_any-map : {X Y : Type 0} (p : X → Bool) (f : Y → X) (ys : List Y) → list_any p (map f ys) ≡ list_any (λ y. p (f y)) ys
list_any-map p f [] = refl
list_any-map p f (y ∷ ys) = ap (λ b. p (f y) || b) (list_any-map p f ys)

-- the names of an object are the keys of its map
pub are_named-keys : (names : List (Bor (List ℕ))) (entries : List (String Global × Value)) → list_all (λ key. list_any (λ name. bytes_eq (string_bytes key) name.now) names) (keys_of entries) ≡ are_named (map (λ name. name.now) names) (members_view entries)
are_named-keys names [] = refl
are_named-keys names (e ∷ es) = rw (list_any-map (bytes_eq (string_bytes e.0)) (λ (name : Bor (List ℕ)). name.now) names) (ap (λ b. list_any (λ (name : Bor (List ℕ)). bytes_eq (string_bytes e.0) name.now) names && b) (are_named-keys names es))
