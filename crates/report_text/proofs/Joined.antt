-- Laws of lines that are joined, and of a part of them.
use Rattle.std.proofs.Common.{◌≡◌, ℕ, ◌+◌, ◌<◌, ◌≤◌, List, [], ◌∷◌, ◌++◌, take, drop, length, get_or, Option, refl, ap, sym, subst, ◌∙◌, arith, append_assoc, append-nil, length-append}
use Rattle.std.proofs.lemmas.List.{take_more, at_drop_more, take-append-drop, take-append-le}
use Rattle.std.proofs.Math.Seq.{take-append-add}
use Rattle.line_io.specs.Bytes.{Appends}
use Rattle.line_io.proofs.Told.{Appends-nothing, Appends-more}
use Rattle.report_text.specs.Report.{joined}

pub joined-append : (xs ys : List (List ℕ)) → joined (xs ++ ys) ≡ joined xs ++ joined ys
joined-append [] ys = refl
joined-append (x ∷ xs) ys = ap (λ rest. x ++ rest) (joined-append xs ys) ∙ sym (append_assoc x (joined xs) (joined ys))

-- a line of them, with those before and behind it
pub joined-split : (lines : List (List ℕ)) (i : ℕ) (line : List ℕ) → i < length lines → line ≡ get_or lines i line → joined lines ≡ joined (take i lines) ++ (line ++ joined (drop (i + 1) lines))
joined-split lines i line below read =
    ap joined (sym (take-append-drop i lines))
    ∙ joined-append (take i lines) (drop i lines)
    ∙ ap (λ back. joined (take i lines) ++ back) (at_drop_more joined lines i line below ∙ ap (λ here. here ++ joined (drop (i + 1) lines)) (sym read))

-- one line more
pub joined-more : (lines : List (List ℕ)) (i : ℕ) (line : List ℕ) → i < length lines → line ≡ get_or lines i line → joined (take (i + 1) lines) ≡ joined (take i lines) ++ line
joined-more lines i line below read =
    ap joined (take_more lines i line below)
    ∙ joined-append (take i lines) (get_or lines i line ∷ [])
    ∙ ap (λ back. joined (take i lines) ++ back) (append-nil (get_or lines i line) ∙ sym read)

take-part : (front line back : List ℕ) (n : ℕ) → n ≤ length line → take (length front + n) (front ++ (line ++ back)) ≡ front ++ take n line
take-part front line back n short = take-append-add front (line ++ back) n ∙ ap (λ part. front ++ part) (take-append-le n line back short)

-- where a line was written in part, the lines were
pub part-more : (before now after : Option (List ℕ)) (lines : List (List ℕ)) (i : ℕ) (line : List ℕ) → i < length lines → line ≡ get_or lines i line
    → Appends before (joined (take i lines)) now
    → ((n : ℕ) × (n < length line) × Appends now (take n line) after)
    → (n : ℕ) × (n ≤ length (joined lines)) × Appends before (take n (joined lines)) after
part-more before now after lines i line below read first part =
    let n : ℕ = part.0 in
    let short : n ≤ length line = omega (arith, part.1) in
    let whole : joined lines ≡ joined (take i lines) ++ (line ++ joined (drop (i + 1) lines)) = joined-split lines i line below read in
    let size : length (joined lines) ≡ length (joined (take i lines)) + (length line + length (joined (drop (i + 1) lines))) = ap length whole ∙ length-append (joined (take i lines)) (line ++ joined (drop (i + 1) lines)) ∙ ap (λ m. length (joined (take i lines)) + m) (length-append line (joined (drop (i + 1) lines))) in
    let taken : take (length (joined (take i lines)) + n) (joined lines) ≡ joined (take i lines) ++ take n line = ap (take (length (joined (take i lines)) + n)) whole ∙ take-part (joined (take i lines)) line (joined (drop (i + 1) lines)) n short in
    (length (joined (take i lines)) + n, omega (arith, short, size), subst (λ text. Appends before text after) (sym taken) (Appends-more before now after (joined (take i lines)) (take n line) first part.2))

-- where nothing was written, no byte was
pub part-nothing : (told : Option (List ℕ)) (text : List ℕ) → (n : ℕ) × (n ≤ length text) × Appends told (take n text) told
part-nothing told text = (0, omega arith, Appends-nothing told)
