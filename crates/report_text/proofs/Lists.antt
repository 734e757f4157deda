-- Laws of lists in the order of a journal.
use Rattle.std.proofs.Common.{◌≡◌, ℕ, ◌+◌, ◌<◌, List, [], ◌∷◌, take, length, get_or, reverse, ap, sym, ◌∙◌}
use Rattle.std.proofs.lemmas.List.{take_more, reverse-append}

-- one element more
pub reverse-more : {A : Type 0} (xs : List A) (i : ℕ) (d : A) → i < length xs → reverse (take (i + 1) xs) ≡ get_or xs i d ∷ reverse (take i xs)
reverse-more xs i d below = ap reverse (take_more xs i d below) ∙ reverse-append (take i xs) (get_or xs i d ∷ [])

-- the same of an element that was read
pub reverse-more_read : {A : Type 0} (xs : List A) (i : ℕ) (x : A) → i < length xs → x ≡ get_or xs i x → reverse (take (i + 1) xs) ≡ x ∷ reverse (take i xs)
reverse-more_read {A} xs i x below read = reverse-more xs i x below ∙ ap (λ (y : A). y ∷ reverse (take i xs)) (sym read)
