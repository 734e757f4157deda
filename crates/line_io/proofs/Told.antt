-- Laws of the bytes that are told.
use Rattle.std.proofs.Common.{◌≡◌, ℕ, ◌+◌, List, [], ◌++◌, take, drop, Some, None, ap, sym, ◌∙◌, refl, arith, append_assoc, append-nil}
use Rattle.std.specs.Prelude.{Option}
use Rattle.std.proofs.lemmas.List.{take-append-drop, drop-take, drop-drop}
use Rattle.std.proofs.Common.{take-take}
use Rattle.line_io.specs.Bytes.{Gives, Appends}

pub Gives-more : (before now after : Option (List ℕ)) (xs ys : List ℕ) → Gives before xs now → Gives now ys after → Gives before (xs ++ ys) after
Gives-more before now None xs ys first second = rw (first, second) refl
Gives-more before now (Some rest) xs ys first second = rw (first, second) (ap Some (sym (append_assoc xs ys rest)))

pub Appends-nothing : (told : Option (List ℕ)) → Appends told [] told
Appends-nothing None = refl
Appends-nothing (Some xs) = ap Some (sym (append-nil xs))

pub Appends-more : (before now after : Option (List ℕ)) (xs ys : List ℕ) → Appends before xs now → Appends now ys after → Appends before (xs ++ ys) after
Appends-more None now after xs ys first second = rw (second, first) refl
Appends-more (Some held) now after xs ys first second = rw (second, first) (ap Some (append_assoc held xs ys))

-- the first n, and then m more
pub take-sum : (n m : ℕ) (xs : List ℕ) → take (n + m) xs ≡ take n xs ++ take m (drop n xs)
take-sum n m xs =
    sym (take-append-drop n (take (n + m) xs)) ∙ ap (λ front. front ++ drop n (take (n + m) xs)) (take-take n (n + m) xs (omega arith)) ∙ ap (λ back. take n xs ++ back) (drop-take n m xs)

-- what is left behind `at`, cut after n more
pub drop-cut : (at n : ℕ) (xs : List ℕ) → drop at xs ≡ take n (drop at xs) ++ drop (at + n) xs
drop-cut at n xs = sym (ap (λ back. take n (drop at xs) ++ back) (sym (drop-drop n at xs)) ∙ take-append-drop n (drop at xs))
