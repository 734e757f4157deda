-- Counting the members of a set.
use Rattle.std.proofs.Common.{◌≡◌, ◌+◌, Bool, cond, List, map, count_by}
use Rattle.std.proofs.lemmas.List.Folds.{fold-map}

pub count_by_map : {X Y : Type 0} (p : Y → Bool) (f : X → Y) (xs : List X) → count_by p (map f xs) ≡ count_by (λ x. p (f x)) xs
count_by_map p f xs = fold-map (λ s y. s + cond (p y) 1 0) f 0 xs
