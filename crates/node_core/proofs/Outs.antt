-- What a loop gives that changes each element in its turn.
use Rattle.std.proofs.Common.{◌≡◌, ℕ, ◌+◌, ◌<◌, List, ◌++◌, length, get_or, map, take, drop, sym, ap, ◌∙◌, arith}
use Rattle.std.specs.List.{flat_map}
use Rattle.std.proofs.lemmas.List.{flat_map_more, take_more}
use Rattle.std.proofs.lemmas.Grind.{common_steps}

-- an element whose turn has not come is as it was
still : {X : Type 0} (f : X → X) (xs : List X) (i : ℕ) (x : X) → i < length xs → get_or (map f (take i xs) ++ drop i xs) i x ≡ get_or xs i x
still f xs i x l = grind (arith, common_steps)

pub outs_over_more : {X A : Type 0} (f : X → X) (g : X → List A) (xs ys : List X) (out now : List A) (i : ℕ) (x : X)
    → i < length xs → ys ≡ map f (take i xs) ++ drop i xs → now ≡ out ++ flat_map g (take i xs)
    → now ++ g (get_or ys i x) ≡ out ++ flat_map g (take (i + 1) xs)
outs_over_more f g xs ys out now i x l e h =
    ap (λ (bs : List _). bs ++ g (get_or ys i x)) h
    ∙ ap (λ y. (out ++ flat_map g (take i xs)) ++ g y) (ap (λ zs. get_or zs i x) e ∙ still f xs i x l)
    ∙ flat_map_more g out (take i xs) (get_or xs i x)
    ∙ ap (λ zs. out ++ flat_map g zs) (sym (take_more xs i x l))
