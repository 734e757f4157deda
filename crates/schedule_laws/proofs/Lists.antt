-- Which place some elements of a list have among their kind.
use Rattle.std.proofs.Common.{◌≡◌, ℕ, zero, suc, List, [], ◌∷◌, length, take, Option, Some, None, slice_get}
use Rattle.std.specs.List.{filter_map, cons_option}

pub place_among : {X Y : Type 0} (kind : X → Option Y) (xs : List X) (place : ℕ) (x : X) (y : Y) → slice_get xs place ≡ Some x → kind x ≡ Some y
    → slice_get (filter_map kind xs) (length (filter_map kind (take place xs))) ≡ Some y
place_among kind [] place x y at is = absurd (cc at)
place_among kind (z ∷ zs) zero x y at is = let same : z ≡ x = cc in rw (same, is)
place_among kind (z ∷ zs) (suc k) x y at is =
    let rest = place_among kind zs k x y at is in
    elim (kind z) as (λ o. slice_get (cons_option o (filter_map kind zs)) (length (cons_option o (filter_map kind (take k zs)))) ≡ Some y) [
      | None ↦ rest
      | Some w ↦ rest
    ]
