-- The bounds of regions, and counting those that have a pair.
use Rattle.std.proofs.Common.{◌≡◌, ℕ, Bool, true, false, ◌&&◌, not, nat_lt, nat_le, List, [], Option, Some, None, refl, ap, ap₂, ◌∙◌, count_by}
use Rattle.std.specs.Option.{is_some}
use Rattle.std.proofs.lemmas.List.Recursion.{is_count_by}
use Rattle.region_map.specs.declared.region.Region.{Region}
use Rattle.region_map.specs.Regions.{before, low, below, in_range, in_region, is_bound}
use Rattle.region_map.proofs.Order.{before_some, before_self}
use Rattle.contract_types.specs.Tilings.{holders}

none_begun : (from : Option (List ℕ)) → is_bound from ≡ true → not (before [] (low from)) ≡ not (is_some from)
none_begun None h = ap not (before_self [])
none_begun (Some b) h = ap not (before_some b h)

none_below : (to : Option (List ℕ)) → is_bound to ≡ true → below [] to ≡ true
none_below None h = refl
none_below (Some b) h = before_some b h

-- the least byte list lies in the ranges that have no lower bound
pub none_in_region : (r : Region) (h : ℕ) → is_bound r.from ≡ true → is_bound r.to ≡ true
    → in_region r h [] ≡ ((nat_le r.hash_from h && nat_lt h r.hash_to) && not (is_some r.from))
none_in_region r h f t =
    let e : in_range r.from r.to [] ≡ (not (is_some r.from) && true) = ap₂ ◌&&◌ (none_begun r.from f) (none_below r.to t) in
    ap (λ b. (nat_le r.hash_from h && nat_lt h r.hash_to) && b) (e ∙ and_true (not (is_some r.from)))
  where
    and_true : (b : Bool) → (b && true) ≡ b
    and_true true = refl
    and_true false = refl

pub holders_count : {T : Type 0} (place : T → Region) (xs : List T) (h : ℕ) (k : List ℕ) → holders place xs h k ≡ count_by (λ x. in_region (place x) h k) xs
holders_count place xs h k = is_count_by (λ xs. holders place xs h k) (λ x. in_region (place x) h k) refl (λ x xs. refl) xs
