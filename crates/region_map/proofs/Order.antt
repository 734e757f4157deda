-- The order of byte lists is total and strict, and the empty list is its least.
use Rattle.std.proofs.Common.{◌≡◌, ℕ, true, false, List, [], ◌∷◌, length, nat_lt, refl, sym, ap, ◌∙◌, subst}
use Rattle.std.specs.Ordering.{is_lt, ordering_reverse}
use Rattle.std.specs.declared.cmp.Ordering.{Ordering}
use Rattle.std.specs.declared.cmp.Ordering.TheVariants.{Less, Equal, Greater}
use Rattle.std.proofs.lemmas.Cmp.{nat_list_cmp_total, tied_itself}
use Rattle.std.proofs.lemmas.Map.Lookups.{exact_bytes}
use Rattle.region_map.specs.Regions.{before}

is_less : (o : Ordering) → is_lt o ≡ true → o ≡ Less
is_less Less h = refl
is_less Equal h = cc
is_less Greater h = cc

pub before_nil : (k : List ℕ) → before k [] ≡ false
unfolding before
before_nil [] = refl
before_nil (x ∷ xs) = refl

pub before_some : (k : List ℕ) → nat_lt 0 (length k) ≡ true → before [] k ≡ true
unfolding before
before_some [] h = absurd (cc)
before_some (x ∷ xs) h = refl

pub before_self : (k : List ℕ) → before k k ≡ false
unfolding before
before_self k = ap is_lt (tied_itself nat_list_cmp_total k)

pub before_trans : (a b c : List ℕ) → before a b ≡ true → before b c ≡ true → before a c ≡ true
unfolding before
before_trans a b c h i = ap is_lt (nat_list_cmp_total.trans a b c (is_less _ h) (is_less _ i))

by_reverse : (x y : Ordering) → x ≡ ordering_reverse y → is_lt x ≡ true → is_lt y ≡ false
by_reverse x Less e h = cc
by_reverse x Equal e h = refl
by_reverse x Greater e h = refl

pub before_back : (a b : List ℕ) → before a b ≡ true → before b a ≡ false
unfolding before
before_back a b h = by_reverse _ _ (nat_list_cmp_total.antisymm a b) h

neither : (x y : Ordering) → x ≡ ordering_reverse y → is_lt x ≡ false → is_lt y ≡ false → x ≡ Equal
neither x Less e h i = cc
neither x Equal e h i = e
neither x Greater e h i = let f : is_lt x ≡ true = ap is_lt e in cc

pub before_neither : (a b : List ℕ) → before a b ≡ false → before b a ≡ false → a ≡ b
unfolding before
before_neither a b h i = exact_bytes a b (neither _ _ (nat_list_cmp_total.antisymm a b) h i)

-- a < b, b ≤ c
pub before_then : (a b c : List ℕ) → before a b ≡ true → before c b ≡ false → before a c ≡ true
before_then a b c h i =
    elim (before b c) as (λ v. before b c ≡ v → before a c ≡ true) [
      | true ↦ λ e. before_trans a b c h e
      | false ↦ λ e. subst (λ x. before a x ≡ true) (before_neither b c e i) h
    ] refl

-- a ≤ b, b < c
pub then_before : (a b c : List ℕ) → before b a ≡ false → before b c ≡ true → before a c ≡ true
then_before a b c h i =
    elim (before a b) as (λ v. before a b ≡ v → before a c ≡ true) [
      | true ↦ λ e. before_trans a b c e i
      | false ↦ λ e. subst (λ x. before x c ≡ true) (sym (before_neither a b e h)) i
    ] refl

-- a ≤ b, b ≤ c
pub not_before : (a b c : List ℕ) → before b a ≡ false → before c b ≡ false → before c a ≡ false
not_before a b c h i =
    elim (before c a) as (λ v. before c a ≡ v → v ≡ false) [
      | true ↦ λ e. sym (before_then c a b e h) ∙ i
      | false ↦ λ e. refl
    ] refl
