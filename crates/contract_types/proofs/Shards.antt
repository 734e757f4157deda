-- Each pair of a table lies in one shard.
use Rattle.std.proofs.Common.{◌≡◌, ◌↔◌, Bool, ℕ, zero, suc, ◌+◌, ◌<◌, ◌≤◌, cond, ◌&&◌, true, false, nat_lt, List, [], ◌∷◌, length, get_or, inl, inr, refl, sym, ap, ◌∙◌, subst, arith}
use Rattle.std.proofs.lemmas.Bool.{or_parts, cases_lt, lt-ltb, le-ltb, cond_both, false≢true}
use Rattle.region_map.specs.declared.region.Region.{Region}
use Rattle.region_map.specs.Regions.{in_range, in_region}
use Rattle.region_map.proofs.Bands.{past_band}
use Rattle.contract_types.specs.declared.config.ShardConfig.{ShardConfig}
use Rattle.contract_types.specs.Tilings.{holders, allows_at, everywhere}
use Rattle.contract_types.specs.Configs.{ConfigState, IsConfig, shard_region, is_bad_region, has_bad_region, has_roles, is_config}
use Rattle.contract_types.specs.declared.tiling.Rule.TheVariants.{Apart, Whole}
use Rattle.contract_types.proofs.Begins.{good, regions_good}
use Rattle.contract_types.proofs.Everywhere.{apart_decides, whole_decides}

none_past : (hashes : ℕ) (shards : List ShardConfig) (h : ℕ) (k : List ℕ) → has_bad_region hashes shards ≡ false → hashes ≤ h → holders shard_region shards h k ≡ 0
none_past hashes [] h k e l = refl
none_past hashes (s ∷ ss) h k e l =
    let parts = or_parts (is_bad_region hashes s.region) (has_bad_region hashes ss) e in
    let g = good hashes s.region parts.0 in
    let m : s.region.hash_to ≤ h = let w = g.within in omega arith in
    ap (λ v. cond (v && in_range s.region.from s.region.to k) (1 + holders shard_region ss h k) (holders shard_region ss h k)) (past_band s.region.hash_from s.region.hash_to h m)
    ∙ none_past hashes ss h k parts.1 l

-- each pair of the table lies in exactly one shard, and no other pair lies in any
pub one_shard : (c : ConfigState) (h : ℕ) (k : List ℕ) → IsConfig c → holders shard_region c.shards h k ≡ cond (nat_lt h c.hashes) 1 0
one_shard c h k ok =
    elim (cases_lt h c.hashes) [
      | inl l ↦ one l ∙ sym (ap (λ v. cond v 1 0) (lt-ltb h c.hashes l))
      | inr l ↦ none_past c.hashes c.shards h k (regions_good c ok) l ∙ sym (ap (λ v. cond v 1 0) (le-ltb h c.hashes l))
    ]
  where
    at_one : (n : ℕ) → n ≤ 1 → (n ≡ 0 → ⊥) → n ≡ 1
    at_one zero m f = absurd (f refl)
    at_one (suc n) m f = omega arith

    one : h < c.hashes → holders shard_region c.shards h k ≡ 1
    one l =
        elim (cases_lt 1 (holders shard_region c.shards h k)) [
          | inl m ↦ absurd (ok.apart (h, k, m))
          | inr m ↦ at_one (holders shard_region c.shards h k) m (λ e. ok.whole (h, k, l, e))
        ]

-- ---- no two have a pair in common

module _ {T : Type 0} (place : T → Region) (h : ℕ) (k : List ℕ) where
  -- what has a pair is counted
  pub one_held : (xs : List T) (i : ℕ) (d : T) → i < length xs → in_region (place (get_or xs i d)) h k ≡ true → 0 < holders place xs h k
  one_held [] i d l e = absurd (omega arith)
  one_held (x ∷ xs) zero d l e = rw e (omega arith)
  one_held (x ∷ xs) (suc i) d l e =
      let m : i < length xs = omega arith in
      let r = one_held xs i d m e in
      cond_both (in_region (place x) h k) (1 + holders place xs h k) (holders place xs h k) (λ n. 0 < n) (λ f. omega arith) (λ f. r)

  fewer : (x : T) (xs : List T) → holders place (x ∷ xs) h k ≤ 1 → holders place xs h k ≤ 1
  fewer x xs l =
      elim (in_region (place x) h k) as (λ b. cond b (1 + holders place xs h k) (holders place xs h k) ≤ 1 → holders place xs h k ≤ 1) [
        | true ↦ λ m. omega arith
        | false ↦ λ m. m
      ] l

  first_only : (x : T) (xs : List T) (j : ℕ) (d : T) → holders place (x ∷ xs) h k ≤ 1 → in_region (place x) h k ≡ true → j < length xs
      → in_region (place (get_or xs j d)) h k ≡ true → ⊥
  first_only x xs j d l e m f =
      let r = one_held xs j d m f in
      let n : 1 + holders place xs h k ≤ 1 = subst (λ b. cond b (1 + holders place xs h k) (holders place xs h k) ≤ 1) e l in
      omega arith

  pub one_place : (xs : List T) (i j : ℕ) (d : T) → holders place xs h k ≤ 1 → i < length xs → j < length xs
      → in_region (place (get_or xs i d)) h k ≡ true → in_region (place (get_or xs j d)) h k ≡ true → i ≡ j
  one_place [] i j d l m n e f = absurd (omega arith)
  one_place (x ∷ xs) zero zero d l m n e f = refl
  one_place (x ∷ xs) zero (suc j) d l m n e f = absurd (first_only x xs j d l e (omega arith) f)
  one_place (x ∷ xs) (suc i) zero d l m n e f = absurd (first_only x xs i d l f (omega arith) e)
  one_place (x ∷ xs) (suc i) (suc j) d l m n e f = ap suc (one_place xs i j d (fewer x xs l) (omega arith) (omega arith) e f)

-- no two shards of a configuration have a pair in common
pub one_shard_place : (c : ConfigState) (h : ℕ) (k : List ℕ) (i j : ℕ) (s : ShardConfig) → IsConfig c → i < length c.shards → j < length c.shards
    → in_region (get_or c.shards i s).region h k ≡ true → in_region (get_or c.shards j s).region h k ≡ true → i ≡ j
one_shard_place c h k i j s ok l m e f =
    one_place shard_region h k c.shards i j s
    (elim (cases_lt 1 (holders shard_region c.shards h k)) [ inl n ↦ absurd (ok.apart (h, k, n)) | inr n ↦ n ]) l m e f

-- ---- the test of all rules

to_config : (c : ConfigState) (roles apart whole : Bool) → roles ≡ has_roles c.nodes c.hashes c.shards
    → apart ≡ everywhere shard_region shard_region c.shards c.shards (allows_at Apart shard_region shard_region c.shards c.shards)
    → whole ≡ everywhere shard_region shard_region c.shards c.shards (allows_at (Whole c.hashes) shard_region shard_region c.shards c.shards)
    → (roles && apart && whole) ≡ true → IsConfig c
to_config c true true true e f g h = record {
  roles = sym e;
  apart = λ o. absurd (false≢true ((apart_decides c.shards c.shards true f).1 o));
  whole = λ o. absurd (false≢true ((whole_decides c.hashes c.shards c.shards true g).1 o));
}
to_config c true true false e f g h = absurd (false≢true h)
to_config c true false whole e f g h = absurd (false≢true h)
to_config c false apart whole e f g h = absurd (false≢true h)

from_config : (c : ConfigState) (roles apart whole : Bool) → roles ≡ has_roles c.nodes c.hashes c.shards
    → apart ≡ everywhere shard_region shard_region c.shards c.shards (allows_at Apart shard_region shard_region c.shards c.shards)
    → whole ≡ everywhere shard_region shard_region c.shards c.shards (allows_at (Whole c.hashes) shard_region shard_region c.shards c.shards)
    → IsConfig c → (roles && apart && whole) ≡ true
from_config c true true true e f g ok = refl
from_config c true true false e f g ok = absurd (ok.whole ((whole_decides c.hashes c.shards c.shards false g).0 refl))
from_config c true false whole e f g ok = absurd (ok.apart ((apart_decides c.shards c.shards false f).0 refl))
from_config c false apart whole e f g ok = e ∙ ok.roles

pub config_decides : (c : ConfigState) → (is_config c ≡ true) ↔ IsConfig c
unfolding is_config
config_decides c = (to_config c _ _ _ refl refl refl, from_config c _ _ _ refl refl refl)
