-- A rule on how many regions have a pair holds at every pair where it holds at the bounds.
use Rattle.std.proofs.Common.{◌≡◌, ℕ, ◌+◌, ◌≤◌, Bool, true, false, cond, ◌&&◌, not, nat_lt, nat_le, List, [], ◌∷◌, inl, inr, refl, sym, ap, ap₂, ◌∙◌, ◌↔◌, arith, ◌<◌, ◌||◌}
use Rattle.std.specs.List.{AllByRecursion, list_all}
use Rattle.std.proofs.lemmas.Bool.{and_parts, and_cases, or_parts, or_cases, ltb-true, ltb-false, lt-ltb, le-ltb, leb-true, leb-false}
use Rattle.std.proofs.lemmas.Bool.Decides.{nat_tests}
use Rattle.region_map.proofs.Made.{below_together}
use Rattle.region_map.specs.declared.region.Region.{Region}
use Rattle.region_map.specs.Regions.{before, low, in_region}
use Rattle.region_map.proofs.Order.{before_nil, before_self, before_back, then_before, not_before}
use Rattle.contract_types.specs.declared.tiling.Rule.{Rule}
use Rattle.contract_types.specs.declared.tiling.Rule.TheVariants.{Apart, Whole, Tiles}
use Rattle.contract_types.specs.Tilings.{holders, allows, allows_at, at_bounds, at_hashes, at_all_bounds, everywhere}
use Rattle.contract_types.specs.declared.config.ShardConfig.{ShardConfig}
use Rattle.contract_types.specs.Configs.{shard_region, Overlaps, HasGap}
use Rattle.contract_types.proofs.Nearest.{near, nearer}

-- ---- numbers in order

lt_self : (a : ℕ) → nat_lt a a ≡ false
lt_self a = le-ltb a a (omega arith)

lt_back : (a b : ℕ) → nat_lt a b ≡ true → nat_lt b a ≡ false
lt_back a b h = let i = ltb-true a b h in le-ltb b a (omega arith)

lt_chain : (a b c : ℕ) → nat_lt b a ≡ false → nat_lt c b ≡ false → nat_lt c a ≡ false
lt_chain a b c h i = let j = ltb-false b a h in let k = ltb-false c b i in le-ltb c a (omega arith)

lt_late : (a b c : ℕ) → nat_lt b a ≡ false → nat_lt b c ≡ true → nat_lt a c ≡ true
lt_late a b c h i = let j = ltb-false b a h in let k = ltb-true b c i in lt-ltb a c (omega arith)

le_is : (a b : ℕ) → nat_le a b ≡ not (nat_lt b a)
le_is a b = grind (arith, nat_tests)

-- ---- lists

all_of : {T : Type 0} (f g : T → Bool) (xs : List T) → list_all (λ x. f x && g x) xs ≡ true → AllByRecursion (λ x. (f x ≡ true) × (g x ≡ true)) xs
all_of f g [] h = tt
all_of f g (x ∷ xs) h =
    let p = and_parts (f x && g x) (list_all (λ x. f x && g x) xs) h in
    let q = and_parts (f x) (g x) p.0 in
    (q, all_of f g xs p.1)

some_not : {T : Type 0} (f : T → Bool) (xs : List T) → list_all f xs ≡ false → (x : T) × (f x ≡ false)
some_not f [] h = absurd (cc)
some_not f (x ∷ xs) h = elim (and_cases (f x) (list_all f xs) h) [ inl e ↦ (x, e) | inr e ↦ some_not f xs e ]

-- ---- regions

same_region : (r : Region) (h i : ℕ) (k l : List ℕ) → nat_lt h r.hash_from ≡ nat_lt i r.hash_from → nat_lt h r.hash_to ≡ nat_lt i r.hash_to
    → before k (low r.from) ≡ before l (low r.from) → before k (low r.to) ≡ before l (low r.to) → in_region r h k ≡ in_region r i l
same_region r h i k l a b c d =
    ap₂ ◌&&◌
    (ap₂ ◌&&◌ (le_is r.hash_from h ∙ ap not a ∙ sym (le_is r.hash_from i)) b)
    (ap₂ ◌&&◌ (ap not c) (below_together r.to k l d))

same_all : {X : Type 0} (place : X → Region) (xs : List X) (h i : ℕ) (k l : List ℕ)
    → AllByRecursion (λ x. (nat_lt h (place x).hash_from ≡ nat_lt i (place x).hash_from) × (nat_lt h (place x).hash_to ≡ nat_lt i (place x).hash_to)) xs
    → AllByRecursion (λ x. (before k (low (place x).from) ≡ before l (low (place x).from)) × (before k (low (place x).to) ≡ before l (low (place x).to))) xs
    → AllByRecursion (λ x. in_region (place x) h k ≡ in_region (place x) i l) xs
same_all place [] h i k l a b = tt
same_all place (x ∷ xs) h i k l a b = (same_region (place x) h i k l a.0.0 a.0.1 b.0.0 b.0.1, same_all place xs h i k l a.1 b.1)

same_holders : {X : Type 0} (place : X → Region) (xs : List X) (h i : ℕ) (k l : List ℕ)
    → AllByRecursion (λ x. in_region (place x) h k ≡ in_region (place x) i l) xs → holders place xs h k ≡ holders place xs i l
same_holders place [] h i k l a = refl
same_holders place (x ∷ xs) h i k l a = ap₂ (λ c n. cond c (1 + n) n) a.0 (same_holders place xs h i k l a.1)

-- a rule that holds with a hash holds with each greater one
allows_more : (rule : Rule) (h i n m : ℕ) → i ≤ h → allows rule i n m ≡ true → allows rule h n m ≡ true
allows_more Apart h i n m l e = e
allows_more (Whole hashes) h i n m l e = grind (arith, nat_tests)
allows_more Tiles h i n m l e = e

-- from a pair down to bounds, at which a test passes that passes at all of them: no region is left or entered
pub record Below {T U : Type 0} (p : T → Region) (q : U → Region) (xs : List T) (ys : List U) (test : ℕ → List ℕ → Bool) (h : ℕ) (k : List ℕ) : Type 0 where
  pub hash : ℕ
  pub bytes : List ℕ
  pub later : hash ≤ h
  pub passes : test hash bytes ≡ true
  pub first : AllByRecursion (λ x. in_region (p x) h k ≡ in_region (p x) hash bytes) xs
  pub second : AllByRecursion (λ y. in_region (q y) h k ≡ in_region (q y) hash bytes) ys

pub below_of : {T U : Type 0} (p : T → Region) (q : U → Region) (xs : List T) (ys : List U) (test : ℕ → List ℕ → Bool)
    → everywhere p q xs ys test ≡ true → (h : ℕ) (k : List ℕ) → Below p q xs ys test h k
below_of {T} {U} p q xs ys test e h k =
    let passes_at : ℕ → Bool = λ i. at_all_bounds p q xs ys (test i) in
    let outer = and_parts (passes_at 0 && at_hashes p xs passes_at) (at_hashes q ys passes_at) e in
    let inner = and_parts (passes_at 0) (at_hashes p xs passes_at) outer.0 in
    let one = near ℕ nat_lt lt_self lt_back lt_chain lt_late (λ i. passes_at i ≡ true) h 0 (λ (x : T). (p x).hash_from) (λ (x : T). (p x).hash_to) xs (le-ltb h 0 (omega arith)) inner.0
    (all_of (λ x. passes_at (p x).hash_from) (λ x. passes_at (p x).hash_to) xs inner.1) in
    let two = near ℕ nat_lt lt_self lt_back lt_chain lt_late (λ i. passes_at i ≡ true) h one.point (λ (y : U). (q y).hash_from) (λ (y : U). (q y).hash_to) ys one.reached one.passes
    (all_of (λ y. passes_at (q y).hash_from) (λ y. passes_at (q y).hash_to) ys outer.1) in
    let i = two.point in
    let hash_xs = nearer ℕ nat_lt lt_self lt_back lt_chain lt_late h one.point i (λ (x : T). (p x).hash_from) (λ (x : T). (p x).hash_to) xs two.reached two.above one.sides in
    let part = and_parts (test i [] && at_bounds p xs (test i)) (at_bounds q ys (test i)) two.passes in
    let core = and_parts (test i []) (at_bounds p xs (test i)) part.0 in
    let three = near (List ℕ) before before_self before_back not_before then_before (λ l. test i l ≡ true) k [] (λ (x : T). low (p x).from) (λ (x : T). low (p x).to) xs (before_nil k) core.0
    (all_of (λ x. test i (low (p x).from)) (λ x. test i (low (p x).to)) xs core.1) in
    let four = near (List ℕ) before before_self before_back not_before then_before (λ l. test i l ≡ true) k three.point (λ (y : U). low (q y).from) (λ (y : U). low (q y).to) ys three.reached three.passes
    (all_of (λ y. test i (low (q y).from)) (λ y. test i (low (q y).to)) ys part.1) in
    let l = four.point in
    let bound_xs = nearer (List ℕ) before before_self before_back not_before then_before k three.point l (λ (x : T). low (p x).from) (λ (x : T). low (p x).to) xs four.reached four.above three.sides in
    record {
      hash = i;
      bytes = l;
      later = ltb-false h i two.reached;
      passes = four.passes;
      first = same_all p xs h i k l hash_xs bound_xs;
      second = same_all q ys h i k l two.sides four.sides;
    }

pub from_everywhere : {T U : Type 0} (rule : Rule) (p : T → Region) (q : U → Region) (xs : List T) (ys : List U)
    → everywhere p q xs ys (allows_at rule p q xs ys) ≡ true → (h : ℕ) (k : List ℕ) → allows_at rule p q xs ys h k ≡ true
from_everywhere rule p q xs ys e h k = from (below_of p q xs ys (allows_at rule p q xs ys) e h k)
  where
    from : Below p q xs ys (allows_at rule p q xs ys) h k → allows_at rule p q xs ys h k ≡ true
    from b =
        allows_more rule h b.hash (holders p xs h k) (holders q ys h k) b.later
        (ap₂ (allows rule b.hash) (same_holders p xs h b.hash k b.bytes b.first) (same_holders q ys h b.hash k b.bytes b.second) ∙ b.passes)

pub fails_somewhere : {T U : Type 0} (p : T → Region) (q : U → Region) (xs : List T) (ys : List U) (test : ℕ → List ℕ → Bool)
    → everywhere p q xs ys test ≡ false → (h : ℕ) × (k : List ℕ) × (test h k ≡ false)
fails_somewhere {T} {U} p q xs ys test e =
    let passes_at : ℕ → Bool = λ i. at_all_bounds p q xs ys (test i) in
    elim (and_cases (passes_at 0 && at_hashes p xs passes_at) (at_hashes q ys passes_at) e) [
      | inl a ↦ elim (and_cases (passes_at 0) (at_hashes p xs passes_at) a) [
        | inl b ↦ in_row test 0 b
        | inr b ↦ at_hash p xs test b
      ]
      | inr a ↦ at_hash q ys test a
    ]
  where
    at_bound : {X : Type 0} (place : X → Region) (zs : List X) (test : ℕ → List ℕ → Bool) (h : ℕ) → at_bounds place zs (test h) ≡ false
        → (h : ℕ) × (k : List ℕ) × (test h k ≡ false)
    at_bound place zs test h e =
        let found = some_not (λ x. test h (low (place x).from) && test h (low (place x).to)) zs e in
        elim (and_cases (test h (low (place found.0).from)) (test h (low (place found.0).to)) found.1) [
          | inl a ↦ (h, low (place found.0).from, a)
          | inr a ↦ (h, low (place found.0).to, a)
        ]

    in_row : (test : ℕ → List ℕ → Bool) (h : ℕ) → at_all_bounds p q xs ys (test h) ≡ false → (h : ℕ) × (k : List ℕ) × (test h k ≡ false)
    in_row test h e =
        elim (and_cases (test h [] && at_bounds p xs (test h)) (at_bounds q ys (test h)) e) [
          | inl a ↦ elim (and_cases (test h []) (at_bounds p xs (test h)) a) [
            | inl b ↦ (h, [], b)
            | inr b ↦ at_bound p xs test h b
          ]
          | inr a ↦ at_bound q ys test h a
        ]

    at_hash : {X : Type 0} (place : X → Region) (zs : List X) (test : ℕ → List ℕ → Bool) → at_hashes place zs (λ h. at_all_bounds p q xs ys (test h)) ≡ false
        → (h : ℕ) × (k : List ℕ) × (test h k ≡ false)
    at_hash place zs test e =
        let found = some_not (λ x. at_all_bounds p q xs ys (test (place x).hash_from) && at_all_bounds p q xs ys (test (place x).hash_to)) zs e in
        elim (and_cases (at_all_bounds p q xs ys (test (place found.0).hash_from)) (at_all_bounds p q xs ys (test (place found.0).hash_to)) found.1) [
          | inl a ↦ in_row test (place found.0).hash_from a
          | inr a ↦ in_row test (place found.0).hash_to a
        ]

pub somewhere_not : {T U : Type 0} (rule : Rule) (p : T → Region) (q : U → Region) (xs : List T) (ys : List U)
    → everywhere p q xs ys (allows_at rule p q xs ys) ≡ false → (h : ℕ) × (k : List ℕ) × (allows_at rule p q xs ys h k ≡ false)
somewhere_not rule p q xs ys e = fails_somewhere p q xs ys (allows_at rule p q xs ys) e

-- ---- apart, and whole

-- that at most one shard has each pair is decided
pub apart_decides : (xs ys : List ShardConfig) (b : Bool)
    → b ≡ everywhere shard_region shard_region xs ys (allows_at Apart shard_region shard_region xs ys) → (not b ≡ true) ↔ Overlaps xs
apart_decides xs ys b e = (to b e, from b e)
  where
    to : (b : Bool) → b ≡ everywhere shard_region shard_region xs ys (allows_at Apart shard_region shard_region xs ys) → not b ≡ true → Overlaps xs
    to true e h = absurd (cc)
    to false e h = let s = somewhere_not Apart shard_region shard_region xs ys (sym e) in (s.0, s.1, leb-false (holders shard_region xs s.0 s.1) 1 s.2)

    from : (b : Bool) → b ≡ everywhere shard_region shard_region xs ys (allows_at Apart shard_region shard_region xs ys) → Overlaps xs → not b ≡ true
    from false e s = refl
    from true e s =
        let f = leb-true (holders shard_region xs s.0 s.1) 1 (from_everywhere Apart shard_region shard_region xs ys (sym e) s.0 s.1) in
        let g : 1 < holders shard_region xs s.0 s.1 = s.2 in
        absurd (omega arith)

-- that one has each pair with a hash of the table is decided
pub whole_decides : (hashes : ℕ) (xs ys : List ShardConfig) (b : Bool)
    → b ≡ everywhere shard_region shard_region xs ys (allows_at (Whole hashes) shard_region shard_region xs ys) → (not b ≡ true) ↔ HasGap hashes xs
whole_decides hashes xs ys b e = (to b e, from b e)
  where
    to : (b : Bool) → b ≡ everywhere shard_region shard_region xs ys (allows_at (Whole hashes) shard_region shard_region xs ys) → not b ≡ true → HasGap hashes xs
    to true e h = absurd (cc)
    to false e h =
        let s = somewhere_not (Whole hashes) shard_region shard_region xs ys (sym e) in
        let parts = or_parts (nat_le hashes s.0) (nat_lt 0 (holders shard_region xs s.0 s.1)) s.2 in
        let none = ltb-false 0 (holders shard_region xs s.0 s.1) parts.1 in
        (s.0, s.1, leb-false hashes s.0 parts.0, omega arith)

    from : (b : Bool) → b ≡ everywhere shard_region shard_region xs ys (allows_at (Whole hashes) shard_region shard_region xs ys) → HasGap hashes xs → not b ≡ true
    from false e s = refl
    from true e s =
        let f : (nat_le hashes s.0 || nat_lt 0 (holders shard_region xs s.0 s.1)) ≡ true = from_everywhere (Whole hashes) shard_region shard_region xs ys (sym e) s.0 s.1 in
        let g : s.0 < hashes = s.2 in
        let n : holders shard_region xs s.0 s.1 ≡ 0 = s.3 in
        elim (or_cases (nat_le hashes s.0) (nat_lt 0 (holders shard_region xs s.0 s.1)) f) [
          | inl a ↦ let l = leb-true hashes s.0 a in absurd (omega arith)
          | inr a ↦ let l = ltb-true 0 (holders shard_region xs s.0 s.1) a in absurd (omega arith)
        ]
