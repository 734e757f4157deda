-- What a table begins with, and a branch that is added.
use Rattle.std.proofs.Common.{◌≡◌, ◌==◌, ℕ, ◌+◌, ◌<◌, ◌≤◌, Bool, true, false, cond, ◌&&◌, ◌||◌, not, nat_lt, nat_le, List, [], ◌∷◌, length, get_or, Option, Some, None, refl, sym, ap, ap₂, ◌∙◌, subst, arith}
use Rattle.std.specs.List.{list_any}
use Rattle.std.specs.Option.{is_some}
use Rattle.std.proofs.lemmas.Bool.{and_parts, and_right, or_parts, or_right, not-true, not-false, not_from_false, ltb-true, ltb-false, lt-ltb, ne_eqb, cond_both, cond-false, false_from_ne_true, both_ways}
use Rattle.std.proofs.lemmas.Bool.Decides.{nat_tests}
use Rattle.std.proofs.lemmas.List.Folds.{list_any_at}
use Rattle.region_map.specs.declared.id.Id.{Id}
use Rattle.region_map.specs.declared.region.Region.{Region}
use Rattle.region_map.specs.Regions.{before, in_range, in_region, is_open, is_bound}
use Rattle.region_map.specs.Maps.{Pieced, IsCanonical, value_at}
use Rattle.region_map.proofs.Order.{before_nil}
use Rattle.region_map.proofs.Bands.{one_canonical}
use Rattle.region_map.proofs.Same.{same_maps}
use Rattle.region_map.specs.Equal.{same_id}
use Rattle.branch_history.specs.declared.version.Version.{Version}
use Rattle.branch_history.specs.Paths.{Branches, zero}
use Rattle.branch_history.specs.Histories.{knows}
use Rattle.contract_types.specs.declared.config.ShardConfig.{ShardConfig}
use Rattle.contract_types.specs.Tilings.{holders}
use Rattle.contract_types.specs.Configs.{ConfigState, IsConfig, shard_region, is_bad_region, has_bad_region, has_no_shards, has_bad_replicas, has_bad_roles, has_regions, has_replicas}
use Rattle.contract_types.specs.Tables.{IsKept, IsBegun, AllBelow, branch_at, first_id, first_birth, first_branches, zero_origin}

-- ---- regions of a configuration

pub record IsGood (hashes : ℕ) (r : Region) : Type 0 where
  pub some : r.hash_from < r.hash_to
  pub open_range : is_open r.from r.to ≡ true
  pub within : r.hash_to ≤ hashes

pub good : (hashes : ℕ) (r : Region) → is_bad_region hashes r ≡ false → IsGood hashes r
good hashes r e =
    let parts = or_parts (not (nat_lt r.hash_from r.hash_to && is_open r.from r.to)) (nat_lt hashes r.hash_to) e in
    let both = and_parts (nat_lt r.hash_from r.hash_to) (is_open r.from r.to) (not-false _ parts.0) in
    record { some = ltb-true _ _ both.0; open_range = both.1; within = ltb-false _ _ parts.1 }

in_table : (h hashes from to : ℕ) (b : Bool) → to ≤ hashes → (nat_lt h hashes && ((nat_le from h && nat_lt h to) && b)) ≡ ((nat_le from h && nat_lt h to) && b)
in_table h hashes from to true l = grind (arith, nat_tests)
in_table h hashes from to false l = grind (arith, nat_tests)

-- the map with the zero version on a region has that one piece
pub zero_origin_is : (m : Pieced Version) (hashes : ℕ) (r : Region) → not (is_bad_region hashes r) ≡ true → is_bound r.from ≡ true → is_bound r.to ≡ true
    → IsCanonical m → m.hashes ≡ hashes
    → ((h : ℕ) (k : List ℕ) → value_at m.pieces h k ≡ cond (nat_lt h hashes && in_region r h k) (Some zero) None) → m ≡ zero_origin hashes r
zero_origin_is m hashes r e f t c d at =
    let g = good hashes r (not-true _ e) in
    let some : 0 < hashes = let a = g.some in let b = g.within in omega arith in
    same_maps m (zero_origin hashes r) c
    (one_canonical hashes r.hash_from r.hash_to (record { from = r.from; to = r.to; value = zero }) ((r, zero) ∷ []) refl some g.some g.within
    (record { holds = g.open_range; begins = f; ends = t }))
    d (λ h k. at h k ∙ ap (λ b. cond b (Some zero) None) (in_table h hashes r.hash_from r.hash_to (in_range r.from r.to k) g.within))

pub none_bad : (p : ShardConfig → Bool) (xs : List ShardConfig) (i : ℕ) (d : ShardConfig) → list_any p xs ≡ false → i < length xs → p (get_or xs i d) ≡ false
none_bad p xs i d e l = false_from_ne_true _ (λ f. both_ways _ e (list_any_at p xs i d l f))

pub regions_first : (c : ConfigState) → IsConfig c → has_regions c.hashes c.shards ≡ true
regions_first c i =
    let roles = and_parts (has_replicas c.nodes c.hashes c.shards) (not (has_bad_roles c.shards)) i.roles in
    (and_parts (has_regions c.hashes c.shards) (not (has_bad_replicas c.nodes c.shards)) roles.0).0

pub regions_good : (c : ConfigState) → IsConfig c → has_bad_region c.hashes c.shards ≡ false
regions_good c i = not-true _ (and_parts (not (has_no_shards c.shards)) (not (has_bad_region c.hashes c.shards)) (regions_first c i)).1

-- a table has some hash
pub hashes_some : (c : ConfigState) → IsConfig c → 0 < c.hashes
hashes_some c i = of_first c.shards (not-true _ (and_parts (not (has_no_shards c.shards)) (not (has_bad_region c.hashes c.shards)) (regions_first c i)).0) (regions_good c i)
  where
    of_first : (shards : List ShardConfig) → has_no_shards shards ≡ false → has_bad_region c.hashes shards ≡ false → 0 < c.hashes
    of_first [] e f = absurd (cc)
    of_first (s ∷ ss) e f =
        let g = good c.hashes s.region (or_parts (is_bad_region c.hashes s.region) (has_bad_region c.hashes ss) f).0 in
        let a = g.some in
        let b = g.within in
        omega arith

-- the region of each shard
pub shard_good : (c : ConfigState) (i : ℕ) (s : ShardConfig) → IsConfig c → i < length c.shards → s ≡ get_or c.shards i s → not (is_bad_region c.hashes s.region) ≡ true
shard_good c i s ok l e =
    let P : ShardConfig → Type 0 = λ x. not (is_bad_region c.hashes x.region) ≡ true in
    subst P (sym e) (not_from_false _ (none_bad (λ x. is_bad_region c.hashes x.region) c.shards i s (regions_good c ok) l))

-- ---- branches

other_counter : (a b : Id) → a.counter < b.counter → same_id a b ≡ false
other_counter a b l = and_right ((a.node.0 == b.node.0) && (a.life == b.life)) (a.counter == b.counter) (ne_eqb a.counter b.counter (λ e. absurd (omega arith)))

-- an id whose counter all others are below is not known
pub below_unknown : (place : ℕ) (history : Branches) (id : Id) → AllBelow place history → place ≤ id.counter → knows history id ≡ false
below_unknown place [] id all l = refl
below_unknown place (b ∷ bs) id all l =
    let m : b.0.counter < id.counter = let a = all.0 in omega arith in
    cond-false (same_id b.0 id) true (knows bs id) (other_counter b.0 id m) ∙ below_unknown place bs id all.1 l

pub below_next : (place : ℕ) (history : Branches) → AllBelow place history → AllBelow (place + 1) history
below_next place [] all = tt
below_next place (b ∷ bs) all = (let a = all.0 in omega arith, below_next place bs all.1)

-- a value that is set on a part of a map
module _ (old new : Pieced Id) (r : Region) (id : Id)
    (at : (h : ℕ) (k : List ℕ) → value_at new.pieces h k ≡ cond (in_region r h k && is_some (value_at old.pieces h k)) (Some id) (value_at old.pieces h k))
  where
    some_still : (h : ℕ) (k : List ℕ) → is_some (value_at old.pieces h k) ≡ true → is_some (value_at new.pieces h k) ≡ true
    some_still h k s =
        ap is_some (at h k)
        ∙ cond_both (in_region r h k && is_some (value_at old.pieces h k)) (Some id) (value_at old.pieces h k) (λ (o : Option Id). is_some o ≡ true) (λ e. refl) (λ e. s)

    set_in : (h : ℕ) (k : List ℕ) → is_some (value_at old.pieces h k) ≡ true → in_region r h k ≡ true → value_at new.pieces h k ≡ Some id
    set_in h k s i = at h k ∙ ap₂ (λ a b. cond (a && b) (Some id) (value_at old.pieces h k)) i s

    set_out : (h : ℕ) (k : List ℕ) → in_region r h k ≡ false → value_at new.pieces h k ≡ value_at old.pieces h k
    set_out h k i = at h k ∙ ap (λ a. cond (a && is_some (value_at old.pieces h k)) (Some id) (value_at old.pieces h k)) i

-- the branch of a shard is added
pub begun_next : (hashes place : ℕ) (history : Branches) (old new : Pieced Id) (s : ShardConfig) → IsBegun hashes place history old
    → new.hashes ≡ old.hashes
    → ((h : ℕ) (k : List ℕ) → value_at new.pieces h k ≡ cond (in_region s.region h k && is_some (value_at old.pieces h k)) (Some (first_id place s)) (value_at old.pieces h k))
    → IsBegun hashes (place + 1) ((first_id place s, first_birth hashes s) ∷ history) new
begun_next hashes place history old new s b e at = record {
  hashes = e ∙ b.hashes;
  origins = (refl, b.origins);
  below = (omega arith, below_next place history b.below);
  current = λ h k l. some_still old new s.region (first_id place s) at h k (b.current h k l);
  branch = λ h k l some.
      elim (in_region s.region h k) as (λ v. in_region s.region h k ≡ v → value_at new.pieces h k ≡ cond v (Some (first_id place s)) (branch_at history h k)) [
        | true ↦ λ i. set_in old new s.region (first_id place s) at h k (b.current h k l) i
        | false ↦ λ i. set_out old new s.region (first_id place s) at h k i
            ∙ b.branch h k l (sym (ap (λ v. is_some (cond v (Some (first_id place s)) (branch_at history h k))) i) ∙ some)
      ] refl;
}

-- at first each pair has some id
pub begun_first : (hashes : ℕ) (first : Pieced Id) (id : Id) → first.hashes ≡ hashes
    → ((h : ℕ) (k : List ℕ) → value_at first.pieces h k ≡ cond (nat_lt h hashes && in_region (record { hash_from = 0; hash_to = hashes; from = None; to = None }) h k) (Some id) None)
    → IsBegun hashes 0 [] first
begun_first hashes first id e at = record {
  hashes = e;
  origins = tt;
  below = tt;
  current = λ h k l.
      let i = lt-ltb h hashes l in
      let n : nat_le 0 h ≡ true = grind (arith, nat_tests) in
      ap is_some (at h k ∙ ap (λ b. cond b (Some id) None) (all_true (nat_lt h hashes) (nat_le 0 h) (before k []) i n (before_nil k)));
  branch = λ h k l some. absurd (cc);
}
  where
    all_true : (a b c : Bool) → a ≡ true → b ≡ true → c ≡ false → (a && ((b && a) && (not c && true))) ≡ true
    all_true a b c x y z = ap₂ (λ p q. p && ((q && p) && (not c && true))) x y ∙ ap (λ r. not r && true) z

-- where a shard has a pair, the branches that the shards begin with have it too
first_some : (hashes place : ℕ) (shards : List ShardConfig) (older : Branches) (h : ℕ) (k : List ℕ)
    → (nat_lt 0 (holders shard_region shards h k) || is_some (branch_at older h k)) ≡ true → is_some (branch_at (first_branches hashes place shards older) h k) ≡ true
first_some hashes place [] older h k e = e
first_some hashes place (s ∷ ss) older h k e =
    first_some hashes (place + 1) ss ((first_id place s, first_birth hashes s) ∷ older) h k
    (elim (in_region s.region h k) as (λ v. (nat_lt 0 (cond v (1 + holders shard_region ss h k) (holders shard_region ss h k)) || is_some (branch_at older h k)) ≡ true
    → (nat_lt 0 (holders shard_region ss h k) || is_some (cond v (Some (first_id place s)) (branch_at older h k))) ≡ true) [
      | true ↦ λ f. or_right (nat_lt 0 (holders shard_region ss h k)) true refl
      | false ↦ λ f. f
    ] e)

pub some_branch : (c : ConfigState) (h : ℕ) (k : List ℕ) → IsConfig c → h < c.hashes → is_some (branch_at (first_branches c.hashes 0 c.shards []) h k) ≡ true
some_branch c h k ok l = first_some c.hashes 0 c.shards [] h k covered
  where
    covered : (nat_lt 0 (holders shard_region c.shards h k) || false) ≡ true
    covered =
        elim (nat_lt 0 (holders shard_region c.shards h k)) as (λ v. nat_lt 0 (holders shard_region c.shards h k) ≡ v → (v || false) ≡ true) [
          | true ↦ λ f. refl
          | false ↦ λ f. let n = ltb-false 0 (holders shard_region c.shards h k) f in absurd (ok.whole (h, k, l, omega arith))
        ] refl

pub begun_kept : (c : ConfigState) (place : ℕ) (history : Branches) (map : Pieced Id) → IsConfig c → IsBegun c.hashes place history map
    → history ≡ first_branches c.hashes 0 c.shards [] → IsKept c.hashes history map
begun_kept c place history map ok b e =
    let some : (h : ℕ) (k : List ℕ) → h < c.hashes → is_some (branch_at history h k) ≡ true = λ h k l.
    ap (λ bs. is_some (branch_at bs h k)) e ∙ some_branch c h k ok l in
    record { hashes = b.hashes; origins = b.origins; some = some; current = λ h k l. b.branch h k l (some h k l) }
