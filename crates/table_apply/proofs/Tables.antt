-- The laws of the table that follows from a list of changes.
use Rattle.std.proofs.Common.{◌≡◌, ◌==◌, ℕ, zero, suc, ◌+◌, ◌<◌, ◌≤◌, ◌⊎◌, Bool, true, false, cond, ◌&&◌, ◌||◌, not, nat_lt, List, [], ◌∷◌, ◌++◌, map, filter, Option, Some, None, inl, inr, refl, sym, ap, ap₂, ◌∙◌, subst, arith}
use Rattle.std.specs.List.{AllByRecursion, list_any}
use Rattle.std.specs.Option.{is_some}
use Rattle.std.proofs.lemmas.Bool.{and_parts, and_right, or_parts, or_cases, not-true, eqb-true, eq-eqb, ne_eqb, lt-ltb, cases_lt, cond_both, both_ways}
use Rattle.list_laws.proofs.All.{all_append, all_filter}
use Rattle.list_laws.proofs.Counts.{counts_at_most_once}
use Rattle.list_laws.specs.Members.{IsIn}
use Rattle.list_laws.proofs.Members.{IsIn-append, IsIn-filter, IsIn-map, IsIn-from_any, passes_member, all_member}
use Rattle.contract_types.proofs.Shards.{one_shard}
use Rattle.region_map.specs.declared.id.Id.{Id}
use Rattle.region_map.specs.Regions.{in_region}
use Rattle.region_map.specs.Equal.{same_id}
use Rattle.branch_history.specs.declared.history.BranchBirth.{BranchBirth}
use Rattle.branch_history.specs.Paths.{Branches}
use Rattle.branch_history.specs.Histories.{birth_of, knows, HasHashes, IsHistory}
use Rattle.branch_history.proofs.PathLaws.{id_same, id_self}
use Rattle.contract_types.specs.declared.contract.Contract.{Contract}
use Rattle.contract_types.specs.declared.contract.Holder.{Holder}
use Rattle.contract_types.specs.declared.change.Change.{Change}
use Rattle.contract_types.specs.declared.config.ShardConfig.{ShardConfig}
use Rattle.contract_types.specs.Configs.{ConfigState, IsConfig, shard_region}
use Rattle.contract_types.specs.Tilings.{holders}
use Rattle.contract_types.specs.Tables.{AllBelow, branch_at, first_contract, first_contracts, first_id, first_birth, first_branches}
use Rattle.contract_types.proofs.Begins.{some_branch, below_unknown, below_next}
use Rattle.table_apply.specs.Conditions.{contract_region, leaving, staying, has_id, is_held, same_regions, same_primaries, may_follow, are_new}
use Rattle.table_apply.specs.Effects.{tenure_from, placed, replaced, applied_at, FitsTable}
use Rattle.table_apply.specs.Runs.{change_at, table_at, contract_at, how_many, Replaces, Goes, IsPast, AreFounded}
use Rattle.table_apply.proofs.Based.{region_same}
use Rattle.table_apply.proofs.Steps.{Accepted, contracts_after, history_after}
use Rattle.table_apply.proofs.Pairs.{the_one, at_is, some_at, has_some, holders_split, tiled, replaced_count}

-- ---- one contract has each pair

first_count : (place : ℕ) (shards : List ShardConfig) (h : ℕ) (k : List ℕ) → holders contract_region (first_contracts place shards) h k ≡ holders shard_region shards h k
first_count place [] h k = refl
first_count place (s ∷ ss) h k = ap (λ n. cond (in_region s.region h k) (1 + n) n) (first_count (place + 1) ss h k)

pub count : (config : ConfigState) (changes : List Change) (w h : ℕ) (k : List ℕ) → IsConfig config
    → holders contract_region (table_at config changes w).contracts h k ≡ cond (nat_lt h config.hashes) 1 0
count config changes zero h k ok = first_count 0 config.shards h k ∙ one_shard config h k ok
count config changes (suc w) h k ok =
    let t = table_at config changes w in
    let before = count config changes w h k ok in
    let at_most : holders contract_region t.contracts h k ≤ 1 = subst (λ n. n ≤ 1) (sym before) (counts_at_most_once (nat_lt h config.hashes)) in
    contracts_after (λ cs. holders contract_region cs h k ≡ cond (nat_lt h config.hashes) 1 0) t (suc w) (change_at changes w) before
    (λ removed added a. replaced_count t.contracts (suc w) removed added h k a at_most ∙ before)

pub few : (config : ConfigState) (changes : List Change) (w h : ℕ) (k : List ℕ) → IsConfig config → holders contract_region (table_at config changes w).contracts h k ≤ 1
few config changes w h k ok = subst (λ n. n ≤ 1) (sym (count config changes w h k ok)) (counts_at_most_once (nat_lt h config.hashes))

pub some : (config : ConfigState) (changes : List Change) (w h : ℕ) (k : List ℕ) → IsConfig config → h < config.hashes
    → is_some (contract_at (table_at config changes w).contracts h k) ≡ true
some config changes w h k ok l =
    let e = count config changes w h k ok ∙ ap (λ v. cond v 1 0) (lt-ltb h config.hashes l) in
    let r = some_at (table_at config changes w).contracts h k (omega (arith, e)) in
    ap is_some r.1

-- ---- ids

many_append : (xs ys : List Contract) (id : Id) → how_many (xs ++ ys) id ≡ how_many xs id + how_many ys id
many_append [] ys id = omega arith
many_append (x ∷ xs) ys id =
    elim (same_id x.id id) as (λ v. cond v (1 + how_many (xs ++ ys) id) (how_many (xs ++ ys) id) ≡ cond v (1 + how_many xs id) (how_many xs id) + how_many ys id) [
      | true ↦ let e = many_append xs ys id in omega arith
      | false ↦ many_append xs ys id
    ]

many_placed : (removed : List Contract) (index : ℕ) (added : List Contract) (id : Id) → how_many (map (placed removed index) added) id ≡ how_many added id
many_placed removed index [] id = refl
many_placed removed index (c ∷ cs) id = ap (λ n. cond (same_id c.id id) (1 + n) n) (many_placed removed index cs id)

many_filter : (p : Contract → Bool) (cs : List Contract) (id : Id) → how_many (filter p cs) id ≤ how_many cs id
many_filter p [] id = omega arith
many_filter p (c ∷ cs) id =
    let e = many_filter p cs id in
    elim (p c) as (λ u. how_many (cond u (c ∷ filter p cs) (filter p cs)) id ≤ cond (same_id c.id id) (1 + how_many cs id) (how_many cs id)) [
      | true ↦ elim (same_id c.id id) as (λ v. cond v (1 + how_many (filter p cs) id) (how_many (filter p cs) id) ≤ cond v (1 + how_many cs id) (how_many cs id)) [
        | true ↦ omega arith
        | false ↦ e
      ]
      | false ↦ elim (same_id c.id id) as (λ v. how_many (filter p cs) id ≤ cond v (1 + how_many cs id) (how_many cs id)) [
        | true ↦ omega arith
        | false ↦ e
      ]
    ]

none_id : (cs : List Contract) (id : Id) → has_id cs id ≡ false → how_many cs id ≡ 0
none_id [] id e = refl
none_id (c ∷ cs) id e =
    let parts = or_parts (same_id c.id id) (has_id cs id) e in
    ap (λ v. cond v (1 + how_many cs id) (how_many cs id)) parts.0 ∙ none_id cs id parts.1

record NewIds (contracts added : List Contract) (id : Id) : Type 0 where
  one : how_many added id ≤ 1
  apart : 0 < how_many added id → how_many contracts id ≡ 0

new_ids : (contracts added : List Contract) (id : Id) → are_new contracts added ≡ true → NewIds contracts added id
new_ids contracts [] id e = record { one = omega arith; apart = λ l. absurd (omega arith) }
new_ids contracts (c ∷ cs) id e =
    let outer = and_parts (not (has_id contracts c.id) && not (has_id cs c.id)) (are_new contracts cs) e in
    let both = and_parts (not (has_id contracts c.id)) (not (has_id cs c.id)) outer.0 in
    elim (same_id c.id id) as (λ v. same_id c.id id ≡ v → NewIds contracts (c ∷ cs) id) [
      | true ↦ λ f.
          let same = id_same c.id id f in
          let mine = subst (λ i. how_many cs i ≡ 0) same (none_id cs c.id (not-true _ both.1)) in
          let theirs = subst (λ i. how_many contracts i ≡ 0) same (none_id contracts c.id (not-true _ both.0)) in
          let here : how_many (c ∷ cs) id ≡ 1 + how_many cs id = ap (λ v. cond v (1 + how_many cs id) (how_many cs id)) f in
          record { one = omega (arith, here, mine); apart = λ l. theirs }
      | false ↦ λ f.
          let rest = new_ids contracts cs id outer.1 in
          let here : how_many (c ∷ cs) id ≡ how_many cs id = ap (λ v. cond v (1 + how_many cs id) (how_many cs id)) f in
          let one = rest.one in
          record { one = omega (arith, here, one); apart = λ l. rest.apart (omega (arith, here, l)) }
    ] refl

none_below : (place : ℕ) (shards : List ShardConfig) (id : Id) → id.counter < place → how_many (first_contracts place shards) id ≡ 0
none_below place [] id l = refl
none_below place (s ∷ ss) id l =
    let c = first_contract place s in
    ap (λ v. cond v (1 + how_many (first_contracts (place + 1) ss) id) (how_many (first_contracts (place + 1) ss) id))
    (and_right ((c.id.node.0 == id.node.0) && (c.id.life == id.life)) (place == id.counter) (ne_eqb place id.counter (λ e. absurd (omega arith))))
    ∙ none_below (place + 1) ss id (omega arith)

first_ids : (place : ℕ) (shards : List ShardConfig) (id : Id) → how_many (first_contracts place shards) id ≤ 1
first_ids place [] id = omega arith
first_ids place (s ∷ ss) id =
    elim (same_id (first_contract place s).id id) as (λ v. same_id (first_contract place s).id id ≡ v
    → cond v (1 + how_many (first_contracts (place + 1) ss) id) (how_many (first_contracts (place + 1) ss) id) ≤ 1) [
      | true ↦ λ e.
          let n : place ≡ id.counter = ap (λ (i : Id). i.counter) (id_same (first_contract place s).id id e) in
          let none = none_below (place + 1) ss id (omega arith) in
          omega arith
      | false ↦ λ e. first_ids (place + 1) ss id
    ] refl

pub ids : (config : ConfigState) (changes : List Change) (w : ℕ) (id : Id) → how_many (table_at config changes w).contracts id ≤ 1
ids config changes zero id = first_ids 0 config.shards id
ids config changes (suc w) id =
    let t = table_at config changes w in
    let before = ids config changes w id in
    contracts_after (λ cs. how_many cs id ≤ 1) t (suc w) (change_at changes w) before (λ removed added a.
    let e = many_append (staying t.contracts removed) (map (placed (leaving t.contracts removed) (suc w)) added) id in
    let f = many_placed (leaving t.contracts removed) (suc w) added id in
    let g : how_many (staying t.contracts removed) id ≤ how_many t.contracts id = many_filter _ t.contracts id in
    let n = new_ids t.contracts added id a.new in
    let one = n.one in
    elim (cases_lt 0 (how_many added id)) [
      | inl l ↦ let z = n.apart l in omega (arith, e, f, g, z, one)
      | inr l ↦ omega (arith, e, f, g, l, before)
    ])

-- ---- replacing

record Keeps (removed : List Contract) (index : ℕ) (c : Contract) : Type 0 where
  old : Contract
  is_in : IsIn removed old
  region : same_regions old.region c.region ≡ true
  primary : same_primaries old.primary c.primary ≡ true
  tenure : tenure_from removed index c ≡ old.tenure

tenure_of : (removed : List Contract) (index : ℕ) (c : Contract) → (tenure_from removed index c ≡ index) ⊎ Keeps removed index c
tenure_of [] index c = inl refl
tenure_of (r ∷ rs) index c =
    elim (same_regions r.region c.region && same_primaries r.primary c.primary) as (λ v. (same_regions r.region c.region && same_primaries r.primary c.primary) ≡ v
    → (tenure_from (r ∷ rs) index c ≡ index) ⊎ Keeps (r ∷ rs) index c) [
      | true ↦ λ e.
          let both = and_parts (same_regions r.region c.region) (same_primaries r.primary c.primary) e in
          inr (record { old = r; is_in = inl refl; region = both.0; primary = both.1; tenure = ap (λ v. cond v r.tenure (tenure_from rs index c)) e })
      | false ↦ λ e.
          let here : tenure_from (r ∷ rs) index c ≡ tenure_from rs index c = ap (λ v. cond v r.tenure (tenure_from rs index c)) e in
          elim (tenure_of rs index c) [
            | inl f ↦ inl (here ∙ f)
            | inr f ↦ inr (record { old = f.old; is_in = inr f.is_in; region = f.region; primary = f.primary; tenure = here ∙ f.tenure })
          ]
    ] refl

has_pair : (c d : Contract) (h : ℕ) (k : List ℕ) → c.region ≡ d.region → in_region d.region h k ≡ true → in_region c.region h k ≡ true
has_pair c d h k e i = ap (λ r. in_region r h k) e ∙ i

step : (contracts : List Contract) (index : ℕ) (removed : List Id) (added : List Contract) (h : ℕ) (k : List ℕ) (c : Contract) → Accepted contracts removed added
    → holders contract_region contracts h k ≤ 1 → contract_at (replaced contracts index removed added) h k ≡ Some c
    → (contract_at contracts h k ≡ Some c) ⊎ ((old : Contract) × (contract_at contracts h k ≡ Some old) × Replaces index old c)
step contracts index removed added h k c a l e =
    let here = at_is (replaced contracts index removed added) h k c e in
    elim (IsIn-append (staying contracts removed) (map (placed (leaving contracts removed) index) added) c here.0) [
      | inl b ↦ inl (the_one contracts h k c l (IsIn-filter _ contracts c b).0 here.1)
      | inr b ↦ came (IsIn-map (placed (leaving contracts removed) index) added c b) here.1
    ]
  where
    came : (x : Contract) × (IsIn added x) × (placed (leaving contracts removed) index x ≡ c) → in_region c.region h k ≡ true
        → (contract_at contracts h k ≡ Some c) ⊎ ((old : Contract) × (contract_at contracts h k ≡ Some old) × Replaces index old c)
    came (x, m, f) i =
        let j : in_region x.region h k ≡ true = ap (λ (y : Contract). in_region y.region h k) f ∙ i in
        let added_one = has_some added h k x m j in
        let t = tiled contracts removed added h k a in
        let s = holders_split contracts removed h k in
        let left : 0 < holders contract_region (leaving contracts removed) h k = omega (arith, t, added_one) in
        let left_few : holders contract_region (leaving contracts removed) h k ≤ 1 = omega (arith, s, l) in
        let found = some_at (leaving contracts removed) h k left in
        let old = found.0 in
        let old_at = the_one contracts h k old l (IsIn-filter _ contracts old found.2).0 found.3 in
        let R : Contract → Type 0 = λ y. Replaces index old y in
        inr (old, old_at, subst R f (replaces x m j old found.1 left_few))
      where
        -- a removed contract that has the pair is the pair's
        is_old : (old : Contract) → contract_at (leaving contracts removed) h k ≡ Some old → holders contract_region (leaving contracts removed) h k ≤ 1
            → (r : Contract) → IsIn (leaving contracts removed) r → in_region r.region h k ≡ true → r ≡ old
        is_old old at few r b i = let e : Some r ≡ Some old = sym (the_one (leaving contracts removed) h k r few b i) ∙ at in cc

        replaces : (x : Contract) → IsIn added x → in_region x.region h k ≡ true → (old : Contract) → contract_at (leaving contracts removed) h k ≡ Some old
            → holders contract_region (leaving contracts removed) h k ≤ 1 → Replaces index old (placed (leaving contracts removed) index x)
        replaces x m j old at few = record {
          since = refl;
          region = λ held. let f = follows held in region_same old.region x.region f.0;
          primary = λ held. let f = follows held in
              elim (or_cases (not (is_held old.primary)) (same_primaries old.primary x.primary) f.1) [ inl n ↦ inl (not-true _ n) | inr s ↦ inr s ];
          tenure = elim (tenure_of (leaving contracts removed) index x) [
            | inl e ↦ inl e
            | inr g ↦
                let r = region_same g.old.region x.region g.region in
                let same : g.old ≡ old = is_old old at few g.old g.is_in (has_pair g.old x h k r j) in
                let P : Contract → Type 0 = λ y. (y.region ≡ x.region) × (same_primaries y.primary x.primary ≡ true) × (tenure_from (leaving contracts removed) index x ≡ y.tenure) in
                inr (subst P same (r, g.primary, g.tenure))
          ];
        }
          where
            follows : is_held x.primary ≡ true → (same_regions old.region x.region ≡ true) × ((not (is_held old.primary) || same_primaries old.primary x.primary) ≡ true)
            follows held =
                let asked = passes_member (λ c. not (is_held c.primary) || list_any (may_follow c) (leaving contracts removed)) x added a.primaries m in
                elim (or_cases (not (is_held x.primary)) (list_any (may_follow x) (leaving contracts removed)) asked) [
                  | inl n ↦ absurd (both_ways (is_held x.primary) (not-true _ n) held)
                  | inr n ↦
                      let r = IsIn-from_any (may_follow x) (leaving contracts removed) n in
                      let both = and_parts (same_regions r.0.region x.region) (not (is_held r.0.primary) || same_primaries r.0.primary x.primary) r.2 in
                      let same : r.0 ≡ old = is_old old at few r.0 r.1 (has_pair r.0 x h k (region_same r.0.region x.region both.0) j) in
                      let P : Contract → Type 0 = λ y. (same_regions y.region x.region ≡ true) × ((not (is_held y.primary) || same_primaries y.primary x.primary) ≡ true) in
                      subst P same both
                ]

pub follows : (config : ConfigState) (changes : List Change) (w h : ℕ) (k : List ℕ) (c : Contract) → IsConfig config
    → contract_at (table_at config changes (suc w)).contracts h k ≡ Some c
    → (contract_at (table_at config changes w).contracts h k ≡ Some c)
    ⊎ ((old : Contract) × (contract_at (table_at config changes w).contracts h k ≡ Some old) × Replaces (suc w) old c)
follows config changes w h k c ok =
    let t = table_at config changes w in
    contracts_after (λ cs. contract_at cs h k ≡ Some c
    → (contract_at t.contracts h k ≡ Some c) ⊎ ((old : Contract) × (contract_at t.contracts h k ≡ Some old) × Replaces (suc w) old c))
    t (suc w) (change_at changes w) (λ e. inl e)
    (λ removed added a e. step t.contracts (suc w) removed added h k c a (few config changes w h k ok) e)

-- ---- nothing is from the future

past_next : (w : ℕ) (cs : List Contract) → AllByRecursion (IsPast w) cs → AllByRecursion (IsPast (suc w)) cs
past_next w [] a = tt
past_next w (c ∷ cs) a = (record { tenure = a.0.tenure; since = let s = a.0.since in omega arith }, past_next w cs a.1)

past_placed : (w : ℕ) (removed added : List Contract) → AllByRecursion (IsPast w) removed → AllByRecursion (IsPast (suc w)) (map (placed removed (suc w)) added)
past_placed w removed [] a = tt
past_placed w removed (c ∷ cs) a = (
  record {
    since = omega arith;
    tenure = elim (tenure_of removed (suc w) c) [
      | inl e ↦ omega (arith, e)
      | inr g ↦
          let p = all_member (IsPast w) removed a g.old g.is_in in
          let s = p.since in
          let u = p.tenure in
          omega (arith, g.tenure, s, u)
    ];
  },
  past_placed w removed cs a,
)

first_past : (place : ℕ) (shards : List ShardConfig) → AllByRecursion (IsPast 0) (first_contracts place shards)
first_past place [] = tt
first_past place (s ∷ ss) = (record { tenure = omega arith; since = omega arith }, first_past (place + 1) ss)

pub past : (config : ConfigState) (changes : List Change) (w : ℕ) → AllByRecursion (IsPast w) (table_at config changes w).contracts
past config changes zero = first_past 0 config.shards
past config changes (suc w) =
    let t = table_at config changes w in
    let before = past config changes w in
    contracts_after (λ cs. AllByRecursion (IsPast (suc w)) cs) t (suc w) (change_at changes w) (past_next w t.contracts before)
    (λ removed added a. all_append (IsPast (suc w)) (staying t.contracts removed) (map (placed (leaving t.contracts removed) (suc w)) added)
    (all_filter (IsPast (suc w)) _ t.contracts (past_next w t.contracts before))
    (past_placed w (leaving t.contracts removed) added (all_filter (IsPast w) _ t.contracts before)))

-- ---- tenures

primaries_self : (a : Option Holder) → same_primaries a a ≡ true
primaries_self None = refl
primaries_self (Some a) = eq-eqb a.server.0 a.server.0 refl

primaries_trans : (a b c : Option Holder) → same_primaries a b ≡ true → same_primaries b c ≡ true → same_primaries a c ≡ true
primaries_trans None None None e f = refl
primaries_trans None None (Some c) e f = f
primaries_trans None (Some b) c e f = absurd (cc)
primaries_trans (Some a) None c e f = absurd (cc)
primaries_trans (Some a) (Some b) None e f = f
primaries_trans (Some a) (Some b) (Some c) e f =
    eq-eqb a.server.0 c.server.0 (eqb-true a.server.0 b.server.0 e ∙ eqb-true b.server.0 c.server.0 f)

goes_self : (c : Contract) → Goes c c
goes_self c = record { region = refl; primary = primaries_self c.primary; tenure = refl }

pub last : (config : ConfigState) (changes : List Change) (w u h : ℕ) (k : List ℕ) (c : Contract) → IsConfig config
    → contract_at (table_at config changes w).contracts h k ≡ Some c → c.tenure ≤ u → u ≤ w
    → (d : Contract) × (contract_at (table_at config changes u).contracts h k ≡ Some d) × Goes c d
last config changes zero u h k c ok e t l =
    let at : u ≡ 0 = omega arith in
    let P : ℕ → Type 0 = λ v. (d : Contract) × (contract_at (table_at config changes v).contracts h k ≡ Some d) × Goes c d in
    subst P (sym at) (c, e, goes_self c)
last config changes (suc w) u h k c ok e t l =
    elim (cases_lt u (suc w)) [
      | inl m ↦ elim (follows config changes w h k c ok e) [
        | inl f ↦ last config changes w u h k c ok f t (omega arith)
        | inr (old, f, r) ↦ elim r.tenure [
          | inl g ↦ absurd (omega (arith, g, t, m))
          | inr (region, primary, tenure) ↦
              let before = last config changes w u h k old ok f (omega (arith, tenure, t)) (omega arith) in (
                before.0,
                before.1,
                record {
                  region = before.2.region ∙ region;
                  primary = primaries_trans before.0.primary old.primary c.primary before.2.primary primary;
                  tenure = before.2.tenure ∙ sym tenure;
                },
              )
        ]
      ]
      | inr m ↦
          let at : u ≡ suc w = omega arith in
          let P : ℕ → Type 0 = λ v. (d : Contract) × (contract_at (table_at config changes v).contracts h k ≡ Some d) × Goes c d in
          subst P (sym at) (c, e, goes_self c)
    ]

pub rise : (config : ConfigState) (changes : List Change) (v w h : ℕ) (k : List ℕ) (c d : Contract) → IsConfig config → v ≤ w
    → contract_at (table_at config changes v).contracts h k ≡ Some c
    → contract_at (table_at config changes w).contracts h k ≡ Some d
    → (c.tenure ≤ d.tenure) × (c.tenure ≡ d.tenure → Goes d c)
rise config changes v w h k c d ok l e f =
    elim (cases_lt v d.tenure) [
      | inl m ↦
          let p = all_member (IsPast v) (table_at config changes v).contracts (past config changes v) c (at_is (table_at config changes v).contracts h k c e).0 in
          let s = p.since in
          let t = p.tenure in
          (omega (arith, m, s, t), λ q. absurd (omega (arith, m, s, t, q)))
      | inr m ↦
          let r = last config changes w v h k d ok f m l in
          let same : r.0 ≡ c = let x : Some r.0 ≡ Some c = sym r.1 ∙ e in cc in
          let G : Contract → Type 0 = λ y. Goes d y in
          let g = subst G same r.2 in
          let t = g.tenure in
          (omega (arith, t), λ q. g)
    ]

pub depends : (config : ConfigState) (changes others : List Change) (w : ℕ)
    → ((place : ℕ) → place < w → change_at changes place ≡ change_at others place)
    → table_at config changes w ≡ table_at config others w
depends config changes others zero f = refl
depends config changes others (suc w) f =
    ap₂ (λ t c. (applied_at t (suc w) c).table) (depends config changes others w (λ place l. f place (omega arith))) (f w (omega arith))

-- ---- branches

first_founded : (hashes place : ℕ) (shards : List ShardConfig) (older : Branches) → AreFounded older → AllBelow place older → AreFounded (first_branches hashes place shards older)
first_founded hashes place [] older f b = f
first_founded hashes place (s ∷ ss) older f b =
    first_founded hashes (place + 1) ss ((first_id place s, first_birth hashes s) ∷ older)
    (below_unknown place older (first_id place s) b (omega arith), refl, f) (omega arith, below_next place older b)

pub founded : (config : ConfigState) (changes : List Change) (w : ℕ) → AreFounded (table_at config changes w).history
founded config changes zero = first_founded config.hashes 0 config.shards [] tt tt
founded config changes (suc w) =
    let t = table_at config changes w in
    let before = founded config changes w in
    history_after AreFounded t (suc w) (change_at changes w) before (λ id b n o f. (n, o, before))

first_hashes : (hashes place : ℕ) (shards : List ShardConfig) (older : Branches) → HasHashes older hashes → HasHashes (first_branches hashes place shards older) hashes
first_hashes hashes place [] older o = o
first_hashes hashes place (s ∷ ss) older o = first_hashes hashes (place + 1) ss ((first_id place s, first_birth hashes s) ∷ older) (refl, o)

origin_hashes : (config : ConfigState) (changes : List Change) (w : ℕ) → ((place : ℕ) → FitsTable config.hashes (change_at changes place))
    → HasHashes (table_at config changes w).history config.hashes
origin_hashes config changes zero fits = first_hashes config.hashes 0 config.shards [] tt
origin_hashes config changes (suc w) fits =
    let t = table_at config changes w in
    let before = origin_hashes config changes w fits in
    history_after (λ bs. HasHashes bs config.hashes) t (suc w) (change_at changes w) before
    (λ id b n o f. (f config.hashes (fits w), before))

is_history : (bs : Branches) (hashes : ℕ) → AreFounded bs → HasHashes bs hashes → IsHistory bs
is_history [] hashes f o = tt
is_history (b ∷ bs) hashes f o = (f.0, f.1, subst (λ n. HasHashes bs n) (sym o.0) o.1, is_history bs hashes f.2 o.1)

pub histories : (config : ConfigState) (changes : List Change) (w : ℕ) → ((place : ℕ) → FitsTable config.hashes (change_at changes place))
    → IsHistory (table_at config changes w).history
histories config changes w fits = is_history (table_at config changes w).history config.hashes (founded config changes w) (origin_hashes config changes w fits)

pub some_current : (config : ConfigState) (changes : List Change) (w h : ℕ) (k : List ℕ) → IsConfig config → h < config.hashes
    → is_some (branch_at (table_at config changes w).history h k) ≡ true
some_current config changes zero h k ok l = some_branch config h k ok l
some_current config changes (suc w) h k ok l =
    let t = table_at config changes w in
    let before = some_current config changes w h k ok l in
    history_after (λ bs. is_some (branch_at bs h k) ≡ true) t (suc w) (change_at changes w) before (λ id b n o f.
    cond_both (in_region b.region h k) (Some id) (branch_at t.history h k) (λ (x : Option Id). is_some x ≡ true) (λ i. refl) (λ i. before))

is_known : (bs : Branches) (id : Id) (b : BranchBirth) → birth_of bs id ≡ Some b → knows bs id ≡ true
is_known [] id b e = absurd (cc)
is_known (c ∷ cs) id b e =
    elim (same_id c.0 id) as (λ v. cond v (Some c.1) (birth_of cs id) ≡ Some b → cond v true (knows cs id) ≡ true) [
      | true ↦ λ f. refl
      | false ↦ λ f. is_known cs id b f
    ] e

named : (bs : Branches) (h : ℕ) (k : List ℕ) (id : Id) → AreFounded bs → branch_at bs h k ≡ Some id
    → (b : BranchBirth) × (birth_of bs id ≡ Some b) × (in_region b.region h k ≡ true)
named [] h k id f e = absurd (cc)
named (c ∷ cs) h k id f e =
    elim (in_region c.1.region h k) as (λ v. in_region c.1.region h k ≡ v → cond v (Some c.0) (branch_at cs h k) ≡ Some id
    → (b : BranchBirth) × (cond (same_id c.0 id) (Some c.1) (birth_of cs id) ≡ Some b) × (in_region b.region h k ≡ true)) [
      | true ↦ λ i g.
          let same : c.0 ≡ id = cc in
          let itself : same_id c.0 id ≡ true = ap (λ x. same_id c.0 x) (sym same) ∙ id_self c.0 in
          (c.1, ap (λ v. cond v (Some c.1) (birth_of cs id)) itself, i)
      | false ↦ λ i g.
          let r = named cs h k id f.2 g in
          let known = is_known cs id r.0 r.1 in
          elim (same_id c.0 id) as (λ v. same_id c.0 id ≡ v → (b : BranchBirth) × (cond v (Some c.1) (birth_of cs id) ≡ Some b) × (in_region b.region h k ≡ true)) [
            | true ↦ λ j. absurd (both_ways (knows cs c.0) f.0 (ap (λ x. knows cs x) (id_same c.0 id j) ∙ known))
            | false ↦ λ j. r
          ] refl
    ] refl e

pub registered : (config : ConfigState) (changes : List Change) (w h : ℕ) (k : List ℕ) (id : Id)
    → branch_at (table_at config changes w).history h k ≡ Some id
    → (b : BranchBirth) × (birth_of (table_at config changes w).history id ≡ Some b) × (in_region b.region h k ≡ true)
registered config changes w h k id e = named (table_at config changes w).history h k id (founded config changes w) e
