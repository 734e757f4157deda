-- The contract of a pair, by how many contracts have it.
use Rattle.std.proofs.Common.{◌≡◌, ℕ, ◌+◌, ◌<◌, ◌≤◌, ◌⊎◌, true, false, cond, not, min, List, [], ◌∷◌, ◌++◌, map, Some, inl, inr, refl, sym, ap, subst, arith}
use Rattle.std.proofs.lemmas.Bool.{eqb-true, both_ways}
use Rattle.list_laws.specs.Members.{IsIn}
use Rattle.region_map.specs.declared.id.Id.{Id}
use Rattle.region_map.specs.Regions.{in_region}
use Rattle.contract_types.specs.declared.contract.Contract.{Contract}
use Rattle.contract_types.specs.declared.tiling.Rule.TheVariants.{Tiles}
use Rattle.contract_types.specs.Tilings.{holders}
use Rattle.contract_types.proofs.Everywhere.{from_everywhere}
use Rattle.table_apply.specs.Conditions.{contract_region, is_among, leaving, staying, tile}
use Rattle.table_apply.specs.Effects.{placed, replaced}
use Rattle.table_apply.specs.Runs.{contract_at}
use Rattle.table_apply.proofs.Steps.{Accepted}

-- ---- counting

pub holders_append : (xs ys : List Contract) (h : ℕ) (k : List ℕ)
    → holders contract_region (xs ++ ys) h k ≡ holders contract_region xs h k + holders contract_region ys h k
holders_append [] ys h k = omega arith
holders_append (x ∷ xs) ys h k =
    elim (in_region x.region h k) as (λ v. cond v (1 + holders contract_region (xs ++ ys) h k) (holders contract_region (xs ++ ys) h k)
    ≡ cond v (1 + holders contract_region xs h k) (holders contract_region xs h k) + holders contract_region ys h k) [
      | true ↦ let e = holders_append xs ys h k in omega arith
      | false ↦ holders_append xs ys h k
    ]

pub holders_placed : (removed : List Contract) (index : ℕ) (added : List Contract) (h : ℕ) (k : List ℕ)
    → holders contract_region (map (placed removed index) added) h k ≡ holders contract_region added h k
holders_placed removed index [] h k = refl
holders_placed removed index (c ∷ cs) h k = ap (λ n. cond (in_region c.region h k) (1 + n) n) (holders_placed removed index cs h k)

pub holders_split : (contracts : List Contract) (removed : List Id) (h : ℕ) (k : List ℕ)
    → holders contract_region contracts h k ≡ holders contract_region (leaving contracts removed) h k + holders contract_region (staying contracts removed) h k
holders_split [] removed h k = omega arith
holders_split (c ∷ cs) removed h k =
    let e = holders_split cs removed h k in
    elim (is_among removed c.id) as (λ u. holders contract_region (c ∷ cs) h k
    ≡ holders contract_region (cond u (c ∷ leaving cs removed) (leaving cs removed)) h k + holders contract_region (cond (not u) (c ∷ staying cs removed) (staying cs removed)) h k) [
      | true ↦ elim (in_region c.region h k) as (λ v. cond v (1 + holders contract_region cs h k) (holders contract_region cs h k)
          ≡ cond v (1 + holders contract_region (leaving cs removed) h k) (holders contract_region (leaving cs removed) h k) + holders contract_region (staying cs removed) h k) [
            | true ↦ omega arith
            | false ↦ e
          ]
      | false ↦ elim (in_region c.region h k) as (λ v. cond v (1 + holders contract_region cs h k) (holders contract_region cs h k)
          ≡ holders contract_region (leaving cs removed) h k + cond v (1 + holders contract_region (staying cs removed) h k) (holders contract_region (staying cs removed) h k)) [
            | true ↦ omega arith
            | false ↦ e
          ]
    ]

-- one added contract has a pair where a removed one has it
pub tiled : (contracts : List Contract) (removed : List Id) (added : List Contract) (h : ℕ) (k : List ℕ) → Accepted contracts removed added
    → holders contract_region added h k ≡ min 1 (holders contract_region (leaving contracts removed) h k)
unfolding tile
tiled contracts removed added h k a =
    eqb-true (holders contract_region added h k) (min 1 (holders contract_region (leaving contracts removed) h k))
    (from_everywhere Tiles contract_region contract_region added (leaving contracts removed) a.tiles h k)

pub replaced_count : (contracts : List Contract) (index : ℕ) (removed : List Id) (added : List Contract) (h : ℕ) (k : List ℕ) → Accepted contracts removed added
    → holders contract_region contracts h k ≤ 1 → holders contract_region (replaced contracts index removed added) h k ≡ holders contract_region contracts h k
replaced_count contracts index removed added h k a l =
    let e = holders_append (staying contracts removed) (map (placed (leaving contracts removed) index) added) h k in
    let f = holders_placed (leaving contracts removed) index added h k in
    let g = holders_split contracts removed h k in
    let t = tiled contracts removed added h k a in
    omega (arith, e, f, g, t, l)

-- ---- the contract of a pair

none_at : (cs : List Contract) (h : ℕ) (k : List ℕ) (c : Contract) → holders contract_region cs h k ≡ 0 → IsIn cs c → in_region c.region h k ≡ true → ⊥
none_at [] h k c n a i = a
none_at (x ∷ xs) h k c n a i =
    elim (in_region x.region h k) as (λ v. in_region x.region h k ≡ v → cond v (1 + holders contract_region xs h k) (holders contract_region xs h k) ≡ 0 → ⊥) [
      | true ↦ λ e m. absurd (omega arith)
      | false ↦ λ e m. elim a [
        | inl f ↦ let P : Contract → Type 0 = λ y. in_region y.region h k ≡ true in both_ways _ e (subst P (sym f) i)
        | inr b ↦ none_at xs h k c m b i
      ]
    ] refl n

-- where one contract at most has a pair, one that has it is the pair's
pub the_one : (cs : List Contract) (h : ℕ) (k : List ℕ) (c : Contract) → holders contract_region cs h k ≤ 1 → IsIn cs c → in_region c.region h k ≡ true → contract_at cs h k ≡ Some c
the_one [] h k c l a i = absurd a
the_one (x ∷ xs) h k c l a i =
    elim (in_region x.region h k) as (λ v. in_region x.region h k ≡ v → cond v (1 + holders contract_region xs h k) (holders contract_region xs h k) ≤ 1
    → cond v (Some x) (contract_at xs h k) ≡ Some c) [
      | true ↦ λ e m. elim a [
        | inl f ↦ ap Some f
        | inr b ↦ absurd (none_at xs h k c (omega arith) b i)
      ]
      | false ↦ λ e m. elim a [
        | inl f ↦ let P : Contract → Type 0 = λ y. in_region y.region h k ≡ true in absurd (both_ways _ e (subst P (sym f) i))
        | inr b ↦ the_one xs h k c m b i
      ]
    ] refl l

-- the contract of a pair is one of them, and has it
pub at_is : (cs : List Contract) (h : ℕ) (k : List ℕ) (c : Contract) → contract_at cs h k ≡ Some c → IsIn cs c × (in_region c.region h k ≡ true)
at_is [] h k c e = absurd (cc)
at_is (x ∷ xs) h k c e =
    elim (in_region x.region h k) as (λ v. in_region x.region h k ≡ v → cond v (Some x) (contract_at xs h k) ≡ Some c → ((x ≡ c) ⊎ IsIn xs c) × (in_region c.region h k ≡ true)) [
      | true ↦ λ i f.
          let g : x ≡ c = cc in
          let P : Contract → Type 0 = λ y. in_region y.region h k ≡ true in
          (inl g, subst P g i)
      | false ↦ λ i f. let r = at_is xs h k c f in (inr r.0, r.1)
    ] refl e

-- where some contract has a pair, the pair has one
pub some_at : (cs : List Contract) (h : ℕ) (k : List ℕ) → 0 < holders contract_region cs h k → (c : Contract) × (contract_at cs h k ≡ Some c) × (IsIn cs c) × (in_region c.region h k ≡ true)
some_at [] h k l = absurd (omega arith)
some_at (x ∷ xs) h k l =
    elim (in_region x.region h k) as (λ v. in_region x.region h k ≡ v → 0 < cond v (1 + holders contract_region xs h k) (holders contract_region xs h k)
    → (c : Contract) × (cond v (Some x) (contract_at xs h k) ≡ Some c) × ((x ≡ c) ⊎ IsIn xs c) × (in_region c.region h k ≡ true)) [
      | true ↦ λ e m. (x, refl, inl refl, e)
      | false ↦ λ e m. let r = some_at xs h k m in (r.0, r.1, inr r.2, r.3)
    ] refl l

pub has_some : (cs : List Contract) (h : ℕ) (k : List ℕ) (c : Contract) → IsIn cs c → in_region c.region h k ≡ true → 0 < holders contract_region cs h k
has_some [] h k c a i = absurd a
has_some (x ∷ xs) h k c a i =
    elim (in_region x.region h k) as (λ v. in_region x.region h k ≡ v → 0 < cond v (1 + holders contract_region xs h k) (holders contract_region xs h k)) [
      | true ↦ λ e. omega arith
      | false ↦ λ e. elim a [
        | inl f ↦ let P : Contract → Type 0 = λ y. in_region y.region h k ≡ true in absurd (both_ways _ e (subst P (sym f) i))
        | inr b ↦ has_some xs h k c b i
      ]
    ] refl
