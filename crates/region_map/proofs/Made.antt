-- The map that is written out from its values is canonical and has them, and so is the only such map.
use Rattle.std.proofs.Common.{◌≡◌, ◌↔◌, ℕ, zero, suc, ◌+◌, ◌-◌, ◌<◌, ◌≤◌, Bool, true, false, cond, ◌&&◌, not, nat_lt, nat_le, List, [], ◌∷◌, ◌++◌, length, Option, Some, None, inl, inr, refl, sym, ap, ap₂, ◌∙◌, subst, arith}
use Rattle.std.specs.List.{AllByRecursion}
use Rattle.std.specs.Option.{is_some}
use Rattle.std.proofs.lemmas.Bool.{and_parts, and_from, and_right, not_from_false, both_ways, cases_Bool, cases_lt, lt-ltb}
use Rattle.list_laws.proofs.All.{all_weaker}
use Rattle.region_map.specs.declared.region.Region.{Region}
use Rattle.region_map.specs.declared.row.Range.{Range}
use Rattle.region_map.specs.Equal.{Decides, same_option, option_decides}
use Rattle.region_map.specs.Regions.{before, low, below, in_region, is_bound}
use Rattle.region_map.specs.Maps.{Pieced, Band, Succeeds, AreBands, IsRow, Follows, IsCanonical, value_at, row_value, pieces_of}
use Rattle.region_map.specs.Bands.{row_at}
use Rattle.region_map.specs.Made.{with_cut, in_order, ends_of, cuts_of, Together, ChangesAt, range_if, ranges_made, agree, band_if, bands_made, made, joined, constant_map, set_map, mask_map}
use Rattle.region_map.proofs.Order.{before_nil, before_self, before_trans, before_back, before_then, then_before, before_neither, not_before}
use Rattle.region_map.proofs.Rows.{in_range_from}
use Rattle.region_map.proofs.Bands.{in_band, past_band, before_band, value_at-pieces_of, none_beyond}
use Rattle.region_map.proofs.Same.{same_maps}

-- ---- cuts

-- byte lists from one on, each not before the one in front of it
abbrev pub Rises : List ℕ → List (List ℕ) → Type 0
Rises a [] = Unit {0}
Rises a (c ∷ cs) = (before c a ≡ false) × Rises c cs

rises_with : (a c : List ℕ) (ds : List (List ℕ)) → before c a ≡ false → Rises a ds → Rises a (with_cut c ds)
rises_with a c [] h r = (h, tt)
rises_with a c (d ∷ ds) h r =
    elim (before d c) as (λ t. before d c ≡ t → Rises a (cond t (d ∷ with_cut c ds) (c ∷ d ∷ ds))) [
      | true ↦ λ e. (r.0, rises_with d c ds (before_back d c e) r.1)
      | false ↦ λ e. (h, (e, r.1))
    ] refl

order_rises : (cs : List (List ℕ)) → Rises [] (in_order cs)
order_rises [] = tt
order_rises (c ∷ cs) = rises_with [] c (in_order cs) (before_nil c) (order_rises cs)

all_with : (P : List ℕ → Type 0) (c : List ℕ) (ds : List (List ℕ)) → AllByRecursion P (with_cut c ds) → P c × AllByRecursion P ds
all_with P c [] h = (h.0, tt)
all_with P c (d ∷ ds) h =
    elim (before d c) as (λ t. AllByRecursion P (cond t (d ∷ with_cut c ds) (c ∷ d ∷ ds)) → P c × AllByRecursion P (d ∷ ds)) [
      | true ↦ λ a. let r = all_with P c ds a.1 in (r.0, (a.0, r.1))
      | false ↦ λ a. (a.0, a.1)
    ] h

all_in_order : (P : List ℕ → Type 0) (cs : List (List ℕ)) → AllByRecursion P (in_order cs) → AllByRecursion P cs
all_in_order P [] h = tt
all_in_order P (c ∷ cs) h = let r = all_with P c (in_order cs) h in (r.0, all_in_order P cs r.1)

-- what comes before a byte list comes before all that rise from it
all_above : (k a : List ℕ) (cs : List (List ℕ)) → before k a ≡ true → Rises a cs → AllByRecursion (λ c. before k c ≡ true) cs
all_above k a [] h r = tt
all_above k a (c ∷ cs) h r = let x = before_then k a c h r.0 in (x, all_above k c cs x r.1)

both_under : (k q : List ℕ) (cs : List (List ℕ)) → AllByRecursion (λ c. before k c ≡ true) cs → AllByRecursion (λ c. before q c ≡ true) cs → Together cs k q
both_under k q [] a b = tt
both_under k q (c ∷ cs) a b = (a.0 ∙ sym b.0, both_under k q cs a.1 b.1)

-- what is above something is no empty list, and so a bound
above_is_bound : (a c : List ℕ) → before a c ≡ true → nat_lt 0 (length c) ≡ true
above_is_bound a [] h = absurd (both_ways _ (before_nil a) h)
above_is_bound a (x ∷ xs) h = let some : 0 < suc (length xs) = omega arith in lt-ltb 0 (suc (length xs)) some

-- ---- the row of a hash

-- one value from a bound up to the first cut, and from each cut up to the next
abbrev pub Steady : {V : Type 0} → (List ℕ → Option V) → Option (List ℕ) → List (List ℕ) → Type 0
Steady value from [] = (k : List ℕ) → before k (low from) ≡ false → value k ≡ value (low from)
Steady value from (c ∷ cs) = ((k : List ℕ) → before k (low from) ≡ false → before k c ≡ true → value k ≡ value (low from)) × Steady value (Some c) cs

-- a range behind a bound; one that begins there has the value there
pub record Begins {V : Type 0} (value : List ℕ → Option V) (from : Option (List ℕ)) (g : Range V) : Type 0 where
  pub behind : before (low g.from) (low from) ≡ false
  pub first : g.from ≡ from → Some g.value ≡ value (low from)

-- the row of these values from a bound on
pub record IsRowFrom {V : Type 0} (value : List ℕ → Option V) (from : Option (List ℕ)) (ranges : List (Range V)) : Type 0 where
  pub row : IsRow ranges
  pub ahead : (k : List ℕ) → before k (low from) ≡ true → row_value ranges k ≡ None
  pub at : (k : List ℕ) → before k (low from) ≡ false → row_value ranges k ≡ value k
  pub begins : AllByRecursion (Begins value from) ranges

module _ {V : Type 0} (same : V → V → Bool) (d : Decides same) (value : List ℕ → Option V) where
  pub steady : (from : Option (List ℕ)) (cs : List (List ℕ)) → Rises (low from) cs
      → ((k q : List ℕ) → before k (low from) ≡ false → before q (low from) ≡ false → Together cs k q → value k ≡ value q) → Steady value from cs
  steady from [] r f = λ k h. f k (low from) h (before_self (low from)) tt
  steady from (c ∷ cs) r f = (
    λ k h l.
        let b = then_before (low from) k c h l in
        f k (low from) h (before_self (low from)) (l ∙ sym b, both_under k (low from) cs (all_above k c cs l r.1) (all_above (low from) c cs b r.1)),
    steady (Some c) cs r.1 (λ k q h i t. f k q (not_before (low from) c k r.0 h) (not_before (low from) c q r.0 i) (h ∙ sym i, t)),
  )

  over_cut : (from : Option (List ℕ)) (c k : List ℕ) → value (low from) ≡ value c → (before k c ≡ true → value k ≡ value (low from)) → (before k c ≡ false → value k ≡ value c) → value k ≡ value (low from)
  over_cut from c k e f g = elim (cases_Bool (before k c)) [ inl t ↦ f t | inr o ↦ g o ∙ sym e ]

  -- without a cut at which the value stays
  steady_over : (from : Option (List ℕ)) (c : List ℕ) (cs : List (List ℕ)) → value (low from) ≡ value c
      → ((k : List ℕ) → before k (low from) ≡ false → before k c ≡ true → value k ≡ value (low from)) → Steady value (Some c) cs → Steady value from cs
  steady_over from c [] e f s = λ k h. over_cut from c k e (f k h) (s k)
  steady_over from c (x ∷ cs) e f s = (λ k h l. over_cut from c k e (f k h) (λ o. s.0 k o l), s.1)

  rises_over : (a c : List ℕ) (cs : List (List ℕ)) → before c a ≡ false → Rises c cs → Rises a cs
  rises_over a c [] h r = tt
  rises_over a c (x ∷ cs) h r = (not_before a c x h r.0, r.1)

  last_range : (from : Option (List ℕ)) (v : Option V) → value (low from) ≡ v → is_bound from ≡ true → Steady value from [] → IsRowFrom value from (range_if from None v)
  last_range from None e b s = record { row = tt; ahead = λ k h. refl; at = λ k h. sym (s k h ∙ e); begins = tt }
  last_range from (Some v) e b s = record {
    row = (record { holds = refl; begins = b; ends = refl }, tt, tt);
    ahead = λ k h. ap (λ t. cond (not t && true) (Some v) None) h;
    at = λ k h. ap (λ t. cond (not t && true) (Some v) None) h ∙ sym (s k h ∙ e);
    begins = (record { behind = before_self (low from); first = λ _. sym e }, tt);
  }

  module _ (from : Option (List ℕ)) (c : List ℕ) (rest : List (Range V)) (b : is_bound from ≡ true) (l : before (low from) c ≡ true) (m : IsRowFrom value (Some c) rest)
      (f : (k : List ℕ) → before k (low from) ≡ false → before k c ≡ true → value k ≡ value (low from)) where
    weaken : (g : Range V) → Begins value (Some c) g → Begins value from g
    weaken g p = record {
      behind = not_before (low from) c (low g.from) (before_back (low from) c l) p.behind;
      first = λ e. absurd (both_ways _ (subst (λ x. before (low x) c ≡ false) e p.behind) l);
    }

    next_range : (v : Option V) → value (low from) ≡ v → same_option same (value (low from)) (value c) ≡ false → IsRowFrom value from (range_if from (Some c) v ++ rest)
    next_range None e n = record {
      row = m.row;
      ahead = λ k h. m.ahead k (before_trans k (low from) c h l);
      at = λ k h. elim (cases_Bool (before k c)) [ inl t ↦ m.ahead k t ∙ sym (f k h t ∙ e) | inr o ↦ m.at k o ];
      begins = all_weaker (Begins value (Some c)) (Begins value from) rest weaken m.begins;
    }
    next_range (Some v) e n = record {
      row = (record { holds = l; begins = b; ends = above_is_bound (low from) c l }, all_weaker (Begins value (Some c)) (Follows range) rest follows m.begins, m.row);
      ahead = λ k h. ap (λ t. cond (not t && before k c) (Some v) (row_value rest k)) h ∙ m.ahead k (before_trans k (low from) c h l);
      at = λ k h. elim (cases_Bool (before k c)) [
        | inl t ↦ ap (λ x. cond x (Some v) (row_value rest k)) (in_range_from from (Some c) k h t) ∙ sym (f k h t ∙ e)
        | inr o ↦ ap (λ x. cond x (Some v) (row_value rest k)) (and_right (not (before k (low from))) (before k c) o) ∙ m.at k o
      ];
      begins = (record { behind = before_self (low from); first = λ _. sym e }, all_weaker (Begins value (Some c)) (Begins value from) rest weaken m.begins);
    }
      where
        range : Range V
        range = record { from = from; to = Some c; value = v }

        follows : (g : Range V) → Begins value (Some c) g → Follows range g
        follows g p = record {
          apart = not_from_false _ p.behind;
          longest = λ t s. both_ways _ n ((option_decides same d (value (low from)) (value c)).1 (e ∙ ap Some s ∙ p.first (sym t)));
        }

  pub row_from : (from : Option (List ℕ)) (cs : List (List ℕ)) → is_bound from ≡ true → Rises (low from) cs → Steady value from cs → IsRowFrom value from (ranges_made same value from cs)
  row_from from [] b r s = last_range from (value (low from)) refl b s
  row_from from (c ∷ cs) b r s =
      elim (same_option same (value (low from)) (value c)) as (λ t. same_option same (value (low from)) (value c) ≡ t
      → IsRowFrom value from (cond t (ranges_made same value from cs) (range_if from (Some c) (value (low from)) ++ ranges_made same value (Some c) cs))) [
        | true ↦ λ e. row_from from cs b (rises_over (low from) c cs r.0 r.1) (steady_over from c cs ((option_decides same d (value (low from)) (value c)).0 e) s.0 s.1)
        | false ↦ λ e.
            let l = moved e in
            next_range from c (ranges_made same value (Some c) cs) b l (row_from (Some c) cs (above_is_bound (low from) c l) r.1 s.1) s.0 (value (low from)) refl e
      ] refl
    where
      moved : same_option same (value (low from)) (value c) ≡ false → before (low from) c ≡ true
      moved e = elim (cases_Bool (before (low from) c)) [
        | inl t ↦ t
        | inr o ↦ absurd (both_ways _ e ((option_decides same d (value (low from)) (value c)).1 (ap value (before_neither (low from) c o r.0))))
      ]

-- ---- rows that agree

module _ {V : Type 0} (same : V → V → Bool) (d : Decides same) (v w : List ℕ → Option V) where
  pub agree_all : (ks : List (List ℕ)) → agree same v w ks ≡ true → AllByRecursion (λ k. v k ≡ w k) ks
  agree_all [] e = tt
  agree_all (k ∷ ks) e = let p = and_parts _ _ e in ((option_decides same d (v k) (w k)).0 p.0, agree_all ks p.1)

  pub agree_from : (ks : List (List ℕ)) → ((k : List ℕ) → v k ≡ w k) → agree same v w ks ≡ true
  agree_from [] e = refl
  agree_from (k ∷ ks) e = and_from _ _ ((option_decides same d (v k) (w k)).1 (e k)) (agree_from ks e)

  pub rows_alike : (from : Option (List ℕ)) (cs : List (List ℕ)) → v (low from) ≡ w (low from) → AllByRecursion (λ k. v k ≡ w k) cs → ranges_made same v from cs ≡ ranges_made same w from cs
  rows_alike from [] e a = ap (range_if from None) e
  rows_alike from (c ∷ cs) e a =
      let on = rows_alike from cs e a.1 in
      let next = rows_alike (Some c) cs a.0 a.1 in
      λ i. cond (same_option same (e i) (a.0 i)) (on i) (range_if from (Some c) (e i) ++ next i)

-- ---- bands

pub record Starts {V : Type 0} (row : ℕ → List (Range V)) (from : ℕ) (b : Band V) : Type 0 where
  pub behind : from ≤ b.hash_from
  pub first : b.hash_from ≡ from → b.row ≡ row from

-- the bands of these rows from a hash on
pub record AreBandsFrom {V : Type 0} (row : ℕ → List (Range V)) (from total : ℕ) (bs : List (Band V)) : Type 0 where
  pub are : AreBands total bs
  pub ahead : (q : ℕ) → q < from → row_at bs q ≡ []
  pub at : (q : ℕ) → from ≤ q → q < total → row_at bs q ≡ row q
  pub starts : AllByRecursion (Starts row from) bs

module _ {V : Type 0} (alike : ℕ → ℕ → Bool) (row : ℕ → List (Range V)) (total : ℕ) (ok : (h q : ℕ) → (alike h q ≡ true) ↔ (row h ≡ row q)) (is : (h : ℕ) → IsRow (row h)) where
  last_band : (from to : ℕ) (r : List (Range V)) → row from ≡ r → from < to → to ≡ total → ((q : ℕ) → from ≤ q → q < to → row q ≡ row from) → AreBandsFrom row from total (band_if from to r)
  last_band from to [] e lt t held = record { are = tt; ahead = λ q l. refl; at = λ q l u. sym (held q l (omega arith) ∙ e); starts = tt }
  last_band from to (g ∷ gs) e lt t held = record {
    are = (record { holds = lt; within = omega arith; filled = λ x. cc; row = subst (λ x. IsRow x) e (is from) }, tt, tt);
    ahead = λ q l. ap (λ x. cond x (g ∷ gs) []) (before_band from to q l);
    at = λ q l u. let i : q < to = omega arith in ap (λ x. cond x (g ∷ gs) []) (in_band from to q l i) ∙ sym (held q l i ∙ e);
    starts = (record { behind = omega arith; first = λ _. sym e }, tt);
  }

  module _ (from to : ℕ) (rest : List (Band V)) (lt : from < to) (up : to ≤ total) (m : AreBandsFrom row to total rest) (held : (q : ℕ) → from ≤ q → q < to → row q ≡ row from) where
    starts_sooner : (b : Band V) → Starts row to b → Starts row from b
    starts_sooner b p = let w = p.behind in record { behind = omega arith; first = λ e. absurd (omega arith) }

    next_band : (r : List (Range V)) → row from ≡ r → alike from to ≡ false → AreBandsFrom row from total (band_if from to r ++ rest)
    next_band [] e n = record {
      are = m.are;
      ahead = λ q l. m.ahead q (omega arith);
      at = λ q l u. elim (cases_lt q to) [ inl i ↦ m.ahead q i ∙ sym (held q l i ∙ e) | inr o ↦ m.at q o u ];
      starts = all_weaker (Starts row to) (Starts row from) rest starts_sooner m.starts;
    }
    next_band (g ∷ gs) e n = record {
      are = (record { holds = lt; within = up; filled = λ x. cc; row = subst (λ x. IsRow x) e (is from) }, all_weaker (Starts row to) (Succeeds band) rest succeeds m.starts, m.are);
      ahead = λ q l. ap (λ x. cond x (g ∷ gs) (row_at rest q)) (before_band from to q l) ∙ m.ahead q (omega arith);
      at = λ q l u. elim (cases_lt q to) [
        | inl i ↦ ap (λ x. cond x (g ∷ gs) (row_at rest q)) (in_band from to q l i) ∙ sym (held q l i ∙ e)
        | inr o ↦ ap (λ x. cond x (g ∷ gs) (row_at rest q)) (past_band from to q o) ∙ m.at q o u
      ];
      starts = (record { behind = omega arith; first = λ _. sym e }, all_weaker (Starts row to) (Starts row from) rest starts_sooner m.starts);
    }
      where
        band : Band V
        band = record { hash_from = from; hash_to = to; row = g ∷ gs }

        succeeds : (b : Band V) → Starts row to b → Succeeds band b
        succeeds b p = record { apart = p.behind; longest = λ t s. both_ways _ n ((ok from to).1 (e ∙ s ∙ p.first (sym t))) }

  pub bands_from : (n from to : ℕ) → from < to → to + n ≡ total → ((q : ℕ) → from ≤ q → q < to → row q ≡ row from) → AreBandsFrom row from total (bands_made alike row from to n)
  bands_from zero from to lt t held = last_band from to (row from) refl lt (omega arith) held
  bands_from (suc n) from to lt t held =
      elim (alike from to) as (λ x. alike from to ≡ x → AreBandsFrom row from total (cond x (bands_made alike row from (to + 1) n) (band_if from to (row from) ++ bands_made alike row to (to + 1) n))) [
        | true ↦ λ e. bands_from n from (to + 1) (omega arith) (omega arith) (λ q l u. longer e q l u)
        | false ↦ λ e. next_band from to (bands_made alike row to (to + 1) n) lt (omega arith) (bands_from n to (to + 1) (omega arith) (omega arith) (λ q l u. only q l u)) held (row from) refl e
      ] refl
    where
      longer : alike from to ≡ true → (q : ℕ) → from ≤ q → q < to + 1 → row q ≡ row from
      longer e q l u = elim (cases_lt q to) [
        | inl i ↦ held q l i
        | inr o ↦ let at : q ≡ to = omega arith in ap row at ∙ sym ((ok from to).0 e)
      ]

      only : (q : ℕ) → to ≤ q → q < to + 1 → row q ≡ row to
      only q l u = let at : q ≡ to = omega arith in ap row at

-- ---- the map

pub made_hashes : {V : Type 0} (same : V → V → Bool) (hashes : ℕ) (cuts : List (List ℕ)) (value : ℕ → List ℕ → Option V) → (made same hashes cuts value).hashes ≡ hashes
unfolding made
made_hashes same hashes cuts value = refl

module _ {V : Type 0} (same : V → V → Bool) (d : Decides same) (hashes : ℕ) (cuts : List (List ℕ)) (value : ℕ → List ℕ → Option V) (c : ChangesAt cuts value) where
  abbrev cs : List (List ℕ)
  cs = in_order cuts

  row_made : (h : ℕ) → IsRowFrom (value h) None (ranges_made same (value h) None cs)
  row_made h =
      row_from same d (value h) None cs refl (order_rises cuts)
      (steady same d (value h) None cs (order_rises cuts) (λ k q _ _ t. c h k q (all_in_order (λ x. before k x ≡ before q x) cuts t)))

  row_made_at : (h : ℕ) (k : List ℕ) → row_value (ranges_made same (value h) None cs) k ≡ value h k
  row_made_at h k = (row_made h).at k (before_nil k)

  alike_rows : (h q : ℕ) → (agree same (value h) (value q) ([] ∷ cs) ≡ true) ↔ (ranges_made same (value h) None cs ≡ ranges_made same (value q) None cs)
  alike_rows h q = (
    λ e. let a = agree_all same d (value h) (value q) ([] ∷ cs) e in rows_alike same d (value h) (value q) None cs a.0 a.1,
    λ e. agree_from same d (value h) (value q) ([] ∷ cs) (λ k. sym (row_made_at h k) ∙ ap (λ r. row_value r k) e ∙ row_made_at q k),
  )

  abbrev bands : List (Band V)
  bands = bands_made (λ h q. agree same (value h) (value q) ([] ∷ cs)) (λ h. ranges_made same (value h) None cs) 0 1 (hashes - 1)

  bands_are : 0 < hashes → AreBandsFrom (λ h. ranges_made same (value h) None cs) 0 hashes bands
  bands_are some =
      bands_from (λ h q. agree same (value h) (value q) ([] ∷ cs)) (λ h. ranges_made same (value h) None cs) hashes alike_rows (λ h. (row_made h).row)
      (hashes - 1) 0 1 (omega arith) (omega arith) (λ q l u. let z : q ≡ 0 = omega arith in ap (λ h. ranges_made same (value h) None cs) z)

  pub made_canonical : 0 < hashes → IsCanonical (made same hashes cuts value)
  unfolding made
  made_canonical some = record { bands = bands; are = (bands_are some).are; pieces = refl; some_hash = some }

  pub made_at : 0 < hashes → (h : ℕ) (k : List ℕ) → h < hashes → value_at (made same hashes cuts value).pieces h k ≡ value h k
  unfolding made
  made_at some h k lt =
      value_at-pieces_of hashes bands h k (bands_are some).are ∙ ap (λ r. row_value r k) ((bands_are some).at h (omega arith) lt) ∙ row_made_at h k

  -- a canonical map with these values is this one
  pub made_is : (m : Pieced V) → IsCanonical m → m.hashes ≡ hashes → ((h : ℕ) (k : List ℕ) → h < hashes → value_at m.pieces h k ≡ value h k) → m ≡ made same hashes cuts value
  made_is m canonical e at =
      let some : 0 < hashes = subst (λ n. 0 < n) e canonical.some_hash in
      let other = made_canonical some in
      same_maps m (made same hashes cuts value) canonical other (e ∙ sym (made_hashes same hashes cuts value)) (λ h k.
      elim (cases_lt h hashes) [
        | inl lt ↦ at h k lt ∙ sym (made_at some h k lt)
        | inr ge ↦
            none_beyond m h k canonical (subst (λ n. n ≤ h) (sym e) ge)
            ∙ sym (none_beyond (made same hashes cuts value) h k other (subst (λ n. n ≤ h) (sym (made_hashes same hashes cuts value)) ge))
      ])

-- ---- where the values of maps change

-- whether a key is below a bound changes only at the bound
pub below_together : (to : Option (List ℕ)) (k q : List ℕ) → before k (low to) ≡ before q (low to) → below k to ≡ below q to
below_together None k q e = refl
below_together (Some t) k q e = e

pub region_together : (r : Region) (h : ℕ) (k q : List ℕ) → Together (ends_of r) k q → in_region r h k ≡ in_region r h q
region_together r h k q t = ap₂ (λ x y. (nat_le r.hash_from h && nat_lt h r.hash_to) && (not x && y)) t.0 (below_together r.to k q t.1.0)

pub together_parts : (xs ys : List (List ℕ)) (k q : List ℕ) → Together (xs ++ ys) k q → Together xs k q × Together ys k q
together_parts [] ys k q t = (tt, t)
together_parts (x ∷ xs) ys k q t = let r = together_parts xs ys k q t.1 in ((t.0, r.0), r.1)

pub values_together : {V : Type 0} (ps : List (Region × V)) (h : ℕ) (k q : List ℕ) → Together (cuts_of ps) k q → value_at ps h k ≡ value_at ps h q
values_together [] h k q t = refl
values_together (p ∷ ps) h k q t = ap₂ (λ b x. cond b (Some p.1) x) (region_together p.0 h k q (t.0, (t.1.0, tt))) (values_together ps h k q t.1.1)

pub joined_changes : {V W X : Type 0} (f : Option V → Option W → Option X) (m : Pieced V) (n : Pieced W)
    → ChangesAt (cuts_of m.pieces ++ cuts_of n.pieces) (λ h k. f (value_at m.pieces h k) (value_at n.pieces h k))
joined_changes f m n h k q t =
    let p = together_parts (cuts_of m.pieces) (cuts_of n.pieces) k q t in ap₂ f (values_together m.pieces h k q p.0) (values_together n.pieces h k q p.1)

pub constant_changes : {V : Type 0} (domain : Region) (v : V) → ChangesAt (ends_of domain) (λ h k. cond (in_region domain h k) (Some v) None)
constant_changes domain v h k q t = ap (λ b. cond b (Some v) None) (region_together domain h k q t)

pub set_changes : {V : Type 0} (part : Region) (v : V) (m : Pieced V)
    → ChangesAt (ends_of part ++ cuts_of m.pieces) (λ h k. cond (in_region part h k && is_some (value_at m.pieces h k)) (Some v) (value_at m.pieces h k))
set_changes part v m h k q t =
    ap₂ (λ b x. cond (b && is_some x) (Some v) x) (region_together part h k q (t.0, (t.1.0, tt))) (values_together m.pieces h k q t.1.1)

pub mask_changes : {V : Type 0} (part : Region) (m : Pieced V)
    → ChangesAt (ends_of part ++ cuts_of m.pieces) (λ h k. cond (in_region part h k) (value_at m.pieces h k) None)
mask_changes part m h k q t = ap₂ (λ b x. cond b x None) (region_together part h k q (t.0, (t.1.0, tt))) (values_together m.pieces h k q t.1.1)

-- ---- the maps of the calls

pub bands_canonical : {V : Type 0} (n q : ℕ) (bs : List (Band V)) (ps : List (Region × V)) → q ≡ n → 0 < n → AreBands q bs → ps ≡ pieces_of bs
    → IsCanonical {V = V} (record { hashes = n; pieces = ps })
bands_canonical n q bs ps e some a p = record { bands = bs; are = subst (λ x. AreBands x bs) e a; pieces = p; some_hash = some }

pub joined_canonical : {V W X : Type 0} (same : X → X → Bool) → Decides same → (f : Option V → Option W → Option X) (m : Pieced V) (n : Pieced W) → 0 < m.hashes → IsCanonical (joined same f m n)
joined_canonical same d f m n some =
    made_canonical same d m.hashes (cuts_of m.pieces ++ cuts_of n.pieces) (λ h k. f (value_at m.pieces h k) (value_at n.pieces h k)) (joined_changes f m n) some

pub joined_hashes : {V W X : Type 0} (same : X → X → Bool) (f : Option V → Option W → Option X) (m : Pieced V) (n : Pieced W) → (joined same f m n).hashes ≡ m.hashes
joined_hashes same f m n = made_hashes same m.hashes (cuts_of m.pieces ++ cuts_of n.pieces) (λ h k. f (value_at m.pieces h k) (value_at n.pieces h k))

pub joined_at : {V W X : Type 0} (same : X → X → Bool) → Decides same → (f : Option V → Option W → Option X) (m : Pieced V) (n : Pieced W) → 0 < m.hashes
    → (h : ℕ) (k : List ℕ) → h < m.hashes → value_at (joined same f m n).pieces h k ≡ f (value_at m.pieces h k) (value_at n.pieces h k)
joined_at same d f m n some =
    made_at same d m.hashes (cuts_of m.pieces ++ cuts_of n.pieces) (λ h k. f (value_at m.pieces h k) (value_at n.pieces h k)) (joined_changes f m n) some

pub joined_beyond : {V W X : Type 0} (same : X → X → Bool) → Decides same → (f : Option V → Option W → Option X) (m : Pieced V) (n : Pieced W) → 0 < m.hashes
    → (h : ℕ) (k : List ℕ) → m.hashes ≤ h → value_at (joined same f m n).pieces h k ≡ None
joined_beyond same d f m n some h k le =
    none_beyond (joined same f m n) h k (joined_canonical same d f m n some) (subst (λ x. x ≤ h) (sym (joined_hashes same f m n)) le)

pub joined_is : {V W X : Type 0} (same : X → X → Bool) → Decides same → (f : Option V → Option W → Option X) (m : Pieced V) (n : Pieced W) (r : Pieced X) → IsCanonical r → r.hashes ≡ m.hashes
    → ((h : ℕ) (k : List ℕ) → h < m.hashes → value_at r.pieces h k ≡ f (value_at m.pieces h k) (value_at n.pieces h k)) → r ≡ joined same f m n
joined_is same d f m n r c e at =
    made_is same d m.hashes (cuts_of m.pieces ++ cuts_of n.pieces) (λ h k. f (value_at m.pieces h k) (value_at n.pieces h k)) (joined_changes f m n) r c e at

pub constant_is : {V : Type 0} (same : V → V → Bool) → Decides same → (domain : Region) (hashes : ℕ) (v : V) (r : Pieced V) → IsCanonical r → r.hashes ≡ hashes
    → ((h : ℕ) (k : List ℕ) → value_at r.pieces h k ≡ cond (nat_lt h hashes && in_region domain h k) (Some v) None) → r ≡ constant_map same domain hashes v
constant_is same d domain hashes v r c e at =
    made_is same d hashes (ends_of domain) (λ h k. cond (in_region domain h k) (Some v) None) (constant_changes domain v) r c e
    (λ h k lt. at h k ∙ ap (λ x. cond (x && in_region domain h k) (Some v) None) (lt-ltb h hashes lt))

pub set_is : {V W : Type 0} (same : V → V → Bool) → Decides same → (part : Region) (v : V) (f : Option V → Option W → Option V) (m : Pieced V) (n : Pieced W) (r : Pieced V) → 0 < m.hashes
    → r ≡ joined same f m n
    → ((h : ℕ) (k : List ℕ) → value_at r.pieces h k ≡ cond (in_region part h k && is_some (value_at m.pieces h k)) (Some v) (value_at m.pieces h k)) → r ≡ set_map same part v m
set_is same d part v f m n r some e at =
    made_is same d m.hashes (ends_of part ++ cuts_of m.pieces) (λ h k. cond (in_region part h k && is_some (value_at m.pieces h k)) (Some v) (value_at m.pieces h k)) (set_changes part v m) r
    (subst (λ x. IsCanonical x) (sym e) (joined_canonical same d f m n some)) (ap (λ (x : Pieced _). x.hashes) e ∙ joined_hashes same f m n) (λ h k _. at h k)

pub mask_is : {V W : Type 0} (same : V → V → Bool) → Decides same → (part : Region) (f : Option V → Option W → Option V) (m : Pieced V) (n : Pieced W) (r : Pieced V) → 0 < m.hashes
    → r ≡ joined same f m n → ((h : ℕ) (k : List ℕ) → value_at r.pieces h k ≡ cond (in_region part h k) (value_at m.pieces h k) None) → r ≡ mask_map same part m
mask_is same d part f m n r some e at =
    made_is same d m.hashes (ends_of part ++ cuts_of m.pieces) (λ h k. cond (in_region part h k) (value_at m.pieces h k) None) (mask_changes part m) r
    (subst (λ x. IsCanonical x) (sym e) (joined_canonical same d f m n some)) (ap (λ (x : Pieced _). x.hashes) e ∙ joined_hashes same f m n) (λ h k _. at h k)
