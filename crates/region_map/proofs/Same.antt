-- Region maps that give every pair the same value are the same.
use Rattle.std.proofs.Common.{◌≡◌, ◌≢◌, ℕ, ◌<◌, ◌≤◌, Bool, true, false, cond, ◌&&◌, not, nat_lt, List, [], ◌∷◌, length, Option, Some, None, inl, inr, refl, sym, ap, ap₂, ◌∙◌, subst, arith}
use Rattle.std.specs.List.{AllByRecursion}
use Rattle.std.proofs.lemmas.Bool.{and_right, not-true, both_ways, cases_order, cases_Bool, cases_lt}
use Rattle.region_map.specs.declared.row.Range.{Range}
use Rattle.region_map.specs.Regions.{before, low, below, in_range, is_bound, ends_by}
use Rattle.region_map.specs.Maps.{Pieced, Band, Succeeds, AreBands, IsRow, IsRange, Follows, IsCanonical, value_at, row_value, pieces_of}
use Rattle.region_map.specs.Rows.{sooner}
use Rattle.region_map.specs.Bands.{row_at}
use Rattle.region_map.proofs.Order.{before_some, before_self, before_back, before_then, before_neither}
use Rattle.region_map.proofs.Rows.{in_range_from, in_range_parts}
use Rattle.region_map.proofs.Bands.{none_before, row_at_is, value_at-pieces_of, in_band, past_band, before_band}

-- ---- bounds

low_same : (a b : Option (List ℕ)) → is_bound a ≡ true → is_bound b ≡ true → low a ≡ low b → a ≡ b
low_same None None h i e = refl
low_same None (Some b) h i e = absurd (both_ways _ (before_self []) (before_some_at b e i))
  where
    before_some_at : (b : List ℕ) → [] ≡ b → nat_lt 0 (length b) ≡ true → before [] [] ≡ true
    before_some_at b e i = subst (λ x. before [] x ≡ true) (sym e) (before_some b i)
low_same (Some a) None h i e = absurd (both_ways _ (before_self []) (subst (λ x. before [] x ≡ true) e (before_some a h)))
low_same (Some a) (Some b) h i e = ap Some e

ends_same : (a b : Option (List ℕ)) → sooner a b ≡ false → sooner b a ≡ false → a ≡ b
ends_same None None h i = refl
ends_same None (Some b) h i = absurd (cc)
ends_same (Some a) None h i = absurd (cc)
ends_same (Some a) (Some b) h i = ap Some (before_neither a b h i)

-- ---- rows

module _ {V : Type 0} where
  range_same : (a b : Range V) → a.from ≡ b.from → a.to ≡ b.to → a.value ≡ b.value → a ≡ b
  range_same a b e d v = λ i. record { from = e i; to = d i; value = v i }

  starts_in : (g : Range V) → IsRange g → in_range g.from g.to (low g.from) ≡ true
  starts_in g r = in_range_from g.from g.to (low g.from) (before_self (low g.from)) r.holds

  value_of_first : (g : Range V) (gs : List (Range V)) (k : List ℕ) → in_range g.from g.to k ≡ true → row_value (g ∷ gs) k ≡ Some g.value
  value_of_first g gs k e = ap (λ c. cond c (Some g.value) (row_value gs k)) e

  value_of_rest : (g : Range V) (gs : List (Range V)) (k : List ℕ) → in_range g.from g.to k ≡ false → row_value (g ∷ gs) k ≡ row_value gs k
  value_of_rest g gs k e = ap (λ c. cond c (Some g.value) (row_value gs k)) e

  -- before the first range there is no value
  none_first : (g : Range V) (gs : List (Range V)) (k : List ℕ) → IsRow (g ∷ gs) → before k (low g.from) ≡ true → row_value (g ∷ gs) k ≡ None
  none_first g gs k r h = value_of_rest g gs k (ap (λ c. not c && below k g.to) h) ∙ none_before g gs k r.1 r.0.holds h

  -- below the end of a range those behind it have no value
  none_behind_it : (g : Range V) (gs : List (Range V)) (k : List ℕ) → AllByRecursion (Follows g) gs → below k g.to ≡ true → row_value gs k ≡ None
  none_behind_it g [] k f h = refl
  none_behind_it g (x ∷ gs) k f h =
      value_of_rest x gs k (outside g.to (f.0).apart h) ∙ none_behind_it g gs k f.1 h
    where
      outside : (to : Option (List ℕ)) → ends_by to x.from ≡ true → below k to ≡ true → in_range x.from x.to k ≡ false
      outside None a b = absurd (cc)
      outside (Some t) a b = ap (λ c. not c && below k x.to) (before_then k t (low x.from) b (not-true _ a))

  -- where the next range touches a range, it has another value
  not_longer : (g : Range V) (gs : List (Range V)) (t : List ℕ) → IsRange g → AllByRecursion (Follows g) gs → IsRow gs → g.to ≡ Some t → row_value gs t ≡ Some g.value → ⊥
  not_longer g [] t is f r e v = cc
  not_longer g (x ∷ gs) t is f r e v =
      elim (cases_Bool (in_range x.from x.to t)) [
        | inl here ↦
            let after : before (low x.from) t ≡ false = apart_at g.to (f.0).apart e in
            let begun = (in_range_parts x.from x.to t here).0 in
            let same : low x.from ≡ t = before_neither (low x.from) t after begun in
            let touch : g.to ≡ x.from = low_same g.to x.from is.ends r.0.begins (ap low e ∙ sym same) in
            let given : Some x.value ≡ Some g.value = sym (value_of_first x gs t here) ∙ v in
            (f.0).longest touch (cc)
        | inr gone ↦ not_longer g gs t is f.1 r.2 e (sym (value_of_rest x gs t gone) ∙ v)
      ]
    where
      apart_at : (to : Option (List ℕ)) → ends_by to x.from ≡ true → to ≡ Some t → before (low x.from) t ≡ false
      apart_at None a b = absurd (cc)
      apart_at (Some s) a b = subst (λ y. before (low x.from) (low y) ≡ false) b (not-true _ a)

  -- of two rows with the same values, neither has a first range that begins sooner, or ends sooner
  not_begun : (g x : Range V) (gs xs : List (Range V)) → IsRow (g ∷ gs) → IsRow (x ∷ xs) → ((k : List ℕ) → row_value (g ∷ gs) k ≡ row_value (x ∷ xs) k) → before (low g.from) (low x.from) ≡ true → ⊥
  not_begun g x gs xs r s same h =
      let here = value_of_first g gs (low g.from) (starts_in g r.0) in
      let there = none_first x xs (low g.from) s h in
      let both : Some g.value ≡ None = sym here ∙ same (low g.from) ∙ there in cc

  not_ended : (g x : Range V) (gs xs : List (Range V)) → IsRow (g ∷ gs) → IsRow (x ∷ xs) → ((k : List ℕ) → row_value (g ∷ gs) k ≡ row_value (x ∷ xs) k)
      → g.from ≡ x.from → g.value ≡ x.value → sooner g.to x.to ≡ true → ⊥
  not_ended g x gs xs r s same e v h = at g.to refl h
    where
      at : (to : Option (List ℕ)) → g.to ≡ to → sooner to x.to ≡ true → ⊥
      at None d h = cc
      at (Some t) d h =
          let begun : before t (low g.from) ≡ false = before_back (low g.from) t (subst (λ y. below (low g.from) y ≡ true) d r.0.holds) in
          let within : in_range x.from x.to t ≡ true = in_range_from x.from x.to t (subst (λ y. before t (low y) ≡ false) e begun) (below_sooner x.to h) in
          let past : in_range g.from g.to t ≡ false = and_right _ _ (ap (below t) d ∙ before_self t) in
          not_longer g gs t r.0 r.1 r.2 d (sym (value_of_rest g gs t past) ∙ same t ∙ value_of_first x xs t within ∙ ap Some (sym v))
        where
          below_sooner : (b : Option (List ℕ)) → sooner (Some t) b ≡ true → below t b ≡ true
          below_sooner None i = refl
          below_sooner (Some b) i = i

  pub rows_same : (gs xs : List (Range V)) → IsRow gs → IsRow xs → ((k : List ℕ) → row_value gs k ≡ row_value xs k) → gs ≡ xs
  rows_same [] [] r s same = refl
  rows_same [] (x ∷ xs) r s same = let e : None ≡ Some x.value = same (low x.from) ∙ value_of_first x xs (low x.from) (starts_in x s.0) in absurd (cc)
  rows_same (g ∷ gs) [] r s same = let e : Some g.value ≡ None = sym (value_of_first g gs (low g.from) (starts_in g r.0)) ∙ same (low g.from) in absurd (cc)
  rows_same (g ∷ gs) (x ∷ xs) r s same =
      let begins : low g.from ≡ low x.from = before_neither _ _ (refuted _ (not_begun g x gs xs r s same)) (refuted _ (not_begun x g xs gs s r (λ k. sym (same k)))) in
      let from : g.from ≡ x.from = low_same g.from x.from r.0.begins s.0.begins begins in
      let some : Some g.value ≡ Some x.value = sym (value_of_first g gs (low g.from) (starts_in g r.0)) ∙ same (low g.from) ∙ ap (row_value (x ∷ xs)) begins ∙ value_of_first x xs (low x.from) (starts_in x s.0) in
      let value : g.value ≡ x.value = cc in
      let to : g.to ≡ x.to = ends_same g.to x.to (refuted _ (not_ended g x gs xs r s same from value)) (refuted _ (not_ended x g xs gs s r (λ k. sym (same k)) (sym from) (sym value))) in
      ap₂ (λ y ys. y ∷ ys) (range_same g x from to value) (rows_same gs xs r.2 s.2 (rest from to))
    where
      refuted : (b : Bool) → (b ≡ true → ⊥) → b ≡ false
      refuted true f = absurd (f refl)
      refuted false f = refl

      rest : g.from ≡ x.from → g.to ≡ x.to → (k : List ℕ) → row_value gs k ≡ row_value xs k
      rest from to k =
          elim (cases_Bool (in_range g.from g.to k)) [
            | inl inside ↦
                let under = (in_range_parts g.from g.to k inside).1 in
                none_behind_it g gs k r.1 under ∙ sym (none_behind_it x xs k s.1 (subst (λ y. below k y ≡ true) to under))
            | inr outside ↦
                let there : in_range x.from x.to k ≡ false = subst (λ y. in_range x.from y k ≡ false) to (subst (λ y. in_range y g.to k ≡ false) from outside) in
                sym (value_of_rest g gs k outside) ∙ same k ∙ value_of_rest x xs k there
          ]

  -- ---- bands

  band_same : (a b : Band V) → a.hash_from ≡ b.hash_from → a.hash_to ≡ b.hash_to → a.row ≡ b.row → a ≡ b
  band_same a b e d r = λ i. record { hash_from = e i; hash_to = d i; row = r i }

  row_first : (b : Band V) (bs : List (Band V)) (h : ℕ) → b.hash_from ≤ h → h < b.hash_to → row_at (b ∷ bs) h ≡ b.row
  row_first b bs h i j = ap (λ c. cond c b.row (row_at bs h)) (in_band b.hash_from b.hash_to h i j)

  row_past : (b : Band V) (bs : List (Band V)) (h : ℕ) → b.hash_to ≤ h → row_at (b ∷ bs) h ≡ row_at bs h
  row_past b bs h i = ap (λ c. cond c b.row (row_at bs h)) (past_band b.hash_from b.hash_to h i)

  row_ahead : (b : Band V) (bs : List (Band V)) (h : ℕ) → AllByRecursion (Succeeds b) bs → h < b.hash_to → row_at bs h ≡ []
  row_ahead b [] h s i = refl
  row_ahead b (c ∷ bs) h s i =
      let a = (s.0).apart in
      ap (λ x. cond x c.row (row_at bs h)) (before_band c.hash_from c.hash_to h (omega arith)) ∙ row_ahead b bs h s.1 i

  row_before : (n : ℕ) (b : Band V) (bs : List (Band V)) (h : ℕ) → AreBands n (b ∷ bs) → h < b.hash_from → row_at (b ∷ bs) h ≡ []
  row_before n b bs h a i =
      let w = a.0.holds in
      ap (λ c. cond c b.row (row_at bs h)) (before_band b.hash_from b.hash_to h i) ∙ row_ahead b bs h a.1 (omega arith)

  band_not_longer : (n : ℕ) (b : Band V) (bs : List (Band V)) → b.row ≢ [] → AllByRecursion (Succeeds b) bs → AreBands n bs → row_at bs b.hash_to ≡ b.row → ⊥
  band_not_longer n b [] f s a e = f (sym e)
  band_not_longer n b (c ∷ bs) f s a e =
      let p = (s.0).apart in
      let w = a.0.holds in
      elim (cases_order b.hash_to c.hash_from) [
        | inl same ↦ (s.0).longest same (sym e ∙ row_first c bs b.hash_to (omega arith) (omega arith))
        | inr other ↦ elim other [
          | inl less ↦ f (sym e ∙ row_before n c bs b.hash_to a less)
          | inr more ↦ absurd (omega arith)
        ]
      ]

  bands_begun : (n m : ℕ) (b c : Band V) (bs cs : List (Band V)) → AreBands n (b ∷ bs) → AreBands m (c ∷ cs) → ((h : ℕ) → row_at (b ∷ bs) h ≡ row_at (c ∷ cs) h) → b.hash_from < c.hash_from → ⊥
  bands_begun n m b c bs cs a d same i =
      let w = a.0.holds in
      a.0.filled (sym (row_first b bs b.hash_from (omega arith) (omega arith)) ∙ same b.hash_from ∙ row_before m c cs b.hash_from d i)

  bands_ended : (n m : ℕ) (b c : Band V) (bs cs : List (Band V)) → AreBands n (b ∷ bs) → AreBands m (c ∷ cs) → ((h : ℕ) → row_at (b ∷ bs) h ≡ row_at (c ∷ cs) h)
      → b.hash_from ≡ c.hash_from → b.row ≡ c.row → b.hash_to < c.hash_to → ⊥
  bands_ended n m b c bs cs a d same e r i =
      let w = a.0.holds in
      band_not_longer n b bs a.0.filled a.1 a.2 (sym (row_past b bs b.hash_to (omega arith)) ∙ same b.hash_to ∙ row_first c cs b.hash_to (omega arith) i ∙ sym r)

  pub bands_same : (n m : ℕ) (bs cs : List (Band V)) → AreBands n bs → AreBands m cs → ((h : ℕ) → row_at bs h ≡ row_at cs h) → bs ≡ cs
  bands_same n m [] [] a d same = refl
  bands_same n m [] (c ∷ cs) a d same = let w = d.0.holds in absurd (d.0.filled (sym (row_first c cs c.hash_from (omega arith) w) ∙ sym (same c.hash_from)))
  bands_same n m (b ∷ bs) [] a d same = let w = a.0.holds in absurd (a.0.filled (sym (row_first b bs b.hash_from (omega arith) w) ∙ same b.hash_from))
  bands_same n m (b ∷ bs) (c ∷ cs) a d same =
      let w = a.0.holds in
      let u = d.0.holds in
      let from : b.hash_from ≡ c.hash_from = neither b.hash_from c.hash_from (bands_begun n m b c bs cs a d same) (bands_begun m n c b cs bs d a (λ h. sym (same h))) in
      let row : b.row ≡ c.row = sym (row_first b bs b.hash_from (omega arith) w) ∙ same b.hash_from ∙ row_first c cs b.hash_from (omega arith) (omega arith) in
      let to : b.hash_to ≡ c.hash_to = neither b.hash_to c.hash_to (bands_ended n m b c bs cs a d same from row) (bands_ended m n c b cs bs d a (λ h. sym (same h)) (sym from) (sym row)) in
      ap₂ (λ y ys. y ∷ ys) (band_same b c from to row) (bands_same n m bs cs a.2 d.2 (rest to))
    where
      neither : (x y : ℕ) → (x < y → ⊥) → (y < x → ⊥) → x ≡ y
      neither x y f g = elim (cases_order x y) [ inl e ↦ e | inr o ↦ elim o [ inl l ↦ absurd (f l) | inr m ↦ absurd (g m) ] ]

      rest : b.hash_to ≡ c.hash_to → (h : ℕ) → row_at bs h ≡ row_at cs h
      rest to h = elim (cases_lt h b.hash_to) [
        | inl lt ↦ row_ahead b bs h a.1 lt ∙ sym (row_ahead c cs h d.1 (subst (λ x. h < x) to lt))
        | inr ge ↦ sym (row_past b bs h ge) ∙ same h ∙ row_past c cs h (subst (λ x. x ≤ h) to ge)
      ]

  -- ---- maps

  map_same : (m n : Pieced V) → m.hashes ≡ n.hashes → m.pieces ≡ n.pieces → m ≡ n
  map_same m n e d = λ i. record { hashes = e i; pieces = d i }

  pub same_maps : (m n : Pieced V) → IsCanonical m → IsCanonical n → m.hashes ≡ n.hashes → ((h : ℕ) (k : List ℕ) → value_at m.pieces h k ≡ value_at n.pieces h k) → m ≡ n
  same_maps m n c d e same =
      let bands : c.bands ≡ d.bands = bands_same m.hashes n.hashes c.bands d.bands c.are d.are (λ h.
      rows_same (row_at c.bands h) (row_at d.bands h) (row_at_is m.hashes c.bands h c.are) (row_at_is n.hashes d.bands h d.are) (λ k.
      sym (value_at-pieces_of m.hashes c.bands h k c.are) ∙ ap (λ ps. value_at ps h k) (sym c.pieces) ∙ same h k
      ∙ ap (λ ps. value_at ps h k) d.pieces ∙ value_at-pieces_of n.hashes d.bands h k d.are)) in
      map_same m n e (c.pieces ∙ ap pieces_of bands ∙ sym d.pieces)
