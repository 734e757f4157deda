-- Bands: what adding the row of a hash gives, and how a map's pieces come from them.
use Rattle.std.proofs.Common.{◌≡◌, ◌≢◌, ℕ, ◌+◌, ◌<◌, ◌≤◌, ◌==◌, Bool, true, false, cond, ◌&&◌, not, nat_lt, nat_le, List, [], ◌∷◌, ◌++◌, map, Option, Some, None, inl, inr, refl, sym, ap, ap₂, ◌∙◌, subst, arith}
use Rattle.std.specs.List.{AllByRecursion}
use Rattle.std.proofs.lemmas.Bool.{and_parts, and_from, and_left, and_right, eqb-true, eqb-false, ltb-true, leb-true, lt-ltb, le-ltb, le-leb, lt-leb, cases_eq, not-true, cond_both}
use Rattle.std.proofs.lemmas.List.{append-nil}
use Rattle.std.proofs.lemmas.Bool.Decides.{nat_tests}
use Rattle.list_laws.proofs.All.{all_pop, all_push, all_weaker}
use Rattle.region_map.specs.declared.region.Region.{Region}
use Rattle.region_map.specs.declared.row.Range.{Range}
use Rattle.region_map.specs.declared.stretch.Stretch.{Stretch}
use Rattle.region_map.specs.Regions.{before, low, below, in_range, in_region, is_open, ends_by}
use Rattle.region_map.specs.Maps.{Pieced, Band, IsBand, Succeeds, AreBands, IsRow, IsRange, Follows, IsCanonical, value_at, row_value, piece, pieces_of}
use Rattle.region_map.specs.Rows.{at_hash, range_of, ranges_at, gap, stretches_of, stretch_value}
use Rattle.region_map.specs.Rows.{IsZipped}
use Rattle.region_map.specs.Bands.{row_at, Adds}
use Rattle.region_map.proofs.Zips.{never_in}
use Rattle.region_map.proofs.Order.{before_nil, before_trans, before_then}

pub in_band : (from to q : ℕ) → from ≤ q → q < to → (nat_le from q && nat_lt q to) ≡ true
in_band from to q h i = and_from _ _ (le-leb from q h) (lt-ltb q to i)

pub past_band : (from to q : ℕ) → to ≤ q → (nat_le from q && nat_lt q to) ≡ false
past_band from to q h = and_right _ _ (le-ltb q to h)

pub before_band : (from to q : ℕ) → q < from → (nat_le from q && nat_lt q to) ≡ false
before_band from to q h = and_left _ _ (lt-leb from q h)

module _ {V : Type 0} where
  -- ---- the row of a hash

  row_at_past : (bs : List (Band V)) (q : ℕ) → AllByRecursion (λ b. b.hash_to ≤ q) bs → row_at bs q ≡ []
  row_at_past [] q h = refl
  row_at_past (b ∷ bs) q h = ap (λ c. cond c b.row (row_at bs q)) (past_band b.hash_from b.hash_to q h.0) ∙ row_at_past bs q h.1

  row_at_in : (bs : List (Band V)) (b : Band V) (q : ℕ) → AllByRecursion (λ x. x.hash_to ≤ q) bs → (nat_le b.hash_from q && nat_lt q b.hash_to) ≡ true → row_at (bs ++ b ∷ []) q ≡ b.row
  row_at_in [] b q h i = ap (λ c. cond c b.row []) i
  row_at_in (x ∷ bs) b q h i = ap (λ c. cond c x.row (row_at (bs ++ b ∷ []) q)) (past_band x.hash_from x.hash_to q h.0) ∙ row_at_in bs b q h.1 i

  row_at_out : (bs : List (Band V)) (b : Band V) (q : ℕ) → (nat_le b.hash_from q && nat_lt q b.hash_to) ≡ false → row_at (bs ++ b ∷ []) q ≡ row_at bs q
  row_at_out [] b q i = ap (λ c. cond c b.row []) i
  row_at_out (x ∷ bs) b q i = ap (λ r. cond (nat_le x.hash_from q && nat_lt q x.hash_to) x.row r) (row_at_out bs b q i)

  row_at_same : (bs : List (Band V)) (b c : Band V) (q : ℕ) → (nat_le b.hash_from q && nat_lt q b.hash_to) ≡ (nat_le c.hash_from q && nat_lt q c.hash_to) → b.row ≡ c.row
      → row_at (bs ++ b ∷ []) q ≡ row_at (bs ++ c ∷ []) q
  row_at_same [] b c q h r = ap (λ t. cond t b.row []) h ∙ ap (λ x. cond (nat_le c.hash_from q && nat_lt q c.hash_to) x []) r
  row_at_same (x ∷ bs) b c q h r = ap (λ y. cond (nat_le x.hash_from q && nat_lt q x.hash_to) x.row y) (row_at_same bs b c q h r)

  bands_front : (n : ℕ) (bs : List (Band V)) (b : Band V) → AreBands n (bs ++ b ∷ []) → AreBands n bs × IsBand n b × AllByRecursion (λ x. Succeeds x b) bs
  bands_front n [] b h = (tt, h.0, tt)
  bands_front n (x ∷ bs) b h =
      let r = bands_front n bs b h.2 in
      let a = all_pop (Succeeds x) bs b h.1 in
      ((h.0, a.0, r.0), r.1, (a.1, r.2))

  bands_snoc : (n : ℕ) (bs : List (Band V)) (b : Band V) → AreBands n bs → IsBand n b → AllByRecursion (λ x. Succeeds x b) bs → AreBands n (bs ++ b ∷ [])
  bands_snoc n [] b h r f = (r, tt, tt)
  bands_snoc n (x ∷ bs) b h r f = (h.0, all_push (Succeeds x) bs b h.1 f.0, bands_snoc n bs b h.2 r f.1)

  bands_wider : (n m : ℕ) (bs : List (Band V)) → n ≤ m → AreBands n bs → AreBands m bs
  bands_wider n m [] h a = tt
  bands_wider n m (b ∷ bs) h a = (record { holds = a.0.holds; within = (let w = a.0.within in omega arith); filled = a.0.filled; row = a.0.row }, a.1, bands_wider n m bs h a.2)

  bands_within : (n q : ℕ) (bs : List (Band V)) → AreBands n bs → n ≤ q → AllByRecursion (λ b. b.hash_to ≤ q) bs
  bands_within n q [] a h = tt
  bands_within n q (b ∷ bs) a h = ((let w = a.0.within in omega arith), bands_within n q bs a.2 h)

  -- ---- adding a row

  pub adds_none : (old : List (Band V)) (h : ℕ) (row : List (Range V)) → AreBands h old → row ≡ [] → Adds old h row old
  adds_none old h row a e = record {
    are = bands_wider h (h + 1) old (omega arith) a;
    at = λ q. elim (q == h) as (λ c. (q == h) ≡ c → row_at old q ≡ cond c row (row_at old q)) [
      | true ↦ λ s. let same = eqb-true q h s in row_at_past old q (bands_within h q old a (omega arith)) ∙ sym e
      | false ↦ λ s. refl
    ] refl;
  }

  pub adds_new : (old : List (Band V)) (h : ℕ) (row : List (Range V)) (new : Band V) → AreBands h old → IsRow row → row ≢ []
      → new.hash_from ≡ h → new.hash_to ≡ h + 1 → new.row ≡ row → AllByRecursion (λ x. Succeeds x new) old → Adds old h row (old ++ new ∷ [])
  adds_new old h row new a r f e1 e2 e3 s = record {
    are = bands_snoc (h + 1) old new (bands_wider h (h + 1) old (omega arith) a)
        (record { holds = omega arith; within = omega arith; filled = λ e. f (sym e3 ∙ e); row = subst (λ x. IsRow x) (sym e3) r }) s;
    at = λ q. elim (q == h) as (λ c. (q == h) ≡ c → row_at (old ++ new ∷ []) q ≡ cond c row (row_at old q)) [
      | true ↦ λ t. let same = eqb-true q h t in
          row_at_in old new q (bands_within h q old a (omega arith)) (in_band new.hash_from new.hash_to q (omega arith) (omega arith)) ∙ e3
      | false ↦ λ t. let other = eqb-false q h t in row_at_out old new q (outside q other)
    ] refl;
  }
    where
      outside : (q : ℕ) → (q ≡ h → ⊥) → (nat_le new.hash_from q && nat_lt q new.hash_to) ≡ false
      outside q other = elim (cases_eq q h) [
        | inl same ↦ absurd (other same)
        | inr apart ↦ elim (nat_le new.hash_from q) as (λ c. nat_le new.hash_from q ≡ c → (c && nat_lt q new.hash_to) ≡ false) [
          | true ↦ λ t. let le = leb-true new.hash_from q t in le-ltb q new.hash_to (omega arith)
          | false ↦ λ t. refl
        ] refl
      ]

  pub adds_longer : (init : List (Band V)) (last new : Band V) (h : ℕ) (row : List (Range V)) → AreBands h (init ++ last ∷ []) → last.hash_to ≡ h → last.row ≡ row
      → new.hash_from ≡ last.hash_from → new.hash_to ≡ h + 1 → new.row ≡ last.row → Adds (init ++ last ∷ []) h row (init ++ new ∷ [])
  adds_longer init last new h row a e r e1 e2 e3 =
      let p = bands_front h init last a in
      let is = p.1 in
      let begins = is.holds in
      record {
        are = bands_snoc (h + 1) init new (bands_wider h (h + 1) init (omega arith) p.0)
            (record { holds = omega arith; within = omega arith; filled = λ x. is.filled (sym e3 ∙ x); row = subst (λ x. IsRow x) (sym e3) is.row })
            (all_weaker (λ x. Succeeds x last) (λ x. Succeeds x new) init
            (λ x s. record { apart = (let w = s.apart in omega arith); longest = λ u v. s.longest (u ∙ e1) (v ∙ e3) }) p.2);
        at = λ q. elim (q == h) as (λ c. (q == h) ≡ c → row_at (init ++ new ∷ []) q ≡ cond c row (row_at (init ++ last ∷ []) q)) [
          | true ↦ λ t. let same = eqb-true q h t in
              row_at_in init new q (bands_within h q init p.0 (omega arith)) (in_band new.hash_from new.hash_to q (omega arith) (omega arith)) ∙ e3 ∙ r
          | false ↦ λ t. row_at_same init new last q (alike q (eqb-false q h t)) e3
        ] refl;
      }
    where
      alike : (q : ℕ) → (q ≡ h → ⊥) → (nat_le new.hash_from q && nat_lt q new.hash_to) ≡ (nat_le last.hash_from q && nat_lt q last.hash_to)
      alike q other = grind (arith, nat_tests)

  pub adds_apart : (init : List (Band V)) (last new : Band V) (h : ℕ) (row : List (Range V)) → AreBands h (init ++ last ∷ []) → IsRow row → row ≢ []
      → (last.hash_to ≡ h → last.row ≡ row → ⊥) → new.hash_from ≡ h → new.hash_to ≡ h + 1 → new.row ≡ row → Adds (init ++ last ∷ []) h row ((init ++ last ∷ []) ++ new ∷ [])
  adds_apart init last new h row a r f ne e1 e2 e3 =
      let p = bands_front h init last a in
      let is = p.1 in
      let holds = is.holds in
      let within = is.within in
      adds_new (init ++ last ∷ []) h row new a r f e1 e2 e3
      (all_push (λ x. Succeeds x new) init last
      (all_weaker (λ x. Succeeds x last) (λ x. Succeeds x new) init (λ x s. let w = s.apart in record { apart = omega arith; longest = λ u v. absurd (omega arith) }) p.2)
      (record { apart = omega arith; longest = λ u v. ne (u ∙ e1) (v ∙ e3) }))

  pub adds_longer_at : (old init new : List (Band V)) (last next : Band V) (h : ℕ) (row : List (Range V)) → old ≡ init ++ last ∷ [] → new ≡ init ++ next ∷ []
      → AreBands h old → last.hash_to ≡ h → last.row ≡ row → next.hash_from ≡ last.hash_from → next.hash_to ≡ h + 1 → next.row ≡ last.row → Adds old h row new
  adds_longer_at old init new last next h row eo en a e r e1 e2 e3 =
      subst (λ o. Adds o h row new) (sym eo) (subst (λ n. Adds (init ++ last ∷ []) h row n) (sym en)
      (adds_longer init last next h row (subst (λ o. AreBands h o) eo a) e r e1 e2 e3))

  pub adds_apart_at : (old init mid new : List (Band V)) (last next : Band V) (h : ℕ) (row : List (Range V)) → old ≡ init ++ last ∷ [] → mid ≡ init ++ last ∷ [] → new ≡ mid ++ next ∷ []
      → AreBands h old → IsRow row → row ≢ [] → (last.hash_to ≡ h → last.row ≡ row → ⊥) → next.hash_from ≡ h → next.hash_to ≡ h + 1 → next.row ≡ row → Adds old h row new
  adds_apart_at old init mid new last next h row eo em en a r f ne e1 e2 e3 =
      let e : new ≡ (init ++ last ∷ []) ++ next ∷ [] = en ∙ ap (λ x. x ++ next ∷ []) em in
      subst (λ o. Adds o h row new) (sym eo) (subst (λ n. Adds (init ++ last ∷ []) h row n) (sym e)
      (adds_apart init last next h row (subst (λ o. AreBands h o) eo a) r f ne e1 e2 e3))

  -- ---- pieces

  ranges_at-append : (ps qs : List (Region × V)) (h : ℕ) → ranges_at (ps ++ qs) h ≡ ranges_at ps h ++ ranges_at qs h
  ranges_at-append [] qs h = refl
  ranges_at-append (p ∷ ps) qs h =
      elim (at_hash p.0 h) as (λ c. cond c (range_of p ∷ ranges_at (ps ++ qs) h) (ranges_at (ps ++ qs) h) ≡ cond c (range_of p ∷ ranges_at ps h) (ranges_at ps h) ++ ranges_at qs h) [
        | true ↦ ap (λ r. range_of p ∷ r) (ranges_at-append ps qs h)
        | false ↦ ranges_at-append ps qs h
      ]

  ranges_at_in : (from to h : ℕ) (row : List (Range V)) → (nat_le from h && nat_lt h to) ≡ true → ranges_at (map (piece from to) row) h ≡ row
  ranges_at_in from to h [] e = refl
  ranges_at_in from to h (g ∷ gs) e = ap (λ c. cond c (g ∷ ranges_at (map (piece from to) gs) h) (ranges_at (map (piece from to) gs) h)) e ∙ ap (λ r. g ∷ r) (ranges_at_in from to h gs e)

  ranges_at_out : (from to h : ℕ) (row : List (Range V)) → (nat_le from h && nat_lt h to) ≡ false → ranges_at (map (piece from to) row) h ≡ []
  ranges_at_out from to h [] e = refl
  ranges_at_out from to h (g ∷ gs) e = ap (λ c. cond c (g ∷ ranges_at (map (piece from to) gs) h) (ranges_at (map (piece from to) gs) h)) e ∙ ranges_at_out from to h gs e

  ranges_at_before : (bs : List (Band V)) (h : ℕ) → AllByRecursion (λ b. h < b.hash_from) bs → ranges_at (pieces_of bs) h ≡ []
  ranges_at_before [] h a = refl
  ranges_at_before (b ∷ bs) h a =
      ranges_at-append (map (piece b.hash_from b.hash_to) b.row) (pieces_of bs) h
      ∙ ap (λ r. r ++ ranges_at (pieces_of bs) h) (ranges_at_out b.hash_from b.hash_to h b.row (before_band b.hash_from b.hash_to h a.0))
      ∙ ranges_at_before bs h a.1

  pub ranges_at-pieces_of : (n : ℕ) (bs : List (Band V)) (h : ℕ) → AreBands n bs → ranges_at (pieces_of bs) h ≡ row_at bs h
  ranges_at-pieces_of n [] h a = refl
  ranges_at-pieces_of n (b ∷ bs) h a =
      ranges_at-append (map (piece b.hash_from b.hash_to) b.row) (pieces_of bs) h
      ∙ elim (nat_le b.hash_from h && nat_lt h b.hash_to) as (λ c. (nat_le b.hash_from h && nat_lt h b.hash_to) ≡ c
      → ranges_at (map (piece b.hash_from b.hash_to) b.row) h ++ ranges_at (pieces_of bs) h ≡ cond c b.row (row_at bs h)) [
        | true ↦ λ e.
            let under : h < b.hash_to = ltb-true h b.hash_to (and_parts (nat_le b.hash_from h) (nat_lt h b.hash_to) e).1 in
            ap (λ r. r ++ ranges_at (pieces_of bs) h) (ranges_at_in b.hash_from b.hash_to h b.row e)
            ∙ ap (λ r. b.row ++ r) (ranges_at_before bs h (all_weaker (λ x. Succeeds b x) (λ x. h < x.hash_from) bs (λ x s. let w = s.apart in omega arith) a.1))
            ∙ append-nil b.row
        | false ↦ λ e. ap (λ r. r ++ ranges_at (pieces_of bs) h) (ranges_at_out b.hash_from b.hash_to h b.row e) ∙ ranges_at-pieces_of n bs h a.2
      ] refl

  pub row_at_is : (n : ℕ) (bs : List (Band V)) (h : ℕ) → AreBands n bs → IsRow (row_at bs h)
  row_at_is n [] h a = tt
  row_at_is n (b ∷ bs) h a = cond_both (nat_le b.hash_from h && nat_lt h b.hash_to) b.row (row_at bs h) (λ r. IsRow r) (λ _. a.0.row) (λ _. row_at_is n bs h a.2)

  -- ---- values

  pub value_at_row : (ps : List (Region × V)) (h : ℕ) (k : List ℕ) → value_at ps h k ≡ row_value (ranges_at ps h) k
  value_at_row [] h k = refl
  value_at_row (p ∷ ps) h k =
      elim (at_hash p.0 h) as (λ c. cond (c && in_range p.0.from p.0.to k) (Some p.1) (value_at ps h k) ≡ row_value (cond c (range_of p ∷ ranges_at ps h) (ranges_at ps h)) k) [
        | true ↦ ap (cond (in_range p.0.from p.0.to k) (Some p.1)) (value_at_row ps h k)
        | false ↦ value_at_row ps h k
      ]

  pub row_of_canonical : (m : Pieced V) (h : ℕ) → IsCanonical m → IsRow (ranges_at m.pieces h)
  row_of_canonical m h c = subst (λ r. IsRow r) (sym (ap (λ ps. ranges_at ps h) c.pieces ∙ ranges_at-pieces_of m.hashes c.bands h c.are)) (row_at_is m.hashes c.bands h c.are)

  pub value_at-pieces_of : (n : ℕ) (bs : List (Band V)) (h : ℕ) (k : List ℕ) → AreBands n bs → value_at (pieces_of bs) h k ≡ row_value (row_at bs h) k
  value_at-pieces_of n bs h k a = value_at_row (pieces_of bs) h k ∙ ap (λ r. row_value r k) (ranges_at-pieces_of n bs h a)

  pub none_beyond : (m : Pieced V) (h : ℕ) (k : List ℕ) → IsCanonical m → m.hashes ≤ h → value_at m.pieces h k ≡ None
  none_beyond m h k c le =
      ap (λ ps. value_at ps h k) c.pieces ∙ value_at-pieces_of m.hashes c.bands h k c.are
      ∙ ap (λ r. row_value r k) (row_at_past c.bands h (bands_within m.hashes h c.bands c.are le))

  -- ---- stretches

  pub none_before : (g : Range V) (gs : List (Range V)) (k : List ℕ) → AllByRecursion (Follows g) gs → is_open g.from g.to ≡ true → before k (low g.from) ≡ true → row_value gs k ≡ None
  none_before g [] k f o h = refl
  none_before g (x ∷ gs) k f o h =
      ap (λ c. cond (not c && below k x.to) (Some x.value) (row_value gs k)) (far g.to (f.0).apart o) ∙ none_before g gs k f.1 o h
    where
      far : (to : Option (List ℕ)) → ends_by to x.from ≡ true → below (low g.from) to ≡ true → before k (low x.from) ≡ true
      far None a b = absurd (cc)
      far (Some t) a b = before_then k t (low x.from) (before_trans k (low g.from) t h b) (not-true _ a)

  pub stretch_value_of : (gs : List (Range V)) (k : List ℕ) → IsRow gs → stretch_value (stretches_of gs) k ≡ row_value gs k
  stretch_value_of [] k r = refl
  stretch_value_of (g ∷ gs) k r = from_gap (stretch_value_of gs k r.2) g.from refl
    where
      from_gap : stretch_value (stretches_of gs) k ≡ row_value gs k → (from : Option (List ℕ)) → g.from ≡ from → stretch_value ((gap from ++ record { value = Some g.value; to = g.to } ∷ []) ++ stretches_of gs) k ≡ cond (in_range from g.to k) (Some g.value) (row_value gs k)
      from_gap rest None e = ap (cond (below k g.to) (Some g.value)) rest ∙ ap (λ c. cond (not c && below k g.to) (Some g.value) (row_value gs k)) (sym (before_nil k))
      from_gap rest (Some f) e =
          elim (before k f) as (λ c. before k f ≡ c → cond c None (cond (below k g.to) (Some g.value) (stretch_value (stretches_of gs) k)) ≡ cond (not c && below k g.to) (Some g.value) (row_value gs k)) [
            | true ↦ λ b. sym (none_before g gs k r.1 r.0.holds (subst (λ x. before k (low x) ≡ true) (sym e) b))
            | false ↦ λ b. ap (cond (below k g.to) (Some g.value)) rest
          ] refl

  -- the stretches of a hash tell the map's values there
  pub stretches_tell : (m : Pieced V) (h : ℕ) (k : List ℕ) → IsCanonical m → stretch_value (stretches_of (ranges_at m.pieces h)) k ≡ value_at m.pieces h k
  stretches_tell m h k c = stretch_value_of (ranges_at m.pieces h) k (row_of_canonical m h c) ∙ sym (value_at_row m.pieces h k)

  pub none_past : (n : ℕ) (bs : List (Band V)) (ps : List (Region × V)) (h : ℕ) (k : List ℕ) → ps ≡ pieces_of bs → AreBands n bs → n ≤ h → value_at ps h k ≡ None
  none_past n bs ps h k e a le =
      ap (λ x. value_at x h k) e ∙ value_at-pieces_of n bs h k a ∙ ap (λ r. row_value r k) (row_at_past bs h (bands_within n h bs a le))

  -- ---- one piece

  pub one_canonical : (n from to : ℕ) (g : Range V) (ps : List (Region × V)) → ps ≡ piece from to g ∷ [] → 0 < n → from < to → to ≤ n → IsRange g
      → IsCanonical {V = V} (record { hashes = n; pieces = ps })
  one_canonical n from to g ps e some h w r = record {
    bands = record { hash_from = from; hash_to = to; row = g ∷ [] } ∷ [];
    are = (record { holds = h; within = w; filled = λ x. cc; row = (r, tt, tt) }, tt, tt);
    pieces = e;
    some_hash = some;
  }

-- a region without any key below a hash
pub nothing_in : (r : Region) (n to h : ℕ) (k : List ℕ) → to ≡ cond (nat_lt r.hash_to n) r.hash_to n → (nat_lt r.hash_from to && is_open r.from r.to) ≡ false → (nat_lt h n && in_region r h k) ≡ false
nothing_in r n to h k e f =
    elim (is_open r.from r.to) as (λ c. is_open r.from r.to ≡ c → (nat_lt r.hash_from to && c) ≡ false → (nat_lt h n && ((nat_le r.hash_from h && nat_lt h r.hash_to) && in_range r.from r.to k)) ≡ false) [
      | true ↦ λ o g. no_hash (in_range r.from r.to k) g
      | false ↦ λ o g. and_right _ _ (and_right _ _ (never_in r.from r.to k o))
    ] refl f
  where
    no_hash : (b : Bool) → (nat_lt r.hash_from to && true) ≡ false → (nat_lt h n && ((nat_le r.hash_from h && nat_lt h r.hash_to) && b)) ≡ false
    no_hash b g = grind (arith, nat_tests)

pub all_in : (r : Region) (n to h : ℕ) (b : Bool) → to ≡ cond (nat_lt r.hash_to n) r.hash_to n → ((nat_le r.hash_from h && nat_lt h to) && b) ≡ (nat_lt h n && ((nat_le r.hash_from h && nat_lt h r.hash_to) && b))
all_in r n to h b e = grind (arith, nat_tests)

pub lesser_le : (a b c : ℕ) → c ≡ cond (nat_lt a b) a b → c ≤ b
lesser_le a b c e = grind (arith, nat_tests)

module _ {V W X : Type 0} (f : Option V → Option W → Option X) where
  pub zip_more : (m : Pieced V) (n : Pieced W) (old new : List (Band X)) (h : ℕ) (row : List (Range X)) (a : List (Stretch V)) (b : List (Stretch W)) → IsCanonical m → IsCanonical n
      → ((q : ℕ) (k : List ℕ) → q < h → row_value (row_at old q) k ≡ f (value_at m.pieces q k) (value_at n.pieces q k))
      → a ≡ stretches_of (ranges_at m.pieces h) → b ≡ stretches_of (ranges_at n.pieces h) → IsZipped f a b row → Adds old h row new
      → (q : ℕ) (k : List ℕ) → q < h + 1 → row_value (row_at new q) k ≡ f (value_at m.pieces q k) (value_at n.pieces q k)
  zip_more m n old new h row a b cm cn before ea eb z s q k lt =
      ap (λ r. row_value r k) (s.at q)
      ∙ elim (q == h) as (λ c. (q == h) ≡ c → row_value (cond c row (row_at old q)) k ≡ f (value_at m.pieces q k) (value_at n.pieces q k)) [
        | true ↦ λ e.
            z.at k
            ∙ ap₂ f (ap (λ x. stretch_value x k) ea ∙ stretches_tell m h k cm) (ap (λ x. stretch_value x k) eb ∙ stretches_tell n h k cn)
            ∙ ap (λ x. f (value_at m.pieces x k) (value_at n.pieces x k)) (sym (eqb-true q h e))
        | false ↦ λ e. let other = eqb-false q h e in before q k (below_other q h lt other)
      ] refl
    where
      below_other : (q h : ℕ) → q < h + 1 → (q ≡ h → ⊥) → q < h
      below_other q h lt other = omega arith

  pub zip_seen : (a b : List (Stretch V)) (x y : List (Stretch W)) (row : List (Range X)) → a ≡ b → x ≡ y → IsZipped f a x row → IsZipped f b y row
  zip_seen a b x y row e d z = subst (λ v. IsZipped f v y row) e (subst (λ v. IsZipped f a v row) d z)
