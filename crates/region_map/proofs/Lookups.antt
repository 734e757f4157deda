-- The pieces of a region map stand in order, so that the one that has a pair is found by halving.
use Rattle.std.proofs.Common.{◌≡◌, ℕ, zero, suc, ◌<◌, ◌≤◌, Bool, true, false, cond, not, ◌&&◌, nat_lt, nat_le, List, [], ◌∷◌, ◌++◌, map, length, get_or, Option, Some, None, inl, inr, refl, sym, ap, ◌∙◌, subst, arith}
use Rattle.std.specs.List.{AllByRecursion}
use Rattle.std.specs.List.Sorted.{IsPartitionedBy}
use Rattle.std.proofs.lemmas.Bool.{false≢true, not-true, not_from_false, or_cases, or_parts, or_left, or_right, and_parts, and_right, and_from, leb-true, le-leb}
use Rattle.list_laws.proofs.All.{all_append, all_get_or}
use Rattle.region_map.specs.declared.region.Region.{Region}
use Rattle.region_map.specs.declared.row.Range.{Range}
use Rattle.region_map.specs.Regions.{before, low, below, in_range, in_region}
use Rattle.region_map.specs.Maps.{Pieced, Band, Follows, IsRange, IsRow, Succeeds, AreBands, piece, pieces_of, IsCanonical, value_at}
use Rattle.region_map.specs.Lookups.{begins_by, Precedes, AreInOrder}
use Rattle.region_map.proofs.Order.{not_before, before_back}
use Rattle.region_map.proofs.Rows.{past_end}
use Rattle.region_map.proofs.Bands.{past_band}

-- above the end of a range nothing lies in it, and nothing comes before it
outside : (from to : Option (List ℕ)) (k : List ℕ) → below k to ≡ false → in_range from to k ≡ false
outside from to k e = and_right (not (before k (low from))) (below k to) e

starts : (from to : Option (List ℕ)) (k : List ℕ) → below (low from) to ≡ true → below k to ≡ false → before k (low from) ≡ false
starts from None k o e = absurd (false≢true (sym e))
starts from (Some t) k o e = not_before (low from) t k (before_back (low from) t o) e

tests : (a b c d : Bool) → (a && not c) ≡ false → ((a && b) && (not c && d)) ≡ false
tests true b true d e = and_right b false refl
tests true b false d e = absurd (false≢true (sym e))
tests false b c d e = refl

-- what lies behind the hashes of a region
past_hashes : (r : Region) (h : ℕ) (k : List ℕ) → r.hash_to ≤ h → (begins_by r h k ≡ true) × (in_region r h k ≡ false)
past_hashes r h k le = (
  or_left (nat_le r.hash_to h) (nat_le r.hash_from h && not (before k (low r.from))) (le-leb r.hash_to h le),
  ap (λ b. b && in_range r.from r.to k) (past_band r.hash_from r.hash_to h le),
)

-- a region that begins by a pair begins by its hash
begins_hash : (r : Region) (h : ℕ) (k : List ℕ) → r.hash_from < r.hash_to → begins_by r h k ≡ true → r.hash_from ≤ h
begins_hash r h k some b =
    elim (or_cases (nat_le r.hash_to h) (nat_le r.hash_from h && not (before k (low r.from))) b) [
      | inl past ↦ (let le : r.hash_to ≤ h = leb-true r.hash_to h past in omega arith)
      | inr within ↦ leb-true r.hash_from h (and_parts (nat_le r.hash_from h) (not (before k (low r.from))) within).0
    ]

has_begun : (r : Region) (h : ℕ) (k : List ℕ) → begins_by r h k ≡ false → in_region r h k ≡ false
has_begun r h k e =
    let parts = or_parts (nat_le r.hash_to h) (nat_le r.hash_from h && not (before k (low r.from))) e in
    tests (nat_le r.hash_from h) (nat_lt h r.hash_to) (before k (low r.from)) (below k r.to) parts.1

module _ {V : Type 0} where
  -- ---- pieces stand in order

  in_order_append : (ps qs : List (Region × V)) → AreInOrder ps → AreInOrder qs → AllByRecursion (λ p. AllByRecursion (Precedes p) qs) ps → AreInOrder (ps ++ qs)
  in_order_append [] qs h k c = k
  in_order_append (p ∷ ps) qs h k c = (all_append (Precedes p) ps qs h.0 c.0, in_order_append ps qs h.1 k c.1)

  -- two ranges of one row
  range_precedes : (from to : ℕ) (a b : Range V) → IsRange a → Follows a b → Precedes (piece from to a) (piece from to b)
  range_precedes from to a b r f =
      record {
        at = λ h k e.
            elim (or_cases (nat_le to h) (nat_le from h && not (before k (low b.from))) e) [
              | inl past ↦ past_hashes (piece from to a).0 h k (leb-true to h past)
              | inr within ↦
                  let parts = and_parts (nat_le from h) (not (before k (low b.from))) within in
                  let begun : before k (low b.from) ≡ false = not-true (before k (low b.from)) parts.1 in
                  let ended : below k a.to ≡ false = past_end a.to b.from k f.apart begun in
                  let gone : in_range a.from a.to k ≡ false = outside a.from a.to k ended in
                  let later : before k (low a.from) ≡ false = starts a.from a.to k r.holds ended in (
                    or_right (nat_le to h) (nat_le from h && not (before k (low a.from))) (and_from (nat_le from h) (not (before k (low a.from))) parts.0 (not_from_false (before k (low a.from)) later)),
                    and_right (nat_le from h && nat_lt h to) (in_range a.from a.to k) gone,
                  )
            ];
      }

  -- a range of a band before the band of another
  band_precedes : (b c : Band V) (g x : Range V) → c.hash_from < c.hash_to → b.hash_to ≤ c.hash_from → Precedes (piece b.hash_from b.hash_to g) (piece c.hash_from c.hash_to x)
  band_precedes b c g x some apart =
      record {
        at = λ h k e.
            let here : c.hash_from ≤ h = begins_hash (piece c.hash_from c.hash_to x).0 h k some e in
            past_hashes (piece b.hash_from b.hash_to g).0 h k (omega arith);
      }

  row_precedes : (from to : ℕ) (g : Range V) (gs : List (Range V)) → IsRange g → AllByRecursion (Follows g) gs → AllByRecursion (Precedes (piece from to g)) (map (piece from to) gs)
  row_precedes from to g [] r f = tt
  row_precedes from to g (x ∷ gs) r f = (range_precedes from to g x r f.0, row_precedes from to g gs r f.1)

  row_in_order : (from to : ℕ) (gs : List (Range V)) → IsRow gs → AreInOrder (map (piece from to) gs)
  row_in_order from to [] r = tt
  row_in_order from to (g ∷ gs) r = (row_precedes from to g gs r.0 r.1, row_in_order from to gs r.2)

  precedes_band : (b c : Band V) (g : Range V) (xs : List (Range V)) → c.hash_from < c.hash_to → b.hash_to ≤ c.hash_from
      → AllByRecursion (Precedes (piece b.hash_from b.hash_to g)) (map (piece c.hash_from c.hash_to) xs)
  precedes_band b c g [] some apart = tt
  precedes_band b c g (x ∷ xs) some apart = (band_precedes b c g x some apart, precedes_band b c g xs some apart)

  precedes_bands : (n : ℕ) (b : Band V) (g : Range V) (bs : List (Band V)) → AreBands n bs → AllByRecursion (Succeeds b) bs → AllByRecursion (Precedes (piece b.hash_from b.hash_to g)) (pieces_of bs)
  precedes_bands n b g [] a s = tt
  precedes_bands n b g (c ∷ bs) a s =
      all_append (Precedes (piece b.hash_from b.hash_to g)) (map (piece c.hash_from c.hash_to) c.row) (pieces_of bs)
      (precedes_band b c g c.row a.0.holds s.0.apart) (precedes_bands n b g bs a.2 s.1)

  row_before_bands : (n : ℕ) (b : Band V) (gs : List (Range V)) (bs : List (Band V)) → AreBands n bs → AllByRecursion (Succeeds b) bs
      → AllByRecursion (λ p. AllByRecursion (Precedes p) (pieces_of bs)) (map (piece b.hash_from b.hash_to) gs)
  row_before_bands n b [] bs a s = tt
  row_before_bands n b (g ∷ gs) bs a s = (precedes_bands n b g bs a s, row_before_bands n b gs bs a s)

  bands_in_order : (n : ℕ) (bs : List (Band V)) → AreBands n bs → AreInOrder (pieces_of bs)
  bands_in_order n [] a = tt
  bands_in_order n (b ∷ bs) a =
      in_order_append (map (piece b.hash_from b.hash_to) b.row) (pieces_of bs) (row_in_order b.hash_from b.hash_to b.row a.0.row) (bands_in_order n bs a.2) (row_before_bands n b b.row bs a.2 a.1)

  pub canonical_in_order : (m : Pieced V) → IsCanonical m → AreInOrder m.pieces
  canonical_in_order m c = subst (λ (ps : List (Region × V)). AreInOrder ps) (sym c.pieces) (bands_in_order m.hashes c.bands c.are)

  -- ---- the piece of a pair

  pub passes_in_front : (ps : List (Region × V)) (h : ℕ) (k : List ℕ) → AreInOrder ps → IsPartitionedBy (λ p. begins_by p.0 h k) ps
  passes_in_front [] h k o i j d le lt e = absurd (omega arith)
  passes_in_front (p ∷ ps) h k o zero zero d le lt e = e
  passes_in_front (p ∷ ps) h k o zero (suc j) d le lt e = ((all_get_or (Precedes p) ps j d o.0 (omega arith)).at h k e).0
  passes_in_front (p ∷ ps) h k o (suc i) zero d le lt e = absurd (omega arith)
  passes_in_front (p ∷ ps) h k o (suc i) (suc j) d le lt e = passes_in_front ps h k o.1 i j d (omega arith) (omega arith) e

  pub none_begun : (ps : List (Region × V)) (h : ℕ) (k : List ℕ) → ((i : ℕ) (d : Region × V) → i < length ps → begins_by (get_or ps i d).0 h k ≡ false) → value_at ps h k ≡ None
  none_begun [] h k f = refl
  none_begun (p ∷ ps) h k f =
      ap (λ b. cond b (Some p.1) (value_at ps h k)) (has_begun p.0 h k (f 0 p (omega arith))) ∙ none_begun ps h k (λ i d lt. f (suc i) d (omega arith))

  -- it is the last one that begins by the pair, if it has it
  pub last_begun : (ps : List (Region × V)) (h : ℕ) (k : List ℕ) (i : ℕ) (d : Region × V) → AreInOrder ps → i < length ps
      → begins_by (get_or ps i d).0 h k ≡ true → ((j : ℕ) (x : Region × V) → i < j → j < length ps → begins_by (get_or ps j x).0 h k ≡ false)
      → value_at ps h k ≡ cond (in_region (get_or ps i d).0 h k) (Some (get_or ps i d).1) None
  last_begun [] h k i d o lt b f = absurd (omega arith)
  last_begun (p ∷ ps) h k zero d o lt b f =
      ap (λ v. cond (in_region p.0 h k) (Some p.1) v) (none_begun ps h k (λ j x w. f (suc j) x (omega arith) (omega arith)))
  last_begun (p ∷ ps) h k (suc i) d o lt b f =
      let gone : in_region p.0 h k ≡ false = ((all_get_or (Precedes p) ps i d o.0 (omega arith)).at h k b).1 in
      ap (λ c. cond c (Some p.1) (value_at ps h k)) gone ∙ last_begun ps h k i d o.1 (omega arith) b (λ j x w v. f (suc j) x (omega arith) (omega arith))
