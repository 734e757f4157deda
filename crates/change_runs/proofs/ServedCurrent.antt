-- A branch that is the current one at each pair of a region is the current one of the region.
use Rattle.std.proofs.Common.{◌≡◌, ℕ, zero, suc, ◌+◌, ◌-◌, ◌<◌, Bool, true, false, cond, List, [], ◌∷◌, ◌++◌, map, Option, Some, None, refl, sym, ◌∙◌, arith}
use Rattle.std.proofs.lemmas.Bool.{cond_both, and_from}
use Rattle.std.specs.List.{AllByRecursion, list_all}
use Rattle.log_runs.specs.runs.region_map.declared.id.Id.{Id}
use Rattle.log_runs.specs.runs.region_map.declared.region.Region.{Region}
use Rattle.log_runs.specs.runs.region_map.declared.row.Range.{Range}
use Rattle.log_runs.specs.runs.region_map.Equal.{same_option, same_id, id_decides}
use Rattle.log_runs.specs.runs.region_map.Regions.{low, in_region}
use Rattle.log_runs.specs.runs.region_map.Maps.{Pieced, Band, value_at, piece, pieces_of}
use Rattle.log_runs.specs.runs.region_map.Made.{in_order, ends_of, cuts_of, range_if, ranges_made, agree, band_if, bands_made, made, mask_map}
use Rattle.log_runs.specs.runs.contract_types.Tables.{Table, branch_at}
use Rattle.log_runs.specs.runs.node_core.Starting.{current_of, is_current}
use Rattle.log_runs.proofs.step_runs.PointBranches.{all_append}
use Rattle.change_runs.proofs.LedMaps.{current_hashes, current_at}

-- ---- each value in the pieces of a map that is written out is one of those from which it is

module _ {V : Type 0} (P : V → Type 0) where
  abbrev AllRanges : List (Range V) → Type 0
  AllRanges gs = AllByRecursion (λ (g : Range V). P g.value) gs

  abbrev AllPieces : List (Region × V) → Type 0
  AllPieces ps = AllByRecursion (λ (p : Region × V). P p.1) ps

  one_range : (from to : Option (List ℕ)) (o : Option V) → ((v : V) → o ≡ Some v → P v) → AllRanges (range_if from to o)
  one_range from to None f = tt
  one_range from to (Some v) f = (f v refl, tt)

  all_ranges : (same : V → V → Bool) (value : List ℕ → Option V) → ((k : List ℕ) (v : V) → value k ≡ Some v → P v) → (from : Option (List ℕ)) (cs : List (List ℕ)) → AllRanges (ranges_made same value from cs)
  all_ranges same value f from [] = one_range from None (value (low from)) (λ v e. f (low from) v e)
  all_ranges same value f from (c ∷ cs) =
      cond_both (same_option same (value (low from)) (value c)) (ranges_made same value from cs) (range_if from (Some c) (value (low from)) ++ ranges_made same value (Some c) cs) AllRanges
      (λ _. all_ranges same value f from cs)
      (λ _. all_append (λ (g : Range V). P g.value) (range_if from (Some c) (value (low from))) (ranges_made same value (Some c) cs) (one_range from (Some c) (value (low from)) (λ v e. f (low from) v e)) (all_ranges same value f (Some c) cs))

  all_pieces : (from to : ℕ) (gs : List (Range V)) → AllRanges gs → AllPieces (map (piece from to) gs)
  all_pieces from to [] h = tt
  all_pieces from to (g ∷ gs) h = (h.0, all_pieces from to gs h.1)

  first_band : (from to : ℕ) (gs : List (Range V)) (rest : List (Band V)) → AllRanges gs → AllPieces (pieces_of rest) → AllPieces (pieces_of (band_if from to gs ++ rest))
  first_band from to [] rest h k = k
  first_band from to (g ∷ gs) rest h k =
      (h.0, all_append (λ (p : Region × V). P p.1) (map (piece from to) gs) (pieces_of rest) (all_pieces from to gs h.1) k)

  last_band : (from to : ℕ) (gs : List (Range V)) → AllRanges gs → AllPieces (pieces_of (band_if from to gs))
  last_band from to [] h = tt
  last_band from to (g ∷ gs) h = (h.0, all_append (λ (p : Region × V). P p.1) (map (piece from to) gs) [] (all_pieces from to gs h.1) tt)

  all_bands : (alike : ℕ → ℕ → Bool) (row : ℕ → List (Range V)) (total : ℕ) → ((h : ℕ) → h < total → AllRanges (row h)) → (n from to : ℕ) → from < total → to + n ≡ total
      → AllPieces (pieces_of (bands_made alike row from to n))
  all_bands alike row total f zero from to l e = last_band from to (row from) (f from l)
  all_bands alike row total f (suc n) from to l e =
      cond_both (alike from to) (bands_made alike row from (to + 1) n) (band_if from to (row from) ++ bands_made alike row to (to + 1) n) (λ (bs : List (Band V)). AllPieces (pieces_of bs))
      (λ _. all_bands alike row total f n from (to + 1) l (omega (arith, e)))
      (λ _. first_band from to (row from) (bands_made alike row to (to + 1) n) (f from l) (all_bands alike row total f n to (to + 1) (omega (arith, e)) (omega (arith, e))))

  all_made : (same : V → V → Bool) (hashes : ℕ) (cuts : List (List ℕ)) (value : ℕ → List ℕ → Option V) → 0 < hashes → ((h : ℕ) (k : List ℕ) (v : V) → h < hashes → value h k ≡ Some v → P v)
      → AllPieces (made same hashes cuts value).pieces
  unfolding made
  all_made same hashes cuts value some f =
      all_bands (λ h q. agree same (value h) (value q) ([] ∷ in_order cuts)) (λ h. ranges_made same (value h) None (in_order cuts)) hashes
      (λ h l. all_ranges same (value h) (λ k v e. f h k v l e) None (in_order cuts)) (hashes - 1) 0 1 some (omega (arith, some))

-- ---- the current branches

all_tests : (b : Id) (ps : List (Region × Id)) → AllByRecursion (λ (p : Region × Id). same_id p.1 b ≡ true) ps → list_all (λ p. same_id p.1 b) ps ≡ true
all_tests b [] h = refl
all_tests b (p ∷ ps) h = and_from (same_id p.1 b) (list_all (λ p. same_id p.1 b) ps) h.0 (all_tests b ps h.1)

pub is_current_from : (t : Table) (region : Region) (b : Id) → 0 < t.config.hashes → ((h : ℕ) (k : List ℕ) → h < t.config.hashes → in_region region h k ≡ true → branch_at t.history h k ≡ Some b)
    → is_current t region b ≡ true
is_current_from t region b some each =
    let m : Pieced Id = current_of t in
    let hashes = current_hashes t in
    all_tests b (mask_map same_id region m).pieces
    (all_made (λ (v : Id). same_id v b ≡ true) same_id m.hashes (ends_of region ++ cuts_of m.pieces) (λ h k. cond (in_region region h k) (value_at m.pieces h k) None) (omega (arith, some, hashes))
    (λ h k v l e. only h k v (omega (arith, l, hashes)) e))
  where
    inner : (v w : Id) → Some v ≡ Some w → w ≡ v
    inner v w e = cc

    only : (h : ℕ) (k : List ℕ) (v : Id) → h < t.config.hashes → cond (in_region region h k) (value_at (current_of t).pieces h k) None ≡ Some v → same_id v b ≡ true
    only h k v l e =
        elim (in_region region h k) as (λ c. in_region region h k ≡ c → cond c (value_at (current_of t).pieces h k) None ≡ Some v → same_id v b ≡ true) [
          | true ↦ λ inside f. (id_decides v b).1 (inner b v (sym (each h k l inside) ∙ sym (current_at t h k l) ∙ f))
          | false ↦ λ _ f. absurd (cc f)
        ] refl e
