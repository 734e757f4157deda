-- What lists of parts, versions and rows are at one key.
use Rattle.std.proofs.Common.{◌≡◌, sym, ◌<◌, ◌+◌, ℕ, Bool, true, false, cond, ◌&&◌, List, [], ◌∷◌, ◌++◌, map, filter, Option, Some, refl, ap, ◌∙◌, subst, arith, sum}
use Rattle.std.proofs.Math.Nat.{mod-lt}
use Rattle.std.proofs.lemmas.Bool.{cond_both}
use Rattle.std.proofs.lemmas.List.Elements.{filter-append}
use Rattle.std.specs.Option.{is_some}
use Rattle.std.specs.Cmp.Lexicographic.{texts_ties}
use Rattle.node_moves.specs.region_map.declared.id.Id.{Id}
use Rattle.node_moves.specs.region_map.declared.region.Region.{Region}
use Rattle.node_moves.specs.region_map.Keys.{hash_of}
use Rattle.node_moves.specs.region_map.Maps.{Pieced, value_at}
use Rattle.node_moves.specs.region_map.Regions.{in_region}
use Rattle.node_moves.specs.branch_history.declared.version.Version.{Version}
use Rattle.node_moves.specs.exec_types.Parts.{effect_of, timestamp_of}
use Rattle.node_moves.specs.exec_types.declared.message.Part.{Part}
use Rattle.node_moves.specs.exec_types.declared.message.Part.TheVariants.{Write, Sync}
use Rattle.node_moves.specs.store_api.declared.Row.{Row}
use Rattle.node_moves.specs.store_api.Rows.{Rows, is_same_key, row_of, with_row}
use Rattle.node_moves.specs.store_api.Versions.{advanced, advanced_map, advanced_rows, comes_to, is_behind, point, replaced, replaced_map, version_of}
use Rattle.node_moves.specs.Keys.{row_at, version_at, version_started}
use Rattle.store_api.proofs.AtKeys.{same_keys}
use Rattle.store_api.proofs.RowLemmas.{row_of-with_row_same, row_of-with_row_other}
use Rattle.store_api.proofs.VersionMaps.{advanced_map_at, advanced_map_hashes, replaced_map_at, replaced_map_hashes}

-- ---- lists

module _ {X : Type 0} (p : X → Bool) where
  -- one that passes stands among those that pass
  pub filter_in : (before : List X) (x : X) (after : List X) → p x ≡ true → filter p (before ++ x ∷ after) ≡ filter p before ++ x ∷ filter p after
  filter_in before x after passes =
      filter-append p before (x ∷ after) ∙ ap (λ b. filter p before ++ cond b (x ∷ filter p after) (filter p after)) passes

  pub filter_out : (before : List X) (x : X) (after : List X) → p x ≡ false → filter p (before ++ x ∷ after) ≡ filter p before ++ filter p after
  filter_out before x after fails =
      filter-append p before (x ∷ after) ∙ ap (λ b. filter p before ++ cond b (x ∷ filter p after) (filter p after)) fails

  -- what changes each and leaves the test
  pub filter_mapped : (f : X → X) → ((x : X) → p (f x) ≡ p x) → (xs : List X) → filter p (map f xs) ≡ map f (filter p xs)
  filter_mapped f same [] = refl
  filter_mapped f same (x ∷ xs) =
      ap (λ b. cond b (f x ∷ filter p (map f xs)) (filter p (map f xs))) (same x)
      ∙ ap (λ (l : List X). cond (p x) (f x ∷ l) l) (filter_mapped f same xs)
      ∙ elim (p x) as (λ b. cond b (f x ∷ map f (filter p xs)) (map f (filter p xs)) ≡ map f (cond b (x ∷ filter p xs) (filter p xs))) [ true ↦ refl | false ↦ refl ]

-- ---- versions

module _ (hashes : ℕ) (some : 0 < hashes) (key : List ℕ) (region : Region) (m : Pieced Version) (same : m.hashes ≡ hashes) where
  pub version_advanced : (branch : Id) (at : ℕ) → version_of (advanced_map region branch at m) key ≡ version_at region branch at hashes key (version_of m key)
  version_advanced branch at =
      let some_too : 0 < m.hashes = omega (arith, some, same) in
      ap (λ n. value_at (advanced_map region branch at m).pieces (hash_of key n) key) (advanced_map_hashes region branch at m)
      ∙ advanced_map_at region branch at m (hash_of key m.hashes) key (mod-lt (sum key) some_too)
      ∙ ap (λ n. advanced region branch at (hash_of key n) key (version_of m key)) same

  pub version_replaced : (new : Version) → version_of (replaced_map region new m) key ≡ replaced region new (hash_of key hashes) key (version_of m key)
  version_replaced new =
      let some_too : 0 < m.hashes = omega (arith, some, same) in
      ap (λ n. value_at (replaced_map region new m).pieces (hash_of key n) key) (replaced_map_hashes region new m)
      ∙ replaced_map_at region new m (hash_of key m.hashes) key (mod-lt (sum key) some_too)
      ∙ ap (λ n. replaced region new (hash_of key n) key (version_of m key)) same

-- the region goes over to a branch, and comes to its first sync
pub version_starts : (hashes : ℕ) → 0 < hashes → (key : List ℕ) (region : Region) (m : Pieced Version) → m.hashes ≡ hashes → (branch : Id) (initial : ℕ)
    → version_of (advanced_map region branch (initial + 1) (replaced_map region (point branch initial) m)) key ≡ version_started region branch initial hashes key (version_of m key)
version_starts hashes some key region m same branch initial =
    version_advanced hashes some key region (replaced_map region (point branch initial) m) (replaced_map_hashes region (point branch initial) m ∙ same) branch (initial + 1)
    ∙ ap (version_at region branch (initial + 1) hashes key) (version_replaced hashes some key region m same (point branch initial))

-- a key outside of the region keeps its version
module _ (hashes : ℕ) (key : List ℕ) (region : Region) (out : in_region region (hash_of key hashes) key ≡ false) where
  pub version_out : (branch : Id) (at : ℕ) (version : Option Version) → version_at region branch at hashes key version ≡ version
  version_out branch at version = ap (λ b. cond (b && is_behind branch at version) (Some (point branch at)) version) out

  pub started_out : (branch : Id) (initial : ℕ) (version : Option Version) → version_started region branch initial hashes key version ≡ version
  started_out branch initial version =
      let new : Version = point branch initial in
      version_out branch (initial + 1) (replaced region new (hash_of key hashes) key version) ∙ ap (λ b. cond (b && is_some version) (Some new) version) out

  pub row_out : (part : Part) (branch : Id) (version : Option Version) (old : Option Row) → row_at part region branch hashes key version old ≡ old
  row_out (Write at own row) branch version old =
      ap (λ b. cond (is_same_key key own && (b && is_behind branch at version)) (Some row) old) out
      ∙ elim (is_same_key key own) as (λ b. cond (b && false) (Some row) old ≡ old) [ true ↦ refl | false ↦ refl ]
  row_out (Sync at) branch version old = refl

-- ---- rows

pub row_advanced : (hashes : ℕ) (key : List ℕ) (region : Region) (versions : Pieced Version) → versions.hashes ≡ hashes → (branch : Id) (rows : Rows) (part : Part)
    → row_of (advanced_rows (effect_of part) region branch (timestamp_of part) versions rows) key ≡ row_at part region branch hashes key (version_of versions key) (row_of rows key)
row_advanced hashes key region versions same branch rows (Sync at) = refl
row_advanced hashes key region versions same branch rows (Write at own row) =
    let comes : Bool = in_region region (hash_of key hashes) key && is_behind branch at (version_of versions key) in
    let P : List ℕ → Type 0 = λ k. row_of (cond (comes_to region branch at versions k) (with_row rows k row) rows) key ≡ cond comes (Some row) (row_of rows key) in
    elim (is_same_key key own) as (λ c. is_same_key key own ≡ c → row_of (cond (comes_to region branch at versions own) (with_row rows own row) rows) key ≡ cond (c && comes) (Some row) (row_of rows key)) [
      | true ↦ λ e.
          let here : comes_to region branch at versions key ≡ comes = ap (λ n. in_region region (hash_of key n) key && is_behind branch at (version_of versions key)) same in
          subst P (same_keys key own (sym (texts_ties key own) ∙ e))
          (ap (λ c. row_of (cond c (with_row rows key row) rows) key) here
          ∙ elim comes as (λ c. row_of (cond c (with_row rows key row) rows) key ≡ cond c (Some row) (row_of rows key)) [ true ↦ row_of-with_row_same rows key row | false ↦ refl ])
      | false ↦ λ e.
          cond_both (comes_to region branch at versions own) (with_row rows own row) rows (λ (l : Rows). row_of l key ≡ row_of rows key)
          (λ _. row_of-with_row_other rows own key row e) (λ _. refl)
    ] refl
