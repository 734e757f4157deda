-- The rows of a node, as a part of a stream brings a region to the next point of its branch.
use Rattle.std.proofs.Common.{◌≡◌, ◌⊎◌, ℕ, ◌+◌, ◌<◌, true, false, cond, ◌&&◌, nat_lt, List, [], ◌∷◌, ◌++◌, Some, None, refl, sym, ap, ◌∙◌, subst, arith, sum}
use Rattle.std.proofs.Math.Nat.{mod-lt}
use Rattle.std.proofs.lemmas.Bool.{and_from, lt-ltb}
use Rattle.std.specs.Cmp.Lexicographic.{nat_list_eq_equiv}
use Rattle.path_runs.specs.runs.region_map.declared.id.Id.{Id}
use Rattle.path_runs.specs.runs.region_map.declared.region.Region.{Region}
use Rattle.path_runs.specs.runs.region_map.Keys.{hash_of}
use Rattle.path_runs.specs.runs.region_map.Maps.{Pieced, value_at}
use Rattle.path_runs.specs.runs.branch_history.declared.version.Version.{Version}
use Rattle.path_runs.specs.runs.contract_types.Setup.{SetupState}
use Rattle.path_runs.specs.runs.register_laws.declared.operation.Op.{Op}
use Rattle.path_runs.specs.runs.register_laws.Register.{State}
use Rattle.path_runs.specs.runs.exec_types.Parts.{effect_of}
use Rattle.path_runs.specs.runs.exec_types.declared.message.Part.{Part}
use Rattle.path_runs.specs.runs.store_api.Rows.{Rows, has_key, row_of, value_in}
use Rattle.path_runs.specs.runs.store_api.Versions.{point, is_behind, version_of, comes_to, advanced_rows, advanced_map}
use Rattle.path_runs.proofs.runs.store_api.VersionMaps.{advanced_map_hashes, advanced_map_at}
use Rattle.path_runs.specs.runs.primary_exec.Execution.{part_of}
use Rattle.path_runs.specs.runs.Story.{Point, same_key}
use Rattle.path_runs.specs.runs.Stored.{row_step, row_after}
use Rattle.path_runs.proofs.step_runs.Begun.{begun_branch}
use Rattle.path_runs.proofs.step_runs.RegisterStory.{same_key-true}
use Rattle.path_runs.proofs.step_runs.RowSteps.{row_after-append, apart_keys, first_and, row-own, row-other}
use Rattle.path_runs.proofs.change_runs.StoredPaths.{path_at, row_at, same_id-self, IsReached, IsAbove, reached_last, path_at-next, Grows, grows_next}

-- ---- what is kept at each key

-- a key has a version, zero or one of the branch with which its shard begins, which was reached, and the row that its path
-- leaves
pub record KeptAt (setup : SetupState) (ps : List Point) (rows : Rows) (versions : Pieced Version) (key : List ℕ) : Type 0 where
  pub version : Version
  pub stands : version_of versions key ≡ Some version
  pub row : row_of rows key ≡ row_at ps key version
  pub reached : IsReached ps version
  pub first : (version.branch ≡ None) ⊎ (version.branch ≡ begun_branch setup key)

-- at each key of which this holds
abbrev pub AllKept : (List ℕ → Type 0) → SetupState → List Point → Rows → Pieced Version → Type 0
AllKept Q setup ps rows versions = (key : List ℕ) → Q key → KeptAt setup ps rows versions key

pub kept_grown : (setup : SetupState) (ps more : List Point) (rows : Rows) (versions : Pieced Version) (key : List ℕ) → Grows ps more → KeptAt setup ps rows versions key → KeptAt setup more rows versions key
kept_grown setup ps more rows versions key g k =
    record {
      version = k.version;
      stands = k.stands;
      row = k.row ∙ ap (row_after None) (sym (g.paths key k.version k.reached));
      reached = g.reached k.version k.reached;
      first = k.first;
    }

pub same_inside : (a b : Version) → Some a ≡ Some b → a ≡ b
same_inside a b e = cc

-- the row of a key with a version
pub kept_row : (setup : SetupState) (ps : List Point) (rows : Rows) (versions : Pieced Version) (key : List ℕ) (v : Version) → KeptAt setup ps rows versions key → version_of versions key ≡ Some v
    → row_of rows key ≡ row_at ps key v
kept_row setup ps rows versions key v k e = k.row ∙ ap (row_at ps key) (same_inside k.version v (sym k.stands ∙ e))

-- ---- parts that tell of a point

-- a part tells of the point that follows a timestamp of a branch
pub record Tells (ps : List Point) (branch : Id) (at : ℕ) (part : Part) : Type 0 where
  pub told : Point
  pub time : told.timestamp ≡ at + 1
  pub part_is : part ≡ part_of (value_in (row_at ps told.key (point branch at))) (at + 1) told.key told.what
  pub next : (key : List ℕ) → path_at ps key (point branch (at + 1)) ≡ path_at ps key (point branch at) ++ cond (same_key told.key key) (told ∷ []) []
  pub before : IsReached ps (point branch at)
  pub reached : IsReached ps (point branch (at + 1))

pub tells_grown : (ps more : List Point) (branch : Id) (at : ℕ) (part : Part) → Grows ps more → Tells ps branch at part → Tells more branch at part
tells_grown ps more branch at part g t =
    let here = λ (key : List ℕ). g.paths key (point branch at) t.before in
    record {
      told = t.told;
      time = t.time;
      part_is = t.part_is ∙ ap (λ l. part_of (value_in (row_after None l)) (at + 1) t.told.key t.told.what) (sym (here t.told.key));
      next = λ key. g.paths key (point branch (at + 1)) t.reached ∙ t.next key ∙ ap (λ (l : List Point). l ++ cond (same_key t.told.key key) (t.told ∷ []) []) (sym (here key));
      before = g.reached (point branch at) t.before;
      reached = g.reached (point branch (at + 1)) t.reached;
    }

-- what a primary tells of a new point, where its row is what the path up to the point leaves
pub tells_new : (ps : List Point) (q : Point) (at : ℕ) (rows : Rows) → IsAbove ps q → q.timestamp ≡ at + 1 → IsReached ps (point q.branch at)
    → row_of rows q.key ≡ row_at ps q.key (point q.branch at) → Tells (ps ++ q ∷ []) q.branch at (part_of (value_in (row_of rows q.key)) (at + 1) q.key q.what)
tells_new ps q at rows new next low row =
    let g : Grows ps (ps ++ q ∷ []) = grows_next ps q new (omega (arith, next)) in
    let here = λ (key : List ℕ). g.paths key (point q.branch at) low in
    record {
      told = q;
      time = next;
      part_is = ap (λ r. part_of (value_in r) (at + 1) q.key q.what) (row ∙ ap (row_after None) (sym (here q.key)));
      next = λ key. path_at-next ps q key at new next ∙ ap (λ (l : List Point). l ++ cond (same_key q.key key) (q ∷ []) []) (sym (here key));
      before = g.reached (point q.branch at) low;
      reached = subst (λ t. IsReached (ps ++ q ∷ []) (point q.branch t)) next (reached_last ps q);
    }

-- ---- the versions of a region that comes to a point

version_of-advanced : (region : Region) (branch : Id) (at : ℕ) (versions : Pieced Version) (key : List ℕ) → 0 < versions.hashes
    → version_of (advanced_map region branch at versions) key ≡ cond (comes_to region branch at versions key) (Some (point branch at)) (version_of versions key)
version_of-advanced region branch at versions key some =
    ap (λ n. value_at (advanced_map region branch at versions).pieces (hash_of key n) key) (advanced_map_hashes region branch at versions)
    ∙ advanced_map_at region branch at versions (hash_of key versions.hashes) key (mod-lt (sum key) some)

comes_on : (region : Region) (branch : Id) (at : ℕ) (versions : Pieced Version) (key : List ℕ) → has_key region versions.hashes key ≡ true → version_of versions key ≡ Some (point branch at) → comes_to region branch (at + 1) versions key ≡ true
comes_on region branch at versions key has stands =
    and_from (has_key region versions.hashes key) (is_behind branch (at + 1) (version_of versions key)) has
    (ap (is_behind branch (at + 1)) stands ∙ and_from _ (nat_lt at (at + 1)) (same_id-self branch) (lt-ltb at (at + 1) (omega arith)))

-- ---- a region that comes to the next point of its branch

abbrev pub StandsAt : ℕ → Pieced Version → Region → Id → ℕ → Type 0
StandsAt hashes versions region branch at = (key : List ℕ) → has_key region hashes key ≡ true → version_of versions key ≡ Some (point branch at)

module _ (region : Region) (branch : Id) (at : ℕ) (part : Part) (rows : Rows) (versions : Pieced Version) where
  abbrev newer : Pieced Version
  newer = advanced_map region branch (at + 1) versions

  abbrev later : Rows
  later = advanced_rows (effect_of part) region branch (at + 1) versions rows

  -- a key outside of it keeps its version
  pub version_outside : (key : List ℕ) → 0 < versions.hashes → has_key region versions.hashes key ≡ false → version_of newer key ≡ version_of versions key
  version_outside key some out =
      version_of-advanced region branch (at + 1) versions key some
      ∙ ap (λ b. cond (b && is_behind branch (at + 1) (version_of versions key)) (Some (point branch (at + 1))) (version_of versions key)) out

  -- a key in it comes to the point
  pub version_inside : (key : List ℕ) → 0 < versions.hashes → StandsAt versions.hashes versions region branch at → has_key region versions.hashes key ≡ true → version_of newer key ≡ Some (point branch (at + 1))
  version_inside key some stands has =
      version_of-advanced region branch (at + 1) versions key some
      ∙ ap (λ b. cond b (Some (point branch (at + 1))) (version_of versions key)) (comes_on region branch at versions key has (stands key has))

  -- a key outside of it keeps its row too
  pub kept_outside : (setup : SetupState) (ps : List Point) (key : List ℕ) → 0 < versions.hashes → (before : State) (k : List ℕ) (what : Op) → part ≡ part_of before (at + 1) k what
      → has_key region versions.hashes key ≡ false → KeptAt setup ps rows versions key → KeptAt setup ps later newer key
  kept_outside setup ps key some before k what is out o =
      let apart = λ (comes : comes_to region branch (at + 1) versions k ≡ true).
      apart_keys (has_key region versions.hashes) key k out (first_and (has_key region versions.hashes k) (is_behind branch (at + 1) (version_of versions k)) comes) in
      record {
        version = o.version;
        stands = version_outside key some out ∙ o.stands;
        row = ap (λ p. row_of (advanced_rows (effect_of p) region branch (at + 1) versions rows) key) is ∙ row-other before what k key region branch (at + 1) versions rows apart ∙ o.row;
        reached = o.reached;
        first = o.first;
      }

  kept_inside : (Q : List ℕ → Type 0) (setup : SetupState) (ps : List Point) (key : List ℕ) → 0 < versions.hashes → StandsAt versions.hashes versions region branch at → Tells ps branch at part
      → AllKept Q setup ps rows versions → Q key → has_key region versions.hashes key ≡ true → KeptAt setup ps later newer key
  kept_inside Q setup ps key some stands t all here has =
      let q : Point = t.told in
      let old = all key here in
      let before = kept_row setup ps rows versions key (point branch at) old (stands key has) in
      let old_is : old.version ≡ point branch at = same_inside old.version (point branch at) (sym old.stands ∙ stands key has) in
      let rows_with = λ (p : Part). row_of (advanced_rows (effect_of p) region branch (at + 1) versions rows) in
      let new : rows_with part key ≡ row_after (row_of rows key) (cond (same_key q.key key) (q ∷ []) []) =
      elim (same_key q.key key) as (λ c. same_key q.key key ≡ c → rows_with part key ≡ row_after (row_of rows key) (cond c (q ∷ []) [])) [
        | true ↦ λ is.
            let same : q.key ≡ key = same_key-true q.key key is in
            let there : has_key region versions.hashes q.key ≡ true = ap (has_key region versions.hashes) same ∙ has in
            let told : part ≡ part_of (value_in (row_of rows q.key)) (at + 1) q.key q.what =
            t.part_is ∙ ap (λ r. part_of (value_in r) (at + 1) q.key q.what) (sym (kept_row setup ps rows versions q.key (point branch at) (all q.key (subst Q (sym same) here)) (stands q.key there))) in
            subst (λ k. rows_with part k ≡ row_step (row_of rows k) q) same
            (ap (λ p. rows_with p q.key) told ∙ row-own q region branch (at + 1) versions rows t.time (comes_on region branch at versions q.key there (stands q.key there)))
        | false ↦ λ ne.
            ap (λ p. rows_with p key) t.part_is
            ∙ row-other (value_in (row_at ps q.key (point branch at))) q.what q.key key region branch (at + 1) versions rows (λ _. nat_list_eq_equiv.symm key q.key ∙ ne)
      ] refl in
      record {
        version = point branch (at + 1);
        stands = version_inside key some stands has;
        row =
            new ∙ ap (λ r. row_after r (cond (same_key q.key key) (q ∷ []) [])) before
            ∙ sym (row_after-append None (path_at ps key (point branch at)) (cond (same_key q.key key) (q ∷ []) [])) ∙ ap (row_after None) (sym (t.next key));
        reached = t.reached;
        first = subst (λ (v : Version). (v.branch ≡ None) ⊎ (v.branch ≡ begun_branch setup key)) old_is old.first;
      }

  pub kept_moved : (Q : List ℕ → Type 0) (setup : SetupState) (ps : List Point) → 0 < versions.hashes → StandsAt versions.hashes versions region branch at → Tells ps branch at part
      → AllKept Q setup ps rows versions → AllKept Q setup ps later newer
  kept_moved Q setup ps some stands t all key here =
      elim (has_key region versions.hashes key) as (λ c. has_key region versions.hashes key ≡ c → KeptAt setup ps later newer key) [
        | true ↦ λ has. kept_inside Q setup ps key some stands t all here has
        | false ↦ λ out. kept_outside setup ps key some (value_in (row_at ps t.told.key (point branch at))) t.told.key t.told.what t.part_is out (all key here)
      ] refl
