-- The rows of a receiver once it has a chunk.
use Rattle.std.proofs.Common.{◌≡◌, inl, inr, ℕ, ◌<◌, zero, suc, Bool, true, false, cond, ◌&&◌, ◌||◌, not, nat_le, nat_lt, List, [], ◌∷◌, take, map, sum, Option, Some, None, refl, sym, ap, ◌∙◌, mod-lt}
use Rattle.std.specs.List.{AllByRecursion, list_any}
use Rattle.std.specs.Option.{is_some}
use Rattle.std.specs.Cmp.{eq_by_cmp_equiv}
use Rattle.std.specs.Cmp.Lexicographic.{texts_ties}
use Rattle.std.proofs.lemmas.Bool.{and_parts, and_from, both_ways, cases_Bool}
use Rattle.std.proofs.lemmas.Cmp.{nat_list_cmp_total}
use Rattle.region_map.specs.declared.id.Id.{Id}
use Rattle.region_map.specs.declared.region.Region.{Region}
use Rattle.region_map.specs.Keys.{hash_of}
use Rattle.region_map.specs.Regions.{before, low, below}
use Rattle.region_map.specs.Maps.{Pieced, value_at}
use Rattle.region_map.proofs.Order.{before_trans}
use Rattle.branch_history.specs.declared.version.Version.{Version}
use Rattle.branch_history.specs.Paths.{Branches}
use Rattle.store_api.specs.declared.Row.{Row}
use Rattle.store_api.specs.Rows.{Rows, AreOrdered, row_of, row_is_above, is_same_key, last_row, has_key, with_items, newer_keys, key_is_newer}
use Rattle.store_api.specs.Versions.{point, version_of, replaced, replaced_map}
use Rattle.store_api.proofs.AtKeys.{same_keys, row_of-with_items}
use Rattle.store_api.proofs.VersionMaps.{replaced_map_hashes, replaced_map_at}
use Rattle.backfill_items.specs.Changed.{chunk_keys, item_of, end_of}
use Rattle.backfill_items.proofs.KeySets.{all_taken, newer_inside, pre_found, pre_within, chunk_found, chunk_inside, chunk_within}
use Rattle.chunk_laws.specs.Written.{Writes, HasPathRows, path_row}
use Rattle.chunk_laws.specs.Chunks.{Exchange, MeetsAt, up_to, named, asked, items, range, is_newer_in, brought_row}
use Rattle.chunk_laws.proofs.Recency.{path_row-point}

abbrev Keys : Type 0
Keys = List (List ℕ)

-- ---- the last row that items of keys give a key

turned : (k key : List ℕ) → is_same_key k key ≡ is_same_key key k
turned k key = texts_ties k key ∙ (eq_by_cmp_equiv nat_list_cmp_total).symm k key ∙ sym (texts_ties key k)

same_key : (key k : List ℕ) → is_same_key key k ≡ true → key ≡ k
same_key key k e = same_keys key k (sym (texts_ties key k) ∙ e)

pick : (a b : Bool) (x r : Option Row) → cond b x (cond a x r) ≡ cond (a || b) x r
pick true true x r = refl
pick true false x r = refl
pick false true x r = refl
pick false false x r = refl

its_row : (rows : Rows) (key k : List ℕ) (r : Option Row) → cond (is_same_key key k) (row_of rows k) r ≡ cond (is_same_key key k) (row_of rows key) r
its_row rows key k r =
    elim (is_same_key key k) as (λ b. is_same_key key k ≡ b → cond b (row_of rows k) r ≡ cond b (row_of rows key) r) [ true ↦ λ e. ap (row_of rows) (sym (same_key key k e)) | false ↦ λ e. refl ] refl

last_of : (rows : Rows) (ks : Keys) (key : List ℕ) (r : Option Row) → last_row (map (item_of rows) ks) key r ≡ cond (list_any (is_same_key key) ks) (row_of rows key) r
last_of rows [] key r = refl
last_of rows (k ∷ ks) key r =
    last_of rows ks key (cond (is_same_key k key) (row_of rows k) r)
    ∙ ap (λ b. cond (list_any (is_same_key key) ks) (row_of rows key) (cond b (row_of rows k) r)) (turned k key)
    ∙ ap (cond (list_any (is_same_key key) ks) (row_of rows key)) (its_row rows key k r)
    ∙ pick (is_same_key key k) (list_any (is_same_key key) ks) (row_of rows key) r

-- ---- parts with another end

below_trans : (a b : List ℕ) (to : Option (List ℕ)) → before a b ≡ true → below b to ≡ true → below a to ≡ true
below_trans a b None h i = refl
below_trans a b (Some t) h i = before_trans a b t h i

-- a cut list ends no later than all of it
below_end : (n : ℕ) (xs : Keys) (to : Option (List ℕ)) (key : List ℕ) → AllByRecursion (λ y. below y to ≡ true) xs → below key (end_of n xs to) ≡ true → below key to ≡ true
below_end zero [] to key all h = h
below_end zero (x ∷ xs) to key all h = below_trans key x to h all.0
below_end (suc n) [] to key all h = h
below_end (suc n) (x ∷ xs) to key all h = below_end n xs to key all.1 h

-- what a part has lies below its end
has_below : (part : Region) (hashes : ℕ) (key : List ℕ) → has_key part hashes key ≡ true → below key part.to ≡ true
has_below part hashes key h = (and_parts _ _ (and_parts _ _ h).1).1

all_below : (part : Region) (hashes : ℕ) (xs : Keys) → AllByRecursion (λ key. has_key part hashes key ≡ true) xs → AllByRecursion (λ key. below key part.to ≡ true) xs
all_below part hashes [] all = tt
all_below part hashes (x ∷ xs) all = (has_below part hashes x all.0, all_below part hashes xs all.1)

-- a key of a part that lies below another end too
with_end : (part : Region) (hashes : ℕ) (end : Option (List ℕ)) (key : List ℕ) → has_key part hashes key ≡ true → below key end ≡ true → has_key (up_to part end) hashes key ≡ true
with_end part hashes end key h i =
    let outer = and_parts (nat_le part.hash_from (hash_of key hashes) && nat_lt (hash_of key hashes) part.hash_to) (not (before key (low part.from)) && below key part.to) h in
    let inner = and_parts (not (before key (low part.from))) (below key part.to) outer.1 in
    and_from _ _ outer.0 (and_from _ _ inner.0 i)

without_end : (part : Region) (hashes : ℕ) (end : Option (List ℕ)) (key : List ℕ) → has_key (up_to part end) hashes key ≡ true → below key part.to ≡ true → has_key part hashes key ≡ true
without_end part hashes end key h i =
    let outer = and_parts (nat_le part.hash_from (hash_of key hashes) && nat_lt (hash_of key hashes) part.hash_to) (not (before key (low part.from)) && below key end) h in
    let inner = and_parts (not (before key (low part.from))) (below key end) outer.1 in
    and_from _ _ outer.0 (and_from _ _ inner.0 i)

all_with_end : (part : Region) (hashes : ℕ) (end : Option (List ℕ)) (xs : Keys) → AllByRecursion (λ key. has_key part hashes key ≡ true) xs → AllByRecursion (λ key. below key end ≡ true) xs
    → AllByRecursion (λ key. has_key (up_to part end) hashes key ≡ true) xs
all_with_end part hashes end [] all less = tt
all_with_end part hashes end (x ∷ xs) all less = (with_end part hashes end x all.0 less.0, all_with_end part hashes end xs all.1 less.1)

none_outside : (part : Region) (hashes : ℕ) (xs : Keys) (key : List ℕ) → AllByRecursion (λ key. has_key part hashes key ≡ true) xs → has_key part hashes key ≡ false
    → list_any (is_same_key key) xs ≡ false
none_outside part hashes [] key all out = refl
none_outside part hashes (x ∷ xs) key all out =
    elim (cases_Bool (is_same_key key x)) [
      | inl e ↦ absurd (both_ways _ out (ap (has_key part hashes) (same_key key x e) ∙ all.0))
      | inr f ↦ ap (λ b. b || list_any (is_same_key key) xs) f ∙ none_outside part hashes xs key all.1 out
    ]

-- ---- the chunk of an exchange

abbrev changed : Exchange → Keys
changed e = chunk_keys (asked e) e.above e.sender (named e)

module _ (e : Exchange) (receiver_ordered : AreOrdered e.receiver) (sender_ordered : AreOrdered e.sender) where
  named_inside : AllByRecursion (λ key. has_key (asked e) e.above.hashes key ≡ true) (named e)
  named_inside =
      all_with_end e.part e.above.hashes (asked e).to (named e)
      (all_taken (λ key. has_key e.part e.above.hashes key ≡ true) e.most_named (newer_keys e.part e.above e.receiver) (newer_inside e.part e.above e.receiver))
      (pre_within e.part e.above e.receiver e.most_named receiver_ordered)

  changed_inside : AllByRecursion (λ key. has_key (asked e) e.above.hashes key ≡ true) (changed e)
  changed_inside = chunk_inside (asked e) e.above e.sender (named e) named_inside

  items_inside : AllByRecursion (λ key. has_key (range e) e.above.hashes key ≡ true) (take e.most (changed e))
  items_inside =
      all_with_end (asked e) e.above.hashes (range e).to (take e.most (changed e))
      (all_taken (λ key. has_key (asked e) e.above.hashes key ≡ true) e.most (changed e) changed_inside)
      (chunk_within (asked e) e.above e.sender (named e) e.most sender_ordered named_inside)

  module _ (key : List ℕ) (inside : has_key (range e) e.above.hashes key ≡ true) where
    in_asked : has_key (asked e) e.above.hashes key ≡ true
    in_asked =
        without_end (asked e) e.above.hashes (range e).to key inside
        (below_end e.most (changed e) (asked e).to key (all_below (asked e) e.above.hashes (changed e) changed_inside) (has_below (range e) e.above.hashes key inside))

    in_part : has_key e.part e.above.hashes key ≡ true
    in_part =
        without_end e.part e.above.hashes (asked e).to key in_asked
        (below_end e.most_named (newer_keys e.part e.above e.receiver) e.part.to key
        (all_below e.part e.above.hashes (newer_keys e.part e.above e.receiver) (newer_inside e.part e.above e.receiver)) (has_below (asked e) e.above.hashes key in_asked))

    is_named : list_any (is_same_key key) (named e) ≡ is_newer_in e e.receiver key
    is_named =
        pre_found e.part e.above e.receiver e.most_named key receiver_ordered (has_below (asked e) e.above.hashes key in_asked)
        ∙ ap (λ b. b && is_newer_in e e.receiver key) in_part

    is_sent : list_any (is_same_key key) (take e.most (changed e)) ≡ (is_newer_in e e.receiver key || is_newer_in e e.sender key)
    is_sent =
        chunk_found (asked e) e.above e.sender (named e) e.most key sender_ordered (has_below (range e) e.above.hashes key inside)
        ∙ ap (λ b. b || key_is_newer (asked e) e.above e.sender key) is_named
        ∙ ap (λ b. is_newer_in e e.receiver key || (b && is_newer_in e e.sender key)) in_asked

pub brought_inside : (e : Exchange) (now : Rows) (key : List ℕ) → AreOrdered e.receiver → AreOrdered e.sender → AreOrdered now
    → has_key (range e) e.above.hashes key ≡ true → row_of now key ≡ row_of e.receiver key → row_of (with_items now (items e)) key ≡ brought_row e key
brought_inside e now key r s o inside same =
    row_of-with_items now (items e) key o ∙ last_of e.sender (take e.most (changed e)) key (row_of now key)
    ∙ ap (λ b. cond b (row_of e.sender key) (row_of now key)) (is_sent e r s key inside)
    ∙ ap (cond (is_newer_in e e.receiver key || is_newer_in e e.sender key) (row_of e.sender key)) same

pub brought_outside : (e : Exchange) (now : Rows) (key : List ℕ) → AreOrdered e.receiver → AreOrdered e.sender → AreOrdered now
    → has_key (range e) e.above.hashes key ≡ false → row_of (with_items now (items e)) key ≡ row_of now key
brought_outside e now key r s o outside =
    row_of-with_items now (items e) key o ∙ last_of e.sender (take e.most (changed e)) key (row_of now key)
    ∙ ap (λ b. cond b (row_of e.sender key) (row_of now key)) (none_outside (range e) e.above.hashes (take e.most (changed e)) key (items_inside e r s) outside)

-- ---- rows along paths

-- where neither row is newer than the ancestor, one is as good as the other
either_row : (a b : Bool) (x y z : Option Row) → x ≡ z → (a ≡ false → b ≡ false → y ≡ z) → cond (a || b) x y ≡ z
either_row true b x y z e f = e
either_row false true x y z e f = e
either_row false false x y z e f = f refl refl

pub brought_path : {P : Type 0} (w : Writes P) (bs : Branches) (e : Exchange) (branch : Id) (at : ℕ) (now : Rows) (key : List ℕ)
    → AreOrdered e.receiver → AreOrdered e.sender → AreOrdered now
    → has_key (range e) e.above.hashes key ≡ true → row_of now key ≡ row_of e.receiver key → MeetsAt w bs e branch at key
    → row_of (with_items now (items e)) key ≡ path_row w bs e.above.hashes key (point branch at)
brought_path w bs e branch at now key r s o inside same meets =
    brought_inside e now key r s o inside same
    ∙ either_row (is_newer_in e e.receiver key) (is_newer_in e e.sender key) (row_of e.sender key) (row_of e.receiver key) (path_row w bs e.above.hashes key (point branch at))
    meets.sender_row
    (λ receiver_old sender_old.
    let here : row_is_above (Some meets.ancestor.timestamp) (path_row w bs e.above.hashes key meets.version) ≡ false =
    ap (λ b. row_is_above b (path_row w bs e.above.hashes key meets.version)) (sym meets.bound)
    ∙ ap (row_is_above (value_at e.above.pieces (hash_of key e.above.hashes) key)) (sym meets.receiver_row) ∙ receiver_old in
    let there : row_is_above (Some meets.ancestor.timestamp) (path_row w bs e.above.hashes key (point branch at)) ≡ false =
    ap (λ b. row_is_above b (path_row w bs e.above.hashes key (point branch at))) (sym meets.bound)
    ∙ ap (row_is_above (value_at e.above.pieces (hash_of key e.above.hashes) key)) (sym meets.sender_row) ∙ sender_old in
    meets.receiver_row ∙ path_row-point w bs e.above.hashes key meets.version meets.ancestor meets.written meets.receiver_has here
    ∙ sym (path_row-point w bs e.above.hashes key (point branch at) meets.ancestor meets.written meets.sender_has there))

-- the version of a key of a replaced part
new_version : (v : Option Version) (new version : Version) → cond (is_some v) (Some new) v ≡ Some version → version ≡ new
new_version None new version e = absurd (cc)
new_version (Some v) new version e = cc

some_hash : (key : List ℕ) (hashes : ℕ) → 0 < hashes → hash_of key hashes < hashes
some_hash key hashes some = mod-lt (sum key) some

pub brought_everywhere : {P : Type 0} (w : Writes P) (bs : Branches) (e : Exchange) (branch : Id) (at : ℕ) (now : Rows) (versions : Pieced Version)
    → 0 < versions.hashes → e.above.hashes ≡ versions.hashes
    → AreOrdered e.receiver → AreOrdered e.sender → AreOrdered now
    → ((key : List ℕ) → has_key (range e) versions.hashes key ≡ true → row_of now key ≡ row_of e.receiver key)
    → ((key : List ℕ) → has_key (range e) versions.hashes key ≡ true → MeetsAt w bs e branch at key)
    → HasPathRows w bs now versions
    → HasPathRows w bs (with_items now (items e)) (replaced_map (range e) (point branch at) versions)
brought_everywhere w bs e branch at now versions some hashes r s o same meets stored key version is =
    let new = point branch at in
    let kept : (replaced_map (range e) new versions).hashes ≡ versions.hashes = replaced_map_hashes (range e) new versions in
    let old = version_of versions key in
    let at_key : Some version ≡ replaced (range e) new (hash_of key versions.hashes) key old =
    sym is ∙ ap (λ n. value_at (replaced_map (range e) new versions).pieces (hash_of key n) key) kept
    ∙ replaced_map_at (range e) new versions (hash_of key versions.hashes) key (some_hash key versions.hashes some) in
    elim (cases_Bool (has_key (range e) versions.hashes key)) [
      | inl inside ↦
          let is_new : version ≡ new = new_version old new version (ap (λ b. cond (b && is_some old) (Some new) old) (sym inside) ∙ sym at_key) in
          let inside' : has_key (range e) e.above.hashes key ≡ true = ap (λ n. has_key (range e) n key) hashes ∙ inside in
          brought_path w bs e branch at now key r s o inside' (same key inside) (meets key inside)
          ∙ ap (λ n. path_row w bs n key new) (hashes ∙ sym kept) ∙ ap (path_row w bs (replaced_map (range e) new versions).hashes key) (sym is_new)
      | inr outside ↦
          let is_old : old ≡ Some version = sym (at_key ∙ ap (λ b. cond (b && is_some old) (Some new) old) outside) in
          let outside' : has_key (range e) e.above.hashes key ≡ false = ap (λ n. has_key (range e) n key) hashes ∙ outside in
          brought_outside e now key r s o outside' ∙ stored key version is_old ∙ ap (λ n. path_row w bs n key version) (sym kept)
    ]
