-- The row of each key after a call.
use Rattle.std.proofs.Common.{◌≡◌, ℕ, Bool, true, false, cond, not, ◌&&◌, List, [], ◌∷◌, Option, Some, None, refl, sym, ap, ◌∙◌}
use Rattle.std.specs.declared.cmp.Ordering.{Ordering}
use Rattle.std.specs.declared.cmp.Ordering.TheVariants.{Less, Equal, Greater}
use Rattle.std.specs.Ordering.{nat_cmp, is_eq}
use Rattle.std.specs.Cmp.{eq_by_cmp_equiv}
use Rattle.std.specs.Cmp.Lexicographic.{slice_cmp, texts_ties}
use Rattle.std.specs.Map.{keys_of}
use Rattle.std.specs.BTreeMap.{is_at}
use Rattle.std.proofs.lemmas.Cmp.{nat_list_cmp_total}
use Rattle.std.proofs.lemmas.Map.{lookup-remove_entry}
use Rattle.std.proofs.lemmas.Map.Entries.{lookup-filter-keys}
use Rattle.std.proofs.lemmas.Map.Keys.{IsDistinct-from_sorted}
use Rattle.std.proofs.lemmas.Map.Lookups.{exact_bytes}
use Rattle.region_map.specs.declared.region.Region.{Region}
use Rattle.region_map.specs.declared.id.Id.{Id}
use Rattle.region_map.specs.Maps.{Pieced}
use Rattle.branch_history.specs.declared.version.Version.{Version}
use Rattle.store_api.specs.declared.Row.{Row}
use Rattle.store_api.specs.declared.Item.{Item}
use Rattle.store_api.specs.Rows.{Rows, AreOrdered, row_of, with_row, without_row, with_row_or_none, with_item, with_items, has_key, rows_outside, is_same_key, last_row}
use Rattle.store_api.specs.Versions.{comes_to, advanced_rows}
use Rattle.store_api.proofs.RowLemmas.{row_of-with_row_same, row_of-with_row_other}
use Rattle.store_api.proofs.Ordered.{ordered-with_item}

is_equal : (o : Ordering) → is_eq o ≡ true → o ≡ Equal
is_equal Less e = cc
is_equal Equal e = refl
is_equal Greater e = cc

pub same_keys : (a b : List ℕ) → is_at (slice_cmp nat_cmp a) b ≡ true → a ≡ b
same_keys a b e = exact_bytes a b (is_equal _ e)

with_row_at : (rows : Rows) (key : List ℕ) (row : Row) (k : List ℕ) → row_of (with_row rows key row) k ≡ cond (is_same_key key k) (Some row) (row_of rows k)
with_row_at rows key row k =
    elim (is_same_key key k) as (λ b. is_same_key key k ≡ b → row_of (with_row rows key row) k ≡ cond b (Some row) (row_of rows k)) [
      | true ↦ λ e. ap (row_of (with_row rows key row)) (sym (same_keys key k (sym (texts_ties key k) ∙ e))) ∙ row_of-with_row_same rows key row
      | false ↦ λ e. row_of-with_row_other rows key k row (texts_ties k key ∙ (eq_by_cmp_equiv nat_list_cmp_total).symm k key ∙ sym (texts_ties key k) ∙ e)
    ] refl

without_row_at : (rows : Rows) (key k : List ℕ) → AreOrdered rows → row_of (without_row rows key) k ≡ cond (is_same_key key k) None (row_of rows k)
without_row_at rows key k o =
    lookup-remove_entry (eq_by_cmp_equiv nat_list_cmp_total) (is_at (slice_cmp nat_cmp key)) (λ x y e. ap (λ z. is_eq (slice_cmp nat_cmp z y)) (same_keys key x e)) k rows
    (IsDistinct-from_sorted (slice_cmp nat_cmp) (keys_of rows) o)
    ∙ ap (λ b. cond b None (row_of rows k)) (sym (texts_ties key k))

either_at : (row : Option Row) (rows : Rows) (key k : List ℕ) → AreOrdered rows → row_of (with_row_or_none row rows key) k ≡ cond (is_same_key key k) row (row_of rows k)
either_at None rows key k o = without_row_at rows key k o
either_at (Some row) rows key k o = with_row_at rows key row k

pub row_of-with_item : (rows : Rows) (item : Item) (k : List ℕ) → AreOrdered rows → row_of (with_item rows item) k ≡ cond (is_same_key item.key k) item.row (row_of rows k)
row_of-with_item rows item k o = either_at item.row rows item.key k o

pub row_of-with_items : (rows : Rows) (items : List Item) (k : List ℕ) → AreOrdered rows → row_of (with_items rows items) k ≡ last_row items k (row_of rows k)
row_of-with_items rows [] k o = refl
row_of-with_items rows (item ∷ items) k o =
    row_of-with_items (with_item rows item) items k (ordered-with_item rows item o) ∙ ap (last_row items k) (row_of-with_item rows item k o)

turned : {A : Type 0} (b : Bool) (x y : A) → cond (not b) x y ≡ cond b y x
turned true x y = refl
turned false x y = refl

pub row_of-rows_outside : (part : Region) (hashes : ℕ) (rows : Rows) (k : List ℕ) → row_of (rows_outside part hashes rows) k ≡ cond (has_key part hashes k) None (row_of rows k)
row_of-rows_outside part hashes rows k =
    lookup-filter-keys (is_at (slice_cmp nat_cmp k)) (λ x. not (has_key part hashes x)) (not (has_key part hashes k)) (λ x e. ap (λ y. not (has_key part hashes y)) (sym (same_keys k x e))) rows
    ∙ turned (has_key part hashes k) (row_of rows k) None

advanced_at : (b : Bool) (rows : Rows) (item : Item) (k : List ℕ) → AreOrdered rows
    → row_of (cond b (with_item rows item) rows) k ≡ cond (b && is_same_key item.key k) item.row (row_of rows k)
advanced_at true rows item k o = row_of-with_item rows item k o
advanced_at false rows item k o = refl

pub row_of-advanced_rows : (part : Region) (branch : Id) (to : ℕ) (versions : Pieced Version) (rows : Rows) (item : Item) (k : List ℕ) → AreOrdered rows
    → row_of (advanced_rows (Some item) part branch to versions rows) k ≡ cond (comes_to part branch to versions item.key && is_same_key item.key k) item.row (row_of rows k)
row_of-advanced_rows part branch to versions rows item k o = advanced_at (comes_to part branch to versions item.key) rows item k o
