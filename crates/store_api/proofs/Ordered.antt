-- Rows stay in the order of their keys.
use Rattle.std.proofs.Common.{◌≡◌, ℕ, Bool, true, false, cond, List, [], ◌∷◌, Option, Some, None, refl, ap, ◌∙◌}
use Rattle.std.specs.declared.cmp.Ordering.{Ordering}
use Rattle.std.specs.declared.cmp.Ordering.TheVariants.{Less, Equal, Greater}
use Rattle.std.specs.Ordering.{nat_cmp, match_ordering, ordering_reverse}
use Rattle.std.specs.Cmp.Lexicographic.{slice_cmp}
use Rattle.std.specs.List.{AllByRecursion}
use Rattle.std.specs.List.Sorted.{IsStrictlySortedBy}
use Rattle.std.specs.Map.{keys_of, remove_entry}
use Rattle.std.specs.BTreeMap.{insert_entry}
use Rattle.std.proofs.lemmas.Cmp.{nat_list_cmp_total}
use Rattle.store_api.specs.declared.Row.{Row}
use Rattle.store_api.specs.declared.Item.{Item}
use Rattle.store_api.specs.Rows.{Rows, AreOrdered, with_row, without_row, with_row_or_none, with_item}

-- a key comes before each of these
abbrev Precedes : List ℕ → List (List ℕ) → Type 0
Precedes key keys = AllByRecursion (λ y. slice_cmp nat_cmp key y ≡ Less) keys

precedes_later : (a b : List ℕ) (keys : List (List ℕ)) → slice_cmp nat_cmp a b ≡ Less → Precedes b keys → Precedes a keys
precedes_later a b [] lt all = tt
precedes_later a b (k ∷ ks) lt all = (nat_list_cmp_total.trans a b k lt all.0, precedes_later a b ks lt all.1)

all_with_row : (P : List ℕ → Type 0) (rows : Rows) (key : List ℕ) (row : Row) → AllByRecursion P (keys_of rows) → P key → AllByRecursion P (keys_of (with_row rows key row))
all_with_row P [] key row all p = (p, tt)
all_with_row P (e ∷ es) key row all p =
    elim (slice_cmp nat_cmp key e.0) as (λ r. AllByRecursion P (keys_of (match_ordering r ((key, row) ∷ e ∷ es) ((e.0, row) ∷ es) (e ∷ insert_entry (slice_cmp nat_cmp) es key row)))) [
      | Less ↦ (p, all)
      | Equal ↦ all
      | Greater ↦ (all.0, all_with_row P es key row all.1 p)
    ]

turned : (x y : Ordering) → y ≡ ordering_reverse x → x ≡ Greater → y ≡ Less
turned x y e g = e ∙ ap ordering_reverse g

pub ordered-with_row : (rows : Rows) (key : List ℕ) (row : Row) → AreOrdered rows → AreOrdered (with_row rows key row)
unfolding IsStrictlySortedBy
ordered-with_row [] key row o = (tt, tt)
ordered-with_row (e ∷ es) key row o =
    elim (slice_cmp nat_cmp key e.0) as (λ r. slice_cmp nat_cmp key e.0 ≡ r → AreOrdered (match_ordering r ((key, row) ∷ e ∷ es) ((e.0, row) ∷ es) (e ∷ insert_entry (slice_cmp nat_cmp) es key row))) [
      | Less ↦ λ is. ((is, precedes_later key e.0 (keys_of es) is o.0), o)
      | Equal ↦ λ is. o
      | Greater ↦ λ is. (
        all_with_row (λ y. slice_cmp nat_cmp e.0 y ≡ Less) es key row o.0 (turned (slice_cmp nat_cmp key e.0) _ (nat_list_cmp_total.antisymm e.0 key) is),
        ordered-with_row es key row o.1,
      )
    ] refl

all_without : (P : List ℕ → Type 0) (test : List ℕ → Bool) (rows : Rows) → AllByRecursion P (keys_of rows) → AllByRecursion P (keys_of (remove_entry test rows))
all_without P test [] all = tt
all_without P test (e ∷ es) all =
    elim (test e.0) as (λ b. AllByRecursion P (keys_of (cond b es (e ∷ remove_entry test es)))) [ true ↦ all.1 | false ↦ (all.0, all_without P test es all.1) ]

ordered_without : (test : List ℕ → Bool) (rows : Rows) → AreOrdered rows → AreOrdered (remove_entry test rows)
unfolding IsStrictlySortedBy
ordered_without test [] o = tt
ordered_without test (e ∷ es) o =
    elim (test e.0) as (λ b. AreOrdered (cond b es (e ∷ remove_entry test es))) [
      | true ↦ o.1
      | false ↦ (all_without (λ y. slice_cmp nat_cmp e.0 y ≡ Less) test es o.0, ordered_without test es o.1)
    ]

pub ordered-without_row : (rows : Rows) (key : List ℕ) → AreOrdered rows → AreOrdered (without_row rows key)
ordered-without_row rows key o = ordered_without _ rows o

ordered_either : (row : Option Row) (rows : Rows) (key : List ℕ) → AreOrdered rows → AreOrdered (with_row_or_none row rows key)
ordered_either None rows key o = ordered-without_row rows key o
ordered_either (Some row) rows key o = ordered-with_row rows key row o

pub ordered-with_item : (rows : Rows) (item : Item) → AreOrdered rows → AreOrdered (with_item rows item)
ordered-with_item rows item o = ordered_either item.row rows item.key o
