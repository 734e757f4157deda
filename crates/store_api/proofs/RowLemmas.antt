-- The row of a key after a row was put.
use Rattle.std.proofs.Common.{◌≡◌, ℕ, true, false, cond, ◌&&◌, List, [], ◌∷◌, Option, Some, None, nat_eq, refl, sym, ap, ◌∙◌}
use Rattle.std.proofs.lemmas.Bool.{eq-eqb}
use Rattle.std.specs.declared.cmp.Ordering.TheVariants.{Less, Equal, Greater}
use Rattle.std.specs.Ordering.{nat_cmp, is_eq, match_ordering}
use Rattle.std.specs.Cmp.Lexicographic.{slice_cmp, pointwise, texts_ties}
use Rattle.std.specs.FinMap.{slice_cmp-IsAntisymmetric, nat_cmp-IsAntisymmetric}
use Rattle.std.specs.Map.{lookup}
use Rattle.std.specs.BTreeMap.{insert_entry, is_at}
use Rattle.store_api.specs.declared.Row.{Row}
use Rattle.store_api.specs.Rows.{Rows, row_of, with_row}

same_key-refl : (key : List ℕ) → pointwise nat_eq key key ≡ true
same_key-refl [] = refl
same_key-refl (x ∷ xs) = ap (λ b. b && pointwise nat_eq xs xs) (eq-eqb x x refl) ∙ same_key-refl xs

is_at-self : (key : List ℕ) → is_at (slice_cmp nat_cmp key) key ≡ true
is_at-self key = sym (texts_ties key key) ∙ same_key-refl key

-- the key has the row that was put
pub row_of-with_row_same : (rows : Rows) (key : List ℕ) (row : Row) → row_of (with_row rows key row) key ≡ Some row
row_of-with_row_same [] key row = ap (λ b. cond b (Some row) None) (is_at-self key)
row_of-with_row_same (e ∷ es) key row =
    elim (slice_cmp nat_cmp key e.0) as (λ r. slice_cmp nat_cmp key e.0 ≡ r → lookup (is_at (slice_cmp nat_cmp key)) (match_ordering r ((key, row) ∷ e ∷ es) ((e.0, row) ∷ es) (e ∷ insert_entry (slice_cmp nat_cmp) es key row)) ≡ Some row) [
      | Less ↦ λ _. ap (λ b. cond b (Some row) (lookup (is_at (slice_cmp nat_cmp key)) (e ∷ es))) (is_at-self key)
      | Equal ↦ λ is. ap (λ r. cond (is_eq r) (Some row) (lookup (is_at (slice_cmp nat_cmp key)) es)) is
      | Greater ↦ λ is. ap (λ r. cond (is_eq r) (Some e.1) (lookup (is_at (slice_cmp nat_cmp key)) (insert_entry (slice_cmp nat_cmp) es key row))) is ∙ row_of-with_row_same es key row
    ] refl

-- every other key keeps its row
pub row_of-with_row_other : (rows : Rows) (key other : List ℕ) (row : Row) → pointwise nat_eq other key ≡ false → row_of (with_row rows key row) other ≡ row_of rows other
row_of-with_row_other [] key other row ne = ap (λ b. cond b (Some row) None) (sym (texts_ties other key) ∙ ne)
row_of-with_row_other (e ∷ es) key other row ne =
    let apart : is_at (slice_cmp nat_cmp other) key ≡ false = sym (texts_ties other key) ∙ ne in
    elim (slice_cmp nat_cmp key e.0) as (λ r. slice_cmp nat_cmp key e.0 ≡ r → lookup (is_at (slice_cmp nat_cmp other)) (match_ordering r ((key, row) ∷ e ∷ es) ((e.0, row) ∷ es) (e ∷ insert_entry (slice_cmp nat_cmp) es key row)) ≡ row_of (e ∷ es) other) [
      | Less ↦ λ _. ap (λ b. cond b (Some row) (row_of (e ∷ es) other)) apart
      | Equal ↦ λ is.
          let same : key ≡ e.0 = slice_cmp-IsAntisymmetric nat_cmp-IsAntisymmetric key e.0 is in
          let no' : is_at (slice_cmp nat_cmp other) e.0 ≡ false = ap (is_at (slice_cmp nat_cmp other)) (sym same) ∙ apart in
          ap (λ b. cond b (Some row) (row_of es other)) no' ∙ sym (ap (λ b. cond b (Some e.1) (row_of es other)) no')
      | Greater ↦ λ _. ap (λ (r : Option Row). cond (is_at (slice_cmp nat_cmp other) e.0) (Some e.1) r) (row_of-with_row_other es key other row ne)
    ] refl
