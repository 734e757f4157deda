-- Lists that begin with others, and the entries of one seat.
use Rattle.std.proofs.Common.{◌≡◌, ◌≢◌, ℕ, zero, suc, ◌<◌, ◌==◌, eqb, eq-eqb, ne_eqb, true, false, List, [], ◌∷◌, ◌++◌, length, drop, refl, sym, ap, ◌∙◌, subst, cond, inl, inr, ◌⊎◌, ⊎_elim, arith, append_assoc}
use Rattle.std.specs.Prelude.{nat_le}
use Rattle.std.proofs.lemmas.Bool.{cond_both, eqb-false, or_parts, or_left, or_right, or_from, and_parts, true≢false}
use Rattle.std.proofs.lemmas.List.{take-append-drop, append-nil}
use Rattle.std.proofs.lemmas.List.Elements.{filter-append, All-head, All-tail}
use Rattle.std.proofs.Math.Seq.{take-append_seam, take-length}
use mathlib.Core.Option.{some, some-injective, some-ne-none}
use lib.ListN.{get_elem?}
use Rattle.journal_seat.specs.Book.{StartsWith, made_by, longer, is_among, are_among, IsOwn}

module _ {E : Type 0} where
  pub starts_self : (xs : List E) → StartsWith xs xs
  starts_self xs = take-length xs

  -- what stands behind the front
  pub front_rest : (list front : List E) → StartsWith list front → front ++ drop (length front) list ≡ list
  front_rest list front e = ap (λ t. t ++ drop (length front) list) (sym e) ∙ take-append-drop (length front) list

  pub starts_of : (list front rest : List E) → front ++ rest ≡ list → StartsWith list front
  starts_of list front rest e = subst (λ l. StartsWith l front) e (take-append_seam front rest)

  pub starts_more : (list front rest : List E) → StartsWith list front → StartsWith (list ++ rest) front
  starts_more list front rest e =
      starts_of (list ++ rest) front (drop (length front) list ++ rest)
      (sym (append_assoc front (drop (length front) list) rest) ∙ ap (λ t. t ++ rest) (front_rest list front e))

  pub starts_both : (list mid front : List E) → StartsWith list mid → StartsWith mid front → StartsWith list front
  starts_both list mid front e f = subst (λ l. StartsWith l front) (front_rest list mid e) (starts_more mid front (drop (length mid) list) f)

  pub starts_longer : (list left right : List E) → StartsWith list left → StartsWith list right → StartsWith list (longer left right)
  starts_longer list left right e f = cond_both (nat_le (length right) (length left)) left right (λ x. StartsWith list x) (λ _. e) (λ _. f)

  -- the entries that a seat has in a list that has grown
  pub made_grown : (seat_of : E → ℕ) (n : ℕ) (list front : List E) → StartsWith list front → made_by seat_of n list ≡ made_by seat_of n front ++ made_by seat_of n (drop (length front) list)
  made_grown seat_of n list front e = ap (made_by seat_of n) (sym (front_rest list front e)) ∙ filter-append (λ x. seat_of x == n) front (drop (length front) list)

  pub made_own : (seat_of : E → ℕ) (n : ℕ) (xs : List E) → IsOwn seat_of n xs → made_by seat_of n xs ≡ xs
  made_own seat_of n [] own = refl
  made_own seat_of n (x ∷ xs) own =
      let head : seat_of x ≡ n = All-head (λ e. seat_of e ≡ n) x xs own in
      let rest : made_by seat_of n xs ≡ xs = made_own seat_of n xs (All-tail (λ e. seat_of e ≡ n) x xs own) in
      ap (λ b. cond b (x ∷ made_by seat_of n xs) (made_by seat_of n xs)) (eq-eqb (seat_of x) n head) ∙ ap (λ l. x ∷ l) rest

  pub made_else : (seat_of : E → ℕ) (n m : ℕ) (xs : List E) → IsOwn seat_of n xs → m ≢ n → made_by seat_of m xs ≡ []
  made_else seat_of n m [] own apart = refl
  made_else seat_of n m (x ∷ xs) own apart =
      let head : seat_of x ≡ n = All-head (λ e. seat_of e ≡ n) x xs own in
      let rest : made_by seat_of m xs ≡ [] = made_else seat_of n m xs (All-tail (λ e. seat_of e ≡ n) x xs own) apart in
      ap (λ b. cond b (x ∷ made_by seat_of m xs) (made_by seat_of m xs)) (ne_eqb (seat_of x) m (λ e. apart (sym e ∙ head))) ∙ rest

  -- entries of seat n behind a list are that seat's alone
  pub grown_own : (seat_of : E → ℕ) (n : ℕ) (list front made : List E) → StartsWith list front → IsOwn seat_of n (drop (length front) list) → made_by seat_of n front ≡ made → made_by seat_of n list ≡ made ++ drop (length front) list
  grown_own seat_of n list front made e own was =
      made_grown seat_of n list front e ∙ ap (λ t. t ++ made_by seat_of n (drop (length front) list)) was ∙ ap (λ t. made ++ t) (made_own seat_of n (drop (length front) list) own)

  pub grown_else : (seat_of : E → ℕ) (n m : ℕ) (list front made : List E) → StartsWith list front → IsOwn seat_of n (drop (length front) list) → m ≢ n → made_by seat_of m front ≡ made → made_by seat_of m list ≡ made
  grown_else seat_of n m list front made e own apart was =
      made_grown seat_of m list front e ∙ ap (λ t. t ++ made_by seat_of m (drop (length front) list)) was
      ∙ ap (λ t. made ++ t) (made_else seat_of n m (drop (length front) list) own apart) ∙ append-nil made

pub among_first : (n : ℕ) (xs : List ℕ) → is_among n (n ∷ xs) ≡ true
among_first n xs = or_left (eqb n n) (is_among n xs) (eq-eqb n n refl)

pub among_later : (n x : ℕ) (xs : List ℕ) → is_among n xs ≡ true → is_among n (x ∷ xs) ≡ true
among_later n x xs e = or_right (eqb x n) (is_among n xs) e

-- not among a list: not its first, and not among the rest
pub not_among : (n x : ℕ) (xs : List ℕ) → is_among n (x ∷ xs) ≡ false → (n ≢ x) × (is_among n xs ≡ false)
not_among n x xs e = let parts = or_parts (eqb x n) (is_among n xs) e in (λ same. eqb-false x n parts.0 (sym same), parts.1)

-- of numbers that are all among others, one that is not among the others is none
pub not_among_all : (n : ℕ) (xs others : List ℕ) → are_among xs others ≡ true → is_among n others ≡ false → is_among n xs ≡ false
not_among_all n [] others all none = refl
not_among_all n (x ∷ xs) others all none =
    let parts = and_parts (is_among x others) (are_among xs others) all in
    or_from (eqb x n) (is_among n xs)
    (ne_eqb x n (λ same. true≢false (sym parts.0 ∙ ap (λ m. is_among m others) same ∙ none)))
    (not_among_all n xs others parts.1 none)

-- where a view behind a list of views stands
pub at_end : {A : Type 0} (l : List A) (a b : A) (j : ℕ) → get_elem? (l ++ a ∷ []) j ≡ some b → (get_elem? l j ≡ some b) ⊎ ((j ≡ length l) × (a ≡ b))
at_end [] a b zero e = inr (refl, some-injective a b e)
at_end [] a b (suc j) e = absurd (some-ne-none b (sym e))
at_end (x ∷ xs) a b zero e = inl e
at_end (x ∷ xs) a b (suc j) e = ⊎_elim (λ was. inl was) (λ now. inr (ap suc now.0, now.1)) (at_end xs a b j e)

pub at_within : {A : Type 0} (l : List A) (j : ℕ) (a : A) → get_elem? l j ≡ some a → j < length l
at_within [] j a e = absurd (some-ne-none a (sym e))
at_within (x ∷ xs) zero a e = omega arith
at_within (x ∷ xs) (suc j) a e = let rest : j < length xs = at_within xs j a e in omega arith
