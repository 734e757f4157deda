-- Fronts of lists of keys, and where they end.
use Rattle.std.proofs.Common.{◌≡◌, ℕ, zero, suc, ◌+◌, ◌≤◌, List, [], ◌∷◌, ◌++◌, length, take, drop, map, Option, Some, None, refl, sym, ap, ◌∙◌, arith, length-append}
use Rattle.std.specs.Option.{option_to_list}
use Rattle.std.proofs.lemmas.List.{map-append}
use Rattle.backfill_items.specs.Changed.{end_of}

-- one more of a list whose rest begins with it
pub taken_more : {A : Type 0} (n : ℕ) (xs : List A) (x : A) (rest : List A) → drop n xs ≡ x ∷ rest → (take (suc n) xs ≡ take n xs ++ x ∷ []) × (drop (suc n) xs ≡ rest)
taken_more zero [] x rest e = absurd (cc)
taken_more zero (y ∷ ys) x rest e = let same : y ≡ x = cc in let behind : ys ≡ rest = cc in (ap (λ z. z ∷ []) same, behind)
taken_more (suc n) [] x rest e = absurd (cc)
taken_more (suc n) (y ∷ ys) x rest e = let more = taken_more n ys x rest e in (ap (λ zs. y ∷ zs) more.0, more.1)

-- nothing is left of a list that is taken whole
pub taken_all : {A : Type 0} (n m : ℕ) (xs : List A) → n ≤ m → drop n xs ≡ [] → (take n xs ≡ take m xs) × (drop m xs ≡ [])
taken_all zero zero xs le e = (refl, e)
taken_all zero (suc m) [] le e = (refl, refl)
taken_all zero (suc m) (x ∷ xs) le e = absurd (cc)
taken_all (suc n) zero xs le e = absurd (omega arith)
taken_all (suc n) (suc m) [] le e = (refl, refl)
taken_all (suc n) (suc m) (x ∷ xs) le e = let le' : n ≤ m = omega arith in let all = taken_all n m xs le' e in (ap (λ zs. x ∷ zs) all.0, all.1)

front_of : {A : Type 0} (n : ℕ) (xs : List A) → take n (take (suc n) xs) ≡ take n xs
front_of zero xs = refl
front_of (suc n) [] = refl
front_of (suc n) (x ∷ xs) = ap (λ zs. x ∷ zs) (front_of n xs)

first_left : (n : ℕ) (xs : List (List ℕ)) (to : Option (List ℕ)) → end_of n (take (suc n) xs) to ≡ end_of n xs to
first_left zero [] to = refl
first_left zero (x ∷ xs) to = refl
first_left (suc n) [] to = refl
first_left (suc n) (x ∷ xs) to = first_left n xs to

-- a front and where it ends depend on one key more
pub record IsSameCut (n : ℕ) (xs ys : List (List ℕ)) (to : Option (List ℕ)) : Type 0 where
  pub front : take n xs ≡ take n ys
  pub end : end_of n xs to ≡ end_of n ys to

pub same_cut : (n : ℕ) (xs ys : List (List ℕ)) (to : Option (List ℕ)) → take (suc n) xs ≡ take (suc n) ys → IsSameCut n xs ys to
same_cut n xs ys to e = record {
  front = sym (front_of n xs) ∙ ap (take n) e ∙ front_of n ys;
  end = sym (first_left n xs to) ∙ ap (λ zs. end_of n zs to) e ∙ first_left n ys to;
}

pub same_cut_front : (n : ℕ) (xs ys : List (List ℕ)) (to : Option (List ℕ)) → xs ≡ take (suc n) ys → IsSameCut n xs ys to
same_cut_front n xs ys to e = record {
  front = ap (take n) e ∙ front_of n ys;
  end = ap (λ zs. end_of n zs to) e ∙ first_left n ys to;
}

-- a list that is no longer than its front ends where it does
pub short_end : (n : ℕ) (xs : List (List ℕ)) (to : Option (List ℕ)) → length xs ≤ n → (xs ≡ take n xs) × (to ≡ end_of n xs to)
short_end zero [] to le = (refl, refl)
short_end zero (x ∷ xs) to le = absurd (omega arith)
short_end (suc n) [] to le = (refl, refl)
short_end (suc n) (x ∷ xs) to le = let le' : length xs ≤ n = omega arith in let all = short_end n xs to le' in (ap (λ zs. x ∷ zs) all.0, all.1)

last_left : (n : ℕ) (ys : List (List ℕ)) (k : List ℕ) (to : Option (List ℕ)) → length ys ≡ n → Some k ≡ end_of n (ys ++ k ∷ []) to
last_left zero [] k to e = refl
last_left zero (y ∷ ys) k to e = absurd (omega arith)
last_left (suc n) [] k to e = absurd (omega arith)
last_left (suc n) (y ∷ ys) k to e = let e' : length ys ≡ n = omega arith in last_left n ys k to e'

-- the last one of a list is where its front without it ends
pub popped_end : (n : ℕ) (xs ys : List (List ℕ)) (last : Option (List ℕ)) (to : Option (List ℕ)) → xs ≡ ys ++ option_to_list last → length xs ≡ n + 1 → length ys ≡ n → last ≡ end_of n xs to
popped_end n xs ys None to e long short = absurd (omega (arith, ap length e, length-append ys (option_to_list None)))
popped_end n xs ys (Some k) to e long short = last_left n ys k to short ∙ ap (λ zs. end_of n zs to) (sym e)

-- ---- items of the keys of a front

-- one more item, of the key with which the rest begins
pub record HasOneMore {A B : Type 0} (f : A → B) (xs rest : List A) (items new : List B) : Type 0 where
  pub pushed : new ≡ map f (take (length new) xs)
  pub left : rest ≡ drop (length new) xs
  pub long : length new ≡ length items + 1

pub one_more : {A B : Type 0} (f : A → B) (xs : List A) (items new : List B) (x : A) (rest : List A) (item : B)
    → items ≡ map f (take (length items) xs) → drop (length items) xs ≡ x ∷ rest → new ≡ items ++ item ∷ [] → item ≡ f x → HasOneMore f xs rest items new
one_more f xs items new x rest item at behind push is =
    let more = taken_more (length items) xs x rest behind in
    let long : length new ≡ suc (length items) = omega (arith, ap length push, length-append items (item ∷ [])) in
    record {
      pushed =
          push ∙ ap (λ y. items ++ y ∷ []) is ∙ ap (λ ys. ys ++ f x ∷ []) at ∙ sym (map-append f (take (length items) xs) (x ∷ []))
          ∙ ap (map f) (sym more.0) ∙ ap (λ m. map f (take m xs)) (sym long);
      left = sym more.1 ∙ ap (λ m. drop m xs) (sym long);
      long = omega (arith, long);
    }
