-- The members of lists: of what is made of lists, what holds of each, which pass a test.
use Rattle.std.proofs.Common.{◌≡◌, ◌⊎◌, inl, inr, Bool, true, false, cond, ◌||◌, List, [], ◌∷◌, ◌++◌, map, refl, subst}
use Rattle.std.specs.List.{AllByRecursion, filter, list_any, list_all}
use Rattle.std.proofs.lemmas.Bool.{and_parts}
use Rattle.list_laws.specs.Members.{IsIn}

pub IsIn-left : {X : Type 0} (xs ys : List X) (x : X) → IsIn xs x → IsIn (xs ++ ys) x
IsIn-left [] ys x h = absurd h
IsIn-left (y ∷ xs) ys x h = elim h [ inl e ↦ inl e | inr t ↦ inr (IsIn-left xs ys x t) ]

pub IsIn-right : {X : Type 0} (xs ys : List X) (x : X) → IsIn ys x → IsIn (xs ++ ys) x
IsIn-right [] ys x h = h
IsIn-right (y ∷ xs) ys x h = inr (IsIn-right xs ys x h)

pub IsIn-append : {X : Type 0} (xs ys : List X) (x : X) → IsIn (xs ++ ys) x → IsIn xs x ⊎ IsIn ys x
IsIn-append [] ys x h = inr h
IsIn-append (y ∷ xs) ys x h = elim h [ inl e ↦ inl (inl e) | inr t ↦ elim (IsIn-append xs ys x t) [ inl a ↦ inl (inr a) | inr b ↦ inr b ] ]

pub IsIn-filter : {X : Type 0} (p : X → Bool) (xs : List X) (x : X) → IsIn (filter p xs) x → IsIn xs x × (p x ≡ true)
IsIn-filter p [] x h = absurd h
IsIn-filter p (y ∷ xs) x h =
    elim (p y) as (λ c. p y ≡ c → IsIn (cond c (y ∷ filter p xs) (filter p xs)) x → ((y ≡ x) ⊎ IsIn xs x) × (p x ≡ true)) [
      | true ↦ λ e i. elim i [
        | inl s ↦ (inl s, subst (λ z. p z ≡ true) s e)
        | inr t ↦ let r = IsIn-filter p xs x t in (inr r.0, r.1)
      ]
      | false ↦ λ e i. let r = IsIn-filter p xs x i in (inr r.0, r.1)
    ] refl h

pub IsIn-map : {X Y : Type 0} (f : X → Y) (xs : List X) (y : Y) → IsIn (map f xs) y → (x : X) × (IsIn xs x) × (f x ≡ y)
IsIn-map f [] y h = absurd h
IsIn-map f (x ∷ xs) y h = elim h [ inl e ↦ (x, inl refl, e) | inr t ↦ let r = IsIn-map f xs y t in (r.0, inr r.1, r.2) ]

-- ---- what holds of the members

pub all_member : {X : Type 0} (P : X → Type 0) (xs : List X) → AllByRecursion P xs → (x : X) → IsIn xs x → P x
all_member P [] h x m = absurd m
all_member P (y ∷ ys) h x m = elim m [ inl e ↦ subst P e h.0 | inr t ↦ all_member P ys h.1 x t ]

pub all_from_members : {X : Type 0} (P : X → Type 0) (xs : List X) → ((x : X) → IsIn xs x → P x) → AllByRecursion P xs
all_from_members P [] h = tt
all_from_members P (x ∷ xs) h = (h x (inl refl), all_from_members P xs (λ y m. h y (inr m)))

-- ---- tests of the members

pub IsIn-from_any : {X : Type 0} (p : X → Bool) (xs : List X) → list_any p xs ≡ true → (x : X) × (IsIn xs x) × (p x ≡ true)
IsIn-from_any p [] h = absurd (cc)
IsIn-from_any p (x ∷ xs) h =
    elim (p x) as (λ c. p x ≡ c → (c || list_any p xs) ≡ true → (y : _) × ((x ≡ y) ⊎ IsIn xs y) × (p y ≡ true)) [
      | true ↦ λ e _. (x, inl refl, e)
      | false ↦ λ e i. let r = IsIn-from_any p xs i in (r.0, inr r.1, r.2)
    ] refl h

pub passes_member : {X : Type 0} (p : X → Bool) (x : X) (xs : List X) → list_all p xs ≡ true → IsIn xs x → p x ≡ true
passes_member p x [] h m = absurd m
passes_member p x (y ∷ ys) h m =
    let parts = and_parts (p y) (list_all p ys) h in
    elim m [ inl e ↦ subst (λ z. p z ≡ true) e parts.0 | inr t ↦ passes_member p x ys parts.1 t ]
