-- Laws of paths.
use Rattle.std.proofs.Common.{◌≡◌, ℕ, suc, ◌<◌, ◌≤◌, ◌⊎◌, Bool, true, false, cond, nat_le, List, [], ◌∷◌, Option, Some, None, inl, inr, refl, sym, ap, ◌∙◌, subst, arith}
use Rattle.std.proofs.lemmas.Bool.{cases_Bool, both_ways, and_parts, and_from, eqb-true, leb-true, leb-false, le-leb, cases_lt, false_from_ne_true}
use Rattle.path_facts.specs.Paths.{Version, Birth, TellsApart, zero_version, point, is_named, has_no_branch, is_zero, is_own, on, IsIn, known, ComesFrom, IsNext, IsHistory}

pub version_same : {B : Type 0} (v w : Version B) → v.branch ≡ w.branch → v.timestamp ≡ w.timestamp → v ≡ w
version_same v w e d = λ i. record { branch = e i; timestamp = d i }

none_is : {B : Type 0} (o : Option B) → has_no_branch o ≡ true → o ≡ None
none_is None e = refl
none_is (Some b) e = absurd (cc)

zero_is : {B : Type 0} (x : Version B) → is_zero x ≡ true → x ≡ zero_version
zero_is x e = let p = and_parts _ _ e in version_same x zero_version (none_is x.branch p.0) (eqb-true x.timestamp 0 p.1)

-- a version's branch, where it has one, is among some
abbrev pub IsFrom : {B : Type 0} → List (Birth B) → Option B → Type 0
IsFrom {B} bs o = (c : B) → o ≡ Some c → ComesFrom bs c

comes_later : {B : Type 0} (b : Birth B) (bs : List (Birth B)) (c : B) → ComesFrom bs c → ComesFrom (b ∷ bs) c
comes_later b bs c f = record { birth = f.birth; is_in = inr f.is_in; name_is = f.name_is }

module _ {B : Type 0} (same : B → B → Bool) (names : TellsApart same) where
  pub named_is : (o : Option B) (b : B) → is_named same o b ≡ true → o ≡ Some b
  named_is None b e = absurd (cc)
  named_is (Some c) b e = ap Some (names.equal c b e)

  named_from : (o : Option B) (b : B) → o ≡ Some b → is_named same o b ≡ true
  named_from o b e = subst (λ (p : Option B). is_named same p b ≡ true) (sym e) (names.itself b)

  -- ---- one branch of a path

  pub data Part (b : Birth B) (bs : List (Birth B)) (v x : Version B) : Type 0 where
    Other : is_named same v.branch b.branch ≡ false → on same bs v x ≡ true → Part b bs v x
    Own : is_named same v.branch b.branch ≡ true → is_named same x.branch b.branch ≡ true → b.initial ≤ x.timestamp → x.timestamp ≤ v.timestamp → Part b bs v x
    Older : is_named same v.branch b.branch ≡ true → on same bs b.origin x ≡ true → Part b bs v x

  module _ (b : Birth B) (bs : List (Birth B)) where
    pub other_is : (v x : Version B) → is_named same v.branch b.branch ≡ false → on same (b ∷ bs) v x ≡ on same bs v x
    other_is v x e = ap (λ c. cond c (cond (is_own same b v x) true (on same bs b.origin x)) (on same bs v x)) e

    pub inside_is : (v x : Version B) → is_named same v.branch b.branch ≡ true → on same (b ∷ bs) v x ≡ cond (is_own same b v x) true (on same bs b.origin x)
    inside_is v x e = ap (λ c. cond c (cond (is_own same b v x) true (on same bs b.origin x)) (on same bs v x)) e

    own_on : (v x : Version B) → is_named same v.branch b.branch ≡ true → is_named same x.branch b.branch ≡ true → b.initial ≤ x.timestamp → x.timestamp ≤ v.timestamp → on same (b ∷ bs) v x ≡ true
    own_on v x t o lo up =
        let e : is_own same b v x ≡ true = and_from _ _ o (and_from _ _ (le-leb b.initial x.timestamp lo) (le-leb x.timestamp v.timestamp up)) in
        inside_is v x t ∙ ap (λ c. cond c true (on same bs b.origin x)) e

    older_on : (v x : Version B) → is_named same v.branch b.branch ≡ true → on same bs b.origin x ≡ true → on same (b ∷ bs) v x ≡ true
    older_on v x t o = inside_is v x t ∙ elim (is_own same b v x) as (λ c. cond c true (on same bs b.origin x) ≡ true) [ true ↦ refl | false ↦ o ]

    pub part : (v x : Version B) → on same (b ∷ bs) v x ≡ true → Part b bs v x
    part v x e =
        elim (cases_Bool (is_named same v.branch b.branch)) [
          | inr f ↦ Other f (sym (other_is v x f) ∙ e)
          | inl t ↦ elim (cases_Bool (is_own same b v x)) [
            | inl w ↦ let p = and_parts _ _ w in let q = and_parts _ _ p.1 in Own t p.0 (leb-true b.initial x.timestamp q.0) (leb-true x.timestamp v.timestamp q.1)
            | inr n ↦ Older t (sym (ap (λ c. cond c true (on same bs b.origin x)) n) ∙ sym (inside_is v x t) ∙ e)
          ]
        ]

  -- ---- the zero version, and which branches a path knows

  pub zero_on : (bs : List (Birth B)) (v : Version B) → on same bs v zero_version ≡ true
  zero_on [] v = refl
  zero_on (b ∷ bs) v =
      elim (cases_Bool (is_named same v.branch b.branch)) [
        | inr f ↦ other_is b bs v zero_version f ∙ zero_on bs v
        | inl t ↦ older_on b bs v zero_version t (zero_on bs b.origin)
      ]

  -- a version of no branch, or of none that is known, has the zero version alone
  pub unknown_on : (bs : List (Birth B)) (v x : Version B) → ((z : Birth B) → IsIn bs z → is_named same v.branch z.branch ≡ false) → on same bs v x ≡ is_zero x
  unknown_on [] v x n = refl
  unknown_on (b ∷ bs) v x n = other_is b bs v x (n b (inl refl)) ∙ unknown_on bs v x (λ z i. n z (inr i))

  pub nothing_on : (bs : List (Birth B)) (v : Version B) (b : B) (t : ℕ) → v.branch ≡ None → on same bs v (point b t) ≡ true → ⊥
  nothing_on bs v b t e o =
      let no : on same bs v (point b t) ≡ is_zero (point b t) = unknown_on bs v (point b t) (λ z i. subst (λ (p : Option B). is_named same p z.branch ≡ false) (sym e) refl) in
      both_ways _ no o

  -- what is on a path is of a known branch
  pub known_on : (bs : List (Birth B)) (v x : Version B) → on same bs v x ≡ true → IsFrom bs x.branch
  known_on [] v x o c e =
      let none : x.branch ≡ None = none_is x.branch (and_parts _ _ o).0 in
      absurd (cc)
  known_on (b ∷ bs) v x o c e =
      elim (part b bs v x o) [
        | Other f p ↦ comes_later b bs c (known_on bs v x p c e)
        | Own t n lo up ↦
            let is = named_is x.branch b.branch n in
            record { birth = b; is_in = inl refl; name_is = cc }
        | Older t p ↦ comes_later b bs c (known_on bs b.origin x p c e)
      ]

  -- a version of an older branch is not of a new one
  pub not_new : (b : Birth B) (bs : List (Birth B)) (o : Option B) → IsNext same b bs → IsFrom bs o → is_named same o b.branch ≡ false
  not_new b bs o h f =
      false_from_ne_true (is_named same o b.branch) (λ t.
      let e = named_is o b.branch t in
      let from = f b.branch e in
      both_ways _ (h.fresh from.birth from.is_in) (subst (λ (c : B). same b.branch c ≡ true) (sym from.name_is) (names.itself b.branch)))

  pub path_stays : (b : Birth B) (bs : List (Birth B)) (v x : Version B) → IsNext same b bs → IsFrom bs v.branch → on same (b ∷ bs) v x ≡ on same bs v x
  path_stays b bs v x h f = other_is b bs v x (not_new b bs v.branch h f)

  lower : (b : Birth B) (bs : List (Birth B)) (v x y : Version B) → IsNext same b bs → on same bs v x ≡ true → on same (b ∷ bs) x y ≡ true → on same bs x y ≡ true
  lower b bs v x y h o e = sym (path_stays b bs x y h (known_on bs v x o)) ∙ e

  raise : (b : Birth B) (bs : List (Birth B)) (v x y : Version B) → IsNext same b bs → on same bs v x ≡ true → on same bs x y ≡ true → on same (b ∷ bs) x y ≡ true
  raise b bs v x y h o e = path_stays b bs x y h (known_on bs v x o) ∙ e

  -- ---- order

  pub on_self : (bs : List (Birth B)) (v x : Version B) → IsHistory same bs → on same bs v x ≡ true → on same bs x x ≡ true
  on_self [] v x h e = e
  on_self (b ∷ bs) v x h e =
      elim (part b bs v x e) [
        | Other f o ↦ raise b bs v x x h.0 o (on_self bs v x h.1 o)
        | Own t o lo up ↦ own_on b bs x x o o lo (omega arith)
        | Older t o ↦ raise b bs b.origin x x h.0 o (on_self bs b.origin x h.1 o)
      ]

  pub on_trans : (bs : List (Birth B)) (v x y : Version B) → IsHistory same bs → on same bs v x ≡ true → on same bs x y ≡ true → on same bs v y ≡ true
  on_trans [] v x y h e d = d
  on_trans (b ∷ bs) v x y h e d =
      elim (part b bs v x e) [
        | Other f o ↦ other_is b bs v y f ∙ on_trans bs v x y h.1 o (lower b bs v x y h.0 o d)
        | Own t o lo up ↦ elim (part b bs x y d) [
          | Other f p ↦ absurd (both_ways _ f o)
          | Own u p low high ↦ own_on b bs v y t p low (omega arith)
          | Older u p ↦ older_on b bs v y t p
        ]
        | Older t o ↦ older_on b bs v y t (on_trans bs b.origin x y h.1 o (lower b bs b.origin x y h.0 o d))
      ]

  pub on_linear : (bs : List (Birth B)) (v x y : Version B) → IsHistory same bs → on same bs v x ≡ true → on same bs v y ≡ true → (on same bs x y ≡ true) ⊎ (on same bs y x ≡ true)
  on_linear [] v x y h e d = inl d
  on_linear (b ∷ bs) v x y h e d =
      elim (part b bs v x e) [
        | Other f o ↦ elim (part b bs v y d) [
          | Other g p ↦ elim (on_linear bs v x y h.1 o p) [ inl a ↦ inl (raise b bs v x y h.0 o a) | inr a ↦ inr (raise b bs v y x h.0 p a) ]
          | Own u p low high ↦ absurd (both_ways _ f u)
          | Older u p ↦ absurd (both_ways _ f u)
        ]
        | Own t o lo up ↦ elim (part b bs v y d) [
          | Other g p ↦ absurd (both_ways _ g t)
          | Own u p low high ↦ elim (cases_lt x.timestamp y.timestamp) [
            | inl lt ↦ inr (own_on b bs y x p o lo (omega arith))
            | inr ge ↦ inl (own_on b bs x y o p low ge)
          ]
          | Older u p ↦ inl (older_on b bs x y o p)
        ]
        | Older t o ↦ elim (part b bs v y d) [
          | Other g p ↦ absurd (both_ways _ g t)
          | Own u p low high ↦ inr (older_on b bs y x p o)
          | Older u p ↦ elim (on_linear bs b.origin x y h.1 o p) [
            | inl a ↦ inl (raise b bs b.origin x y h.0 o a)
            | inr a ↦ inr (raise b bs b.origin y x h.0 p a)
          ]
        ]
      ]

  pub on_antisym : (bs : List (Birth B)) (x y : Version B) → IsHistory same bs → on same bs x y ≡ true → on same bs y x ≡ true → x ≡ y
  on_antisym [] x y h e d = zero_is x d ∙ sym (zero_is y e)
  on_antisym (b ∷ bs) x y h e d =
      elim (part b bs x y e) [
        | Other f o ↦ on_antisym bs x y h.1 o (lower b bs x y x h.0 o d)
        | Own t o lo up ↦ elim (part b bs y x d) [
          | Other g p ↦ absurd (both_ways _ g o)
          | Own u p low high ↦ version_same x y (named_is x.branch b.branch t ∙ sym (named_is y.branch b.branch o)) (omega arith)
          | Older u p ↦ absurd (both_ways _ (not_new b bs x.branch h.0 (known_on bs b.origin x p)) t)
        ]
        | Older t o ↦
            let back = lower b bs b.origin y x h.0 o d in
            absurd (both_ways _ (not_new b bs x.branch h.0 (known_on bs y x back)) t)
      ]

  -- a later version of a branch has all that an earlier one has
  pub on_forward : (bs : List (Birth B)) (v w x : Version B) → v.branch ≡ w.branch → v.timestamp ≤ w.timestamp → on same bs v x ≡ true → on same bs w x ≡ true
  on_forward [] v w x e l d = d
  on_forward (b ∷ bs) v w x e l d =
      elim (part b bs v x d) [
        | Other f o ↦ other_is b bs w x (subst (λ (z : Option B). is_named same z b.branch ≡ false) e f) ∙ on_forward bs v w x e l o
        | Own t o lo up ↦ own_on b bs w x (subst (λ (z : Option B). is_named same z b.branch ≡ true) e t) o lo (omega arith)
        | Older t o ↦ older_on b bs w x (subst (λ (z : Option B). is_named same z b.branch ≡ true) e t) o
      ]

  -- ---- branches of a history

  later_than : (b : Birth B) (bs : List (Birth B)) (y : Birth B) → IsNext same b bs → IsIn (b ∷ bs) y → (b ≡ y) ⊎ (y.registered < b.registered)
  later_than b bs y h (inl e) = inl e
  later_than b bs y h (inr i) = inr (h.later y i)

  -- no branch was registered at some index or behind it
  pub all_before : (bs : List (Birth B)) → IsHistory same bs → (n : ℕ) × ((y : Birth B) → IsIn bs y → y.registered < n)
  all_before [] h = (0, λ y i. absurd i)
  all_before (b ∷ bs) h = (
    suc b.registered,
    λ y i. elim (later_than b bs y h.0 i) [
      | inl e ↦ let is = ap (λ (a : Birth B). a.registered) e in omega arith
      | inr l ↦ omega arith
    ],
  )

  -- two branches that were registered at one index are one, and so are two with one name
  pub one_index : (bs : List (Birth B)) (y z : Birth B) → IsHistory same bs → IsIn bs y → IsIn bs z → y.registered ≡ z.registered → y ≡ z
  one_index [] y z h i j e = absurd i
  one_index (b ∷ bs) y z h (inl d) (inl c) e = sym d ∙ c
  one_index (b ∷ bs) y z h (inl d) (inr j) e =
      let l = h.0.later z j in
      let s = ap (λ (a : Birth B). a.registered) d in
      absurd (omega arith)
  one_index (b ∷ bs) y z h (inr i) (inl c) e =
      let l = h.0.later y i in
      let s = ap (λ (a : Birth B). a.registered) c in
      absurd (omega arith)
  one_index (b ∷ bs) y z h (inr i) (inr j) e = one_index bs y z h.1 i j e

  differs : (b y : Birth B) (bs : List (Birth B)) → IsNext same b bs → IsIn bs y → b.branch ≡ y.branch → ⊥
  differs b y bs h i e = both_ways _ (h.fresh y i) (subst (λ (c : B). same b.branch c ≡ true) e (names.itself b.branch))

  pub one_name : (bs : List (Birth B)) (y z : Birth B) → IsHistory same bs → IsIn bs y → IsIn bs z → y.branch ≡ z.branch → y ≡ z
  one_name [] y z h i j e = absurd i
  one_name (b ∷ bs) y z h (inl d) (inl c) e = sym d ∙ c
  one_name (b ∷ bs) y z h (inl d) (inr j) e = absurd (differs b z bs h.0 j (ap (λ (a : Birth B). a.branch) d ∙ e))
  one_name (b ∷ bs) y z h (inr i) (inl c) e = absurd (differs b y bs h.0 i (ap (λ (a : Birth B). a.branch) c ∙ sym e))
  one_name (b ∷ bs) y z h (inr i) (inr j) e = one_name bs y z h.1 i j e

  -- a branch goes on from one that was registered before it
  pub origin_from : (bs : List (Birth B)) (y : Birth B) → IsHistory same bs → IsIn bs y → (c : B) → y.origin.branch ≡ Some c
      → (z : Birth B) × IsIn bs z × (z.branch ≡ c) × (z.registered < y.registered)
  origin_from [] y h i c e = absurd i
  origin_from (b ∷ bs) y h (inl d) c e =
      let f = h.0.origin c (ap (λ (a : Birth B). a.origin.branch) d ∙ e) in
      (f.birth, inr f.is_in, f.name_is, subst (λ (a : Birth B). f.birth.registered < a.registered) d (h.0.later f.birth f.is_in))
  origin_from (b ∷ bs) y h (inr i) c e = let r = origin_from bs y h.1 i c e in (r.0, inr r.1, r.2, r.3)

  pub origin_is_from : (bs : List (Birth B)) (y : Birth B) → IsHistory same bs → IsIn bs y → IsFrom bs y.origin.branch
  origin_is_from bs y h i c e = let r = origin_from bs y h i c e in record { birth = r.0; is_in = r.1; name_is = r.2 }

  -- the path of a version, by the birth of its branch
  pub birth_on : (bs : List (Birth B)) (y : Birth B) (v x : Version B) → IsHistory same bs → IsIn bs y → v.branch ≡ Some y.branch
      → on same bs v x ≡ cond (is_own same y v x) true (on same bs y.origin x)
  birth_on [] y v x h i e = absurd i
  birth_on (b ∷ bs) y v x h (inl d) e =
      subst (λ (a : Birth B). v.branch ≡ Some a.branch → on same (b ∷ bs) v x ≡ cond (is_own same a v x) true (on same (b ∷ bs) a.origin x)) d
      (λ n. inside_is b bs v x (named_from v.branch b.branch n) ∙ ap (cond (is_own same b v x) true) (sym (path_stays b bs b.origin x h.0 h.0.origin))) e
  birth_on (b ∷ bs) y v x h (inr i) e =
      path_stays b bs v x h.0 (λ c s. record { birth = y; is_in = i; name_is = cc })
      ∙ birth_on bs y v x h.1 i e
      ∙ ap (cond (is_own same y v x) true) (sym (path_stays b bs y.origin x h.0 (origin_is_from bs y h.1 i)))

  -- what is on the path of a branch's origin is of a branch that was registered before it
  pub origin_before : (bs : List (Birth B)) (y b : Birth B) (x : Version B) → IsHistory same bs → IsIn bs y → IsIn bs b → x.branch ≡ Some b.branch → on same bs y.origin x ≡ true → b.registered < y.registered
  origin_before [] y b x h i j e o = absurd i
  origin_before (a ∷ bs) y b x h (inl d) j e o =
      let first : on same bs a.origin x ≡ true = sym (path_stays a bs a.origin x h.0 h.0.origin) ∙ ap (λ (z : Birth B). on same (a ∷ bs) z.origin x) d ∙ o in
      let from = known_on bs a.origin x first b.branch e in
      let is : from.birth ≡ b = one_name (a ∷ bs) from.birth b h (inr from.is_in) j from.name_is in
      let l = h.0.later from.birth from.is_in in
      let p = ap (λ (z : Birth B). z.registered) is in
      let q = ap (λ (z : Birth B). z.registered) d in
      omega arith
  origin_before (a ∷ bs) y b x h (inr i) j e o =
      let first : on same bs y.origin x ≡ true = sym (path_stays a bs y.origin x h.0 (origin_is_from bs y h.1 i)) ∙ o in
      let from = known_on bs y.origin x first b.branch e in
      let is : from.birth ≡ b = one_name (a ∷ bs) from.birth b h (inr from.is_in) j from.name_is in
      origin_before bs y b x h.1 i (subst (IsIn bs) is from.is_in) e first

  -- ---- the branches up to an index

  -- the path of a branch that is known up to an index is the path in all branches
  pub known_stays : (w : ℕ) (bs : List (Birth B)) (y : Birth B) (v x : Version B) → IsHistory same bs → IsIn bs y → y.registered ≤ w → v.branch ≡ Some y.branch
      → on same (known w bs) v x ≡ on same bs v x
  known_stays w [] y v x h i l e = absurd i
  known_stays w (b ∷ bs) y v x h i l e =
      elim (cases_Bool (nat_le b.registered w)) [
        | inl t ↦ ap (λ c. on same (cond c (b ∷ bs) (known w bs)) v x) t
        | inr f ↦
            let new = leb-false b.registered w f in
            let older : IsIn bs y = elim i [
              | inl d ↦ let p = ap (λ (z : Birth B). z.registered) d in absurd (omega arith)
              | inr j ↦ j
            ] in
            ap (λ c. on same (cond c (b ∷ bs) (known w bs)) v x) f
            ∙ known_stays w bs y v x h.1 older l e
            ∙ sym (path_stays b bs v x h.0 (λ c s. record { birth = y; is_in = older; name_is = cc }))
      ]

  -- a point of a path up to an index is on the path in all branches
  pub known_points : (w : ℕ) (bs : List (Birth B)) (v x : Version B) → IsHistory same bs → on same (known w bs) v x ≡ true → on same bs v x ≡ true
  known_points w [] v x h o = o
  known_points w (b ∷ bs) v x h o =
      elim (cases_Bool (nat_le b.registered w)) [
        | inl t ↦ sym (ap (λ c. on same (cond c (b ∷ bs) (known w bs)) v x) t) ∙ o
        | inr f ↦
            let below = known_points w bs v x h.1 (sym (ap (λ c. on same (cond c (b ∷ bs) (known w bs)) v x) f) ∙ o) in
            elim (cases_Bool (is_named same v.branch b.branch)) [
              | inr other ↦ other_is b bs v x other ∙ below
              | inl t ↦
                  let e = named_is v.branch b.branch t in
                  let zero : is_zero x ≡ true = sym (unknown_on bs v x (λ z i. subst (λ (p : Option B). is_named same p z.branch ≡ false) (sym e) (h.0.fresh z i))) ∙ below in
                  subst (λ (y : Version B). on same (b ∷ bs) v y ≡ true) (sym (zero_is x zero)) (zero_on (b ∷ bs) v)
            ]
      ]

  module _ (bs : List (Birth B)) (h : IsHistory same bs) where
    -- the points of a branch up to a version of it are on the version's path
    pub own_points : (y : Birth B) (s t : ℕ) → IsIn bs y → y.initial ≤ t → t ≤ s → on same bs (point y.branch s) (point y.branch t) ≡ true
    own_points y s t i lo up =
        let e : is_own same y (point y.branch s) (point y.branch t) ≡ true = and_from _ _ (names.itself y.branch) (and_from _ _ (le-leb y.initial t lo) (le-leb t s up)) in
        birth_on bs y (point y.branch s) (point y.branch t) h i refl ∙ ap (λ c. cond c true (on same bs y.origin (point y.branch t))) e

    -- so is the path from which the branch goes on
    pub from_origin : (y : Birth B) (s : ℕ) (x : Version B) → IsIn bs y → on same bs y.origin x ≡ true → on same bs (point y.branch s) x ≡ true
    from_origin y s x i o =
        birth_on bs y (point y.branch s) x h i refl
        ∙ elim (is_own same y (point y.branch s) x) as (λ c. cond c true (on same bs y.origin x) ≡ true) [ true ↦ refl | false ↦ o ]

    -- a point of a branch on the path of another's version: a point of its own, or from where it goes on
    pub whose : (y b : Birth B) (s t : ℕ) → IsIn bs y → IsIn bs b → on same bs (point y.branch s) (point b.branch t) ≡ true
        → ((y ≡ b) × (t ≤ s)) ⊎ ((b.registered < y.registered) × (on same bs y.origin (point b.branch t) ≡ true))
    whose y b s t i j o =
        elim (cases_Bool (is_own same y (point y.branch s) (point b.branch t))) [
          | inl own ↦
              let p = and_parts _ _ own in
              let q = and_parts _ _ p.1 in
              let name = names.equal b.branch y.branch p.0 in
              inl (one_name bs y b h i j (sym name), leb-true t s q.1)
          | inr other ↦
              let old : on same bs y.origin (point b.branch t) ≡ true =
              sym (ap (λ c. cond c true (on same bs y.origin (point b.branch t))) other) ∙ sym (birth_on bs y (point y.branch s) (point b.branch t) h i refl) ∙ o in
              inr (origin_before bs y b (point b.branch t) h i j refl old, old)
        ]
