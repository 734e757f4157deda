-- Forms of optional values, lists and pairs: none is `null`, a list is an array, and a pair is an array of two.
use Rattle.std.specs.Prelude.{◌≡◌, ℕ, ⊤, List, [], ◌∷◌, Option, map, not, is_some, Some, None, option_map, option_and_then}
use Rattle.std.specs.List.{AllByRecursion}
use Rattle.std.proofs.Common.{refl, sym, ap, ap₂, ◌∙◌, subst}
use Rattle.serde_json.specs.Data.{Data, null, boolean, number, string, array, object, Items, no_items, item}
use Rattle.serde_json.specs.Find.{as_null, as_array, at}
use Rattle.serde_json.specs.View.{items_of}
use Rattle.json_base.specs.Forms.{Form, IsExact, ◌>>=◌, kept_if, some_same}
use Rattle.json_base.specs.Objects.{both_fit, bind_some, map_some}

-- ---- optional values

abbrev pub option_tree : {A : Type 0} → Form A → Option A → Data
option_tree f None = null
option_tree f (Some a) = f.tree a

abbrev pub read_present : {A : Type 0} → Option ⊤ → Option A → Option (Option A)
read_present (Some x) o = Some None
read_present None o = option_map Some o

abbrev pub option_form : {A : Type 0} → Form A → Form (Option A)
option_form f = record { tree = option_tree f; read = λ h d. read_present (as_null d) (f.read h d) }

abbrev pub option_fits : {A : Type 0} → (ℕ → A → Type 0) → ℕ → Option A → Type 0
option_fits F h None = ⊤
option_fits F h (Some a) = F h a

-- no value has `null` as its tree
abbrev pub IsPresent : {A : Type 0} → Form A → Type 0
IsPresent f = (h : ℕ) → f.read h null ≡ None

null_told : (d : Data) (x : ⊤) → as_null d ≡ Some x → null ≡ d
null_told null x e = refl
null_told (boolean b) x e = absurd (cc)
null_told (number n) x e = absurd (cc)
null_told (string s) x e = absurd (cc)
null_told (array ds) x e = absurd (cc)
null_told (object ms) x e = absurd (cc)

null_none : (d : Data) → (null ≡ d → ⊥) → as_null d ≡ None
null_none null n = absurd (n refl)
null_none (boolean b) n = refl
null_none (number x) n = refl
null_none (string s) n = refl
null_none (array ds) n = refl
null_none (object ms) n = refl

pub option_exact : {A : Type 0} (F : ℕ → A → Type 0) (f : Form A) → IsPresent f → IsExact F f → IsExact (option_fits F) (option_form f)
option_exact {A} F f present one = record { finds = found; tells = λ h d x e. told h d x (as_null d) refl e }
  where
    apart : (h : ℕ) (a : A) → F h a → null ≡ f.tree a → ⊥
    apart h a k e = none_some (sym (present h) ∙ ap (λ d. f.read h d) e ∙ one.finds h a k)
      where
        none_some : None ≡ Some a → ⊥
        none_some e = absurd (cc)

    found : (h : ℕ) (x : Option A) → option_fits F h x → (option_form f).read h ((option_form f).tree x) ≡ Some x
    found h None k = refl
    found h (Some a) k = rw (null_none (f.tree a) (apart h a k), one.finds h a k) refl

    told : (h : ℕ) (d : Data) (x : Option A) (o : Option ⊤) → as_null d ≡ o → read_present o (f.read h d) ≡ Some x → (option_tree f x ≡ d) × option_fits F h x
    told h d x (Some u) q e = subst (λ y. (option_tree f y ≡ d) × option_fits F h y) (some_same None x e) (null_told d u q, tt)
    told h d x None q e =
        let a = map_some (f.read h d) Some x e in
        subst (λ y. (option_tree f y ≡ d) × option_fits F h y) a.2 (one.tells h d a.0 a.1)

-- ---- lists

abbrev pub items_tree : {A : Type 0} → Form A → List A → Items
items_tree f xs = items_of (map f.tree xs)

abbrev pub read_items : {A : Type 0} → Form A → ℕ → Items → Option (List A)
read_items f h no_items = Some []
read_items f h (item d ds) = do
  x ← f.read h d
  option_map (λ xs. x ∷ xs) (read_items f h ds)

abbrev pub list_form : {A : Type 0} → Form A → Form (List A)
list_form f = record { tree = λ xs. array (items_tree f xs); read = λ h d. option_and_then (read_items f h) (as_array d) }

abbrev pub list_fits : {A : Type 0} → (ℕ → A → Type 0) → ℕ → List A → Type 0
list_fits F h xs = AllByRecursion (F h) xs

items_found : {A : Type 0} (F : ℕ → A → Type 0) (f : Form A) → IsExact F f → (h : ℕ) (xs : List A) → AllByRecursion (F h) xs → read_items f h (items_tree f xs) ≡ Some xs
items_found F f one h [] k = refl
items_found F f one h (x ∷ xs) k = rw (one.finds h x k.0, items_found F f one h xs k.1) refl

items_told : {A : Type 0} (F : ℕ → A → Type 0) (f : Form A) → IsExact F f → (h : ℕ) (ds : Items) (xs : List A) → read_items f h ds ≡ Some xs → (items_tree f xs ≡ ds) × AllByRecursion (F h) xs
items_told {A} F f one h no_items xs e = subst (λ (ys : List A). (items_tree f ys ≡ no_items) × AllByRecursion (F h) ys) (some_same [] xs e) (refl, tt)
items_told {A} F f one h (item d ds) xs e =
    let a = bind_some (f.read h d) _ xs e in
    let b = map_some (read_items f h ds) _ xs a.2 in
    let s = one.tells h d a.0 a.1 in
    let t = items_told F f one h ds b.0 b.1 in
    subst (λ (ys : List A). (items_tree f ys ≡ item d ds) × AllByRecursion (F h) ys) b.2 (ap₂ (λ u v. item u v) s.0 t.0, (s.1, t.1))

array_told : (d : Data) (ds : Items) → as_array d ≡ Some ds → array ds ≡ d
array_told null ds e = absurd (cc)
array_told (boolean b) ds e = absurd (cc)
array_told (number n) ds e = absurd (cc)
array_told (string s) ds e = absurd (cc)
array_told (array es) ds e = cc
array_told (object ms) ds e = absurd (cc)

pub list_exact : {A : Type 0} (F : ℕ → A → Type 0) (f : Form A) → IsExact F f → IsExact (list_fits F) (list_form f)
list_exact {A} F f one = record { finds = found; tells = told }
  where
    found : (h : ℕ) (xs : List A) → AllByRecursion (F h) xs → read_items f h (items_tree f xs) ≡ Some xs
    found h xs k = items_found F f one h xs k

    told : (h : ℕ) (d : Data) (xs : List A) → (list_form f).read h d ≡ Some xs → (array (items_tree f xs) ≡ d) × AllByRecursion (F h) xs
    told h d xs e =
        let m = bind_some (as_array d) (read_items f h) xs e in
        let t = items_told F f one h m.0 xs m.2 in
        (ap array t.0 ∙ array_told d m.0 m.1, t.1)

-- ---- pairs

-- the two items of a list of two
abbrev pub pair_of : Data → Option (Data × Data)
pair_of d = do
  a ← at 0 d
  b ← at 1 d
  kept_if (not (is_some (at 2 d))) (a, b)

abbrev pub pair_form : {A B : Type 0} → Form A → Form B → Form (A × B)
pair_form f g = record {
  tree = λ x. array (item (f.tree x.0) (item (g.tree x.1) no_items));
  read = λ h d. do
    p ← pair_of d
    a ← f.read h p.0
    b ← g.read h p.1
    Some (a, b);
}

pair_told : (d : Data) (p : Data × Data) → pair_of d ≡ Some p → array (item p.0 (item p.1 no_items)) ≡ d
pair_told null p e = absurd (cc)
pair_told (boolean b) p e = absurd (cc)
pair_told (number n) p e = absurd (cc)
pair_told (string s) p e = absurd (cc)
pair_told (array no_items) p e = absurd (cc)
pair_told (array (item d no_items)) p e = absurd (cc)
pair_told (array (item d (item c no_items))) p e = ap (λ (q : Data × Data). array (item q.0 (item q.1 no_items))) (sym (some_same (d, c) p e))
pair_told (array (item d (item c (item b ds)))) p e = absurd (cc)
pair_told (object ms) p e = absurd (cc)

pub pair_exact : {A B : Type 0} (F : ℕ → A → Type 0) (f : Form A) (G : ℕ → B → Type 0) (g : Form B) → IsExact F f → IsExact G g → IsExact (both_fit F G) (pair_form f g)
pair_exact {A} {B} F f G g one other = record { finds = found; tells = told }
  where
    found : (h : ℕ) (x : A × B) → both_fit F G h x → (pair_form f g).read h ((pair_form f g).tree x) ≡ Some x
    found h x k = rw (one.finds h x.0 k.0, other.finds h x.1 k.1) refl

    told : (h : ℕ) (d : Data) (x : A × B) → (pair_form f g).read h d ≡ Some x → ((pair_form f g).tree x ≡ d) × both_fit F G h x
    told h d x e =
        let p = bind_some (pair_of d) _ x e in
        let a = bind_some (f.read h p.0.0) _ x p.2 in
        let b = bind_some (g.read h p.0.1) _ x a.2 in
        let s = one.tells h p.0.0 a.0 a.1 in
        let t = other.tells h p.0.1 b.0 b.1 in
        let tree : array (item (f.tree a.0) (item (g.tree b.0) no_items)) ≡ d =
        ap₂ (λ u v. array (item u (item v no_items))) s.0 t.0 ∙ pair_told d p.0 p.1 in
        subst (λ (y : A × B). ((pair_form f g).tree y ≡ d) × both_fit F G h y) (some_same (a.0, b.0) x b.2) (tree, (s.1, t.1))
