-- Objects, and types whose values are seen as others, are exact where their parts are.
use Rattle.std.specs.Prelude.{◌≡◌, ℕ, ⊤, Bool, true, false, List, bytes_eq, Option, Some, None, option_map, option_and_then, if◌then◌else◌}
use Rattle.std.proofs.Common.{refl, sym, ap, ap₂, ◌∙◌, subst}
use Rattle.std.proofs.lemmas.Slice.Eq.{bytes_eq-Decides}
use Rattle.serde_json.specs.Data.{Data, null, boolean, number, string, array, object, Members, no_members, member}
use Rattle.serde_json.specs.Find.{as_object}
use Rattle.json_base.specs.Forms.{Form, IsExact, Fields, no_fields, field, object_of, mapped, read_end, first_named, others, read_first, some_same}

-- the same of the members of an object
pub record AreExact {A : Type 0} (fits : ℕ → A → Type 0) (fs : Fields A) : Type 0 where
  pub finds : (h : ℕ) (x : A) → fits h x → fs.read h (fs.tree x) ≡ Some x
  pub tells : (h : ℕ) (ms : Members) (x : A) → fs.read h ms ≡ Some x → (fs.tree x ≡ ms) × fits h x

abbrev pub nothing_fits : ℕ → ⊤ → Type 0
nothing_fits h x = ⊤

-- both parts fit
abbrev pub both_fit : {A B : Type 0} → (ℕ → A → Type 0) → (ℕ → B → Type 0) → ℕ → A × B → Type 0
both_fit f g h x = f h x.0 × g h x.1

-- what it is seen as fits
abbrev pub seen_fits : {A B : Type 0} → (B → A) → (ℕ → A → Type 0) → ℕ → B → Type 0
seen_fits from f h b = f h (from b)

pub bind_some : {A B : Type 0} (o : Option A) (g : A → Option B) (b : B) → option_and_then g o ≡ Some b → (a : A) × (o ≡ Some a) × (g a ≡ Some b)
bind_some None g b e = absurd (cc)
bind_some (Some a) g b e = (a, refl, e)

pub map_some : {A B : Type 0} (o : Option A) (g : A → B) (b : B) → option_map g o ≡ Some b → (a : A) × (o ≡ Some a) × (g a ≡ b)
map_some None g b e = absurd (cc)
map_some (Some a) g b e = (a, refl, some_same (g a) b e)

pub same_name : (name : List ℕ) → bytes_eq name name ≡ true
same_name name = (bytes_eq-Decides name name).1 refl

-- ---- members

pub end_told : (ms : Members) (x : ⊤) → read_end ms ≡ Some x → no_members ≡ ms
end_told no_members x e = refl
end_told (member m d ms) x e = absurd (cc)

pub end_exact : AreExact nothing_fits no_fields
end_exact = record { finds = λ h x f. refl; tells = λ h ms x e. (end_told ms x e, tt) }

-- a first member of a name is that name's
pub first_told : (name : List ℕ) (ms : Members) (d : Data) → first_named name ms ≡ Some d → member name d (others ms) ≡ ms
first_told name no_members d e = absurd (cc)
first_told name (member m c ms) d e = by_test (bytes_eq m name) refl e
  where
    by_test : (t : Bool) → bytes_eq m name ≡ t → (if t then Some c else None) ≡ Some d → member name d ms ≡ member m c ms
    by_test true q r = ap₂ (λ n x. member n x ms) (sym ((bytes_eq-Decides m name).0 q)) (sym (some_same c d r))
    by_test false q r = absurd (cc)

pub field_exact : {A B : Type 0} (name : List ℕ) (F : ℕ → A → Type 0) (f : Form A) (G : ℕ → B → Type 0) (fs : Fields B) → IsExact F f → AreExact G fs → AreExact (both_fit F G) (field name f fs)
field_exact {A} {B} name F f G fs one more = record { finds = found; tells = told }
  where
    found : (h : ℕ) (x : A × B) → both_fit F G h x → (field name f fs).read h ((field name f fs).tree x) ≡ Some x
    found h x k = rw (same_name name, one.finds h x.0 k.0, more.finds h x.1 k.1) refl

    told : (h : ℕ) (ms : Members) (x : A × B) → (field name f fs).read h ms ≡ Some x → ((field name f fs).tree x ≡ ms) × both_fit F G h x
    told h ms x e =
        let a = bind_some (read_first name f h ms) _ x e in
        let d = bind_some (first_named name ms) (f.read h) a.0 a.1 in
        let b = bind_some (fs.read h (others ms)) _ x a.2 in
        let p = one.tells h d.0 a.0 d.2 in
        let q = more.tells h (others ms) b.0 b.1 in
        let pair : (a.0, b.0) ≡ x = some_same (a.0, b.0) x b.2 in
        let tree : member name (f.tree a.0) (fs.tree b.0) ≡ ms = ap₂ (λ u v. member name u v) p.0 q.0 ∙ first_told name ms d.0 d.1 in
        subst (λ (y : A × B). ((field name f fs).tree y ≡ ms) × both_fit F G h y) pair (tree, (p.1, q.1))

pub object_told : (d : Data) (ms : Members) → as_object d ≡ Some ms → object ms ≡ d
object_told null ms e = absurd (cc)
object_told (boolean b) ms e = absurd (cc)
object_told (number n) ms e = absurd (cc)
object_told (string s) ms e = absurd (cc)
object_told (array ds) ms e = absurd (cc)
object_told (object ns) ms e = cc

pub object_exact : {A : Type 0} (F : ℕ → A → Type 0) (fs : Fields A) → AreExact F fs → IsExact F (object_of fs)
object_exact {A} F fs are = record { finds = are.finds; tells = told }
  where
    told : (h : ℕ) (d : Data) (x : A) → (object_of fs).read h d ≡ Some x → ((object_of fs).tree x ≡ d) × F h x
    told h d x e =
        let m = bind_some (as_object d) (fs.read h) x e in
        let t = are.tells h m.0 x m.2 in
        (ap object t.0 ∙ object_told d m.0 m.1, t.1)

-- ---- values seen as others

pub mapped_exact : {A B : Type 0} (to : A → B) (from : B → A) → ((a : A) → from (to a) ≡ a) → ((b : B) → to (from b) ≡ b)
    → (F : ℕ → A → Type 0) (f : Form A) → IsExact F f → IsExact (seen_fits from F) (mapped to from f)
mapped_exact {A} {B} to from there back F f one = record { finds = found; tells = told }
  where
    found : (h : ℕ) (x : B) → F h (from x) → option_map to (f.read h (f.tree (from x))) ≡ Some x
    found h x k = rw (one.finds h (from x) k) (ap Some (back x))

    told : (h : ℕ) (d : Data) (x : B) → option_map to (f.read h d) ≡ Some x → (f.tree (from x) ≡ d) × F h (from x)
    told h d x e =
        let a = map_some (f.read h d) to x e in
        let same : a.0 ≡ from x = sym (there a.0) ∙ ap from a.2 in
        subst (λ y. (f.tree y ≡ d) × F h y) same (one.tells h d a.0 a.1)
