-- Variants: one without fields is its name, as a string; one with fields is an object with that one name.
use Rattle.std.specs.Prelude.{◌≡◌, ℕ, ⊤, Bool, true, false, ◌||◌, List, [], ◌∷◌, bytes_eq, Option, Some, None, option_map, option_and_then, if◌then◌else◌}
use Rattle.std.specs.List.{list_any}
use Rattle.std.proofs.Common.{◌⊎◌, inl, inr, refl, sym, ap, ap₂, ◌∙◌, subst}
use Rattle.std.proofs.lemmas.Slice.Eq.{bytes_eq-Decides}
use Rattle.serde_json.specs.Data.{Data, null, boolean, number, string, array, object, no_members, member}
use Rattle.serde_json.specs.Find.{as_object, as_str}
use Rattle.json_base.specs.Forms.{Form, IsExact, ◌>>=◌, read_end, first_named, others, some_same}
use Rattle.json_base.specs.Objects.{nothing_fits, bind_some, map_some, same_name, first_told, end_told, object_told}

abbrev pub is_text : List ℕ → Option (List ℕ) → Bool
is_text name None = false
is_text name (Some s) = bytes_eq s name

-- whether this is the string of a name
abbrev pub is_word : List ℕ → Data → Bool
is_word name d = is_text name (as_str d)

-- what stands under a name that is the only one
abbrev pub payload : List ℕ → Data → Option Data
payload name d = do
  ms ← as_object d
  e ← first_named name ms
  option_map (λ _. e) (read_end (others ms))

-- a name alone
abbrev pub last_word : List ℕ → Form ⊤
last_word name = record { tree = λ x. string name; read = λ h d. if is_word name d then Some tt else None }

-- a variant without fields, before others
abbrev pub word_tree : {B : Type 0} → List ℕ → Form B → ⊤ ⊎ B → Data
word_tree name g (inl x) = string name
word_tree name g (inr b) = g.tree b

abbrev pub read_word : {B : Type 0} → Bool → Option B → Option (⊤ ⊎ B)
read_word true o = Some (inl tt)
read_word false o = option_map inr o

abbrev pub word : {B : Type 0} → List ℕ → Form B → Form (⊤ ⊎ B)
word name g = record { tree = word_tree name g; read = λ h d. read_word (is_word name d) (g.read h d) }

-- a variant with fields, the last one
abbrev pub last_variant : {A : Type 0} → List ℕ → Form A → Form A
last_variant name f = record { tree = λ a. object (member name (f.tree a) no_members); read = λ h d. option_and_then (f.read h) (payload name d) }

-- the same before others
abbrev pub variant_tree : {A B : Type 0} → List ℕ → Form A → Form B → A ⊎ B → Data
variant_tree name f g (inl a) = object (member name (f.tree a) no_members)
variant_tree name f g (inr b) = g.tree b

abbrev pub read_variant : {A B : Type 0} → Option Data → (Data → Option A) → Option B → Option (A ⊎ B)
read_variant (Some d) f o = option_map inl (f d)
read_variant None f o = option_map inr o

abbrev pub variant : {A B : Type 0} → List ℕ → Form A → Form B → Form (A ⊎ B)
variant name f g = record { tree = variant_tree name f g; read = λ h d. read_variant (payload name d) (f.read h) (g.read h d) }

abbrev pub either_fits : {A B : Type 0} → (ℕ → A → Type 0) → (ℕ → B → Type 0) → ℕ → A ⊎ B → Type 0
either_fits F G h (inl a) = F h a
either_fits F G h (inr b) = G h b

-- ---- each of these is exact where the names differ

-- whether a tree is that of a variant with this name
abbrev pub is_named : Data → List ℕ → Bool
is_named null name = false
is_named (boolean b) name = false
is_named (number n) name = false
is_named (string s) name = bytes_eq s name
is_named (array ds) name = false
is_named (object no_members) name = false
is_named (object (member m d ms)) name = bytes_eq m name

-- an exact form whose trees have one of these names
pub record IsChoice {A : Type 0} (names : List (List ℕ)) (fits : ℕ → A → Type 0) (f : Form A) : Type 0 where
  pub exact : IsExact fits f
  pub named : (x : A) → list_any (is_named (f.tree x)) names ≡ true

-- whether a name is one of these
abbrev pub is_taken : List ℕ → List (List ℕ) → Bool
is_taken name names = list_any (λ other. bytes_eq name other) names

or_true : (a b : Bool) → a ≡ true → (a || b) ≡ true
or_true true b e = refl
or_true false b e = absurd (cc)

or_later : (a b : Bool) → b ≡ true → (a || b) ≡ true
or_later true b e = refl
or_later false b e = e

false_true : false ≡ true → ⊥
false_true e = absurd (cc)

-- a tree has no name but its own
other_name : (d : Data) (name other : List ℕ) → is_named d name ≡ true → is_named d other ≡ true → name ≡ other
other_name null name other e f = absurd (false_true e)
other_name (boolean b) name other e f = absurd (false_true e)
other_name (number n) name other e f = absurd (false_true e)
other_name (string s) name other e f = sym ((bytes_eq-Decides s name).0 e) ∙ (bytes_eq-Decides s other).0 f
other_name (array ds) name other e f = absurd (false_true e)
other_name (object no_members) name other e f = absurd (false_true e)
other_name (object (member m d ms)) name other e f = sym ((bytes_eq-Decides m name).0 e) ∙ (bytes_eq-Decides m other).0 f

either_true : (a b c d : Bool) → (a ≡ true → c ≡ true) → (b ≡ true → d ≡ true) → (a || b) ≡ true → (c || d) ≡ true
either_true true b c d f g e = or_true c d (f refl)
either_true false b c d f g e = or_later c d (g e)

taken : (d : Data) (name : List ℕ) (names : List (List ℕ)) → is_named d name ≡ true → list_any (is_named d) names ≡ true → is_taken name names ≡ true
taken d name [] e f = f
taken d name (other ∷ names) e f =
    either_true (is_named d other) (list_any (is_named d) names) (bytes_eq name other) (is_taken name names)
    (λ q. (bytes_eq-Decides name other).1 (other_name d name other e q)) (λ q. taken d name names e q) f

true_false : {b : Bool} → b ≡ true → b ≡ false → ⊥
true_false {b} e f = false_true (sym f ∙ e)

not_true : (b : Bool) → (b ≡ true → ⊥) → b ≡ false
not_true true n = absurd (n refl)
not_true false n = refl

apart : (d : Data) (name : List ℕ) (names : List (List ℕ)) → is_taken name names ≡ false → list_any (is_named d) names ≡ true → is_named d name ≡ false
apart d name names n e = not_true (is_named d name) (λ q. true_false (taken d name names q e) n)

not_word : (d : Data) (name : List ℕ) → is_named d name ≡ false → is_word name d ≡ false
not_word null name e = refl
not_word (boolean b) name e = refl
not_word (number n) name e = refl
not_word (string s) name e = e
not_word (array ds) name e = refl
not_word (object ms) name e = refl

no_payload : (d : Data) (name : List ℕ) → is_named d name ≡ false → payload name d ≡ None
no_payload null name e = refl
no_payload (boolean b) name e = refl
no_payload (number n) name e = refl
no_payload (string s) name e = refl
no_payload (array ds) name e = refl
no_payload (object no_members) name e = refl
no_payload (object (member m d ms)) name e = rw e refl

word_told : (d : Data) (name : List ℕ) → is_word name d ≡ true → string name ≡ d
word_told null name e = absurd (false_true e)
word_told (boolean b) name e = absurd (false_true e)
word_told (number n) name e = absurd (false_true e)
word_told (string s) name e = ap string (sym ((bytes_eq-Decides s name).0 e))
word_told (array ds) name e = absurd (false_true e)
word_told (object ms) name e = absurd (false_true e)

payload_told : (d : Data) (name : List ℕ) (e : Data) → payload name d ≡ Some e → object (member name e no_members) ≡ d
payload_told d name e q =
    let m = bind_some (as_object d) _ e q in
    let c = bind_some (first_named name m.0) _ e m.2 in
    let l = map_some (read_end (others m.0)) (λ _. c.0) e c.2 in
    let rest : no_members ≡ others m.0 = end_told (others m.0) l.0 l.1 in
    ap object (ap₂ (λ x ms. member name x ms) (sym l.2) rest ∙ first_told name m.0 c.0 c.1) ∙ object_told d m.0 m.1

pub last_word_choice : (name : List ℕ) → IsChoice (name ∷ []) nothing_fits (last_word name)
last_word_choice name = record {
  exact = record { finds = λ h x k. rw (same_name name) refl; tells = λ h d x e. told d x (is_word name d) refl e };
  named = λ x. or_true (bytes_eq name name) false (same_name name);
}
  where
    told : (d : Data) (x : ⊤) (t : Bool) → is_word name d ≡ t → (if t then Some tt else None) ≡ Some x → (string name ≡ d) × ⊤
    told d x true q e = (word_told d name q, tt)
    told d x false q e = absurd (cc)

pub word_choice : {B : Type 0} (name : List ℕ) (names : List (List ℕ)) (G : ℕ → B → Type 0) (g : Form B) → is_taken name names ≡ false → IsChoice names G g
    → IsChoice (name ∷ names) (either_fits nothing_fits G) (word name g)
word_choice {B} name names G g free more = record { exact = record { finds = found; tells = λ h d x e. told h d x (is_word name d) refl e }; named = tagged }
  where
    found : (h : ℕ) (x : ⊤ ⊎ B) → either_fits nothing_fits G h x → (word name g).read h ((word name g).tree x) ≡ Some x
    found h (inl x) k = rw (same_name name) refl
    found h (inr b) k = rw (not_word (g.tree b) name (apart (g.tree b) name names free (more.named b)), more.exact.finds h b k) refl

    told : (h : ℕ) (d : Data) (x : ⊤ ⊎ B) (t : Bool) → is_word name d ≡ t → read_word t (g.read h d) ≡ Some x → (word_tree name g x ≡ d) × either_fits nothing_fits G h x
    told h d x true q e = subst (λ y. (word_tree name g y ≡ d) × either_fits nothing_fits G h y) (some_same (inl tt) x e) (word_told d name q, tt)
    told h d x false q e =
        let b = map_some (g.read h d) inr x e in
        subst (λ y. (word_tree name g y ≡ d) × either_fits nothing_fits G h y) b.2 (more.exact.tells h d b.0 b.1)

    tagged : (x : ⊤ ⊎ B) → list_any (is_named (word_tree name g x)) (name ∷ names) ≡ true
    tagged (inl x) = or_true (bytes_eq name name) _ (same_name name)
    tagged (inr b) = or_later (is_named (g.tree b) name) _ (more.named b)

pub last_variant_choice : {A : Type 0} (name : List ℕ) (F : ℕ → A → Type 0) (f : Form A) → IsExact F f → IsChoice (name ∷ []) F (last_variant name f)
last_variant_choice {A} name F f one = record {
  exact = record { finds = λ h x k. rw (same_name name) (one.finds h x k); tells = told };
  named = λ x. or_true (bytes_eq name name) false (same_name name);
}
  where
    told : (h : ℕ) (d : Data) (x : A) → (last_variant name f).read h d ≡ Some x → ((last_variant name f).tree x ≡ d) × F h x
    told h d x e =
        let p = bind_some (payload name d) (f.read h) x e in
        let t = one.tells h p.0 x p.2 in
        (ap (λ c. object (member name c no_members)) t.0 ∙ payload_told d name p.0 p.1, t.1)

pub variant_choice : {A B : Type 0} (name : List ℕ) (names : List (List ℕ)) (F : ℕ → A → Type 0) (f : Form A) (G : ℕ → B → Type 0) (g : Form B)
    → is_taken name names ≡ false → IsExact F f → IsChoice names G g → IsChoice (name ∷ names) (either_fits F G) (variant name f g)
variant_choice {A} {B} name names F f G g free one more = record { exact = record { finds = found; tells = λ h d x e. told h d x (payload name d) refl e }; named = tagged }
  where
    found : (h : ℕ) (x : A ⊎ B) → either_fits F G h x → (variant name f g).read h ((variant name f g).tree x) ≡ Some x
    found h (inl a) k = rw (same_name name, one.finds h a k) refl
    found h (inr b) k = rw (no_payload (g.tree b) name (apart (g.tree b) name names free (more.named b)), more.exact.finds h b k) refl

    told : (h : ℕ) (d : Data) (x : A ⊎ B) (o : Option Data) → payload name d ≡ o → read_variant o (f.read h) (g.read h d) ≡ Some x → (variant_tree name f g x ≡ d) × either_fits F G h x
    told h d x (Some c) q e =
        let a = map_some (f.read h c) inl x e in
        let t = one.tells h c a.0 a.1 in
        subst (λ y. (variant_tree name f g y ≡ d) × either_fits F G h y) a.2 (ap (λ u. object (member name u no_members)) t.0 ∙ payload_told d name c q, t.1)
    told h d x None q e =
        let b = map_some (g.read h d) inr x e in
        subst (λ y. (variant_tree name f g y ≡ d) × either_fits F G h y) b.2 (more.exact.tells h d b.0 b.1)

    tagged : (x : A ⊎ B) → list_any (is_named (variant_tree name f g x)) (name ∷ names) ≡ true
    tagged (inl a) = or_true (bytes_eq name name) _ (same_name name)
    tagged (inr b) = or_later (is_named (g.tree b) name) _ (more.named b)
