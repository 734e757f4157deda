-- Forms: what the JSON tree of a value is, and what a tree is read as.
use Rattle.std.specs.Prelude.{◌≡◌, ℕ, ⊤, Bool, true, false, List, bytes_eq, Option, Some, None, option_map, option_and_then, if◌then◌else◌}
use Rattle.std.proofs.Common.{refl, subst}
use Rattle.serde_json.specs.Data.{Data, object, Members, no_members, member}
use Rattle.serde_json.specs.Find.{as_object}

infixl 10 ◌>>=◌
abbrev pub ◌>>=◌ : {A B : Type 0} → Option A → (A → Option B) → Option B
o >>= f = option_and_then f o

pub some_same : {A : Type 0} (a b : A) → Some a ≡ Some b → a ≡ b
some_same a b e = cc

-- what passes a test
abbrev pub kept_if : {A : Type 0} → Bool → A → Option A
kept_if test a = if test then Some a else None

pub kept_some : {A : Type 0} (test : A → Bool) (a b : A) → kept_if (test a) a ≡ Some b → (Some a ≡ Some b) × (test b ≡ true)
kept_some {A} test a b e = from (test a) refl e
  where
    from : (c : Bool) → test a ≡ c → kept_if c a ≡ Some b → (Some a ≡ Some b) × (test b ≡ true)
    from true t e = (e, subst (λ x. test x ≡ true) (some_same a b e) t)
    from false t e = absurd (cc)

-- the tree of each value, and what a tree is read as where maps have so many hashes
pub record Form (A : Type 0) : Type 0 where
  pub tree : A → Data
  pub read : ℕ → Data → Option A

-- each value that fits is read from its tree, and no other tree is read as a value, nor as one that does not fit
pub record IsExact {A : Type 0} (fits : ℕ → A → Type 0) (f : Form A) : Type 0 where
  pub finds : (h : ℕ) (x : A) → fits h x → f.read h (f.tree x) ≡ Some x
  pub tells : (h : ℕ) (d : Data) (x : A) → f.read h d ≡ Some x → (f.tree x ≡ d) × fits h x

-- the same of a type whose values are seen as others
abbrev pub mapped : {A B : Type 0} → (A → B) → (B → A) → Form A → Form B
mapped to from f = record { tree = λ b. f.tree (from b); read = λ h d. option_map to (f.read h d) }

-- ---- objects

-- the members of an object, in byte order of their names
pub record Fields (A : Type 0) : Type 0 where
  pub tree : A → Members
  pub read : ℕ → Members → Option A

abbrev pub read_end : Members → Option ⊤
read_end no_members = Some tt
read_end (member m d ms) = None

abbrev pub no_fields : Fields ⊤
no_fields = record { tree = λ _. no_members; read = λ h ms. read_end ms }

-- the value of the first member, if that has this name
abbrev pub first_named : List ℕ → Members → Option Data
first_named name no_members = None
first_named name (member m d ms) = if bytes_eq m name then Some d else None

abbrev pub others : Members → Members
others no_members = no_members
others (member m d ms) = ms

-- the first member, which has this name, as this form reads it
abbrev pub read_first : {A : Type 0} → List ℕ → Form A → ℕ → Members → Option A
read_first name f h ms = option_and_then (f.read h) (first_named name ms)

-- one more member, before these
abbrev pub field : {A B : Type 0} → List ℕ → Form A → Fields B → Fields (A × B)
field name f fs = record {
  tree = λ x. member name (f.tree x.0) (fs.tree x.1);
  read = λ h ms. do
    a ← read_first name f h ms
    b ← fs.read h (others ms)
    Some (a, b);
}

abbrev pub object_of : {A : Type 0} → Fields A → Form A
object_of fs = record { tree = λ x. object (fs.tree x); read = λ h d. option_and_then (fs.read h) (as_object d) }
