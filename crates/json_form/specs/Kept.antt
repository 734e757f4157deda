-- Forms of values that pass a test.
use Rattle.std.specs.Prelude.{◌≡◌, ℕ, Bool, true, Some, option_and_then}
use Rattle.std.proofs.Common.{refl, subst}
use Rattle.serde_json.specs.Data.{Data}
use Rattle.json_base.specs.Forms.{Form, IsExact, kept_if, some_same, kept_some}
use Rattle.json_base.specs.Objects.{bind_some}

abbrev pub kept : {A : Type 0} → (ℕ → A → Bool) → Form A → Form A
kept test f = record { tree = f.tree; read = λ h d. option_and_then (λ x. kept_if (test h x) x) (f.read h d) }

abbrev pub kept_fits : {A : Type 0} → (ℕ → A → Bool) → (ℕ → A → Type 0) → ℕ → A → Type 0
kept_fits test F h x = F h x × (test h x ≡ true)

pub kept_exact : {A : Type 0} (test : ℕ → A → Bool) (F : ℕ → A → Type 0) (f : Form A) → IsExact F f → IsExact (kept_fits test F) (kept test f)
kept_exact {A} test F f one = record { finds = found; tells = told }
  where
    found : (h : ℕ) (x : A) → kept_fits test F h x → (kept test f).read h (f.tree x) ≡ Some x
    found h x k = rw (one.finds h x k.0, k.1) refl

    told : (h : ℕ) (d : Data) (x : A) → (kept test f).read h d ≡ Some x → (f.tree x ≡ d) × kept_fits test F h x
    told h d x e =
        let a = bind_some (f.read h d) _ x e in
        let k = kept_some (test h) a.0 x a.2 in
        let t = one.tells h d a.0 a.1 in
        let u = subst (λ y. (f.tree y ≡ d) × F h y) (some_same a.0 x k.0) t in
        (u.0, (u.1, k.1))
