-- The executions of a node, and what it asks for, by their branches: no branch stands there twice.
use Rattle.std.proofs.Common.{◌≡◌, ℕ, ◌≤◌, List, [], ◌∷◌, map, inl, inr, sym, ap, ◌∙◌, subst, arith}
use Rattle.std.specs.List.{AllByRecursion}
use Rattle.path_runs.specs.runs.region_map.declared.id.Id.{Id}
use Rattle.path_runs.specs.runs.primary_exec.declared.asking.Asking.{Asking}
use Rattle.path_runs.specs.runs.primary_exec.Execution.{Execution}
use Rattle.path_runs.specs.runs.Story.{IsIn}
use Rattle.path_runs.proofs.step_runs.PointBranches.{all_at, times, times_same, Head, head_of, heads_of, branches, asked_of}

pub mapped_in : {X Y : Type 0} (f : X → Y) (xs : List X) (x : X) → IsIn xs x → IsIn (map f xs) (f x)
mapped_in f [] x i = absurd i
mapped_in f (y ∷ ys) x i = elim i [ inl e ↦ inl (ap f e) | inr j ↦ inr (mapped_in f ys x j) ]

pub head_at : (P : Head → Type 0) (xs : List Execution) (x : Execution) → AllByRecursion P (heads_of xs) → IsIn xs x → P (head_of x)
head_at P xs x h i = all_at P (heads_of xs) h (head_of x) (mapped_in head_of xs x i)

pub asked_at : (P : Id → Type 0) (waits : List Asking) (a : Asking) → AllByRecursion P (asked_of waits) → IsIn waits a → P a.branch
asked_at P waits a h i = all_at P (asked_of waits) h a.branch (mapped_in (λ (x : Asking). x.branch) waits a i)

counted_in : (bs : List Id) (b : Id) → IsIn bs b → 1 ≤ times bs b
counted_in [] b i = absurd i
counted_in (c ∷ bs) b i =
    elim i [
      | inl e ↦ let one = times_same c b (times bs b) e in omega (arith, one)
      | inr j ↦ let rest = counted_in bs b j in omega (arith, rest)
    ]

pub counted : (xs : List Execution) (x : Execution) → IsIn xs x → 1 ≤ times (branches (heads_of xs)) x.branch
counted xs x i = counted_in (branches (heads_of xs)) x.branch (mapped_in (λ (h : Head). h.branch) (heads_of xs) (head_of x) (mapped_in head_of xs x i))

pub asked_counted : (waits : List Asking) (a : Asking) → IsIn waits a → 1 ≤ times (asked_of waits) a.branch
asked_counted waits a i = counted_in (asked_of waits) a.branch (mapped_in (λ (x : Asking). x.branch) waits a i)

-- two executions of one branch are the same
pub one_execution : (xs : List Execution) (b : Id) → times (branches (heads_of xs)) b ≤ 1 → (x y : Execution) → IsIn xs x → IsIn xs y → x.branch ≡ b → y.branch ≡ b → x ≡ y
one_execution [] b few x y i j p q = absurd i
one_execution (z ∷ zs) b few x y i j p q =
    let rest : ℕ = times (branches (heads_of zs)) b in
    let among : (w : Execution) → IsIn zs w → w.branch ≡ b → 1 ≤ rest = λ w k e. subst (λ (c : Id). 1 ≤ times (branches (heads_of zs)) c) e (counted zs w k) in
    let first : z.branch ≡ b → (w : Execution) → IsIn zs w → w.branch ≡ b → ⊥ = λ e w k f.
    let one = times_same z.branch b rest e in
    let some = among w k f in
    omega (arith, one, some, few) in
    elim i [
      | inl e ↦ elim j [
        | inl f ↦ sym e ∙ f
        | inr l ↦ absurd (first (ap (λ (w : Execution). w.branch) e ∙ p) y l q)
      ]
      | inr k ↦ elim j [
        | inl f ↦ absurd (first (ap (λ (w : Execution). w.branch) f ∙ q) x k p)
        | inr l ↦ one_execution zs b (omega (arith, few)) x y k l p q
      ]
    ]
