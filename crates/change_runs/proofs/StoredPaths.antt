-- The points on a branch up to the timestamp of a version, and what one more point leaves of them.
use Rattle.std.proofs.Common.{◌≡◌, ◌⊎◌, ℕ, ◌+◌, ◌<◌, Bool, true, false, cond, ◌&&◌, nat_le, List, [], ◌∷◌, ◌++◌, filter, Option, Some, None, inl, inr, refl, sym, ap, ◌∙◌, subst, arith, append-nil}
use Rattle.std.proofs.lemmas.Bool.{false_from_ne_true, and_parts, and_right, leb-true, le-leb}
use Rattle.std.specs.List.{AllByRecursion}
use Rattle.log_runs.specs.runs.region_map.declared.id.Id.{Id}
use Rattle.log_runs.specs.runs.region_map.Equal.{id_decides, same_id}
use Rattle.log_runs.specs.runs.branch_history.declared.version.Version.{Version}
use Rattle.log_runs.specs.runs.store_api.declared.Row.{Row}
use Rattle.log_runs.specs.runs.store_api.Versions.{point}
use Rattle.log_runs.specs.runs.Rising.{IsBelow, AreRising}
use Rattle.log_runs.specs.runs.Story.{Point, IsIn, same_key}
use Rattle.log_runs.specs.runs.Stored.{row_after}
use Rattle.log_runs.proofs.step_runs.Begun.{is_branch}
use Rattle.log_runs.proofs.step_runs.PointBranches.{all_at, all_from}
use Rattle.log_runs.proofs.step_runs.Told.{filter-append, IsIn-left, IsIn-right}

-- whether a point is one of the version's branch up to its timestamp
abbrev pub is_up_to : Version → Point → Bool
is_up_to version p = is_branch version.branch p.branch && nat_le p.timestamp version.timestamp

abbrev pub is_keyed_to : List ℕ → Version → Point → Bool
is_keyed_to key version p = same_key p.key key && is_up_to version p

abbrev pub path_at : List Point → List ℕ → Version → List Point
path_at ps key v = filter (is_keyed_to key v) ps

abbrev pub row_at : List Point → List ℕ → Version → Option Row
row_at ps key v = row_after None (path_at ps key v)

-- ---- ids

pub same_id-true : (a b : Id) → same_id a b ≡ true → a ≡ b
same_id-true a b e = (id_decides a b).0 e

pub same_id-self : (a : Id) → same_id a a ≡ true
same_id-self a = (id_decides a a).1 refl

-- ---- versions that were reached

-- a point took the timestamp of the branch
pub record IsTaken (ps : List Point) (branch : Id) (at : ℕ) : Type 0 where
  pub by : Point
  pub is_in : IsIn ps by
  pub branch_is : by.branch ≡ branch
  pub time : by.timestamp ≡ at

abbrev pub IsReachedBy : List Point → Option Id → ℕ → Type 0
IsReachedBy ps None at = at ≡ 0
IsReachedBy ps (Some branch) at = (at ≡ 0) ⊎ IsTaken ps branch at

-- a version stands at timestamp 0 or at a point of its branch
abbrev pub IsReached : List Point → Version → Type 0
IsReached ps v = IsReachedBy ps v.branch v.timestamp

-- at timestamp 0 each version is reached
pub reached_zero : (ps : List Point) (branch : Option Id) (at : ℕ) → at ≡ 0 → IsReachedBy ps branch at
reached_zero ps None at e = e
reached_zero ps (Some branch) at e = inl e

-- ---- one more point, above all of its branch

-- a point lies above all points of its branch
pub record IsAbove (ps : List Point) (q : Point) : Type 0 where
  pub above : (p : Point) → IsIn ps p → p.branch ≡ q.branch → p.timestamp < q.timestamp

-- as the last of rising points does
pub last_above : (ps : List Point) (q : Point) → AreRising (ps ++ q ∷ []) → IsAbove ps q
last_above ps q r = record { above = go ps r }
  where
    go : (xs : List Point) → AreRising (xs ++ q ∷ []) → (p : Point) → IsIn xs p → p.branch ≡ q.branch → p.timestamp < q.timestamp
    go [] r p i same = absurd i
    go (x ∷ xs) r p i same =
        elim i [
          | inl e ↦ subst (λ (z : Point). IsBelow z q) e (all_at (IsBelow x) (xs ++ q ∷ []) r.0 q (IsIn-right xs (q ∷ []) q (inl refl))) same
          | inr j ↦ go xs r.1 p j same
        ]

pub reached-more : (ps more : List Point) (branch : Option Id) (at : ℕ) → IsReachedBy ps branch at → IsReachedBy (ps ++ more) branch at
reached-more ps more None at h = h
reached-more ps more (Some branch) at h =
    elim h [
      | inl e ↦ inl e
      | inr t ↦ inr (record { by = t.by; is_in = IsIn-left ps more t.by t.is_in; branch_is = t.branch_is; time = t.time })
    ]

pub reached_last : (ps : List Point) (q : Point) → IsReached (ps ++ q ∷ []) (point q.branch q.timestamp)
reached_last ps q = inr (record { by = q; is_in = IsIn-right ps (q ∷ []) q (inl refl); branch_is = refl; time = refl })

-- it is above each version that was reached
above : (ps : List Point) (q : Point) (branch : Option Id) (at : ℕ) → IsAbove ps q → 0 < q.timestamp → IsReachedBy ps branch at → (is_branch branch q.branch && nat_le q.timestamp at) ≡ false
above ps q None at new some h = refl
above ps q (Some branch) at new some h =
    false_from_ne_true (same_id branch q.branch && nat_le q.timestamp at) (λ e.
    let both = and_parts (same_id branch q.branch) (nat_le q.timestamp at) e in
    let low = leb-true q.timestamp at both.1 in
    elim h [
      | inl z ↦ omega (arith, low, z, some)
      | inr t ↦
          let up = new.above t.by t.is_in (t.branch_is ∙ same_id-true branch q.branch both.0) in
          let time = t.time in
          omega (arith, low, up, time)
    ])

-- so it is not on the path of one
path_at-more : (ps : List Point) (q : Point) (key : List ℕ) (v : Version) → IsAbove ps q → 0 < q.timestamp → IsReached ps v → path_at (ps ++ q ∷ []) key v ≡ path_at ps key v
path_at-more ps q key v new some h =
    filter-append (is_keyed_to key v) ps (q ∷ [])
    ∙ ap (λ c. path_at ps key v ++ cond c (q ∷ []) []) (and_right (same_key q.key key) (is_up_to v q) (above ps q v.branch v.timestamp new some h))
    ∙ append-nil (path_at ps key v)

-- tests that agree on each member
pub filter-same : {A : Type 0} (P : A → Type 0) (f g : A → Bool) → ((x : A) → P x → f x ≡ g x) → (xs : List A) → AllByRecursion P xs → filter f xs ≡ filter g xs
filter-same P f g same [] h = refl
filter-same P f g same (x ∷ xs) h = λ i. cond (same x h.0 i) (x ∷ filter-same P f g same xs h.1 i) (filter-same P f g same xs h.1 i)

-- where no point has the next timestamp
ends_there : (ps : List Point) (q : Point) (at : ℕ) → IsAbove ps q → q.timestamp ≡ at + 1 → (p : Point) → IsIn ps p
    → (same_id q.branch p.branch && nat_le p.timestamp (at + 1)) ≡ (same_id q.branch p.branch && nat_le p.timestamp at)
ends_there ps q at new next p i =
    elim (same_id q.branch p.branch) as (λ c. same_id q.branch p.branch ≡ c → (c && nat_le p.timestamp (at + 1)) ≡ (c && nat_le p.timestamp at)) [
      | false ↦ λ _. refl
      | true ↦ λ e.
          let low = new.above p i (sym (same_id-true q.branch p.branch e)) in
          le-leb p.timestamp (at + 1) (omega (arith, low, next)) ∙ sym (le-leb p.timestamp at (omega (arith, low, next)))
    ] refl

-- the path of the next version of the branch has the point, where it is one of the key
pub path_at-next : (ps : List Point) (q : Point) (key : List ℕ) (at : ℕ) → IsAbove ps q → q.timestamp ≡ at + 1
    → path_at (ps ++ q ∷ []) key (point q.branch (at + 1)) ≡ path_at ps key (point q.branch at) ++ cond (same_key q.key key) (q ∷ []) []
path_at-next ps q key at new next =
    let v : Version = point q.branch (at + 1) in
    filter-append (is_keyed_to key v) ps (q ∷ [])
    ∙ ap (λ (l : List Point). l ++ filter (is_keyed_to key v) (q ∷ []))
    (filter-same (IsIn ps) (is_keyed_to key v) (is_keyed_to key (point q.branch at)) (λ p i. ap (λ c. same_key p.key key && c) (ends_there ps q at new next p i)) ps (all_from (IsIn ps) ps (λ p i. i)))
    ∙ ap (λ c. path_at ps key (point q.branch at) ++ cond c (q ∷ []) [])
    (here (same_key q.key key) (same_id q.branch q.branch) (nat_le q.timestamp (at + 1)) (same_id-self q.branch) (le-leb q.timestamp (at + 1) (omega (arith, next))))
  where
    here : (c a b : Bool) → a ≡ true → b ≡ true → (c && (a && b)) ≡ c
    here true a b ea eb = ap (λ x. x && b) ea ∙ eb
    here false a b ea eb = refl

-- ---- what a step does to the points of a journal

-- the points after a step: versions that were reached keep their paths, and stay reached
pub record Grows (ps more : List Point) : Type 0 where
  pub paths : (key : List ℕ) (v : Version) → IsReached ps v → path_at more key v ≡ path_at ps key v
  pub reached : (v : Version) → IsReached ps v → IsReached more v

pub grows_same : (ps : List Point) → Grows ps ps
grows_same ps = record { paths = λ key v h. refl; reached = λ v h. h }

pub grows_next : (ps : List Point) (q : Point) → IsAbove ps q → 0 < q.timestamp → Grows ps (ps ++ q ∷ [])
grows_next ps q new some =
    record { paths = λ key v h. path_at-more ps q key v new some h; reached = λ v h. reached-more ps (q ∷ []) v.branch v.timestamp h }
