-- Paths of a history at a pair, and of the pair's branches.
use Rattle.std.proofs.Common.{◌≡◌, ℕ, ◌<◌, ◌≤◌, ◌++◌, true, false, cond, ◌&&◌, ◌==◌, nat_le, List, [], ◌∷◌, Option, Some, None, inl, inr, refl, sym, ap, ◌∙◌, subst}
use Rattle.std.proofs.lemmas.Bool.{cases_Bool, both_ways, le-leb, lt-leb, false_from_ne_true}
use Rattle.region_map.specs.declared.id.Id.{Id}
use Rattle.region_map.specs.Regions.{in_region}
use Rattle.region_map.specs.Equal.{same_id}
use Rattle.branch_history.specs.declared.version.Version.{Version as Stored}
use Rattle.branch_history.specs.declared.history.BranchBirth.{BranchBirth}
use Rattle.branch_history.specs.Paths.{Branches, branch_is, is_branch, no_branch, origin_at, is_on}
use Rattle.branch_history.specs.Paths as stored
use Rattle.branch_history.specs.Histories.{knows, IsHistory, IsInTime}
use Rattle.branch_history.proofs.PathLaws.{id_same, id_self, other_is, inside_is, outside_is}
use Rattle.path_facts.specs.Paths.{Version, Birth, TellsApart, is_named, has_no_branch, is_zero, on, IsIn, ComesFrom}
use Rattle.path_facts.specs.Paths as key
use Rattle.path_facts.proofs.Paths as paths
use Rattle.key_births.specs.Births.{key_version, birth_at, births_at, IsRising, GoOn}

pub names : TellsApart same_id
names = record { equal = λ a b e. id_same a b e; itself = λ a. id_self a }

named : (o : Option Id) (id : Id) → branch_is o id ≡ is_named same_id o id
named None id = refl
named (Some b) id = refl

nameless : (o : Option Id) → no_branch o ≡ has_no_branch o
nameless None = refl
nameless (Some b) = refl

zeros : (x : Stored) → stored.is_zero x ≡ is_zero (key_version x)
zeros x = ap (λ c. c && (x.timestamp == 0)) (nameless x.branch)

-- a branch of the pair is known
pub births_known : (index : Id → ℕ) (bs : Branches) (h : ℕ) (k : List ℕ) (z : Birth Id) → IsIn (births_at index bs h k) z → knows bs z.branch ≡ true
births_known index [] h k z i = absurd i
births_known index (b ∷ bs) h k z i =
    let later : IsIn (births_at index bs h k) z → cond (same_id b.0 z.branch) true (knows bs z.branch) ≡ true =
    λ j. ap (cond (same_id b.0 z.branch) true) (births_known index bs h k z j) ∙ elim (same_id b.0 z.branch) as (λ c. cond c true true ≡ true) [ true ↦ refl | false ↦ refl ] in
    elim (cases_Bool (in_region b.1.region h k)) [
      | inr out ↦ later (subst (λ c. IsIn (cond c (birth_at index b h k ∷ births_at index bs h k) (births_at index bs h k)) z) out i)
      | inl here ↦ elim (subst (λ c. IsIn (cond c (birth_at index b h k ∷ births_at index bs h k) (births_at index bs h k)) z) here i) [
        | inl e ↦ ap (λ c. cond c true (knows bs z.branch)) (subst (λ (y : Birth Id). same_id b.0 y.branch ≡ true) e (id_self b.0))
        | inr j ↦ later j
      ]
    ]

pub births_index : (index : Id → ℕ) (bs : Branches) (h : ℕ) (k : List ℕ) (z : Birth Id) → IsIn (births_at index bs h k) z → z.registered ≡ index z.branch
births_index index [] h k z i = absurd i
births_index index (b ∷ bs) h k z i =
    elim (cases_Bool (in_region b.1.region h k)) [
      | inr out ↦ births_index index bs h k z (subst (λ c. IsIn (cond c (birth_at index b h k ∷ births_at index bs h k) (births_at index bs h k)) z) out i)
      | inl here ↦ elim (subst (λ c. IsIn (cond c (birth_at index b h k ∷ births_at index bs h k) (births_at index bs h k)) z) here i) [
        | inl e ↦ subst (λ (y : Birth Id). y.registered ≡ index y.branch) e refl
        | inr j ↦ births_index index bs h k z j
      ]
    ]

-- a new branch is none of the pair's
new_name : (index : Id → ℕ) (b : Id × BranchBirth) (bs : Branches) (h : ℕ) (k : List ℕ) → knows bs b.0 ≡ false → (z : Birth Id) → IsIn (births_at index bs h k) z → same_id b.0 z.branch ≡ false
new_name index b bs h k fresh z i =
    false_from_ne_true (same_id b.0 z.branch) (λ e. both_ways _ fresh (subst (λ (c : Id). knows bs c ≡ true) (sym (id_same b.0 z.branch e)) (births_known index bs h k z i)))

pub paths_at : (index : Id → ℕ) (bs : Branches) (h : ℕ) (k : List ℕ) (v x : Stored) → IsHistory bs → is_on bs h k v x ≡ on same_id (births_at index bs h k) (key_version v) (key_version x)
paths_at index [] h k v x i = zeros x
paths_at index (b ∷ bs) h k v x i =
    let rest = births_at index bs h k in
    let here : Birth Id = birth_at index b h k in
    elim (cases_Bool (in_region b.1.region h k)) [
      | inl in_it ↦
          subst (λ c. is_on (b ∷ bs) h k v x ≡ on same_id (cond c (here ∷ rest) rest) (key_version v) (key_version x)) (sym in_it)
          (elim (cases_Bool (is_branch v b.0)) [
            | inl own ↦
                inside_is b bs h k v x own in_it
                ∙ ap (λ c. cond (c && (nat_le b.1.initial x.timestamp && nat_le x.timestamp v.timestamp)) true (is_on bs h k (origin_at b.1 h k) x)) (named x.branch b.0)
                ∙ ap (cond (key.is_own same_id here (key_version v) (key_version x)) true) (paths_at index bs h k (origin_at b.1 h k) x i.3)
                ∙ sym (paths.inside_is same_id names here rest (key_version v) (key_version x) (sym (named v.branch b.0) ∙ own))
            | inr other ↦
                other_is b bs h k v x other
                ∙ paths_at index bs h k v x i.3
                ∙ sym (paths.other_is same_id names here rest (key_version v) (key_version x) (sym (named v.branch b.0) ∙ other))
          ])
      | inr out ↦
          subst (λ c. is_on (b ∷ bs) h k v x ≡ on same_id (cond c (here ∷ rest) rest) (key_version v) (key_version x)) (sym out)
          (elim (cases_Bool (is_branch v b.0)) [
            | inl own ↦
                let name : v.branch ≡ Some b.0 = paths.named_is same_id names v.branch b.0 (sym (named v.branch b.0) ∙ own) in
                outside_is b bs h k v x own out
                ∙ zeros x
                ∙ sym (paths.unknown_on same_id names rest (key_version v) (key_version x)
                (λ z j. subst (λ (o : Option Id). is_named same_id o z.branch ≡ false) (sym name) (new_name index b bs h k i.0 z j)))
            | inr other ↦ other_is b bs h k v x other ∙ paths_at index bs h k v x i.3
          ])
    ]

pub history_at : (index : Id → ℕ) (bs : Branches) (h : ℕ) (k : List ℕ) → IsHistory bs → GoOn bs h k → IsRising index bs h k → key.IsHistory same_id (births_at index bs h k)
history_at index [] h k i t u = tt
history_at index (b ∷ bs) h k i t u =
    let rest = births_at index bs h k in
    let here : Birth Id = birth_at index b h k in
    let below = history_at index bs h k i.3 t.1 u.1 in
    elim (cases_Bool (in_region b.1.region h k)) [
      | inr out ↦ subst (λ c. key.IsHistory same_id (cond c (here ∷ rest) rest)) (sym out) below
      | inl in_it ↦
          let on_it : on same_id rest here.origin here.origin ≡ true = sym (paths_at index bs h k (origin_at b.1 h k) (origin_at b.1 h k) i.3) ∙ t.0 in_it in
          subst (λ c. key.IsHistory same_id (cond c (here ∷ rest) rest)) (sym in_it) (
            record {
              later = u.0 in_it;
              fresh = λ z j. new_name index b bs h k i.0 z j;
              origin = λ c e. paths.known_on same_id names rest here.origin here.origin on_it c e;
            },
            below,
          )
    ]

pub timed_at : (index : Id → ℕ) (bs : Branches) (h : ℕ) (k : List ℕ) → IsHistory bs → IsInTime bs h k → key.IsTimed same_id (births_at index bs h k)
timed_at index [] h k i t = tt
timed_at index (b ∷ bs) h k i t =
    let rest = births_at index bs h k in
    let here : Birth Id = birth_at index b h k in
    let below = timed_at index bs h k i.3 t.1 in
    elim (cases_Bool (in_region b.1.region h k)) [
      | inr out ↦ subst (λ c. key.IsTimed same_id (cond c (here ∷ rest) rest)) (sym out) below
      | inl in_it ↦
          let starts = t.0 in_it in
          let on_it : on same_id rest here.origin here.origin ≡ true = sym (paths_at index bs h k (origin_at b.1 h k) (origin_at b.1 h k) i.3) ∙ starts.on in
          subst (λ c. key.IsTimed same_id (cond c (here ∷ rest) rest)) (sym in_it) ((on_it, starts.before), below)
    ]

-- ---- up to an index

known_all : (w : ℕ) (ys : List (Birth Id)) → ((z : Birth Id) → IsIn ys z → z.registered ≤ w) → key.known w ys ≡ ys
known_all w [] l = refl
known_all w (y ∷ ys) l = ap (λ c. cond c (y ∷ ys) (key.known w ys)) (le-leb y.registered w (l y (inl refl)))

-- the branches of the pair up to an index are those of the history up to it
pub known_at : (index : Id → ℕ) (w : ℕ) (newer bs : Branches) (h : ℕ) (k : List ℕ) → ((id : Id) → knows newer id ≡ true → w < index id) → ((id : Id) → knows bs id ≡ true → index id ≤ w)
    → key.known w (births_at index (newer ++ bs) h k) ≡ births_at index bs h k
known_at index w [] bs h k n o =
    known_all w (births_at index bs h k)
    (λ z i. subst (λ m. m ≤ w) (sym (births_index index bs h k z i)) (o z.branch (births_known index bs h k z i)))
known_at index w (b ∷ newer) bs h k n o =
    let rest = births_at index (newer ++ bs) h k in
    let here : Birth Id = birth_at index b h k in
    let after : w < index b.0 = n b.0 (ap (λ c. cond c true (knows newer b.0)) (id_self b.0)) in
    let below = known_at index w newer bs h k
    (λ id e. n id (ap (cond (same_id b.0 id) true) e ∙ elim (same_id b.0 id) as (λ c. cond c true true ≡ true) [ true ↦ refl | false ↦ refl ])) o in
    elim (cases_Bool (in_region b.1.region h k)) [
      | inr out ↦ ap (λ c. key.known w (cond c (here ∷ rest) rest)) out ∙ below
      | inl in_it ↦ ap (λ c. key.known w (cond c (here ∷ rest) rest)) in_it ∙ ap (λ c. cond c (here ∷ rest) (key.known w rest)) (lt-leb (index b.0) w after) ∙ below
    ]
