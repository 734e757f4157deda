-- Branches that have one key, and the paths of versions there.
use Rattle.std.specs.Prelude.{◌≡◌, ◌⊎◌, ℕ, ◌<◌, ◌≤◌, Bool, true, false, ◌&&◌, ◌==◌, nat_le, List, [], ◌∷◌, Option, Some, None, if◌then◌else◌}

-- how far a part of the data came: a point of a branch, or no branch and timestamp 0 before all writes
pub record Version (B : Type 0) : Type 0 where
  pub branch : Option B
  pub timestamp : ℕ

-- a branch that the log registered and that has the key
pub record Birth (B : Type 0) : Type 0 where
  -- its name
  pub branch : B
  -- the index of the log at which it was registered; 0 for the branch with which the table begins
  pub registered : ℕ
  -- the tenure of the contract under which it was asked for
  pub tenure : ℕ
  -- the node that asked for it, and alone writes it, in one of its lives
  pub maker : ℕ
  pub life : ℕ
  -- its first timestamp
  pub initial : ℕ
  -- the version of the key from which it goes on
  pub origin : Version B

abbrev pub zero_version : {B : Type 0} → Version B
zero_version = record { branch = None; timestamp = 0 }

abbrev pub point : {B : Type 0} → B → ℕ → Version B
point b t = record { branch = Some b; timestamp = t }

-- names are told apart: those that are the same are equal, and each is the same as itself
pub record TellsApart {B : Type 0} (same : B → B → Bool) : Type 0 where
  pub equal : (a b : B) → same a b ≡ true → a ≡ b
  pub itself : (a : B) → same a a ≡ true

abbrev pub is_named : {B : Type 0} → (B → B → Bool) → Option B → B → Bool
is_named same None b = false
is_named same (Some c) b = same c b

abbrev pub has_no_branch : {B : Type 0} → Option B → Bool
has_no_branch None = true
has_no_branch (Some b) = false

abbrev pub is_zero : {B : Type 0} → Version B → Bool
is_zero v = has_no_branch v.branch && (v.timestamp == 0)

-- whether a point is one of a branch's own, from its first timestamp up to that of a version
abbrev pub is_own : {B : Type 0} → (B → B → Bool) → Birth B → Version B → Version B → Bool
is_own same b v x = is_named same x.branch b.branch && (nat_le b.initial x.timestamp && nat_le x.timestamp v.timestamp)

-- whether a point lies on the path of a version, in branches that stand the newest first: the points of the version's
-- branch up to the version, and the path of where that branch starts from; the zero version lies on every path, and
-- alone on that of a version of no known branch
abbrev pub on : {B : Type 0} → (B → B → Bool) → List (Birth B) → Version B → Version B → Bool
on same [] v x = is_zero x
on same (b ∷ bs) v x = if is_named same v.branch b.branch then (if is_own same b v x then true else on same bs b.origin x) else on same bs v x

abbrev pub IsIn : {A : Type 0} → List A → A → Type 0
IsIn [] x = ⊥
IsIn (y ∷ ys) x = (y ≡ x) ⊎ IsIn ys x

-- the branches that were registered up to an index of the log
abbrev pub known : {B : Type 0} → ℕ → List (Birth B) → List (Birth B)
known w [] = []
known w (b ∷ bs) = if nat_le b.registered w then b ∷ bs else known w bs

-- a version is the one before all writes, or of one of some branches
pub record ComesFrom {B : Type 0} (bs : List (Birth B)) (c : B) : Type 0 where
  pub birth : Birth B
  pub is_in : IsIn bs birth
  pub name_is : birth.branch ≡ c

-- a branch is new, was registered after those before it, and goes on from one of them or from nothing
pub record IsNext {B : Type 0} (same : B → B → Bool) (b : Birth B) (bs : List (Birth B)) : Type 0 where
  pub later : (z : Birth B) → IsIn bs z → z.registered < b.registered
  pub fresh : (z : Birth B) → IsIn bs z → same b.branch z.branch ≡ false
  pub origin : (c : B) → b.origin.branch ≡ Some c → ComesFrom bs c

abbrev pub IsHistory : {B : Type 0} → (B → B → Bool) → List (Birth B) → Type 0
IsHistory same [] = Unit {0}
IsHistory same (b ∷ bs) = IsNext same b bs × IsHistory same bs

-- each branch starts from a point of a path, and no later than at its first timestamp
abbrev pub IsTimed : {B : Type 0} → (B → B → Bool) → List (Birth B) → Type 0
IsTimed same [] = Unit {0}
IsTimed same (b ∷ bs) = ((on same bs b.origin b.origin ≡ true) × (b.origin.timestamp ≤ b.initial)) × IsTimed same bs
