-- Reads whose timestamps rise.
use Rattle.std.proofs.Common.{◌≡◌, ℕ, ◌<◌, ◌≤◌, true, false, cond, nat_lt, List, [], ◌∷◌, ◌++◌, None, refl, ap, arith}
use Rattle.std.proofs.lemmas.Bool.{and_parts, and_from, or_parts, ltb-true, lt-ltb, le-leb}
use Rattle.register_laws.specs.declared.operation.OpId.{OpId}
use Rattle.majority_read.specs.declared.waiting_read.WaitingRead.{WaitingRead}
use Rattle.majority_read.specs.Reads.{all_below, all_above, all_from, is_rising, behind_upto, is_read_of, has_read_of, sync_of, without_read_of}

all_above-push : (at : ℕ) (rs : List WaitingRead) (r : WaitingRead) → all_above at rs ≡ true → nat_lt at r.at ≡ true → all_above at (rs ++ r ∷ []) ≡ true
all_above-push at [] r h k = and_from _ _ k refl
all_above-push at (q ∷ qs) r h k = let parts = and_parts (nat_lt at q.at) (all_above at qs) h in and_from _ _ parts.0 (all_above-push at qs r parts.1 k)

pub is_rising-push : (rs : List WaitingRead) (r : WaitingRead) → is_rising rs ≡ true → all_below r.at rs ≡ true → is_rising (rs ++ r ∷ []) ≡ true
is_rising-push [] r h k = refl
is_rising-push (q ∷ qs) r h k =
    let parts = and_parts (all_above q.at qs) (is_rising qs) h in
    let below = and_parts (nat_lt q.at r.at) (all_below r.at qs) k in
    and_from _ _ (all_above-push q.at qs r parts.0 below.0) (is_rising-push qs r parts.1 below.1)

all_above-without : (at : ℕ) (op : OpId) (rs : List WaitingRead) → all_above at rs ≡ true → all_above at (without_read_of op rs) ≡ true
all_above-without at op [] h = refl
all_above-without at op (q ∷ qs) h =
    let parts = and_parts (nat_lt at q.at) (all_above at qs) h in
    elim (is_read_of op q) as (λ c. all_above at (cond c qs (q ∷ without_read_of op qs)) ≡ true) [ true ↦ parts.1 | false ↦ and_from _ _ parts.0 (all_above-without at op qs parts.1) ]

pub is_rising-without : (op : OpId) (rs : List WaitingRead) → is_rising rs ≡ true → is_rising (without_read_of op rs) ≡ true
is_rising-without op [] h = refl
is_rising-without op (q ∷ qs) h =
    let parts = and_parts (all_above q.at qs) (is_rising qs) h in
    elim (is_read_of op q) as (λ c. is_rising (cond c qs (q ∷ without_read_of op qs)) ≡ true) [ true ↦ parts.1 | false ↦ and_from _ _ (all_above-without q.at op qs parts.0) (is_rising-without op qs parts.1) ]

all_above-lower : (low high : ℕ) (rs : List WaitingRead) → low ≤ high → all_above high rs ≡ true → all_above low rs ≡ true
all_above-lower low high [] l h = refl
all_above-lower low high (q ∷ qs) l h =
    let parts = and_parts (nat_lt high q.at) (all_above high qs) h in
    let above : high < q.at = ltb-true high q.at parts.0 in
    and_from _ _ (lt-ltb low q.at (omega arith)) (all_above-lower low high qs l parts.1)

all_from-above : (at : ℕ) (rs : List WaitingRead) → all_above at rs ≡ true → all_from at rs ≡ true
all_from-above at [] h = refl
all_from-above at (q ∷ qs) h =
    let parts = and_parts (nat_lt at q.at) (all_above at qs) h in
    let above : at < q.at = ltb-true at q.at parts.0 in
    and_from _ _ (le-leb at q.at (omega arith)) (all_from-above at qs parts.1)

-- the first one is the least
pub first_least : (r : WaitingRead) (rs : List WaitingRead) → is_rising (r ∷ rs) ≡ true → all_from r.at (r ∷ rs) ≡ true
first_least r rs h =
    let parts = and_parts (all_above r.at rs) (is_rising rs) h in
    and_from _ _ (le-leb r.at r.at (omega arith)) (all_from-above r.at rs parts.0)

pub behind_first : (at : ℕ) (r : WaitingRead) (rs : List WaitingRead) → r.at ≤ at → behind_upto at (r ∷ rs) ≡ rs
behind_first at r rs l = rw (le-leb r.at at l) refl

-- where the first one is above a timestamp, each is
pub none_upto : (at : ℕ) (r : WaitingRead) (rs : List WaitingRead) → at < r.at → is_rising (r ∷ rs) ≡ true → all_above at (r ∷ rs) ≡ true
none_upto at r rs l h =
    let parts = and_parts (all_above r.at rs) (is_rising rs) h in
    and_from _ _ (lt-ltb at r.at l) (all_above-lower at r.at rs (omega arith) parts.0)

pub without-none : (op : OpId) (rs : List WaitingRead) → has_read_of op rs ≡ false → without_read_of op rs ≡ rs
without-none op [] h = refl
without-none op (q ∷ qs) h =
    let parts = or_parts (is_read_of op q) (has_read_of op qs) h in
    rw parts.0 (ap (λ ys. q ∷ ys) (without-none op qs parts.1))

pub sync-none : (op : OpId) (rs : List WaitingRead) → has_read_of op rs ≡ false → sync_of op rs ≡ None
sync-none op [] h = refl
sync-none op (q ∷ qs) h =
    let parts = or_parts (is_read_of op q) (has_read_of op qs) h in
    rw parts.0 (sync-none op qs parts.1)
