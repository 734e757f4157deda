-- A slab and a queue of its keys, after one more read and after one is taken.
use Rattle.std.proofs.Common.{◌≡◌, ◌≢◌, ℕ, zero, suc, ◌+◌, ◌<◌, ◌==◌, true, false, cond, not, ◌&&◌, ◌||◌, nat_lt, List, [], ◌∷◌, ◌++◌, length, drop, get_or, remove, position, Option, Some, None, option_map, is_some, OnSome, refl, sym, ap, ◌∙◌, subst, arith, length-append}
use Rattle.std.specs.List.{position_or_len}
use Rattle.std.proofs.lemmas.Bool.{and_parts, and_from, or_parts, or_from, false≢true, not_from_false, eqb-true, eqb-false, ltb-true, lt-ltb, not-true, eq-eqb}
use Rattle.std.proofs.lemmas.Bool.Decides.{nat_tests}
use Rattle.std.proofs.lemmas.List.Edits.{length-remove}
use Rattle.slab.specs.Slab.{Slab, get, slab_len, Updates}
use Rattle.register_laws.specs.declared.operation.OpId.{OpId}
use Rattle.majority_read.specs.declared.waiting_read.WaitingRead.{WaitingRead}
use Rattle.majority_read.specs.Reads.{all_below, is_rising, has_read_of, sync_of, without_read_of}
use Rattle.majority_read.specs.Keys.{with_first, reads_at, has_key, are_keys, IsKept, is_of, is_key_of}
use Rattle.majority_read.proofs.Order.{is_rising-push, is_rising-without, without-none, sync-none}

abbrev Kept : Type 0
Kept = Slab WaitingRead

-- ---- a key that is not in the queue

reads_at-others : (s t : Kept) (key : ℕ) (ks : List ℕ) → ((other : ℕ) → other ≢ key → get t other ≡ get s other) → has_key key ks ≡ false → reads_at t ks ≡ reads_at s ks
reads_at-others s t key [] same h = refl
reads_at-others s t key (k ∷ ks) same h =
    let parts = or_parts (k == key) (has_key key ks) h in
    rw (same k (eqb-false k key parts.0)) (ap (with_first (get s k)) (reads_at-others s t key ks same parts.1))

are_keys-others : (s t : Kept) (key : ℕ) (ks : List ℕ) → ((other : ℕ) → other ≢ key → get t other ≡ get s other) → has_key key ks ≡ false → are_keys t ks ≡ are_keys s ks
are_keys-others s t key [] same h = refl
are_keys-others s t key (k ∷ ks) same h =
    let parts = or_parts (k == key) (has_key key ks) h in
    rw (same k (eqb-false k key parts.0)) (ap (λ b. is_some (get s k) && (not (has_key k ks) && b)) (are_keys-others s t key ks same parts.1))

record AreKeys (s : Kept) (k : ℕ) (ks : List ℕ) : Type 0 where
  here : is_some (get s k) ≡ true
  apart : has_key k ks ≡ false
  rest : are_keys s ks ≡ true

are_keys-cons : (s : Kept) (k : ℕ) (ks : List ℕ) → are_keys s (k ∷ ks) ≡ true → AreKeys s k ks
are_keys-cons s k ks h =
    let parts = and_parts (is_some (get s k)) (not (has_key k ks) && are_keys s ks) h in
    let later = and_parts (not (has_key k ks)) (are_keys s ks) parts.1 in
    record { here = parts.0; apart = not-true (has_key k ks) later.0; rest = later.1 }

are_keys-from : (s : Kept) (k : ℕ) (ks : List ℕ) → is_some (get s k) ≡ true → has_key k ks ≡ false → are_keys s ks ≡ true → are_keys s (k ∷ ks) ≡ true
are_keys-from s k ks here apart rest = and_from _ _ here (and_from _ _ (not_from_false (has_key k ks) apart) rest)

vacant-new : (s : Kept) (key : ℕ) (ks : List ℕ) → get s key ≡ None → are_keys s ks ≡ true → has_key key ks ≡ false
vacant-new s key [] none h = refl
vacant-new s key (k ∷ ks) none h =
    let parts = are_keys-cons s k ks h in
    or_from (k == key) (has_key key ks)
    (elim (k == key) as (λ c. (k == key) ≡ c → c ≡ false) [
      | true ↦ λ e. let empty : get s k ≡ None = ap (get s) (eqb-true k key e) ∙ none in absurd (false≢true (ap is_some (sym empty) ∙ parts.here))
      | false ↦ λ e. refl
    ] refl)
    (vacant-new s key ks none parts.rest)

-- ---- one more read

with_first-push : (o : Option WaitingRead) (rs : List WaitingRead) (r : WaitingRead) → with_first o (rs ++ r ∷ []) ≡ with_first o rs ++ r ∷ []
with_first-push None rs r = refl
with_first-push (Some q) rs r = refl

reads_at-push : (s : Kept) (key : ℕ) (r : WaitingRead) (ks : List ℕ) → get s key ≡ Some r → reads_at s (ks ++ key ∷ []) ≡ reads_at s ks ++ r ∷ []
reads_at-push s key r [] e = ap (λ o. with_first o []) e
reads_at-push s key r (k ∷ ks) e = ap (with_first (get s k)) (reads_at-push s key r ks e) ∙ with_first-push (get s k) (reads_at s ks) r

has_key-push : (k key : ℕ) (ks : List ℕ) → has_key k ks ≡ false → (key == k) ≡ false → has_key k (ks ++ key ∷ []) ≡ false
has_key-push k key [] h apart = or_from _ _ apart refl
has_key-push k key (j ∷ js) h apart =
    let parts = or_parts (j == k) (has_key k js) h in
    or_from _ _ parts.0 (has_key-push k key js parts.1 apart)

eqb-swap : (a b : ℕ) → (a == b) ≡ false → (b == a) ≡ false
eqb-swap a b h =
    elim (b == a) as (λ c. (b == a) ≡ c → c ≡ false) [
      | true ↦ λ e. absurd (eqb-false a b h (sym (eqb-true b a e)))
      | false ↦ λ e. refl
    ] refl

are_keys-push : (s : Kept) (key : ℕ) (r : WaitingRead) (ks : List ℕ) → get s key ≡ Some r → has_key key ks ≡ false → are_keys s ks ≡ true → are_keys s (ks ++ key ∷ []) ≡ true
are_keys-push s key r [] e new h = are_keys-from s key [] (ap is_some e) refl refl
are_keys-push s key r (k ∷ ks) e new h =
    let parts = are_keys-cons s k ks h in
    let apart = or_parts (k == key) (has_key key ks) new in
    are_keys-from s k (ks ++ key ∷ []) parts.here (has_key-push k key ks parts.apart (eqb-swap k key apart.0)) (are_keys-push s key r ks e apart.1 parts.rest)

-- the slab and the queue keep the old reads and this one
pub record IsPushed (s t : Kept) (key : ℕ) (r : WaitingRead) (ks : List ℕ) : Type 0 where
  pub kept : IsKept t (ks ++ key ∷ [])
  pub reads : reads_at t (ks ++ key ∷ []) ≡ reads_at s ks ++ r ∷ []

pub pushed : (s t : Kept) (key : ℕ) (r : WaitingRead) (ks : List ℕ) → IsKept s ks → get s key ≡ None → Updates s t key (Some r) → slab_len t ≡ slab_len s + 1 → all_below r.at (reads_at s ks) ≡ true → IsPushed s t key r ks
pushed s t key r ks kept none updates len below =
    let new = vacant-new s key ks none kept.keys_are in
    let same : reads_at t ks ≡ reads_at s ks = reads_at-others s t key ks updates.others new in
    let keys : are_keys t ks ≡ true = are_keys-others s t key ks updates.others new ∙ kept.keys_are in
    let reads : reads_at t (ks ++ key ∷ []) ≡ reads_at s ks ++ r ∷ [] = reads_at-push t key r ks updates.changed ∙ ap (λ rs. rs ++ r ∷ []) same in
    record {
      kept = record {
        keys_are = are_keys-push t key r ks updates.changed new keys;
        none_else = omega (arith, len, kept.none_else, length-append ks (key ∷ []));
        rises = rw reads (is_rising-push (reads_at s ks) r kept.rises below);
      };
      reads = reads;
    }

-- ---- the first read is taken

pub split_first : (ks : List ℕ) (key : ℕ) → 0 < length ks → key ≡ get_or ks 0 key → ks ≡ key ∷ drop 1 ks
split_first [] key l e = absurd (omega arith)
split_first (k ∷ ks) key l e = ap (λ j. j ∷ ks) (sym e)

-- the first read stood under the first key, and the slab and the queue keep the others
pub record IsFirstTaken (s t : Kept) (key : ℕ) (ks : List ℕ) (r : WaitingRead) : Type 0 where
  pub kept : IsKept t ks
  pub reads : reads_at s (key ∷ ks) ≡ r ∷ reads_at t ks

pub reads_at-first : (s : Kept) (key : ℕ) (ks : List ℕ) (r : WaitingRead) → get s key ≡ Some r → reads_at s (key ∷ ks) ≡ r ∷ reads_at s ks
reads_at-first s key ks r e = ap (λ o. with_first o (reads_at s ks)) e

pub first_taken : (s t : Kept) (key : ℕ) (ks : List ℕ) (r : WaitingRead) → IsKept s (key ∷ ks) → get s key ≡ Some r → Updates s t key None → slab_len t + 1 ≡ slab_len s → IsFirstTaken s t key ks r
first_taken s t key ks r kept e updates len =
    let parts = are_keys-cons s key ks kept.keys_are in
    let same : reads_at t ks ≡ reads_at s ks = reads_at-others s t key ks updates.others parts.apart in
    let all : reads_at s (key ∷ ks) ≡ r ∷ reads_at s ks = reads_at-first s key ks r e in
    let rises : is_rising (r ∷ reads_at s ks) ≡ true = subst (λ rs. is_rising rs ≡ true) all kept.rises in
    record {
      kept = record {
        keys_are = are_keys-others s t key ks updates.others parts.apart ∙ parts.rest;
        none_else = omega (arith, len, kept.none_else);
        rises = rw same (and_parts _ _ rises).1;
      };
      reads = all ∙ ap (λ rs. r ∷ rs) (sym same);
    }

-- ---- the first read of an operation is dropped

has_key-remove : (k i : ℕ) (ks : List ℕ) → has_key k ks ≡ false → has_key k (remove ks i) ≡ false
has_key-remove k zero [] h = refl
has_key-remove k (suc i) [] h = refl
has_key-remove k zero (j ∷ js) h = (or_parts (j == k) (has_key k js) h).1
has_key-remove k (suc i) (j ∷ js) h =
    let parts = or_parts (j == k) (has_key k js) h in
    or_from (j == k) (has_key k (remove js i)) parts.0 (has_key-remove k i js parts.1)

are_keys-remove : (s : Kept) (i : ℕ) (ks : List ℕ) → are_keys s ks ≡ true → are_keys s (remove ks i) ≡ true
are_keys-remove s zero [] h = refl
are_keys-remove s (suc i) [] h = refl
are_keys-remove s zero (k ∷ ks) h = (are_keys-cons s k ks h).rest
are_keys-remove s (suc i) (k ∷ ks) h =
    let parts = are_keys-cons s k ks h in
    are_keys-from s k (remove ks i) parts.here (has_key-remove k i ks parts.apart) (are_keys-remove s i ks parts.rest)

has_key-at : (ks : List ℕ) (i d : ℕ) → i < length ks → has_key (get_or ks i d) ks ≡ true
has_key-at [] i d l = absurd (omega arith)
has_key-at (k ∷ ks) zero d l = rw (eq-eqb k k refl) refl
has_key-at (k ∷ ks) (suc i) d l =
    elim (k == get_or ks i d) as (λ c. (c || has_key (get_or ks i d) ks) ≡ true) [ true ↦ refl | false ↦ has_key-at ks i d (omega arith) ]

-- a key that was removed stands at no other place
removed-apart : (s : Kept) (ks : List ℕ) (i d : ℕ) → i < length ks → are_keys s ks ≡ true → has_key (get_or ks i d) (remove ks i) ≡ false
removed-apart s [] i d l h = absurd (omega arith)
removed-apart s (k ∷ ks) zero d l h = (are_keys-cons s k ks h).apart
removed-apart s (k ∷ ks) (suc i) d l h =
    let parts = are_keys-cons s k ks h in
    let key = get_or ks i d in
    let within : i < length ks = omega arith in
    or_from (k == key) (has_key key (remove ks i))
    (elim (k == key) as (λ c. (k == key) ≡ c → c ≡ false) [
      | true ↦ λ e. absurd (false≢true (sym parts.apart ∙ ap (λ j. has_key j ks) (eqb-true k key e) ∙ has_key-at ks i d within))
      | false ↦ λ e. refl
    ] refl)
    (removed-apart s ks i d within parts.rest)

place : OpId → Kept → List ℕ → ℕ
place op s ks = position_or_len (is_key_of s op) ks

without-with_first : (op : OpId) (o : Option WaitingRead) (rs : List WaitingRead) → is_of op o ≡ true → without_read_of op (with_first o rs) ≡ rs
without-with_first op None rs h = absurd (false≢true h)
without-with_first op (Some r) rs h = rw h refl

without-with_other : (op : OpId) (o : Option WaitingRead) (rs : List WaitingRead) → is_of op o ≡ false → without_read_of op (with_first o rs) ≡ with_first o (without_read_of op rs)
without-with_other op None rs h = refl
without-with_other op (Some r) rs h = rw h refl

has-with_first : (op : OpId) (o : Option WaitingRead) (rs : List WaitingRead) → has_read_of op (with_first o rs) ≡ (is_of op o || has_read_of op rs)
has-with_first op None rs = refl
has-with_first op (Some r) rs = refl

remove-place : (op : OpId) (s : Kept) (ks : List ℕ) → reads_at s (remove ks (place op s ks)) ≡ without_read_of op (reads_at s ks)
unfolding place
remove-place op s [] = refl
remove-place op s (k ∷ ks) =
    let e : 1 + place op s ks ≡ suc (place op s ks) = omega arith in
    elim (is_key_of s op k) as (λ c. is_key_of s op k ≡ c → reads_at s (remove (k ∷ ks) (cond (not c) (1 + place op s ks) 0)) ≡ without_read_of op (reads_at s (k ∷ ks))) [
      | true ↦ λ h. sym (without-with_first op (get s k) (reads_at s ks) h)
      | false ↦ λ h. ap (λ n. reads_at s (remove (k ∷ ks) n)) e ∙ ap (with_first (get s k)) (remove-place op s ks) ∙ sym (without-with_other op (get s k) (reads_at s ks) h)
    ] refl

lt-more : (a b : ℕ) → nat_lt a b ≡ nat_lt (1 + a) (suc b)
lt-more a b = grind (arith, nat_tests)

has-place : (op : OpId) (s : Kept) (ks : List ℕ) → has_read_of op (reads_at s ks) ≡ nat_lt (place op s ks) (length ks)
unfolding place
has-place op s [] = refl
has-place op s (k ∷ ks) =
    has-with_first op (get s k) (reads_at s ks)
    ∙ elim (is_key_of s op k) as (λ c. (c || has_read_of op (reads_at s ks)) ≡ nat_lt (cond (not c) (1 + place op s ks) 0) (length (k ∷ ks))) [
      | true ↦ sym (lt-ltb 0 (suc (length ks)) (omega arith))
      | false ↦ has-place op s ks ∙ lt-more (place op s ks) (length ks)
    ]

at_of : Option WaitingRead → Option ℕ
at_of o = option_map (λ (r : WaitingRead). r.at) o

sync-with_first : (op : OpId) (o : Option WaitingRead) (rs : List WaitingRead) → is_of op o ≡ true → sync_of op (with_first o rs) ≡ at_of o
unfolding at_of
sync-with_first op None rs h = absurd (false≢true h)
sync-with_first op (Some r) rs h = rw h refl

sync-with_other : (op : OpId) (o : Option WaitingRead) (rs : List WaitingRead) → is_of op o ≡ false → sync_of op (with_first o rs) ≡ sync_of op rs
sync-with_other op None rs h = refl
sync-with_other op (Some r) rs h = rw h refl

sync-place : (op : OpId) (s : Kept) (ks : List ℕ) (d : ℕ) → place op s ks < length ks → sync_of op (reads_at s ks) ≡ at_of (get s (get_or ks (place op s ks) d))
unfolding place
sync-place op s [] d l = absurd (omega arith)
sync-place op s (k ∷ ks) d l =
    let e : 1 + place op s ks ≡ suc (place op s ks) = omega arith in
    elim (is_key_of s op k) as (λ c. is_key_of s op k ≡ c → cond (not c) (1 + place op s ks) 0 < length (k ∷ ks) → sync_of op (reads_at s (k ∷ ks)) ≡ at_of (get s (get_or (k ∷ ks) (cond (not c) (1 + place op s ks) 0) d))) [
      | true ↦ λ h _. sync-with_first op (get s k) (reads_at s ks) h
      | false ↦ λ h m.
          sync-with_other op (get s k) (reads_at s ks) h ∙ sync-place op s ks d (omega arith) ∙ ap (λ n. at_of (get s (get_or (k ∷ ks) n d))) (sym e)
    ] refl l

-- what a place found by the operation says
pub record IsPlace (op : OpId) (s : Kept) (ks : List ℕ) (i : ℕ) : Type 0 where
  pub within : i < length ks
  pub found : has_read_of op (reads_at s ks) ≡ true
  pub left : reads_at s (remove ks i) ≡ without_read_of op (reads_at s ks)
  pub sync : (d : ℕ) → sync_of op (reads_at s ks) ≡ option_map (λ (r : WaitingRead). r.at) (get s (get_or ks i d))

pub place_found : (op : OpId) (s : Kept) (ks : List ℕ) (i : ℕ) → position (is_key_of s op) ks ≡ Some i → IsPlace op s ks i
unfolding place at_of
place_found op s ks i e =
    elim (nat_lt (place op s ks) (length ks)) as (λ c. nat_lt (place op s ks) (length ks) ≡ c → cond c (Some (place op s ks)) None ≡ Some i → IsPlace op s ks i) [
      | true ↦ λ l h. let same : place op s ks ≡ i = cc in
          subst (λ n. IsPlace op s ks n) same (record { within = ltb-true _ _ l; found = has-place op s ks ∙ l; left = remove-place op s ks; sync = λ d. sync-place op s ks d (ltb-true _ _ l) })
      | false ↦ λ l h. absurd (cc)
    ] refl e

pub place_missing : (op : OpId) (s : Kept) (ks : List ℕ) → position (is_key_of s op) ks ≡ None → has_read_of op (reads_at s ks) ≡ false
unfolding place
place_missing op s ks e =
    elim (nat_lt (place op s ks) (length ks)) as (λ c. nat_lt (place op s ks) (length ks) ≡ c → cond c (Some (place op s ks)) None ≡ None → has_read_of op (reads_at s ks) ≡ false) [
      | true ↦ λ l h. absurd (cc)
      | false ↦ λ l h. has-place op s ks ∙ l
    ] refl e

pub on_some : {X : Type 0} (o : Option X) (P : Type 0) → is_some o ≡ true → OnSome o P → P
on_some None P here h = absurd (false≢true here)
on_some (Some x) P here h = h

-- the key at a place has a read
pub key_held : (s : Kept) (ks : List ℕ) (i d : ℕ) → i < length ks → are_keys s ks ≡ true → is_some (get s (get_or ks i d)) ≡ true
key_held s [] i d l h = absurd (omega arith)
key_held s (k ∷ ks) zero d l h = (are_keys-cons s k ks h).here
key_held s (k ∷ ks) (suc i) d l h = key_held s ks i d (omega arith) (are_keys-cons s k ks h).rest

-- the slab and the queue keep the reads but the one at this place, the first of its operation
pub record IsDropped (op : OpId) (s t : Kept) (ks left : List ℕ) : Type 0 where
  pub kept : IsKept t left
  pub found : has_read_of op (reads_at s ks) ≡ true
  pub reads : reads_at t left ≡ without_read_of op (reads_at s ks)

pub dropped : (op : OpId) (s t : Kept) (ks : List ℕ) (i d : ℕ) → IsKept s ks → position (is_key_of s op) ks ≡ Some i → Updates s t (get_or ks i d) None → slab_len t + 1 ≡ slab_len s → IsDropped op s t ks (remove ks i)
dropped op s t ks i d kept e updates len =
    let at = place_found op s ks i e in
    let apart = removed-apart s ks i d at.within kept.keys_are in
    let same : reads_at t (remove ks i) ≡ reads_at s (remove ks i) = reads_at-others s t (get_or ks i d) (remove ks i) updates.others apart in
    let reads : reads_at t (remove ks i) ≡ without_read_of op (reads_at s ks) = same ∙ at.left in
    record {
      kept = record {
        keys_are = are_keys-others s t (get_or ks i d) (remove ks i) updates.others apart ∙ are_keys-remove s i ks kept.keys_are;
        none_else = omega (arith, len, kept.none_else, length-remove ks i at.within);
        rises = rw reads (is_rising-without op (reads_at s ks) kept.rises);
      };
      found = at.found;
      reads = reads;
    }

-- no read of the operation waits
pub record IsAbsent (op : OpId) (rs : List WaitingRead) : Type 0 where
  pub none : has_read_of op rs ≡ false
  pub same : without_read_of op rs ≡ rs
  pub sync : sync_of op rs ≡ None

pub absent : (op : OpId) (s : Kept) (ks : List ℕ) → position (is_key_of s op) ks ≡ None → IsAbsent op (reads_at s ks)
absent op s ks e =
    let none = place_missing op s ks e in
    record { none = none; same = without-none op (reads_at s ks) none; sync = sync-none op (reads_at s ks) none }
