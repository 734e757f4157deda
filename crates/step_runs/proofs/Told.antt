-- Points of a path, and the register's replies to them.
use Rattle.std.proofs.Common.{◌≡◌, ℕ, ◌+◌, ◌≤◌, Bool, true, false, cond, ◌&&◌, ◌||◌, List, [], ◌∷◌, ◌++◌, map, filter, None, refl, sym, ap, ap₂, ◌∙◌, subst, inl, inr, arith}
use Rattle.std.proofs.lemmas.Bool.{false≢true}
use Rattle.runs.specs.register_laws.declared.operation.OpId.{OpId}
use Rattle.runs.specs.register_laws.declared.operation.Op.{Op}
use Rattle.runs.specs.register_laws.declared.operation.Op.TheVariants.{Put, Delete, Cas, Read}
use Rattle.runs.specs.register_laws.declared.operation.Reply.{Reply}
use Rattle.runs.specs.register_laws.declared.operation.Told.{Told}
use Rattle.runs.specs.register_laws.Register.{State, reply_of, state_after}
use Rattle.runs.specs.register_laws.Lists.{IsLegalFrom, told_from, is_read, same_op}
use Rattle.runs.specs.Story.{Point, call_of, times, IsIn, has_told, stands_before}
pub use Rattle.runs.proofs.list_laws.Members.{IsIn-left, IsIn-right, IsIn-append, IsIn-filter}

-- ---- the state after the operations of some points

abbrev pub after : State → List Point → State
after s [] = s
after s (p ∷ ps) = after (state_after s p.what) ps

abbrev pub told : State → List Point → List Told
told s ps = told_from s (map call_of ps)

pub legal_told : (s : State) (ps : List Point) → IsLegalFrom s (told s ps)
legal_told s [] = tt
legal_told s (p ∷ ps) = (refl, legal_told (state_after s p.what) ps)

pub after-append : (s : State) (ps qs : List Point) → after s (ps ++ qs) ≡ after (after s ps) qs
after-append s [] qs = refl
after-append s (p ∷ ps) qs = after-append (state_after s p.what) ps qs

pub told-append : (s : State) (ps qs : List Point) → told s (ps ++ qs) ≡ told s ps ++ told (after s ps) qs
told-append s [] qs = refl
told-append s (p ∷ ps) qs =
    ap (λ (r : List Told). record { op = p.op; what = p.what; reply = reply_of s p.what } ∷ r) (told-append (state_after s p.what) ps qs)

-- ---- leaving out reads

read_keeps : (s : State) (w : Op) → is_read w ≡ true → state_after s w ≡ s
read_keeps s (Put v) e = absurd (false≢true e)
read_keeps s Delete e = absurd (false≢true e)
read_keeps s (Cas expect put) e = absurd (false≢true e)
read_keeps s Read e = refl

-- the test lets everything pass but reads
pub record LeavesReads (q : OpId → Op → Bool) : Type 0 where
  pub only : (op : OpId) (w : Op) → q op w ≡ false → is_read w ≡ true

abbrev pub at_point : (OpId → Op → Bool) → Point → Bool
at_point q p = q p.op p.what

abbrev pub at_told : (OpId → Op → Bool) → Told → Bool
at_told q t = q t.op t.what

pub after-filter : (q : OpId → Op → Bool) → LeavesReads q → (s : State) (ps : List Point) → after s (filter (at_point q) ps) ≡ after s ps
after-filter q h s [] = refl
after-filter q h s (p ∷ ps) =
    elim (q p.op p.what) as (λ c. q p.op p.what ≡ c → after s (cond c (p ∷ filter (at_point q) ps) (filter (at_point q) ps)) ≡ after (state_after s p.what) ps) [
      | true ↦ λ e. after-filter q h (state_after s p.what) ps
      | false ↦ λ e. after-filter q h s ps ∙ ap (λ (t : State). after t ps) (sym (read_keeps s p.what (h.only p.op p.what e)))
    ] refl

pub told-filter : (q : OpId → Op → Bool) → LeavesReads q → (s : State) (ps : List Point) → filter (at_told q) (told s ps) ≡ told s (filter (at_point q) ps)
told-filter q h s [] = refl
told-filter q h s (p ∷ ps) =
    let t : Told = record { op = p.op; what = p.what; reply = reply_of s p.what } in
    let rest = told-filter q h (state_after s p.what) ps in
    elim (q p.op p.what) as (λ c. q p.op p.what ≡ c → cond c (t ∷ filter (at_told q) (told (state_after s p.what) ps)) (filter (at_told q) (told (state_after s p.what) ps)) ≡ told s (cond c (p ∷ filter (at_point q) ps) (filter (at_point q) ps))) [
      | true ↦ λ e. ap (λ (r : List Told). t ∷ r) rest
      | false ↦ λ e. rest ∙ ap (λ (v : State). told v (filter (at_point q) ps)) (read_keeps s p.what (h.only p.op p.what e))
    ] refl

-- ---- filters

pub filter-append : {A : Type 0} (q : A → Bool) (xs ys : List A) → filter q (xs ++ ys) ≡ filter q xs ++ filter q ys
filter-append q [] ys = refl
filter-append q (x ∷ xs) ys =
    elim (q x) as (λ c. cond c (x ∷ filter q (xs ++ ys)) (filter q (xs ++ ys)) ≡ cond c (x ∷ filter q xs) (filter q xs) ++ filter q ys) [
      | true ↦ ap (λ (r : List _). x ∷ r) (filter-append q xs ys)
      | false ↦ filter-append q xs ys
    ]

pub filter-filter : {A : Type 0} (q r : A → Bool) (xs : List A) → filter q (filter r xs) ≡ filter (λ x. r x && q x) xs
filter-filter q r [] = refl
filter-filter q r (x ∷ xs) =
    elim (r x) as (λ c. filter q (cond c (x ∷ filter r xs) (filter r xs)) ≡ cond (c && q x) (x ∷ filter (λ y. r y && q y) xs) (filter (λ y. r y && q y) xs)) [
      | true ↦ elim (q x) as (λ d. cond d (x ∷ filter q (filter r xs)) (filter q (filter r xs)) ≡ cond d (x ∷ filter (λ y. r y && q y) xs) (filter (λ y. r y && q y) xs)) [ true ↦ ap (λ (l : List _). x ∷ l) (filter-filter q r xs) | false ↦ filter-filter q r xs ]
      | false ↦ filter-filter q r xs
    ]

-- a stricter test makes an earlier one needless
pub filter_stricter : {A : Type 0} (q r : A → Bool) → ((x : A) → q x ≡ true → r x ≡ true) → (xs : List A) → filter q (filter r xs) ≡ filter q xs
filter_stricter q r h [] = refl
filter_stricter q r h (x ∷ xs) =
    elim (q x) as (λ d. q x ≡ d → filter q (cond (r x) (x ∷ filter r xs) (filter r xs)) ≡ cond d (x ∷ filter q xs) (filter q xs)) [
      | true ↦ λ e.
          let yes' : r x ≡ true = h x e in
          let one : filter q (cond (r x) (x ∷ filter r xs) (filter r xs)) ≡ cond (q x) (x ∷ filter q (filter r xs)) (filter q (filter r xs)) = ap (λ c. filter q (cond c (x ∷ filter r xs) (filter r xs))) yes' in
          one ∙ ap (λ c. cond c (x ∷ filter q (filter r xs)) (filter q (filter r xs))) e ∙ ap (λ (l : List _). x ∷ l) (filter_stricter q r h xs)
      | false ↦ λ e.
          elim (r x) as (λ c. filter q (cond c (x ∷ filter r xs) (filter r xs)) ≡ filter q xs) [
            | true ↦ ap (λ c. cond c (x ∷ filter q (filter r xs)) (filter q (filter r xs))) e ∙ filter_stricter q r h xs
            | false ↦ filter_stricter q r h xs
          ]
    ] refl

-- ---- members

-- a told operation comes from a point
pub IsIn-told : (s : State) (ps : List Point) (t : Told) → IsIn (told s ps) t → (p : Point) × IsIn ps p × (p.op ≡ t.op) × (p.what ≡ t.what)
IsIn-told s [] t h = absurd h
IsIn-told s (p ∷ ps) t h =
    elim h [
      | inl e ↦ (p, inl refl, ap (λ (u : Told). u.op) e, ap (λ (u : Told). u.what) e)
      | inr i ↦ let r = IsIn-told (state_after s p.what) ps t i in (r.0, inr r.1, r.2, r.3)
    ]

-- ---- how often an operation has a point

abbrev pub point_times : List Point → OpId → ℕ
point_times [] op = 0
point_times (p ∷ ps) op = cond (same_op p.op op) 1 0 + point_times ps op

pub times-told : (s : State) (ps : List Point) (op : OpId) → times (told s ps) op ≡ point_times ps op
times-told s [] op = refl
times-told s (p ∷ ps) op = ap (λ (n : ℕ). cond (same_op p.op op) 1 0 + n) (times-told (state_after s p.what) ps op)

pub point_times-append : (ps qs : List Point) (op : OpId) → point_times (ps ++ qs) op ≡ point_times ps op + point_times qs op
point_times-append [] qs op = omega arith
point_times-append (p ∷ ps) qs op = omega (arith, point_times-append ps qs op)

pub point_times-filter : (q : Point → Bool) (ps : List Point) (op : OpId) → point_times (filter q ps) op ≤ point_times ps op
point_times-filter q [] op = omega arith
point_times-filter q (p ∷ ps) op =
    let rest = point_times-filter q ps op in
    elim (q p) as (λ c. point_times (cond c (p ∷ filter q ps) (filter q ps)) op ≤ cond (same_op p.op op) 1 0 + point_times ps op) [
      | true ↦ omega (arith, rest)
      | false ↦ omega (arith, rest)
    ]

-- ---- which operations have a point, and in which order

abbrev pub has_point : List Point → OpId → Bool
has_point [] op = false
has_point (p ∷ ps) op = same_op p.op op || has_point ps op

abbrev pub point_before : List Point → OpId → OpId → Bool
point_before [] a b = false
point_before (p ∷ ps) a b = (same_op p.op a && has_point ps b) || point_before ps a b

pub has_told-told : (s : State) (ps : List Point) (op : OpId) → has_told (told s ps) op ≡ has_point ps op
has_told-told s [] op = refl
has_told-told s (p ∷ ps) op = ap (λ b. same_op p.op op || b) (has_told-told (state_after s p.what) ps op)

pub stands_before-told : (s : State) (ps : List Point) (a b : OpId) → stands_before (told s ps) a b ≡ point_before ps a b
stands_before-told s [] a b = refl
stands_before-told s (p ∷ ps) a b =
    ap₂ (λ (x y : Bool). (same_op p.op a && x) || y) (has_told-told (state_after s p.what) ps b) (stands_before-told (state_after s p.what) ps a b)

or_assoc : (x y z : Bool) → ((x || y) || z) ≡ (x || (y || z))
or_assoc true y z = refl
or_assoc false y z = refl

pub has_point-append : (ps qs : List Point) (op : OpId) → has_point (ps ++ qs) op ≡ (has_point ps op || has_point qs op)
has_point-append [] qs op = refl
has_point-append (p ∷ ps) qs op = ap (λ b. same_op p.op op || b) (has_point-append ps qs op) ∙ sym (or_assoc (same_op p.op op) (has_point ps op) (has_point qs op))

or_true : (x : Bool) → (x || true) ≡ true
or_true true = refl
or_true false = refl

and_or : (x y z : Bool) → (x && y) ≡ true → (x && (y || z)) ≡ true
and_or true true z e = refl
and_or true false z e = absurd (false≢true e)
and_or false y z e = absurd (false≢true e)

or_both : (a b c d : Bool) → (a ≡ true → c ≡ true) → (b ≡ true → d ≡ true) → (a || b) ≡ true → (c || d) ≡ true
or_both true b c d f g e = ap (λ x. x || d) (f refl)
or_both false b c d f g e = ap (λ x. c || x) (g e) ∙ or_true c

-- an order stays where more points come later
pub point_before-left : (ps qs : List Point) (a b : OpId) → point_before ps a b ≡ true → point_before (ps ++ qs) a b ≡ true
point_before-left [] qs a b h = absurd (false≢true h)
point_before-left (p ∷ ps) qs a b h =
    or_both (same_op p.op a && has_point ps b) (point_before ps a b) (same_op p.op a && has_point (ps ++ qs) b) (point_before (ps ++ qs) a b)
    (λ e. ap (λ x. same_op p.op a && x) (has_point-append ps qs b) ∙ and_or (same_op p.op a) (has_point ps b) (has_point qs b) e)
    (λ e. point_before-left ps qs a b e) h

-- an operation among earlier points stands before one among later points
pub point_before-across : (ps qs : List Point) (a b : OpId) → has_point ps a ≡ true → has_point qs b ≡ true → point_before (ps ++ qs) a b ≡ true
point_before-across [] qs a b h i = absurd (false≢true h)
point_before-across (p ∷ ps) qs a b h i =
    or_both (same_op p.op a) (has_point ps a) (same_op p.op a && has_point (ps ++ qs) b) (point_before (ps ++ qs) a b)
    (λ e. ap₂ (λ (x y : Bool). x && y) e (has_point-append ps qs b ∙ ap (λ x. has_point ps b || x) i ∙ or_true (has_point ps b)))
    (λ e. point_before-across ps qs a b e i) h

-- ---- an operation that took effect with a reply

pub record TookEffect (ps : List Point) (op : OpId) (what : Op) (reply : Reply) : Type 0 where
  pub before : List Point
  pub point : Point
  pub later : List Point
  pub split : ps ≡ before ++ point ∷ later
  pub op_is : point.op ≡ op
  pub what_is : point.what ≡ what
  pub reply_is : reply ≡ reply_of (after None before) what

cons_append : (ps qs rs : List Point) (p : Point) → (ps ++ p ∷ qs) ++ rs ≡ ps ++ p ∷ (qs ++ rs)
cons_append [] qs rs p = refl
cons_append (x ∷ ps) qs rs p = ap (λ (l : List Point). x ∷ l) (cons_append ps qs rs p)

pub TookEffect-more : (ps : List Point) (op : OpId) (what : Op) (reply : Reply) (qs : List Point) → TookEffect ps op what reply → TookEffect (ps ++ qs) op what reply
TookEffect-more ps op what reply qs h =
    record {
      before = h.before;
      point = h.point;
      later = h.later ++ qs;
      split = ap (λ (l : List Point). l ++ qs) h.split ∙ cons_append h.before h.later qs h.point;
      op_is = h.op_is;
      what_is = h.what_is;
      reply_is = h.reply_is;
    }

-- the last of some points took effect on the state that the others left
pub TookEffect-last : (ps : List Point) (p : Point) → TookEffect (ps ++ p ∷ []) p.op p.what (reply_of (after None ps) p.what)
TookEffect-last ps p = record { before = ps; point = p; later = []; split = refl; op_is = refl; what_is = refl; reply_is = refl }

-- it is told with that reply, whichever reads are left out
pub TookEffect-told : (q : OpId → Op → Bool) → LeavesReads q → (ps : List Point) (op : OpId) (what : Op) (reply : Reply) → TookEffect ps op what reply → q op what ≡ true
    → IsIn (told None (filter (at_point q) ps)) (record { op = op; what = what; reply = reply })
TookEffect-told q h ps op what reply k shown =
    let here : q k.point.op k.point.what ≡ true = ap₂ (λ (o : OpId) (w : Op). q o w) k.op_is k.what_is ∙ shown in
    let parts : filter (at_point q) ps ≡ filter (at_point q) k.before ++ k.point ∷ filter (at_point q) k.later =
    ap (filter (at_point q)) k.split ∙ filter-append (at_point q) k.before (k.point ∷ k.later)
    ∙ ap (λ c. filter (at_point q) k.before ++ cond c (k.point ∷ filter (at_point q) k.later) (filter (at_point q) k.later)) here in
    let replies : reply_of (after None (filter (at_point q) k.before)) k.point.what ≡ reply =
    ap₂ (λ (s : State) (w : Op). reply_of s w) (after-filter q h None k.before) k.what_is ∙ sym k.reply_is in
    let told' : told None (filter (at_point q) ps) ≡ told None (filter (at_point q) k.before) ++ told (after None (filter (at_point q) k.before)) (k.point ∷ filter (at_point q) k.later) =
    ap (told None) parts ∙ told-append None (filter (at_point q) k.before) (k.point ∷ filter (at_point q) k.later) in
    subst (λ (l : List Told). IsIn l (record { op = op; what = what; reply = reply })) (sym told')
    (IsIn-right (told None (filter (at_point q) k.before)) (told (after None (filter (at_point q) k.before)) (k.point ∷ filter (at_point q) k.later)) (record { op = op; what = what; reply = reply })
    (inl (λ i. record { op = k.op_is i; what = k.what_is i; reply = replies i })))
