-- The order of a list, found in one walk.
use Rattle.std.proofs.Common.{◌≡◌, ℕ, true, false, cond, not, ◌&&◌, ◌||◌, List, [], ◌∷◌, Option, Some, None, max, refl, sym, ap, ◌∙◌, arith}
use Rattle.std.specs.List.{AllByRecursion}
use Rattle.std.proofs.lemmas.Bool.{and_parts, and_from, or_parts, or_from, not-true, not_from_false, eqb-true, eq-eqb}
use Rattle.std.proofs.lemmas.Bool.Decides.{nat_tests}
use Rattle.register_laws.specs.declared.operation.OpId.{OpId}
use Rattle.register_laws.specs.declared.operation.Span.{Span}
use Rattle.register_laws.specs.Lists.{came_before, same_op, MayFollow, KeepsOrder, ended_before, last_asked, in_order_from}

-- what came before the greater of two moments came before one of them
came_before-max : (answer : Option ℕ) (m n : ℕ) → came_before answer (max m n) ≡ (came_before answer m || came_before answer n)
came_before-max None m n = refl
came_before-max (Some t) m n = grind (arith, nat_tests)

same_op-true : (a b : OpId) → same_op a b ≡ true → a ≡ b
same_op-true a b e = let f : a.0 ≡ b.0 = eqb-true a.0 b.0 e in ap (λ n. record { 0 = n }) f

same_op-refl : (a b : OpId) → a ≡ b → same_op a b ≡ true
same_op-refl a b e = eq-eqb a.0 b.0 (ap (λ (o : OpId). o.0) e)

-- no span of `later` was answered before a moment
abbrev Unended : List Span → OpId → ℕ → Type 0
Unended spans later moment = AllByRecursion (λ (b : Span). b.op ≡ later → came_before b.answered moment ≡ false) spans

unended : (spans : List Span) (op : OpId) (moment : ℕ) → ended_before spans op moment ≡ false → Unended spans op moment
unended [] op m e = tt
unended (s ∷ ss) op m e =
    let parts = or_parts _ _ e in
    ((λ same. ap (λ b. b && came_before s.answered m) (sym (same_op-refl s.op op same)) ∙ parts.0), unended ss op m parts.1)

unended_back : (spans : List Span) (op : OpId) (moment : ℕ) → Unended spans op moment → ended_before spans op moment ≡ false
unended_back [] op m h = refl
unended_back (s ∷ ss) op m h =
    or_from _ _ (elim (same_op s.op op) as (λ c. same_op s.op op ≡ c → (c && came_before s.answered m) ≡ false) [ true ↦ λ e. h.0 (same_op-true _ _ e) | false ↦ λ _. refl ] refl) (unended_back ss op m h.1)

ended_before-max : (spans : List Span) (op : OpId) (m n : ℕ) → ended_before spans op (max m n) ≡ (ended_before spans op m || ended_before spans op n)
ended_before-max [] op m n = refl
ended_before-max (s ∷ ss) op m n =
    let here = came_before-max s.answered m n in
    let rest = ended_before-max ss op m n in
    rw (here, rest) (elim (same_op s.op op) as (λ c. ((c && (came_before s.answered m || came_before s.answered n)) || (ended_before ss op m || ended_before ss op n)) ≡ (((c && came_before s.answered m) || ended_before ss op m) || ((c && came_before s.answered n) || ended_before ss op n))) [ true ↦ grind arith | false ↦ refl ])

came_before-zero : (answer : Option ℕ) → came_before answer 0 ≡ false
came_before-zero None = refl
came_before-zero (Some t) = grind (arith, nat_tests)

ended_before-zero : (spans : List Span) (op : OpId) → ended_before spans op 0 ≡ false
ended_before-zero [] op = refl
ended_before-zero (s ∷ ss) op =
    let here = came_before-zero s.answered in
    let rest = ended_before-zero ss op in
    rw (here, rest) (elim (same_op s.op op) as (λ c. ((c && false) || false) ≡ false) [ true ↦ refl | false ↦ refl ])

-- what was not answered before the last asking of an operation was answered before none of its askings
follows : (spans askings : List Span) (first later : OpId) → ended_before spans later (last_asked askings first) ≡ false
    → AllByRecursion (λ (a : Span). a.op ≡ first → Unended spans later a.asked) askings
follows spans [] first later e = tt
follows spans (s ∷ ss) first later e =
    let parts = or_parts _ _ (sym (ended_before-max spans later (cond (same_op s.op first) s.asked 0) (last_asked ss first)) ∙ e) in
    ((λ same. unended spans later s.asked (ap (λ b. ended_before spans later (cond b s.asked 0)) (sym (same_op-refl s.op first same)) ∙ parts.0)), follows spans ss first later parts.1)

follows_back : (spans askings : List Span) (first later : OpId) → AllByRecursion (λ (a : Span). a.op ≡ first → Unended spans later a.asked) askings
    → ended_before spans later (last_asked askings first) ≡ false
follows_back spans [] first later h = ended_before-zero spans later
follows_back spans (s ∷ ss) first later h =
    ended_before-max spans later (cond (same_op s.op first) s.asked 0) (last_asked ss first)
    ∙ or_from _ _ (elim (same_op s.op first) as (λ c. same_op s.op first ≡ c → ended_before spans later (cond c s.asked 0) ≡ false) [ true ↦ λ e. unended_back spans later s.asked (h.0 (same_op-true _ _ e)) | false ↦ λ _. ended_before-zero spans later ] refl) (follows_back spans ss first later h.1)

-- both moments of two lists of facts
split : (spans : List Span) (first : OpId) (m : ℕ) (ops : List OpId) → AllByRecursion (λ (o : OpId). ended_before spans o (max m (last_asked spans first)) ≡ false) ops
    → AllByRecursion (λ (o : OpId). ended_before spans o m ≡ false) ops × AllByRecursion (MayFollow spans first) ops
split spans first m [] h = (tt, tt)
split spans first m (o ∷ os) h =
    let parts = or_parts _ _ (sym (ended_before-max spans o m (last_asked spans first)) ∙ h.0) in
    let rest = split spans first m os h.1 in
    ((parts.0, rest.0), (follows spans spans first o parts.1, rest.1))

join : (spans : List Span) (first : OpId) (m : ℕ) (ops : List OpId) → AllByRecursion (λ (o : OpId). ended_before spans o m ≡ false) ops → AllByRecursion (MayFollow spans first) ops
    → AllByRecursion (λ (o : OpId). ended_before spans o (max m (last_asked spans first)) ≡ false) ops
join spans first m [] h k = tt
join spans first m (o ∷ os) h k =
    (ended_before-max spans o m (last_asked spans first) ∙ or_from _ _ h.0 (follows_back spans spans first o k.0), join spans first m os h.1 k.1)

in_order : (spans : List Span) (m : ℕ) (ops : List OpId) → in_order_from spans m ops ≡ true
    → AllByRecursion (λ (o : OpId). ended_before spans o m ≡ false) ops × KeepsOrder ops spans
in_order spans m [] e = (tt, tt)
in_order spans m (op ∷ ops) e =
    let parts = and_parts (not (ended_before spans op m)) (in_order_from spans (max m (last_asked spans op)) ops) e in
    let rest = in_order spans (max m (last_asked spans op)) ops parts.1 in
    let apart = split spans op m ops rest.0 in
    ((not-true _ parts.0, apart.0), (apart.1, rest.1))

in_order_back : (spans : List Span) (m : ℕ) (ops : List OpId) → AllByRecursion (λ (o : OpId). ended_before spans o m ≡ false) ops → KeepsOrder ops spans
    → in_order_from spans m ops ≡ true
in_order_back spans m [] h k = refl
in_order_back spans m (op ∷ ops) h k =
    and_from _ _ (not_from_false _ h.0) (in_order_back spans (max m (last_asked spans op)) ops (join spans op m ops h.1 k.0) k.1)

none_before_zero : (spans : List Span) (ops : List OpId) → AllByRecursion (λ (o : OpId). ended_before spans o 0 ≡ false) ops
none_before_zero spans [] = tt
none_before_zero spans (o ∷ os) = (ended_before-zero spans o, none_before_zero spans os)

-- the walk from the first moment tells the order
pub keeps_order-from_walk : (spans : List Span) (list : List OpId) → in_order_from spans 0 list ≡ true → KeepsOrder list spans
keeps_order-from_walk spans list e = (in_order spans 0 list e).1

pub walk-from_keeps_order : (spans : List Span) (list : List OpId) → KeepsOrder list spans → in_order_from spans 0 list ≡ true
walk-from_keeps_order spans list k = in_order_back spans 0 list (none_before_zero spans list) k
