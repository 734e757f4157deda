-- The facts of the example.
use Rattle.std.proofs.Common.{◌≡◌, ◌==◌, ◌⊎◌, ℕ, zero, suc, ◌+◌, ◌-◌, ◌/◌, min, ◌≤◌, ◌<◌, Bool, true, false, ◌||◌, nat_lt, List, [], ◌∷◌, Some, None, inl, inr, refl, sym, ap, ◌∙◌, subst, arith}
use Rattle.std.proofs.lemmas.Bool.{eqb-true, eq-eqb, ltb-true}
use Rattle.path_facts.specs.Paths.{Version, Birth, point, on, IsIn, known, IsHistory}
use Rattle.path_facts.specs.Runs.{Contract, has, IsMost, StaysReplica}
use Rattle.path_facts.specs.Decided.{Stands, Decided}
use Rattle.path_facts.specs.Invariant.{Ready, GoesOver, Report, Elected, Asked, IsOfBranch, GoesOn, LogFacts, Facts}
use Rattle.path_facts.specs.Example.{first_branch, second_branch, example_contract, example_version, example_place, example}

-- ---- its versions

-- which version a place has
data Kind (place c s : ℕ) : Type 0 where
  First : c ≡ 0 → place ≡ s + 1 → place ≤ 3 → Kind place c s
  Second : c ≡ 1 → s ≡ 3 → 4 ≤ place → Kind place c s

name_of : {a c s t : ℕ} → point a s ≡ point c t → a ≡ c
name_of e = let b = ap (λ (v : Version ℕ). v.branch) e in cc

kind : (place c s : ℕ) → example_version place ≡ point c s → Kind place c s
kind zero c s e = let b : None ≡ Some c = ap (λ (v : Version ℕ). v.branch) e in absurd (cc)
kind (suc zero) c s e = let t = ap (λ (v : Version ℕ). v.timestamp) e in First (sym (name_of e)) (omega arith) (omega arith)
kind (suc (suc zero)) c s e = let t = ap (λ (v : Version ℕ). v.timestamp) e in First (sym (name_of e)) (omega arith) (omega arith)
kind (suc (suc (suc zero))) c s e = let t = ap (λ (v : Version ℕ). v.timestamp) e in First (sym (name_of e)) (omega arith) (omega arith)
kind (suc (suc (suc (suc n)))) c s e = let t = ap (λ (v : Version ℕ). v.timestamp) e in Second (sym (name_of e)) (omega arith) (omega arith)

version_at : (place : ℕ) → 1 ≤ place → ((place ≤ 3) × (example_version place ≡ point 0 (place - 1))) ⊎ ((4 ≤ place) × (example_version place ≡ point 1 3))
version_at zero l = absurd (omega arith)
version_at (suc zero) l = inl (omega arith, refl)
version_at (suc (suc zero)) l = inl (omega arith, refl)
version_at (suc (suc (suc zero))) l = inl (omega arith, refl)
version_at (suc (suc (suc (suc n)))) l = inr (omega arith, refl)

further : (q i j : ℕ) → i ≤ j → example_place q i ≤ example_place q j
further zero i j l = omega arith
further (suc zero) i j l = omega arith
further (suc (suc zero)) i j l = omega arith
further (suc (suc (suc zero))) i j l = omega arith
further (suc (suc (suc (suc q)))) i j l = omega arith

-- who has the second branch saw it registered
second_seen : (q i : ℕ) → 4 ≤ example_place q i → 4 ≤ min ((i - 2) / 2) 5
second_seen zero i l = absurd (omega arith)
second_seen (suc zero) i l = omega arith
second_seen (suc (suc zero)) i l = absurd (omega arith)
second_seen (suc (suc (suc zero))) i l = absurd (omega arith)
second_seen (suc (suc (suc (suc q)))) i l = absurd (omega arith)

-- ---- its branches

which : (y : Birth ℕ) → IsIn example.births y → (second_branch ≡ y) ⊎ (first_branch ≡ y)
which y (inl e) = inl e
which y (inr (inl e)) = inr e
which y (inr (inr n)) = absurd n

first_in : IsIn example.births first_branch
first_in = inr (inl refl)

second_in : IsIn example.births second_branch
second_in = inl refl

is_first : (y : Birth ℕ) → IsIn example.births y → y.branch ≡ 0 → first_branch ≡ y
is_first y i e = elim (which y i) [
  | inl second ↦ let b = ap (λ (z : Birth ℕ). z.branch) second in absurd (omega arith)
  | inr first ↦ first
]

is_second : (y : Birth ℕ) → IsIn example.births y → y.branch ≡ 1 → second_branch ≡ y
is_second y i e = elim (which y i) [
  | inl second ↦ second
  | inr first ↦ let b = ap (λ (z : Birth ℕ). z.branch) first in absurd (omega arith)
]

history : IsHistory example.same example.births
history = (
  record {
    later = λ z i. elim i [ inl e ↦ let l = ap (λ (b : Birth ℕ). b.registered) e in omega arith | inr n ↦ absurd n ];
    fresh = λ z i. elim i [ inl e ↦ subst (λ (b : Birth ℕ). (1 == b.branch) ≡ false) e refl | inr n ↦ absurd n ];
    origin = λ c e. record { birth = first_branch; is_in = inl refl; name_is = cc };
  },
  (record { later = λ z i. absurd i; fresh = λ z i. absurd i; origin = λ c e. absurd (cc) }, tt),
)

-- ---- its decided points

stands : (t q moment from at : ℕ) → moment ≤ 13 → from ≤ min ((moment - 2) / 2) 5 → (example_contract (min ((moment - 2) / 2) 5)).primary ≡ Some 0 → (example_contract (min ((moment - 2) / 2) 5)).tenure ≡ 0
    → example.version q moment ≡ point 0 at → t ≤ at → Stands example first_branch t from q
stands t q moment from at w v p u e l = record { moment = moment; within = w; views = v; primary = p; tenure = u; at = at; version_is = e; reached = l }

pub write_decided : Decided example first_branch 1
write_decided = record {
  moment = 2;
  within = omega arith;
  life = refl;
  known = omega arith;
  primary = refl;
  tenure = refl;
  at = 1;
  version_is = refl;
  reached = omega arith;
  above = omega arith;
  counted = λ q. nat_lt q 2;
  most = omega arith;
  most_of_second = λ set e. absurd (cc);
  each = counted_write;
}
  where
    counted_write : (q : ℕ) → nat_lt q 2 ≡ true → Stands example first_branch 1 0 q
    counted_write zero h = stands 1 0 2 0 1 (omega arith) (omega arith) refl refl refl (omega arith)
    counted_write (suc zero) h = stands 1 1 2 0 1 (omega arith) (omega arith) refl refl refl (omega arith)
    counted_write (suc (suc q)) h = let l = ltb-true (suc (suc q)) 2 h in absurd (omega arith)

sync_decided : Decided example first_branch 2
sync_decided = record {
  moment = 5;
  within = omega arith;
  life = refl;
  known = omega arith;
  primary = refl;
  tenure = refl;
  at = 2;
  version_is = refl;
  reached = omega arith;
  above = omega arith;
  counted = λ q. nat_lt q 4;
  most = omega arith;
  most_of_second = λ set e. let is : 1 ∷ 2 ∷ 3 ∷ [] ≡ set = cc in subst (IsMost (λ q. nat_lt q 4)) is (omega arith);
  each = counted_sync;
}
  where
    counted_sync : (q : ℕ) → nat_lt q 4 ≡ true → Stands example first_branch 2 1 q
    counted_sync zero h = stands 2 0 5 1 2 (omega arith) (omega arith) refl refl refl (omega arith)
    counted_sync (suc zero) h = stands 2 1 5 1 2 (omega arith) (omega arith) refl refl refl (omega arith)
    counted_sync (suc (suc zero)) h = stands 2 2 5 1 2 (omega arith) (omega arith) refl refl refl (omega arith)
    counted_sync (suc (suc (suc zero))) h = stands 2 3 5 1 2 (omega arith) (omega arith) refl refl refl (omega arith)
    counted_sync (suc (suc (suc (suc q)))) h = let l = ltb-true (suc (suc (suc (suc q)))) 4 h in absurd (omega arith)

-- before it came to the contract with a second set, node 0 stood below the sync
below_sync : (i u : ℕ) → min ((i - 2) / 2) 5 < 1 → example_version (example_place 0 i) ≡ point 0 u → u < 2
below_sync i u l e = elim (kind (example_place 0 i) 0 u e) [
  | First n p low ↦ omega arith
  | Second n p high ↦ absurd (omega arith)
]

ready : Ready example 1
unfolding sync_decided
ready = record { branch = first_branch; is_in = first_in; sync = 2; decided = sync_decided; under = refl; first = below_sync }

pub goes_over : GoesOver example 1
goes_over = record { second_is = refl; since_is = refl; ready = ready }

-- ---- its election

report : (q : ℕ) → example.version q 8 ≡ point 0 2 → Report example 3 3 first_branch q
report q e = record {
  moment = 8;
  under = refl;
  projected = point 0 2;
  on_version = subst (λ (v : Version ℕ). on example.same (known 3 example.births) v (point 0 2) ≡ true) (sym e) refl;
  is_last = λ x t l o p. subst (λ (v : Version ℕ). on example.same (known 3 example.births) v x ≡ true) e o;
}

pub elected : Elected example 3 1
unfolding report
elected = record {
  view = 3;
  from = omega arith;
  upto = omega arith;
  current = first_branch;
  is_in = first_in;
  is_known = omega arith;
  is_newest = λ z i l. elim (which z i) [
    | inl second ↦ let b = ap (λ (y : Birth ℕ). y.registered) second in absurd (omega arith)
    | inr first ↦ let b = ap (λ (y : Birth ℕ). y.registered) first in omega arith
  ];
  votes = refl;
  report = report 1 refl;
  behind = λ q. nat_lt q 4;
  most = omega arith;
  reports = λ q h. report q (reported q h);
  reaches = λ q h. refl;
}
  where
    reported : (q : ℕ) → nat_lt q 4 ≡ true → example.version q 8 ≡ point 0 2
    reported zero h = refl
    reported (suc zero) h = refl
    reported (suc (suc zero)) h = refl
    reported (suc (suc (suc zero))) h = refl
    reported (suc (suc (suc (suc q)))) h = let l = ltb-true (suc (suc (suc (suc q)))) 4 h in absurd (omega arith)

-- ---- its contracts

contracts_last : (w u : ℕ) → (example_contract w).since ≤ u → u ≤ w → example_contract u ≡ example_contract w
contracts_last zero zero lo up = refl
contracts_last zero (suc u) lo up = absurd (omega arith)
contracts_last (suc zero) zero lo up = absurd (omega arith)
contracts_last (suc zero) (suc zero) lo up = refl
contracts_last (suc zero) (suc (suc u)) lo up = absurd (omega arith)
contracts_last (suc (suc zero)) zero lo up = absurd (omega arith)
contracts_last (suc (suc zero)) (suc zero) lo up = absurd (omega arith)
contracts_last (suc (suc zero)) (suc (suc zero)) lo up = refl
contracts_last (suc (suc zero)) (suc (suc (suc u))) lo up = absurd (omega arith)
contracts_last (suc (suc (suc zero))) zero lo up = absurd (omega arith)
contracts_last (suc (suc (suc zero))) (suc zero) lo up = absurd (omega arith)
contracts_last (suc (suc (suc zero))) (suc (suc zero)) lo up = absurd (omega arith)
contracts_last (suc (suc (suc zero))) (suc (suc (suc zero))) lo up = refl
contracts_last (suc (suc (suc zero))) (suc (suc (suc (suc u)))) lo up = absurd (omega arith)
contracts_last (suc (suc (suc (suc w)))) zero lo up = absurd (omega arith)
contracts_last (suc (suc (suc (suc w)))) (suc zero) lo up = absurd (omega arith)
contracts_last (suc (suc (suc (suc w)))) (suc (suc zero)) lo up = absurd (omega arith)
contracts_last (suc (suc (suc (suc w)))) (suc (suc (suc zero))) lo up = absurd (omega arith)
contracts_last (suc (suc (suc (suc w)))) (suc (suc (suc (suc u)))) lo up = refl

since_within : (w : ℕ) → (example_contract w).since ≤ w
since_within zero = omega arith
since_within (suc zero) = omega arith
since_within (suc (suc zero)) = omega arith
since_within (suc (suc (suc zero))) = omega arith
since_within (suc (suc (suc (suc w)))) = omega arith

tenure_within : (w : ℕ) → (example_contract w).tenure ≤ (example_contract w).since
tenure_within zero = omega arith
tenure_within (suc zero) = omega arith
tenure_within (suc (suc zero)) = omega arith
tenure_within (suc (suc (suc zero))) = omega arith
tenure_within (suc (suc (suc (suc w)))) = omega arith

-- node 0 leads up to index 2
leads_at_first : (w u : ℕ) → w < 3 → u ≤ w → ((example_contract u).primary ≡ Some 0) × ((example_contract u).tenure ≡ (example_contract w).tenure)
leads_at_first zero zero l k = (refl, refl)
leads_at_first zero (suc u) l k = absurd (omega arith)
leads_at_first (suc zero) zero l k = (refl, refl)
leads_at_first (suc zero) (suc zero) l k = (refl, refl)
leads_at_first (suc zero) (suc (suc u)) l k = absurd (omega arith)
leads_at_first (suc (suc zero)) zero l k = (refl, refl)
leads_at_first (suc (suc zero)) (suc zero) l k = (refl, refl)
leads_at_first (suc (suc zero)) (suc (suc zero)) l k = (refl, refl)
leads_at_first (suc (suc zero)) (suc (suc (suc u))) l k = absurd (omega arith)
leads_at_first (suc (suc (suc w))) u l k = absurd (omega arith)

tenures_last : (w u p : ℕ) → (example_contract w).primary ≡ Some p → (example_contract w).tenure ≤ u → u ≤ w → ((example_contract u).primary ≡ Some p) × ((example_contract u).tenure ≡ (example_contract w).tenure)
tenures_last zero u p e lo up = let f = leads_at_first 0 u (omega arith) up in (f.0 ∙ e, f.1)
tenures_last (suc zero) u p e lo up = let f = leads_at_first 1 u (omega arith) up in (f.0 ∙ e, f.1)
tenures_last (suc (suc zero)) u p e lo up = let f = leads_at_first 2 u (omega arith) up in (f.0 ∙ e, f.1)
tenures_last (suc (suc (suc zero))) u p e lo up = absurd (cc)
tenures_last (suc (suc (suc (suc w)))) u p e lo up =
    let is = contracts_last (suc (suc (suc (suc w)))) u lo up in
    (ap (λ (c : Contract). c.primary) is ∙ e, ap (λ (c : Contract). c.tenure) is)

few : (a b c d : Bool) → (a || (b || (c || false))) ≡ true → (a || (b || (c || (d || false)))) ≡ true
few true b c d e = refl
few false true c d e = refl
few false false true d e = refl
few false false false d e = absurd (cc)

more : (a b c d : Bool) → (b || (c || (d || false))) ≡ true → (a || (b || (c || (d || false)))) ≡ true
more true b c d e = refl
more false b c d e = e

voters_are_replicas : (w q : ℕ) → has (example_contract w).voters q ≡ true → has (example_contract w).replicas q ≡ true
voters_are_replicas zero q h = few (0 == q) (1 == q) (2 == q) (3 == q) h
voters_are_replicas (suc zero) q h = few (0 == q) (1 == q) (2 == q) (3 == q) h
voters_are_replicas (suc (suc zero)) q h = more (0 == q) (1 == q) (2 == q) (3 == q) h
voters_are_replicas (suc (suc (suc zero))) q h = more (0 == q) (1 == q) (2 == q) (3 == q) h
voters_are_replicas (suc (suc (suc (suc w)))) q h = more (0 == q) (1 == q) (2 == q) (3 == q) h

second_are_replicas : (w : ℕ) (set : List ℕ) (q : ℕ) → (example_contract w).second ≡ Some set → has set q ≡ true → has (example_contract w).replicas q ≡ true
second_are_replicas zero set q e h = absurd (cc)
second_are_replicas (suc zero) set q e h =
    let is : set ≡ 1 ∷ 2 ∷ 3 ∷ [] = cc in
    more (0 == q) (1 == q) (2 == q) (3 == q) (subst (λ (s : List ℕ). has s q ≡ true) is h)
second_are_replicas (suc (suc zero)) set q e h = absurd (cc)
second_are_replicas (suc (suc (suc zero))) set q e h = absurd (cc)
second_are_replicas (suc (suc (suc (suc w)))) set q e h = absurd (cc)

primary_is_replica : (w p : ℕ) → (example_contract w).primary ≡ Some p → has (example_contract w).replicas p ≡ true
primary_is_replica zero p e = let is : 0 ≡ p = cc in subst (λ q. has (0 ∷ 1 ∷ 2 ∷ 3 ∷ []) q ≡ true) is refl
primary_is_replica (suc zero) p e = let is : 0 ≡ p = cc in subst (λ q. has (0 ∷ 1 ∷ 2 ∷ 3 ∷ []) q ≡ true) is refl
primary_is_replica (suc (suc zero)) p e = let is : 0 ≡ p = cc in subst (λ q. has (0 ∷ 1 ∷ 2 ∷ 3 ∷ []) q ≡ true) is refl
primary_is_replica (suc (suc (suc zero))) p e = absurd (cc)
primary_is_replica (suc (suc (suc (suc w)))) p e = let is : 1 ≡ p = cc in subst (λ q. has (0 ∷ 1 ∷ 2 ∷ 3 ∷ []) q ≡ true) is refl

voters_stay : (w : ℕ) → ((example_contract (suc w)).voters ≡ (example_contract w).voters) ⊎ GoesOver example w
voters_stay zero = inl refl
voters_stay (suc zero) = inr goes_over
voters_stay (suc (suc zero)) = inl refl
voters_stay (suc (suc (suc zero))) = inl refl
voters_stay (suc (suc (suc (suc w)))) = inl refl

primaries_stay : (w p : ℕ) → (example_contract w).primary ≡ Some p → ((example_contract (suc w)).primary ≡ Some p) ⊎ ((example_contract (suc w)).primary ≡ None)
primaries_stay zero p e = inl e
primaries_stay (suc zero) p e = inl e
primaries_stay (suc (suc zero)) p e = inr refl
primaries_stay (suc (suc (suc zero))) p e = absurd (cc)
primaries_stay (suc (suc (suc (suc w)))) p e = inl e

primaries_are_elected : (w p : ℕ) → (example_contract w).primary ≡ None → (example_contract (suc w)).primary ≡ Some p → Elected example w p
primaries_are_elected zero p n e = absurd (cc)
primaries_are_elected (suc zero) p n e = absurd (cc)
primaries_are_elected (suc (suc zero)) p n e = absurd (cc)
primaries_are_elected (suc (suc (suc zero))) p n e = let is : 1 ≡ p = cc in subst (Elected example 3) is elected
primaries_are_elected (suc (suc (suc (suc w)))) p n e = absurd (cc)

registered_in_tenure : (y : Birth ℕ) → IsIn example.births y → ((example_contract y.registered).primary ≡ Some y.maker) × ((example_contract y.registered).tenure ≡ y.tenure)
registered_in_tenure y i = elim (which y i) [
  | inl second ↦ subst (λ (z : Birth ℕ). ((example_contract z.registered).primary ≡ Some z.maker) × ((example_contract z.registered).tenure ≡ z.tenure)) second (refl, refl)
  | inr first ↦ subst (λ (z : Birth ℕ). ((example_contract z.registered).primary ≡ Some z.maker) × ((example_contract z.registered).tenure ≡ z.tenure)) first (refl, refl)
]

-- ---- its nodes

makers_are_old : (y : Birth ℕ) (i : ℕ) → IsIn example.births y → y.registered ≤ example.view y.maker i → y.life ≤ 1
makers_are_old y i j l = elim (which y j) [
  | inl second ↦ let e = ap (λ (z : Birth ℕ). z.life) second in omega arith
  | inr first ↦ let e = ap (λ (z : Birth ℕ). z.life) first in omega arith
]

one_in_a_life : (y z : Birth ℕ) → IsIn example.births y → IsIn example.births z → y.maker ≡ z.maker → y.life ≡ z.life → y.tenure ≡ z.tenure → y.registered ≡ z.registered
one_in_a_life y z i j m l t = elim (which y i) [
  | inl p ↦ elim (which z j) [
    | inl q ↦ ap (λ (x : Birth ℕ). x.registered) (sym p ∙ q)
    | inr q ↦ let a = ap (λ (x : Birth ℕ). x.maker) p in let b = ap (λ (x : Birth ℕ). x.maker) q in absurd (omega arith)
  ]
  | inr p ↦ elim (which z j) [
    | inl q ↦ let a = ap (λ (x : Birth ℕ). x.maker) p in let b = ap (λ (x : Birth ℕ). x.maker) q in absurd (omega arith)
    | inr q ↦ ap (λ (x : Birth ℕ). x.registered) (sym p ∙ q)
  ]
]

pub asked : Asked example second_branch
asked = record { moment = 10; origin = refl; life = refl; primary = refl; tenure = refl; knew = knew }
  where
    knew : (z : Birth ℕ) → IsIn example.births z → z.registered < 5 → z.registered ≤ 4
    knew z i l = omega arith

was_asked : (y : Birth ℕ) → IsIn example.births y → 1 ≤ y.registered → Asked example y
was_asked y i l = elim (which y i) [
  | inl second ↦ subst (Asked example) second asked
  | inr first ↦ let e = ap (λ (z : Birth ℕ). z.registered) first in absurd (omega arith)
]

is_of_branch : (q i c s : ℕ) → example.version q i ≡ point c s → IsOfBranch example q i c s
is_of_branch q i c s e = elim (kind (example_place q i) c s e) [
  | First n p low ↦ record { birth = first_branch; is_in = first_in; name_is = sym n; above = omega arith; tenure = omega arith }
  | Second n p high ↦
      let seen = second_seen q i high in
      record { birth = second_branch; is_in = second_in; name_is = sym n; above = omega arith; tenure = seen }
]

in_range : (q i c s : ℕ) → example.version q i ≡ point c s → s ≤ 3
in_range q i c s e = elim (kind (example_place q i) c s e) [
  | First n p low ↦ omega arith
  | Second n p high ↦ omega arith
]

goes_on : (q i j : ℕ) → i ≤ j → StaysReplica example q i j → (y : Birth ℕ) (s : ℕ) → IsIn example.births y → example.version q i ≡ point y.branch s → GoesOn example q j y s
goes_on q i j l stays y s k e =
    let grows = further q i j l in
    elim (kind (example_place q i) y.branch s e) [
      | First n p low ↦
          let is = is_first y k n in
          elim (version_at (example_place q j) (omega arith)) [
            | inl at ↦ record { birth = first_branch; is_in = first_in; at = example_place q j - 1; version_is = at.1; forward = inr (is, omega arith) }
            | inr at ↦ record { birth = second_branch; is_in = second_in; at = 3; version_is = at.1; forward = inl (let r = ap (λ (z : Birth ℕ). z.registered) is in omega arith) }
          ]
      | Second n p high ↦
          let is = is_second y k n in
          elim (version_at (example_place q j) (omega arith)) [
            | inl at ↦ let low = at.0 in absurd (omega arith)
            | inr at ↦ record { birth = second_branch; is_in = second_in; at = 3; version_is = at.1; forward = inr (is, omega arith) }
          ]
    ]

log_facts : LogFacts example
log_facts = record {
  names = record { equal = λ a b e. eqb-true a b e; itself = λ a. eq-eqb a a refl };
  history = history;
  since_within = since_within;
  tenure_within = tenure_within;
  contracts_last = contracts_last;
  tenures_last = tenures_last;
  registered_in_tenure = registered_in_tenure;
  makers_are_old = makers_are_old;
  one_in_a_life = one_in_a_life;
  was_asked = was_asked;
}

pub facts : Facts example
facts = record {
  log = log_facts;
  voters_are_replicas = voters_are_replicas;
  second_are_replicas = second_are_replicas;
  primary_is_replica = primary_is_replica;
  voters_stay = voters_stay;
  primaries_stay = primaries_stay;
  primaries_are_elected = primaries_are_elected;
  views_grow = λ q i j l. omega arith;
  views_within = λ q. omega arith;
  lives_grow = λ q i j l. omega arith;
  is_of_branch = is_of_branch;
  in_range = in_range;
  goes_on = goes_on;
}
