-- Tests of whether two values are the same.
use Rattle.std.specs.Prelude.{◌≡◌, ◌↔◌, ℕ, ◌==◌, Bool, true, false, ◌&&◌, not, Option, Some, None}
use Rattle.std.proofs.Common.{refl, ap, ap₂}
use Rattle.std.proofs.lemmas.Bool.{and_parts, and_from, eqb-true, eq-eqb}
use Rattle.region_map.specs.declared.id.Id.{Id}
use Rattle.region_map.specs.declared.id.NodeId.{NodeId}

-- a test that holds of a value and itself alone
abbrev pub Decides : {V : Type 0} → (V → V → Bool) → Type 0
Decides {V} same = (a b : V) → (same a b ≡ true) ↔ (a ≡ b)

abbrev pub same_bool : Bool → Bool → Bool
same_bool true b = b
same_bool false b = not b

abbrev pub same_node : NodeId → NodeId → Bool
same_node a b = a.0 == b.0

abbrev pub same_id : Id → Id → Bool
same_id a b = ((a.node.0 == b.node.0) && (a.life == b.life)) && (a.counter == b.counter)

-- both none, or two values that are the same
abbrev pub same_option : {V : Type 0} → (V → V → Bool) → Option V → Option V → Bool
same_option same None None = true
same_option same None (Some b) = false
same_option same (Some a) None = false
same_option same (Some a) (Some b) = same a b

abbrev pub same_pair : {V W : Type 0} → (V → V → Bool) → (W → W → Bool) → V × W → V × W → Bool
same_pair first second a b = first a.0 b.0 && second a.1 b.1

-- ---- each of these decides

pub bool_decides : Decides same_bool
bool_decides true true = (λ e. refl, λ e. refl)
bool_decides true false = (λ e. absurd (cc), λ e. absurd (cc))
bool_decides false true = (λ e. absurd (cc), λ e. absurd (cc))
bool_decides false false = (λ e. refl, λ e. refl)

pub number_decides : Decides (λ (a b : ℕ). a == b)
number_decides a b = (eqb-true a b, eq-eqb a b)

pub node_decides : Decides same_node
node_decides a b = (λ e. let n = eqb-true a.0 b.0 e in λ i. record { 0 = n i }, λ e. eq-eqb a.0 b.0 (ap (λ (x : NodeId). x.0) e))

pub id_decides : Decides same_id
id_decides a b = (there, back)
  where
    there : same_id a b ≡ true → a ≡ b
    there e =
        let p = and_parts _ _ e in
        let q = and_parts _ _ p.0 in
        let n = eqb-true a.node.0 b.node.0 q.0 in
        let l = eqb-true a.life b.life q.1 in
        let c = eqb-true a.counter b.counter p.1 in
        λ i. record { node = record { 0 = n i }; life = l i; counter = c i }

    back : a ≡ b → same_id a b ≡ true
    back e =
        and_from _ _ (and_from _ _ (eq-eqb a.node.0 b.node.0 (ap (λ (x : Id). x.node.0) e)) (eq-eqb a.life b.life (ap (λ (x : Id). x.life) e)))
        (eq-eqb a.counter b.counter (ap (λ (x : Id). x.counter) e))

pub option_decides : {V : Type 0} (same : V → V → Bool) → Decides same → Decides (same_option same)
option_decides same d None None = (λ e. refl, λ e. refl)
option_decides same d None (Some b) = (λ e. absurd (cc), λ e. absurd (cc))
option_decides same d (Some a) None = (λ e. absurd (cc), λ e. absurd (cc))
option_decides {V} same d (Some a) (Some b) = (λ e. ap Some ((d a b).0 e), λ e. (d a b).1 (inside a b e))
  where
    inside : (a b : V) → Some a ≡ Some b → a ≡ b
    inside a b e = cc

pub pair_decides : {V W : Type 0} (first : V → V → Bool) (second : W → W → Bool) → Decides first → Decides second → Decides (same_pair first second)
pair_decides first second d t (a, x) (b, y) = (
  λ e. let p = and_parts _ _ e in ap₂ (λ u v. (u, v)) ((d a b).0 p.0) ((t x y).0 p.1),
  λ e. and_from _ _ ((d a b).1 (ap (λ u. u.0) e)) ((t x y).1 (ap (λ u. u.1) e)),
)
