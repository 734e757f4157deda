-- A node that has a point on its path keeps it.
use Rattle.std.proofs.Common.{◌≡◌, ◌⊎◌, ℕ, ◌≤◌, ◌<◌, true, Option, Some, None, inl, inr, refl, sym, ap, ◌∙◌, subst, arith}
use Rattle.path_facts.specs.Paths.{Version, Birth, point, on, IsIn}
use Rattle.path_facts.specs.Runs.{KeyRun, holds, own_contract, StaysReplica}
use Rattle.path_facts.specs.Decided.{Safe}
use Rattle.path_facts.specs.Invariant.{Facts}
use Rattle.path_facts.proofs.Contracts.{leads_no_more}
use Rattle.path_facts.proofs.Paths.{nothing_on, on_trans, on_forward, one_index, one_name, own_points, from_origin, whose}

-- a version has a branch or none
branch_cases : {B : Type 0} (o : Option B) → (o ≡ None) ⊎ ((c : B) × (o ≡ Some c))
branch_cases None = inl refl
branch_cases (Some c) = inr (c, refl)

point_is : {B : Type 0} (v : Version B) (c : B) → v.branch ≡ Some c → v ≡ point c v.timestamp
point_is v c e = λ i. record { branch = e i; timestamp = v.timestamp }

-- a node's version, which has a point on its path, by the birth of its branch
pub record Has {B : Type 0} (r : KeyRun B) (q i : ℕ) (b : Birth B) (t : ℕ) : Type 0 where
  pub birth : Birth B
  pub is_in : IsIn r.births birth
  pub at : ℕ
  pub version_is : r.version q i ≡ point birth.branch at
  pub whose_is : ((birth ≡ b) × (t ≤ at)) ⊎ ((b.registered < birth.registered) × (on r.same r.births birth.origin (point b.branch t) ≡ true))

module _ {B : Type 0} (r : KeyRun B) (f : Facts r) where
  -- ---- paths of this run

  pub trans : (v x y : Version B) → on r.same r.births v x ≡ true → on r.same r.births x y ≡ true → on r.same r.births v y ≡ true
  trans v x y = on_trans r.same f.names r.births v x y f.history

  pub own_point : (y : Birth B) (s t : ℕ) → IsIn r.births y → y.initial ≤ t → t ≤ s → on r.same r.births (point y.branch s) (point y.branch t) ≡ true
  own_point = own_points r.same f.names r.births f.history

  pub origin_point : (y : Birth B) (s : ℕ) (x : Version B) → IsIn r.births y → on r.same r.births y.origin x ≡ true → on r.same r.births (point y.branch s) x ≡ true
  origin_point = from_origin r.same f.names r.births f.history

  pub same_index : (y z : Birth B) → IsIn r.births y → IsIn r.births z → y.registered ≡ z.registered → y ≡ z
  same_index y z = one_index r.same f.names r.births y z f.history

  -- a node that stands at a point or above holds it
  pub stands_holds : (b : Birth B) (t q i at : ℕ) → IsIn r.births b → b.initial ≤ t → t ≤ at → r.version q i ≡ point b.branch at → holds r (point b.branch t) i q ≡ true
  stands_holds b t q i at j lo up e =
      subst (λ (v : Version B). on r.same r.births v (point b.branch t) ≡ true) (sym e) (own_point b at t j lo up)

  pub what_holds : (b : Birth B) (t q i : ℕ) → IsIn r.births b → holds r (point b.branch t) i q ≡ true → Has r q i b t
  what_holds b t q i j o =
      elim (branch_cases (r.version q i).branch) [
        | inl none ↦ absurd (nothing_on r.same f.names r.births (r.version q i) b.branch t none o)
        | inr c ↦
            let is : r.version q i ≡ point c.0 (r.version q i).timestamp = point_is (r.version q i) c.0 c.1 in
            let of = f.is_of_branch q i c.0 (r.version q i).timestamp is in
            let here : r.version q i ≡ point of.birth.branch (r.version q i).timestamp = is ∙ ap (λ (a : B). point a (r.version q i).timestamp) (sym of.name_is) in
            record {
              birth = of.birth;
              is_in = of.is_in;
              at = (r.version q i).timestamp;
              version_is = here;
              whose_is = whose r.same f.names r.births f.history of.birth b (r.version q i).timestamp t of.is_in j (subst (λ (v : Version B). on r.same r.births v (point b.branch t) ≡ true) here o);
            }
      ]

  -- What a node has, it keeps while it stays a replica, where each branch that was registered behind the point's, up to the
  -- one to which the node comes, goes on from the point.
  pub keep : (b : Birth B) (t index q i j : ℕ) → IsIn r.births b → Safe r b (point b.branch t) index → i ≤ j → StaysReplica r q i j
      → holds r (point b.branch t) i q ≡ true
      → ((y : Birth B) (s : ℕ) → IsIn r.births y → r.version q j ≡ point y.branch s → y.registered < index)
      → holds r (point b.branch t) j q ≡ true
  keep b t index q i j is_in safe l stays o bound =
      let h = what_holds b t q i is_in o in
      let g = f.goes_on q i j l stays h.birth h.at h.is_in h.version_is in
      let below = bound g.birth g.at g.is_in g.version_is in
      let later : b.registered < g.birth.registered → holds r (point b.branch t) j q ≡ true =
      λ after. subst (λ (v : Version B). on r.same r.births v (point b.branch t) ≡ true) (sym g.version_is) (origin_point g.birth g.at (point b.branch t) g.is_in (safe g.birth g.is_in after below)) in
      elim g.forward [
        | inl after ↦ elim h.whose_is [
          | inl own ↦ later (let e = ap (λ (a : Birth B). a.registered) own.0 in omega arith)
          | inr older ↦ later (let e = older.0 in omega arith)
        ]
        | inr same ↦
            let up = same.1 in
            let at : r.version q j ≡ point h.birth.branch g.at = g.version_is ∙ ap (λ (a : Birth B). point a.branch g.at) same.0 in
            let before : on r.same r.births (point h.birth.branch h.at) (point b.branch t) ≡ true = subst (λ (v : Version B). on r.same r.births v (point b.branch t) ≡ true) h.version_is o in
            subst (λ (v : Version B). on r.same r.births v (point b.branch t) ≡ true) (sym at)
            (on_forward r.same f.names r.births (point h.birth.branch h.at) (point h.birth.branch g.at) (point b.branch t) refl up before)
      ]

  -- where the contract of a node's table has no primary, its version's branch was registered before that contract came
  pub registered_before : (q i : ℕ) (y : Birth B) (s : ℕ) → IsIn r.births y → r.version q i ≡ point y.branch s → (own_contract r q i).primary ≡ None → y.registered < (own_contract r q i).since
  registered_before q i y s j e none =
      let of = f.is_of_branch q i y.branch s e in
      let is : of.birth ≡ y = one_name r.same f.names r.births of.birth y f.history of.is_in j of.name_is in
      let begun : y.tenure ≤ r.view q i = subst (λ (z : Birth B). z.tenure ≤ r.view q i) is of.tenure in
      let reg = f.registered_in_tenure y j in
      leads_no_more r f.log y.registered (r.view q i) y.maker reg.0 none (subst (λ n. n ≤ r.view q i) (sym reg.1) begun)
