-- The walk of two versions ends at their last common point.
use Rattle.std.proofs.Common.{◌≡◌, ℕ, ◌<◌, ◌≤◌, Bool, true, false, cond, ◌&&◌, ◌||◌, nat_lt, nat_le, min, List, [], ◌∷◌, Option, Some, None, inl, inr, refl, sym, ap, ◌∙◌, subst}
use Rattle.std.proofs.lemmas.Bool.{cases_lt, lt-ltb, or_parts}
use Rattle.std.specs.List.{list_any}
use Rattle.region_map.specs.declared.id.Id.{Id}
use Rattle.region_map.specs.declared.region.Region.{Region}
use Rattle.region_map.specs.Regions.{in_region}
use Rattle.region_map.specs.Maps.{Pieced, IsCanonical, value_at}
use Rattle.region_map.proofs.Bands.{none_beyond}
use Rattle.branch_history.specs.declared.version.Version.{Version}
use Rattle.branch_history.specs.declared.walk.Walk.{Walk}
use Rattle.branch_history.specs.declared.walk.Walk.TheVariants.{Going, At}
use Rattle.branch_history.specs.declared.history.BranchBirth.{BranchBirth}
use Rattle.branch_history.specs.Paths.{Branches, is_branch, zero, or_zero, ancestor, whole, both_at}
use Rattle.branch_history.specs.Walks.{origin_in, met, stands_on, stepped, walked, started, aimed, within, on, ended, walked_at}

pub walked_stays : (bs : Branches) (h : ℕ) (k : List ℕ) (x : Version) → walked bs h k (At x) ≡ x
walked_stays [] h k x = refl
walked_stays (b ∷ bs) h k x = walked_stays bs h k x

pub walked_going : (bs : Branches) (h : ℕ) (k : List ℕ) (v w : Version) → walked bs h k (Going v w) ≡ ancestor bs h k v w
walked_going [] h k v w = refl
walked_going (b ∷ bs) h k v w =
    let o = value_at b.1.origin.pieces h k in
    let start = or_zero o in
    let low : Version = record { branch = Some b.0; timestamp = min v.timestamp w.timestamp } in
    let i = nat_le b.1.initial (min v.timestamp w.timestamp) in
    elim (is_branch v b.0) as (λ p. walked bs h k (cond (p || is_branch w b.0) (met b.0 b.1.initial v w p (is_branch w b.0) (cond (in_region b.1.region h k) (Some o) None)) (Going v w))
    ≡ cond p (cond (in_region b.1.region h k) (cond (is_branch w b.0) (cond i low (ancestor bs h k start start)) (ancestor bs h k start w)) zero)
    (cond (is_branch w b.0) (cond (in_region b.1.region h k) (ancestor bs h k v start) zero) (ancestor bs h k v w))) [
      | true ↦ elim (in_region b.1.region h k) as (λ r. walked bs h k (met b.0 b.1.initial v w true (is_branch w b.0) (cond r (Some o) None))
          ≡ cond r (cond (is_branch w b.0) (cond i low (ancestor bs h k start start)) (ancestor bs h k start w)) zero) [
            | true ↦ elim (is_branch w b.0) as (λ q. walked bs h k (met b.0 b.1.initial v w true q (Some o)) ≡ cond q (cond i low (ancestor bs h k start start)) (ancestor bs h k start w)) [
              | true ↦ elim i as (λ t. walked bs h k (cond t (At low) (Going start start)) ≡ cond t low (ancestor bs h k start start)) [
                | true ↦ walked_stays bs h k low
                | false ↦ walked_going bs h k start start
              ]
              | false ↦ walked_going bs h k start w
            ]
            | false ↦ walked_stays bs h k zero
          ]
      | false ↦ elim (is_branch w b.0) as (λ q. walked bs h k (cond q (met b.0 b.1.initial v w false q (cond (in_region b.1.region h k) (Some o) None)) (Going v w))
          ≡ cond q (cond (in_region b.1.region h k) (ancestor bs h k v start) zero) (ancestor bs h k v w)) [
            | true ↦ elim (in_region b.1.region h k) as (λ r. walked bs h k (met b.0 b.1.initial v w false true (cond r (Some o) None)) ≡ cond r (ancestor bs h k v start) zero) [
              | true ↦ walked_going bs h k v start
              | false ↦ walked_stays bs h k zero
            ]
            | false ↦ walked_going bs h k v w
          ]
    ]

pub started_at : (bs : Branches) (h : ℕ) (k : List ℕ) (a b : Option Version) → walked_at bs h k (started a b) ≡ both_at (ancestor bs h k) a b
started_at bs h k None b = refl
started_at bs h k (Some v) None = refl
started_at bs h k (Some v) (Some w) = ap Some (walked_going bs h k v w)

pub aimed_at : (bs : Branches) (h : ℕ) (k : List ℕ) (a : Option Version) (b : Option Id) → walked_at bs h k (aimed a b) ≡ both_at (λ v id. ancestor bs h k v (whole id)) a b
aimed_at bs h k None b = refl
aimed_at bs h k (Some v) None = refl
aimed_at bs h k (Some v) (Some id) = ap Some (walked_going bs h k v (whole id))

pub ended_at : (h : ℕ) (k : List ℕ) (x : Option Walk) → ended x x ≡ walked_at [] h k x
ended_at h k None = refl
ended_at h k (Some walk) = refl

-- a map of what two maps give together, also beyond the hashes that they have
module _ {V W X : Type 0} where
  pub zip_everywhere : (m : Pieced V) (n : Pieced W) (r : Pieced X) (f : Option V → Option W → Option X) (h : ℕ) (k : List ℕ) → IsCanonical m → f None (value_at n.pieces h k) ≡ None
      → (h < m.hashes → value_at r.pieces h k ≡ f (value_at m.pieces h k) (value_at n.pieces h k)) → (m.hashes ≤ h → value_at r.pieces h k ≡ None)
      → value_at r.pieces h k ≡ f (value_at m.pieces h k) (value_at n.pieces h k)
  zip_everywhere m n r f h k c e at beyond =
      elim (cases_lt h m.hashes) [
        | inl lt ↦ at lt
        | inr ge ↦ beyond ge ∙ sym e ∙ ap (λ x. f x (value_at n.pieces h k)) (sym (none_beyond m h k c ge))
      ]

within_by : (r : Bool) (o : Option Version) → within (cond r (Some true) None) o ≡ cond r (Some o) None
within_by true o = refl
within_by false o = refl

pub step_at : (b : Id × BranchBirth) (walks new : Pieced Walk) (here : Pieced Bool) (origins : Pieced (Option Version)) (copy : Region) (n h : ℕ) (k : List ℕ) → IsCanonical walks
    → n ≡ walks.hashes → copy ≡ b.1.region → here.hashes ≡ n
    → value_at here.pieces h k ≡ cond (nat_lt h n && in_region copy h k) (Some true) None
    → (h < here.hashes → value_at origins.pieces h k ≡ within (value_at here.pieces h k) (value_at b.1.origin.pieces h k))
    → (h < walks.hashes → value_at new.pieces h k ≡ on b.0 b.1.initial (value_at walks.pieces h k) (value_at origins.pieces h k))
    → (walks.hashes ≤ h → value_at new.pieces h k ≡ None)
    → value_at new.pieces h k ≡ on b.0 b.1.initial (value_at walks.pieces h k) (origin_in b.1 h k)
step_at b walks new here origins copy n h k c en ec eh at_here at_origins at beyond =
    elim (cases_lt h walks.hashes) [
      | inl lt ↦
          let i : h < n = subst (λ x. h < x) (sym en) lt in
          let j : h < here.hashes = subst (λ x. h < x) (sym eh) i in
          at lt ∙ ap (on b.0 b.1.initial (value_at walks.pieces h k))
          (at_origins j
          ∙ ap (λ x. within x (value_at b.1.origin.pieces h k))
          (at_here ∙ ap (λ x. cond (x && in_region copy h k) (Some true) None) (lt-ltb h n i) ∙ ap (λ x. cond (in_region x h k) (Some true) None) ec)
          ∙ within_by (in_region b.1.region h k) (value_at b.1.origin.pieces h k))
      | inr ge ↦ beyond ge ∙ sym (ap (λ x. on b.0 b.1.initial x (origin_in b.1 h k)) (none_beyond walks h k c ge))
    ]

-- a branch that no walk stands on changes none
stays : (id : Id) (initial : ℕ) (walk : Walk) (o : Option (Option Version)) → stands_on walk id ≡ false → stepped id initial walk o ≡ walk
stays id initial (At x) o e = refl
stays id initial (Going v w) o e = ap (λ c. cond c (met id initial v w (is_branch v id) (is_branch w id) o) (Going v w)) e

pub all_stay : (id : Id) (initial : ℕ) (ps : List (Region × Walk)) (o : Option (Option Version)) (h : ℕ) (k : List ℕ) → list_any (λ p. stands_on p.1 id) ps ≡ false
    → value_at ps h k ≡ on id initial (value_at ps h k) o
all_stay id initial [] o h k e = refl
all_stay id initial (p ∷ ps) o h k e =
    let parts = or_parts (stands_on p.1 id) (list_any (λ p. stands_on p.1 id) ps) e in
    elim (in_region p.0 h k) as (λ c. cond c (Some p.1) (value_at ps h k) ≡ on id initial (cond c (Some p.1) (value_at ps h k)) o) [
      | true ↦ ap Some (sym (stays id initial p.1 o parts.0))
      | false ↦ all_stay id initial ps o h k parts.1
    ]
