-- Who holds decided points.
use Rattle.std.proofs.Common.{◌≡◌, ◌⊎◌, ℕ, ◌≤◌, ◌<◌, true, List, [], ◌∷◌, Some, inl, inr, refl, sym, subst, arith}
use Rattle.std.proofs.lemmas.Bool.{and_from, cases_lt, cases_order}
use Rattle.path_facts.specs.Paths.{Birth, point, on, IsIn}
use Rattle.path_facts.specs.Runs.{Contract, KeyRun, has, IsMost, holds, StaysReplica}
use Rattle.path_facts.specs.Decided.{Decided, DecidedPoint, place, holds_all}
use Rattle.path_facts.specs.Invariant.{Ready, Facts}
use Rattle.path_facts.proofs.Contracts.{since_grows}
use Rattle.path_facts.proofs.Keeping.{trans, own_point, origin_point, same_index, stands_holds, keep}
use Rattle.path_facts.proofs.Majorities.{most_pass}
use Rattle.path_facts.proofs.Paths.{all_before}
use Rattle.path_facts.proofs.Quorums.{Stood, quorum, second_rests}
use Rattle.path_facts.proofs.Staying.{safe_upto, decided_stays}

module _ {B : Type 0} (r : KeyRun B) (f : Facts r) where
  module _ (b : Birth B) (t : ℕ) (i : IsIn r.births b) (d : Decided r b t) where
    -- a decided point is on the path of each version of a branch that was registered behind its own, and of each later one of its own
    pub on_versions : (y : Birth B) (s : ℕ) → IsIn r.births y → (b.registered < y.registered) ⊎ ((b.registered ≡ y.registered) × (t ≤ s))
        → on r.same r.births (point y.branch s) (point b.branch t) ≡ true
    on_versions y s j (inl after) = origin_point r f y s (point b.branch t) j (decided_stays r f b t i d y j after)
    on_versions y s j (inr own) =
        let is = same_index r f b y i j own.0 in
        subst (λ (z : Birth B). on r.same r.births (point z.branch s) (point b.branch t) ≡ true) is (own_point r f b s t i d.above own.1)

    -- a node that holds it goes on holding it, while it stays a replica by its own table
    pub lasts : (q m n : ℕ) → m ≤ n → StaysReplica r q m n → holds r (point b.branch t) m q ≡ true → holds r (point b.branch t) n q ≡ true
    lasts q m n l stays o =
        let all = all_before r.same f.names r.births f.history in
        keep r f b t all.0 q m n i (safe_upto r f b t i d all.0) l stays o (λ y s j e. all.1 y j)

    -- the nodes that were counted held it as they were
    pub counted_hold : (q : ℕ) (c : d.counted q ≡ true) → holds r (point b.branch t) (d.each q c).moment q ≡ true
    counted_hold q c = let s = d.each q c in stands_holds r f b t q s.moment s.at i d.above s.reached s.version_is

    -- who had it, and is a replica from then on up to the last index, holds it at the end
    member_lasts : (index q : ℕ) (m : Stood r (point b.branch t) index q) → ((u : ℕ) → index ≤ u → u ≤ r.last → has (r.contract u).replicas q ≡ true)
        → holds r (point b.branch t) r.end q ≡ true
    member_lasts index q m replica =
        lasts q m.moment r.end m.within
        (λ n lo up.
        let first = f.views_grow q m.moment n lo in
        let second = f.views_grow q n r.end up in
        let views = m.views in
        let within = f.views_within q in
        replica (r.view q n) (omega arith) (omega arith))
        m.has_it

    -- the contract under which it was decided came no later than the last one
    came : r.view b.maker d.moment ≤ r.last
    came = let range = f.views_grow b.maker d.moment r.end d.within in let last = f.views_within b.maker in omega arith

    -- more than half of the voters of the last contract hold it at the end
    pub held : IsMost (holds r (point b.branch t) r.end) (r.contract r.last).voters
    held =
        let range = came in
        let since = f.since_within (r.view b.maker d.moment) in
        let s = quorum r f b t (r.contract r.last).since i d (safe_upto r f b t i d (r.contract r.last).since) r.last (omega arith) (omega arith) in
        most_pass s.set (holds r (point b.branch t) r.end) (r.contract r.last).voters s.most
        (λ q votes is_set. let m = s.each q votes is_set in member_lasts s.index q m.stood m.replica)

    -- and where its primary is ready, more than half of its second set
    pub held_by_second : (set : List ℕ) → (r.contract r.last).second ≡ Some set → Ready r r.last → IsMost (holds r (point b.branch t) r.end) set
    held_by_second set second g =
        let all = all_before r.same f.names r.births f.history in
        let s = second_rests r f b t all.0 i d (safe_upto r f b t i d all.0) r.last set second g (all.1 g.branch g.is_in) (since_grows r f.log (r.view b.maker d.moment) r.last came) in
        most_pass s.counted (holds r (point b.branch t) r.end) set s.most
        (λ q is_in counted. member_lasts (r.contract r.last).since q (s.each q counted)
        (λ u lo up. subst (λ (c : Contract). has c.replicas q ≡ true) (sym (f.contracts_last r.last u lo up)) (f.second_are_replicas r.last set q second is_in)))

  -- ---- all decided points

  -- of two decided points one is on the path of the other
  pub ordered : (p o : DecidedPoint r) → (on r.same r.births (place r p) (place r o) ≡ true) ⊎ (on r.same r.births (place r o) (place r p) ≡ true)
  ordered p o =
      let over : (x y : DecidedPoint r) → (x.birth.registered < y.birth.registered) ⊎ ((x.birth.registered ≡ y.birth.registered) × (x.timestamp ≤ y.timestamp))
      → on r.same r.births (place r y) (place r x) ≡ true = λ x y h. on_versions x.birth x.timestamp x.is_in x.decided y.birth y.timestamp y.is_in h in
      elim (cases_order p.birth.registered o.birth.registered) [
        | inl same ↦ elim (cases_lt p.timestamp o.timestamp) [
          | inl less ↦ inr (over p o (inr (same, omega arith)))
          | inr more ↦ inl (over o p (inr (sym same, more)))
        ]
        | inr (inl less) ↦ inr (over p o (inl less))
        | inr (inr more) ↦ inl (over o p (inl more))
      ]

  -- so one of some has all of them on its path
  greatest : (p : DecidedPoint r) (ps : List (DecidedPoint r)) → (o : DecidedPoint r) × ((x : DecidedPoint r) → IsIn (p ∷ ps) x → on r.same r.births (place r o) (place r x) ≡ true)
  greatest p [] = (
    p,
    λ x i. elim i [
      | inl is ↦ subst (λ (y : DecidedPoint r). on r.same r.births (place r p) (place r y) ≡ true) is (own_point r f p.birth p.timestamp p.timestamp p.is_in p.decided.above (omega arith))
      | inr none ↦ absurd none
    ],
  )
  greatest p (n ∷ ps) =
      let rest = greatest n ps in
      elim (ordered p rest.0) [
        | inl above ↦ (
          p,
          λ x i. elim i [
            | inl is ↦ subst (λ (y : DecidedPoint r). on r.same r.births (place r p) (place r y) ≡ true) is (own_point r f p.birth p.timestamp p.timestamp p.is_in p.decided.above (omega arith))
            | inr later ↦ trans r f (place r p) (place r rest.0) (place r x) above (rest.1 x later)
          ],
        )
        | inr below ↦ (
          rest.0,
          λ x i. elim i [
            | inl is ↦ subst (λ (y : DecidedPoint r). on r.same r.births (place r rest.0) (place r y) ≡ true) is below
            | inr later ↦ rest.1 x later
          ],
        )
      ]

  has_all : (o : DecidedPoint r) (ps : List (DecidedPoint r)) (q : ℕ) → ((x : DecidedPoint r) → IsIn ps x → on r.same r.births (place r o) (place r x) ≡ true)
      → holds r (place r o) r.end q ≡ true → holds_all r ps q ≡ true
  has_all o [] q h has_it = refl
  has_all o (p ∷ ps) q h has_it =
      and_from (holds r (place r p) r.end q) (holds_all r ps q)
      (trans r f (r.version q r.end) (place r o) (place r p) has_it (h p (inl refl)))
      (has_all o ps q (λ x i. h x (inr i)) has_it)

  -- more than half of the voters hold all of some decided points
  pub all_held : (p : DecidedPoint r) (ps : List (DecidedPoint r)) → IsMost (holds_all r (p ∷ ps)) (r.contract r.last).voters
  all_held p ps =
      let last = greatest p ps in
      let o = last.0 in
      most_pass (holds r (place r o) r.end) (holds_all r (p ∷ ps)) (r.contract r.last).voters (held o.birth o.timestamp o.is_in o.decided)
      (λ q votes has_it. has_all o (p ∷ ps) q last.1 has_it)

  pub all_held_by_second : (set : List ℕ) → (r.contract r.last).second ≡ Some set → Ready r r.last → (p : DecidedPoint r) (ps : List (DecidedPoint r)) → IsMost (holds_all r (p ∷ ps)) set
  all_held_by_second set second g p ps =
      let last = greatest p ps in
      let o = last.0 in
      most_pass (holds r (place r o) r.end) (holds_all r (p ∷ ps)) set (held_by_second o.birth o.timestamp o.is_in o.decided set second g)
      (λ q is_in has_it. has_all o (p ∷ ps) q last.1 has_it)
