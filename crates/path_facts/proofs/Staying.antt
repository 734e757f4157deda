-- A decided point is on the path of each branch that is registered after its own.
use Rattle.std.proofs.Common.{◌≡◌, ℕ, zero, suc, ◌≤◌, ◌<◌, true, Some, inl, inr, sym, ap, ◌∙◌, subst, arith}
use Rattle.std.proofs.lemmas.Bool.{cases_lt, cases_eq}
use Rattle.path_facts.specs.Paths.{Version, Birth, point, on, IsIn}
use Rattle.path_facts.specs.Runs.{Contract, KeyRun, has, holds, own_contract, StaysReplica}
use Rattle.path_facts.specs.Decided.{Decided, Safe}
use Rattle.path_facts.specs.Invariant.{Asked, Facts}
use Rattle.path_facts.proofs.Contracts.{none_leads, since_is, at_since, between, tenure_before, tenures_rise, leads_no_more, tenure_of, branches_rise, one_maker}
use Rattle.path_facts.proofs.Elections.{winner_holds}
use Rattle.path_facts.proofs.Holding.{member_holds}
use Rattle.path_facts.proofs.Keeping.{own_point, origin_point, same_index, stands_holds, keep}
use Rattle.path_facts.proofs.Leading.{IsLed, Gap, last_gap, leads_on}
use Rattle.path_facts.proofs.Paths.{one_name, origin_from}
use Rattle.path_facts.proofs.Quorums.{quorum}
use Rattle.path_facts.proofs.Lives.{made_later}

module _ {B : Type 0} (r : KeyRun B) (f : Facts r) (b : Birth B) (t : ℕ) (i : IsIn r.births b) (d : Decided r b t) where
  -- one node leads from the moment at which a point was decided to the one at which a later branch was asked for
  record Reign (y : Birth B) (a : Asked r y) : Type 0 where
    maker : b.maker ≡ y.maker
    order : d.moment ≤ a.moment
    leads : (w : ℕ) → r.view b.maker d.moment ≤ w → w ≤ r.view y.maker a.moment → (r.contract w).primary ≡ Some y.maker

  module _ (y : Birth B) (j : IsIn r.births y) (after : b.registered < y.registered) (safe : Safe r b (point b.branch t) y.registered) (a : Asked r y) where
    -- as a branch was asked for, its maker's version was of a branch that was registered before it
    origin_bound : (z : Birth B) (s : ℕ) → IsIn r.births z → r.version y.maker a.moment ≡ point z.branch s → z.registered < y.registered
    origin_bound z s k e =
        let is = ap (λ (v : Version B). v.branch) (sym a.origin ∙ e) in
        let from = origin_from r.same f.names r.births y f.history j z.branch is in
        let same : from.0 ≡ z = one_name r.same f.names r.births from.0 z f.history from.1 k from.2 in
        subst (λ (x : Birth B). x.registered < y.registered) same from.3

    -- so what the maker has at a moment before, and keeps as a replica, is on the path of the origin
    from_maker : (m : ℕ) → m ≤ a.moment → StaysReplica r y.maker m a.moment → holds r (point b.branch t) m y.maker ≡ true → on r.same r.births y.origin (point b.branch t) ≡ true
    from_maker m l stays o =
        subst (λ (v : Version B). on r.same r.births v (point b.branch t) ≡ true) a.origin
        (keep r f b t y.registered y.maker m a.moment i safe l stays o origin_bound)

    -- ---- one reign

    within_reign : Reign y a → on r.same r.births y.origin (point b.branch t) ≡ true
    within_reign reign =
        let maker = reign.maker in
        let own : r.version y.maker d.moment ≡ point b.branch d.at = ap (λ n. r.version n d.moment) (sym maker) ∙ d.version_is in
        let view : r.view b.maker d.moment ≡ r.view y.maker d.moment = ap (λ n. r.view n d.moment) maker in
        from_maker d.moment reign.order
        (λ n lo up.
        let first = f.views_grow y.maker d.moment n lo in
        let second = f.views_grow y.maker n a.moment up in
        f.primary_is_replica (r.view y.maker n) y.maker (reign.leads (r.view y.maker n) (omega arith) second))
        (stands_holds r f b t y.maker d.moment d.at i d.above d.reached own)

    same_tenure : b.tenure ≡ y.tenure → Reign y a
    same_tenure e =
        let maker : b.maker ≡ y.maker = one_maker r f.log b y i j (omega arith) e in
        let lives = made_later r f.log b y i j after e in
        let first = d.life in
        let second : r.life b.maker a.moment ≡ y.life = ap (λ n. r.life n a.moment) maker ∙ a.life in
        let own = d.tenure in
        let asked = a.tenure in
        let begun = tenure_before r f.log (r.view b.maker d.moment) in
        record {
          maker = maker;
          order = elim (cases_lt a.moment d.moment) [
            | inl sooner ↦ let back = f.lives_grow b.maker a.moment d.moment (omega arith) in absurd (omega arith)
            | inr later ↦ later
          ];
          leads = λ w lo up. (f.tenures_last (r.view y.maker a.moment) w y.maker a.primary (omega arith) up).0;
        }

    later_tenure : b.tenure < y.tenure → ((u : ℕ) → (own_contract r b.maker d.moment).since ≤ u → u ≤ y.registered → IsLed r u) → Reign y a
    later_tenure less led =
        let own = d.tenure in
        let asked = a.tenure in
        let registered = f.registered_in_tenure y j in
        let tenure = registered.1 in
        let from = tenure_of r f.log y j in
        let since = f.since_within (r.view b.maker d.moment) in
        let begun : (own_contract r b.maker d.moment).since ≤ y.registered = elim (cases_lt y.registered (own_contract r b.maker d.moment).since) [
          | inl before ↦
              let same = (f.tenures_last (r.view b.maker d.moment) y.registered b.maker d.primary (omega arith) (omega arith)).1 in
              absurd (omega arith)
          | inr after ↦ after
        ] in
        let leads : (w : ℕ) → (own_contract r b.maker d.moment).since ≤ w → w ≤ y.registered → (r.contract w).primary ≡ Some b.maker =
        λ w lo up. leads_on r f (own_contract r b.maker d.moment).since w b.maker lo
        (ap (λ (c : Contract). c.primary) (at_since r f.log (r.view b.maker d.moment)) ∙ d.primary)
        (λ v after upto. led v (omega arith) (omega arith)) in
        let both : Some b.maker ≡ Some y.maker = sym (leads y.registered begun (omega arith)) ∙ registered.0 in
        let maker : b.maker ≡ y.maker = cc in
        let view : r.view b.maker a.moment ≡ r.view y.maker a.moment = ap (λ n. r.view n a.moment) maker in
        record {
          maker = maker;
          order = elim (cases_lt a.moment d.moment) [
            | inl sooner ↦
                let back = f.views_grow b.maker a.moment d.moment (omega arith) in
                let falls = tenures_rise r f.log (r.view y.maker a.moment) (r.view b.maker d.moment) y.maker b.maker (omega arith) a.primary d.primary in
                absurd (omega arith)
            | inr later ↦ later
          ];
          leads = λ w lo up. elim (cases_lt y.registered w) [
            | inl behind ↦ (f.tenures_last (r.view y.maker a.moment) w y.maker a.primary (omega arith) up).0
            | inr before ↦ leads w (omega arith) before ∙ both
          ];
        }

    -- ---- an election between

    elected : (gap : Gap r y.registered) → (own_contract r b.maker d.moment).since ≤ gap.index → on r.same r.births y.origin (point b.branch t) ≡ true
    elected gap from =
        let x : Version B = point b.branch t in
        let u : ℕ = gap.index in
        let none = gap.none in
        let own = d.tenure in
        let within = f.tenure_within (r.view b.maker d.moment) in
        let registered = f.registered_in_tenure y j in
        let first = f.registered_in_tenure b i in
        let old = first.1 in
        let tenure = registered.1 in
        let asked = a.tenure in
        let begun = tenure_of r f.log y j in
        let apart : u ≡ y.registered → ⊥ = λ e. none_leads (r.contract u).primary y.maker none (ap (λ k. (r.contract k).primary) e ∙ registered.0) in
        let upto = gap.within in
        let before : u < y.registered = elim (cases_eq u y.registered) [ inl e ↦ absurd (apart e) | inr ne ↦ omega arith ] in
        let next = gap.led (suc u) (omega arith) before in
        let reign : (w : ℕ) → u < w → w ≤ y.registered → (r.contract w).primary ≡ Some next.leader =
        λ w lo up. leads_on r f (suc u) w next.leader lo next.leads (λ v lower upper. gap.led v (omega arith) (omega arith)) in
        let both : Some next.leader ≡ Some y.maker = sym (reign y.registered before (omega arith)) ∙ registered.0 in
        let e = f.primaries_are_elected u y.maker none (next.leads ∙ both) in
        let tau : u < y.tenure = elim (cases_lt u y.tenure) [
          | inl less ↦ less
          | inr more ↦ absurd (none_leads (r.contract u).primary y.maker none (f.tenures_last y.registered u y.maker registered.0 (omega arith) (omega arith)).0)
        ] in
        let sooner : b.registered < (r.contract u).since = leads_no_more r f.log b.registered u b.maker first.0 none (omega arith) in
        let since = f.since_within u in
        let view_from = e.from in
        let view_upto = e.upto in
        let newest = e.is_newest b i (omega arith) in
        let known = e.is_known in
        let current : (top : ℕ) × (top ≤ r.top) × (on r.same r.births (point e.current.branch top) x ≡ true) =
        elim (cases_eq b.registered e.current.registered) [
          | inl one ↦
              let is = same_index r f b e.current i e.is_in one in
              let range = f.in_range b.maker d.moment b.branch d.at d.version_is in
              let reached = d.reached in
              (t, omega arith, subst (λ (z : Birth B). on r.same r.births (point z.branch t) x ≡ true) is (own_point r f b t t i d.above (omega arith)))
          | inr other ↦ (0, omega arith, origin_point r f e.current 0 x e.is_in (safe e.current e.is_in (omega arith) (omega arith)))
        ] in
        let s = quorum r f b t y.registered i d safe u from (omega arith) in
        let had = winner_holds r f b t u y.maker i none e current.0 current.1 current.2 s.set s.most
        (λ q votes is_set k under. member_holds r f b t y.registered u i safe (omega arith) none s q votes is_set k under) in
        let asked_view = tenure_before r f.log (r.view y.maker a.moment) in
        let report_view : r.view y.maker e.report.moment ≤ u = elim (cases_lt u (r.view y.maker e.report.moment)) [
          | inl more ↦
              let same = between r f.log u (r.view y.maker e.report.moment) (suc u) e.report.under (omega arith) more in
              absurd (none_leads (r.contract u).primary next.leader none (ap (λ (c : Contract). c.primary) (sym same) ∙ next.leads))
          | inr less ↦ less
        ] in
        let report_since = since_is r f.log (r.view y.maker e.report.moment) u e.report.under in
        let report_from = f.since_within (r.view y.maker e.report.moment) in
        from_maker e.report.moment
        (elim (cases_lt a.moment e.report.moment) [
          | inl back ↦ let views = f.views_grow y.maker a.moment e.report.moment (omega arith) in absurd (omega arith)
          | inr order ↦ order
        ])
        (λ n lo up.
        let lower = f.views_grow y.maker e.report.moment n lo in
        let upper = f.views_grow y.maker n a.moment up in
        elim (cases_lt u (r.view y.maker n)) [
          | inr early ↦
              let same = f.contracts_last u (r.view y.maker n) (omega arith) early in
              subst (λ (c : Contract). has c.replicas y.maker ≡ true) (sym same) (f.voters_are_replicas u y.maker e.votes)
          | inl late ↦ f.primary_is_replica (r.view y.maker n) y.maker (elim (cases_lt y.registered (r.view y.maker n)) [
            | inl behind ↦ (f.tenures_last (r.view y.maker a.moment) (r.view y.maker n) y.maker a.primary (omega arith) upper).0
            | inr upto_it ↦ reign (r.view y.maker n) late upto_it ∙ both
          ])
        ])
        had

    -- ---- one branch after the other

    goes_on_from : on r.same r.births y.origin (point b.branch t) ≡ true
    goes_on_from =
        let rises = branches_rise r f.log b y i j (omega arith) in
        let one_reign : ((u : ℕ) → (own_contract r b.maker d.moment).since ≤ u → u ≤ y.registered → IsLed r u) → on r.same r.births y.origin (point b.branch t) ≡ true =
        λ led. within_reign (elim (cases_eq b.tenure y.tenure) [
          | inl same ↦ same_tenure same
          | inr other ↦ later_tenure (omega arith) led
        ]) in
        elim (last_gap r y.registered) [
          | inl all ↦ one_reign (λ u lo up. all u up)
          | inr gap ↦ elim (cases_lt gap.index (own_contract r b.maker d.moment).since) [
            | inl before ↦ one_reign (λ u lo up. gap.led u (omega arith) up)
            | inr between_them ↦ elected gap between_them
          ]
        ]

  -- each branch that was registered behind the decided point's own, and before an index, goes on from the point
  pub safe_upto : (n : ℕ) → Safe r b (point b.branch t) n
  safe_upto zero y j after before = absurd (omega arith)
  safe_upto (suc n) y j after before =
      elim (cases_lt y.registered n) [
        | inl less ↦ safe_upto n y j after less
        | inr more ↦ goes_on_from y j after (λ z k later sooner. safe_upto n z k later (omega arith)) (f.was_asked y j (omega arith))
      ]

  pub decided_stays : (y : Birth B) → IsIn r.births y → b.registered < y.registered → on r.same r.births y.origin (point b.branch t) ≡ true
  decided_stays y j after = safe_upto (suc y.registered) y j after (omega arith)
