-- What lies below the sync that made a primary ready.
use Rattle.std.proofs.Common.{◌≡◌, ℕ, suc, ◌≤◌, ◌<◌, true, Some, inl, inr, sym, ap, ◌∙◌, subst, arith}
use Rattle.std.proofs.lemmas.Bool.{cases_lt, cases_order}
use Rattle.path_facts.specs.Paths.{Birth, point, on, IsIn}
use Rattle.path_facts.specs.Runs.{Contract, KeyRun, own_contract}
use Rattle.path_facts.specs.Decided.{Decided, Safe}
use Rattle.path_facts.specs.Invariant.{Ready, GoesOver, Facts}
use Rattle.path_facts.proofs.Contracts.{since_is, primary_is, came_behind, between, tenures_rise, branches_rise, one_maker}
use Rattle.path_facts.proofs.Keeping.{own_point, origin_point, same_index}
use Rattle.path_facts.proofs.Lives.{made_later}

module _ {B : Type 0} (r : KeyRun B) (f : Facts r) where
  -- who goes over had the contract in force before it went over
  pub sync_before : (w : ℕ) (o : GoesOver r w) → o.ready.branch.registered ≤ w
  sync_before w o =
      let g = o.ready in
      let known = g.decided.known in
      elim (cases_lt w (r.view g.branch.maker g.decided.moment)) [
        | inr before ↦ omega arith
        | inl after ↦
            let since = f.since_within w in
            let same = between r f.log w (r.view g.branch.maker g.decided.moment) (suc w) g.under (omega arith) (omega arith) in
            let e = since_is r f.log (suc w) w same in
            let d = o.since_is in
            absurd (omega arith)
      ]

  -- a point that was decided under an earlier contract is on the path of the sync
  pub below_sync : (b : Birth B) (t index w : ℕ) (d : Decided r b t) (g : Ready r w) → IsIn r.births b → Safe r b (point b.branch t) index
      → (own_contract r b.maker d.moment).since < (r.contract w).since → g.branch.registered < index
      → on r.same r.births (point g.branch.branch g.sync) (point b.branch t) ≡ true
  below_sync b t index w d g i safe earlier within =
      let early : r.view b.maker d.moment < (r.contract w).since = came_behind r f.log (r.view b.maker d.moment) w earlier in
      elim (cases_order b.registered g.branch.registered) [
        | inl one ↦
            let is : b ≡ g.branch = same_index r f b g.branch i g.is_in one in
            let first : (j u : ℕ) → r.view b.maker j < (r.contract w).since → r.version b.maker j ≡ point b.branch u → u < g.sync =
            subst (λ (z : Birth B). (j u : ℕ) → r.view z.maker j < (r.contract w).since → r.version z.maker j ≡ point z.branch u → u < g.sync) (sym is) g.first in
            let less = first d.moment d.at early d.version_is in
            let reached = d.reached in
            subst (λ (z : Birth B). on r.same r.births (point z.branch g.sync) (point b.branch t) ≡ true) is (own_point r f b g.sync t i d.above (omega arith))
        | inr (inl before) ↦
            origin_point r f g.branch g.sync (point b.branch t) g.is_in (safe g.branch g.is_in before within)
        | inr (inr after) ↦
            let since = f.since_within w in
            let begun = f.since_within (r.view g.branch.maker g.decided.moment) in
            let same = since_is r f.log (r.view g.branch.maker g.decided.moment) w g.under in
            let leads : (r.contract w).primary ≡ Some g.branch.maker = primary_is r f.log w (r.view g.branch.maker g.decided.moment) g.branch.maker (sym g.under) g.decided.primary in
            let tenure : (r.contract w).tenure ≡ g.branch.tenure = ap (λ (c : Contract). c.tenure) (sym g.under) ∙ g.decided.tenure in
            let own = d.tenure in
            let up = tenures_rise r f.log (r.view b.maker d.moment) w b.maker g.branch.maker (omega arith) d.primary leads in
            let down = branches_rise r f.log g.branch b g.is_in i (omega arith) in
            let one : g.branch.tenure ≡ b.tenure = omega arith in
            let lives = made_later r f.log g.branch b g.is_in i after one in
            let maker : g.branch.maker ≡ b.maker = one_maker r f.log g.branch b g.is_in i (omega arith) one in
            let life : r.life b.maker g.decided.moment ≡ g.branch.life = ap (λ n. r.life n g.decided.moment) (sym maker) ∙ g.decided.life in
            let mine = d.life in
            let view : r.view g.branch.maker g.decided.moment ≡ r.view b.maker g.decided.moment = ap (λ n. r.view n g.decided.moment) maker in
            elim (cases_lt g.decided.moment d.moment) [
              | inl sooner ↦
                  let grown = f.views_grow b.maker g.decided.moment d.moment (omega arith) in
                  absurd (omega arith)
              | inr later ↦
                  let grown = f.lives_grow b.maker d.moment g.decided.moment later in
                  absurd (omega arith)
            ]
      ]
