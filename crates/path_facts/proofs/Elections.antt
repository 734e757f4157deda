-- Whoever is elected has what more than half of the voters had.
use Rattle.std.proofs.Common.{◌≡◌, ℕ, ◌≤◌, Bool, true, false, cond, nat_le, List, [], ◌∷◌, None, refl, ap, ◌∙◌, arith}
use Rattle.path_facts.specs.Paths.{Version, Birth, point, on, IsIn, known, IsHistory}
use Rattle.path_facts.specs.Runs.{Contract, KeyRun, has, IsMost, holds, own_contract}
use Rattle.path_facts.specs.Invariant.{Report, Elected, Facts}
use Rattle.path_facts.proofs.Contracts.{since_is}
use Rattle.path_facts.proofs.Keeping.{what_holds, registered_before}
use Rattle.path_facts.proofs.Majorities.{majorities_meet}
use Rattle.path_facts.proofs.Paths.{on_trans, known_stays, known_points}

known_history : {B : Type 0} (same : B → B → Bool) (w : ℕ) (bs : List (Birth B)) → IsHistory same bs → IsHistory same (known w bs)
known_history same w [] h = h
known_history same w (b ∷ bs) h =
    elim (nat_le b.registered w) as (λ c. IsHistory same (cond c (b ∷ bs) (known w bs))) [ true ↦ h | false ↦ known_history same w bs h.1 ]

module _ {B : Type 0} (r : KeyRun B) (f : Facts r) where
  -- a report has the point on its path in the leader's table, where its node had it
  reported : (b : Birth B) (t w view q : ℕ) (current : Birth B) → IsIn r.births b → (r.contract w).primary ≡ None → (r.contract w).since ≤ view
      → (p : Report r w view current q) → holds r (point b.branch t) p.moment q ≡ true → on r.same (known view r.births) (r.version q p.moment) (point b.branch t) ≡ true
  reported b t w view q current i none from p o =
      let h = what_holds r f b t q p.moment i o in
      let none_now : (own_contract r q p.moment).primary ≡ None = ap (λ (c : Contract). c.primary) p.under ∙ none in
      let old = registered_before r f q p.moment h.birth h.at h.is_in h.version_is none_now in
      let same = since_is r f.log (r.view q p.moment) w p.under in
      let e = ap (λ (v : Version B). v.branch) h.version_is in
      known_stays r.same f.names view r.births h.birth (r.version q p.moment) (point b.branch t) f.history h.is_in (omega arith) e ∙ o

  -- Where more than half of the voters had a point at the moments of their reports, and it is on the path of some version of the
  -- branch that was current, the winner had it as it reported.
  pub winner_holds : (b : Birth B) (t w winner : ℕ) → IsIn r.births b → (r.contract w).primary ≡ None → (e : Elected r w winner)
      → (top : ℕ) → top ≤ r.top → on r.same r.births (point e.current.branch top) (point b.branch t) ≡ true
      → (holders : ℕ → Bool) → IsMost holders (r.contract w).voters
      → ((q : ℕ) → has (r.contract w).voters q ≡ true → holders q ≡ true → (j : ℕ) → own_contract r q j ≡ r.contract w → holds r (point b.branch t) j q ≡ true)
      → holds r (point b.branch t) e.report.moment winner ≡ true
  winner_holds b t w winner i none e top range current holders most hold =
      let x : Version B = point b.branch t in
      let ks : List (Birth B) = known e.view r.births in
      let past : IsHistory r.same ks = known_history r.same e.view r.births f.history in
      let both = majorities_meet e.behind holders (r.contract w).voters e.most most in
      let p = e.reports both.0 both.2 in
      let had = hold both.0 both.1 both.3 p.moment p.under in
      let told = reported b t w e.view both.0 e.current i none e.from p had in
      let on_current : on r.same ks (point e.current.branch top) x ≡ true =
      known_stays r.same f.names e.view r.births e.current (point e.current.branch top) x f.history e.is_in e.is_known refl ∙ current in
      let projected = p.is_last x top range told on_current in
      let winners = on_trans r.same f.names ks e.report.projected p.projected x past (e.reaches both.0 both.2) projected in
      let whole = on_trans r.same f.names ks (r.version winner e.report.moment) e.report.projected x past e.report.on_version winners in
      known_points r.same f.names e.view r.births (r.version winner e.report.moment) x f.history whole
