-- Branches that are added change no path and no common ancestor that was there.
use Rattle.std.proofs.Common.{◌≡◌, ℕ, true, false, cond, nat_le, min, List, [], ◌∷◌, ◌++◌, Option, Some, inl, inr, refl, sym, ap, ◌∙◌, subst}
use Rattle.std.proofs.lemmas.Bool.{cases_Bool}
use Rattle.region_map.specs.declared.id.Id.{Id}
use Rattle.region_map.specs.Regions.{in_region}
use Rattle.branch_history.specs.declared.version.Version.{Version}
use Rattle.branch_history.specs.declared.history.BranchBirth.{BranchBirth}
use Rattle.branch_history.specs.Paths.{Branches, is_branch, zero, origin_at, is_on, ancestor}
use Rattle.branch_history.specs.Histories.{knows_branch, IsHistory}
use Rattle.branch_history.proofs.PathLaws.{zero_is, zero_on, knows_more, not_new, path_stays}
use Rattle.branch_history.proofs.Births.{unknown_on}

knows_longer : (cs bs : Branches) (o : Option Id) → knows_branch bs o ≡ true → knows_branch (cs ++ bs) o ≡ true
knows_longer [] bs o e = e
knows_longer (c ∷ cs) bs o e = knows_more c (cs ++ bs) o (knows_longer cs bs o e)

pub paths_stay : (cs bs : Branches) (h : ℕ) (k : List ℕ) (v x : Version) → IsHistory (cs ++ bs) → knows_branch bs v.branch ≡ true → is_on (cs ++ bs) h k v x ≡ is_on bs h k v x
paths_stay [] bs h k v x i e = refl
paths_stay (c ∷ cs) bs h k v x i e = path_stays c (cs ++ bs) h k v x i (knows_longer cs bs v.branch e) ∙ paths_stay cs bs h k v x i.3 e

-- no point goes from any path
pub points_stay : (cs bs : Branches) (h : ℕ) (k : List ℕ) (v x : Version) → IsHistory (cs ++ bs) → is_on bs h k v x ≡ true → is_on (cs ++ bs) h k v x ≡ true
points_stay cs bs h k v x i e =
    elim (cases_Bool (knows_branch bs v.branch)) [
      | inl t ↦ paths_stay cs bs h k v x i t ∙ e
      | inr f ↦ subst (λ y. is_on (cs ++ bs) h k v y ≡ true) (sym (zero_is x (sym (unknown_on bs h k v x f) ∙ e))) (zero_on (cs ++ bs) h k v)
    ]

ancestor_stays : (b : Id × BranchBirth) (bs : Branches) (h : ℕ) (k : List ℕ) (v w : Version) → is_branch v b.0 ≡ false → is_branch w b.0 ≡ false → ancestor (b ∷ bs) h k v w ≡ ancestor bs h k v w
ancestor_stays b bs h k v w f g =
    let o = origin_at b.1 h k in
    let r = in_region b.1.region h k in
    let low : Version = record { branch = Some b.0; timestamp = min v.timestamp w.timestamp } in
    let both = cond (is_branch w b.0) (cond (nat_le b.1.initial (min v.timestamp w.timestamp)) low (ancestor bs h k o o)) (ancestor bs h k o w) in
    ap (λ p. cond p (cond r both zero) (cond (is_branch w b.0) (cond r (ancestor bs h k v o) zero) (ancestor bs h k v w))) f
    ∙ ap (λ q. cond q (cond r (ancestor bs h k v o) zero) (ancestor bs h k v w)) g

pub ancestors_stay : (cs bs : Branches) (h : ℕ) (k : List ℕ) (v w : Version) → IsHistory (cs ++ bs) → knows_branch bs v.branch ≡ true → knows_branch bs w.branch ≡ true
    → ancestor (cs ++ bs) h k v w ≡ ancestor bs h k v w
ancestors_stay [] bs h k v w i e d = refl
ancestors_stay (c ∷ cs) bs h k v w i e d =
    ancestor_stays c (cs ++ bs) h k v w (not_new c (cs ++ bs) v.branch i.0 (knows_longer cs bs v.branch e)) (not_new c (cs ++ bs) w.branch i.0 (knows_longer cs bs w.branch d))
    ∙ ancestors_stay cs bs h k v w i.3 e d
