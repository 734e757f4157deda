-- Timestamps along a path.
use Rattle.std.proofs.Common.{◌≡◌, ◌==◌, ◌<◌, ◌≤◌, ◌⊎◌, Bool, true, cond, List, [], ◌∷◌, Some, inl, inr, sym, ap, ◌∙◌, subst, arith}
use Rattle.std.proofs.lemmas.Bool.{cases_Bool, both_ways, and_parts, eqb-true, leb-true, cases_lt}
use Rattle.path_facts.specs.Paths.{Version, Birth, TellsApart, has_no_branch, is_own, on, IsIn, IsHistory, IsTimed}
use Rattle.path_facts.proofs.Paths.{Other, Own, Older, version_same, named_is, known_on, not_new, path_stays, other_is, part, origin_is_from, birth_on}

module _ {B : Type 0} (same : B → B → Bool) (names : TellsApart same) where
  -- they never fall
  pub times_fall : (bs : List (Birth B)) (x y : Version B) → IsHistory same bs → IsTimed same bs → on same bs x x ≡ true → on same bs x y ≡ true → y.timestamp ≤ x.timestamp
  times_fall [] x y h t e d = let low : y.timestamp ≡ 0 = eqb-true y.timestamp 0 (and_parts (has_no_branch y.branch) (y.timestamp == 0) d).1 in omega arith
  times_fall (b ∷ bs) x y h t e d =
      elim (part same names b bs x y d) [
        | Other f o ↦ times_fall bs x y h.1 t.1 (sym (other_is same names b bs x x f) ∙ e) o
        | Own u o lo up ↦ up
        | Older u o ↦
            let below = times_fall bs b.origin y h.1 t.1 t.0.0 o in
            let before = t.0.1 in
            elim (part same names b bs x x e) [
              | Other f p ↦ absurd (both_ways _ f u)
              | Own w p lo up ↦ omega arith
              | Older w p ↦ absurd (both_ways _ (not_new same names b bs x.branch h.0 (known_on same names bs b.origin x p)) u)
            ]
      ]

  timed_at : (bs : List (Birth B)) (y : Birth B) → IsHistory same bs → IsTimed same bs → IsIn bs y → (on same bs y.origin y.origin ≡ true) × (y.origin.timestamp ≤ y.initial)
  timed_at [] y h t i = absurd i
  timed_at (b ∷ bs) y h t (inl e) =
      subst (λ (a : Birth B). (on same (b ∷ bs) a.origin a.origin ≡ true) × (a.origin.timestamp ≤ a.initial)) e
      (path_stays same names b bs b.origin b.origin h.0 h.0.origin ∙ t.0.0, t.0.1)
  timed_at (b ∷ bs) y h t (inr i) =
      let rest = timed_at bs y h.1 t.1 i in
      (path_stays same names b bs y.origin y.origin h.0 (origin_is_from same names bs y h.1 i) ∙ rest.0, rest.1)

  -- and behind the first timestamp of a branch they rise with each point
  pub times_rise : (bs : List (Birth B)) (b : Birth B) (x y : Version B) → IsHistory same bs → IsTimed same bs → IsIn bs b → x.branch ≡ Some b.branch → b.initial < x.timestamp
      → on same bs x y ≡ true → (y ≡ x) ⊎ (y.timestamp < x.timestamp)
  times_rise bs b x y h t i n l o =
      elim (cases_Bool (is_own same b x y)) [
        | inl own ↦
            let p = and_parts _ _ own in
            let q = and_parts _ _ p.1 in
            let up = leb-true y.timestamp x.timestamp q.1 in
            elim (cases_lt y.timestamp x.timestamp) [
              | inl less ↦ inr less
              | inr more ↦ inl (version_same y x (named_is same names y.branch b.branch p.0 ∙ sym n) (omega arith))
            ]
        | inr other ↦
            let older : on same bs b.origin y ≡ true = sym (ap (λ c. cond c true (on same bs b.origin y)) other) ∙ sym (birth_on same names bs b x y h i n) ∙ o in
            let at = timed_at bs b h t i in
            let below = times_fall bs b.origin y h t at.0 older in
            let before = at.1 in
            inr (omega arith)
      ]
