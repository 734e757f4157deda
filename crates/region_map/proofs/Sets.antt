-- Laws of sets as lists, for the crates above.
use Rattle.std.proofs.Common.{◌≡◌, ◌==◌, ℕ, Bool, true, false, cond, ◌||◌, nat_lt, List, [], ◌∷◌, refl, sym, ap, ◌∙◌}
use Rattle.std.proofs.lemmas.Bool.{eqb-true}
use Rattle.region_map.specs.Nodes.{has, with_member}

or_swap : (a b c : Bool) → (a || (b || c)) ≡ (b || (a || c))
or_swap true true c = refl
or_swap true false c = refl
or_swap false b c = refl

or_twice : (a b : Bool) → (a || b) ≡ (a || (a || b))
or_twice true b = refl
or_twice false b = refl

-- the members of a set with one more, in any order
pub has-with_member : (s : List ℕ) (n q : ℕ) → has (with_member s n) q ≡ ((n == q) || has s q)
has-with_member [] n q = refl
has-with_member (k ∷ ks) n q =
    elim (nat_lt n k) as (λ c. has (cond c (n ∷ k ∷ ks) (cond (k == n) (k ∷ ks) (k ∷ with_member ks n))) q ≡ ((n == q) || ((k == q) || has ks q))) [
      | true ↦ refl
      | false ↦
          elim (k == n) as (λ c. (k == n) ≡ c → has (cond c (k ∷ ks) (k ∷ with_member ks n)) q ≡ ((n == q) || ((k == q) || has ks q))) [
            | true ↦ λ e. let same = eqb-true k n e in ap (λ v. (v == q) || has ks q) same ∙ or_twice (n == q) (has ks q) ∙ ap (λ v. (n == q) || ((v == q) || has ks q)) (sym same)
            | false ↦ λ _. ap (λ b. (k == q) || b) (has-with_member ks n q) ∙ or_swap (k == q) (n == q) (has ks q)
          ] refl
    ]
