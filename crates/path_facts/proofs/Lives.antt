-- Branches of one tenure, by the lives in which they were made.
use Rattle.std.proofs.Common.{◌≡◌, ◌≤◌, ◌<◌, inl, inr, sym, ap, ◌∙◌, subst, arith}
use Rattle.std.proofs.lemmas.Bool.{cases_lt, cases_order}
use Rattle.path_facts.specs.Paths.{Birth, IsIn}
use Rattle.path_facts.specs.Runs.{KeyRun}
use Rattle.path_facts.specs.Invariant.{LogFacts}
use Rattle.path_facts.proofs.Contracts.{one_maker}
use Rattle.path_facts.proofs.Paths.{one_index}

module _ {B : Type 0} (r : KeyRun B) (f : LogFacts r) where
  -- of two branches of one tenure the later one was made in a later life
  pub made_later : (b y : Birth B) → IsIn r.births b → IsIn r.births y → b.registered < y.registered → b.tenure ≡ y.tenure → b.life < y.life
  made_later b y i j l e =
      let a = f.was_asked y j (omega arith) in
      let one : b.maker ≡ y.maker = one_maker r f b y i j (omega arith) e in
      let knew : b.registered ≤ r.view b.maker a.moment = subst (λ n. b.registered ≤ r.view n a.moment) (sym one) (a.knew b i l) in
      let old : b.life ≤ r.life b.maker a.moment = f.makers_are_old b a.moment i knew in
      let now : r.life b.maker a.moment ≡ y.life = ap (λ n. r.life n a.moment) one ∙ a.life in
      elim (cases_lt b.life y.life) [
        | inl less ↦ less
        | inr more ↦
            let same : b.life ≡ y.life = omega arith in
            let index = f.one_in_a_life b y i j one same e in
            absurd (omega arith)
      ]

  -- so a branch that was made in a later life is the later one
  pub registered_later : (b y : Birth B) → IsIn r.births b → IsIn r.births y → b.tenure ≡ y.tenure → b.life < y.life → b.registered < y.registered
  registered_later b y i j e l =
      elim (cases_order b.registered y.registered) [
        | inl same ↦
            let is = ap (λ (z : Birth B). z.life) (one_index r.same f.names r.births b y f.history i j same) in
            absurd (omega arith)
        | inr (inl before) ↦ before
        | inr (inr after) ↦ let back = made_later y b j i after (sym e) in absurd (omega arith)
      ]
