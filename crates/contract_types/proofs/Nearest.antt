-- From a point down to the nearest of some bounds: no bound lies between.
use Rattle.std.proofs.Common.{◌≡◌, Bool, true, false, List, [], ◌∷◌, refl, sym, ◌∙◌}
use Rattle.std.specs.List.{AllByRecursion}

module _ (A : Type 0) (lt : A → A → Bool)
    (itself : (a : A) → lt a a ≡ false)
    (back : (a b : A) → lt a b ≡ true → lt b a ≡ false)
    (chain : (a b c : A) → lt b a ≡ false → lt c b ≡ false → lt c a ≡ false)
    (late : (a b c : A) → lt b a ≡ false → lt b c ≡ true → lt a c ≡ true)
  where
    record Step (P : A → Type 0) (k b c : A) : Type 0 where
      point : A
      passes : P point
      reached : lt k point ≡ false
      above : lt point b ≡ false
      side : lt k c ≡ false → lt point c ≡ false

    step : (P : A → Type 0) (k b c : A) → lt k b ≡ false → P b → P c → Step P k b c
    step P k b c h p q =
        elim (lt k c) as (λ v. lt k c ≡ v → Step P k b c) [
          | true ↦ λ e. record { point = b; passes = p; reached = h; above = itself b; side = λ f. absurd (cc) }
          | false ↦ λ e. elim (lt b c) as (λ v. lt b c ≡ v → Step P k b c) [
            | true ↦ λ d. record { point = c; passes = q; reached = e; above = back b c d; side = λ f. itself c }
            | false ↦ λ d. record { point = b; passes = p; reached = h; above = itself b; side = λ f. d }
          ] refl
        ] refl

    pub record Near {T : Type 0} (P : A → Type 0) (k b : A) (f g : T → A) (xs : List T) : Type 0 where
      pub point : A
      pub passes : P point
      pub reached : lt k point ≡ false
      pub above : lt point b ≡ false
      pub sides : AllByRecursion (λ x. (lt k (f x) ≡ lt point (f x)) × (lt k (g x) ≡ lt point (g x))) xs

    side_of : (k point c : A) → lt k point ≡ false → (lt k c ≡ false → lt point c ≡ false) → lt k c ≡ lt point c
    side_of k point c h s =
        elim (lt k c) as (λ v. lt k c ≡ v → v ≡ lt point c) [
          | true ↦ λ e. sym (late point k c h e)
          | false ↦ λ e. sym (s e)
        ] refl

    pub near : {T : Type 0} (P : A → Type 0) (k b : A) (f g : T → A) (xs : List T) → lt k b ≡ false → P b → AllByRecursion (λ x. P (f x) × P (g x)) xs → Near P k b f g xs
    near P k b f g [] h p all = record { point = b; passes = p; reached = h; above = itself b; sides = tt }
    near P k b f g (x ∷ xs) h p all =
        let first = step P k b (f x) h p all.0.0 in
        let second = step P k first.point (g x) first.reached first.passes all.0.1 in
        let rest = near P k second.point f g xs second.reached second.passes all.1 in
        record {
          point = rest.point;
          passes = rest.passes;
          reached = rest.reached;
          above = chain b first.point rest.point first.above (chain first.point second.point rest.point second.above rest.above);
          sides = (
            (
              side_of k rest.point (f x) rest.reached (λ e. chain (f x) first.point rest.point (first.side e) (chain first.point second.point rest.point second.above rest.above)),
              side_of k rest.point (g x) rest.reached (λ e. chain (g x) second.point rest.point (second.side e) rest.above),
            ),
            rest.sides,
          );
        }

    -- what is on the same side of a point is so of each nearer one
    pub nearer : {T : Type 0} (k point next : A) (f g : T → A) (xs : List T) → lt k next ≡ false → lt next point ≡ false
        → AllByRecursion (λ x. (lt k (f x) ≡ lt point (f x)) × (lt k (g x) ≡ lt point (g x))) xs
        → AllByRecursion (λ x. (lt k (f x) ≡ lt next (f x)) × (lt k (g x) ≡ lt next (g x))) xs
    nearer k point next f g [] h i all = tt
    nearer k point next f g (x ∷ xs) h i all = (
      (
        side_of k next (f x) h (λ e. chain (f x) point next (sym all.0.0 ∙ e) i),
        side_of k next (g x) h (λ e. chain (g x) point next (sym all.0.1 ∙ e) i),
      ),
      nearer k point next f g xs h i all.1,
    )
