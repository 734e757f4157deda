-- Numbered parts after one more, and after the first ones are let go.
use Rattle.std.proofs.Common.{◌≡◌, ℕ, zero, suc, ◌+◌, ◌-◌, ◌<◌, ◌≤◌, true, false, cond, List, [], ◌∷◌, ◌++◌, length, drop, nat_lt, min, refl, sym, ap, ◌∙◌, arith, length-append, length-drop}
use Rattle.std.proofs.lemmas.Bool.{lt-ltb, le-ltb}
use Rattle.std.proofs.lemmas.List.{drop-drop, drop-append-le}
use Rattle.backfill_stream.specs.Parts.{AreNumbered, behind}
use Rattle.backfill_stream.specs.Kept.{IsKept}

pub numbered-long : {P : Type 0} (next : ℕ) (parts : List (ℕ × P)) → AreNumbered next parts → length parts ≤ next
numbered-long next [] a = omega arith
numbered-long next (p ∷ ps) a = omega arith

numbered-push : {P : Type 0} (next : ℕ) (parts : List (ℕ × P)) (part : P) → AreNumbered next parts → AreNumbered (next + 1) (parts ++ (next, part) ∷ [])
numbered-push next [] part a = (omega arith, tt)
numbered-push next (p ∷ ps) part a = (let l = length-append ps ((next, part) ∷ []) in omega arith, numbered-push next ps part a.1)

numbered-drop : {P : Type 0} (n next : ℕ) (parts : List (ℕ × P)) → AreNumbered next parts → AreNumbered next (drop n parts)
numbered-drop zero next parts a = a
numbered-drop (suc n) next [] a = tt
numbered-drop (suc n) next (p ∷ ps) a = numbered-drop n next ps a.1

-- what is left are the parts behind as many as have a number up to this one
pub behind-drop : {P : Type 0} (n upto next : ℕ) (parts : List (ℕ × P)) → AreNumbered next parts → n ≡ min (length parts) ((upto + 1) - (next - length parts)) → drop n parts ≡ behind upto parts
behind-drop zero upto next [] a e = refl
behind-drop (suc n) upto next [] a e = refl
behind-drop zero upto next (p ∷ ps) a e =
    let more : nat_lt upto p.0 ≡ true = lt-ltb _ _ (omega arith) in
    ap (λ qs. p ∷ qs) (behind-drop zero upto next ps a.1 (omega arith)) ∙ sym (ap (λ b. cond b (p ∷ behind upto ps) (behind upto ps)) more)
behind-drop (suc n) upto next (p ∷ ps) a e =
    let less : nat_lt upto p.0 ≡ false = le-ltb _ _ (omega arith) in
    behind-drop n upto next ps a.1 (omega arith) ∙ sym (ap (λ b. cond b (p ∷ behind upto ps) (behind upto ps)) less)

pub kept-push : {P : Type 0} (next front : ℕ) (parts : List (ℕ × P)) (part : P) → IsKept next front parts → length (drop front parts) < 1024 → IsKept (next + 1) front (parts ++ (next, part) ∷ [])
kept-push next front parts part k h =
    let rest = drop-append-le front parts ((next, part) ∷ []) k.within in
    let long = length-append parts ((next, part) ∷ []) in
    let left = length-append (drop front parts) ((next, part) ∷ []) in
    record {
      within = omega arith;
      numbers = rw rest (numbered-push next (drop front parts) part k.numbers);
      few = rw rest (omega arith);
    }

pub kept-drop : {P : Type 0} (next front count : ℕ) (parts : List (ℕ × P)) → IsKept next front parts → count ≤ length (drop front parts) → IsKept next (front + count) parts
kept-drop next front count parts k h =
    let both = drop-drop count front parts in
    record {
      within = omega (arith, length-drop front parts);
      numbers = rw (← both) (numbered-drop count next (drop front parts) k.numbers);
      few = omega (arith, k.few, length-drop front parts, length-drop (front + count) parts);
    }

-- what lies in front is let go of
pub kept-front : {P : Type 0} (next front : ℕ) (parts : List (ℕ × P)) → IsKept next front parts → IsKept next 0 (drop front parts)
kept-front next front parts k = record { within = omega arith; numbers = k.numbers; few = k.few }
