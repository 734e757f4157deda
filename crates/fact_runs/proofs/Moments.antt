-- The moments of a run.
use Rattle.std.proofs.Common.{◌≡◌, ℕ, ◌≤◌, cond, nat_le, List, [], ◌∷◌, ◌++◌, length, refl, sym, ap, ◌∙◌, subst, arith, length-append}
use Rattle.std.proofs.lemmas.Bool.{cond_both, leb-true, le-leb}
use Rattle.row_runs.specs.runs.contract_types.Setup.{SetupState}
use Rattle.row_runs.specs.runs.node_core.declared.journal.Entry.{Entry}
use Rattle.row_runs.specs.runs.Committed.{IsEarlier}
use Rattle.row_runs.specs.runs.Run.{IsRun}
use Rattle.row_runs.proofs.lead_runs.LedRuns.{earlier_run}
use Rattle.fact_runs.specs.KeyRuns.{moment}

pub moment_last : (past : List Entry) (m : ℕ) → length past ≤ m → moment past m ≡ past
moment_last [] m h = refl
moment_last (e ∷ past) m h =
    cond_both (nat_le m (length past)) (moment past m) (e ∷ past) (λ (l : List Entry). l ≡ e ∷ past)
    (λ low. let at : m ≤ length past = leb-true m (length past) low in absurd (omega (arith, at, h))) (λ _. refl)

-- each journal that a run began with is that of a moment
pub moment_of : (later earlier : List Entry) → moment (later ++ earlier) (length earlier) ≡ earlier
moment_of [] earlier = moment_last earlier (length earlier) (omega arith)
moment_of (e ∷ later) earlier =
    let low : length earlier ≤ length (later ++ earlier) = omega (arith, length-append later earlier) in
    ap (λ b. cond b (moment (later ++ earlier) (length earlier)) (e ∷ (later ++ earlier))) (le-leb (length earlier) (length (later ++ earlier)) low) ∙ moment_of later earlier

-- the number of a moment that is given as a journal
pub moment_at : (past earlier : List Entry) → IsEarlier past earlier → moment past (length earlier) ≡ earlier
moment_at past earlier i = ap (λ (p : List Entry). moment p (length earlier)) i.is ∙ moment_of i.later earlier

pub moment_within : (past earlier : List Entry) → IsEarlier past earlier → length earlier ≤ length past
moment_within past earlier i = let e = ap (length {A = Entry}) i.is in let l = length-append i.later earlier in omega (arith, e, l)

pub itself : (past : List Entry) → IsEarlier past past
itself past = record { later = []; is = refl }

one_more : (e : Entry) (past earlier : List Entry) → IsEarlier past earlier → IsEarlier (e ∷ past) earlier
one_more e past earlier i = record { later = e ∷ i.later; is = ap (λ (l : List Entry). e ∷ l) i.is }

pub moment_earlier : (past : List Entry) (m : ℕ) → IsEarlier past (moment past m)
moment_earlier [] m = itself []
moment_earlier (e ∷ past) m =
    cond_both (nat_le m (length past)) (moment past m) (e ∷ past) (IsEarlier (e ∷ past)) (λ _. one_more e past (moment past m) (moment_earlier past m)) (λ _. itself (e ∷ past))

pub moments_follow : (past : List Entry) (m n : ℕ) → m ≤ n → IsEarlier (moment past n) (moment past m)
moments_follow [] m n l = itself []
moments_follow (e ∷ past) m n l =
    cond_both (nat_le n (length past)) (moment past n) (e ∷ past) (λ (p : List Entry). IsEarlier p (moment (e ∷ past) m))
    (λ low.
    let at : n ≤ length past = leb-true n (length past) low in
    let too : m ≤ length past = omega (arith, at, l) in
    subst (λ b. IsEarlier (moment past n) (cond b (moment past m) (e ∷ past))) (sym (le-leb m (length past) too)) (moments_follow past m n l))
    (λ _. moment_earlier (e ∷ past) m)

pub moment_run : (setup : SetupState) (past : List Entry) → IsRun setup past → (m : ℕ) → IsRun setup (moment past m)
moment_run setup past run m = earlier_run setup past (moment past m) run (moment_earlier past m)
