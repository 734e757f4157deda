-- The table that a journal tells is that of a node that acted on most of the log.
use Rattle.std.proofs.Common.{◌≡◌, ◌⊎◌, ℕ, zero, suc, ◌+◌, ◌≤◌, ◌<◌, true, cond, nat_lt, List, [], ◌∷◌, ◌++◌, length, take, inl, inr, refl, sym, ap, ap₂, ◌∙◌, subst, arith, length-take}
use Rattle.std.proofs.lemmas.Bool.{cond_both, cases_eq, ltb-true, ltb-false}
use Rattle.std.proofs.lemmas.List.{take-take, take-append-le}
use Rattle.id_runs.specs.runs.raft_vote.declared.log.LogEntry.{LogEntry}
use Rattle.id_runs.specs.raft_laws.World.{World}
use Rattle.id_runs.specs.runs.branch_history.Paths.{Branches}
use Rattle.id_runs.specs.runs.contract_types.declared.change.Change.{Change}
use Rattle.id_runs.specs.runs.contract_types.declared.applied.Applied.{Applied}
use Rattle.id_runs.specs.runs.contract_types.Setup.{SetupState, nodes_below}
use Rattle.id_runs.specs.runs.contract_types.Tables.{Table, setup as first_table}
use Rattle.id_runs.specs.runs.table_apply.Effects.{applied_at}
use Rattle.id_runs.specs.runs.table_apply.Runs.{change_at, table_at}
use Rattle.id_runs.specs.runs.table_log.Fitting.{changes_of, fits}
use Rattle.id_runs.specs.runs.table_log.Logs.{result_at, results_from}
use Rattle.id_runs.proofs.runs.table_log.Acting.{results_count}
use Rattle.id_runs.proofs.runs.table_log.Prefixes.{same_entries}
use Rattle.id_runs.specs.runs.node_core.declared.journal.Entry.{Entry}
use Rattle.id_runs.specs.runs.Run.{state, IsRun}
use Rattle.id_runs.specs.runs.Committed.{IsEarlier, viewed_by}
use Rattle.id_runs.specs.runs.Latest.{longer, longest_of, told_step, told_from, told_table}
use Rattle.id_runs.specs.runs.Story.{IsIn}
use Rattle.id_runs.proofs.change_runs.Asked.{history_of}
use Rattle.id_runs.proofs.step_runs.Told.{IsIn-left, IsIn-right}
use Rattle.id_runs.proofs.log_runs.LogWorldRuns.{log_world, run_facts, journal_past, part, promises}
use Rattle.id_runs.proofs.log_runs.LogWorldLaws.{logs_agree, views_are}
use Rattle.id_runs.proofs.lead_runs.LedRuns.{table_longer, config_is, all_fit}

abbrev Results : Type 0
Results = List (Change × Applied)

-- ---- what follows from the results that are told

told_push : (hashes : ℕ) (t : Table) (index : ℕ) (rs : Results) (r : Change × Applied) → told_from hashes t index (rs ++ r ∷ []) ≡ told_step hashes (told_from hashes t index rs) (index + length rs) r.0
told_push hashes t index [] r = ap (λ i. told_step hashes t i r.0) (let e : index ≡ index + 0 = omega arith in e)
told_push hashes t index (x ∷ rs) r =
    told_push hashes (told_step hashes t index x.0) (index + 1) rs r
    ∙ ap (λ i. told_step hashes (told_from hashes (told_step hashes t index x.0) (index + 1) rs) i r.0) (let e : (index + 1) + length rs ≡ index + length (x ∷ rs) = omega arith in e)

told_is : (setup : SetupState) (changes : List Change) → ((i : ℕ) → fits setup.hashes (change_at changes i) ≡ true) → (w : ℕ)
    → told_from setup.hashes (first_table setup) 1 (results_from setup changes 0 w) ≡ table_at setup changes w
told_is setup changes fitting zero = refl
told_is setup changes fitting (suc w) =
    let rs : Results = results_from setup changes 0 w in
    let before : told_from setup.hashes (first_table setup) 1 rs ≡ table_at setup changes w = told_is setup changes fitting w in
    let count = results_count setup changes 0 w in
    let index : 1 + length rs ≡ suc w = omega (arith, count) in
    let place : 0 + w ≡ w = omega arith in
    told_push setup.hashes (first_table setup) 1 rs (result_at setup changes (0 + w))
    ∙ ap (λ p. told_step setup.hashes (told_from setup.hashes (first_table setup) 1 rs) (1 + length rs) (change_at changes p)) place
    ∙ ap₂ (λ (t : Table) (i : ℕ). told_step setup.hashes t i (change_at changes w)) before index
    ∙ ap (λ b. cond b (applied_at (table_at setup changes w) (suc w) (change_at changes w)).table (table_at setup changes w)) (fitting w)

-- ---- the longest of some lists

longer_left : (xs ys : Results) → length xs ≤ length (longer xs ys)
longer_left xs ys =
    cond_both (nat_lt (length xs) (length ys)) ys xs (λ (l : Results). length xs ≤ length l) (λ e. let l = ltb-true (length xs) (length ys) e in omega (arith, l)) (λ _. omega arith)

longer_right : (xs ys : Results) → length ys ≤ length (longer xs ys)
longer_right xs ys =
    cond_both (nat_lt (length xs) (length ys)) ys xs (λ (l : Results). length ys ≤ length l) (λ _. omega arith) (λ e. let l = ltb-false (length xs) (length ys) e in omega (arith, l))

at_least : (past : List Entry) (ns : List ℕ) (k : ℕ) → IsIn ns k → length (viewed_by k past) ≤ length (longest_of past ns)
at_least past [] k i = absurd i
at_least past (m ∷ ms) k i =
    elim i [
      | inl e ↦ subst (λ n. length (viewed_by n past) ≤ length (longest_of past (m ∷ ms))) e (longer_left (viewed_by m past) (longest_of past ms))
      | inr j ↦
          let rest = at_least past ms k j in
          let more = longer_right (viewed_by m past) (longest_of past ms) in
          omega (arith, rest, more)
    ]

source : (past : List Entry) (ns : List ℕ) → (longest_of past ns ≡ []) ⊎ ((n : ℕ) × (longest_of past ns ≡ viewed_by n past))
source past [] = inl refl
source past (m ∷ ms) =
    cond_both (nat_lt (length (viewed_by m past)) (length (longest_of past ms))) (longest_of past ms) (viewed_by m past) (λ (l : Results). (l ≡ []) ⊎ ((n : ℕ) × (l ≡ viewed_by n past)))
    (λ _. source past ms) (λ _. inr (m, refl))

nothing : (l : Results) → length l ≤ 0 → l ≡ []
nothing [] z = refl
nothing (x ∷ l) z = absurd (omega (arith, z))

-- a node told the longest list, and at least as much as one of them
record Ahead (past : List Entry) (ns : List ℕ) (k : ℕ) : Type 0 where
  n : ℕ
  is : longest_of past ns ≡ viewed_by n past
  most : length (viewed_by k past) ≤ length (viewed_by n past)

ahead : (past : List Entry) (ns : List ℕ) (k : ℕ) → IsIn ns k → Ahead past ns k
ahead past ns k i =
    let low = at_least past ns k i in
    elim (source past ns) [
      | inl none ↦
          let count : length (longest_of past ns) ≡ 0 = ap length none in
          record { n = k; is = none ∙ sym (nothing (viewed_by k past) (omega (arith, low, count))); most = omega arith }
      | inr (n, e) ↦ let count : length (longest_of past ns) ≡ length (viewed_by n past) = ap length e in record { n = n; is = e; most = omega (arith, low, count) }
    ]

below_in : (n k : ℕ) → k < n → IsIn (nodes_below n) k
below_in zero k l = absurd (omega (arith, l))
below_in (suc n) k l =
    elim (cases_eq k n) [
      | inl e ↦ IsIn-right (nodes_below n) (n ∷ []) k (inl (sym e))
      | inr ne ↦ IsIn-left (nodes_below n) (n ∷ []) k (below_in n k (lower n k l ne))
    ]
  where
    lower : (n k : ℕ) → k < suc n → (k ≡ n → ⊥) → k < n
    lower n k l ne = omega (arith, l, ne)

-- ---- histories of one log

acted_within : (setup : SetupState) (past : List Entry) → IsRun setup past → (n : ℕ) → (state setup n past).log.acted ≤ length (state setup n past).log.raft.log
acted_within setup past h n =
    let whole : part setup past (length past) ≡ log_world setup past = ap (log_world setup) (journal_past past (length past) (omega arith)) in
    let within = subst (λ (w : World Change). (w.node n).view ≤ length (w.node n).log) whole ((promises setup past h).within (length past) n) in
    omega (arith, within, (run_facts setup past h).caught n)

-- what a node acts on, another that acts on no less acts on too
same_front : (setup : SetupState) (past : List Entry) → IsRun setup past → (k n : ℕ) → (state setup k past).log.acted ≤ (state setup n past).log.acted
    → take (state setup k past).log.acted (state setup k past).log.raft.log ≡ take (state setup k past).log.acted (state setup n past).log.raft.log
same_front setup past h k n rises =
    let s = (state setup k past).log in
    let t = (state setup n past).log in
    let own = acted_within setup past h k in
    let all = acted_within setup past h n in
    let whole : IsEarlier past past = record { later = []; is = refl } in
    let low : s.acted ≤ s.acted = omega arith in
    let first : List (LogEntry Change) = take s.acted s.raft.log in
    let second : List (LogEntry Change) = take t.acted t.raft.log in
    let count : length first ≡ s.acted = length-take s.acted s.raft.log ∙ (let e : _ ≡ s.acted = omega (arith, own) in e) in
    let wide : s.acted ≤ length second = let e = length-take t.acted t.raft.log in omega (arith, e, rises, all) in
    elim (logs_agree setup past h past past whole whole k n) [
      | inl front ↦
          sym (take-take s.acted s.acted s.raft.log low) ∙ sym (take-append-le s.acted first front.rest (omega (arith, count)))
          ∙ ap (take s.acted) (sym front.is) ∙ take-take s.acted t.acted t.raft.log rises
      | inr front ↦
          sym (take-take s.acted s.acted s.raft.log low) ∙ ap (take s.acted) front.is
          ∙ take-append-le s.acted second front.rest wide ∙ take-take s.acted t.acted t.raft.log rises
    ]

-- ---- the table that is told

-- it is the table of a node, with the branches of another one and newer ones
pub record Tells (setup : SetupState) (past : List Entry) (k : ℕ) : Type 0 where
  pub n : ℕ
  pub newer : Branches
  pub told : (told_table setup past).history ≡ history_of setup n past
  pub is : history_of setup n past ≡ newer ++ history_of setup k past

pub tells : (setup : SetupState) (past : List Entry) → IsRun setup past → (k : ℕ) → k < setup.nodes → Tells setup past k
tells setup past h k l =
    let a = ahead past (nodes_below setup.nodes) k (below_in setup.nodes k l) in
    let n : ℕ = a.n in
    let s = (state setup k past).log in
    let t = (state setup n past).log in
    let count : (m : ℕ) → length (viewed_by m past) ≡ (state setup m past).log.acted = λ m.
    ap length (views_are setup past h m) ∙ results_count setup (changes_of (state setup m past).log.raft.log) 0 (state setup m past).log.acted in
    let most = a.most in
    let rises : s.acted ≤ t.acted = omega (arith, most, count k, count n) in
    let table : told_table setup past ≡ table_at setup (changes_of t.raft.log) t.acted =
    ap (told_from setup.hashes (first_table setup) 1) (a.is ∙ views_are setup past h n) ∙ told_is setup (changes_of t.raft.log) (all_fit setup past h n) t.acted in
    let older : history_of setup k past ≡ (table_at setup (changes_of t.raft.log) s.acted).history =
    config_is setup past h k ∙ ap (λ (x : Table). x.history) (same_entries setup s.raft.log t.raft.log s.acted (same_front setup past h k n rises)) in
    let more = table_longer setup (changes_of t.raft.log) t.acted s.acted rises in
    record {
      n = n;
      newer = more.newer;
      told = ap (λ (x : Table). x.history) table ∙ sym (config_is setup past h n);
      is = config_is setup past h n ∙ more.is ∙ ap (λ (bs : Branches). more.newer ++ bs) (sym older);
    }
