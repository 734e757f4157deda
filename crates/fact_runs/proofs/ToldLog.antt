-- The log that a run tells: what each node acts on is a front of it.
use Rattle.std.proofs.Common.{◌≡◌, ◌⊎◌, ℕ, zero, suc, ◌+◌, ◌≤◌, ◌<◌, ◌==◌, true, false, cond, ◌&&◌, not, nat_lt, List, [], ◌∷◌, ◌++◌, length, map, take, inl, inr, refl, sym, ap, ap₂, ◌∙◌, subst, arith, length-take}
use Rattle.std.proofs.lemmas.Bool.{cond_both, cases_eq, cases_lt, ltb-true, ltb-false, and_parts, false_from_ne_true, eqb-true}
use Rattle.std.proofs.lemmas.List.{take-take, take-append-le, get_or_push, get_or_append_left, map-append, length-map}
use Rattle.std.proofs.Math.ListN.{get_or-eq_default}
use Rattle.row_runs.specs.runs.raft_vote.declared.log.LogEntry.{LogEntry}
use Rattle.row_runs.specs.runs.contract_types.declared.applied.Applied.{Applied}
use Rattle.row_runs.specs.runs.contract_types.declared.change.Change.{Change}
use Rattle.row_runs.specs.runs.contract_types.declared.change.Change.TheVariants.{Noop}
use Rattle.row_runs.specs.runs.contract_types.Setup.{SetupState, IsSetup, nodes_below}
use Rattle.row_runs.specs.runs.contract_types.Tables.{Table, setup as first_table}
use Rattle.row_runs.specs.runs.table_apply.Effects.{applied_at}
use Rattle.row_runs.specs.runs.table_apply.Runs.{change_at, table_at}
use Rattle.row_runs.proofs.runs.table_apply.Tables.{depends}
use Rattle.row_runs.specs.runs.table_log.Fitting.{changes_of, fits}
use Rattle.row_runs.specs.runs.table_log.Logs.{result_at, results_from}
use Rattle.row_runs.proofs.runs.table_log.Acting.{results_count}
use Rattle.row_runs.proofs.runs.table_log.Prefixes.{same_entries}
use Rattle.row_runs.specs.runs.node_core.declared.journal.Entry.{Entry}
use Rattle.row_runs.specs.runs.node_core.Step.{NodeState, begin_node, ends_numbers}
use Rattle.row_runs.specs.runs.Committed.{IsEarlier, viewed_by}
use Rattle.row_runs.specs.runs.Latest.{longer, longest_of, longest, told_step, told_from, told_table}
use Rattle.row_runs.specs.runs.Run.{state, brought, IsRun, names_node, arrives, suits, is_fresh}
use Rattle.row_runs.specs.runs.Story.{IsIn}
use Rattle.row_runs.proofs.change_runs.Asked.{IsAsked, history_of}
use Rattle.row_runs.proofs.change_runs.AskedRuns.{acted_within, registered_asked}
use Rattle.row_runs.proofs.step_runs.Told.{IsIn-left, IsIn-right}
use Rattle.row_runs.proofs.log_runs.LogWorldRuns.{moving}
use Rattle.row_runs.proofs.log_runs.LogWorldLaws.{logs_agree, views_are}
use Rattle.row_runs.proofs.lead_runs.LedRuns.{all_fit, history_within}
use Rattle.row_runs.proofs.path_runs.OnPath.{each_asked}
use Rattle.fact_runs.specs.KeyRuns.{told_changes}

abbrev Results : Type 0
Results = List (Change × Applied)

-- ---- a node that is none of the table stays as it begins

outside : (setup : SetupState) (past : List Entry) → IsRun setup past → (n : ℕ) → setup.nodes ≤ n → state setup n past ≡ begin_node setup n
outside setup [] run n l = refl
outside setup (e ∷ past) run n l =
    let s : NodeState = state setup e.node.0 past in
    let a = nat_lt e.node.0 setup.nodes in
    let b = names_node setup e.input in
    let c = arrives past e.node e.input in
    let d = suits s.up e.input in
    let f = is_fresh past e.input in
    let g = not (ends_numbers s e.input (brought past e.input)) in
    let five = (and_parts (a && b && c && d && f) g run.0.allowed).0 in
    let four = (and_parts (a && b && c && d) f five).0 in
    let three = (and_parts (a && b && c) d four).0 in
    let two = (and_parts (a && b) c three).0 in
    let below : e.node.0 < setup.nodes = ltb-true e.node.0 setup.nodes (and_parts a b two).0 in
    let other : (e.node.0 == n) ≡ false = false_from_ne_true (e.node.0 == n) (λ same. let is : e.node.0 ≡ n = eqb-true e.node.0 n same in absurd (omega (arith, is, below, l))) in
    ap (λ v. cond v (moving setup past e n) (state setup n past)) other ∙ outside setup past run.1 n l

-- ---- the longest of some lists

longer_left : (xs ys : Results) → length xs ≤ length (longer xs ys)
longer_left xs ys =
    cond_both (nat_lt (length xs) (length ys)) ys xs (λ (l : Results). length xs ≤ length l) (λ e. let l = ltb-true (length xs) (length ys) e in omega (arith, l)) (λ _. omega arith)

longer_right : (xs ys : Results) → length ys ≤ length (longer xs ys)
longer_right xs ys =
    cond_both (nat_lt (length xs) (length ys)) ys xs (λ (l : Results). length ys ≤ length l) (λ _. omega arith) (λ e. let l = ltb-false (length xs) (length ys) e in omega (arith, l))

at_least : (past : List Entry) (ns : List ℕ) (k : ℕ) → IsIn ns k → length (viewed_by k past) ≤ length (longest_of past ns)
at_least past [] k i = absurd i
at_least past (m ∷ ms) k i =
    elim i [
      | inl e ↦ subst (λ n. length (viewed_by n past) ≤ length (longest_of past (m ∷ ms))) e (longer_left (viewed_by m past) (longest_of past ms))
      | inr j ↦
          let rest = at_least past ms k j in
          let more = longer_right (viewed_by m past) (longest_of past ms) in
          omega (arith, rest, more)
    ]

source : (past : List Entry) (ns : List ℕ) → (longest_of past ns ≡ []) ⊎ ((n : ℕ) × (longest_of past ns ≡ viewed_by n past))
source past [] = inl refl
source past (m ∷ ms) =
    cond_both (nat_lt (length (viewed_by m past)) (length (longest_of past ms))) (longest_of past ms) (viewed_by m past) (λ (l : Results). (l ≡ []) ⊎ ((n : ℕ) × (l ≡ viewed_by n past)))
    (λ _. source past ms) (λ _. inr (m, refl))

nothing : (l : Results) → length l ≤ 0 → l ≡ []
nothing [] z = refl
nothing (x ∷ l) z = absurd (omega (arith, z))

below_in : (n k : ℕ) → k < n → IsIn (nodes_below n) k
below_in zero k l = absurd (omega (arith, l))
below_in (suc n) k l =
    elim (cases_eq k n) [
      | inl e ↦ IsIn-right (nodes_below n) (n ∷ []) k (inl (sym e))
      | inr ne ↦ IsIn-left (nodes_below n) (n ∷ []) k (below_in n k (lower n k l ne))
    ]
  where
    lower : (n k : ℕ) → k < suc n → (k ≡ n → ⊥) → k < n
    lower n k l ne = omega (arith, l, ne)

-- ---- the changes of results

changes_at : (setup : SetupState) (cs : List Change) (w i : ℕ) → i < w → change_at (map (λ (r : Change × Applied). r.0) (results_from setup cs 0 w)) i ≡ change_at cs i
changes_at setup cs zero i l = absurd (omega (arith, l))
changes_at setup cs (suc w) i l =
    let first : Change × Applied → Change = λ r. r.0 in
    let xs : Results = results_from setup cs 0 w in
    let r : Change × Applied = result_at setup cs (0 + w) in
    let joined : map first (xs ++ r ∷ []) ≡ map first xs ++ r.0 ∷ [] = map-append first xs (r ∷ []) in
    let count : length (map first xs) ≡ w = length-map xs first ∙ results_count setup cs 0 w in
    elim (cases_lt i w) [
      | inl low ↦ ap (λ (l : List Change). change_at l i) joined ∙ get_or_append_left (map first xs) (r.0 ∷ []) Noop i (omega (arith, count, low)) ∙ changes_at setup cs w i low
      | inr high ↦
          let same : w ≡ i = omega (arith, l, high) in
          let place : 0 + w ≡ i = omega (arith, same) in
          ap (λ (l : List Change). change_at l i) joined ∙ get_or_push (map first xs) r.0 Noop i (count ∙ same) ∙ ap (change_at cs) place
    ]

-- ---- what follows from results

from_push : (hashes : ℕ) (t : Table) (index : ℕ) (rs : Results) (r : Change × Applied) → told_from hashes t index (rs ++ r ∷ []) ≡ told_step hashes (told_from hashes t index rs) (index + length rs) r.0
from_push hashes t index [] r = ap (λ i. told_step hashes t i r.0) (let e : index ≡ index + 0 = omega arith in e)
from_push hashes t index (x ∷ rs) r =
    from_push hashes (told_step hashes t index x.0) (index + 1) rs r
    ∙ ap (λ i. told_step hashes (told_from hashes (told_step hashes t index x.0) (index + 1) rs) i r.0) (let e : (index + 1) + length rs ≡ index + length (x ∷ rs) = omega arith in e)

from_results : (setup : SetupState) (changes : List Change) → ((i : ℕ) → fits setup.hashes (change_at changes i) ≡ true) → (w : ℕ)
    → told_from setup.hashes (first_table setup) 1 (results_from setup changes 0 w) ≡ table_at setup changes w
from_results setup changes fitting zero = refl
from_results setup changes fitting (suc w) =
    let rs : Results = results_from setup changes 0 w in
    let before : told_from setup.hashes (first_table setup) 1 rs ≡ table_at setup changes w = from_results setup changes fitting w in
    let count = results_count setup changes 0 w in
    let index : 1 + length rs ≡ suc w = omega (arith, count) in
    let place : 0 + w ≡ w = omega arith in
    from_push setup.hashes (first_table setup) 1 rs (result_at setup changes (0 + w))
    ∙ ap (λ p. told_step setup.hashes (told_from setup.hashes (first_table setup) 1 rs) (1 + length rs) (change_at changes p)) place
    ∙ ap₂ (λ (t : Table) (i : ℕ). told_step setup.hashes t i (change_at changes w)) before index
    ∙ ap (λ b. cond b (applied_at (table_at setup changes w) (suc w) (change_at changes w)).table (table_at setup changes w)) (fitting w)

-- ---- the node that told it

pub record Teller (setup : SetupState) (past : List Entry) : Type 0 where
  pub n : ℕ
  pub is : longest setup past ≡ viewed_by n past
  pub most : (k : ℕ) → (state setup k past).log.acted ≤ (state setup n past).log.acted

module _ (setup : SetupState) (ok : IsSetup setup) (past : List Entry) (run : IsRun setup past) where
  acted_count : (k : ℕ) → length (viewed_by k past) ≡ (state setup k past).log.acted
  acted_count k = ap length (views_are setup past run k) ∙ results_count setup (changes_of (state setup k past).log.raft.log) 0 (state setup k past).log.acted

  none_outside : (k : ℕ) → setup.nodes ≤ k → (state setup k past).log.acted ≡ 0
  none_outside k l = ap (λ (s : NodeState). s.log.acted) (outside setup past run k l)

  all_within : (k : ℕ) → (state setup k past).log.acted ≤ length (longest setup past)
  all_within k =
      elim (cases_lt k setup.nodes) [
        | inl low ↦ let l = at_least past (nodes_below setup.nodes) k (below_in setup.nodes k low) in omega (arith, l, acted_count k)
        | inr high ↦ let z = none_outside k high in omega (arith, z)
      ]

  pub teller : Teller setup past
  teller =
      elim (source past (nodes_below setup.nodes)) [
        | inl none ↦
            let count : length (longest setup past) ≡ 0 = ap length none in
            let low = all_within 0 in
            let own : viewed_by 0 past ≡ [] = nothing (viewed_by 0 past) (omega (arith, count, low, acted_count 0)) in
            record { n = 0; is = none ∙ sym own; most = λ k. let l = all_within k in omega (arith, l, count) }
        | inr (n, e) ↦
            let count : length (longest setup past) ≡ length (viewed_by n past) = ap length e in
            record { n = n; is = e; most = λ k. let l = all_within k in omega (arith, l, count, acted_count n) }
      ]

  abbrev told : List Change
  told = told_changes setup past

  abbrev last : ℕ
  last = length (told_changes setup past)

  told_is : told ≡ map (λ (r : Change × Applied). r.0) (results_from setup (changes_of (state setup teller.n past).log.raft.log) 0 (state setup teller.n past).log.acted)
  told_is = ap (map (λ (r : Change × Applied). r.0)) (teller.is ∙ views_are setup past run teller.n)

  pub last_is : last ≡ (state setup teller.n past).log.acted
  last_is =
      ap length told_is ∙ length-map (results_from setup (changes_of (state setup teller.n past).log.raft.log) 0 (state setup teller.n past).log.acted) (λ (r : Change × Applied). r.0)
      ∙ results_count setup (changes_of (state setup teller.n past).log.raft.log) 0 (state setup teller.n past).log.acted

  pub views_within_last : (k : ℕ) → (state setup k past).log.acted ≤ last
  views_within_last k = let m = teller.most k in omega (arith, m, last_is)

  -- each change is one of that node's log, or nothing
  change_is : (i : ℕ) → (change_at told i ≡ change_at (changes_of (state setup teller.n past).log.raft.log) i) ⊎ (change_at told i ≡ Noop)
  change_is i =
      let cs = changes_of (state setup teller.n past).log.raft.log in
      let a = (state setup teller.n past).log.acted in
      elim (cases_lt i a) [
        | inl low ↦ inl (ap (λ (l : List Change). change_at l i) told_is ∙ changes_at setup cs a i low)
        | inr high ↦ inr (get_or-eq_default told Noop (let l = last_is in omega (arith, high, l)))
      ]

  pub told_fits : (i : ℕ) → fits setup.hashes (change_at told i) ≡ true
  told_fits i = elim (change_is i) [ inl e ↦ ap (fits setup.hashes) e ∙ all_fit setup past run teller.n i | inr e ↦ ap (fits setup.hashes) e ]

  pub told_asked : (i : ℕ) → IsAsked setup past (change_at told i)
  told_asked i =
      elim (change_is i) [
        | inl e ↦ subst (IsAsked setup past) (sym e) (each_asked setup past (state setup teller.n past).log.raft.log (registered_asked setup ok past run teller.n) i)
        | inr e ↦ subst (IsAsked setup past) (sym e) tt
      ]

  own_tables : (w : ℕ) → w ≤ (state setup teller.n past).log.acted → table_at setup told w ≡ table_at setup (changes_of (state setup teller.n past).log.raft.log) w
  own_tables w l =
      let cs = changes_of (state setup teller.n past).log.raft.log in
      let a = (state setup teller.n past).log.acted in
      depends setup told cs w (λ i m. ap (λ (l : List Change). change_at l i) told_is ∙ changes_at setup cs a i (omega (arith, l, m)))

  -- what a node acts on, this one acts on too
  fronts : (k : ℕ) → take (state setup k past).log.acted (state setup k past).log.raft.log ≡ take (state setup k past).log.acted (state setup teller.n past).log.raft.log
  fronts k =
      let s = (state setup k past).log in
      let t = (state setup teller.n past).log in
      let rises = teller.most k in
      let own = acted_within setup past run k in
      let all = acted_within setup past run teller.n in
      let whole : IsEarlier past past = record { later = []; is = refl } in
      let low : s.acted ≤ s.acted = omega arith in
      let first : List (LogEntry Change) = take s.acted s.raft.log in
      let second : List (LogEntry Change) = take t.acted t.raft.log in
      let count : length first ≡ s.acted = length-take s.acted s.raft.log ∙ (let e : _ ≡ s.acted = omega (arith, own) in e) in
      let wide : s.acted ≤ length second = let e = length-take t.acted t.raft.log in omega (arith, e, rises, all) in
      elim (logs_agree setup past run past past whole whole k teller.n) [
        | inl front ↦
            sym (take-take s.acted s.acted s.raft.log low) ∙ sym (take-append-le s.acted first front.rest (omega (arith, count)))
            ∙ ap (take s.acted) (sym front.is) ∙ take-take s.acted t.acted t.raft.log rises
        | inr front ↦
            sym (take-take s.acted s.acted s.raft.log low) ∙ ap (take s.acted) front.is
            ∙ take-append-le s.acted second front.rest wide ∙ take-take s.acted t.acted t.raft.log rises
      ]

  node_tables : (k w : ℕ) → w ≤ (state setup k past).log.acted → table_at setup (changes_of (state setup k past).log.raft.log) w ≡ table_at setup told w
  node_tables k w l =
      let s = (state setup k past).log in
      let t = (state setup teller.n past).log in
      let rises = teller.most k in
      let same : take w s.raft.log ≡ take w t.raft.log =
      sym (take-take w s.acted s.raft.log l) ∙ ap (take w) (fronts k) ∙ take-take w s.acted t.raft.log l in
      same_entries setup s.raft.log t.raft.log w same ∙ sym (own_tables w (omega (arith, l, rises)))

  -- the branches that a node knew at a moment are those of the log up to its view then
  pub history_told : (m : List Entry) → IsEarlier past m → (k : ℕ) → history_of setup k m ≡ (table_at setup told (state setup k m).log.acted).history
  history_told m early k =
      let w = history_within setup past m run early k in
      w.older ∙ ap (λ (t : Table). t.history) (node_tables k (state setup k m).log.acted w.rises)

  pub views_then : (m : List Entry) → IsEarlier past m → (k : ℕ) → (state setup k m).log.acted ≤ last
  views_then m early k =
      let w = history_within setup past m run early k in
      let rises = w.rises in
      let all = views_within_last k in
      omega (arith, rises, all)

  -- the table that is told has the branches of the whole log
  pub told_history : (told_table setup past).history ≡ (table_at setup told last).history
  told_history =
      let cs = changes_of (state setup teller.n past).log.raft.log in
      let a = (state setup teller.n past).log.acted in
      ap (λ (rs : Results). (told_from setup.hashes (first_table setup) 1 rs).history) (teller.is ∙ views_are setup past run teller.n)
      ∙ ap (λ (t : Table). t.history) (from_results setup cs (all_fit setup past run teller.n) a ∙ sym (own_tables a (omega arith)))
      ∙ ap (λ w. (table_at setup told w).history) (sym last_is)
