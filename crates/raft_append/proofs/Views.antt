-- What a node acts on never goes back when its log takes entries.
use Rattle.std.proofs.Common.{◌≡◌, ◌∙◌, ℕ, ◌+◌, ◌-◌, ◌≤◌, ◌==◌, true, false, min, max, List, ◌++◌, length, take, drop, refl, sym, ap, subst, arith, length-append, length-take, length-drop, append_assoc, take-add, le_refl}
use Rattle.std.proofs.lemmas.Bool.Decides.{nat_tests}
use Rattle.std.proofs.lemmas.Bool.{cond_both, eqb-true, eqb-false, leb-true}
use Rattle.std.proofs.lemmas.List.{take-append-drop, take-append-le, take-take}
use Rattle.std.proofs.lemmas.List.Sums.{common_prefix_len-le}
use Rattle.raft_vote.specs.declared.log.LogEntry.{LogEntry}
use Rattle.raft_append.specs.Merge.{Taken, fits, agreeing, merged, taken, agrees_to_view}

-- how long a log is that is cut behind an index, with `same` entries of its own and the rest of others
joined_length : {E : Type 0} (log entries : List (LogEntry E)) (prev same : ℕ) → prev ≤ length log → same ≤ length log - prev → same ≤ length entries → length (take prev log ++ (take same (drop prev log) ++ drop same entries)) ≡ prev + length entries
joined_length log entries prev same fits own new =
    simp (length-append, length-take, length-drop) (omega arith)

module _ {E : Type 0} (log : List (LogEntry E)) (view prev : ℕ) (entries : List (LogEntry E)) where
  short : (agreeing (drop prev log) entries ≤ length log - prev) × (agreeing (drop prev log) entries ≤ length entries)
  short = let both = common_prefix_len-le (λ x y. x.term == y.term) (drop prev log) entries in (omega (arith, both, length-drop prev log), both.1)

  reaches : agrees_to_view log view prev entries ≡ true → min (view - prev) (length entries) ≤ agreeing (drop prev log) entries
  reaches agrees = leb-true _ _ agrees

  -- a log that took entries reaches as far as the view and the entries do
  pub merged_reaches : view ≤ length log → prev ≤ length log → agrees_to_view log view prev entries ≡ true → (view ≤ length (take prev log ++ merged (drop prev log) entries)) × (prev + length entries ≤ length (take prev log ++ merged (drop prev log) entries))
  merged_reaches within fits agrees =
      let own = drop prev log in
      let same = agreeing own entries in
      let s = short in
      let r = reaches agrees in
      cond_both (same == length entries) own (take same own ++ drop same entries)
      (λ (m : List (LogEntry E)). (view ≤ length (take prev log ++ m)) × (prev + length entries ≤ length (take prev log ++ m)))
      (λ e.
      let all = eqb-true same (length entries) e in
      rw (take-append-drop prev log) (within, omega arith))
      (λ e.
      let some : same ≡ length entries → ⊥ = eqb-false same (length entries) e in
      rw (joined_length log entries prev same fits s.0 s.1) (omega arith, omega arith))

  pub took_reaches : (new : List (LogEntry E)) → new ≡ take prev log ++ merged (drop prev log) entries → view ≤ length log → prev ≤ length log → agrees_to_view log view prev entries ≡ true → (view ≤ length new) × (prev + length entries ≤ length new)
  took_reaches new e within fits agrees =
      subst (λ (xs : List (LogEntry E)). (view ≤ length xs) × (prev + length entries ≤ length xs)) (sym e) (merged_reaches within fits agrees)

  -- up to the view it is as before
  pub merged_same : view ≤ length log → prev ≤ length log → agrees_to_view log view prev entries ≡ true → take view (take prev log ++ merged (drop prev log) entries) ≡ take view log
  merged_same within fits agrees =
      let own = drop prev log in
      let same = agreeing own entries in
      let s = short in
      let r = reaches agrees in
      cond_both (same == length entries) own (take same own ++ drop same entries)
      (λ (m : List (LogEntry E)). take view (take prev log ++ m) ≡ take view log)
      (λ e. ap (take view) (take-append-drop prev log))
      (λ e.
      let some : same ≡ length entries → ⊥ = eqb-false same (length entries) e in
      let front : view ≤ length (take (prev + same) log) = rw length-take (omega arith) in
      let seam : take prev log ++ (take same own ++ drop same entries) ≡ take (prev + same) log ++ drop same entries = rw (take-add prev same log, append_assoc) in
      ap (take view) seam ∙ take-append-le view (take (prev + same) log) (drop same entries) front ∙ take-take view (prev + same) log (omega arith))

  pub took_same : (new : List (LogEntry E)) → new ≡ take prev log ++ merged (drop prev log) entries → view ≤ length log → prev ≤ length log → agrees_to_view log view prev entries ≡ true → take view new ≡ take view log
  took_same new e within fits agrees = ap (take view) e ∙ merged_same within fits agrees

  fits_within : (term : ℕ) → fits log prev term ≡ true → prev ≤ length log
  fits_within term e = grind (arith, nat_tests)

  -- the view stays within a log that takes entries
  -- it never goes back
  pub taken_rises : (prev_term commit : ℕ) → view ≤ (taken log view prev prev_term entries commit).view
  taken_rises prev_term commit =
      cond_both (fits log prev prev_term)
      (record { log = take prev log ++ merged (drop prev log) entries; view = max view (min commit (prev + length entries)); ok = true; upto = prev + length entries })
      (record { log = log; view = view; ok = false; upto = min (prev - 1) (length log) })
      (λ (t : Taken E). view ≤ t.view)
      (λ e. omega arith)
      (λ _. le_refl view)

  -- and what it had reached stays
  pub taken_same : (prev_term commit : ℕ) → view ≤ length log → agrees_to_view log view prev entries ≡ true → take view (taken log view prev prev_term entries commit).log ≡ take view log
  taken_same prev_term commit within agrees =
      cond_both (fits log prev prev_term)
      (record { log = take prev log ++ merged (drop prev log) entries; view = max view (min commit (prev + length entries)); ok = true; upto = prev + length entries })
      (record { log = log; view = view; ok = false; upto = min (prev - 1) (length log) })
      (λ (t : Taken E). take view t.log ≡ take view log)
      (λ e. merged_same within (fits_within prev_term e) agrees)
      (λ _. refl)
