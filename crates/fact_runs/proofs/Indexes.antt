-- At which index of the log a branch came into the table.
use Rattle.std.proofs.Common.{◌≡◌, ℕ, zero, suc, ◌≤◌, true, false, cond, List, inl, inr, sym, subst, arith}
use Rattle.std.proofs.lemmas.Bool.{cases_Bool, cases_lt}
use Rattle.row_runs.specs.runs.region_map.declared.id.Id.{Id}
use Rattle.row_runs.specs.runs.branch_history.Paths.{Branches}
use Rattle.row_runs.specs.runs.branch_history.Histories.{knows}
use Rattle.row_runs.specs.runs.contract_types.declared.change.Change.{Change}
use Rattle.row_runs.specs.runs.contract_types.Setup.{SetupState}
use Rattle.row_runs.specs.runs.table_apply.Runs.{table_at}
use Rattle.row_runs.proofs.change_runs.LedHistories.{knows_longer}
use Rattle.row_runs.proofs.lead_runs.LedRuns.{table_longer}
use Rattle.fact_runs.specs.KeyRuns.{index_of}

module _ (setup : SetupState) (changes : List Change) where
  abbrev H : ℕ → Branches
  H w = (table_at setup changes w).history

  pub known_later : (u w : ℕ) (id : Id) → u ≤ w → knows (table_at setup changes u).history id ≡ true → knows (table_at setup changes w).history id ≡ true
  known_later u w id l k =
      let more = table_longer setup changes w u l in
      subst (λ (bs : Branches). knows bs id ≡ true) (sym more.is) (knows_longer more.newer (H u) id k)

  at_most : (w : ℕ) (id : Id) → index_of setup changes w id ≤ w
  at_most zero id = omega arith
  at_most (suc w) id =
      elim (knows (H w) id) as (λ b. cond b (index_of setup changes w id) (suc w) ≤ suc w) [
        | true ↦ let l = at_most w id in omega (arith, l)
        | false ↦ omega arith
      ]

  -- no later than at an index at which it is known
  pub index_upto : (w u : ℕ) (id : Id) → u ≤ w → knows (table_at setup changes u).history id ≡ true → index_of setup changes w id ≤ u
  index_upto zero u id l k = omega arith
  index_upto (suc w) u id l k =
      elim (cases_lt u (suc w)) [
        | inl low ↦
            let within : u ≤ w = omega (arith, low) in
            let below = index_upto w u id within k in
            subst (λ b. cond b (index_of setup changes w id) (suc w) ≤ u) (sym (known_later u w id within k)) below
        | inr high ↦ let m = at_most (suc w) id in omega (arith, l, high, m)
      ]

  -- at that index it is known
  known_there : (w : ℕ) (id : Id) → knows (table_at setup changes w).history id ≡ true → knows (table_at setup changes (index_of setup changes w id)).history id ≡ true
  known_there zero id k = k
  known_there (suc w) id k =
      elim (cases_Bool (knows (H w) id)) [
        | inl before ↦ subst (λ b. knows (table_at setup changes (cond b (index_of setup changes w id) (suc w))).history id ≡ true) (sym before) (known_there w id before)
        | inr new ↦ subst (λ b. knows (table_at setup changes (cond b (index_of setup changes w id) (suc w))).history id ≡ true) (sym new) k
      ]

  -- and so at each later one
  pub known_from : (w u : ℕ) (id : Id) → knows (table_at setup changes w).history id ≡ true → index_of setup changes w id ≤ u → knows (table_at setup changes u).history id ≡ true
  known_from w u id k l = known_later (index_of setup changes w id) u id l (known_there w id k)
