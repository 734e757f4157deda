-- The changes of a log fit its table, whatever the log is given, and so its table keeps its hashes.
use Rattle.std.proofs.Common.{◌≡◌, ◌∙◌, ℕ, zero, suc, true, List, [], ◌∷◌, refl, sym, subst}
use Rattle.std.proofs.lemmas.Bool.{and_parts, eqb-true}
use Rattle.raft_vote.specs.declared.log.LogEntry.{LogEntry}
use Rattle.contract_types.specs.declared.change.Change.{Change}
use Rattle.contract_types.specs.declared.change.Change.TheVariants.{Noop, SetConfig, NewContracts, RegisterBranch}
use Rattle.contract_types.specs.Configs.{ConfigState}
use Rattle.contract_types.specs.Tables.{Table}
use Rattle.table_apply.specs.Effects.{applied_at, FitsTable}
use Rattle.table_apply.specs.Runs.{change_at, table_at}
use Rattle.table_apply.proofs.Steps.{table_after}
use Rattle.table_log.specs.Fitting.{changes_of, fits, log_fits}

pub fits_is : (hashes : ℕ) (change : Change) → fits hashes change ≡ true → FitsTable hashes change
fits_is hashes Noop e = tt
fits_is hashes (SetConfig config) e = eqb-true config.hashes hashes e
fits_is hashes (NewContracts removed added) e = tt
fits_is hashes (RegisterBranch branch region tenure maker based_on origin) e = eqb-true origin.hashes hashes e

pub each_fits : (hashes : ℕ) (log : List (LogEntry Change)) (place : ℕ) → log_fits hashes log ≡ true → FitsTable hashes (change_at (changes_of log) place)
each_fits hashes [] place e = tt
each_fits hashes (x ∷ xs) zero e = fits_is hashes x.change (and_parts (fits hashes x.change) (log_fits hashes xs) e).0
each_fits hashes (x ∷ xs) (suc place) e = each_fits hashes xs place (and_parts (fits hashes x.change) (log_fits hashes xs) e).1

hashes_after : (t : Table) (index : ℕ) (change : Change) → FitsTable t.config.hashes change → (applied_at t index change).table.config.hashes ≡ t.config.hashes
hashes_after t index change fits =
    table_after (λ (u : Table). u.config.hashes ≡ t.config.hashes) t index change refl (λ config is. subst (FitsTable t.config.hashes) is fits)
    (λ removed added is a. refl) (λ branch region tenure maker based_on origin is j. refl)

pub hashes_at : (config : ConfigState) (changes : List Change) (w : ℕ) → ((place : ℕ) → FitsTable config.hashes (change_at changes place)) → (table_at config changes w).config.hashes ≡ config.hashes
hashes_at config changes zero fits = refl
hashes_at config changes (suc w) fits =
    let before = hashes_at config changes w fits in
    hashes_after (table_at config changes w) (suc w) (change_at changes w) (subst (λ n. FitsTable n (change_at changes w)) (sym before) (fits w)) ∙ before

pub hashes_stay : (config : ConfigState) (log : List (LogEntry Change)) (w : ℕ) → log_fits config.hashes log ≡ true → (table_at config (changes_of log) w).config.hashes ≡ config.hashes
hashes_stay config log w e = hashes_at config (changes_of log) w (λ place. each_fits config.hashes log place e)
