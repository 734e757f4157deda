-- How far a node acts on the log, and in which life, over the moments of a run.
use Rattle.std.proofs.Common.{ℕ, ◌≤◌, List, length, subst, sym, arith}
use Rattle.row_runs.specs.runs.contract_types.Setup.{SetupState, IsSetup}
use Rattle.row_runs.specs.runs.node_core.declared.journal.Entry.{Entry}
use Rattle.row_runs.specs.runs.Run.{state, IsRun}
use Rattle.row_runs.proofs.lead_runs.LedRuns.{history_within, lives_grow}
use Rattle.fact_runs.specs.KeyRuns.{moment, told_changes, key_run}
use Rattle.fact_runs.proofs.Moments.{moment_last, moments_follow, moment_run}
use Rattle.fact_runs.proofs.ToldLog.{views_within_last}

pub views_grow : (setup : SetupState) → IsSetup setup → (past : List Entry) → IsRun setup past → (key : List ℕ) → (q i j : ℕ) → i ≤ j → (key_run setup past key).view q i ≤ (key_run setup past key).view q j
views_grow setup ok past run key q i j l = (history_within setup (moment past j) (moment past i) (moment_run setup past run j) (moments_follow past i j l) q).rises

pub views_within : (setup : SetupState) → IsSetup setup → (past : List Entry) → IsRun setup past → (key : List ℕ) → (q : ℕ)
    → (key_run setup past key).view q (key_run setup past key).end ≤ (key_run setup past key).last
views_within setup ok past run key q =
    subst (λ (m : List Entry). (state setup q m).log.acted ≤ length (told_changes setup past)) (sym (moment_last past (length past) (omega arith))) (views_within_last setup ok past run q)

pub lives_follow : (setup : SetupState) → IsSetup setup → (past : List Entry) → IsRun setup past → (key : List ℕ) → (q i j : ℕ) → i ≤ j → (key_run setup past key).life q i ≤ (key_run setup past key).life q j
lives_follow setup ok past run key q i j l = lives_grow setup (moment past j) (moment past i) (moments_follow past i j l) q
