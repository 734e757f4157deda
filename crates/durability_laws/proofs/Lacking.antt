-- In every run "no majority" is answered only with counts that are none.
use Rattle.std.proofs.Common.{◌≡◌, ◌⊎◌, ℕ, ◌*◌, ◌≤◌, false, ◌&&◌, nat_lt, List, Option, Some, None, arith}
use Rattle.std.proofs.lemmas.Bool.Decides.{nat_tests}
use Rattle.row_runs.specs.runs.contract_types.declared.counts.Counts.{Counts}
use Rattle.row_runs.specs.runs.contract_types.Setup.{SetupState, IsSetup}
use Rattle.row_runs.specs.runs.register_laws.declared.operation.OpId.{OpId}
use Rattle.row_runs.specs.runs.exec_types.declared.outcome.Outcome.TheVariants.{NoMajority}
use Rattle.row_runs.specs.runs.write_dispatch.Dispatch.{is_temp_majority}
use Rattle.row_runs.specs.runs.node_core.declared.journal.Entry.{Entry}
use Rattle.row_runs.specs.runs.Run.{IsRun}
use Rattle.row_runs.specs.runs.Story.{answer}
use Rattle.answer_runs.proofs.OnceGivenUp.{given_up_short}
use Rattle.durability_laws.specs.Counted.{LacksTemporary, LacksMajority}

lacks_of : (v o : ℕ) (temp : Option (ℕ × ℕ)) → (nat_lt o (2 * v) && is_temp_majority temp) ≡ false → (2 * v ≤ o) ⊎ LacksTemporary temp
lacks_of v o None e = grind (arith, nat_tests)
lacks_of v o (Some c) e = grind (arith, nat_tests)

pub given_up_lacks : (setup : SetupState) → IsSetup setup → (past : List Entry) → IsRun setup past → (op : OpId) (counts : Counts)
    → answer past op ≡ Some (NoMajority counts) → LacksMajority counts
given_up_lacks setup ok past run op counts e = lacks_of counts.voters counts.of counts.temp (given_up_short setup ok past run op counts e)
