-- How often an operation is answered.
use Rattle.std.specs.Prelude.{ℕ, ◌+◌, List, [], ◌∷◌, if◌then◌else◌}
use Rattle.register_laws.specs.declared.operation.OpId.{OpId}
use Rattle.register_laws.specs.Lists.{same_op}
use Rattle.exec_types.specs.declared.output.Output.{Output}
use Rattle.exec_types.specs.declared.output.Output.TheVariants.{Message, Dispatched, Viewed, Answer}
use Rattle.node_core.specs.declared.journal.Entry.{Entry}

abbrev pub answers_in : List Output → OpId → ℕ
answers_in [] op = 0
answers_in (Message to message ∷ outs) op = answers_in outs op
answers_in (Dispatched q key branch timestamp ∷ outs) op = answers_in outs op
answers_in (Viewed first results ∷ outs) op = answers_in outs op
answers_in (Answer q outcome ∷ outs) op = (if same_op q op then 1 else 0) + answers_in outs op

-- how often an operation is answered in a journal
abbrev pub answers_to : List Entry → OpId → ℕ
answers_to [] op = 0
answers_to (e ∷ past) op = answers_in e.outputs op + answers_to past op
