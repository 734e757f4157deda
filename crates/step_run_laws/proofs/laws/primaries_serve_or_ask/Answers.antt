use Rattle.step_run_laws.proofs.Asking.{serves_or_asks}
use Rattle.step_run_laws.proofs.laws.primaries_serve_or_ask.Goals as goal

pub returns : goal.returns
returns c =
    λ setup ok past e run key c holder leader ticks known in_table has_it held own.
    serves_or_asks setup ok past e run key c holder leader ticks known in_table has_it held own
