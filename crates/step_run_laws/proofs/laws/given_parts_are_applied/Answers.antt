use Rattle.step_run_laws.proofs.Joined.{next_applied}
use Rattle.step_run_laws.proofs.laws.given_parts_are_applied.Goals as goal

pub returns : goal.returns
returns c =
    λ setup ok past e run number m f stream key delivers at from is follows has_it session next.
    next_applied setup ok past e run number m f stream key delivers at from is follows has_it session next
