use Rattle.std.proofs.Common.{◌≡◌, drop}
use Rattle.json_form.specs.Ids.{number_to_dot}
use Rattle.json_form.proofs.ids.number_to_dot.Given as goal

abbrev pub invariant-loop-place : goal.invariant-loop-place
invariant-loop-place l = number_to_dot l.number (drop l.place l.text) ≡ number_to_dot 0 l.text
