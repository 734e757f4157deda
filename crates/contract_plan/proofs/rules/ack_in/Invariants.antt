use Rattle.std.proofs.Common.{◌≡◌, drop}
use Rattle.contract_plan.specs.Plans.{ack_in}
use Rattle.contract_plan.proofs.rules.ack_in.Given as goal

abbrev pub invariant-loop-ack : goal.invariant-loop-ack
invariant-loop-ack l = ack_in (drop l.ack-index l.acks) l.server ≡ ack_in l.acks l.server
