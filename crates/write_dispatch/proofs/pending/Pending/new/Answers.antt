use Rattle.std.proofs.Common.{rules}
use Rattle.write_dispatch.specs.Dispatch.{no_acks}
use Rattle.write_dispatch.proofs.pending.Pending.new.Goals as goal

pub returns : goal.returns
unfolding no_acks
returns c = search rules
