use Rattle.write_dispatch.proofs.Later.{no_acks-none, no_acks-length}
use Rattle.write_dispatch.proofs.laws.no_ack_is_kept_at_first.Goals as goal

pub returns : goal.returns
returns c = record { none = no_acks-none; all = no_acks-length }
