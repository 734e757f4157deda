use Rattle.std.proofs.Common.{refl}
use Rattle.script_text.proofs.laws.every_setup_without_shards_is_taken.Goals as goal

pub returns : goal.returns
returns c line nodes hashes n h s none = rw (n, h, s, none) refl
