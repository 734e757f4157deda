use Rattle.store_plain.proofs.Pairs.{begins_at, begins_below, begins_whole}
use Rattle.store_plain.proofs.versions.beginning.Goals as goal

pub returns-clause-at : goal.returns-clause-at
returns-clause-at c h k lt = begins_below c.args.hashes h _ (begins_at c.args.hashes h k c.zero.result _ c.zero.ensures (c.in_ok-versions.ensures.at h k)) lt

pub returns-clause-whole : goal.returns-clause-whole
returns-clause-whole c h k = begins_whole c.args.hashes _ h _ (begins_at c.args.hashes h k c.zero.result _ c.zero.ensures (c.in_ok-versions.ensures.at h k)) c.in_ok-versions.ensures.hashes
