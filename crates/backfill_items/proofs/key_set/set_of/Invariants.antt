use Rattle.std.proofs.Common.{◌≡◌, ◌++◌, vec_len}
use Rattle.backfill_items.proofs.key_set.set_of.Given as goal

abbrev pub invariant-taking : goal.invariant-taking
invariant-taking l = l.keys.items ++ l.set.keys ≡ l.fn.keys.items

abbrev pub decreases-taking : goal.decreases-taking
decreases-taking l = vec_len l.keys
