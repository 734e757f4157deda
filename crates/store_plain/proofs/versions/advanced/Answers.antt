use Rattle.std.proofs.Common.{subst, sym}
use Rattle.region_map.specs.Maps.{IsCanonical}
use Rattle.region_map.proofs.Made.{joined_canonical}
use Rattle.branch_history.specs.Equal.{same_version, version_decides}
use Rattle.store_api.proofs.VersionMaps.{advanced_map_is}
use Rattle.store_plain.specs.Advances.{advanced_in}
use Rattle.store_plain.proofs.Pairs.{advanced_at}
use Rattle.store_plain.proofs.versions.advanced.Goals as goal

pub returns-clause-at : goal.returns-clause-at
returns-clause-at c h k =
    advanced_at c.args.part.now c.in_ok-copy.field-0 c.args.branch c.args.at c.args.versions.now.hashes c.hashes.result h k _ _ _
    (c.requires h k) c.hashes.ensures.value c.in_ok-copy.ensures (c.in_ok-inside.ensures.at h k) (c.in_ok-new.ensures.at h k) (c.in_ok-new.ensures.beyond h k)

pub returns-clause-made : goal.returns-clause-made
returns-clause-made c =
    let canonical : IsCanonical c.in_ok-new.new =
    subst (λ m. IsCanonical m) (sym c.in_ok-new.ensures.made)
    (joined_canonical same_version version_decides (advanced_in c.args.branch c.args.at) c.args.versions.now c.in_ok-inside.inside c.hashes.ensures.canonical.some_hash) in
    advanced_map_is c.args.part.now c.args.branch c.args.at c.args.versions.now c.in_ok-new.new canonical c.in_ok-new.ensures.hashes (returns-clause-at c)
