use Rattle.region_map.proofs.Made.{joined_canonical, joined_hashes, joined_at, joined_beyond, joined_is}
use Rattle.region_map.proofs.map.joined_is_the_one_map.Goals as goal

pub returns-clause-canonical : goal.returns-clause-canonical
returns-clause-canonical g c same d f m n some = joined_canonical same d f m n some

pub returns-clause-hashes : goal.returns-clause-hashes
returns-clause-hashes g c same f m n = joined_hashes same f m n

pub returns-clause-at : goal.returns-clause-at
returns-clause-at g c same d f m n some h k lt = joined_at same d f m n some h k lt

pub returns-clause-beyond : goal.returns-clause-beyond
returns-clause-beyond g c same d f m n some h k le = joined_beyond same d f m n some h k le

pub returns-clause-only : goal.returns-clause-only
returns-clause-only g c same d f m n r canonical e at = joined_is same d f m n r canonical e at
