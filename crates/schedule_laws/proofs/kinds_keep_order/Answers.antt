use Rattle.schedule_laws.proofs.Lists.{place_among}
use Rattle.schedule_laws.proofs.kinds_keep_order.Goals as goal

pub returns : goal.returns
returns g c kind xs place x y at is = place_among kind xs place x y at is
