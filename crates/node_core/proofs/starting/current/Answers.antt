use Rattle.node_core.proofs.StartingMaps.{current_is}
use Rattle.node_core.proofs.starting.current.Goals as goal

pub returns : goal.returns
returns c = current_is c.args.table.now c.current-current.result.now c.pieces-pieces.ensures.canonical c.current-current.ensures.hashes c.current-current.ensures.at
