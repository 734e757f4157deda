use Rattle.chunk_laws.proofs.Recency.{path_row-beyond}
use Rattle.chunk_laws.proofs.rows_go_on_along_a_path.Goals as goal

pub returns : goal.returns
returns g c = path_row-beyond
