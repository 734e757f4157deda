use Rattle.chunk_laws.proofs.Recency.{path_row-point, path_row-both}
use Rattle.chunk_laws.proofs.old_rows_are_those_of_an_ancestor.Goals as goal

pub returns : goal.returns
returns g c = record { point = path_row-point; both = path_row-both }
