use Rattle.path_facts.proofs.Paths.{zero_on, on_self, on_trans, on_linear, on_antisym, on_forward, own_points, from_origin}
use Rattle.path_facts.proofs.paths_are_ordered.Goals as goal

pub returns-clause-zero : goal.returns-clause-zero
returns-clause-zero g c same names = zero_on same names

pub returns-clause-itself : goal.returns-clause-itself
returns-clause-itself g c same names bs h v x = on_self same names bs v x h

pub returns-clause-own : goal.returns-clause-own
returns-clause-own g c same names = own_points same names

pub returns-clause-origin : goal.returns-clause-origin
returns-clause-origin g c same names = from_origin same names

pub returns-clause-transitive : goal.returns-clause-transitive
returns-clause-transitive g c same names bs h v x y = on_trans same names bs v x y h

pub returns-clause-linear : goal.returns-clause-linear
returns-clause-linear g c same names bs h v x y = on_linear same names bs v x y h

pub returns-clause-antisymmetric : goal.returns-clause-antisymmetric
returns-clause-antisymmetric g c same names bs h x y = on_antisym same names bs x y h

pub returns-clause-forward : goal.returns-clause-forward
returns-clause-forward g c same names = on_forward same names
