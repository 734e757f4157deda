use Rattle.path_facts.proofs.Times.{times_fall, times_rise}
use Rattle.path_facts.proofs.timestamps_rise.Goals as goal

pub returns-clause-never_fall : goal.returns-clause-never_fall
returns-clause-never_fall g c same names bs h t x y = times_fall same names bs x y h t

pub returns-clause-rise : goal.returns-clause-rise
returns-clause-rise g c same names bs h t b x y = times_rise same names bs b x y h t
