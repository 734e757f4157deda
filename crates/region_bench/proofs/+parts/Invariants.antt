use Rattle.region_bench.proofs.+parts.Given as goal

abbrev pub decreases-parts : goal.decreases-parts
decreases-parts l = l.count
