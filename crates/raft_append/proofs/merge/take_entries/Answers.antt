use Rattle.std.proofs.Common.{◌≤◌, length, arith}
use Rattle.raft_append.proofs.Views.{took_reaches, took_same}
use Rattle.raft_append.proofs.merge.take_entries.Goals as goal

pub returns-clause-within : goal.returns-clause-within
returns-clause-within g c =
    let fits : c.args.prev_index ≤ length c.args.log.now = omega arith in
    let reached = took_reaches c.args.log.now c.args.view.now c.args.prev_index c.args.entries c.merge.new.log c.in_ok-merge.ensures.ok c.requires.within fits c.requires.agrees in
    omega (arith, reached)

pub returns-clause-keeps : goal.returns-clause-keeps
returns-clause-keeps g c =
    let fits : c.args.prev_index ≤ length c.args.log.now = omega arith in
    took_same c.args.log.now c.args.view.now c.args.prev_index c.args.entries c.merge.new.log c.in_ok-merge.ensures.ok c.requires.within fits c.requires.agrees
