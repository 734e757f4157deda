use Rattle.std.proofs.Common.{◌∙◌, sym, arith}
use Rattle.raft_append.proofs.Logs.{merged_some}
use Rattle.raft_append.proofs.merge.merge.Goals as goal

pub returns-clause-ok : goal.returns-clause-ok
returns-clause-ok g c =
    let cut = merged_some c.args.log.now c.args.entries c.args.prev_index c.agreeing-same.result c.agreeing-same.ensures.count (λ e. c.if-same-len.false (e ∙ sym c.len.ensures.len)) in
    search (arith, cut)
