use Rattle.std.proofs.Common.{ap, sym, ◌∙◌, arith, slice_set}
use Rattle.std.proofs.lemmas.Grind.{common_steps}
use Rattle.node_core.proofs.Requests.{served, unserved}
use Rattle.node_core.proofs.rows.request.Goals as goal

pub returns-in_err-push-clause-numbers : goal.returns-in_err-push-clause-numbers
returns-in_err-push-clause-numbers c =
    let none = unserved c.args.hashes c.args.executions.now c.args.store.now.rows c.args.store.now.versions c.args.op c.args.key.now c.args.what.now (sym c.place_for.ensures ∙ c.in_default.is) in
    rw none.ends (grind (arith, common_steps))

pub returns-in_default : goal.returns-in_default
returns-in_default c =
    let none = unserved c.args.hashes c.args.executions.now c.args.store.now.rows c.args.store.now.versions c.args.op c.args.key.now c.args.what.now (sym c.place_for.ensures ∙ c.in_default.is) in
    record {
      executions = rw none.row;
      rows = rw none.row;
      versions = rw none.row;
      out = rw none.row c.in_ok-push.ensures.ok;
      numbers = rw none.ends (grind arith);
    }

pub returns-in_err-request-clause-numbers : goal.returns-in_err-request-clause-numbers
returns-in_err-request-clause-numbers c =
    let at = served c.args.hashes c.args.executions.now c.args.store.now.rows c.args.store.now.versions c.args.op c.args.key.now c.args.what.now c.in-Some.place c.index-executions-place.result (sym c.place_for.ensures ∙ c.in-Some.is) in
    rw at.ends (grind (arith, common_steps))

pub returns : goal.returns
returns c =
    let at = served c.args.hashes c.args.executions.now c.args.store.now.rows c.args.store.now.versions c.args.op c.args.key.now c.args.what.now c.in-Some.place c.index-executions-place.result (sym c.place_for.ensures ∙ c.in-Some.is) in
    record {
      executions = rw at.row (ap (slice_set c.args.executions.now c.in-Some.place) c.in_ok-request.ensures.execution);
      rows = rw at.row c.in_ok-request.ensures.rows;
      versions = rw at.row c.in_ok-request.ensures.versions;
      out = rw at.row c.in_ok-request.ensures.out;
      numbers = rw at.ends c.in_ok-request.ensures.numbers;
    }
