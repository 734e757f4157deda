use Rattle.std.proofs.Common.{ap, sym, ◌∙◌, arith, slice_set}
use Rattle.std.proofs.lemmas.Grind.{common_steps}
use Rattle.node_core.proofs.Streams.{taken_by, untaken}
use Rattle.node_core.proofs.rows.take_stream.Goals as goal

pub returns-in_default : goal.returns-in_default
returns-in_default c =
    let none = untaken c.args.followings.now c.args.store.now.rows c.args.store.now.versions c.args.from c.args.stream.now c.args.view (sym c.place_of.ensures ∙ c.in_default.is) in
    record {
      followings = rw none.row;
      rows = rw none.row;
      versions = rw none.row;
      out = rw none.row (grind (arith, common_steps));
      numbers = rw none.ends (grind arith);
    }

pub returns-in_err-stream-clause-numbers : goal.returns-in_err-stream-clause-numbers
returns-in_err-stream-clause-numbers c =
    let at = taken_by c.args.followings.now c.args.store.now.rows c.args.store.now.versions c.args.from c.args.stream.now c.args.view c.in-Some.place c.index-followings-place.result (sym c.place_of.ensures ∙ c.in-Some.is) in
    rw at.ends (grind (arith, common_steps))

pub returns : goal.returns
returns c =
    let at = taken_by c.args.followings.now c.args.store.now.rows c.args.store.now.versions c.args.from c.args.stream.now c.args.view c.in-Some.place c.index-followings-place.result (sym c.place_of.ensures ∙ c.in-Some.is) in
    record {
      followings = rw at.row (ap (slice_set c.args.followings.now c.in-Some.place) c.in_ok-stream.ensures.following);
      rows = rw at.row c.in_ok-stream.ensures.rows;
      versions = rw at.row c.in_ok-stream.ensures.versions;
      out = rw at.row c.in_ok-stream.ensures.out;
      numbers = rw at.ends c.in_ok-stream.ensures.numbers;
    }
