use Rattle.std.proofs.Common.{◌≡◌, IsTrue, true, subst, sym}
use Rattle.write_dispatch.specs.Dispatch.{DispatchState, all_below}
use Rattle.write_dispatch.proofs.Queue.{is_rising-push}
use Rattle.write_dispatch.proofs.pending.Pending.dispatch.Goals as goal

pub invariant_of-self-2 : goal.invariant_of-self-2
invariant_of-self-2 c =
    let below : all_below c.args.at c.self.inside.waiting ≡ true = subst (λ (s : DispatchState). IsTrue (all_below c.args.at s.waiting)) (sym c.self.view_is) c.requires in
    (rw c.in_ok-push.ensures.ok (is_rising-push c.self.inside.waiting (record { op = c.args.op; at = c.args.at; reply = c.args.reply }) c.self.invariant.0 below), c.self.invariant.1)
