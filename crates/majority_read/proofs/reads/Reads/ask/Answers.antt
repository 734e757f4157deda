use Rattle.std.proofs.Common.{◌≡◌, IsTrue, true, ◌++◌, ◌∷◌, [], subst, sym, ap, ◌∙◌}
use Rattle.majority_read.specs.declared.waiting_read.WaitingRead.{WaitingRead}
use Rattle.majority_read.specs.Reads.{all_below}
use Rattle.majority_read.specs.Keys.{reads_at}
use Rattle.majority_read.proofs.Kept.{pushed}
use Rattle.majority_read.proofs.reads.Reads.ask.Goals as goal

pub invariant_of-self-2 : goal.invariant_of-self-2
invariant_of-self-2 c =
    let r : WaitingRead = record { op = c.args.op; at = c.args.at; value = c.args.value } in
    let below : all_below c.args.at (reads_at c.self.inside.reads c.self.inside.keys.items) ≡ true = subst (λ rs. IsTrue (all_below c.args.at rs)) (sym c.self.view_is) c.requires in
    let done = pushed c.self.inside.reads c.insert.new.self c.in_ok-key.key r c.self.inside.keys.items c.self.invariant c.in_ok-key.ensures.was_vacant c.in_ok-key.ensures.updates c.in_ok-key.ensures.len below in
    rw (c.push_back_reserved.ensures.items, c.reserve.ensures.items) done.kept

pub returns-clause-ok : goal.returns-clause-ok
returns-clause-ok c =
    let r : WaitingRead = record { op = c.args.op; at = c.args.at; value = c.args.value } in
    let below : all_below c.args.at (reads_at c.self.inside.reads c.self.inside.keys.items) ≡ true = subst (λ rs. IsTrue (all_below c.args.at rs)) (sym c.self.view_is) c.requires in
    let done = pushed c.self.inside.reads c.insert.new.self c.in_ok-key.key r c.self.inside.keys.items c.self.invariant c.in_ok-key.ensures.was_vacant c.in_ok-key.ensures.updates c.in_ok-key.ensures.len below in
    rw (c.push_back_reserved.ensures.items, c.reserve.ensures.items) (done.reads ∙ ap (λ rs. rs ++ r ∷ []) c.self.view_is)
