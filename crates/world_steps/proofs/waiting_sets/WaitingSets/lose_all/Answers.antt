-- The set of the pair is empty, and each other one is as it was.
use Rattle.std.proofs.Common.{◌≡◌, ◌==◌, ◌<◌, ◌&&◌, not, length, Some, sym, ap, ◌∙◌, subst}
use Rattle.world_steps.specs.Pairs.{SetsState, place_of, pair_has}
use Rattle.world_steps.proofs.Pairs.{pair_emptied}
use Rattle.world_steps.proofs.waiting_sets.WaitingSets.lose_all.Goals as goal

pub returns-in_ok-move_all-clause-emptied : goal.returns-in_ok-move_all-clause-emptied
returns-in_ok-move_all-clause-emptied c = λ a b ha hb n.
    let s : SetsState = record { nodes = c.self.inside.nodes; sets = c.self.inside.sets.items } in
    let is : s ≡ c.args.self.now = c.self.view_is in
    let found : Some c.in-Some.place ≡ place_of s.nodes c.args.from c.args.to = c.in-Some.ensures.place ∙ ap (λ (t : SetsState). place_of t.nodes c.args.from c.args.to) (sym is) in
    let there : c.in-Some.place < length s.sets = subst (λ (t : SetsState). c.in-Some.place < length t.sets) (sym is) c.in-Some.ensures.there in
    pair_emptied s c.args.from c.args.to c.in-Some.place c.move_all.new.set found there c.in_ok-move_all.ensures.emptied a b (subst (λ (t : SetsState). b.0 < t.nodes) (sym is) hb) n
    ∙ ap (λ (t : SetsState). not ((c.args.from.0 == a.0) && (c.args.to.0 == b.0)) && pair_has t a b n) is
