-- The set of the message's pair changes, and no other one.
use Rattle.std.proofs.Common.{◌≡◌, ◌==◌, ◌<◌, ◌&&◌, not, ℕ, length, get_or, [], Some, sym, ap, ◌∙◌, subst}
use Rattle.std.specs.Ordering.{nat_cmp}
use Rattle.std.specs.BTreeSet.{BTreeSet, contains}
use Rattle.world_steps.specs.Waiting.{is_between}
use Rattle.world_steps.specs.Pairs.{SetsState, place_of, pair_has}
use Rattle.world_steps.proofs.Pairs.{get_any, pair_removed}
use Rattle.world_steps.proofs.waiting_sets.WaitingSets.remove.Goals as goal

pub returns-in-Some-clause-removed : goal.returns-in-Some-clause-removed
returns-in-Some-clause-removed c = λ from to hf ht n.
    let s : SetsState = record { nodes = c.self.inside.nodes; sets = c.self.inside.sets.items } in
    let is : s ≡ c.args.self.now = c.self.view_is in
    let e = c.args.envelope.now in
    let found : Some c.in-Some.place ≡ place_of s.nodes e.from e.to = c.in-Some.ensures.place ∙ ap (λ (t : SetsState). place_of t.nodes e.from e.to) (sym is) in
    let there : c.in-Some.place < length s.sets = subst (λ (t : SetsState). c.in-Some.place < length t.sets) (sym is) c.in-Some.ensures.there in
    let old : c.index_mut.result.now ≡ get_or s.sets c.in-Some.place (record { keys = [] }) =
    c.index_mut.ensures.value ∙ get_any s.sets c.in-Some.place c.index_mut.result.now (record { keys = [] }) there in
    let now : (k : ℕ) → contains nat_cmp c.remove_from.new.set k ≡ (not (c.args.number == k) && contains nat_cmp (get_or s.sets c.in-Some.place (record { keys = [] })) k) =
    λ k. c.remove_from.ensures k ∙ ap (λ (t : BTreeSet ℕ). not (c.args.number == k) && contains nat_cmp t k) old in
    pair_removed s e.from e.to c.in-Some.place c.remove_from.new.set c.args.number found there now from to (subst (λ (t : SetsState). to.0 < t.nodes) (sym is) ht) n
    ∙ ap (λ (t : SetsState). (not ((c.args.number == n) && is_between from to (Some c.args.envelope.now)) && pair_has t from to n)) is
