use Rattle.std.proofs.Common.{◌≡◌, true, Some, is_some, get_or, option_map, subst, sym, ap, ◌∙◌, rules}
use Rattle.slab.specs.Slab.{get}
use Rattle.majority_read.specs.declared.waiting_read.WaitingRead.{WaitingRead}
use Rattle.majority_read.specs.Reads.{sync_of}
use Rattle.majority_read.specs.Keys.{reads_at}
use Rattle.majority_read.proofs.Kept.{IsAbsent, IsPlace, absent, key_held, place_found}
use Rattle.majority_read.proofs.reads.Reads.sync_of.Goals as goal

pub returns-in_err-place : goal.returns-in_err-place
returns-in_err-place c =
    let none : IsAbsent c.args.op (reads_at c.self.inside.reads c.self.inside.keys.items) = absent c.args.op c.self.inside.reads c.self.inside.keys.items (sym c.in_err-place.ensures) in
    search rules ∙ sym (ap (sync_of c.args.op) (sym c.self.view_is) ∙ none.sync)

pub index-requires-2 : goal.index-requires-2
index-requires-2 c =
    let slab = c.self.inside.reads in
    let keys = c.self.inside.keys.items in
    let at : IsPlace c.args.op slab keys c.in_ok-place.place = place_found c.args.op slab keys c.in_ok-place.place (sym c.in_ok-place.ensures) in
    let held : is_some (get slab (get_or keys c.in_ok-place.place c.index.result.now)) ≡ true = key_held slab keys c.in_ok-place.place c.index.result.now at.within c.self.invariant.keys_are in
    subst (λ key. is_some (get slab key) ≡ true) (sym c.index.ensures) held

pub returns : goal.returns
returns c =
    let slab = c.self.inside.reads in
    let keys = c.self.inside.keys.items in
    let at : IsPlace c.args.op slab keys c.in_ok-place.place = place_found c.args.op slab keys c.in_ok-place.place (sym c.in_ok-place.ensures) in
    let held : get slab (get_or keys c.in_ok-place.place c.index.result.now) ≡ Some c.index-2.result.now = ap (get slab) (sym c.index.ensures) ∙ c.index-2.ensures in
    sym (ap (sync_of c.args.op) (sym c.self.view_is) ∙ at.sync c.index.result.now ∙ ap (option_map (λ (r : WaitingRead). r.at)) held)
