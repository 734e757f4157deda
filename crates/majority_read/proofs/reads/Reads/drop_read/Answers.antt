use Rattle.std.proofs.Common.{◌≡◌, ◌<◌, true, is_some, Some, None, length, get_or, position, remove, subst, sym, ap, ◌∙◌, arith}
use Rattle.slab.specs.Slab.{get, Updates}
use Rattle.majority_read.specs.Reads.{has_read_of, without_read_of, is_rising}
use Rattle.majority_read.specs.Keys.{reads_at, is_key_of}
use Rattle.majority_read.proofs.Kept.{IsDropped, IsAbsent, IsPlace, absent, dropped, key_held, on_some, place_found}
use Rattle.majority_read.proofs.reads.Reads.drop_read.Goals as goal

pub returns-in_default-clause-found : goal.returns-in_default-clause-found
returns-in_default-clause-found c =
    let none : IsAbsent c.args.op (reads_at c.self.inside.reads c.self.inside.keys.items) = absent c.args.op c.self.inside.reads c.self.inside.keys.items (sym c.place_of.ensures ∙ c.in_default.is) in
    sym (ap (has_read_of c.args.op) (sym c.self.view_is) ∙ none.none)

pub returns-in_default-clause-rest : goal.returns-in_default-clause-rest
returns-in_default-clause-rest c =
    let none : IsAbsent c.args.op (reads_at c.self.inside.reads c.self.inside.keys.items) = absent c.args.op c.self.inside.reads c.self.inside.keys.items (sym c.place_of.ensures ∙ c.in_default.is) in
    subst (λ rs. rs ≡ without_read_of c.args.op rs) c.self.view_is (sym none.same)

pub remove-requires-2 : goal.remove-requires-2
remove-requires-2 c =
    let slab = c.self.inside.reads in
    let keys = c.self.inside.keys.items in
    let at : IsPlace c.args.op slab keys c.in-Some.place = place_found c.args.op slab keys c.in-Some.place (sym c.place_of.ensures ∙ c.in-Some.is) in
    let held : is_some (get slab (get_or keys c.in-Some.place c.index-key.result.now)) ≡ true = key_held slab keys c.in-Some.place c.index-key.result.now at.within c.self.invariant.keys_are in
    subst (λ key. is_some (get slab key) ≡ true) (sym c.index-key.ensures) held

pub invariant_of-self : goal.invariant_of-self
invariant_of-self c =
    let slab = c.self.inside.reads in
    let keys = c.self.inside.keys.items in
    let place = c.in-Some.place in
    let found : position (is_key_of slab c.args.op) keys ≡ Some place = sym c.place_of.ensures ∙ c.in-Some.is in
    let within : place < length keys = (place_found c.args.op slab keys place found).within in
    let left : c.remove.new.self.items ≡ remove keys place = on_some c.remove.result (c.remove.new.self.items ≡ remove keys place) (c.remove.ensures.variant.1 (omega arith)) c.remove.ensures.items in
    let updates : Updates slab c.remove-2.new.self (get_or keys place c.index-key.result.now) None = subst (λ key. Updates slab c.remove-2.new.self key None) c.index-key.ensures c.remove-2.ensures.updates in
    let done : IsDropped c.args.op slab c.remove-2.new.self keys (remove keys place) = dropped c.args.op slab c.remove-2.new.self keys place c.index-key.result.now c.self.invariant found updates c.remove-2.ensures.len in
    rw left done.kept

pub returns : goal.returns
returns c =
    let slab = c.self.inside.reads in
    let keys = c.self.inside.keys.items in
    let place = c.in-Some.place in
    let found : position (is_key_of slab c.args.op) keys ≡ Some place = sym c.place_of.ensures ∙ c.in-Some.is in
    let within : place < length keys = (place_found c.args.op slab keys place found).within in
    let left : c.remove.new.self.items ≡ remove keys place = on_some c.remove.result (c.remove.new.self.items ≡ remove keys place) (c.remove.ensures.variant.1 (omega arith)) c.remove.ensures.items in
    let updates : Updates slab c.remove-2.new.self (get_or keys place c.index-key.result.now) None = subst (λ key. Updates slab c.remove-2.new.self key None) c.index-key.ensures c.remove-2.ensures.updates in
    let done : IsDropped c.args.op slab c.remove-2.new.self keys (remove keys place) = dropped c.args.op slab c.remove-2.new.self keys place c.index-key.result.now c.self.invariant found updates c.remove-2.ensures.len in
    record {
      found = sym (ap (has_read_of c.args.op) (sym c.self.view_is) ∙ done.found);
      rest = rw left (done.reads ∙ ap (without_read_of c.args.op) c.self.view_is);
      rising = subst (λ rs. is_rising rs ≡ true) c.self.view_is c.self.invariant.rises;
    }
