use Rattle.std.proofs.Common.{◌≡◌, ◌<◌, ◌≤◌, true, Some, ◌∷◌, length, drop, refl, subst, sym, ap, ◌∙◌, arith}
use Rattle.majority_read.specs.declared.waiting_read.WaitingRead.{WaitingRead}
use Rattle.majority_read.specs.Reads.{all_above, all_from, is_rising, behind_upto}
use Rattle.majority_read.specs.Keys.{reads_at, IsKept}
use Rattle.majority_read.proofs.Kept.{IsFirstTaken, first_taken, reads_at-first, split_first}
use Rattle.majority_read.proofs.Order.{behind_first, first_least, none_upto}
use Rattle.majority_read.proofs.reads.Reads.take_upto.Goals as goal

pub returns-then-index-at-clause-none : goal.returns-then-index-at-clause-none
returns-then-index-at-clause-none c =
    let slab = c.self.inside.reads in
    let keys = c.self.inside.keys.items in
    let key = c.in_ok-key.field-0.now in
    let r = c.index.result.now in
    let within : 0 < length keys = omega (arith, c.in_ok-key.ensures.variant.0 refl) in
    let first : keys ≡ key ∷ drop 1 keys = split_first keys key within c.in_ok-key.ensures.lookup in
    let reads : reads_at slab keys ≡ r ∷ reads_at slab (drop 1 keys) = ap (reads_at slab) first ∙ reads_at-first slab key (drop 1 keys) r c.index.ensures in
    let rises : is_rising (r ∷ reads_at slab (drop 1 keys)) ≡ true = subst (λ rs. is_rising rs ≡ true) reads c.self.invariant.rises in
    subst (λ rs. all_above c.args.at rs ≡ true) (sym reads ∙ c.self.view_is) (none_upto c.args.at r (reads_at slab (drop 1 keys)) c.if-index-at.true rises)

pub invariant_of-self : goal.invariant_of-self
invariant_of-self c =
    let slab = c.self.inside.reads in
    let keys = c.self.inside.keys.items in
    let key = c.in_ok-key.field-0.now in
    let within : 0 < length keys = omega (arith, c.in_ok-key.ensures.variant.0) in
    let first : keys ≡ key ∷ drop 1 keys = split_first keys key within c.in_ok-key.ensures.lookup in
    let taken : IsFirstTaken slab c.remove-read.new.self key (drop 1 keys) c.remove-read.result = first_taken slab c.remove-read.new.self key (drop 1 keys) c.remove-read.result (subst (λ ks. IsKept slab ks) first c.self.invariant) c.remove-read.ensures.value c.remove-read.ensures.updates c.remove-read.ensures.len in
    rw c.pop_front.ensures.rest taken.kept

pub returns-clause-rest : goal.returns-clause-rest
returns-clause-rest c =
    let slab = c.self.inside.reads in
    let keys = c.self.inside.keys.items in
    let key = c.in_ok-key.field-0.now in
    let r = c.remove-read.result in
    let within : 0 < length keys = omega (arith, c.in_ok-key.ensures.variant.0) in
    let first : keys ≡ key ∷ drop 1 keys = split_first keys key within c.in_ok-key.ensures.lookup in
    let taken : IsFirstTaken slab c.remove-read.new.self key (drop 1 keys) r = first_taken slab c.remove-read.new.self key (drop 1 keys) r (subst (λ ks. IsKept slab ks) first c.self.invariant) c.remove-read.ensures.value c.remove-read.ensures.updates c.remove-read.ensures.len in
    let all : reads_at slab keys ≡ r ∷ reads_at c.remove-read.new.self (drop 1 keys) = ap (reads_at slab) first ∙ taken.reads in
    let same : Some c.index.result.now ≡ Some r = sym c.index.ensures ∙ c.remove-read.ensures.value in
    let at : c.index.result.now ≡ r = cc in
    let upto : r.at ≤ c.args.at = subst (λ (q : WaitingRead). q.at ≤ c.args.at) at c.if-index-at.false in
    let left : reads_at c.remove-read.new.self (drop 1 keys) ≡ behind_upto c.args.at (reads_at slab keys) = sym (ap (behind_upto c.args.at) all ∙ behind_first c.args.at r (reads_at c.remove-read.new.self (drop 1 keys)) upto) in
    rw c.pop_front.ensures.rest (left ∙ ap (behind_upto c.args.at) c.self.view_is)

pub returns-clause-least : goal.returns-clause-least
returns-clause-least c =
    let slab = c.self.inside.reads in
    let keys = c.self.inside.keys.items in
    let key = c.in_ok-key.field-0.now in
    let r = c.remove-read.result in
    let within : 0 < length keys = omega (arith, c.in_ok-key.ensures.variant.0) in
    let first : keys ≡ key ∷ drop 1 keys = split_first keys key within c.in_ok-key.ensures.lookup in
    let reads : reads_at slab keys ≡ r ∷ reads_at slab (drop 1 keys) = ap (reads_at slab) first ∙ reads_at-first slab key (drop 1 keys) r c.remove-read.ensures.value in
    let rises : is_rising (r ∷ reads_at slab (drop 1 keys)) ≡ true = subst (λ rs. is_rising rs ≡ true) reads c.self.invariant.rises in
    subst (λ rs. all_from r.at rs ≡ true) (sym reads ∙ c.self.view_is) (first_least r (reads_at slab (drop 1 keys)) rises)
