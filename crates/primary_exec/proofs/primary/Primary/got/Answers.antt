use Rattle.std.proofs.Common.{◌≡◌, List, map, length, take, drop, ◌++◌, ap, ◌∙◌, sym, subst, rules}
use Rattle.std.proofs.lemmas.List.{length-map}
use Rattle.write_dispatch.specs.Dispatch.{DispatchState}
use Rattle.write_dispatch.specs.declared.decided.Decided.{Decided}
use Rattle.primary_exec.specs.declared.session.Session.{Session}
use Rattle.primary_exec.specs.Execution.{IsSound, with_acked}
use Rattle.primary_exec.specs.Reads.{are_reads_of}
use Rattle.primary_exec.proofs.Sound.{IsSound-acked, whole_slice}
use Rattle.primary_exec.proofs.primary.Primary.got.Goals as goal

pub invariant_of-self : goal.invariant_of-self
invariant_of-self c =
    let old : List Session = c.self.inside.sessions.items in
    let new : c.acknowledge.new.sessions ≡ map (with_acked c.args.from c.args.got.now.session c.args.got.now.upto) old =
    c.acknowledge.ensures ∙ ap (map (with_acked c.args.from c.args.got.now.session c.args.got.now.upto)) c.deref_mut.ensures.value in
    let all : take c.self.inside.sessions.len (c.acknowledge.new.sessions ++ drop (length c.acknowledge.new.sessions) old) ≡ c.acknowledge.new.sessions =
    whole_slice c.self.inside.sessions.len c.acknowledge.new.sessions old (search rules) (ap length new ∙ length-map old (with_acked c.args.from c.args.got.now.session c.args.got.now.upto)) in
    let waiting : c.count_ack.new.self.waiting ≡ c.self.inside.pending.waiting = ap (λ (p : DispatchState). p.waiting) c.count_ack.ensures in
    let sound = IsSound-acked c.args.from c.args.got.now.session c.args.got.now.upto c.self.inside.last c.self.inside.pending.waiting old c.self.invariant.0 in (
      subst (λ (w : List Decided). IsSound c.self.inside.last w (take c.self.inside.sessions.len (c.acknowledge.new.sessions ++ drop (length c.acknowledge.new.sessions) old))) (sym waiting)
          (subst (λ (l : List Session). IsSound c.self.inside.last c.self.inside.pending.waiting l) (sym (all ∙ new)) sound),
      ap (λ (w : List Decided). are_reads_of w c.self.inside.reads) waiting ∙ c.self.invariant.1,
    )

pub invariant_of-self-in_default : goal.invariant_of-self-in_default
invariant_of-self-in_default c =
    let old : List Session = c.self.inside.sessions.items in
    let new : c.acknowledge.new.sessions ≡ map (with_acked c.args.from c.args.got.now.session c.args.got.now.upto) old =
    c.acknowledge.ensures ∙ ap (map (with_acked c.args.from c.args.got.now.session c.args.got.now.upto)) c.deref_mut.ensures.value in
    let all : take c.self.inside.sessions.len (c.acknowledge.new.sessions ++ drop (length c.acknowledge.new.sessions) old) ≡ c.acknowledge.new.sessions =
    whole_slice c.self.inside.sessions.len c.acknowledge.new.sessions old (search rules) (ap length new ∙ length-map old (with_acked c.args.from c.args.got.now.session c.args.got.now.upto)) in
    let sound = IsSound-acked c.args.from c.args.got.now.session c.args.got.now.upto c.self.inside.last c.self.inside.pending.waiting old c.self.invariant.0 in
    (subst (λ (l : List Session). IsSound c.self.inside.last c.self.inside.pending.waiting l) (sym (all ∙ new)) sound, c.self.invariant.1)
