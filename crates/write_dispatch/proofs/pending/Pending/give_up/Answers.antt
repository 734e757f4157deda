use Rattle.std.proofs.Common.{◌≡◌, List, Some, None, Ok, Err, position, length, sym, ap, ◌∙◌, refl, subst}
use Rattle.std.proofs.lemmas.Option.{slice_get_read}
use Rattle.write_dispatch.specs.declared.decided.Decided.{Decided}
use Rattle.write_dispatch.specs.declared.refused.GiveUpRefused.TheVariants.{StillDecided}
use Rattle.write_dispatch.specs.Dispatch.{DispatchState, counts_of, is_of, pending_of, without_op, give_up_answer}
use Rattle.write_dispatch.proofs.GivenUp.{answer-decided, answer-undecided}
use Rattle.write_dispatch.proofs.Queue.{IsPlace, is_rising-without_op, place_found, place_missing}
use Rattle.write_dispatch.proofs.pending.Pending.give_up.Goals as goal

pub returns-in_default-clause-answer : goal.returns-in_default-clause-answer
returns-in_default-clause-answer c =
    let missing : pending_of c.self.inside.waiting c.args.op ≡ None = place_missing c.self.inside.waiting c.args.op (ap (position (λ (d : Decided). is_of c.args.op d.op)) (sym c.as_slice-waiting.ensures) ∙ sym c.place_of.ensures ∙ c.in_default.is) in
    let same : pending_of c.args.self.now.waiting c.args.op ≡ None = ap (λ (s : DispatchState). pending_of s.waiting c.args.op) (sym c.self.view_is) ∙ missing in
    ap (give_up_answer c.args.self.now.acks c.args.contract.now c.args.me.0) (sym same)

pub returns-then-are_majorities-clause-answer : goal.returns-then-are_majorities-clause-answer
returns-then-are_majorities-clause-answer c =
    let at : IsPlace c.self.inside.waiting c.args.op c.in-Some.index = place_found c.self.inside.waiting c.args.op c.in-Some.index (ap (position (λ (d : Decided). is_of c.args.op d.op)) (sym c.as_slice-waiting.ensures) ∙ sym c.place_of.ensures ∙ c.in-Some.is) in
    let here : pending_of c.self.inside.waiting c.args.op ≡ Some c.index-waiting-index.result = sym at.found ∙ slice_get_read c.self.inside.waiting (length c.self.inside.waiting) c.in-Some.index c.index-waiting-index.result refl at.within (rw (← c.as_slice-waiting.ensures) c.index-waiting-index.is) in
    let counts : c.counts_of-counts.result ≡ counts_of c.self.inside.acks c.args.contract.now c.args.me.0 c.index-waiting-index.result.at = c.counts_of-counts.ensures ∙ ap (λ (d : Decided). counts_of c.self.inside.acks c.args.contract.now c.args.me.0 d.at) (sym c.index-waiting-index.is) in
    let answered : Err (StillDecided c.counts_of-counts.result) ≡ give_up_answer c.self.inside.acks c.args.contract.now c.args.me.0 (pending_of c.self.inside.waiting c.args.op) = answer-decided c.self.inside.acks c.args.contract.now c.args.me.0 (pending_of c.self.inside.waiting c.args.op) c.index-waiting-index.result c.counts_of-counts.result here counts (sym c.are_majorities.ensures ∙ c.if-are_majorities.true) in
    subst (λ (s : DispatchState). Err (StillDecided c.counts_of-counts.result) ≡ give_up_answer s.acks c.args.contract.now c.args.me.0 (pending_of s.waiting c.args.op)) c.self.view_is answered

pub returns-clause-answer : goal.returns-clause-answer
returns-clause-answer c =
    let at : IsPlace c.self.inside.waiting c.args.op c.in-Some.index = place_found c.self.inside.waiting c.args.op c.in-Some.index (ap (position (λ (d : Decided). is_of c.args.op d.op)) (sym c.as_slice-waiting.ensures) ∙ sym c.place_of.ensures ∙ c.in-Some.is) in
    let here : pending_of c.self.inside.waiting c.args.op ≡ Some c.index-waiting-index.result = sym at.found ∙ slice_get_read c.self.inside.waiting (length c.self.inside.waiting) c.in-Some.index c.index-waiting-index.result refl at.within (rw (← c.as_slice-waiting.ensures) c.index-waiting-index.is) in
    let counts : c.counts_of-counts.result ≡ counts_of c.self.inside.acks c.args.contract.now c.args.me.0 c.index-waiting-index.result.at = c.counts_of-counts.ensures ∙ ap (λ (d : Decided). counts_of c.self.inside.acks c.args.contract.now c.args.me.0 d.at) (sym c.index-waiting-index.is) in
    let answered : Ok c.counts_of-counts.result ≡ give_up_answer c.self.inside.acks c.args.contract.now c.args.me.0 (pending_of c.self.inside.waiting c.args.op) = answer-undecided c.self.inside.acks c.args.contract.now c.args.me.0 (pending_of c.self.inside.waiting c.args.op) c.index-waiting-index.result c.counts_of-counts.result here counts (sym c.are_majorities.ensures ∙ c.if-are_majorities.false) in
    subst (λ (s : DispatchState). Ok c.counts_of-counts.result ≡ give_up_answer s.acks c.args.contract.now c.args.me.0 (pending_of s.waiting c.args.op)) c.self.view_is answered

pub invariant_of-self : goal.invariant_of-self
invariant_of-self c =
    let at : IsPlace c.self.inside.waiting c.args.op c.in-Some.index = place_found c.self.inside.waiting c.args.op c.in-Some.index (ap (position (λ (d : Decided). is_of c.args.op d.op)) (sym c.as_slice-waiting.ensures) ∙ sym c.place_of.ensures ∙ c.in-Some.is) in
    (rw (c.remove.ensures, at.left) (is_rising-without_op c.self.inside.waiting c.args.op c.self.invariant.0), c.self.invariant.1)

pub returns-clause-ok : goal.returns-clause-ok
returns-clause-ok c =
    let at : IsPlace c.self.inside.waiting c.args.op c.in-Some.index = place_found c.self.inside.waiting c.args.op c.in-Some.index (ap (position (λ (d : Decided). is_of c.args.op d.op)) (sym c.as_slice-waiting.ensures) ∙ sym c.place_of.ensures ∙ c.in-Some.is) in
    let left : c.remove.new.self ≡ without_op c.self.inside.waiting c.args.op = c.remove.ensures ∙ at.left in
    subst (λ (s : DispatchState). record { waiting = c.remove.new.self; acks = c.self.inside.acks } ≡ record s { waiting = without_op s.waiting c.args.op }) c.self.view_is (ap (λ (w : List Decided). record { waiting = w; acks = c.self.inside.acks }) left)
