use Rattle.std.proofs.Common.{rules, ◌≡◌, ◌∙◌, ℕ, List, Bool, false, true, sym, ap}
use Rattle.std.proofs.lemmas.Bool.{false≢true, false_from_ne_true}
use Rattle.raft_vote.specs.Rows.{Asking, is_leader, ends_terms, vote_tick}
use Rattle.raft_node.specs.State.{RaftState}
use Rattle.raft_node.specs.Rows.{elect_row, elect_ends}
use Rattle.raft_node.proofs.Elections.{elect_row_lost, elect_ends_lost}
use Rattle.raft_node.proofs.node.RaftNode.elect.Goals as goal

-- nothing ends at an election that is not won
goes_on : {E : Type 0} (noop : E) (s t : RaftState E) (unseen : List ℕ) (r : Asking) (b : Bool) → s ≡ t → r ≡ vote_tick s.votes unseen → (ends_terms s.votes unseen ≡ true → false ≡ true) → b ≡ is_leader r.node.role → b ≡ false → elect_ends t unseen ≡ true → false ≡ true
goes_on {E = E} noop s t unseen r b same moved unended led lost ends =
    sym (elect_ends_lost noop s unseen r moved (false_from_ne_true (ends_terms s.votes unseen) (λ e. false≢true (unended e))) (sym led ∙ lost))
    ∙ ap (λ (x : RaftState E). elect_ends x unseen) same ∙ ends

pub returns-in_err-ask-clause-numbers : goal.returns-in_err-ask-clause-numbers
returns-in_err-ask-clause-numbers g c =
    let on = goes_on g.E.RaftEntry.noop_entry _ c.args.self.now c.args.unseen.now (record { node = c.tick.new.self; asked = c.in_ok-asked.asked }) c.is_leader.result c.self.view_is c.in_ok-asked.ensures.ok c.in_ok-asked.ensures.refused.1 c.is_leader.ensures c.if-not-is_leader.true in
    (λ e. search rules, λ e. absurd (false≢true (on e)))

pub returns-then-not-is_leader-clause-ok : goal.returns-then-not-is_leader-clause-ok
returns-then-not-is_leader-clause-ok g c =
    let row = elect_row_lost g.E.RaftEntry.noop_entry (record { votes = c.self.inside.votes; log = c.self.inside.log; view = c.self.inside.view; peers = c.self.inside.peers }) c.args.unseen.now (record { node = c.tick.new.self; asked = c.in_ok-asked.asked }) c.in_ok-asked.ensures.ok (sym c.is_leader.ensures ∙ c.if-not-is_leader.true) in
    rw c.in_ok-ask.ensures (row ∙ ap (λ (s : RaftState g.row.E.Denot). elect_row g.E.RaftEntry.noop_entry s c.args.unseen.now) c.self.view_is)

pub returns-then-not-is_leader-clause-numbers : goal.returns-then-not-is_leader-clause-numbers
returns-then-not-is_leader-clause-numbers g c =
    let on = goes_on g.E.RaftEntry.noop_entry _ c.args.self.now c.args.unseen.now (record { node = c.tick.new.self; asked = c.in_ok-asked.asked }) c.is_leader.result c.self.view_is c.in_ok-asked.ensures.ok c.in_ok-asked.ensures.refused.1 c.is_leader.ensures c.if-not-is_leader.true in
    (λ e. cc, λ e. absurd (false≢true (on e)))
