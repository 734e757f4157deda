-- Elections that do not end at once, and those that do.
use Rattle.std.proofs.Common.{◌≡◌, ℕ, false, List, length, arith, subst, sym, ◌||◌}
use Rattle.std.proofs.lemmas.Bool.Decides.{nat_tests}
use Rattle.region_map.specs.declared.id.NodeId.{NodeId}
use Rattle.raft_vote.specs.declared.message.RaftMessage.{RaftMessage}
use Rattle.raft_vote.specs.Log.{last_term}
use Rattle.raft_vote.specs.State.{VoteState}
use Rattle.raft_vote.specs.Rows.{Asking, is_leader, vote_tick, ends_terms, asks}
use Rattle.raft_node.specs.State.{RaftState}
use Rattle.raft_node.specs.Rows.{elected, elect_row, elect_ends, ends_at_win}

module _ {E : Type 0} (noop : E) (s : RaftState E) where
  elected_lost : (votes : VoteState) (sent : List (NodeId × RaftMessage E)) → is_leader votes.role ≡ false → elected noop s votes sent ≡ record { node = record s { votes = votes }; sent = sent }
  elected_lost votes sent e = grind (arith, nat_tests)

  pub elect_row_lost : (unseen : List ℕ) (r : Asking) → r ≡ vote_tick s.votes unseen → is_leader r.node.role ≡ false → record { node = record s { votes = r.node }; sent = asks r.node.term (last_term s.log) (length s.log) r.asked } ≡ elect_row noop s unseen
  elect_row_lost unseen r e lost =
      subst (λ (q : Asking). record { node = record s { votes = r.node }; sent = asks r.node.term (last_term s.log) (length s.log) r.asked } ≡ elected noop s q.node (asks q.node.term (last_term s.log) (length s.log) q.asked)) e
      (sym (elected_lost r.node (asks r.node.term (last_term s.log) (length s.log) r.asked) lost))

  pub elect_ends_lost : (unseen : List ℕ) (r : Asking) → r ≡ vote_tick s.votes unseen → ends_terms s.votes unseen ≡ false → is_leader r.node.role ≡ false → elect_ends s unseen ≡ false
  elect_ends_lost unseen r e goes_on lost =
      subst (λ (q : Asking). (ends_terms s.votes unseen || ends_at_win s q.node) ≡ false) e
      (rw goes_on (ends_at_win_lost r.node lost))
    where
      ends_at_win_lost : (votes : VoteState) → is_leader votes.role ≡ false → ends_at_win s votes ≡ false
      ends_at_win_lost votes lost = grind (arith, nat_tests)
