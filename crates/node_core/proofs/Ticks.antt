-- A tick from its parts: what is proposed, the log's tick, and what is said.
use Rattle.std.proofs.Common.{◌≡◌, true, false, cond, List, ◌++◌, refl, sym, ap, ap₂, ◌∙◌, subst, append_assoc}
use Rattle.raft_node.specs.Rows.{ends_numbers as raft_ends_numbers}
use Rattle.raft_node.specs.declared.input.RaftInput.TheVariants as raft
use Rattle.table_log.specs.Logs.{table_of}
use Rattle.coordinator.specs.Proposals.{proposals_of, after_proposals}
use Rattle.exec_types.specs.declared.output.Output.{Output}
use Rattle.node_core.specs.Step.{NodeState, coordinates, propose_all, with_proposals, tick_log, says_now, tick_row, tick_ends_numbers}

-- proposing leaves the nodes that are not seen
unseen_stays : (s : NodeState) → (with_proposals s).unseen ≡ s.unseen
unseen_stays s =
    elim (coordinates s.log) as (λ c. (cond c (record s { log = propose_all s.log (proposals_of s.acks (table_of s.log)); acks = after_proposals s.acks (table_of s.log) }) s).unseen ≡ s.unseen) [
      | true ↦ refl
      | false ↦ refl
    ]

pub ticked_node : (s n t : NodeState) → n ≡ with_proposals s → t ≡ (tick_log n).node → t ≡ (tick_row s).node
ticked_node s n t a b = b ∙ ap (λ (m : NodeState). (tick_log m).node) a

pub ticked_outs : (s n t : NodeState) (out mid end : List Output) → n ≡ with_proposals s → t ≡ (tick_log n).node → mid ≡ out ++ (tick_log n).outs → end ≡ mid ++ says_now t
    → end ≡ out ++ (tick_row s).outs
ticked_outs s n t out mid end a b c d =
    d ∙ ap₂ (λ (m : List Output) (k : NodeState). m ++ says_now k) (c ∙ ap (λ (m : NodeState). out ++ (tick_log m).outs) a) (ticked_node s n t a b)
    ∙ append_assoc out (tick_log (with_proposals s)).outs (says_now (tick_log (with_proposals s)).node)

pub ends_same : (s n : NodeState) → n ≡ with_proposals s → raft_ends_numbers n.log.raft (raft.Tick n.unseen) ≡ tick_ends_numbers s
ends_same s n a =
    ap (λ (m : NodeState). raft_ends_numbers m.log.raft (raft.Tick m.unseen)) a ∙ ap (λ u. raft_ends_numbers (with_proposals s).log.raft (raft.Tick u)) (unseen_stays s)

pub ticked_goes : (s n : NodeState) → n ≡ with_proposals s → raft_ends_numbers n.log.raft (raft.Tick n.unseen) ≡ false → tick_ends_numbers s ≡ false
ticked_goes s n a e = sym (ends_same s n a) ∙ e
