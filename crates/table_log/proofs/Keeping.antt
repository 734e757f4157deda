-- The table that is kept beside a log stays the one that follows from it.
use Rattle.std.proofs.Common.{◌≡◌, ◌∙◌, ℕ, suc, ◌+◌, ◌<◌, ◌⊎◌, inl, inr, true, length, get_or, Result, Ok, Err, IfOk, OnErr, refl, sym, ap, ap₂, subst, arith, add-one}
use Rattle.std.proofs.lemmas.Bool.{and_parts}
use Rattle.std.proofs.lemmas.List.{get_or-map}
use Rattle.region_map.specs.declared.id.NodeId.{NodeId}
use Rattle.raft_vote.specs.declared.log.LogEntry.{LogEntry}
use Rattle.raft_vote.specs.declared.message.RaftMessage.TheVariants.{VoteAsk, VoteSay, Append, AppendSay}
use Rattle.raft_node.specs.declared.input.RaftInput.{RaftInput}
use Rattle.raft_node.specs.declared.input.RaftInput.TheVariants.{Tick, Deliver}
use Rattle.raft_node.specs.declared.node.ProposeRefused.{ProposeRefused}
use Rattle.raft_node.specs.State.{RaftState}
use Rattle.raft_node.specs.Rows.{raft_step, proposed, is_well_formed}
use Rattle.raft_node.specs.Committed.{KeepsCommitted}
use Rattle.contract_types.specs.declared.change.Change.{Change}
use Rattle.contract_types.specs.declared.change.Change.TheVariants.{Noop}
use Rattle.contract_types.specs.declared.applied.Applied.{Applied}
use Rattle.contract_types.specs.Configs.{ConfigState}
use Rattle.contract_types.specs.Tables.{Table}
use Rattle.table_apply.specs.Effects.{Effect, applied_at, FitsTable}
use Rattle.table_apply.specs.Runs.{change_at, table_at}
use Rattle.table_log.specs.Fitting.{changes_of, fits, log_fits, input_fits}
use Rattle.table_log.specs.Logs.{LogState, IsFollowed, may_take, result_at}
use Rattle.table_log.proofs.Frames.{step_me, step_nodes, proposed_me, proposed_nodes, passes_ticked, passes_delivered, passes_proposed}
use Rattle.table_log.proofs.Holding.{each_fits, hashes_stay}
use Rattle.table_log.proofs.Prefixes.{kept_table}

abbrev state : ConfigState → RaftState Change → ℕ → LogState
state config raft acted = record { config = config; raft = raft; acted = acted }

pub step_fitting : (hashes : ℕ) (raft : RaftState Change) (input : RaftInput Change) → log_fits hashes raft.log ≡ true → input_fits hashes input ≡ true → log_fits hashes (raft_step Noop raft input).node.log ≡ true
step_fitting hashes raft (Tick unseen) own new = passes_ticked (fits hashes) Noop raft refl own unseen
step_fitting hashes raft (Deliver from (VoteAsk term last_term last_index)) own new = passes_delivered (fits hashes) Noop raft refl own from (VoteAsk term last_term last_index) tt
step_fitting hashes raft (Deliver from (VoteSay term granted)) own new = passes_delivered (fits hashes) Noop raft refl own from (VoteSay term granted) tt
step_fitting hashes raft (Deliver from (Append term prev prev_term entries commit)) own new = passes_delivered (fits hashes) Noop raft refl own from (Append term prev prev_term entries commit) new
step_fitting hashes raft (Deliver from (AppendSay term ok upto)) own new = passes_delivered (fits hashes) Noop raft refl own from (AppendSay term ok upto) tt

module _ (me : NodeId) (config : ConfigState) (raft : RaftState Change) (acted : ℕ) (table : Table) (h : IsFollowed me (state config raft acted) table) where
  goes_on : (t : RaftState Change) → t.votes.me ≡ raft.votes.me → t.votes.nodes ≡ raft.votes.nodes → log_fits config.hashes t.log ≡ true → KeepsCommitted raft t → IsFollowed me (state config t acted) table
  goes_on t same nodes fitting kept =
      record {
        me_is = same ∙ h.me_is;
        me_within = h.me_within;
        few = h.few;
        nodes_are = nodes ∙ h.nodes_are;
        acted_within = omega (arith, h.acted_within, kept.rises);
        fitting = fitting;
        table_is = h.table_is ∙ sym (kept_table config raft t acted kept h.acted_within);
      }

  pub followed_step : (input : RaftInput Change) (t : RaftState Change) → may_take (state config raft acted) input ≡ true → t ≡ (raft_step Noop raft input).node → KeepsCommitted raft t → IsFollowed me (state config t acted) table
  followed_step input t given is kept =
      let new = and_parts (is_well_formed raft input) (input_fits config.hashes input) given in
      goes_on t (ap (λ (u : RaftState Change). u.votes.me) is ∙ step_me Noop raft input) (ap (λ (u : RaftState Change). u.votes.nodes) is ∙ step_nodes Noop raft input)
      (ap (λ (u : RaftState Change). log_fits config.hashes u.log) is ∙ step_fitting config.hashes raft input h.fitting new.1) kept

  -- a change was appended, or nothing was done
  came : (r : Result ℕ (ProposeRefused Change)) (t : RaftState Change) (change : Change) → IfOk r (λ index. (t ≡ proposed raft change) × (index ≡ length t.log)) → OnErr r (t ≡ raft) → (t ≡ proposed raft change) ⊎ (t ≡ raft)
  came (Ok index) t change ok err = inl ok.0
  came (Err e) t change ok err = inr err

  pub followed_propose : (r : Result ℕ (ProposeRefused Change)) (t : RaftState Change) (change : Change) → fits config.hashes change ≡ true
      → IfOk r (λ index. (t ≡ proposed raft change) × (index ≡ length t.log)) → OnErr r (t ≡ raft) → KeepsCommitted raft t → IsFollowed me (state config t acted) table
  followed_propose r t change given ok err kept =
      elim (came r t change ok err) [
        | inl is ↦
            goes_on t (ap (λ (u : RaftState Change). u.votes.me) is ∙ proposed_me Noop raft change) (ap (λ (u : RaftState Change). u.votes.nodes) is ∙ proposed_nodes Noop raft change)
            (ap (λ (u : RaftState Change). log_fits config.hashes u.log) is ∙ passes_proposed (fits config.hashes) Noop raft refl h.fitting change given) kept
        | inr same ↦ subst (λ (u : RaftState Change). IsFollowed me (state config u acted) table) (sym same) h
      ]

  -- ---- acting on the entry at the next index

  pub followed_hashes : table.config.hashes ≡ config.hashes
  followed_hashes = ap (λ (t : Table). t.config.hashes) h.table_is ∙ hashes_stay config raft.log acted h.fitting

  module _ (entry : LogEntry Change) (within : acted < length raft.log) (change : Change) (copied : change ≡ (get_or raft.log acted entry).change) where
    change_is : change_at (changes_of raft.log) acted ≡ change
    change_is = get_or-map (λ e. e.change) raft.log acted entry Noop within ∙ sym copied

    pub followed_fits : FitsTable table.config.hashes change
    followed_fits =
        subst (λ n. FitsTable n change) (sym followed_hashes)
        (subst (λ (x : Change). FitsTable config.hashes x) change_is (each_fits config.hashes raft.log acted h.fitting))

    -- the effect is that at the index behind `acted`
    effect_is : (e : Effect) → e ≡ applied_at table (acted + 1) change → e ≡ applied_at (table_at config (changes_of raft.log) acted) (suc acted) (change_at (changes_of raft.log) acted)
    effect_is e is =
        is
        ∙ ap (λ (t : Table). applied_at t (acted + 1) change) h.table_is
        ∙ ap (λ i. applied_at (table_at config (changes_of raft.log) acted) i change) (add-one acted)
        ∙ ap (λ (x : Change). applied_at (table_at config (changes_of raft.log) acted) (suc acted) x) (sym change_is)

    pub followed_act : (e : Effect) → e ≡ applied_at table (acted + 1) change → acted < raft.view → IsFollowed me (state config raft (acted + 1)) e.table
    followed_act e is behind =
        record {
          me_is = h.me_is;
          me_within = h.me_within;
          few = h.few;
          nodes_are = h.nodes_are;
          acted_within = omega (arith, behind);
          fitting = h.fitting;
          table_is = ap (λ (x : Effect). x.table) (effect_is e is) ∙ ap (table_at config (changes_of raft.log)) (sym (add-one acted));
        }

    pub given_is : (e : Effect) → e ≡ applied_at table (acted + 1) change → (change, e.applied) ≡ result_at config (changes_of raft.log) acted
    given_is e is = ap₂ (λ (x : Change) (a : Applied). (x, a)) (sym change_is) (ap (λ (x : Effect). x.applied) (effect_is e is))
