-- What a tick does to the log of a node: entries come to its end, if any.
use Rattle.std.proofs.Common.{◌≡◌, ◌≤◌, ℕ, ◌+◌, true, cond, ◌&&◌, not, max, List, [], ◌∷◌, ◌++◌, length, take, Option, Some, None, refl, sym, ap, ◌∙◌, append-nil, append_assoc}
use Rattle.std.proofs.lemmas.Bool.{cond_both}
use Rattle.std.proofs.lemmas.List.{take-append-le}
use Rattle.list_laws.specs.Members.{IsIn}
use Rattle.list_laws.proofs.Members.{IsIn-left}
use Rattle.runs.specs.region_map.declared.id.NodeId.{NodeId}
use Rattle.runs.specs.raft_vote.declared.log.LogEntry.{LogEntry}
use Rattle.runs.specs.raft_vote.declared.message.RaftMessage.{RaftMessage}
use Rattle.runs.specs.raft_vote.State.{VoteState}
use Rattle.runs.specs.raft_vote.Rows.{is_leader, wins, vote_tick, asks}
use Rattle.runs.specs.raft_vote.Log.{last_term}
use Rattle.runs.specs.raft_append.Commit.{decided}
use Rattle.runs.specs.raft_append.Peers.{reset_to}
use Rattle.runs.specs.raft_node.declared.input.RaftInput.TheVariants.{Tick}
use Rattle.runs.specs.raft_node.State.{RaftState}
use Rattle.runs.specs.raft_node.Rows.{RaftStepped, is_full, append_all, with_entry, won, elected, elect_row, tick_row, advanced, raft_step}
use Rattle.runs.specs.contract_types.declared.change.Change.{Change}
use Rattle.runs.specs.contract_types.declared.change.Change.TheVariants.{Noop}
use Rattle.runs.specs.contract_types.declared.results.Viewed.{Viewed as Results}
use Rattle.runs.specs.coordinator.Proposals.{proposals_of, after_proposals}
use Rattle.runs.specs.exec_types.declared.output.Output.{Output}
use Rattle.runs.specs.exec_types.declared.output.Output.TheVariants.{Viewed}
use Rattle.runs.specs.table_log.Fitting.{fits}
use Rattle.runs.specs.table_log.Logs.{LogState, table_of, with_proposed, viewed}
use Rattle.runs.proofs.table_log.Prefixes.{same_entries}
use Rattle.runs.specs.node_core.Parts.{decide_all_outs}
use Rattle.runs.specs.node_core.Step.{NodeState, Stepped, propose_one, propose_all, coordinates, with_proposals, tick_log, act_on, act, end_step}

abbrev pub entry_of : LogState → Change → LogEntry Change
entry_of log change = record { term = log.raft.votes.term; change = change }

-- entries came to the end of a log, and nothing else of it but the view changed
pub record Grows (a b : LogState) : Type 0 where
  pub rest : List (LogEntry Change)
  pub log : b.raft.log ≡ a.raft.log ++ rest
  pub votes : b.raft.votes ≡ a.raft.votes
  pub config : b.config ≡ a.config
  pub acted : b.acted ≡ a.acted

grows_self : (log : LogState) → Grows log log
grows_self log = record { rest = []; log = sym (append-nil log.raft.log); votes = refl; config = refl; acted = refl }

grows_on : (a b c : LogState) → Grows a b → Grows b c → Grows a c
grows_on a b c h k =
    record {
      rest = h.rest ++ k.rest;
      log = k.log ∙ ap (λ (l : List (LogEntry Change)). l ++ k.rest) h.log ∙ append_assoc a.raft.log h.rest k.rest;
      votes = k.votes ∙ h.votes;
      config = k.config ∙ h.config;
      acted = k.acted ∙ h.acted;
    }

advanced_log : (t : RaftState Change) → (advanced t).log ≡ t.log
advanced_log t = cond_both (is_leader t.votes.role) (record t { view = max t.view (decided t.votes t.log t.peers) }) t (λ (u : RaftState Change). u.log ≡ t.log) (λ _. refl) (λ _. refl)

advanced_votes : (t : RaftState Change) → (advanced t).votes ≡ t.votes
advanced_votes t = cond_both (is_leader t.votes.role) (record t { view = max t.view (decided t.votes t.log t.peers) }) t (λ (u : RaftState Change). u.votes ≡ t.votes) (λ _. refl) (λ _. refl)

pub proposed_log : (log : LogState) (change : Change) → (with_proposed log change).raft.log ≡ log.raft.log ++ entry_of log change ∷ []
proposed_log log change = advanced_log (with_entry log.raft change)

proposed_grows : (log : LogState) (change : Change) → Grows log (with_proposed log change)
proposed_grows log change =
    record { rest = entry_of log change ∷ []; log = proposed_log log change; votes = advanced_votes (with_entry log.raft change); config = refl; acted = refl }

pub one_grows : (log : LogState) (change : Change) → Grows log (propose_one log change)
one_grows log change =
    cond_both (fits log.config.hashes change && not (is_full log.raft.log)) (with_proposed log change) log (Grows log) (λ _. proposed_grows log change) (λ _. grows_self log)

pub all_grow : (log : LogState) (changes : List Change) → Grows log (propose_all log changes)
all_grow log [] = grows_self log
all_grow log (c ∷ cs) = grows_on log (propose_one log c) (propose_all (propose_one log c) cs) (one_grows log c) (all_grow (propose_one log c) cs)

pub proposals_grow : (s : NodeState) → Grows s.log (with_proposals s).log
proposals_grow s =
    cond_both (coordinates s.log) (record s { log = propose_all s.log (proposals_of s.acks (table_of s.log)); acks = after_proposals s.acks (table_of s.log) }) s
    (λ (t : NodeState). Grows s.log t.log) (λ _. all_grow s.log (proposals_of s.acks (table_of s.log))) (λ _. grows_self s.log)

-- ---- the log's own tick

pub leader_ticks : (raft : RaftState Change) (unseen : List ℕ) → is_leader raft.votes.role ≡ true → (raft_step Noop raft (Tick unseen)).node.log ≡ raft.log
leader_ticks raft unseen leads =
    advanced_log (tick_row Noop raft unseen).node
    ∙ ap (λ b. (cond b (record { node = raft; sent = append_all raft }) (elect_row Noop raft unseen)).node.log) leads

record Longer (a b : RaftState Change) : Type 0 where
  rest : List (LogEntry Change)
  is : b.log ≡ a.log ++ rest

won_longer : (raft t : RaftState Change) → t.log ≡ raft.log → Longer raft (won Noop t)
won_longer raft t same =
    let u : RaftState Change = record t { peers = reset_to (length t.log + 1) t.peers } in
    cond_both (is_full t.log) u (with_entry u Noop) (Longer raft)
    (λ _. record { rest = []; is = same ∙ sym (append-nil raft.log) })
    (λ _. let e : LogEntry Change = record { term = u.votes.term; change = Noop } in record { rest = e ∷ []; is = ap (λ (l : List (LogEntry Change)). l ++ e ∷ []) same })

elected_longer : (raft : RaftState Change) (votes : VoteState) (sent : List (NodeId × RaftMessage Change)) → Longer raft (elected Noop raft votes sent).node
elected_longer raft votes sent =
    let t : RaftState Change = record raft { votes = votes } in
    cond_both (wins raft.votes votes) (record { node = won Noop t; sent = sent ++ append_all (won Noop t) }) (record { node = t; sent = sent }) (λ (r : RaftStepped Change). Longer raft r.node)
    (λ _. won_longer raft t refl) (λ _. record { rest = []; is = sym (append-nil raft.log) })

ticked_longer : (raft : RaftState Change) (unseen : List ℕ) → Longer raft (raft_step Noop raft (Tick unseen)).node
ticked_longer raft unseen =
    let r = vote_tick raft.votes unseen in
    let h : Longer raft (tick_row Noop raft unseen).node =
    cond_both (is_leader raft.votes.role) (record { node = raft; sent = append_all raft }) (elect_row Noop raft unseen) (λ (q : RaftStepped Change). Longer raft q.node)
    (λ _. record { rest = []; is = sym (append-nil raft.log) })
    (λ _. elected_longer raft r.node (asks r.node.term (last_term raft.log) (length raft.log) r.asked)) in
    record { rest = h.rest; is = advanced_log (tick_row Noop raft unseen).node ∙ h.is }

-- the table stays over the proposals and the log's tick
pub table_stays : (s : NodeState) → s.log.acted ≤ length s.log.raft.log → table_of (tick_log (with_proposals s)).node.log ≡ table_of s.log
table_stays s within =
    let p : NodeState = with_proposals s in
    let g = proposals_grow s in
    let t = ticked_longer p.log.raft p.unseen in
    let whole : (tick_log p).node.log.raft.log ≡ s.log.raft.log ++ (g.rest ++ t.rest) =
    t.is ∙ ap (λ (l : List (LogEntry Change)). l ++ t.rest) g.log ∙ append_assoc s.log.raft.log g.rest t.rest in
    let front : take s.log.acted (tick_log p).node.log.raft.log ≡ take s.log.acted s.log.raft.log =
    ap (take s.log.acted) whole ∙ take-append-le s.log.acted s.log.raft.log (g.rest ++ t.rest) within in
    ap (λ (c : _). table_of (record { config = c; raft = (tick_log p).node.log.raft; acted = p.log.acted })) g.config
    ∙ ap (λ (n : ℕ). table_of (record { config = s.log.config; raft = (tick_log p).node.log.raft; acted = n })) g.acted
    ∙ same_entries s.log.config (tick_log p).node.log.raft.log s.log.raft.log s.log.acted front

-- ---- the end of a step leaves the log, and adds to what was given

pub ended_raft : (step : Stepped) → (end_step step).node.log.raft ≡ step.node.log.raft
ended_raft step = by_view (viewed step.node.log)
  where
    by_view : (v : Option Results) → (act_on step v).node.log.raft ≡ step.node.log.raft
    by_view None = refl
    by_view (Some v) = refl

pub ended_acks : (step : Stepped) → (end_step step).node.acks ≡ step.node.acks
ended_acks step = by_view (viewed step.node.log)
  where
    by_view : (v : Option Results) → (act_on step v).node.acks ≡ step.node.acks
    by_view None = refl
    by_view (Some v) = refl

pub ended_outs : (step : Stepped) (o : Output) → IsIn step.outs o → IsIn (end_step step).outs o
ended_outs step o i = IsIn-left (act step).outs (decide_all_outs (act step).node.executions) o (by_view (viewed step.node.log))
  where
    by_view : (v : Option Results) → IsIn (act_on step v).outs o
    by_view None = i
    by_view (Some v) = IsIn-left step.outs (Viewed v.first v.results ∷ []) o i
