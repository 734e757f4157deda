-- What the row of an input sends and says, and what it does to the log.
use Rattle.std.proofs.Common.{◌≡◌, ◌∙◌, ◌&&◌, ◌+◌, ℕ, true, not, nat_lt, List, [], ◌∷◌, ◌++◌, map, filter, Option, Some, None, inl, inr, refl, sym, ap, subst, append-nil}
use Rattle.std.proofs.lemmas.Bool.{cond_both, and_parts}
use Rattle.std.specs.List.{AllByRecursion}
use Rattle.node_moves.specs.list_laws.Members.{IsIn}
use Rattle.node_moves.specs.region_map.declared.id.NodeId.{NodeId}
use Rattle.node_moves.specs.register_laws.declared.operation.OpId.{OpId}
use Rattle.node_moves.specs.register_laws.declared.operation.Op.{Op}
use Rattle.node_moves.specs.raft_vote.declared.message.RaftMessage.{RaftMessage}
use Rattle.node_moves.specs.raft_node.declared.input.RaftInput.TheVariants as raft
use Rattle.node_moves.specs.raft_node.Rows.{is_full}
use Rattle.node_moves.specs.contract_types.declared.change.Change.{Change}
use Rattle.node_moves.specs.table_log.Fitting.{fits}
use Rattle.node_moves.specs.table_log.Logs.{LogState, LogStepped, log_step, table_of, with_proposed}
use Rattle.node_moves.specs.coordinator.declared.acks.ContractAcks.{ContractAcks}
use Rattle.node_moves.specs.coordinator.Acks.{with_ack}
use Rattle.node_moves.specs.coordinator.Proposals.{after_proposals, proposals_of}
use Rattle.node_moves.specs.exec_types.declared.input.Input.{Input}
use Rattle.node_moves.specs.exec_types.declared.input.Input.TheVariants.{Request, GiveUp, See, Tick, Deliver, Crash, Restart}
use Rattle.node_moves.specs.exec_types.declared.message.Message.{Message}
use Rattle.node_moves.specs.exec_types.declared.message.Message.TheVariants as message
use Rattle.node_moves.specs.exec_types.declared.message.Part.{Part}
use Rattle.node_moves.specs.exec_types.declared.output.Output.{Output}
use Rattle.node_moves.specs.exec_types.declared.output.Output.TheVariants as output
use Rattle.node_moves.specs.store_api.Rows.{value_of}
use Rattle.node_moves.specs.primary_exec.declared.session.Session.{Session}
use Rattle.node_moves.specs.primary_exec.Execution.{Execution, has_room, part_of, sends}
use Rattle.node_moves.specs.node_core.declared.node.Brought.{Brought}
use Rattle.node_moves.specs.node_core.Parts.{Requested, Streamed, give_up_all_outs, request_all, stream_all}
use Rattle.node_moves.specs.node_core.Saying.{says_all}
use Rattle.node_moves.specs.node_core.Starting.{current_of}
use Rattle.node_moves.specs.node_core.Step.{NodeState, Stepped, brought_row, coordinates, input_row, is_well_formed, leads, message_fits, message_row, propose_all, propose_one, raft_outs, silent, tick_log, tick_row, with_requested, with_said}
use Rattle.node_moves.specs.Says.{IsServing, RowSays, Dispatches, Refuses, spoken}
use Rattle.node_moves.specs.Sends.{AcksMove, Kept, Lost, Put, Used, LogMoves, ComesUp, GoesDown, Rests, Takes, Ticks, Proposes, Leaves, Plans, SendsBeside, SendsFrom, logged}
use Rattle.node_moves.proofs.Answering.{spoken_give_up}
use Rattle.node_moves.proofs.Executions.{AllAwait, all_pending, give_up_awaits, got_awaits, request_awaits, request_cases}
use Rattle.node_moves.proofs.Lists.{AllMessages, AllOnly, Messages, logged-append, logged-raft, logged_none, messages_none, only_logged, only_messages, only_spoken, spoken-append, spoken_all}
use Rattle.node_moves.proofs.Saying.{FromPart, FromTick, part_tells, roles, tick_says}
use Rattle.list_laws.proofs.All.{all_append}
use Rattle.list_laws.proofs.Members.{IsIn-filter}

-- the row of a step from s
pub record Row (s : NodeState) (input : Input) (brought : Option Brought) (r : Stepped) : Type 0 where
  pub config : r.node.log.config ≡ s.log.config
  pub acted : r.node.log.acted ≡ s.log.acted
  pub moves : LogMoves s input brought r.node.log (logged r.outs)
  pub acks : AcksMove s input brought r.node.acks
  pub sends : AllMessages (SendsFrom s input brought r.node.log r.node.followings) r.outs
  pub says : RowSays s input (spoken r.outs)
  pub awaits : AllByRecursion (AllAwait s input) r.node.executions

-- ---- messages

beside_more : (s : NodeState) (input : Input) (brought : Option Brought) (log : LogState) (fs : List _) (to : NodeId) (m : Message)
    → SendsBeside s input brought log fs to m → SendsFrom s input brought log fs to m
beside_more s input brought log fs to (message.Raft m) h = absurd h
beside_more s input brought log fs to (message.Say contract ack) h = h
beside_more s input brought log fs to (message.Stream stream) h = h
beside_more s input brought log fs to (message.Got got) h = h

raft_sends : (s : NodeState) (input : Input) (brought : Option Brought) (log : LogState) (fs : List _) (sent : List (NodeId × RaftMessage Change)) → LogMoves s input brought log sent
    → (xs : List (NodeId × RaftMessage Change)) → ((x : NodeId × RaftMessage Change) → IsIn xs x → IsIn sent x) → AllMessages (SendsFrom s input brought log fs) (raft_outs xs)
raft_sends s input brought log fs sent moves [] these = tt
raft_sends s input brought log fs sent moves (x ∷ xs) these =
    (record { sent = sent; moves = moves; is_in = these x (inl refl) }, raft_sends s input brought log fs sent moves xs (λ y i. these y (inr i)))

spoken_raft : (xs : List (NodeId × RaftMessage Change)) → spoken (raft_outs xs) ≡ []
spoken_raft [] = refl
spoken_raft (x ∷ xs) = spoken_raft xs

spoken_sends : (part : Part) (ss : List Session) → spoken (map (sends part) ss) ≡ []
spoken_sends part [] = refl
spoken_sends part (s ∷ ss) = spoken_sends part ss

logged_sends : (part : Part) (ss : List Session) → logged (map (sends part) ss) ≡ []
logged_sends part [] = refl
logged_sends part (s ∷ ss) = logged_sends part ss

-- ---- rows that leave the log

-- a node that keeps its log and its followings, and says nothing
module _ (s : NodeState) (input : Input) (brought : Option Brought) (says : RowSays s input []) where
  still : (t : NodeState) → t.log ≡ s.log → AcksMove s input brought t.acks → AllByRecursion (AllAwait s input) t.executions → Row s input brought (silent t)
  still t same acks awaits =
      record {
        config = ap (λ (l : LogState). l.config) same;
        acted = ap (λ (l : LogState). l.acted) same;
        moves = Rests same refl;
        acks = acks;
        sends = tt;
        says = says;
        awaits = awaits;
      }

-- ---- requests

session_sends : (s : NodeState) (op : OpId) (key : List ℕ) (what : Op) (brought : Option Brought) (x : Execution) → IsServing s.setup.hashes key s.executions x
    → (ss : List Session) → ((y : Session) → IsIn ss y → IsIn (filter has_room x.sessions) y)
    → AllMessages (SendsFrom s (Request op key what) brought s.log s.followings) (map (sends (part_of (value_of s.rows key) (x.last + 1) key what)) ss)
session_sends s op key what brought x serving [] these = tt
session_sends s op key what brought x serving (y ∷ ss) these =
    let i = IsIn-filter has_room x.sessions y (these y (inl refl)) in (
      record { op = op; key = key; what = what; asked = refl; x = x; serving = serving; session = y; is_in = i.0; room = i.1; to_is = refl; stream_is = refl },
      session_sends s op key what brought x serving ss (λ z j. these z (inr j)),
    )

request_moves : (s : NodeState) (op : OpId) (key : List ℕ) (what : Op) (brought : Option Brought) → Row s (Request op key what) brought (input_row s (Request op key what) brought)
request_moves s op key what brought =
    let input : Input = Request op key what in
    let P : Requested → Type 0 = λ r. AllByRecursion (AllAwait s input) r.executions → Row s input brought (with_requested s r) in
    let all : P (request_all s.setup.hashes s.executions s.rows s.versions op key what) = elim (request_cases s.setup.hashes s.executions s.rows s.versions op key what) [
      | inl r ↦
          subst P (sym r.result)
          (λ awaits. record { config = refl; acted = refl; moves = Rests refl refl; acks = Kept refl; sends = (tt, tt); says = Refuses r.none refl; awaits = awaits })
      | inr d ↦
          let part : Part = part_of (value_of s.rows key) (d.x.last + 1) key what in
          let ss : List Session = filter has_room d.x.sessions in
          let last : List Output = output.Dispatched op key d.x.branch (d.x.last + 1) ∷ [] in
          subst P (sym d.result)
          (λ awaits. record {
            config = refl;
            acted = refl;
            moves = Rests refl (logged-append (map (sends part) ss) last ∙ ap (λ (l : List (NodeId × RaftMessage Change)). l ++ []) (logged_sends part ss));
            acks = Kept refl;
            sends = all_append (Messages (SendsFrom s input brought s.log s.followings)) (map (sends part) ss) last (session_sends s op key what brought d.x d.serving ss (λ y i. i)) (tt, tt);
            says = Dispatches d.x d.serving (spoken-append (map (sends part) ss) last ∙ ap (λ (l : List Output). l ++ last) (spoken_sends part ss));
            awaits = awaits;
          })
    ] in
    all (request_awaits s op key what)

give_up_moves : (s : NodeState) (op : OpId) (brought : Option Brought) → Row s (GiveUp op) brought (input_row s (GiveUp op) brought)
give_up_moves s op brought =
    let outs : List Output = give_up_all_outs s.executions op in
    let alone = spoken_give_up s.executions op in
    record {
      config = refl;
      acted = refl;
      moves = Rests refl (logged_none outs alone);
      acks = Kept refl;
      sends = messages_none (SendsFrom s (GiveUp op) brought s.log s.followings) outs alone;
      says = spoken_all outs alone;
      awaits = give_up_awaits s (GiveUp op) op s.executions (all_pending s (GiveUp op));
    }

-- ---- ticks

-- what is proposed leaves what the log began with, and how far the node acts on it
pub record Same (a b : LogState) : Type 0 where
  pub config : b.config ≡ a.config
  pub acted : b.acted ≡ a.acted

proposes_one : (log : LogState) (change : Change) → Same log (propose_one log change)
proposes_one log change =
    cond_both (fits log.config.hashes change && not (is_full log.raft.log)) (with_proposed log change) log (Same log)
    (λ _. record { config = refl; acted = refl }) (λ _. record { config = refl; acted = refl })

pub proposes_all : (log : LogState) (changes : List Change) → Same log (propose_all log changes)
proposes_all log [] = record { config = refl; acted = refl }
proposes_all log (c ∷ cs) =
    let one = proposes_one log c in
    let rest = proposes_all (propose_one log c) cs in
    record { config = rest.config ∙ one.config; acted = rest.acted ∙ one.acted }

ticked : (s : NodeState) (brought : Option Brought) (planned : LogState) (acks : List ContractAcks) → Proposes s planned → Same s.log planned → AcksMove s Tick brought acks
    → Row s Tick brought (with_said (tick_log (record s { log = planned; acks = acks })))
ticked s brought planned acks plans same left =
    let step : LogStepped = log_step planned (raft.Tick s.unseen) in
    let log : LogState = step.log in
    let said : ℕ → List Output = λ view. says_all s.me log.raft.votes.leader (current_of (table_of log)) s.versions view (roles s) (table_of log).contracts in
    let only : AllOnly (FromTick s brought log) (said planned.acted) = subst (λ view. AllOnly (FromTick s brought log) (said view)) (sym same.acted) (tick_says s brought log) in
    let moves : LogMoves s Tick brought log step.sent = Ticks planned refl plans refl refl in
    let sent : logged (raft_outs step.sent ++ said planned.acted) ≡ step.sent =
    logged-append (raft_outs step.sent) (said planned.acted)
    ∙ ap (λ (l : List (NodeId × RaftMessage Change)). logged (raft_outs step.sent) ++ l) (only_logged (FromTick s brought log) (λ to m h. h) (said planned.acted) only)
    ∙ append-nil (logged (raft_outs step.sent)) ∙ logged-raft step.sent in
    record {
      config = same.config;
      acted = same.acted;
      moves = subst (LogMoves s Tick brought log) (sym sent) moves;
      acks = cond_both (leads planned && leads log) acks [] (AcksMove s Tick brought) (λ _. left) (λ _. Lost refl);
      sends =
          all_append (Messages (SendsFrom s Tick brought log s.followings)) (raft_outs step.sent) (said planned.acted) (raft_sends s Tick brought log s.followings step.sent moves step.sent (λ x i. i))
          (only_messages (FromTick s brought log) (SendsFrom s Tick brought log s.followings) (beside_more s Tick brought log s.followings) (said planned.acted) only);
      says =
          (spoken-append (raft_outs step.sent) (said planned.acted) ∙ ap (λ (l : List Output). l ++ spoken (said planned.acted)) (spoken_raft step.sent)
          ∙ only_spoken (FromTick s brought log) (said planned.acted) only);
      awaits = all_pending s Tick;
    }

tick_moves : (s : NodeState) (brought : Option Brought) → Row s Tick brought (tick_row s)
tick_moves s brought =
    let changes : List Change = proposals_of s.acks (table_of s.log) in
    cond_both (coordinates s.log) (record s { log = propose_all s.log changes; acks = after_proposals s.acks (table_of s.log) }) s
    (λ (p : NodeState). Row s Tick brought (with_said (tick_log p)))
    (λ is. ticked s brought (propose_all s.log changes) (after_proposals s.acks (table_of s.log)) (Plans is refl) (proposes_all s.log changes) (Used refl is refl))
    (λ is. ticked s brought s.log s.acks (Leaves is refl) (record { config = refl; acted = refl }) (Kept refl))

-- ---- messages

module _ (s : NodeState) (number : ℕ) (from : NodeId) where
  abbrev arrived : Message → Option Brought
  arrived m = Some (record { from = from; message = m })

  message_moves : (m : Message) → nat_lt from.0 s.setup.nodes ≡ true → message_fits s from m ≡ true → Row s (Deliver number) (arrived m) (message_row s from m)
  message_moves (message.Raft m) within fitting =
      let step : LogStepped = log_step s.log (raft.Deliver from m) in
      let moves : LogMoves s (Deliver number) (arrived (message.Raft m)) step.log step.sent = Takes from m refl within fitting refl refl in
      record {
        config = refl;
        acted = refl;
        moves = subst (LogMoves s (Deliver number) (arrived (message.Raft m)) step.log) (sym (logged-raft step.sent)) moves;
        acks = cond_both (leads s.log && leads step.log) s.acks [] (AcksMove s (Deliver number) (arrived (message.Raft m))) (λ _. Kept refl) (λ _. Lost refl);
        sends = raft_sends s (Deliver number) (arrived (message.Raft m)) step.log s.followings step.sent moves step.sent (λ x i. i);
        says = (spoken_raft step.sent);
        awaits = all_pending s (Deliver number);
      }
  message_moves (message.Say contract ack) within fitting =
      let brought : Option Brought = arrived (message.Say contract ack) in
      cond_both (leads s.log) (record s { acks = with_ack contract from ack s.acks }) s (λ (t : NodeState). Row s (Deliver number) brought (silent t))
      (λ is. still s (Deliver number) brought refl (record s { acks = with_ack contract from ack s.acks }) refl (Put from contract ack refl within fitting is refl) (all_pending s (Deliver number)))
      (λ _. still s (Deliver number) brought refl s refl (Kept refl) (all_pending s (Deliver number)))
  message_moves (message.Stream stream) within fitting =
      let r : Streamed = stream_all s.followings s.rows s.versions from stream s.log.acted in
      let P : NodeId → Message → Type 0 = FromPart s (Deliver number) from stream s.log r.followings in
      let only : AllOnly P r.outs = part_tells s (Deliver number) from stream s.log s.followings s.rows s.versions in
      record {
        config = refl;
        acted = refl;
        moves = Rests refl (only_logged P (λ to m h. h) r.outs only);
        acks = Kept refl;
        sends = only_messages P (SendsFrom s (Deliver number) (arrived (message.Stream stream)) s.log r.followings)
            (beside_more s (Deliver number) (arrived (message.Stream stream)) s.log r.followings) r.outs only;
        says = (only_spoken P r.outs only);
        awaits = all_pending s (Deliver number);
      }
  message_moves (message.Got got) within fitting =
      still s (Deliver number) (arrived (message.Got got)) refl (message_row s from (message.Got got)).node refl (Kept refl) (got_awaits s (Deliver number) from got s.executions (all_pending s (Deliver number)))

brought_moves : (s : NodeState) (number : ℕ) (b : Option Brought) → Row s (Deliver number) b (brought_row s b)
brought_moves s number None = still s (Deliver number) None refl s refl (Kept refl) (all_pending s (Deliver number))
brought_moves s number (Some b) =
    cond_both (is_well_formed s b) (message_row s b.from b.message) (silent s) (Row s (Deliver number) (Some b))
    (λ e. let tests = and_parts (nat_lt b.from.0 s.setup.nodes) (message_fits s b.from b.message) e in message_moves s number b.from b.message tests.0 tests.1)
    (λ _. still s (Deliver number) (Some b) refl s refl (Kept refl) (all_pending s (Deliver number)))

-- ---- every row

pub row_moves : (s : NodeState) (input : Input) (brought : Option Brought) → Row s input brought (input_row s input brought)
row_moves s (Request op key what) brought = request_moves s op key what brought
row_moves s (GiveUp op) brought = give_up_moves s op brought
row_moves s (See other up) brought = still s (See other up) brought refl (input_row s (See other up) brought).node refl (Kept refl) (all_pending s (See other up))
row_moves s Tick brought = tick_moves s brought
row_moves s (Deliver number) brought = brought_moves s number brought
row_moves s Crash brought = record { config = refl; acted = refl; moves = GoesDown refl refl refl; acks = Lost refl; sends = tt; says = refl; awaits = tt }
row_moves s Restart brought = record { config = refl; acted = refl; moves = ComesUp refl refl refl; acks = Lost refl; sends = tt; says = refl; awaits = tt }
