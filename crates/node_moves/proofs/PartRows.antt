-- What the row of an input does to the parts of a node.
use Rattle.std.proofs.Common.{◌≡◌, ◌⊎◌, ℕ, true, List, [], ◌∷◌, ◌++◌, Option, Some, None, inl, inr, refl, sym, ap, subst}
use Rattle.std.proofs.lemmas.Bool.{cond_both}
use Rattle.node_moves.specs.region_map.declared.id.NodeId.{NodeId}
use Rattle.node_moves.specs.region_map.Maps.{Pieced}
use Rattle.node_moves.specs.branch_history.declared.version.Version.{Version}
use Rattle.node_moves.specs.register_laws.declared.operation.OpId.{OpId}
use Rattle.node_moves.specs.register_laws.declared.operation.Op.{Op}
use Rattle.node_moves.specs.contract_types.declared.change.Change.{Change}
use Rattle.node_moves.specs.table_log.Logs.{LogState, table_of}
use Rattle.node_moves.specs.coordinator.declared.acks.ContractAcks.{ContractAcks}
use Rattle.node_moves.specs.coordinator.Acks.{with_ack}
use Rattle.node_moves.specs.coordinator.Proposals.{after_proposals, proposals_of}
use Rattle.node_moves.specs.exec_types.Parts.{effect_of, timestamp_of}
use Rattle.node_moves.specs.exec_types.declared.input.Input.{Input}
use Rattle.node_moves.specs.exec_types.declared.input.Input.TheVariants.{Request, GiveUp, See, Tick, Deliver, Crash, Restart}
use Rattle.node_moves.specs.exec_types.declared.message.Message.{Message}
use Rattle.node_moves.specs.exec_types.declared.message.Message.TheVariants as message
use Rattle.node_moves.specs.exec_types.declared.message.Stream.{Stream}
use Rattle.node_moves.specs.store_api.Rows.{Rows}
use Rattle.node_moves.specs.store_api.Versions.{advanced_map, advanced_rows}
use Rattle.node_moves.specs.secondary_exec.declared.following.Following.{Following}
use Rattle.node_moves.specs.secondary_exec.Stream.{FollowingStep, applied, is_next, is_ours, stream_row}
use Rattle.node_moves.specs.node_core.declared.node.Brought.{Brought}
use Rattle.node_moves.specs.node_core.Parts.{Requested, Streamed, left_alone, stream_all, taken}
use Rattle.node_moves.specs.node_core.Step.{NodeState, Stepped, brought_row, coordinates, input_row, is_well_formed, leads, message_row, propose_all, silent, tick_log, tick_row, with_requested, with_said}
use Rattle.node_moves.specs.Parts.{PartsMove, Apply, Fall, Forget, Keep, Rest, Rise, Take, held, next_after, up_after}
use Rattle.node_moves.proofs.Executions.{request_cases}
use Rattle.node_moves.proofs.RowMoves.{Same, proposes_all}
use Rattle.node_moves.proofs.Saying.{stream_cases}

pub record PartsRow (s : NodeState) (input : Input) (brought : Option Brought) (r : Stepped) : Type 0 where
  pub move : PartsMove s input brought (held r.node)
  pub me_is : r.node.me ≡ s.me
  pub setup_is : r.node.setup ≡ s.setup
  pub up_is : r.node.up ≡ up_after s.up input
  pub next_is : r.node.next ≡ next_after s input

request_parts : (s : NodeState) (op : OpId) (key : List ℕ) (what : Op) (brought : Option Brought) → PartsRow s (Request op key what) brought (input_row s (Request op key what) brought)
request_parts s op key what brought =
    let P : Requested → Type 0 = λ r. PartsRow s (Request op key what) brought (with_requested s r) in
    elim (request_cases s.setup.hashes s.executions s.rows s.versions op key what) [
      | inl r ↦ subst P (sym r.result) (record { move = Rest r.none refl; me_is = refl; setup_is = refl; up_is = refl; next_is = refl })
      | inr d ↦ subst P (sym d.result) (record { move = Take op key what d.x refl d.serving refl; me_is = refl; setup_is = refl; up_is = refl; next_is = refl })
    ]

-- ---- parts of streams

-- no following applies the part
abbrev IsLeft : List Following → Rows → Pieced Version → Streamed → Type 0
IsLeft fs rows versions r = (r.followings ≡ fs) × (r.rows ≡ rows) × (r.versions ≡ versions)

-- one does
record IsApplied (fs : List Following) (rows : Rows) (versions : Pieced Version) (from : NodeId) (stream : Stream) (r : Streamed) : Type 0 where
  before : List Following
  f : Following
  after : List Following
  these : fs ≡ before ++ f ∷ after
  ours : is_ours f from stream ≡ true
  next : is_next f stream ≡ true
  followings : r.followings ≡ before ++ applied f stream ∷ after
  rows_are : r.rows ≡ advanced_rows (effect_of stream.part) f.region f.branch (timestamp_of stream.part) versions rows
  versions_are : r.versions ≡ advanced_map f.region f.branch (timestamp_of stream.part) versions

part_cases : (fs : List Following) (rows : Rows) (versions : Pieced Version) (from : NodeId) (stream : Stream) (view : ℕ)
    → IsLeft fs rows versions (stream_all fs rows versions from stream view) ⊎ IsApplied fs rows versions from stream (stream_all fs rows versions from stream view)
part_cases [] rows versions from stream view = inl (refl, refl, refl)
part_cases (f ∷ fs) rows versions from stream view =
    let rest : Streamed = stream_all fs rows versions from stream view in
    let P : Streamed → Type 0 = λ r. IsLeft (f ∷ fs) rows versions r ⊎ IsApplied (f ∷ fs) rows versions from stream r in
    cond_both (is_ours f from stream) (taken (stream_row f rows versions from stream view) fs) (left_alone f rest) P
    (λ ours. stream_cases (λ (step : FollowingStep). P (taken step fs)) f rows versions from stream view
    (inl (refl, refl, refl))
    (inl (refl, refl, refl))
    (λ next. inr (record { before = []; f = f; after = fs; these = refl; ours = ours; next = next; followings = refl; rows_are = refl; versions_are = refl })))
    (λ _. elim (part_cases fs rows versions from stream view) [
      | inl l ↦ inl (ap (λ (gs : List Following). f ∷ gs) l.0, l.1, l.2)
      | inr a ↦ inr (record {
        before = f ∷ a.before;
        f = a.f;
        after = a.after;
        these = ap (λ (gs : List Following). f ∷ gs) a.these;
        ours = a.ours;
        next = a.next;
        followings = ap (λ (gs : List Following). f ∷ gs) a.followings;
        rows_are = a.rows_are;
        versions_are = a.versions_are;
      })
    ])

-- ---- messages

module _ (s : NodeState) (number : ℕ) where
  message_parts : (from : NodeId) (m : Message) → PartsRow s (Deliver number) (Some (record { from = from; message = m })) (message_row s from m)
  message_parts from (message.Raft m) = record { move = Rest tt refl; me_is = refl; setup_is = refl; up_is = refl; next_is = refl }
  message_parts from (message.Say contract ack) =
      cond_both (leads s.log) (record s { acks = with_ack contract from ack s.acks }) s
      (λ (t : NodeState). PartsRow s (Deliver number) (Some (record { from = from; message = message.Say contract ack })) (silent t))
      (λ _. record { move = Rest tt refl; me_is = refl; setup_is = refl; up_is = refl; next_is = refl }) (λ _. record { move = Rest tt refl; me_is = refl; setup_is = refl; up_is = refl; next_is = refl })
  message_parts from (message.Stream stream) =
      let brought : Option Brought = Some (record { from = from; message = message.Stream stream }) in
      let move : PartsMove s (Deliver number) brought (held (message_row s from (message.Stream stream)).node) =
      elim (part_cases s.followings s.rows s.versions from stream s.log.acted) [
        | inl l ↦ Rest tt (λ i. record (held s) { followings = l.0 i; versions = l.2 i; rows = l.1 i })
        | inr a ↦ Apply number from stream a.before a.f a.after refl refl a.these a.ours a.next
            (λ i. record (held s) { followings = a.followings i; versions = a.versions_are i; rows = a.rows_are i })
      ] in
      record { move = move; me_is = refl; setup_is = refl; up_is = refl; next_is = refl }
  message_parts from (message.Got got) = record { move = Keep number from got refl refl refl; me_is = refl; setup_is = refl; up_is = refl; next_is = refl }

  brought_parts : (b : Option Brought) → PartsRow s (Deliver number) b (brought_row s b)
  brought_parts None = record { move = Rest tt refl; me_is = refl; setup_is = refl; up_is = refl; next_is = refl }
  brought_parts (Some b) =
      cond_both (is_well_formed s b) (message_row s b.from b.message) (silent s) (PartsRow s (Deliver number) (Some b))
      (λ _. message_parts b.from b.message) (λ _. record { move = Rest tt refl; me_is = refl; setup_is = refl; up_is = refl; next_is = refl })

-- ---- every row

ticked_parts : (s : NodeState) (brought : Option Brought) (planned : LogState) (acks : List ContractAcks) → Same s.log planned
    → PartsRow s Tick brought (with_said (tick_log (record s { log = planned; acks = acks })))
ticked_parts s brought planned acks same = record { move = Rest tt (λ i. record (held s) { acted = same.acted i }); me_is = refl; setup_is = refl; up_is = refl; next_is = refl }

tick_parts : (s : NodeState) (brought : Option Brought) → PartsRow s Tick brought (tick_row s)
tick_parts s brought =
    let changes : List Change = proposals_of s.acks (table_of s.log) in
    cond_both (coordinates s.log) (record s { log = propose_all s.log changes; acks = after_proposals s.acks (table_of s.log) }) s
    (λ (p : NodeState). PartsRow s Tick brought (with_said (tick_log p)))
    (λ _. ticked_parts s brought (propose_all s.log changes) (after_proposals s.acks (table_of s.log)) (proposes_all s.log changes))
    (λ _. ticked_parts s brought s.log s.acks (record { config = refl; acted = refl }))

pub row_parts : (s : NodeState) (input : Input) (brought : Option Brought) → PartsRow s input brought (input_row s input brought)
row_parts s (Request op key what) brought = request_parts s op key what brought
row_parts s (GiveUp op) brought = record { move = Forget op refl refl; me_is = refl; setup_is = refl; up_is = refl; next_is = refl }
row_parts s (See other up) brought = record { move = Rest tt refl; me_is = refl; setup_is = refl; up_is = refl; next_is = refl }
row_parts s Tick brought = tick_parts s brought
row_parts s (Deliver number) brought = brought_parts s number brought
row_parts s Crash brought = record { move = Fall refl refl; me_is = refl; setup_is = refl; up_is = refl; next_is = refl }
row_parts s Restart brought = record { move = Rise (table_of s.log).contracts refl refl refl; me_is = refl; setup_is = refl; up_is = refl; next_is = refl }
