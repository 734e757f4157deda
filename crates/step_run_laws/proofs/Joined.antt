-- In every run a secondary that is given the next part of its session applies it.
use Rattle.std.proofs.Common.{◌≡◌, ◌≤◌, ◌<◌, ◌==◌, ◌+◌, ◌-◌, ℕ, zero, suc, true, false, cond, List, [], ◌∷◌, slice_get, Option, Some, None, refl, sym, ap, ◌∙◌, subst, arith}
use Rattle.std.proofs.lemmas.Bool.{cond_both}
use Rattle.std.specs.List.{AllByRecursion}
use Rattle.list_laws.specs.Members.{IsIn}
use Rattle.list_laws.proofs.All.{all_at, all_weaker}
use Rattle.list_laws.proofs.Members.{all_member}
use Rattle.path_runs.specs.runs.region_map.declared.id.NodeId.{NodeId}
use Rattle.path_runs.specs.runs.region_map.declared.region.Region.{Region}
use Rattle.path_runs.specs.runs.region_map.Keys.{hash_of}
use Rattle.path_runs.specs.runs.region_map.Maps.{Pieced}
use Rattle.path_runs.specs.runs.region_map.Nodes.{node_id}
use Rattle.path_runs.specs.runs.branch_history.declared.version.Version.{Version}
use Rattle.path_runs.specs.runs.contract_types.declared.config.ShardConfig.{ShardConfig}
use Rattle.path_runs.specs.runs.contract_types.declared.results.Viewed.{Viewed as Results}
use Rattle.path_runs.specs.runs.contract_types.Setup.{SetupState, IsSetup}
use Rattle.path_runs.specs.runs.contract_types.Tables.{first_contract}
use Rattle.path_runs.specs.runs.contract_types.Tilings.{holders}
use Rattle.path_runs.specs.runs.coordinator.Acks.{with_ack}
use Rattle.path_runs.specs.runs.coordinator.Proposals.{proposals_of, after_proposals}
use Rattle.path_runs.specs.runs.table_log.Logs.{table_of, viewed}
use Rattle.path_runs.specs.runs.store_api.Rows.{Rows, has_key}
use Rattle.path_runs.specs.runs.exec_types.Parts.{timestamp_of}
use Rattle.path_runs.specs.runs.exec_types.declared.input.Input.{Input}
use Rattle.path_runs.specs.runs.exec_types.declared.input.Input.TheVariants.{Request, GiveUp, See, Tick, Deliver, Crash, Restart}
use Rattle.path_runs.specs.runs.exec_types.declared.message.Message.{Message as Sent}
use Rattle.path_runs.specs.runs.exec_types.declared.message.Message.TheVariants as message
use Rattle.path_runs.specs.runs.exec_types.declared.message.SessionName.{SessionName}
use Rattle.path_runs.specs.runs.exec_types.declared.message.Stream.{Stream}
use Rattle.path_runs.specs.runs.exec_types.declared.output.Output.{Output}
use Rattle.path_runs.specs.runs.secondary_exec.declared.following.Following.{Following}
use Rattle.path_runs.specs.runs.secondary_exec.Stream.{FollowingStep, setup_following, stream_row, is_ours}
use Rattle.path_runs.specs.runs.node_core.declared.journal.Entry.{Entry}
use Rattle.path_runs.specs.runs.node_core.declared.node.Brought.{Brought}
use Rattle.path_runs.specs.runs.node_core.Parts.{Streamed, taken, left_alone, stream_all}
use Rattle.path_runs.specs.runs.node_core.Step.{NodeState, Stepped, silent, is_followed, followings_from, leads, coordinates, propose_all, message_row, is_well_formed, brought_row, input_row, act_on, node_step}
use Rattle.path_runs.specs.runs.declared.envelope.Envelope.{Envelope}
use Rattle.path_runs.specs.runs.Run.{IsRun, brought, message_at, opened, sent, state}
use Rattle.path_runs.specs.runs.Story.{points}
use Rattle.path_runs.proofs.step_runs.Outs.{stream_cases}
use Rattle.path_runs.proofs.step_runs.Runs.{some_hash}
use Rattle.path_runs.proofs.step_runs.Setups.{following_region}
use Rattle.path_runs.proofs.key_runs.KeyedRoles.{one_role}
use Rattle.path_runs.proofs.lead_runs.LedRoles.{one_of_few}
use Rattle.path_runs.proofs.log_runs.LogWorldRuns.{run_facts}
use Rattle.path_runs.proofs.log_runs.Table.{message_within}
use Rattle.row_runs.proofs.StoredFirsts.{keyed_node}
use Rattle.row_runs.proofs.StoredSetups.{Away}
use Rattle.row_runs.proofs.StoredSteps.{Follows, StreamTells, SentTells}
use Rattle.row_runs.proofs.StoredRuns.{run_kept}
use Rattle.step_laws.specs.Follows.{StandsThere, IsApplied}
use Rattle.step_laws.proofs.Applies.{applies_next}
use Rattle.step_run_laws.proofs.Taking.{own_state}

-- ---- of which shard a following is, by its session

record IsOfPlace (place : ℕ) (ss : List ShardConfig) (f : Following) : Type 0 where
  index : ℕ
  shard : ShardConfig
  there : slice_get ss index ≡ Some shard
  region_is : f.region ≡ shard.region
  counter : f.session.opened.counter ≡ place + index

begun_placed : (n place : ℕ) (ss : List ShardConfig) → AllByRecursion (IsOfPlace place ss) (followings_from n place ss)
begun_placed n place [] = tt
begun_placed n place (s ∷ ss) =
    let f : Following = setup_following (first_contract place s) s.primary (node_id n) place in
    let rest : List Following = followings_from n (place + 1) ss in
    let more : AllByRecursion (IsOfPlace place (s ∷ ss)) rest =
    all_weaker (IsOfPlace (place + 1) ss) (IsOfPlace place (s ∷ ss)) rest
    (λ g i. record { index = suc i.index; shard = i.shard; there = i.there; region_is = i.region_is; counter = let c = i.counter in omega (arith, c) }) (begun_placed n (place + 1) ss) in
    cond_both (is_followed n s) (f ∷ rest) rest (AllByRecursion (IsOfPlace place (s ∷ ss)))
    (λ _. (record { index = zero; shard = s; there = refl; region_is = refl; counter = omega arith }, more)) (λ _. more)

module _ (ss : List ShardConfig) where
  abbrev AllOf : List Following → Type 0
  AllOf fs = AllByRecursion (IsOfPlace 0 ss) fs

  stream_placed : (fs : List Following) (rows : Rows) (versions : Pieced Version) (from : NodeId) (stream : Stream) (view : ℕ) → AllOf fs → AllOf (stream_all fs rows versions from stream view).followings
  stream_placed [] rows versions from stream view h = tt
  stream_placed (f ∷ fs) rows versions from stream view h =
      let rest : Streamed = stream_all fs rows versions from stream view in
      let same : IsOfPlace 0 ss f = h.0 in
      cond_both (is_ours f from stream) (taken (stream_row f rows versions from stream view) fs) (left_alone f rest) (λ (r : Streamed). AllOf r.followings)
      (λ _. (
        stream_cases (λ (r : FollowingStep). IsOfPlace 0 ss r.following) f rows versions from stream view same same
            (record { index = same.index; shard = same.shard; there = same.there; region_is = same.region_is; counter = same.counter }),
        h.1,
      ))
      (λ _. (h.0, stream_placed fs rows versions from stream view h.1))

  message_placed : (s : NodeState) (from : NodeId) (m : Sent) → AllOf s.followings → AllOf (message_row s from m).node.followings
  message_placed s from (message.Raft m) h = h
  message_placed s from (message.Say contract ack) h =
      cond_both (leads s.log) (record s { acks = with_ack contract from ack s.acks }) s (λ (t : NodeState). AllOf t.followings) (λ _. h) (λ _. h)
  message_placed s from (message.Got got) h = h
  message_placed s from (message.Stream stream) h = stream_placed s.followings s.rows s.versions from stream s.log.acted h

  brought_placed : (s : NodeState) (b : Option Brought) → AllOf s.followings → AllOf (brought_row s b).node.followings
  brought_placed s None h = h
  brought_placed s (Some b) h =
      cond_both (is_well_formed s b) (message_row s b.from b.message) (silent s) (λ (step : Stepped). AllOf step.node.followings) (λ _. message_placed s b.from b.message h) (λ _. h)

  row_placed : (s : NodeState) (input : Input) (b : Option Brought) → AllOf s.followings → AllOf (input_row s input b).node.followings
  row_placed s (Request op key what) b h = h
  row_placed s (GiveUp op) b h = h
  row_placed s (See other up) b h = h
  row_placed s Tick b h =
      cond_both (coordinates s.log) (record s { log = propose_all s.log (proposals_of s.acks (table_of s.log)); acks = after_proposals s.acks (table_of s.log) }) s (λ (t : NodeState). AllOf t.followings) (λ _. h) (λ _. h)
  row_placed s (Deliver number) b h = brought_placed s b h
  row_placed s Crash b h = tt
  row_placed s Restart b h = tt

act_follows : (step : Stepped) (v : Option Results) → (act_on step v).node.followings ≡ step.node.followings
act_follows step None = refl
act_follows step (Some v) = refl

all_placed : (setup : SetupState) (past : List Entry) (n : ℕ) → AllOf setup.shards (state setup n past).followings
all_placed setup [] n = begun_placed n 0 setup.shards
all_placed setup (e ∷ past) n =
    let s : NodeState = state setup n past in
    let before = all_placed setup past n in
    let step : Stepped = input_row s e.input (brought past e.input) in
    cond_both (e.node.0 == n) (node_step s e.input (brought past e.input)).node s (λ (t : NodeState). AllOf setup.shards t.followings)
    (λ _. subst (AllOf setup.shards) (sym (act_follows step (viewed step.node.log))) (row_placed setup.shards s e.input (brought past e.input) before)) (λ _. before)

some_inner : {A : Type 0} (a b : A) → ◌≡◌ {A = Option A} (Some a) (Some b) → a ≡ b
some_inner a b e = cc

-- two of one session are of one region
same_region : (ss : List ShardConfig) (f g : Following) → IsOfPlace 0 ss f → IsOfPlace 0 ss g → g.session ≡ f.session → g.region ≡ f.region
same_region ss f g p q e =
    let a = p.counter in
    let b = q.counter in
    let c : g.session.opened.counter ≡ f.session.opened.counter = ap (λ (n : SessionName). n.opened.counter) e in
    let index : q.index ≡ p.index = omega (arith, a, b, c) in
    let shard : q.shard ≡ p.shard = some_inner q.shard p.shard (sym q.there ∙ ap (slice_get ss) index ∙ p.there) in
    q.region_is ∙ ap (λ (s : ShardConfig). s.region) shard ∙ sym p.region_is

-- ---- the part

-- what holds of each message holds of the one of a number
at_number : (P : Envelope → Type 0) (past : List Entry) (number : ℕ) (m : Envelope) → AllByRecursion P (sent past) → message_at past number ≡ Some m → P m
at_number P past number m all at =
    elim (number == 0) as (λ b. cond b None (slice_get (sent past) (number - 1)) ≡ Some m → P m) [
      | true ↦ λ e. absurd (cc)
      | false ↦ λ e. all_at P (sent past) (number - 1) m all e
    ] at

stream_told : (setup : SetupState) (ok : IsSetup setup) (past : List Entry) (run : IsRun setup past) (number : ℕ) (m : Envelope) (stream : Stream) → message_at past number ≡ Some m → m.message ≡ message.Stream stream
    → StreamTells (points past) stream
stream_told setup ok past run number m stream at is =
    subst (λ (x : Sent). SentTells (points past) x) is (at_number (λ (x : Envelope). SentTells (points past) x.message) past number m (run_kept setup ok past run).tells at)

module _ (setup : SetupState) (ok : IsSetup setup) (past : List Entry) (e : Entry) (run : IsRun setup (e ∷ past)) (number : ℕ) (m : Envelope) (f : Following) (stream : Stream) (key : List ℕ) (delivers : e.input ≡ Deliver number)
    (at : message_at past number ≡ Some m) (from : m.from.0 ≡ f.primary.0) (is : m.message ≡ message.Stream stream) (follows : IsIn (state setup e.node.0 past).followings f) (has_it : has_key f.region setup.hashes key ≡ true)
    (session : stream.session ≡ f.session) (next : stream.number ≡ f.got + 1) where
  abbrev n : ℕ
  n = e.node.0

  abbrev s : NodeState
  s = state setup n past

  abbrev own : Type 0
  own = Follows (Away setup n) setup.hashes s.versions f

  facts : own
  facts = all_member (Follows (Away setup n) setup.hashes s.versions) s.followings ((run_kept setup ok past run.1).nodes n).follows f follows

  hashes : s.versions.hashes ≡ setup.hashes
  hashes = (keyed_node setup ok past run.1 n).filled.hashes_are

  stands : StandsThere s.versions f
  stands = λ k i. facts.stands k (ap (λ h. has_key f.region h k) (sym hashes) ∙ i)

  above : f.position < timestamp_of stream.part
  above =
      let t = stream_told setup ok past run.1 number m stream at is in
      let a = t.number in
      let b = t.time in
      let c = facts.got in
      omega (arith, a, b, c, next)

  few : holders following_region s.followings (hash_of key setup.hashes) key ≤ 1
  few =
      let a = (keyed_node setup ok past run.1 n).follows (hash_of key setup.hashes) key in
      let b = one_role setup ok n (hash_of key setup.hashes) key in
      omega (arith, a, b)

  once : (g : Following) → IsIn s.followings g → g.session ≡ f.session → g ≡ f
  once g i same =
      let placed = all_placed setup past n in
      let region : g.region ≡ f.region =
      same_region setup.shards f g (all_member (IsOfPlace 0 setup.shards) s.followings placed f follows) (all_member (IsOfPlace 0 setup.shards) s.followings placed g i) same in
      one_of_few following_region s.followings (hash_of key setup.hashes) key few g f i follows (ap (λ (r : Region). has_key r setup.hashes key) region ∙ has_it) has_it

  pub next_applied : IsApplied s (record { node = state setup n (e ∷ past); outs = e.outputs }) f stream
  next_applied =
      let b : Brought = record { from = f.primary; message = message.Stream stream } in
      let sender : m.from ≡ f.primary = ap node_id from in
      let brings : brought past e.input ≡ Some b =
      ap (brought past) delivers ∙ ap opened at ∙ ap (λ (v : NodeId). Some (record { from = v; message = m.message })) sender ∙ ap (λ (x : Sent). Some (record { from = f.primary; message = x })) is in
      let of : s.setup ≡ setup = (keyed_node setup ok past run.1 n).begun in
      let within : f.primary.0 < s.setup.nodes =
      subst (λ (v : SetupState). f.primary.0 < v.nodes) (sym of) (subst (λ k. k < setup.nodes) from (message_within setup ok past run.1 number m at).0) in
      let some : 0 < s.versions.hashes = subst (λ k. 0 < k) (sym hashes) (some_hash setup ok) in
      let done = applies_next s number f stream follows once some stands ((run_facts setup past run.1).caught n) within session next above in
      let by_input : IsApplied s (node_step s e.input (Some b)) f stream = subst (λ (i : Input). IsApplied s (node_step s i (Some b)) f stream) (sym delivers) done in
      let by_entry : IsApplied s (node_step s e.input (brought past e.input)) f stream = subst (λ (o : Option Brought). IsApplied s (node_step s e.input o) f stream) (sym brings) by_input in
      let outs : List Output = (node_step s e.input (brought past e.input)).outs in
      let after : IsApplied s (record { node = state setup n (e ∷ past); outs = outs }) f stream =
      subst (λ (t : NodeState). IsApplied s (record { node = t; outs = outs }) f stream) (sym (own_state setup past e)) by_entry in
      subst (λ (o : List Output). IsApplied s (record { node = state setup n (e ∷ past); outs = o }) f stream) (sym run.0.outputs) after
