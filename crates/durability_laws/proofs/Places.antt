-- A following of the branch with which a key begins has the key in its region.
use Rattle.std.proofs.Common.{◌≡◌, ◌==◌, ℕ, zero, suc, ◌+◌, true, false, cond, List, [], ◌∷◌, Option, Some, None, ◌⊎◌, inl, inr, refl, sym, ap, ◌∙◌, subst, arith}
use Rattle.std.proofs.lemmas.Bool.{cond_both}
use Rattle.std.specs.Prelude.{slice_get}
use Rattle.std.specs.List.{AllByRecursion}
use Rattle.row_runs.specs.runs.region_map.declared.id.Id.{Id}
use Rattle.row_runs.specs.runs.region_map.declared.id.NodeId.{NodeId}
use Rattle.row_runs.specs.runs.region_map.declared.region.Region.{Region}
use Rattle.row_runs.specs.runs.region_map.Keys.{hash_of}
use Rattle.row_runs.specs.runs.region_map.Nodes.{node_id}
use Rattle.row_runs.specs.runs.region_map.Regions.{in_region}
use Rattle.row_runs.specs.runs.region_map.Maps.{Pieced}
use Rattle.row_runs.specs.runs.branch_history.declared.version.Version.{Version}
use Rattle.row_runs.specs.runs.branch_history.Paths.{Branches}
use Rattle.row_runs.specs.runs.contract_types.declared.config.ShardConfig.{ShardConfig}
use Rattle.row_runs.specs.runs.contract_types.declared.results.Viewed.{Viewed}
use Rattle.row_runs.specs.runs.contract_types.Setup.{SetupState}
use Rattle.row_runs.specs.runs.contract_types.Tables.{branch_at, first_id, first_birth, first_branches, first_contract}
use Rattle.row_runs.specs.runs.table_log.Logs.{table_of, viewed}
use Rattle.row_runs.specs.runs.coordinator.Acks.{with_ack}
use Rattle.row_runs.specs.runs.coordinator.Proposals.{proposals_of, after_proposals}
use Rattle.row_runs.specs.runs.exec_types.declared.input.Input.{Input}
use Rattle.row_runs.specs.runs.exec_types.declared.input.Input.TheVariants.{Request, GiveUp, See, Tick, Deliver, Crash, Restart}
use Rattle.row_runs.specs.runs.exec_types.declared.message.Message.{Message as Sent}
use Rattle.row_runs.specs.runs.exec_types.declared.message.Message.TheVariants as message
use Rattle.row_runs.specs.runs.exec_types.declared.message.Stream.{Stream}
use Rattle.row_runs.specs.runs.store_api.Rows.{Rows, has_key}
use Rattle.row_runs.specs.runs.secondary_exec.declared.following.Following.{Following}
use Rattle.row_runs.specs.runs.secondary_exec.Stream.{FollowingStep, is_ours, stream_row, setup_following}
use Rattle.row_runs.specs.runs.node_core.declared.node.Brought.{Brought}
use Rattle.row_runs.specs.runs.node_core.declared.journal.Entry.{Entry}
use Rattle.row_runs.specs.runs.node_core.Parts.{Streamed, taken, left_alone, stream_all}
use Rattle.row_runs.specs.runs.node_core.Step.{NodeState, Stepped, silent, is_followed, followings_from, leads, coordinates, propose_all, message_row, is_well_formed, brought_row, input_row, act_on}
use Rattle.row_runs.specs.runs.Run.{brought, state}
use Rattle.row_runs.proofs.step_runs.Begun.{begun_branch}
use Rattle.row_runs.proofs.change_runs.LedHistories.{some_inner}
use Rattle.row_runs.proofs.log_runs.LogWorldRuns.{moving}
use Rattle.row_runs.proofs.step_runs.Outs.{stream_cases}
use Rattle.row_runs.proofs.StoredSteps.{all_weaker}

-- ---- places of shards

-- the shard of a place whose region has a pair, and the branch of that place
record IsPlaced (place : ℕ) (ss : List ShardConfig) (h : ℕ) (k : List ℕ) (id : Id) : Type 0 where
  index : ℕ
  shard : ShardConfig
  there : slice_get ss index ≡ Some shard
  inside : in_region shard.region h k ≡ true
  counter : id.counter ≡ place + index

placed : (hashes place : ℕ) (ss : List ShardConfig) (older : Branches) (h : ℕ) (k : List ℕ) (id : Id) → branch_at (first_branches hashes place ss older) h k ≡ Some id
    → IsPlaced place ss h k id ⊎ (branch_at older h k ≡ Some id)
placed hashes place [] older h k id e = inr e
placed hashes place (s ∷ ss) older h k id e =
    elim (placed hashes (place + 1) ss ((first_id place s, first_birth hashes s) ∷ older) h k id e) [
      | inl f ↦ inl (record { index = suc f.index; shard = f.shard; there = f.there; inside = f.inside; counter = let c = f.counter in omega (arith, c) })
      | inr g ↦
          elim (in_region s.region h k) as (λ c. in_region s.region h k ≡ c → cond c (Some (first_id place s)) (branch_at older h k) ≡ Some id
          → IsPlaced place (s ∷ ss) h k id ⊎ (branch_at older h k ≡ Some id)) [
            | true ↦ λ i f.
                let c : place ≡ id.counter = ap (λ (b : Id). b.counter) (some_inner (first_id place s) id f) in
                inl (record { index = zero; shard = s; there = refl; inside = i; counter = omega (arith, c) })
            | false ↦ λ _ f. inr f
          ] refl g
    ]

-- a following is of the shard of its place
record IsOfPlace (place : ℕ) (ss : List ShardConfig) (f : Following) : Type 0 where
  index : ℕ
  shard : ShardConfig
  there : slice_get ss index ≡ Some shard
  region_is : f.region ≡ shard.region
  counter : f.branch.counter ≡ place + index

followings_placed : (n place : ℕ) (ss : List ShardConfig) → AllByRecursion (IsOfPlace place ss) (followings_from n place ss)
followings_placed n place [] = tt
followings_placed n place (s ∷ ss) =
    let f : Following = setup_following (first_contract place s) s.primary (node_id n) place in
    let rest : List Following = followings_from n (place + 1) ss in
    let more : AllByRecursion (IsOfPlace place (s ∷ ss)) rest =
    all_weaker (IsOfPlace (place + 1) ss) (IsOfPlace place (s ∷ ss))
    (λ g i. record { index = suc i.index; shard = i.shard; there = i.there; region_is = i.region_is; counter = let c = i.counter in omega (arith, c) }) rest (followings_placed n (place + 1) ss) in
    cond_both (is_followed n s) (f ∷ rest) rest (AllByRecursion (IsOfPlace place (s ∷ ss)))
    (λ _. (record { index = zero; shard = s; there = refl; region_is = refl; counter = omega arith }, more)) (λ _. more)

-- ---- what followings have

-- the keys that begin with the branch that it follows are in its region
pub record Covers (setup : SetupState) (f : Following) : Type 0 where
  pub has : (key : List ℕ) → begun_branch setup key ≡ Some f.branch → has_key f.region setup.hashes key ≡ true

covers_placed : (setup : SetupState) (f : Following) → IsOfPlace 0 setup.shards f → Covers setup f
covers_placed setup f i = record {
  has = λ key begun.
      let h : ℕ = hash_of key setup.hashes in
      elim (placed setup.hashes 0 setup.shards [] h key f.branch begun) [
        | inl p ↦
            let a = p.counter in
            let b = i.counter in
            let index : p.index ≡ i.index = omega (arith, a, b) in
            let same : p.shard ≡ i.shard = some_inner p.shard i.shard (sym p.there ∙ ap (slice_get setup.shards) index ∙ i.there) in
            ap (λ (r : Region). in_region r h key) (i.region_is ∙ ap (λ (s : ShardConfig). s.region) (sym same)) ∙ p.inside
        | inr e ↦ absurd (cc e)
      ];
}

module _ (setup : SetupState) where
  abbrev AllCover : List Following → Type 0
  AllCover fs = AllByRecursion (Covers setup) fs

  stream_cover : (fs : List Following) (rows : Rows) (versions : Pieced Version) (from : NodeId) (stream : Stream) (view : ℕ) → AllCover fs → AllCover (stream_all fs rows versions from stream view).followings
  stream_cover [] rows versions from stream view h = tt
  stream_cover (f ∷ fs) rows versions from stream view h =
      let rest : Streamed = stream_all fs rows versions from stream view in
      cond_both (is_ours f from stream) (taken (stream_row f rows versions from stream view) fs) (left_alone f rest) (λ (r : Streamed). AllCover r.followings)
      (λ _. (stream_cases (λ (r : FollowingStep). Covers setup r.following) f rows versions from stream view h.0 h.0 (record { has = h.0.has }), h.1))
      (λ _. (h.0, stream_cover fs rows versions from stream view h.1))

  message_cover : (s : NodeState) (from : NodeId) (m : Sent) → AllCover s.followings → AllCover (message_row s from m).node.followings
  message_cover s from (message.Raft m) h = h
  message_cover s from (message.Say contract ack) h =
      cond_both (leads s.log) (record s { acks = with_ack contract from ack s.acks }) s (λ (t : NodeState). AllCover t.followings) (λ _. h) (λ _. h)
  message_cover s from (message.Got got) h = h
  message_cover s from (message.Stream stream) h = stream_cover s.followings s.rows s.versions from stream s.log.acted h

  brought_cover : (s : NodeState) (b : Option Brought) → AllCover s.followings → AllCover (brought_row s b).node.followings
  brought_cover s None h = h
  brought_cover s (Some b) h =
      cond_both (is_well_formed s b) (message_row s b.from b.message) (silent s) (λ (step : Stepped). AllCover step.node.followings) (λ _. message_cover s b.from b.message h) (λ _. h)

  row_cover : (s : NodeState) (input : Input) (b : Option Brought) → AllCover s.followings → AllCover (input_row s input b).node.followings
  row_cover s (Request op key what) b h = h
  row_cover s (GiveUp op) b h = h
  row_cover s (See other up) b h = h
  row_cover s Tick b h =
      cond_both (coordinates s.log) (record s { log = propose_all s.log (proposals_of s.acks (table_of s.log)); acks = after_proposals s.acks (table_of s.log) }) s (λ (t : NodeState). AllCover t.followings) (λ _. h) (λ _. h)
  row_cover s (Deliver number) b h = brought_cover s b h
  row_cover s Crash b h = tt
  row_cover s Restart b h = tt

-- the rest of a step leaves followings as they are
pub act_follows : (step : Stepped) (v : Option Viewed) → (act_on step v).node.followings ≡ step.node.followings
act_follows step None = refl
act_follows step (Some v) = refl

pub run_covers : (setup : SetupState) (past : List Entry) (n : ℕ) → AllByRecursion (Covers setup) (state setup n past).followings
run_covers setup [] n = all_weaker (IsOfPlace 0 setup.shards) (Covers setup) (covers_placed setup) (followings_from n 0 setup.shards) (followings_placed n 0 setup.shards)
run_covers setup (e ∷ past) n =
    let s : NodeState = state setup n past in
    let before = run_covers setup past n in
    let step : Stepped = input_row s e.input (brought past e.input) in
    cond_both (e.node.0 == n) (moving setup past e n) s (λ (t : NodeState). AllByRecursion (Covers setup) t.followings)
    (λ _. subst (AllByRecursion (Covers setup)) (sym (act_follows step (viewed step.node.log))) (row_cover setup s e.input (brought past e.input) before)) (λ _. before)
