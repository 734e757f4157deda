-- A secondary applies the next part of its session.
use Rattle.std.proofs.Common.{◌≡◌, ◌<◌, ℕ, ◌+◌, ◌==◌, true, false, cond, nat_lt, nat_le, List, [], ◌∷◌, Some, None, refl, sym, ap, ap₂, ◌∙◌, subst, inl, inr, arith, eq-eqb, sum}
use Rattle.std.proofs.lemmas.Bool.{cond_both, and_parts, and_from, lt-ltb, both_ways}
use Rattle.std.proofs.lemmas.Bool.Decides.{nat_tests}
use Rattle.std.proofs.Math.Nat.{mod-lt}
use Rattle.list_laws.specs.Members.{IsIn}
use Rattle.runs.specs.region_map.declared.id.Id.{Id}
use Rattle.runs.specs.region_map.declared.id.NodeId.{NodeId}
use Rattle.runs.specs.region_map.Equal.{same_id}
use Rattle.runs.specs.region_map.Keys.{hash_of}
use Rattle.runs.specs.region_map.Maps.{Pieced, value_at}
use Rattle.runs.specs.region_map.Regions.{in_region}
use Rattle.runs.specs.branch_history.declared.version.Version.{Version}
use Rattle.runs.proofs.branch_history.PathLaws.{id_same, id_self}
use Rattle.runs.specs.store_api.declared.Row.{Row}
use Rattle.runs.specs.store_api.Rows.{Rows, has_key, row_of, with_row}
use Rattle.runs.specs.store_api.Versions.{point, is_behind, version_of, comes_to, advanced_rows, advanced_map}
use Rattle.runs.proofs.store_api.RowLemmas.{row_of-with_row_same}
use Rattle.runs.proofs.store_api.VersionMaps.{advanced_map_at, advanced_map_hashes}
use Rattle.runs.specs.exec_types.Parts.{timestamp_of, effect_of}
use Rattle.runs.specs.exec_types.Sessions.{same_session}
use Rattle.runs.specs.exec_types.declared.input.Input.TheVariants.{Deliver}
use Rattle.runs.specs.exec_types.declared.message.Message.TheVariants as message
use Rattle.runs.specs.exec_types.declared.message.Part.{Part}
use Rattle.runs.specs.exec_types.declared.message.Part.TheVariants.{Write, Sync}
use Rattle.runs.specs.exec_types.declared.message.SessionName.{SessionName}
use Rattle.runs.specs.exec_types.declared.message.Stream.{Stream}
use Rattle.runs.specs.exec_types.declared.output.Output.{Output}
use Rattle.runs.specs.table_log.Logs.{viewed, results}
use Rattle.runs.specs.secondary_exec.declared.following.Following.{Following}
use Rattle.runs.specs.secondary_exec.Stream.{FollowingStep, acknowledgement, applied, is_next, is_ours, quiet, apply_part, take_part, stream_row}
use Rattle.runs.specs.node_core.declared.node.Brought.{Brought}
use Rattle.runs.specs.node_core.Parts.{Streamed, taken, left_alone, stream_all, decide_all_outs}
use Rattle.runs.specs.node_core.Step.{NodeState, Stepped, silent, take_stream, is_well_formed, brought_row, act_on, act, decide_step, node_step}
use Rattle.step_laws.specs.Follows.{StandsThere, HasRow, after_part, IsApplied}
use Rattle.list_laws.proofs.Members.{IsIn-left}

session_same : (a b : SessionName) → same_session a b ≡ true → a ≡ b
session_same a b e =
    let parts = and_parts (same_id a.asked b.asked) (same_id a.opened b.opened) e in
    ap₂ (λ (x y : Id). record { asked = x; opened = y }) (id_same a.asked b.asked parts.0) (id_same a.opened b.opened parts.1)

session_self : (a : SessionName) → same_session a a ≡ true
session_self a = and_from (same_id a.asked a.asked) (same_id a.opened a.opened) (id_self a.asked) (id_self a.opened)

-- ---- one following takes the part

record Takes (r : Streamed) (step : FollowingStep) : Type 0 where
  follows : IsIn r.followings step.following
  rows : r.rows ≡ step.rows
  versions : r.versions ≡ step.versions
  outs : r.outs ≡ step.outs

module _ (f : Following) (from : NodeId) (stream : Stream) (view : ℕ) (rows : Rows) (versions : Pieced Version) (sender : from.0 ≡ f.primary.0) (session : stream.session ≡ f.session) where
  ours : is_ours f from stream ≡ true
  ours =
      and_from (from.0 == f.primary.0) (same_session stream.session f.session) (eq-eqb from.0 f.primary.0 sender)
      (ap (λ (n : SessionName). same_session n f.session) session ∙ session_self f.session)

  one_takes : (fs : List Following) → IsIn fs f → ((g : Following) → IsIn fs g → g.session ≡ f.session → g ≡ f) → Takes (stream_all fs rows versions from stream view) (stream_row f rows versions from stream view)
  one_takes [] i once = absurd i
  one_takes (g ∷ gs) i once =
      let step : FollowingStep = stream_row f rows versions from stream view in
      let rest : Streamed = stream_all gs rows versions from stream view in
      cond_both (is_ours g from stream) (taken (stream_row g rows versions from stream view) gs) (left_alone g rest) (λ (r : Streamed). Takes r step)
      (λ here.
      let parts = and_parts (from.0 == g.primary.0) (same_session stream.session g.session) here in
      let is : g ≡ f = once g (inl refl) (sym (session_same stream.session g.session parts.1) ∙ session) in
      subst (λ (v : Following). Takes (taken (stream_row v rows versions from stream view) gs) step) (sym is)
      (record { follows = inl refl; rows = refl; versions = refl; outs = refl }))
      (λ other. elim i [
        | inl same ↦ absurd (both_ways (is_ours g from stream) other (ap (λ (v : Following). is_ours v from stream) same ∙ ours))
        | inr there ↦
            let t = one_takes gs there (λ h j. once h (inr j)) in
            record { follows = inr t.follows; rows = t.rows; versions = t.versions; outs = t.outs }
      ])

  module _ (number : stream.number ≡ f.got + 1) (above : f.position < timestamp_of stream.part) where
    row_is : stream_row f rows versions from stream view ≡ apply_part f rows versions stream view
    row_is =
        let old : FollowingStep = record { following = f; rows = rows; versions = versions; outs = acknowledgement f view ∷ [] } in
        let new : FollowingStep = apply_part f rows versions stream view in
        let passed : FollowingStep = quiet f rows versions in
        let not_old : nat_le stream.number f.got ≡ false = grind (arith, nat_tests) in
        let next : is_next f stream ≡ true =
        and_from (stream.number == f.got + 1) (nat_lt f.position (timestamp_of stream.part)) (eq-eqb stream.number (f.got + 1) number) (lt-ltb f.position (timestamp_of stream.part) above) in
        ap (λ b. cond b (take_part f rows versions stream view) passed) ours
        ∙ ap (λ b. cond b old (cond (is_next f stream) new passed)) not_old
        ∙ ap (λ b. cond b new passed) next

-- ---- where the store stands then

behind : (branch : Id) (at to : ℕ) → at < to → is_behind branch to (Some (point branch at)) ≡ true
behind branch at to l = and_from (same_id branch branch) (nat_lt at to) (id_self branch) (lt-ltb at to l)

module _ (s : NodeState) (f : Following) (stands : StandsThere s.versions f) where
  -- a key of the region comes to what is above
  comes_later : (at : ℕ) (key : List ℕ) → f.position < at → has_key f.region s.versions.hashes key ≡ true → comes_to f.region f.branch at s.versions key ≡ true
  comes_later at key above i =
      and_from (in_region f.region (hash_of key s.versions.hashes) key) (is_behind f.branch at (version_of s.versions key)) i
      (ap (is_behind f.branch at) (stands key i) ∙ behind f.branch f.position at above)

  stands_later : (at : ℕ) (key : List ℕ) → 0 < s.versions.hashes → f.position < at → has_key f.region s.versions.hashes key ≡ true
      → value_at (advanced_map f.region f.branch at s.versions).pieces (hash_of key s.versions.hashes) key ≡ Some (point f.branch at)
  stands_later at key some above i =
      let g : ℕ = hash_of key s.versions.hashes in
      advanced_map_at f.region f.branch at s.versions g key (mod-lt (sum key) some)
      ∙ ap (λ b. cond b (Some (point f.branch at)) (value_at s.versions.pieces g key)) (comes_later at key above i)

  row_there : (at : ℕ) (key : List ℕ) (row : Row) → f.position < at → has_key f.region s.versions.hashes key ≡ true
      → row_of (advanced_rows (effect_of (Write at key row)) f.region f.branch at s.versions s.rows) key ≡ Some row
  row_there at key row above i =
      ap (λ b. row_of (cond b (with_row s.rows key row) s.rows) key) (comes_later at key above i) ∙ row_of-with_row_same s.rows key row

  has_row : (part : Part) → f.position < timestamp_of part
      → HasRow (advanced_rows (effect_of part) f.region f.branch (timestamp_of part) s.versions s.rows) (advanced_map f.region f.branch (timestamp_of part) s.versions).hashes f part
  has_row (Write at key row) above =
      λ i. row_there at key row above (ap (λ n. has_key f.region n key) (sym (advanced_map_hashes f.region f.branch at s.versions)) ∙ i)
  has_row (Sync at) above = tt

-- ---- the step

pub applies_next : (s : NodeState) (number : ℕ) (f : Following) (stream : Stream)
    → IsIn s.followings f → ((g : Following) → IsIn s.followings g → g.session ≡ f.session → g ≡ f) → 0 < s.versions.hashes → StandsThere s.versions f
    → s.log.acted ≡ s.log.raft.view → f.primary.0 < s.setup.nodes → stream.session ≡ f.session → stream.number ≡ f.got + 1 → f.position < timestamp_of stream.part
    → IsApplied s (node_step s (Deliver number) (Some (record { from = f.primary; message = message.Stream stream }))) f stream
applies_next s number f stream i once some stands caught known session next above =
    let from : NodeId = f.primary in
    let at : ℕ = timestamp_of stream.part in
    let b : Brought = record { from = from; message = message.Stream stream } in
    let row : Stepped = take_stream s from stream in
    let r : Streamed = stream_all s.followings s.rows s.versions from stream s.log.acted in
    let new : FollowingStep = apply_part f s.rows s.versions stream s.log.acted in
    let formed : is_well_formed s b ≡ true = and_from (nat_lt from.0 s.setup.nodes) true (lt-ltb from.0 s.setup.nodes known) refl in
    let taken_is : brought_row s (Some b) ≡ row = ap (λ v. cond v row (silent s)) formed in
    let nothing : viewed s.log ≡ None = ap (λ v. cond v None (Some (record { first = s.log.acted + 1; results = results s.log }))) (eq-eqb s.log.acted s.log.raft.view caught) in
    let act_is : act row ≡ row = ap (act_on row) nothing in
    let t : Takes r new = subst (Takes r) (row_is f from stream s.log.acted s.rows s.versions refl session next above) (one_takes f from stream s.log.acted s.rows s.versions refl session s.followings i once) in
    let hashes : (advanced_map f.region f.branch at s.versions).hashes ≡ s.versions.hashes = advanced_map_hashes f.region f.branch at s.versions in
    let stands_now : StandsThere row.node.versions (after_part f stream) =
    subst (λ (v : Pieced Version). (key : List ℕ) → has_key f.region v.hashes key ≡ true → value_at v.pieces (hash_of key v.hashes) key ≡ Some (point f.branch at)) (sym t.versions)
    (λ key in_it.
    ap (λ n. value_at (advanced_map f.region f.branch at s.versions).pieces (hash_of key n) key) hashes
    ∙ stands_later s f stands at key some above (ap (λ n. has_key f.region n key) (sym hashes) ∙ in_it)) in
    let row_now : HasRow row.node.rows row.node.versions.hashes f stream.part =
    subst (λ (q : Rows × Pieced Version). HasRow q.0 q.1.hashes f stream.part) (ap₂ (λ (a : Rows) (v : Pieced Version). (a, v)) (sym t.rows) (sym t.versions)) (has_row s f stands stream.part above) in
    let told : Output = acknowledgement (applied f stream) s.log.acted in
    let told_row : IsIn row.outs told = subst (λ (l : List Output). IsIn l told) (sym t.outs) (inl refl) in
    let follows_now : IsIn row.node.followings (after_part f stream) = t.follows in
    subst (λ (v : Stepped). IsApplied s v f stream) (sym (ap (λ (v : Stepped). decide_step (act v)) taken_is ∙ ap decide_step act_is))
    (record { follows = follows_now; stands = stands_now; row = row_now; told = IsIn-left row.outs (decide_all_outs row.node.executions) told told_row })
