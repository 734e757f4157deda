-- What the row of an input does at one key.
use Rattle.std.proofs.Common.{◌≡◌, ◌+◌, ℕ, Bool, true, false, List, ◌∷◌, ◌++◌, map, filter, Option, Some, refl, sym, ap, ◌∙◌, subst}
use Rattle.std.proofs.lemmas.Bool.{cond_both}
use Rattle.node_moves.specs.region_map.declared.id.NodeId.{NodeId}
use Rattle.node_moves.specs.register_laws.declared.operation.OpId.{OpId}
use Rattle.node_moves.specs.register_laws.declared.operation.Op.{Op}
use Rattle.node_moves.specs.register_laws.Register.{State, state_after, writes}
use Rattle.node_moves.specs.exec_types.Parts.{effect_of, timestamp_of}
use Rattle.node_moves.specs.exec_types.declared.input.Input.{Input}
use Rattle.node_moves.specs.exec_types.declared.input.Input.TheVariants.{Request, GiveUp, See, Tick, Deliver, Crash, Restart}
use Rattle.node_moves.specs.exec_types.declared.message.Got.{Got}
use Rattle.node_moves.specs.exec_types.declared.message.Message.TheVariants as message
use Rattle.node_moves.specs.exec_types.declared.message.Part.{Part}
use Rattle.node_moves.specs.exec_types.declared.message.Part.TheVariants.{Write, Sync}
use Rattle.node_moves.specs.exec_types.declared.message.Stream.{Stream}
use Rattle.node_moves.specs.store_api.Rows.{row_of, value_of}
use Rattle.node_moves.specs.store_api.Versions.{advanced_map, advanced_rows, version_of}
use Rattle.node_moves.specs.secondary_exec.declared.following.Following.{Following}
use Rattle.node_moves.specs.secondary_exec.Stream.{applied, is_next, is_ours}
use Rattle.node_moves.specs.primary_exec.Execution.{Execution, PrimaryStep, dispatch_row, give_up_row, got_row, is_live, part_of, with_acked, with_stands}
use Rattle.node_moves.specs.node_core.declared.node.Brought.{Brought}
use Rattle.node_moves.specs.node_core.Parts.{is_for}
use Rattle.node_moves.specs.node_core.Step.{NodeState}
use Rattle.node_moves.specs.Keys.{AtKey, at_key, follows_for, row_at, version_at}
use Rattle.node_moves.specs.Move.{HasHashes, Leaves, Move, Applies, ComesUp, GivesUp, GoesDown, Keeps, Still, Takes}
use Rattle.node_moves.specs.Parts.{Held, LeavesParts, PartsMove, Apply, Fall, Forget, Keep, Rest, Rise, Take, held}
use Rattle.node_moves.specs.Says.{IsServing}
use Rattle.node_moves.proofs.AtKeys.{filter_in, filter_mapped, filter_out, row_advanced, row_out, version_advanced, version_out}
use Rattle.node_moves.proofs.Executions.{none_serves, serves_once}
use Rattle.store_api.proofs.VersionMaps.{advanced_map_hashes}

part_time : (before : State) (at : ℕ) (key : List ℕ) (what : Op) → timestamp_of (part_of before at key what) ≡ at
part_time before at key what =
    cond_both (writes before what) (Write at key (record { value = state_after before what; recency = at })) (Sync at) (λ (p : Part). timestamp_of p ≡ at) (λ _. refl) (λ _. refl)

leaves_key : (s : NodeState) (key : List ℕ) (input : Input) → LeavesParts s input → Leaves s key input
leaves_key s key (Request op own what) none = λ x serving. absurd (none_serves s.setup.hashes own s.executions x none serving)
leaves_key s key (GiveUp op) none = none
leaves_key s key (See other up) none = tt
leaves_key s key Tick none = tt
leaves_key s key (Deliver number) none = tt
leaves_key s key Crash none = none
leaves_key s key Restart none = none

module _ (s : NodeState) (input : Input) (brought : Option Brought) (key : List ℕ) (h : HasHashes s) where
  abbrev hashes : ℕ
  hashes = s.setup.hashes

  abbrev at : Held → AtKey
  at r = at_key hashes key r

  abbrev Moves : Held → Type 0
  Moves r = Move s input brought key (at (held s)) (at r)

  -- ---- a request

  takes : (op : OpId) (own : List ℕ) (what : Op) (x : Execution) → input ≡ Request op own what → (serving : IsServing hashes own s.executions x)
      → Moves (record (held s) {
        executions = serving.before ++ (dispatch_row x s.rows s.versions op own what).execution ∷ serving.after;
        versions = (dispatch_row x s.rows s.versions op own what).versions;
        rows = (dispatch_row x s.rows s.versions op own what).rows;
      })
  takes op own what x asked serving =
      let p : Execution → Bool = is_for hashes key in
      let before : List Execution = serving.before in
      let after : List Execution = serving.after in
      let step : PrimaryStep = dispatch_row x s.rows s.versions op own what in
      let part : Part = part_of (value_of s.rows own) (x.last + 1) own what in
      let version : version_of step.versions key ≡ version_at x.contract.region x.branch (x.last + 1) hashes key (version_of s.versions key) =
      version_advanced hashes h.some key x.contract.region s.versions h.hashes_are x.branch (x.last + 1) in
      let row : row_of step.rows key ≡ row_at part x.contract.region x.branch hashes key (version_of s.versions key) (row_of s.rows key) =
      subst (λ time. row_of (advanced_rows (effect_of part) x.contract.region x.branch time s.versions s.rows) key ≡ row_at part x.contract.region x.branch hashes key (version_of s.versions key) (row_of s.rows key))
      (part_time (value_of s.rows own) (x.last + 1) own what) (row_advanced hashes key x.contract.region s.versions h.hashes_are x.branch s.rows part) in
      let newer : Held = record (held s) { executions = before ++ step.execution ∷ after; versions = step.versions; rows = step.rows } in
      elim (is_for hashes key x) as (λ c. is_for hashes key x ≡ c → Moves newer) [
        | true ↦ λ has.
            let writes : filter p (before ++ step.execution ∷ after) ≡ filter p before ++ step.execution ∷ filter p after = filter_in p before step.execution after has in
            Takes op own what x (filter p before) (filter p after) asked serving has (ap (filter p) serving.these ∙ filter_in p before x after has)
            (λ i. record (at (held s)) { writes = writes i; version = version i; row = row i })
        | false ↦ λ out.
            let writes : filter p (before ++ step.execution ∷ after) ≡ filter p s.executions =
            filter_out p before step.execution after out ∙ sym (filter_out p before x after out) ∙ sym (ap (filter p) serving.these) in
            let same_version : version_of step.versions key ≡ version_of s.versions key = version ∙ version_out hashes key x.contract.region out x.branch (x.last + 1) (version_of s.versions key) in
            let same_row : row_of step.rows key ≡ row_of s.rows key = row ∙ row_out hashes key x.contract.region out part x.branch (version_of s.versions key) (row_of s.rows key) in
            let others : Leaves s key (Request op own what) = λ y other. subst (λ (z : Execution). is_for hashes key z ≡ false) (serves_once hashes own s.executions x y serving other) out in
            Still (subst (Leaves s key) (sym asked) others) (λ i. record (at (held s)) { writes = writes i; version = same_version i; row = same_row i })
      ] refl

  -- ---- a part of a stream

  applies : (from : NodeId) (stream : Stream) (before : List Following) (f : Following) (after : List Following) → brought ≡ Some (record { from = from; message = message.Stream stream })
      → s.followings ≡ before ++ f ∷ after → is_ours f from stream ≡ true → is_next f stream ≡ true → Leaves s key input
      → Moves (record (held s) {
        followings = before ++ applied f stream ∷ after;
        versions = advanced_map f.region f.branch (timestamp_of stream.part) s.versions;
        rows = advanced_rows (effect_of stream.part) f.region f.branch (timestamp_of stream.part) s.versions s.rows;
      })
  applies from stream before f after came these ours next leaves =
      let q : Following → Bool = follows_for hashes key in
      let time : ℕ = timestamp_of stream.part in
      let newer : Held = record (held s) {
        followings = before ++ applied f stream ∷ after;
        versions = advanced_map f.region f.branch time s.versions;
        rows = advanced_rows (effect_of stream.part) f.region f.branch time s.versions s.rows;
      } in
      let version : version_of newer.versions key ≡ version_at f.region f.branch time hashes key (version_of s.versions key) =
      version_advanced hashes h.some key f.region s.versions h.hashes_are f.branch time in
      let row : row_of newer.rows key ≡ row_at stream.part f.region f.branch hashes key (version_of s.versions key) (row_of s.rows key) =
      row_advanced hashes key f.region s.versions h.hashes_are f.branch s.rows stream.part in
      elim (follows_for hashes key f) as (λ c. follows_for hashes key f ≡ c → Moves newer) [
        | true ↦ λ has.
            let follows : filter q newer.followings ≡ filter q before ++ applied f stream ∷ filter q after = filter_in q before (applied f stream) after has in
            Applies from stream f (filter q before) (filter q after) came ours next has (ap (filter q) these ∙ filter_in q before f after has)
            (λ i. record (at (held s)) { follows = follows i; version = version i; row = row i })
        | false ↦ λ out.
            let follows : filter q newer.followings ≡ filter q s.followings =
            filter_out q before (applied f stream) after out ∙ sym (filter_out q before f after out) ∙ sym (ap (filter q) these) in
            let same_version : version_of newer.versions key ≡ version_of s.versions key = version ∙ version_out hashes key f.region out f.branch time (version_of s.versions key) in
            let same_row : row_of newer.rows key ≡ row_of s.rows key = row ∙ row_out hashes key f.region out stream.part f.branch (version_of s.versions key) (row_of s.rows key) in
            Still leaves (λ i. record (at (held s)) { follows = follows i; version = same_version i; row = same_row i })
      ] refl

  -- ---- every row

  got_for : (from : NodeId) (got : Got) (x : Execution) → is_for hashes key (got_row x from got) ≡ is_for hashes key x
  got_for from got x =
      cond_both (is_live x from got.session) (record x { sessions = map (with_acked from got.session got.upto) x.sessions; dispatch = with_stands x.dispatch from got got.stands }) x
      (λ (y : Execution). is_for hashes key y ≡ is_for hashes key x) (λ _. refl) (λ _. refl)

  pub key_moves : (r : Held) → PartsMove s input brought r → Moves r
  key_moves r (Rest leaves is) = Still (leaves_key s key input leaves) (ap at is)
  key_moves r (Take op own what x asked serving is) = subst Moves (sym is) (takes op own what x asked serving)
  key_moves r (Apply number from stream before f after comes came these ours next is) =
      subst Moves (sym is) (applies from stream before f after came these ours next (subst (Leaves s key) (sym comes) tt))
  key_moves r (Keep number from got comes came is) =
      let writes = filter_mapped (is_for hashes key) (λ x. got_row x from got) (got_for from got) s.executions in
      subst Moves (sym is) (Keeps from got came (λ i. record (at (held s)) { writes = writes i }))
  key_moves r (Forget op asked is) =
      let writes = filter_mapped (is_for hashes key) (λ x. give_up_row x op) (λ x. refl) s.executions in
      subst Moves (sym is) (GivesUp op asked (λ i. record (at (held s)) { writes = writes i }))
  key_moves r (Fall crash is) = GoesDown crash (ap at is)
  key_moves r (Rise contracts restart these is) = ComesUp contracts restart these (ap at is)

  -- the number of hashes stays
  pub hashes_move : (r : Held) → PartsMove s input brought r → r.versions.hashes ≡ hashes
  hashes_move r (Rest leaves is) = ap (λ (q : Held). q.versions.hashes) is ∙ h.hashes_are
  hashes_move r (Take op own what x asked serving is) =
      ap (λ (q : Held). q.versions.hashes) is ∙ advanced_map_hashes x.contract.region x.branch (x.last + 1) s.versions ∙ h.hashes_are
  hashes_move r (Apply number from stream before f after comes came these ours next is) =
      ap (λ (q : Held). q.versions.hashes) is ∙ advanced_map_hashes f.region f.branch (timestamp_of stream.part) s.versions ∙ h.hashes_are
  hashes_move r (Keep number from got comes came is) = ap (λ (q : Held). q.versions.hashes) is ∙ h.hashes_are
  hashes_move r (Forget op asked is) = ap (λ (q : Held). q.versions.hashes) is ∙ h.hashes_are
  hashes_move r (Fall crash is) = ap (λ (q : Held). q.versions.hashes) is ∙ h.hashes_are
  hashes_move r (Rise contracts restart these is) = ap (λ (q : Held). q.versions.hashes) is ∙ h.hashes_are
