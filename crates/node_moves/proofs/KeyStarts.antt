-- What starts at one key as a node acts on what was committed.
use Rattle.std.proofs.Common.{◌≡◌, ◌<◌, ◌+◌, ℕ, true, false, List, ◌∷◌, ◌++◌, filter, Some, refl, sym, ap, ◌∙◌, subst}
use Rattle.std.proofs.lemmas.List.Elements.{filter-append}
use Rattle.node_moves.specs.region_map.declared.id.NodeId.{NodeId}
use Rattle.node_moves.specs.region_map.Maps.{Pieced}
use Rattle.node_moves.specs.branch_history.declared.version.Version.{Version}
use Rattle.node_moves.specs.contract_types.Tables.{Table}
use Rattle.node_moves.specs.store_api.Versions.{point, replaced_map, version_of}
use Rattle.node_moves.specs.primary_exec.declared.asking.Asking.{Asking}
use Rattle.node_moves.specs.primary_exec.Execution.{Execution, started, started_versions}
use Rattle.node_moves.specs.node_core.Parts.{is_for}
use Rattle.node_moves.specs.node_core.Starting.{due}
use Rattle.node_moves.specs.Keys.{AtKey, asks_for, at_key, version_started}
use Rattle.node_moves.specs.Move.{Starts, NoMore, One}
use Rattle.node_moves.specs.Parts.{Held, Begins, Begin, Ends}
use Rattle.node_moves.proofs.AtKeys.{filter_in, filter_out, started_out, version_starts}
use Rattle.store_api.proofs.VersionMaps.{advanced_map_hashes, replaced_map_hashes}

module _ (me : NodeId) (hashes : ℕ) (some : 0 < hashes) (t : Table) (key : List ℕ) where
  abbrev at : Held → AtKey
  at r = at_key hashes key r

  start_hashes : (x : Asking) (initial : ℕ) (m : Pieced Version) → m.hashes ≡ hashes → (started_versions x initial m).hashes ≡ hashes
  start_hashes x initial m same =
      advanced_map_hashes x.contract.region x.branch (initial + 1) (replaced_map x.contract.region (point x.branch initial) m)
      ∙ replaced_map_hashes x.contract.region (point x.branch initial) m ∙ same

  module _ (a : Held) (x : Asking) (initial : ℕ) (first rest : List Asking) (before after : List Execution) (asks : a.asking ≡ first ++ x ∷ rest) (is_due : due t x ≡ Some initial)
      (writes : a.executions ≡ before ++ after) (same : a.versions.hashes ≡ hashes) where
    abbrev next : Held
    next = record a { asking = first ++ rest; executions = before ++ started x me initial ∷ after; versions = started_versions x initial a.versions }

    version : version_of next.versions key ≡ version_started x.contract.region x.branch initial hashes key (version_of a.versions key)
    version = version_starts hashes some key x.contract.region a.versions same x.branch initial

    -- one that starts beside the key
    beside : asks_for hashes key x ≡ false → at next ≡ at a
    beside out =
        let asks_stay : filter (asks_for hashes key) (first ++ rest) ≡ filter (asks_for hashes key) a.asking =
        filter-append (asks_for hashes key) first rest ∙ sym (filter_out (asks_for hashes key) first x rest out) ∙ sym (ap (filter (asks_for hashes key)) asks) in
        let writes_stay : filter (is_for hashes key) next.executions ≡ filter (is_for hashes key) a.executions =
        filter_out (is_for hashes key) before (started x me initial) after out ∙ sym (filter-append (is_for hashes key) before after) ∙ sym (ap (filter (is_for hashes key)) writes) in
        let version_stays : version_of next.versions key ≡ version_of a.versions key = version ∙ started_out hashes key x.contract.region out x.branch initial (version_of a.versions key) in
        λ i. record (at a) { asks = asks_stay i; writes = writes_stay i; version = version_stays i }

    -- one that starts at the key
    here : (b : AtKey) → asks_for hashes key x ≡ true → Starts me hashes t key (at next) b → Starts me hashes t key (at a) b
    here b has later =
        let asks_now : filter (asks_for hashes key) (first ++ rest) ≡ filter (asks_for hashes key) first ++ filter (asks_for hashes key) rest = filter-append (asks_for hashes key) first rest in
        let writes_now : filter (is_for hashes key) next.executions ≡ filter (is_for hashes key) before ++ started x me initial ∷ filter (is_for hashes key) after =
        filter_in (is_for hashes key) before (started x me initial) after has in
        One (at a) b x initial (filter (asks_for hashes key) first) (filter (asks_for hashes key) rest) (filter (is_for hashes key) before) (filter (is_for hashes key) after)
        (ap (filter (asks_for hashes key)) asks ∙ filter_in (asks_for hashes key) first x rest has) is_due has
        (ap (filter (is_for hashes key)) writes ∙ filter-append (is_for hashes key) before after)
        (subst (λ (c : AtKey). Starts me hashes t key c b) (λ i. record (at a) { asks = asks_now i; writes = writes_now i; version = version i }) later)

    at_one : (b : AtKey) → Starts me hashes t key (at next) b → Starts me hashes t key (at a) b
    at_one b later =
        elim (asks_for hashes key x) as (λ c. asks_for hashes key x ≡ c → Starts me hashes t key (at a) b) [
          | true ↦ λ has. here b has later
          | false ↦ λ out. subst (λ (c : AtKey). Starts me hashes t key c b) (beside out) later
        ] refl

  pub key_starts : {a b : Held} → Begins me t a b → a.versions.hashes ≡ hashes → Starts me hashes t key (at a) (at b)
  key_starts (Ends a) same = NoMore (at a)
  key_starts (Begin a b x initial first rest before after asks is_due writes later) same =
      at_one a x initial first rest before after asks is_due writes same (at b) (key_starts later (start_hashes x initial a.versions same))
