-- In every run, a point of which it was answered that its operation is done is decided, as facts of one key say it.
use Rattle.std.proofs.Common.{◌≡◌, ℕ, ◌*◌, ◌≤◌, ◌<◌, true, List, [], ◌∷◌, ◌++◌, length, count_by, Option, Some, None, inl, inr, sym, ap, ◌∙◌, subst, arith}
use Rattle.std.specs.List.{AllByRecursion}
use Rattle.path_facts.specs.Paths.{Birth}
use Rattle.path_facts.specs.Paths as paths
use Rattle.path_facts.specs.Runs.{Contract, IsMost}
use Rattle.path_facts.specs.Decided.{Stands, Decided}
use Rattle.path_facts.specs.Invariant.{IsOfBranch}
use Rattle.key_births.specs.Births.{key_version}
use Rattle.row_runs.specs.runs.region_map.declared.id.Id.{Id}
use Rattle.row_runs.specs.runs.region_map.declared.region.Region.{Region}
use Rattle.row_runs.specs.runs.region_map.Keys.{hash_of}
use Rattle.row_runs.specs.runs.region_map.Regions.{in_region}
use Rattle.row_runs.specs.runs.region_map.Maps.{value_at}
use Rattle.row_runs.specs.runs.branch_history.declared.version.Version.{Version}
use Rattle.row_runs.specs.runs.branch_history.Paths.{or_zero}
use Rattle.row_runs.specs.runs.branch_history.Histories.{knows}
use Rattle.row_runs.specs.runs.contract_types.declared.config.ShardConfig.{ShardConfig}
use Rattle.row_runs.specs.runs.contract_types.Configs.{shard_region}
use Rattle.row_runs.specs.runs.contract_types.Setup.{SetupState, IsSetup}
use Rattle.row_runs.specs.runs.store_api.Rows.{has_key}
use Rattle.row_runs.specs.runs.store_api.Versions.{point, version_of}
use Rattle.row_runs.specs.runs.primary_exec.Execution.{Execution}
use Rattle.row_runs.specs.runs.node_core.declared.journal.Entry.{Entry}
use Rattle.row_runs.specs.runs.Committed.{IsEarlier}
use Rattle.row_runs.specs.runs.DonePoints.{IsDoneAt}
use Rattle.row_runs.specs.runs.Run.{state, IsRun}
use Rattle.row_runs.specs.runs.Story.{Point, IsIn, points, points_of}
use Rattle.row_runs.proofs.change_runs.Asked.{history_of}
use Rattle.row_runs.proofs.change_runs.LedHistories.{some_inner, birth_known}
use Rattle.row_runs.proofs.key_runs.KeyedFacts.{History-along}
use Rattle.row_runs.proofs.key_runs.KeyedLaws.{keyed_facts}
use Rattle.row_runs.proofs.step_runs.PointBranches.{Head, heads_of, held, IsHeadOf, IsHeld, all_at}
use Rattle.row_runs.proofs.step_runs.PointRuns.{points_rise}
use Rattle.row_runs.proofs.step_runs.Setups.{one_shard}
use Rattle.row_runs.proofs.step_runs.Told.{IsIn-left}
use Rattle.row_runs.proofs.lead_runs.LedRoles.{IsLed, one_of_few}
use Rattle.row_runs.proofs.lead_runs.LedRows.{Lead, kept, leads_of}
use Rattle.row_runs.proofs.lead_runs.LedRuns.{earlier_run, run_roles}
use Rattle.row_runs.proofs.lead_runs.LedAsked.{lead_own}
use Rattle.row_runs.proofs.lead_runs.LedKeys.{LedAt, led_at}
use Rattle.row_runs.proofs.lead_runs.LedShards.{holder_is}
use Rattle.id_runs.proofs.TakenPoints.{Taken, taken}
use Rattle.row_runs.proofs.path_runs.Stays.{split_at}
use Rattle.durability_laws.proofs.HeldRuns.{HasPoint, DoneHeld, one_point}
use Rattle.durability_laws.proofs.Reached.{Reaches}
use Rattle.fact_runs.specs.KeyRuns.{moment, key_run}
use Rattle.fact_runs.proofs.Moments.{moment_at, moment_within}
use Rattle.fact_runs.proofs.Contracts.{hash_within, key_first, contract_is, primary_is, tenure_is}
use Rattle.fact_runs.proofs.Makers.{maker_is, tenure_0, life_of, known_index}
use Rattle.fact_runs.proofs.Versions.{is_of_branch}
use Rattle.decided_runs.specs.Decided.{IsDecided}
use Rattle.decided_runs.proofs.Deciding.{Answered, answered}

points_more : (later m : List Entry) (q : Point) → IsIn (points m) q → IsIn (points (later ++ m)) q
points_more [] m q i = i
points_more (e ∷ later) m q i = IsIn-left (points (later ++ m)) (points_of e.input e.outputs) q (points_more later m q i)

abbrev head_under : Lead → Head
head_under x = record { branch = x.branch; last = x.last }

leads_all : (P : Head → Type 0) (xs : List Execution) (x : Lead) → AllByRecursion P (heads_of xs) → IsIn (leads_of xs) x → P (head_under x)
leads_all P [] x h i = absurd i
leads_all P (y ∷ ys) x h i = elim i [ inl e ↦ subst (λ (z : Lead). P (head_under z)) e h.0 | inr j ↦ leads_all P ys x h.1 j ]

-- ---- the version of the run at the key, at a moment that is given as a journal

module _ (setup : SetupState) (ok : IsSetup setup) (past : List Entry) (run : IsRun setup past) (key : List ℕ) (m : List Entry) (early : IsEarlier past m) where
  version_then : (n : ℕ) (v : Version) → value_at (state setup n m).versions.pieces (hash_of key setup.hashes) key ≡ Some v → (key_run setup past key).version n (length m) ≡ key_version v
  version_then n v e =
      ap (λ (p : List Entry). key_version (or_zero (value_at (state setup n p).versions.pieces (hash_of key setup.hashes) key))) (moment_at past m early) ∙ ap (λ o. key_version (or_zero o)) e

  version_kept : (n : ℕ) (v : Version) → version_of (state setup n m).versions key ≡ Some v → (key_run setup past key).version n (length m) ≡ key_version v
  version_kept n v e =
      let hashes = (run_roles setup ok m (earlier_run setup past m run early) n).roles.hashes_are in
      version_then n v (ap (λ h. value_at (state setup n m).versions.pieces (hash_of key h) key) (sym hashes) ∙ e)

-- ---- a done operation

module _ (setup : SetupState) (ok : IsSetup setup) (past : List Entry) (run : IsRun setup past) (q : Point) (d : IsDoneAt past q) where
  abbrev g : ℕ
  g = hash_of q.key setup.hashes

  abbrev p : ℕ
  p = (key_first setup ok past run q.key).shard.primary.0

  a : Answered setup past q.op q.branch q.timestamp
  a = answered setup ok past run q.op d.reply q.branch q.timestamp d.answered

  abbrev m : List Entry
  m = a.moment

  then : IsRun setup a.moment
  then = earlier_run setup past a.moment run a.earlier

  -- what it counts is this point
  the_point : (region : Region) → (w : HasPoint setup a.moment region q.op q.timestamp) → w.taken ≡ q
  the_point region w =
      one_point (points past) w.taken q ((History-along past (keyed_facts setup ok past run).0).once q.op)
      (subst (λ (l : List Entry). IsIn (points l) w.taken) (sym a.earlier.is) (points_more a.earlier.later m w.taken w.is_in)) d.taken w.op_is

  taken_then : IsIn (points a.moment) q
  taken_then = subst (IsIn (points a.moment)) (the_point a.deciding.lead.contract.region a.deciding.waits) a.deciding.waits.is_in

  inside : in_region a.deciding.lead.contract.region g q.key ≡ true
  inside =
      subst (λ (x : Point). has_key a.deciding.lead.contract.region setup.hashes x.key ≡ true) (the_point a.deciding.lead.contract.region a.deciding.waits) a.deciding.waits.inside

  -- the node that decided leads the key
  leads : p ≡ a.node
  leads =
      let f = key_first setup ok past run q.key in
      let s = state setup a.node m in
      let led : IsLed setup a.node s.life a.deciding.lead = all_at (IsLed setup a.node s.life) (kept s).leads (run_roles setup ok m then a.node).roles.leads a.deciding.lead a.deciding.is_in in
      holder_is setup ok f.shard f.is_in g q.key f.inside a.deciding.lead.contract a.node led.contract inside led.held

  -- and stood at the point or above
  stood : value_at (state setup (key_first setup ok past run q.key).shard.primary.0 a.moment).versions.pieces (hash_of q.key setup.hashes) q.key ≡ Some (point q.branch a.deciding.lead.last)
  stood =
      let f = key_first setup ok past run q.key in
      let l : LedAt setup m q.key p = led_at setup ok f.shard f.is_in q.key f.inside m then in
      let lead_in : IsIn (kept (state setup p m)).leads a.deciding.lead = subst (λ n. IsIn (kept (state setup n m)).leads a.deciding.lead) (sym leads) a.deciding.is_in in
      l.led.version_is ∙ ap Some (l.led.stands a.deciding.lead lead_in inside) ∙ ap (λ (b : Id). Some (point b a.deciding.lead.last)) a.deciding.branch_is

  above : q.timestamp ≤ a.deciding.lead.last
  above =
      let s = state setup a.node m in
      let h : IsHeld a.node (points m) (held s) = (points_rise setup m then).1 a.node in
      let u = leads_all (IsHeadOf a.node s.life (points m)) s.executions a.deciding.lead h.heads_are a.deciding.is_in in
      u.above q taken_then (sym a.deciding.branch_is)

  -- ---- its branch

  first_taken : Taken setup past (split_at (points past) q d.taken).first q (key_first setup ok past run q.key).shard.primary.0
  first_taken =
      let at = split_at (points past) q d.taken in
      let f = key_first setup ok past run q.key in
      taken setup ok past run at.first at.later q at.is f.shard f.is_in f.inside (hash_within setup ok past run q.key)

  of_branch : IsOfBranch (key_run setup past q.key) (key_first setup ok past run q.key).shard.primary.0 (length first_taken.moment) q.branch q.timestamp
  of_branch =
      let t = first_taken in
      is_of_branch setup ok past run q.key p (length t.moment) q.branch q.timestamp (version_then setup ok past run q.key t.moment t.earlier p (point q.branch q.timestamp) t.version_is)

  abbrev y : Birth Id
  y = of_branch.birth

  maker : y.maker ≡ p
  maker = maker_is setup ok past run q.key y of_branch.is_in

  -- ---- the counts

  -- a node that stood there at the moment was counted rightly
  counts : (v at : ℕ) → (key_run setup past q.key).version v (length m) ≡ paths.point q.branch at → q.timestamp ≤ at → (c : Contract) → c.since ≡ 0 → Stands (key_run setup past q.key) y q.timestamp c.since v
  counts v at is up c since = record {
    moment = length m;
    within = moment_within past m a.earlier;
    views = omega (arith, since);
    primary = primary_is setup ok past run q.key _ ∙ ap Some (sym maker);
    tenure = tenure_is setup ok past run q.key _ ∙ sym (tenure_0 setup ok past run q.key y of_branch.is_in);
    at = at;
    version_is = is ∙ ap (λ (b : Id). paths.point b at) (sym of_branch.name_is);
    reached = up;
  }

  held_there : DoneHeld setup a.moment q.op q.branch q.timestamp
  held_there = a.deciding.held

  -- it was counted at the shard of the key
  same_shard : held_there.shard ≡ (key_first setup ok past run q.key).shard
  same_shard =
      let f = key_first setup ok past run q.key in
      let own : in_region held_there.shard.region g q.key ≡ true = subst (λ (x : Point). has_key held_there.shard.region setup.hashes x.key ≡ true) (the_point held_there.shard.region held_there.p) held_there.p.inside in
      one_of_few shard_region setup.shards g q.key (one_shard setup ok g q.key) held_there.shard f.shard held_there.shard_in f.is_in own f.inside

  version_there : (key_run setup past q.key).version p (length m) ≡ paths.point q.branch a.deciding.lead.last
  version_there = version_then setup ok past run q.key m a.earlier p (point q.branch a.deciding.lead.last) stood

  each : (v : ℕ) → held_there.counted v ≡ true → (c : Contract) → c.since ≡ 0 → Stands (key_run setup past q.key) y q.timestamp c.since v
  each v is c since =
      elim (held_there.each v is) [
        | inl own ↦
            let who : p ≡ v = ap (λ (s : ShardConfig). s.primary.0) (sym same_shard) ∙ sym own in
            counts v a.deciding.lead.last (ap (λ n. (key_run setup past q.key).version n (length m)) (sym who) ∙ version_there) above c since
        | inr r ↦
            let mine : Reaches setup m v q.key q.branch q.timestamp = subst (λ (x : Point). Reaches setup m v x.key q.branch q.timestamp) (the_point held_there.shard.region held_there.p) r in
            counts v mine.to (version_kept setup ok past run q.key m a.earlier v (point q.branch mine.to) mine.version_is) mine.up c since
      ]

  abbrev own : Contract
  own = (key_run setup past q.key).contract ((key_run setup past q.key).view y.maker (length m))

  most : IsMost held_there.counted own.voters
  most =
      subst (λ (vs : List ℕ). length vs < 2 * count_by held_there.counted vs)
      (ap (λ (s : ShardConfig). s.voters) same_shard ∙ ap (λ (c : Contract). c.voters) (sym (contract_is setup ok past run q.key ((key_run setup past q.key).view y.maker (length m))))) held_there.most

  no_second : (set : List ℕ) → own.second ≡ Some set → IsMost held_there.counted set
  no_second set is = absurd (none (ap (λ (c : Contract). c.second) (sym (contract_is setup ok past run q.key ((key_run setup past q.key).view y.maker (length m)))) ∙ is))
    where
      none : ◌≡◌ {A = Option (List ℕ)} None (Some set) → ⊥
      none e = absurd (cc e)

  decided : Decided (key_run setup past q.key) y q.timestamp
  decided =
      let f = key_first setup ok past run q.key in
      let l : LedAt setup m q.key p = led_at setup ok f.shard f.is_in q.key f.inside m then in
      let mine = lead_own setup m then a.node a.deciding.lead a.deciding.is_in in
      let is = moment_at past m a.earlier in
      let name : l.branch ≡ y.branch =
      some_inner l.branch y.branch (sym l.led.branch_is ∙ ap (λ (v : Version). v.branch) (some_inner l.version (point q.branch a.deciding.lead.last) (sym l.led.version_is ∙ stood)) ∙ ap Some (sym of_branch.name_is)) in
      let known : knows (history_of setup p m) y.branch ≡ true = subst (λ (b : Id). knows (history_of setup p m) b ≡ true) name (birth_known (history_of setup p m) l.branch l.led.birth l.led.registered) in
      let view = known_index setup ok past run q.key y of_branch.is_in m a.earlier p known in
      let view_is : (state setup y.maker (moment past (length m))).log.acted ≡ (state setup p m).log.acted =
      ap (λ n. (state setup n (moment past (length m))).log.acted) maker ∙ ap (λ (r : List Entry). (state setup p r).log.acted) is in
      record {
        moment = length m;
        within = moment_within past m a.earlier;
        life =
            ap (λ n. (state setup n (moment past (length m))).life) maker ∙ ap (λ (r : List Entry). (state setup p r).life) is ∙ ap (λ n. (state setup n m).life) leads
            ∙ sym mine.life_is ∙ ap (λ (b : Id). b.life) (a.deciding.branch_is ∙ sym of_branch.name_is) ∙ sym (life_of setup ok past run q.key y of_branch.is_in);
        known = omega (arith, view, view_is);
        primary = primary_is setup ok past run q.key _ ∙ ap Some (sym maker);
        tenure = tenure_is setup ok past run q.key _ ∙ sym (tenure_0 setup ok past run q.key y of_branch.is_in);
        at = a.deciding.lead.last;
        version_is = ap (λ n. (key_run setup past q.key).version n (length m)) maker ∙ version_there ∙ ap (λ (b : Id). paths.point b a.deciding.lead.last) (sym of_branch.name_is);
        reached = above;
        above = of_branch.above;
        counted = held_there.counted;
        most = most;
        most_of_second = no_second;
        each = λ v c. each v c own (ap (λ (c : Contract). c.since) (contract_is setup ok past run q.key ((key_run setup past q.key).view y.maker (length m))));
      }

-- what is done is decided
pub done_decided : (setup : SetupState) → IsSetup setup → (past : List Entry) → IsRun setup past → (q : Point) → IsDoneAt past q → IsDecided setup past q
done_decided setup ok past run q d =
    let b = of_branch setup ok past run q d in (
      record { birth = b.birth; is_in = b.is_in; timestamp = q.timestamp; decided = decided setup ok past run q d },
      ap (λ (i : Id). paths.point i q.timestamp) b.name_is,
    )
