-- The moment at which a point was taken: the version of its key at the node that leads the key is then that point.
use Rattle.std.proofs.Common.{◌≡◌, ◌⊎◌, ℕ, ◌+◌, ◌<◌, true, cond, List, [], ◌∷◌, ◌++◌, Option, Some, None, inl, inr, refl, sym, ap, ◌∙◌, subst, arith, append-nil}
use Rattle.std.proofs.lemmas.Bool.{eq-eqb}
use Rattle.lead_runs.specs.runs.region_map.declared.id.NodeId.{NodeId}
use Rattle.lead_runs.specs.runs.region_map.Keys.{hash_of}
use Rattle.lead_runs.specs.runs.region_map.Nodes.{node_id}
use Rattle.lead_runs.specs.runs.region_map.Regions.{in_region}
use Rattle.lead_runs.specs.runs.region_map.Maps.{Pieced, value_at}
use Rattle.lead_runs.specs.runs.branch_history.declared.version.Version.{Version}
use Rattle.lead_runs.specs.runs.contract_types.declared.config.ShardConfig.{ShardConfig}
use Rattle.lead_runs.specs.runs.contract_types.declared.contract.Contract.{Contract}
use Rattle.lead_runs.specs.runs.contract_types.declared.results.Viewed.{Viewed}
use Rattle.lead_runs.specs.runs.contract_types.Setup.{SetupState, IsSetup}
use Rattle.lead_runs.specs.runs.contract_types.Tables.{first_contracts}
use Rattle.lead_runs.specs.runs.table_log.Logs.{LogState, viewed, results}
use Rattle.lead_runs.specs.runs.exec_types.declared.input.Input.{Input}
use Rattle.lead_runs.specs.runs.exec_types.declared.input.Input.TheVariants.{Request, GiveUp, See, Tick, Deliver, Crash, Restart}
use Rattle.lead_runs.specs.runs.store_api.Versions.{point, advanced_map}
use Rattle.lead_runs.specs.runs.node_core.declared.node.Brought.{Brought}
use Rattle.lead_runs.specs.runs.node_core.declared.journal.Entry.{Entry}
use Rattle.lead_runs.specs.runs.node_core.Step.{NodeState, Stepped, input_row, act_on, end_step}
use Rattle.lead_runs.specs.runs.Run.{state, brought, IsRun}
use Rattle.lead_runs.specs.runs.Committed.{IsEarlier}
use Rattle.lead_runs.specs.runs.Story.{Point, IsIn, points, points_of}
use Rattle.lead_runs.proofs.change_runs.AskedRuns.{contracts_stay}
use Rattle.lead_runs.proofs.log_runs.LogWorldRuns.{moving, run_facts}
use Rattle.lead_runs.proofs.step_runs.PointBranches.{all_at}
use Rattle.lead_runs.proofs.step_runs.Told.{IsIn-right}
use Rattle.lead_runs.proofs.LedRows.{Lead, Kept, kept, Done, Still, Dispatches, Streams, GoesDown, ComesUp}
use Rattle.lead_runs.proofs.LedRoles.{IsLed, ends_kept}
use Rattle.lead_runs.proofs.LedRuns.{run_roles, row_is}
use Rattle.lead_runs.proofs.LedMoves.{advanced_inside}
use Rattle.lead_runs.proofs.LedShards.{holder_is}
use Rattle.lead_runs.proofs.step_runs.EndPoints.{end_points_of}
use Rattle.lead_runs.proofs.LedKeys.{LedAt, led_at}

-- ---- a row that takes a point

-- the one point that a row takes, of a branch that the node writes
pub record Takes (hashes : ℕ) (k next : Kept) (qs : List Point) : Type 0 where
  pub x : Lead
  pub is_in : IsIn k.leads x
  pub q : Point
  pub these : qs ≡ q ∷ []
  pub has : in_region x.contract.region (hash_of q.key hashes) q.key ≡ true
  pub branch_is : q.branch ≡ x.branch
  pub timestamp_is : q.timestamp ≡ x.last + 1
  pub versions_are : next.versions ≡ advanced_map x.contract.region x.branch (x.last + 1) k.versions

in_middle : (before after : List Lead) (x : Lead) → IsIn (before ++ x ∷ after) x
in_middle before after x = IsIn-right before (x ∷ after) x (inl refl)

module _ (me : NodeId) (hashes : ℕ) (contracts : List Contract) where
  pub takes_one : (k next : Kept) (qs : List Point) → Done me hashes contracts k next qs → (qs ≡ []) ⊎ Takes hashes k next qs
  takes_one k next qs (Still e none) = inl none
  takes_one k next qs (Dispatches before after x q these has branch time e one) =
      inr (record {
        x = x;
        is_in = subst (λ (l : List Lead). IsIn l x) (sym these) (in_middle before after x);
        q = q;
        these = one;
        has = has;
        branch_is = branch;
        timestamp_is = time;
        versions_are = ap (λ (n : Kept). n.versions) e;
      })
  takes_one k next qs (Streams region branch at i e none) = inl none
  takes_one k next qs (GoesDown e none) = inl none
  takes_one k next qs (ComesUp e none) = inl none

-- a node that takes a point acts on nothing: it had acted on all that it knew to be committed
acts_not : (step : Stepped) → step.node.log.acted ≡ step.node.log.raft.view → kept (end_step step).node ≡ kept step.node
acts_not step caught =
    let log : LogState = step.node.log in
    let none : viewed log ≡ None = ap (λ b. cond b None (Some (record { first = log.acted + 1; results = results log }))) (eq-eqb log.acted log.raft.view caught) in
    ends_kept step ∙ ap (λ (o : Option Viewed). kept (act_on step o).node) none

pub taking_still : (s : NodeState) (input : Input) (b : Option Brought) (q : Point) → s.log.acted ≡ s.log.raft.view → points_of input (input_row s input b).outs ≡ q ∷ []
    → kept (end_step (input_row s input b)).node ≡ kept (input_row s input b).node
taking_still s (Request op key what) b q caught e = acts_not (input_row s (Request op key what) b) caught
taking_still s (GiveUp op) b q caught e = absurd (cc e)
taking_still s (See other up) b q caught e = absurd (cc e)
taking_still s Tick b q caught e = absurd (cc e)
taking_still s (Deliver number) b q caught e = absurd (cc e)
taking_still s Crash b q caught e = absurd (cc e)
taking_still s Restart b q caught e = absurd (cc e)

-- ---- the last of some points, or one before it

data Place (xs : List Point) (r : Point) (first : List Point) (q : Point) : Type 0 where
  Last : xs ≡ first → r ≡ q → Place xs r first q
  Before : (later : List Point) → xs ≡ first ++ q ∷ later → Place xs r first q

head_is : (x y : Point) (xs ys : List Point) → x ∷ xs ≡ y ∷ ys → x ≡ y
head_is x y xs ys e = cc

tail_is : (x y : Point) (xs ys : List Point) → x ∷ xs ≡ y ∷ ys → xs ≡ ys
tail_is x y xs ys e = cc

never_empty : (first : List Point) (q : Point) (later : List Point) → [] ≡ first ++ q ∷ later → ⊥
never_empty [] q later e = absurd (cc e)
never_empty (f ∷ first) q later e = absurd (cc e)

place : (xs : List Point) (r : Point) (first : List Point) (q : Point) (later : List Point) → xs ++ r ∷ [] ≡ first ++ q ∷ later → Place xs r first q
place [] r [] q later e = Last refl (head_is r q [] later e)
place [] r (f ∷ first) q later e = absurd (never_empty first q later (tail_is r f [] (first ++ q ∷ later) e))
place (x ∷ xs) r [] q later e = Before xs (ap (λ (y : Point). y ∷ xs) (head_is x q (xs ++ r ∷ []) later e))
place (x ∷ xs) r (f ∷ first) q later e =
    let same : x ≡ f = head_is x f (xs ++ r ∷ []) (first ++ q ∷ later) e in
    elim (place xs r first q later (tail_is x f (xs ++ r ∷ []) (first ++ q ∷ later) e)) [
      | Last is at ↦ Last (λ i. same i ∷ is i) at
      | Before rest is ↦ Before rest (λ i. same i ∷ is i)
    ]

-- ---- the moment

pub record Taken (setup : SetupState) (past : List Entry) (first : List Point) (q : Point) (p : ℕ) : Type 0 where
  pub moment : List Entry
  pub earlier : IsEarlier past moment
  pub points_are : points moment ≡ first ++ q ∷ []
  pub version_is : value_at (state setup p moment).versions.pieces (hash_of q.key setup.hashes) q.key ≡ Some (point q.branch q.timestamp)

one_more : (setup : SetupState) (past : List Entry) (e : Entry) (first : List Point) (q : Point) (p : ℕ) → Taken setup past first q p → Taken setup (e ∷ past) first q p
one_more setup past e first q p t =
    record {
      moment = t.moment;
      earlier = record { later = e ∷ t.earlier.later; is = ap (λ (l : List Entry). e ∷ l) t.earlier.is };
      points_are = t.points_are;
      version_is = t.version_is;
    }

-- of the point that an entry takes
module _ (setup : SetupState) (ok : IsSetup setup) (past : List Entry) (e : Entry) (run : IsRun setup (e ∷ past)) where
  abbrev n : ℕ
  n = e.node.0

  abbrev s : NodeState
  s = state setup n past

  abbrev step : Stepped
  step = input_row s e.input (brought past e.input)

  pub points_are : points_of e.input e.outputs ≡ points_of e.input step.outs
  points_are = ap (points_of e.input) run.0.outputs ∙ end_points_of e.input step

  row : Done (node_id n) setup.hashes (first_contracts 0 setup.shards) (kept s) (kept step.node) (points_of e.input step.outs)
  row =
      let roles = run_roles setup ok past run.1 n in
      row_is setup n s e.input (brought past e.input) roles.me_is roles.of (contracts_stay setup ok past run.1 n)

  pub entry_takes : (points_of e.input step.outs ≡ []) ⊎ Takes setup.hashes (kept s) (kept step.node) (points_of e.input step.outs)
  entry_takes = takes_one (node_id n) setup.hashes (first_contracts 0 setup.shards) (kept s) (kept step.node) (points_of e.input step.outs) row

  pub taken_now : (t : Takes setup.hashes (kept s) (kept step.node) (points_of e.input step.outs)) (shard : ShardConfig) → IsIn setup.shards shard
      → in_region shard.region (hash_of t.q.key setup.hashes) t.q.key ≡ true → hash_of t.q.key setup.hashes < setup.hashes
      → value_at (state setup shard.primary.0 (e ∷ past)).versions.pieces (hash_of t.q.key setup.hashes) t.q.key ≡ Some (point t.q.branch t.q.timestamp)
  taken_now t shard i inside within =
      let p : ℕ = shard.primary.0 in
      let g : ℕ = hash_of t.q.key setup.hashes in
      let roles = (run_roles setup ok past run.1 n).roles in
      let led : IsLed setup n (kept s).life t.x = all_at (IsLed setup n (kept s).life) (kept s).leads roles.leads t.x t.is_in in
      let who : p ≡ n = holder_is setup ok shard i g t.q.key inside t.x.contract n led.contract t.has led.held in
      let before : LedAt setup past t.q.key p = led_at setup ok shard i t.q.key inside past run.1 in
      let x_in : IsIn (kept (state setup p past)).leads t.x = subst (λ m. IsIn (kept (state setup m past)).leads t.x) (sym who) t.is_in in
      let stood : value_at (state setup p past).versions.pieces g t.q.key ≡ Some (point t.x.branch t.x.last) =
      before.led.version_is ∙ ap Some (before.led.stands t.x x_in t.has) in
      let hashes = roles.hashes_are in
      let moved : value_at (kept step.node).versions.pieces g t.q.key ≡ Some (point t.x.branch (t.x.last + 1)) =
      ap (λ (m : Pieced Version). value_at m.pieces g t.q.key) t.versions_are
      ∙ advanced_inside t.x.contract.region t.x.branch t.x.last s.versions g t.q.key (omega (arith, within, hashes)) t.has
      (subst (λ m. value_at (state setup m past).versions.pieces g t.q.key ≡ Some (point t.x.branch t.x.last)) who stood) in
      let here : state setup n (e ∷ past) ≡ (end_step step).node = ap (λ b. cond b (moving setup past e n) (state setup n past)) (eq-eqb n n refl) in
      let after : kept (state setup n (e ∷ past)) ≡ kept step.node =
      ap kept here ∙ taking_still s e.input (brought past e.input) t.q ((run_facts setup past run.1).caught n) t.these in
      ap (λ m. value_at (state setup m (e ∷ past)).versions.pieces g t.q.key) who
      ∙ ap (λ (k : Kept). value_at k.versions.pieces g t.q.key) after ∙ moved
      ∙ (λ j. Some (point (sym t.branch_is j) (sym t.timestamp_is j)))

-- of each point of a run
pub taken : (setup : SetupState) → IsSetup setup → (past : List Entry) → IsRun setup past → (first later : List Point) (q : Point) → points past ≡ first ++ q ∷ later → (shard : ShardConfig) → IsIn setup.shards shard
    → in_region shard.region (hash_of q.key setup.hashes) q.key ≡ true → hash_of q.key setup.hashes < setup.hashes → Taken setup past first q shard.primary.0
taken setup ok [] run first later q is shard i inside within = absurd (never_empty first q later is)
taken setup ok (e ∷ past) run first later q is shard i inside within =
    let n : ℕ = e.node.0 in
    let step : Stepped = input_row (state setup n past) e.input (brought past e.input) in
    let split : points past ++ points_of e.input step.outs ≡ first ++ q ∷ later = ap (λ (l : List Point). points past ++ l) (sym (points_are setup ok past e run)) ∙ is in
    elim (entry_takes setup ok past e run) [
      | inl none ↦
          one_more setup past e first q shard.primary.0
          (taken setup ok past run.1 first later q (sym (append-nil (points past)) ∙ ap (λ (l : List Point). points past ++ l) (sym none) ∙ split) shard i inside within)
      | inr t ↦ elim (place (points past) t.q first q later (ap (λ (l : List Point). points past ++ l) (sym t.these) ∙ split)) [
        | Before rest at ↦ one_more setup past e first q shard.primary.0 (taken setup ok past run.1 first rest q at shard i inside within)
        | Last at same ↦ record {
          moment = e ∷ past;
          earlier = record { later = []; is = refl };
          points_are =
              ap (λ (l : List Point). points past ++ l) (points_are setup ok past e run ∙ t.these)
              ∙ (λ j. at j ++ same j ∷ []);
          version_is =
              subst (λ (r : Point). value_at (state setup shard.primary.0 (e ∷ past)).versions.pieces (hash_of r.key setup.hashes) r.key ≡ Some (point r.branch r.timestamp)) same
              (taken_now setup ok past e run t shard i
              (subst (λ (r : Point). in_region shard.region (hash_of r.key setup.hashes) r.key ≡ true) (sym same) inside)
              (subst (λ (r : Point). hash_of r.key setup.hashes < setup.hashes) (sym same) within));
        }
      ]
    ]
