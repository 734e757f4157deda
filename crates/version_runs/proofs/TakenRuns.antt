-- In every run a branch's maker alone takes its timestamps, syncs too, and they rise.
use Rattle.std.proofs.Common.{◌≡◌, ◌⊎◌, ℕ, ◌+◌, ◌≤◌, ◌<◌, ◌==◌, cond, List, [], ◌∷◌, ◌++◌, Option, Some, None, inl, inr, refl, sym, ap, ◌∙◌, subst, arith}
use Rattle.std.proofs.lemmas.Bool.{eqb-true, eq-eqb, cases_Bool, both_ways}
use Rattle.path_runs.specs.runs.region_map.declared.id.Id.{Id}
use Rattle.path_runs.specs.runs.region_map.Nodes.{node_id}
use Rattle.path_runs.specs.runs.region_map.Maps.{Pieced}
use Rattle.path_runs.specs.runs.branch_history.declared.version.Version.{Version}
use Rattle.path_runs.specs.runs.register_laws.declared.operation.OpId.{OpId}
use Rattle.path_runs.specs.runs.register_laws.declared.operation.Op.{Op}
use Rattle.path_runs.specs.runs.contract_types.Setup.{SetupState, IsSetup}
use Rattle.path_runs.specs.runs.table_log.Logs.{viewed}
use Rattle.path_runs.specs.runs.exec_types.declared.message.SessionName.{SessionName}
use Rattle.path_runs.specs.runs.exec_types.declared.input.Input.{Input}
use Rattle.path_runs.specs.runs.exec_types.declared.input.Input.TheVariants.{Request}
use Rattle.path_runs.specs.runs.exec_types.declared.output.Output.{Output}
use Rattle.path_runs.specs.runs.exec_types.declared.output.Output.TheVariants.{Message, Dispatched, Viewed, Answer}
use Rattle.path_runs.specs.runs.primary_exec.declared.asking.Asking.{Asking}
use Rattle.path_runs.specs.runs.primary_exec.Execution.{Execution}
use Rattle.path_runs.specs.runs.node_core.declared.node.Brought.{Brought}
use Rattle.path_runs.specs.runs.node_core.declared.journal.Entry.{Entry}
use Rattle.path_runs.specs.runs.node_core.Step.{NodeState, Stepped, input_row, node_step}
use Rattle.path_runs.specs.runs.Run.{brought, state, IsRun}
use Rattle.path_runs.specs.runs.Story.{Point, IsIn, points, points_in, points_of}
use Rattle.path_runs.proofs.runs.list_laws.Members.{IsIn-right, all_member}
use Rattle.path_runs.proofs.change_runs.LedHistories.{some_inner}
use Rattle.path_runs.proofs.log_runs.LogWorldRuns.{moving}
use Rattle.path_runs.proofs.lead_runs.LedRuns.{act_life, lives_grow, earlier_run}
use Rattle.path_runs.proofs.lead_runs.LedAsked.{IsOwn}
use Rattle.path_runs.proofs.step_runs.PointBranches.{times, heads_of, branches, asked_of, held, IsHeadOf, IsUnused, IsHeld}
use Rattle.path_runs.proofs.step_runs.PointRuns.{points_rise}
use Rattle.version_runs.specs.Takings.{HasSync, Takes, Dispatches, Syncs, IsTaken}
use Rattle.version_runs.proofs.Executions.{row_asks, step_asks, step_there}
use Rattle.version_runs.proofs.Heads.{head_at, asked_at, counted, asked_counted, one_execution}
use Rattle.version_runs.proofs.Outputs.{OutFits, MayFollow, step_fit}

-- ---- a point that a step tells of

told_point : (what : Op) (outs : List Output) (op : OpId) (key : List ℕ) (branch : Id) (timestamp : ℕ) → IsIn outs (Dispatched op key branch timestamp)
    → IsIn (points_in what outs) (record { op = op; what = what; key = key; branch = branch; timestamp = timestamp })
told_point what [] op key branch timestamp i = absurd i
told_point what (Message to message ∷ outs) op key branch timestamp i = elim i [ inl e ↦ absurd (cc e) | inr j ↦ told_point what outs op key branch timestamp j ]
told_point what (Dispatched q k b t ∷ outs) op key branch timestamp i =
    elim i [
      | inl e ↦
          let ops : q ≡ op = cc in
          let keys : k ≡ key = cc in
          let branches : b ≡ branch = cc in
          let timestamps : t ≡ timestamp = cc in
          inl (λ j. record { op = ops j; what = what; key = keys j; branch = branches j; timestamp = timestamps j })
      | inr j ↦ inr (told_point what outs op key branch timestamp j)
    ]
told_point what (Viewed first results ∷ outs) op key branch timestamp i = elim i [ inl e ↦ absurd (cc e) | inr j ↦ told_point what outs op key branch timestamp j ]
told_point what (Answer q outcome ∷ outs) op key branch timestamp i = elim i [ inl e ↦ absurd (cc e) | inr j ↦ told_point what outs op key branch timestamp j ]

-- an execution that was there takes its next timestamp for the operation of a request
record Serves (xs : List Execution) (input : Input) (branch : Id) (at : ℕ) : Type 0 where
  x : Execution
  is_in : IsIn xs x
  branch_is : x.branch ≡ branch
  at_is : at ≡ x.last + 1
  op : OpId
  key : List ℕ
  what : Op
  input_is : input ≡ Request op key what

dispatched_at : (s : NodeState) (input : Input) (b : Option Brought) (op : OpId) (key : List ℕ) (branch : Id) (at : ℕ)
    → IsIn (node_step s input b).outs (Dispatched op key branch at) → Serves s.executions input branch at
dispatched_at s input b op key branch at i =
    let S : SessionName → Option ℕ → Type 0 = λ _ _. Unit {0} in
    let M : Pieced Version → Type 0 = λ _. Unit {0} in
    let D : OpId → List ℕ → Id → ℕ → Type 0 = λ _ _ c t. Serves s.executions input c t in
    all_member (OutFits S M D) (node_step s input b).outs
    (step_fit S M D s input b (record {
      maps = λ r. tt;
      stand = λ f j. tt;
      next = nothing_followed_by s.followings b;
      points = λ o k what is x j _. (record { x = x; is_in = j; branch_is = refl; at_is = refl; op = o; key = k; what = what; input_is = is }, λ t l. tt);
    })) (Dispatched op key branch at) i
  where
    nothing_followed_by : (fs : List _) (c : Option Brought) → MayFollow (λ _ _. Unit {0}) (λ _. Unit {0}) (λ _ _ d t. Serves s.executions input d t) fs c
    nothing_followed_by fs None = tt
    nothing_followed_by fs (Some c) = λ f j stream e ours. tt

-- ---- what was taken

taken_then : (setup : SetupState) (between past : List Entry) (branch : Id) (at : ℕ) → IsTaken setup past branch at → IsTaken setup (between ++ past) branch at
taken_then setup [] past branch at t = t
taken_then setup (e ∷ between) past branch at t = inr (taken_then setup between past branch at t)

-- no execution stands below what was taken of its branch, none was taken of a branch that is asked for, and each was taken
-- in a life that the branch's maker has had
record TakenFacts (setup : SetupState) (past : List Entry) : Type 0 where
  below : (n : ℕ) (x : Execution) → IsIn (state setup n past).executions x → (at : ℕ) → IsTaken setup past x.branch at → at ≤ x.last
  unused : (n : ℕ) (a : Asking) → IsIn (state setup n past).asking a → (at : ℕ) → IsTaken setup past a.branch at → ⊥
  lives : (branch : Id) (at : ℕ) → IsTaken setup past branch at → branch.life ≤ (state setup branch.node.0 past).life

-- ---- an entry

module _ (setup : SetupState) (past : List Entry) (e : Entry) (run : IsRun setup (e ∷ past)) where
  abbrev n : ℕ
  n = e.node.0

  abbrev s : NodeState
  s = state setup n past

  abbrev pub after : NodeState
  after = (node_step s e.input (brought past e.input)).node

  pub after_is : state setup n (e ∷ past) ≡ after
  after_is = ap (λ b. cond b (moving setup past e n) (state setup n past)) (eq-eqb n n refl)

  pub other_is : (m : ℕ) → (n ≡ m → ⊥) → state setup m (e ∷ past) ≡ state setup m past
  other_is m apart =
      elim (cases_Bool (n == m)) [
        | inl same ↦ absurd (apart (eqb-true n m same))
        | inr other ↦ ap (λ b. cond b (moving setup past e m) (state setup m past)) other
      ]

  before_held : IsHeld n (points past) (held s)
  before_held = (points_rise setup past run.1).1 n

  after_held : IsHeld n (points (e ∷ past)) (held after)
  after_held = subst (λ (t : NodeState). IsHeld n (points (e ∷ past)) (held t)) after_is ((points_rise setup (e ∷ past) run).1 n)

  pub own_after : (y : Execution) → IsIn after.executions y → IsOwn n after.life y.branch
  own_after y i =
      let h = head_at (IsHeadOf n after.life (points (e ∷ past))) after.executions y after_held.heads_are i in
      record { node_is = h.node_is; life_is = h.life_is }

  own_before : (x : Execution) → IsIn s.executions x → IsOwn n s.life x.branch
  own_before x i =
      let h = head_at (IsHeadOf n s.life (points past)) s.executions x before_held.heads_are i in
      record { node_is = h.node_is; life_is = h.life_is }

  one_after : (y z : Execution) → IsIn after.executions y → IsIn after.executions z → y.branch ≡ z.branch → y ≡ z
  one_after y z i j same =
      let few = after_held.once z.branch in
      one_execution after.executions z.branch (omega (arith, few)) y z i j same refl

  one_before : (x z : Execution) → IsIn s.executions x → IsIn s.executions z → x.branch ≡ z.branch → x ≡ z
  one_before x z i j same =
      let few = before_held.once z.branch in
      one_execution s.executions z.branch (omega (arith, few)) x z i j same refl

  -- what starts asked in the present life, and had no execution
  pub never_both : (x : Execution) → IsIn s.executions x → (a : Asking) → IsIn s.asking a ⊎ (a.branch.life ≡ s.life + 1) → a.branch ≡ x.branch → ⊥
  never_both x i a (inl j) same =
      let few = before_held.once x.branch in
      let some = counted s.executions x i in
      let more = subst (λ (c : Id). 1 ≤ times (asked_of s.asking) c) same (asked_counted s.asking a j) in
      omega (arith, few, some, more)
  never_both x i a (inr later) same =
      let own = (own_before x i).life_is in
      let lives : a.branch.life ≡ x.branch.life = ap (λ (c : Id). c.life) same in
      omega (arith, own, lives, later)

  -- what an entry takes
  data Taking (branch : Id) (at : ℕ) : Type 0 where
    Serving : Serves s.executions e.input branch at → (p : Point) → IsIn (points (e ∷ past)) p → p.branch ≡ branch → p.timestamp ≡ at → Taking branch at
    Starting : (y : Execution) → IsIn after.executions y → y.branch ≡ branch → y.last ≡ at → (a : Asking) → IsIn s.asking a ⊎ (a.branch.life ≡ s.life + 1) → a.branch ≡ branch → Taking branch at

  point_of : (input : Input) (outs : List Output) (op q : OpId) (key k : List ℕ) (what : Op) (branch : Id) (at : ℕ) → input ≡ Request q k what → IsIn outs (Dispatched op key branch at)
      → IsIn (points_of input outs) (record { op = op; what = what; key = key; branch = branch; timestamp = at })
  point_of input outs op q key k what branch at is i =
      subst (λ (v : Input). IsIn (points_of v outs) (record { op = op; what = what; key = key; branch = branch; timestamp = at })) (sym is) (told_point what outs op key branch at i)

  taking : (branch : Id) (at : ℕ) → Takes setup past e branch at → Taking branch at
  taking branch at (Dispatches op key i) =
      let d = dispatched_at s e.input (brought past e.input) op key branch at (subst (λ (outs : List Output). IsIn outs (Dispatched op key branch at)) run.0.outputs i) in
      Serving d (record { op = op; what = d.what; key = key; branch = branch; timestamp = at })
      (IsIn-right (points past) (points_of e.input e.outputs) _ (point_of e.input e.outputs op d.op key d.key d.what branch at d.input_is i)) refl refl
  taking branch at (Syncs now before) =
      let h : HasSync after branch at = subst (λ (t : NodeState). HasSync t branch at) after_is now in
      elim (step_there s e.input (brought past e.input) h.execution h.is_in) [
        | inl w ↦ absurd (before (record {
          execution = w.x;
          is_in = w.is_in;
          branch_is = w.goes.branch_is ∙ h.branch_is;
          sync_is = w.goes.sync_is ∙ h.sync_is;
        }))
        | inr r ↦
            Starting h.execution h.is_in h.branch_is (r.last_is ∙ some_inner (r.initial + 1) at (sym r.sync_is ∙ h.sync_is)) r.a
            (row_asks s e.input (brought past e.input) r.a r.is_in) (r.branch_is ∙ h.branch_is)
      ]

  -- executions of its branch stand there or above
  reached : (branch : Id) (at : ℕ) → Taking branch at → (y : Execution) → IsIn after.executions y → y.branch ≡ branch → at ≤ y.last
  reached branch at (Serving d p i of time) y j same =
      let h = head_at (IsHeadOf n after.life (points (e ∷ past))) after.executions y after_held.heads_are j in
      let low = h.above p i (of ∙ sym same) in
      omega (arith, low, time)
  reached branch at (Starting z i of last a asked b) y j same =
      let is : y ≡ z = one_after y z j i (same ∙ sym of) in
      let lasts : y.last ≡ z.last = ap (λ (x : Execution). x.last) is in
      omega (arith, lasts, last)

  own_of : (branch : Id) (at : ℕ) → Taking branch at → IsOwn n after.life branch
  own_of branch at (Serving d p i of time) =
      let own = subst (λ (c : Id). IsOwn n s.life c) d.branch_is (own_before d.x d.is_in) in
      let stays : s.life ≡ after.life = served_life d.op d.key d.what d.input_is in
      record { node_is = own.node_is; life_is = own.life_is ∙ stays }
    where
      served_life : (op : OpId) (key : List ℕ) (what : Op) → e.input ≡ Request op key what → s.life ≡ after.life
      served_life op key what is =
          let step : Stepped = input_row s e.input (brought past e.input) in
          subst (λ (v : Input). s.life ≡ (input_row s v (brought past e.input)).node.life) (sym is) refl ∙ sym (act_life step (viewed step.node.log))
  own_of branch at (Starting z i of last a asked b) = subst (λ (c : Id). IsOwn n after.life c) of (own_after z i)

  -- an execution that takes one, and none that asks for its branch
  asked_not : (branch : Id) (at : ℕ) → Taking branch at → (a : Asking) → IsIn after.asking a → a.branch ≡ branch → ⊥
  asked_not branch at (Serving d p i of time) a j same =
      let u = asked_at (IsUnused n after.life (points (e ∷ past))) after.asking a after_held.asked_are j in
      u.unused p i (of ∙ sym same)
  asked_not branch at (Starting z i of last b asked c) a j same =
      let few = after_held.once branch in
      let some = subst (λ (c : Id). 1 ≤ times (branches (heads_of after.executions)) c) of (counted after.executions z i) in
      let more = subst (λ (c : Id). 1 ≤ times (asked_of after.asking) c) same (asked_counted after.asking a j) in
      omega (arith, few, some, more)

  -- a step takes one timestamp of a branch
  one_taking : (branch : Id) (first second : ℕ) → Taking branch first → Taking branch second → first ≡ second
  one_taking branch first second (Serving d p i of time) (Serving f q j by at) =
      let is : d.x ≡ f.x = one_before d.x f.x d.is_in f.is_in (d.branch_is ∙ sym f.branch_is) in
      d.at_is ∙ ap (λ (x : Execution). x.last + 1) is ∙ sym f.at_is
  one_taking branch first second (Serving d p i of time) (Starting z j by last a asked b) = absurd (never_both d.x d.is_in a asked (b ∙ sym d.branch_is))
  one_taking branch first second (Starting z i of last a asked b) (Serving d p j by time) = absurd (never_both d.x d.is_in a asked (b ∙ sym d.branch_is))
  one_taking branch first second (Starting z i of last a asked b) (Starting y j by more c asks d) =
      sym last ∙ ap (λ (x : Execution). x.last) (one_after z y i j (of ∙ sym by)) ∙ more

  module _ (f : TakenFacts setup past) where
    -- nothing was taken of what starts
    fresh : (a : Asking) → IsIn s.asking a ⊎ (a.branch.life ≡ s.life + 1) → a.branch.node.0 ≡ n → (at : ℕ) → IsTaken setup past a.branch at → ⊥
    fresh a (inl i) own at t = f.unused n a i at t
    fresh a (inr later) own at t =
        let old = f.lives a.branch at t in
        let here : (state setup a.branch.node.0 past).life ≡ s.life = ap (λ m. (state setup m past).life) own in
        omega (arith, old, here, later)

    -- what is taken lies above all that was
    above : (branch : Id) (at : ℕ) → Taking branch at → (old : ℕ) → IsTaken setup past branch old → old < at
    above branch at (Serving d p i of time) old t =
        let low = f.below n d.x d.is_in old (subst (λ (c : Id). IsTaken setup past c old) (sym d.branch_is) t) in
        let next = d.at_is in
        omega (arith, low, next)
    above branch at (Starting z i of last a asked b) old t =
        absurd (fresh a asked (ap (λ (c : Id). c.node.0) (b ∙ sym of) ∙ (own_after z i).node_is) old (subst (λ (c : Id). IsTaken setup past c old) (sym b) t))

    below_here : (y : Execution) → IsIn after.executions y → (at : ℕ) → IsTaken setup (e ∷ past) y.branch at → at ≤ y.last
    below_here y i at (inl now) = reached y.branch at (taking y.branch at now) y i refl
    below_here y i at (inr old) =
        elim (step_there s e.input (brought past e.input) y i) [
          | inl w ↦
              let low = f.below n w.x w.is_in at (subst (λ (c : Id). IsTaken setup past c at) (sym w.goes.branch_is) old) in
              let more = w.goes.grows in
              omega (arith, low, more)
          | inr r ↦
              absurd (fresh r.a (row_asks s e.input (brought past e.input) r.a r.is_in) (ap (λ (c : Id). c.node.0) r.branch_is ∙ (own_after y i).node_is) at
              (subst (λ (c : Id). IsTaken setup past c at) (sym r.branch_is) old))
        ]

    unused_here : (a : Asking) → IsIn after.asking a → (at : ℕ) → IsTaken setup (e ∷ past) a.branch at → ⊥
    unused_here a i at (inl now) = asked_not a.branch at (taking a.branch at now) a i refl
    unused_here a i at (inr old) =
        let u = asked_at (IsUnused n after.life (points (e ∷ past))) after.asking a after_held.asked_are i in
        fresh a (step_asks s e.input (brought past e.input) a i) u.node_is at old

    -- another node's branches are not touched
    other_below : (m : ℕ) → (n ≡ m → ⊥) → (x : Execution) → IsIn (state setup m past).executions x → (at : ℕ) → IsTaken setup (e ∷ past) x.branch at → at ≤ x.last
    other_below m apart x i at (inl now) =
        let h = head_at (IsHeadOf m (state setup m past).life (points past)) (state setup m past).executions x ((points_rise setup past run.1).1 m).heads_are i in
        absurd (apart (sym (own_of x.branch at (taking x.branch at now)).node_is ∙ h.node_is))
    other_below m apart x i at (inr old) = f.below m x i at old

    other_unused : (m : ℕ) → (n ≡ m → ⊥) → (a : Asking) → IsIn (state setup m past).asking a → (at : ℕ) → IsTaken setup (e ∷ past) a.branch at → ⊥
    other_unused m apart a i at (inl now) =
        let u = asked_at (IsUnused m (state setup m past).life (points past)) (state setup m past).asking a ((points_rise setup past run.1).1 m).asked_are i in
        apart (sym (own_of a.branch at (taking a.branch at now)).node_is ∙ u.node_is)
    other_unused m apart a i at (inr old) = f.unused m a i at old

    lives_next : (branch : Id) (at : ℕ) → IsTaken setup (e ∷ past) branch at → branch.life ≤ (state setup branch.node.0 (e ∷ past)).life
    lives_next branch at (inl now) =
        let own = own_of branch at (taking branch at now) in
        let life = own.life_is in
        let here : (state setup branch.node.0 (e ∷ past)).life ≡ after.life = ap (λ m. (state setup m (e ∷ past)).life) own.node_is ∙ ap (λ (t : NodeState). t.life) after_is in
        omega (arith, life, here)
    lives_next branch at (inr old) =
        let low = f.lives branch at old in
        let more = lives_grow setup (e ∷ past) past (record { later = e ∷ []; is = refl }) branch.node.0 in
        omega (arith, low, more)

    facts_next : TakenFacts setup (e ∷ past)
    facts_next =
        record {
          below = λ m.
              elim (cases_Bool (n == m)) [
                | inl same ↦ λ x i at t.
                    below_here x (subst (λ (v : NodeState). IsIn v.executions x) (ap (λ k. state setup k (e ∷ past)) (sym (eqb-true n m same)) ∙ after_is) i) at t
                | inr other ↦ λ x i at t.
                    let apart : n ≡ m → ⊥ = λ is. both_ways _ other (eq-eqb n m is) in
                    other_below m apart x (subst (λ (v : NodeState). IsIn v.executions x) (other_is m apart) i) at t
              ];
          unused = λ m.
              elim (cases_Bool (n == m)) [
                | inl same ↦ λ a i at t.
                    unused_here a (subst (λ (v : NodeState). IsIn v.asking a) (ap (λ k. state setup k (e ∷ past)) (sym (eqb-true n m same)) ∙ after_is) i) at t
                | inr other ↦ λ a i at t.
                    let apart : n ≡ m → ⊥ = λ is. both_ways _ other (eq-eqb n m is) in
                    other_unused m apart a (subst (λ (v : NodeState). IsIn v.asking a) (other_is m apart) i) at t
              ];
          lives = lives_next;
        }

-- ---- every run

taken_facts : (setup : SetupState) (past : List Entry) → IsRun setup past → TakenFacts setup past
taken_facts setup [] run = record { below = λ n x i at t. absurd t; unused = λ n a i at t. t; lives = λ b at t. absurd t }
taken_facts setup (e ∷ past) run = facts_next setup past e run (taken_facts setup past run.1)

-- ---- the laws

module _ (setup : SetupState) (past : List Entry) (run : IsRun setup past) (later earlier : List Entry) (e : Entry) (is : past ≡ later ++ e ∷ earlier) where
  then : IsRun setup (e ∷ earlier)
  then = earlier_run setup past (e ∷ earlier) run (record { later = later; is = is })

  own_then : (branch : Id) (at : ℕ) → Takes setup earlier e branch at → IsOwn e.node.0 (after setup earlier e then).life branch
  own_then branch at t = own_of setup earlier e then branch at (taking setup earlier e then branch at t)

pub taker_is : (setup : SetupState) → IsSetup setup → (past : List Entry) → IsRun setup past → (later earlier : List Entry) (e : Entry) → past ≡ later ++ e ∷ earlier
    → (branch : Id) (at : ℕ) → Takes setup earlier e branch at → branch.node ≡ e.node
taker_is setup ok past run later earlier e is branch at t = ap node_id (own_then setup past run later earlier e is branch at t).node_is

pub taken_in : (setup : SetupState) → IsSetup setup → (past : List Entry) → IsRun setup past → (later earlier : List Entry) (e : Entry) → past ≡ later ++ e ∷ earlier
    → (branch : Id) (at : ℕ) → Takes setup earlier e branch at → branch.life ≡ (state setup e.node.0 (e ∷ earlier)).life
taken_in setup ok past run later earlier e is branch at t =
    (own_then setup past run later earlier e is branch at t).life_is
    ∙ ap (λ (v : NodeState). v.life) (sym (after_is setup earlier e (then setup past run later earlier e is)))

pub taken_rise : (setup : SetupState) → IsSetup setup → (past : List Entry) → IsRun setup past → (later between earlier : List Entry) (e d : Entry) → past ≡ later ++ e ∷ (between ++ d ∷ earlier)
    → (branch : Id) (first second : ℕ) → Takes setup earlier d branch first → Takes setup (between ++ d ∷ earlier) e branch second → first < second
taken_rise setup ok past run later between earlier e d is branch first second one two =
    let before : List Entry = between ++ d ∷ earlier in
    let now : IsRun setup (e ∷ before) = then setup past run later before e is in
    above setup before e now (taken_facts setup before now.1) branch second (taking setup before e now branch second two) first
    (taken_then setup between (d ∷ earlier) branch first (inl one))

pub taken_once : (setup : SetupState) → IsSetup setup → (past : List Entry) → IsRun setup past → (later earlier : List Entry) (e : Entry) → past ≡ later ++ e ∷ earlier
    → (branch : Id) (first second : ℕ) → Takes setup earlier e branch first → Takes setup earlier e branch second → first ≡ second
taken_once setup ok past run later earlier e is branch first second one two =
    let now : IsRun setup (e ∷ earlier) = then setup past run later earlier e is in
    one_taking setup earlier e now branch first second (taking setup earlier e now branch first one) (taking setup earlier e now branch second two)
