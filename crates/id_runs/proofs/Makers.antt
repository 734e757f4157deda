-- Which node takes the points of a branch, and in which of its lives.
use Rattle.std.proofs.Common.{◌≡◌, ℕ, List, [], ◌∷◌, ◌++◌, Option, Some, None, inl, inr, refl, sym, ap, ◌∙◌, subst}
use Rattle.std.proofs.lemmas.Bool.{cond_both}
use Rattle.std.specs.List.{flat_map}
use Rattle.lead_runs.specs.runs.region_map.declared.id.Id.{Id}
use Rattle.lead_runs.specs.runs.region_map.declared.id.NodeId.{NodeId}
use Rattle.lead_runs.specs.runs.region_map.Nodes.{node_id, has}
use Rattle.lead_runs.specs.runs.region_map.Maps.{Pieced}
use Rattle.lead_runs.specs.runs.branch_history.declared.version.Version.{Version}
use Rattle.lead_runs.specs.runs.raft_vote.declared.message.RaftMessage.{RaftMessage}
use Rattle.lead_runs.specs.runs.register_laws.declared.operation.OpId.{OpId}
use Rattle.lead_runs.specs.runs.register_laws.declared.operation.Op.{Op}
use Rattle.lead_runs.specs.runs.register_laws.declared.operation.Op.TheVariants.{Read}
use Rattle.lead_runs.specs.runs.contract_types.declared.change.Change.{Change}
use Rattle.lead_runs.specs.runs.contract_types.declared.ack.Ack.{Ack}
use Rattle.lead_runs.specs.runs.contract_types.declared.contract.Contract.{Contract}
use Rattle.lead_runs.specs.runs.contract_types.declared.contract.Holder.{Holder}
use Rattle.lead_runs.specs.runs.contract_types.Setup.{SetupState, IsSetup}
use Rattle.lead_runs.specs.runs.raft_node.declared.input.RaftInput.TheVariants as raft
use Rattle.lead_runs.specs.runs.table_log.Logs.{LogStepped, table_of, log_step}
use Rattle.lead_runs.specs.runs.exec_types.declared.message.Message.{Message as Sent}
use Rattle.lead_runs.specs.runs.exec_types.declared.message.Message.TheVariants as message
use Rattle.lead_runs.specs.runs.exec_types.declared.message.Stream.{Stream}
use Rattle.lead_runs.specs.runs.exec_types.declared.input.Input.{Input}
use Rattle.lead_runs.specs.runs.exec_types.declared.input.Input.TheVariants.{Request, GiveUp, See, Tick, Deliver, Crash, Restart}
use Rattle.lead_runs.specs.runs.exec_types.declared.outcome.Outcome.TheVariants.{NoMajority}
use Rattle.lead_runs.specs.runs.exec_types.declared.output.Output.{Output}
use Rattle.lead_runs.specs.runs.exec_types.declared.output.Output.TheVariants.{Message, Dispatched, Viewed, Answer}
use Rattle.lead_runs.specs.runs.store_api.Rows.{Rows}
use Rattle.lead_runs.specs.runs.write_dispatch.declared.decided.Decided.{Decided}
use Rattle.lead_runs.specs.runs.write_dispatch.Dispatch.{Acks, is_decided, counts_of, pending_of}
use Rattle.lead_runs.specs.runs.primary_exec.Execution.{Execution, given_up, give_up_outs}
use Rattle.lead_runs.specs.runs.secondary_exec.declared.following.Following.{Following}
use Rattle.lead_runs.specs.runs.secondary_exec.Stream.{FollowingStep, is_ours, stream_row, acknowledgement}
use Rattle.lead_runs.specs.runs.node_core.declared.node.Brought.{Brought}
use Rattle.lead_runs.specs.runs.node_core.declared.journal.Entry.{Entry}
use Rattle.lead_runs.specs.runs.node_core.Parts.{Streamed, taken, left_alone, stream_all, give_up_all_outs}
use Rattle.lead_runs.specs.runs.node_core.Saying.{Roles, is_following_under, says_to, ack_under, acknowledgements_to, acknowledges, says_under, says_all}
use Rattle.lead_runs.specs.runs.node_core.Starting.{current_of}
use Rattle.lead_runs.specs.runs.node_core.Step.{NodeState, Stepped, silent, with_log, raft_outs, with_proposals, roles_of, says_now, tick_row, message_row, is_well_formed, brought_row, input_row, end_step}
use Rattle.lead_runs.specs.runs.Run.{state, brought, IsRun}
use Rattle.lead_runs.specs.runs.Story.{Point, IsIn, points_in, points_of}
use Rattle.lead_runs.proofs.step_runs.Outs.{points_in-append, stream_cases}
use Rattle.lead_runs.proofs.LedRuns.{earlier_run}
use Rattle.lead_runs.proofs.step_runs.EndPoints.{end_points}
use Rattle.lead_runs.proofs.LedAsked.{IsOwn, lead_own}
use Rattle.id_runs.proofs.TakenPoints.{entry_takes}

-- ---- outputs that take no point

abbrev TakesNone : List Output → Type 0
TakesNone outs = (what : Op) → points_in what outs ≡ []

none_both : (xs ys : List Output) → TakesNone xs → TakesNone ys → TakesNone (xs ++ ys)
none_both xs ys a b what = points_in-append what xs ys ∙ ap (λ (l : List Point). l ++ points_in what ys) (a what) ∙ b what

none_flat : {X : Type 0} (f : X → List Output) → ((x : X) → TakesNone (f x)) → (xs : List X) → TakesNone (flat_map f xs)
none_flat f each [] = λ what. refl
none_flat f each (x ∷ xs) = none_both (f x) (flat_map f xs) (each x) (none_flat f each xs)

none_raft : (sent : List (NodeId × RaftMessage Change)) → TakesNone (raft_outs sent)
none_raft [] what = refl
none_raft (x ∷ xs) what = none_raft xs what

none_given_up : (acks : Acks) (c : Contract) (me : ℕ) (op : OpId) (d : Option Decided) → TakesNone (given_up acks c me op d)
none_given_up acks c me op None = λ what. refl
none_given_up acks c me op (Some d) =
    cond_both (is_decided acks c me d.at) [] (Answer op (NoMajority (counts_of acks c me d.at)) ∷ []) TakesNone (λ _. λ what. refl) (λ _. λ what. refl)

none_give_up : (xs : List Execution) (op : OpId) → TakesNone (give_up_all_outs xs op)
none_give_up xs op = none_flat (λ (x : Execution). give_up_outs x op) (λ x. none_given_up x.dispatch.acks x.contract x.me.0 op (pending_of x.dispatch.waiting op)) xs

none_stream : (fs : List Following) (rows : Rows) (versions : Pieced Version) (from : NodeId) (stream : Stream) (view : ℕ) → TakesNone (stream_all fs rows versions from stream view).outs
none_stream [] rows versions from stream view = λ what. refl
none_stream (f ∷ fs) rows versions from stream view =
    cond_both (is_ours f from stream) (taken (stream_row f rows versions from stream view) fs) (left_alone f (stream_all fs rows versions from stream view)) (λ (r : Streamed). TakesNone r.outs)
    (λ _. stream_cases (λ (step : FollowingStep). TakesNone step.outs) f rows versions from stream view (λ what. refl) (λ what. refl) (λ what. refl))
    (λ _. none_stream fs rows versions from stream view)

none_says : (to : Option NodeId) (c : Contract) (ack : Option Ack) → TakesNone (says_to to c ack)
none_says None c ack what = refl
none_says (Some leader) c None what = refl
none_says (Some leader) c (Some ack) what = refl

none_acknowledgements : (c : Contract) (primary : NodeId) (view : ℕ) (fs : List Following) → TakesNone (acknowledgements_to c primary view fs)
none_acknowledgements c primary view [] = λ what. refl
none_acknowledgements c primary view (f ∷ fs) =
    cond_both (is_following_under c primary f) (acknowledgement f view ∷ acknowledgements_to c primary view fs) (acknowledgements_to c primary view fs) TakesNone
    (λ _. none_acknowledgements c primary view fs) (λ _. none_acknowledgements c primary view fs)

none_acknowledges : (c : Contract) (view : ℕ) (fs : List Following) (h : Option Holder) → TakesNone (acknowledges c view fs h)
none_acknowledges c view fs None = λ what. refl
none_acknowledges c view fs (Some h) = none_acknowledgements c h.server view fs

none_said : (me : NodeId) (leader : Option NodeId) (current : Pieced Id) (versions : Pieced Version) (view : ℕ) (r : Roles) (contracts : List Contract)
    → TakesNone (says_all me leader current versions view r contracts)
none_said me leader current versions view r contracts =
    none_flat (says_under me leader current versions view r)
    (λ c.
    let said = says_to leader c (ack_under me current versions r c c.primary) in
    let acks = acknowledges c view r.followings c.primary in
    cond_both (has c.replicas me.0) (said ++ acks) [] TakesNone
    (λ _. none_both said acks (none_says leader c (ack_under me current versions r c c.primary)) (none_acknowledges c view r.followings c.primary)) (λ _. λ what. refl))
    contracts

none_message : (s : NodeState) (from : NodeId) (m : Sent) → TakesNone (message_row s from m).outs
none_message s from (message.Raft m) = none_raft (log_step s.log (raft.Deliver from m)).sent
none_message s from (message.Say contract ack) = λ what. refl
none_message s from (message.Stream stream) = none_stream s.followings s.rows s.versions from stream s.log.acted
none_message s from (message.Got got) = λ what. refl

none_brought : (s : NodeState) (b : Option Brought) → TakesNone (brought_row s b).outs
none_brought s None = λ what. refl
none_brought s (Some b) =
    cond_both (is_well_formed s b) (message_row s b.from b.message) (silent s) (λ (step : Stepped). TakesNone step.outs) (λ _. none_message s b.from b.message) (λ _. λ what. refl)

none_tick : (s : NodeState) → TakesNone (tick_row s).outs
none_tick s =
    let t : NodeState = with_proposals s in
    let r : LogStepped = log_step t.log (raft.Tick t.unseen) in
    let u : NodeState = (with_log t r).node in
    none_both (raft_outs r.sent) (says_now u) (none_raft r.sent)
    (none_said u.me u.log.raft.votes.leader (current_of (table_of u.log)) u.versions u.log.acted (roles_of u) (table_of u.log).contracts)

-- ---- an output that tells of a point

told_point : (what : Op) (outs : List Output) (op : OpId) (key : List ℕ) (branch : Id) (timestamp : ℕ) → IsIn outs (Dispatched op key branch timestamp)
    → IsIn (points_in what outs) (record { op = op; what = what; key = key; branch = branch; timestamp = timestamp })
told_point what [] op key branch timestamp i = absurd i
told_point what (Message to message ∷ outs) op key branch timestamp i = elim i [ inl e ↦ absurd (cc e) | inr j ↦ told_point what outs op key branch timestamp j ]
told_point what (Dispatched q k b t ∷ outs) op key branch timestamp i =
    elim i [
      | inl e ↦
          let ops : q ≡ op = cc in
          let keys : k ≡ key = cc in
          let branches : b ≡ branch = cc in
          let timestamps : t ≡ timestamp = cc in
          inl (λ j. record { op = ops j; what = what; key = keys j; branch = branches j; timestamp = timestamps j })
      | inr j ↦ inr (told_point what outs op key branch timestamp j)
    ]
told_point what (Viewed first results ∷ outs) op key branch timestamp i = elim i [ inl e ↦ absurd (cc e) | inr j ↦ told_point what outs op key branch timestamp j ]
told_point what (Answer q outcome ∷ outs) op key branch timestamp i = elim i [ inl e ↦ absurd (cc e) | inr j ↦ told_point what outs op key branch timestamp j ]

-- the point that a step tells of is one that its row takes
record Tells (qs : List Point) (branch : Id) : Type 0 where
  q : Point
  is_in : IsIn qs q
  branch_is : q.branch ≡ branch

module _ (op : OpId) (key : List ℕ) (branch : Id) (timestamp : ℕ) where
  at_end : (what : Op) (step : Stepped) → IsIn (end_step step).outs (Dispatched op key branch timestamp) → Tells (points_in what step.outs) branch
  at_end what step i =
      record {
        q = record { op = op; what = what; key = key; branch = branch; timestamp = timestamp };
        is_in = subst (λ (l : List Point). IsIn l (record { op = op; what = what; key = key; branch = branch; timestamp = timestamp })) (end_points what step)
            (told_point what (end_step step).outs op key branch timestamp i);
        branch_is = refl;
      }

  never : (step : Stepped) → TakesNone step.outs → IsIn (end_step step).outs (Dispatched op key branch timestamp) → ⊥
  never step none i = let t = at_end Read step i in subst (λ (l : List Point). IsIn l t.q) (none Read) t.is_in

  row_tells : (s : NodeState) (input : Input) (b : Option Brought) → IsIn (end_step (input_row s input b)).outs (Dispatched op key branch timestamp)
      → Tells (points_of input (input_row s input b).outs) branch
  row_tells s (Request q k what) b i = at_end what (input_row s (Request q k what) b) i
  row_tells s (GiveUp q) b i = absurd (never (input_row s (GiveUp q) b) (none_give_up s.executions q) i)
  row_tells s (See other up) b i = absurd (never (input_row s (See other up) b) (λ what. refl) i)
  row_tells s Tick b i = absurd (never (tick_row s) (none_tick s) i)
  row_tells s (Deliver number) b i = absurd (never (brought_row s b) (none_brought s b) i)
  row_tells s Crash b i = absurd (never (input_row s Crash b) (λ what. refl) i)
  row_tells s Restart b i = absurd (never (input_row s Restart b) (λ what. refl) i)

-- ---- every run

made_by : (setup : SetupState) → IsSetup setup → (past : List Entry) (e : Entry) → IsRun setup (e ∷ past) → (op : OpId) (key : List ℕ) (branch : Id) (timestamp : ℕ)
    → IsIn e.outputs (Dispatched op key branch timestamp) → IsOwn e.node.0 (state setup e.node.0 past).life branch
made_by setup ok past e run op key branch timestamp i =
    let n : ℕ = e.node.0 in
    let s : NodeState = state setup n past in
    let step : Stepped = input_row s e.input (brought past e.input) in
    let t = row_tells op key branch timestamp s e.input (brought past e.input) (subst (λ (outs : List Output). IsIn outs (Dispatched op key branch timestamp)) run.0.outputs i) in
    elim (entry_takes setup ok past e run) [
      | inl none ↦ absurd (subst (λ (l : List Point). IsIn l t.q) none t.is_in)
      | inr m ↦
          let same : m.q ≡ t.q = elim (subst (λ (l : List Point). IsIn l t.q) m.these t.is_in) [ inl e ↦ e | inr no' ↦ absurd no' ] in
          let from : m.x.branch ≡ branch = sym m.branch_is ∙ ap (λ (q : Point). q.branch) same ∙ t.branch_is in
          subst (IsOwn n s.life) from (lead_own setup past run.1 n m.x m.is_in)
    ]

own_entry : (setup : SetupState) → IsSetup setup → (past : List Entry) → IsRun setup past → (later earlier : List Entry) (e : Entry) → past ≡ later ++ e ∷ earlier
    → (op : OpId) (key : List ℕ) (branch : Id) (timestamp : ℕ) → IsIn e.outputs (Dispatched op key branch timestamp) → IsOwn e.node.0 (state setup e.node.0 earlier).life branch
own_entry setup ok past run later earlier e is = made_by setup ok earlier e (earlier_run setup past (e ∷ earlier) run (record { later = later; is = is }))

pub made_at : (setup : SetupState) → IsSetup setup → (past : List Entry) → IsRun setup past → (later earlier : List Entry) (e : Entry) → past ≡ later ++ e ∷ earlier
    → (op : OpId) (key : List ℕ) (branch : Id) (timestamp : ℕ) → IsIn e.outputs (Dispatched op key branch timestamp) → branch.node ≡ e.node
made_at setup ok past run later earlier e is op key branch timestamp i = ap node_id (own_entry setup ok past run later earlier e is op key branch timestamp i).node_is

pub made_in : (setup : SetupState) → IsSetup setup → (past : List Entry) → IsRun setup past → (later earlier : List Entry) (e : Entry) → past ≡ later ++ e ∷ earlier
    → (op : OpId) (key : List ℕ) (branch : Id) (timestamp : ℕ) → IsIn e.outputs (Dispatched op key branch timestamp) → branch.life ≡ (state setup e.node.0 earlier).life
made_in setup ok past run later earlier e is op key branch timestamp i = (own_entry setup ok past run later earlier e is op key branch timestamp i).life_is
