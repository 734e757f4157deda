-- An event that is taken makes the run longer; a refused one leaves it.
use Rattle.std.proofs.Common.{cond, ◌≡◌, ℕ, ◌<◌, List, ◌∷◌, Option, Some, None, length, ◌⊎◌, inl, inr, refl, sym, ap, ◌∙◌, subst, arith}
use Rattle.std.proofs.lemmas.Bool.{ltb-true}
use Rattle.std.proofs.lemmas.Bool.Decides.{nat_tests}
use Rattle.region_map.specs.declared.id.NodeId.{NodeId}
use Rattle.contract_types.specs.Setup.{SetupState}
use Rattle.exec_types.specs.declared.input.Input.{Input}
use Rattle.node_core.specs.declared.journal.Entry.{Entry}
use Rattle.node_core.specs.Journal.{JournalState}
use Rattle.world_steps.specs.declared.push_refused.PushRefused.{PushRefused}
use Rattle.world_steps.specs.declared.push_refused.PushRefused.TheVariants.{NoSuchNode, OutOfMemory}
use Rattle.path_runs.specs.runs.Run.{IsRun, entry_of}
use Rattle.path_runs.specs.runs.Story.{IsRegisterStory, story}
use Rattle.path_runs.specs.runs.StoryOrder.{IsStoryInOrder}
use Rattle.world_steps.specs.World.{WorldState, IsInStep, names_nodes, input_refusal, entries_refusal, entry_refusal, made_refusal, event_refusal, push_refusal, unless_ended}
use Rattle.path_runs.proofs.AllStories.{run_stories}
use Rattle.path_runs.proofs.StoryOrder.{story_in_order}
use Rattle.world_steps.proofs.States.{within_table, length_states, push_refused, goes_on}
use Rattle.world_core.proofs.world.World.push.Goals as goal

abbrev HaveStories : SetupState → List Entry → Type 0
HaveStories setup past = (key : List ℕ) → IsRegisterStory setup past key (story setup past key)

abbrev HaveOrder : SetupState → List Entry → Type 0
HaveOrder setup past = (key : List ℕ) → IsStoryInOrder setup past key

-- a run with its next entry
grown : (setup : SetupState) (old new : JournalState) (node : NodeId) (input : Input) → new ≡ record old { past = entry_of setup old.past node input ∷ old.past }
    → entry_refusal setup old.past node input ≡ None → made_refusal setup old.past node input ≡ None → IsRun setup old.past → IsRun setup new.past
grown setup old new node input entry e n run =
    subst (λ (j : JournalState). IsRun setup j.past) (sym entry) (record { allowed = goes_on setup old.past node input e n; outputs = refl }, run)

-- what nothing else refuses, the step made refuses
last_of : (setup : SetupState) (past : List Entry) (node : NodeId) (input : Input) (later : Option PushRefused) → entry_refusal setup past node input ≡ None
    → cond (names_nodes setup node input) (input_refusal setup past node input (entries_refusal past later)) (Some NoSuchNode) ≡ later
last_of setup past node input later e = grind (arith, nat_tests)

made_refused : (w : WorldState) (setup : SetupState) (past : List Entry) (lost : List ℕ) (ended : Option PushRefused) (node : NodeId) (input : Input) (why : PushRefused)
    → record { setup = setup; past = past; lost = lost; ended = ended } ≡ w → ended ≡ None → entry_refusal setup past node input ≡ None
    → (why ≡ OutOfMemory) ⊎ (made_refusal setup past node input ≡ Some why) → (why ≡ OutOfMemory) ⊎ (push_refusal w node input ≡ Some why)
made_refused w setup past lost ended node input why is n e (inl h) = inl h
made_refused w setup past lost ended node input why is n e (inr h) =
    inr (ap (λ (v : WorldState). push_refusal v node input) (sym is) ∙ ap (λ (o : Option PushRefused). unless_ended o (event_refusal setup past node input)) n
    ∙ last_of setup past node input (made_refusal setup past node input) e ∙ h)

pub take-requires : goal.take-requires
take-requires c =
    let w = c.self.inside in
    let h : IsInStep w.setup w.journal.past w.lost.items w.nodes.items w.sent.items w.waits w.requested = c.self.invariant.in_step c.in_default.is in
    let e : entry_refusal w.setup w.journal.past c.args.node c.args.input ≡ None =
    sym (c.in_default-refusal.ensures.value (c.deref.ensures.value ∙ h.states_are) (c.deref-2.ensures.value ∙ h.sent_are) h.ops_are) in
    let inside : c.args.node.0 < w.setup.nodes = ltb-true _ _ (within_table w.setup w.journal.past c.args.node c.args.input e) in
    omega (arith, ap length h.states_are ∙ length_states w.setup w.journal.past)

pub returns-in-Some-clause-stories : goal.returns-in-Some-clause-stories
returns-in-Some-clause-stories c =
    subst (λ (w : WorldState). HaveStories w.setup w.past) c.self.view_is (run_stories c.self.inside.setup c.config-config.ensures.setup c.self.inside.journal.past c.self.invariant.run)

pub returns-in-Some-clause-story_order : goal.returns-in-Some-clause-story_order
returns-in-Some-clause-story_order c =
    subst (λ (w : WorldState). HaveOrder w.setup w.past) c.self.view_is (story_in_order c.self.inside.setup c.config-config.ensures.setup c.self.inside.journal.past c.self.invariant.run)

pub returns-in-Some-refusal-clause-refused : goal.returns-in-Some-refusal-clause-refused
returns-in-Some-refusal-clause-refused c =
    let w = c.self.inside in
    let h : IsInStep w.setup w.journal.past w.lost.items w.nodes.items w.sent.items w.waits w.requested = c.self.invariant.in_step c.in_default.is in
    let e : entry_refusal w.setup w.journal.past c.args.node c.args.input ≡ Some c.in-Some-refusal.why =
    sym (c.in-Some-refusal.ensures.value (c.deref.ensures.value ∙ h.states_are) (c.deref-2.ensures.value ∙ h.sent_are) h.ops_are) in
    inr (push_refused c.args.self.now w.setup w.journal.past w.lost.items w.ended c.args.node c.args.input c.in-Some-refusal.why c.self.view_is c.in_default.is e)

pub returns-in-Some-refusal-clause-stories : goal.returns-in-Some-refusal-clause-stories
returns-in-Some-refusal-clause-stories c =
    subst (λ (w : WorldState). HaveStories w.setup w.past) c.self.view_is (run_stories c.self.inside.setup c.config-config.ensures.setup c.self.inside.journal.past c.self.invariant.run)

pub returns-in-Some-refusal-clause-story_order : goal.returns-in-Some-refusal-clause-story_order
returns-in-Some-refusal-clause-story_order c =
    subst (λ (w : WorldState). HaveOrder w.setup w.past) c.self.view_is (story_in_order c.self.inside.setup c.config-config.ensures.setup c.self.inside.journal.past c.self.invariant.run)

pub returns-in-Err-clause-refused : goal.returns-in-Err-clause-refused
returns-in-Err-clause-refused c =
    let w = c.self.inside in
    let h : IsInStep w.setup w.journal.past w.lost.items w.nodes.items w.sent.items w.waits w.requested = c.self.invariant.in_step c.in_default.is in
    let e : entry_refusal w.setup w.journal.past c.args.node c.args.input ≡ None =
    sym (c.in_default-refusal.ensures.value (c.deref.ensures.value ∙ h.states_are) (c.deref-2.ensures.value ∙ h.sent_are) h.ops_are) in
    made_refused c.args.self.now w.setup w.journal.past w.lost.items w.ended c.args.node c.args.input c.in-Err.why c.self.view_is c.in_default.is e
    (c.in-Err.ensures.refused w.setup w.lost.items h c.self.invariant.weighed)

pub returns-in-Err-clause-stories : goal.returns-in-Err-clause-stories
returns-in-Err-clause-stories c =
    subst (λ (j : JournalState). HaveStories c.self.inside.setup j.past) (sym c.in-Err.ensures.kept) (run_stories c.self.inside.setup c.config-config.ensures.setup c.self.inside.journal.past c.self.invariant.run)

pub returns-in-Err-clause-story_order : goal.returns-in-Err-clause-story_order
returns-in-Err-clause-story_order c =
    subst (λ (j : JournalState). HaveOrder c.self.inside.setup j.past) (sym c.in-Err.ensures.kept) (story_in_order c.self.inside.setup c.config-config.ensures.setup c.self.inside.journal.past c.self.invariant.run)

pub returns-in-Ok-clause-run : goal.returns-in-Ok-clause-run
returns-in-Ok-clause-run c =
    let w = c.self.inside in
    let h : IsInStep w.setup w.journal.past w.lost.items w.nodes.items w.sent.items w.waits w.requested = c.self.invariant.in_step c.in_default.is in
    let e : entry_refusal w.setup w.journal.past c.args.node c.args.input ≡ None =
    sym (c.in_default-refusal.ensures.value (c.deref.ensures.value ∙ h.states_are) (c.deref-2.ensures.value ∙ h.sent_are) h.ops_are) in
    grown w.setup w.journal c.take.new.journal c.args.node c.args.input (c.in-Ok.ensures.entry w.setup w.lost.items h) e (c.in-Ok.ensures.taken w.setup w.lost.items h c.self.invariant.weighed) c.self.invariant.run

pub returns-in-Ok-clause-stories : goal.returns-in-Ok-clause-stories
returns-in-Ok-clause-stories c =
    let w = c.self.inside in
    let h : IsInStep w.setup w.journal.past w.lost.items w.nodes.items w.sent.items w.waits w.requested = c.self.invariant.in_step c.in_default.is in
    let e : entry_refusal w.setup w.journal.past c.args.node c.args.input ≡ None =
    sym (c.in_default-refusal.ensures.value (c.deref.ensures.value ∙ h.states_are) (c.deref-2.ensures.value ∙ h.sent_are) h.ops_are) in
    run_stories w.setup c.config-config.ensures.setup c.take.new.journal.past
    (grown w.setup w.journal c.take.new.journal c.args.node c.args.input (c.in-Ok.ensures.entry w.setup w.lost.items h) e (c.in-Ok.ensures.taken w.setup w.lost.items h c.self.invariant.weighed) c.self.invariant.run)

pub returns-in-Ok-clause-story_order : goal.returns-in-Ok-clause-story_order
returns-in-Ok-clause-story_order c =
    let w = c.self.inside in
    let h : IsInStep w.setup w.journal.past w.lost.items w.nodes.items w.sent.items w.waits w.requested = c.self.invariant.in_step c.in_default.is in
    let e : entry_refusal w.setup w.journal.past c.args.node c.args.input ≡ None =
    sym (c.in_default-refusal.ensures.value (c.deref.ensures.value ∙ h.states_are) (c.deref-2.ensures.value ∙ h.sent_are) h.ops_are) in
    story_in_order w.setup c.config-config.ensures.setup c.take.new.journal.past
    (grown w.setup w.journal c.take.new.journal c.args.node c.args.input (c.in-Ok.ensures.entry w.setup w.lost.items h) e (c.in-Ok.ensures.taken w.setup w.lost.items h c.self.invariant.weighed) c.self.invariant.run)

pub invariant_of-self : goal.invariant_of-self
invariant_of-self c =
    let w = c.self.inside in
    let h : IsInStep w.setup w.journal.past w.lost.items w.nodes.items w.sent.items w.waits w.requested = c.self.invariant.in_step c.in_default.is in
    let e : entry_refusal w.setup w.journal.past c.args.node c.args.input ≡ None =
    sym (c.in_default-refusal.ensures.value (c.deref.ensures.value ∙ h.states_are) (c.deref-2.ensures.value ∙ h.sent_are) h.ops_are) in
    let n : made_refusal w.setup w.journal.past c.args.node c.args.input ≡ None = c.in-Ok.ensures.taken w.setup w.lost.items h c.self.invariant.weighed in
    let entry : c.take.new.journal ≡ record w.journal { past = entry_of w.setup w.journal.past c.args.node c.args.input ∷ w.journal.past } =
    c.in-Ok.ensures.entry w.setup w.lost.items h in
    let in_step = c.in-Ok.ensures.in_step w.setup w.lost.items h e in
    record {
      begun = ap (λ (j : JournalState). j.setup) entry ∙ c.self.invariant.begun;
      run = grown w.setup w.journal c.take.new.journal c.args.node c.args.input entry e n c.self.invariant.run;
      in_step = λ _. subst (λ (j : JournalState). IsInStep w.setup j.past w.lost.items c.take.new.nodes.items c.take.new.messages.items c.take.new.waits c.take.new.requested) (sym entry) in_step;
      weighed = c.in-Ok.ensures.weighed c.self.invariant.weighed;
    }
