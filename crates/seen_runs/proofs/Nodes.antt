-- Steps of one node stay its steps as others add entries, and steps of all nodes are a run.
use Rattle.std.proofs.Common.{◌≡◌, ℕ, ◌==◌, Bool, true, false, cond, not, ◌&&◌, ◌||◌, nat_lt, List, [], ◌∷◌, ◌++◌, Option, refl, sym, ap, ◌∙◌}
use Rattle.std.proofs.lemmas.Bool.{false≢true, eqb-true, eq-eqb, and_parts}
use Rattle.runs.specs.region_map.declared.id.NodeId.{NodeId}
use Rattle.runs.specs.register_laws.declared.operation.OpId.{OpId}
use Rattle.runs.specs.contract_types.Setup.{SetupState}
use Rattle.runs.specs.exec_types.declared.input.Input.{Input}
use Rattle.runs.specs.exec_types.declared.input.Input.TheVariants.{Request, GiveUp, See, Tick, Deliver, Crash, Restart}
use Rattle.runs.specs.node_core.declared.node.Brought.{Brought}
use Rattle.runs.specs.node_core.declared.journal.Entry.{Entry}
use Rattle.runs.specs.node_core.Step.{NodeState, node_step, ends_numbers}
use Rattle.runs.specs.Run.{brought, state, requests, is_requested, is_fresh, arrives, names_node, suits, IsRun}
use Rattle.journal_seat.specs.Book.{made_by}
use Rattle.seen_runs.specs.Seen.{node_of, is_at_home, IsOwnStep, OwnSteps}
use Rattle.seen_runs.proofs.Beginnings.{other_first, others_rest, state_more, made_more, arrives_more, brought_more}

-- ---- one step

-- what a step rests on beside its node and its input: whether its message came, the node's state, and what is brought
abbrev allowed_by : SetupState → NodeId → Input → Bool → NodeState → Option Brought → Bool
allowed_by setup node input come s b = nat_lt node.0 setup.nodes && names_node setup input && come && suits s.up input && not (ends_numbers s input b)

come_of : (a b c d : Bool) → (a && b && c && d) ≡ true → b ≡ true
come_of a b c d h = (and_parts a b (and_parts (a && b) c (and_parts (a && b && c) d h).0).0).1

-- a step over a beginning is a step over the whole, where what lies between is of other nodes
pub own_step_more : (setup : SetupState) (home : ℕ → ℕ) (more past : List Entry) (e : Entry) → made_by node_of e.node.0 more ≡ [] → IsOwnStep setup home past e
    → IsOwnStep setup home (more ++ past) e
own_step_more setup home more past e none h =
    let came : arrives past e.node e.input ≡ true =
    come_of (nat_lt e.node.0 setup.nodes && names_node setup e.input) (arrives past e.node e.input) (suits (state setup e.node.0 past).up e.input)
    (not (ends_numbers (state setup e.node.0 past) e.input (brought past e.input))) h.allowed in
    let come : arrives (more ++ past) e.node e.input ≡ arrives past e.node e.input = arrives_more more past e.node e.input came ∙ sym came in
    let state_is : state setup e.node.0 (more ++ past) ≡ state setup e.node.0 past = state_more setup e.node.0 more past none in
    let brought_is : brought (more ++ past) e.input ≡ brought past e.input = brought_more more past e.node e.input came in
    record {
      allowed = (λ i. allowed_by setup e.node e.input (come i) (state_is i) (brought_is i)) ∙ h.allowed;
      outputs = h.outputs ∙ sym (λ i. (node_step (state_is i) e.input (brought_is i)).outs);
      fresh = ap (λ (l : List Entry). is_fresh l e.input) (made_more e.node.0 more past none) ∙ h.fresh;
      at_home = h.at_home;
    }

-- ---- all steps of one node

pub own_steps_more : (setup : SetupState) (home : ℕ → ℕ) (n : ℕ) (more past : List Entry) → made_by node_of n more ≡ [] → OwnSteps setup home n past
    → OwnSteps setup home n (more ++ past)
own_steps_more setup home n [] past none h = h
own_steps_more setup home n (e ∷ more) past none h = (
  λ same. absurd (false≢true (sym (other_first n e more none) ∙ eq-eqb e.node.0 n same)),
  own_steps_more setup home n more past (others_rest n e more none) h,
)

-- a node that made nothing made no wrong step
pub no_own_steps : (setup : SetupState) (home : ℕ → ℕ) (n : ℕ) (past : List Entry) → made_by node_of n past ≡ [] → OwnSteps setup home n past
no_own_steps setup home n [] none = tt
no_own_steps setup home n (e ∷ past) none = (
  λ same. absurd (false≢true (sym (other_first n e past none) ∙ eq-eqb e.node.0 n same)),
  no_own_steps setup home n past (others_rest n e past none),
)

-- ---- new operations

-- no other node asks for a node's operation
requests_home : (home : ℕ → ℕ) (n : ℕ) (input : Input) (op : OpId) → is_at_home home n input ≡ true → (n == home op.0) ≡ false → requests input op ≡ false
requests_home home n (Request q key what) op at_home other =
    elim (q.0 == op.0) as (λ b. (q.0 == op.0) ≡ b → b ≡ false) [
      | true ↦ λ same. absurd (false≢true (sym other ∙ eq-eqb n (home op.0) (sym (eqb-true (home q.0) n at_home) ∙ ap home (eqb-true q.0 op.0 same))))
      | false ↦ λ _. refl
    ] refl
requests_home home n (GiveUp q) op at_home other = refl
requests_home home n (See other' up) op at_home other = refl
requests_home home n Tick op at_home other = refl
requests_home home n (Deliver number) op at_home other = refl
requests_home home n Crash op at_home other = refl
requests_home home n Restart op at_home other = refl

-- an operation was asked for where its own node asked for it
asked_at_home : (setup : SetupState) (home : ℕ → ℕ) (past : List Entry) (op : OpId) → ((n : ℕ) → OwnSteps setup home n past)
    → is_requested past op ≡ is_requested (made_by node_of (home op.0) past) op
asked_at_home setup home [] op h = refl
asked_at_home setup home (e ∷ past) op h =
    let mine : List Entry = made_by node_of (home op.0) past in
    let rest : is_requested past op ≡ is_requested mine op = asked_at_home setup home past op (λ n. (h n).1) in
    elim (e.node.0 == home op.0)
    as (λ b. (e.node.0 == home op.0) ≡ b → (requests e.input op || is_requested past op) ≡ is_requested (cond b (e ∷ mine) mine) op) [
      | true ↦ λ _. ap (λ r. requests e.input op || r) rest
      | false ↦ λ other. ap (λ r. r || is_requested past op) (requests_home home e.node.0 e.input op ((h e.node.0).0 refl).at_home other) ∙ rest
    ] refl

-- what is new to its node is new to all
fresh_at_home : (setup : SetupState) (home : ℕ → ℕ) (past : List Entry) (n : ℕ) (input : Input) → ((m : ℕ) → OwnSteps setup home m past)
    → is_at_home home n input ≡ true → is_fresh (made_by node_of n past) input ≡ true → is_fresh past input ≡ true
fresh_at_home setup home past n (Request op key what) h at_home new =
    ap not (asked_at_home setup home past op h)
    ∙ ap (λ m. not (is_requested (made_by node_of m past) op)) (eqb-true (home op.0) n at_home)
    ∙ new
fresh_at_home setup home past n (GiveUp op) h at_home new = refl
fresh_at_home setup home past n (See other up) h at_home new = refl
fresh_at_home setup home past n Tick h at_home new = refl
fresh_at_home setup home past n (Deliver number) h at_home new = refl
fresh_at_home setup home past n Crash h at_home new = refl
fresh_at_home setup home past n Restart h at_home new = refl

-- ---- a run

and_between : (a f g : Bool) → (a && g) ≡ true → f ≡ true → (a && f && g) ≡ true
and_between true true g h e = h
and_between true false g h e = absurd (false≢true e)
and_between false f g h e = absurd (false≢true h)

pub run_of_own_steps : (setup : SetupState) (home : ℕ → ℕ) (past : List Entry) → ((n : ℕ) → OwnSteps setup home n past) → IsRun setup past
run_of_own_steps setup home [] h = tt
run_of_own_steps setup home (e ∷ past) h =
    let own = (h e.node.0).0 refl in
    let before : (n : ℕ) → OwnSteps setup home n past = λ n. (h n).1 in (
      record {
        allowed =
            and_between
            (nat_lt e.node.0 setup.nodes && names_node setup e.input && arrives past e.node e.input && suits (state setup e.node.0 past).up e.input)
            (is_fresh past e.input)
            (not (ends_numbers (state setup e.node.0 past) e.input (brought past e.input)))
            own.allowed
            (fresh_at_home setup home past e.node.0 e.input before own.at_home own.fresh);
        outputs = own.outputs;
      },
      run_of_own_steps setup home past before,
    )
