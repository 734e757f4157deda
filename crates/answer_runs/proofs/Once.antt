-- In every run an operation is answered at most once: it waits at one execution of one node, once, and is answered as it
-- leaves, or it is dropped as its node goes down.
use Rattle.std.proofs.Common.{◌≡◌, ℕ, zero, suc, ◌+◌, ◌<◌, ◌≤◌, ◌==◌, Bool, true, false, cond, not, ◌&&◌, ◌||◌, nat_lt, List, [], ◌∷◌, Option, refl, ap, subst, inl, inr, arith}
use Rattle.std.proofs.lemmas.Bool.{eq-eqb, ltb-true, cases_eq, ne_eqb, and_parts}
use Rattle.std.specs.List.{AllByRecursion}
use Rattle.path_runs.specs.runs.register_laws.declared.operation.OpId.{OpId}
use Rattle.path_runs.specs.runs.contract_types.Setup.{SetupState, IsSetup}
use Rattle.path_runs.specs.runs.exec_types.declared.input.Input.{Input}
use Rattle.path_runs.specs.runs.exec_types.declared.output.Output.{Output}
use Rattle.path_runs.specs.runs.write_dispatch.declared.decided.Decided.{Decided}
use Rattle.path_runs.specs.runs.primary_exec.Execution.{Execution}
use Rattle.path_runs.specs.runs.node_core.declared.node.Brought.{Brought}
use Rattle.path_runs.specs.runs.node_core.declared.journal.Entry.{Entry}
use Rattle.path_runs.specs.runs.node_core.Step.{NodeState, executions_from, node_step, ends_numbers}
use Rattle.path_runs.specs.runs.Run.{requests, is_requested, names_node, arrives, suits, is_fresh, brought, state, IsStep, IsRun}
use Rattle.path_runs.specs.runs.Answers.{answers_in, answers_to}
use Rattle.path_runs.proofs.step_runs.Facts.{fresh_apart}
use Rattle.path_runs.proofs.step_runs.Setups.{nothing_begun}
use Rattle.answer_runs.proofs.OnceWaits.{one_if, waits_in, waits_over, step_waits}

-- ---- what a run asks of an entry

step_parts : (setup : SetupState) (past : List Entry) (e : Entry) → IsStep setup past e → (e.node.0 < setup.nodes) × (is_fresh past e.input ≡ true)
step_parts setup past e h =
    let s : NodeState = state setup e.node.0 past in
    let named : Bool = nat_lt e.node.0 setup.nodes && names_node setup e.input in
    let most = and_parts (named && arrives past e.node e.input && suits s.up e.input && is_fresh past e.input) (not (ends_numbers s e.input (brought past e.input))) h.allowed in
    let fits = and_parts (named && arrives past e.node e.input && suits s.up e.input) (is_fresh past e.input) most.0 in
    let comes = and_parts (named && arrives past e.node e.input) (suits s.up e.input) fits.0 in
    let names = and_parts named (arrives past e.node e.input) comes.0 in
    (ltb-true e.node.0 setup.nodes (and_parts (nat_lt e.node.0 setup.nodes) (names_node setup e.input) names.0).0, fits.1)

pub node_below : (setup : SetupState) (past : List Entry) (e : Entry) → IsStep setup past e → e.node.0 < setup.nodes
node_below setup past e h = (step_parts setup past e h).0

-- ---- all nodes

-- the sum of a number of each node below n
abbrev sum_below : (ℕ → ℕ) → ℕ → ℕ
sum_below f zero = 0
sum_below f (suc n) = sum_below f n + f n

sum_before : (f g : ℕ → ℕ) (m : ℕ) → ((k : ℕ) → (m == k) ≡ false → f k ≡ g k) → (n : ℕ) → n ≤ m → sum_below f n ≡ sum_below g n
sum_before f g m other zero h = refl
sum_before f g m other (suc n) h =
    let last : f n ≡ g n = other n (ne_eqb m n (λ e. omega arith)) in
    let rest = sum_before f g m other n (omega arith) in
    omega arith

-- where one number changes, the sum changes by as much
sum_changed : (f g : ℕ → ℕ) (m a b : ℕ) → ((k : ℕ) → (m == k) ≡ false → f k ≡ g k) → a + f m ≤ g m + b → (n : ℕ) → m < n → a + sum_below f n ≤ sum_below g n + b
sum_changed f g m a b other h zero below = absurd (omega arith)
sum_changed f g m a b other h (suc n) below =
    elim (cases_eq m n) [
      | inl same ↦
          let rest = sum_before f g m other n (omega arith) in
          let here : a + f n ≤ g n + b = subst (λ k. a + f k ≤ g k + b) same h in
          omega arith
      | inr ne ↦
          let last : f n ≡ g n = other n (ne_eqb m n ne) in
          let rest = sum_changed f g m a b other h n (omega arith) in
          omega arith
    ]

one_below : (f : ℕ → ℕ) (n m : ℕ) → m < n → f m ≤ sum_below f n
one_below f zero m h = absurd (omega arith)
one_below f (suc n) m h =
    elim (cases_eq m n) [
      | inl same ↦ let here : f m ≡ f n = ap f same in omega arith
      | inr ne ↦ let rest = one_below f n m (omega arith) in omega arith
    ]

-- how often an operation waits at a node
abbrev waits_of : SetupState → List Entry → OpId → ℕ → ℕ
waits_of setup past op n = waits_over (state setup n past).executions op

-- ---- runs

-- what was requested once more was not requested before
asked_once : (past : List Entry) (input : Input) (op : OpId) → is_fresh past input ≡ true → one_if (requests input op) + one_if (is_requested past op) ≤ one_if (requests input op || is_requested past op)
asked_once past input op fresh =
    elim (requests input op) as (λ a. requests input op ≡ a → one_if a + one_if (is_requested past op) ≤ one_if (a || is_requested past op)) [
      | false ↦ λ _. omega arith
      | true ↦ λ r.
          elim (is_requested past op) as (λ c. is_requested past op ≡ c → 1 + one_if c ≤ 1) [
            | false ↦ λ _. omega arith
            | true ↦ λ h. absurd (fresh_apart past input op fresh r h)
          ] refl
    ] refl

none_waits : (xs : List Execution) (op : OpId) → AllByRecursion (λ (x : Execution). (x.last ≡ 0) × (x.dispatch.waiting ≡ [])) xs → waits_over xs op ≡ 0
none_waits [] op h = refl
none_waits (x ∷ xs) op h =
    let first : waits_in x.dispatch.waiting op ≡ 0 = ap (λ (l : List Decided). waits_in l op) h.0.1 in
    let rest = none_waits xs op h.1 in
    omega arith

none_waits_below : (setup : SetupState) (op : OpId) (n : ℕ) → sum_below (waits_of setup [] op) n ≡ 0
none_waits_below setup op zero = refl
none_waits_below setup op (suc n) =
    let last = none_waits (executions_from n 0 setup.shards) op (nothing_begun n 0 setup.shards) in
    let rest = none_waits_below setup op n in
    omega arith

-- what was answered and what waits was requested, each once
answered_and_waiting : (setup : SetupState) (past : List Entry) → IsRun setup past → (op : OpId) → answers_to past op + sum_below (waits_of setup past op) setup.nodes ≤ one_if (is_requested past op)
answered_and_waiting setup [] h op =
    let none = none_waits_below setup op setup.nodes in
    omega arith
answered_and_waiting setup (e ∷ past) h op =
    let s : NodeState = state setup e.node.0 past in
    let b : Option Brought = brought past e.input in
    let parts = step_parts setup past e h.0 in
    let known = answered_and_waiting setup past h.1 op in
    let asked = asked_once past e.input op parts.1 in
    let balance = step_waits s e.input b op in
    let said : answers_in e.outputs op ≡ answers_in (node_step s e.input b).outs op = ap (λ (l : List Output). answers_in l op) h.0.outputs in
    let chosen : ℕ → Bool → NodeState = λ n c. cond c (node_step (state setup n past) e.input b).node (state setup n past) in
    let here : waits_of setup (e ∷ past) op e.node.0 ≡ waits_over (node_step s e.input b).node.executions op =
    ap (λ c. waits_over (chosen e.node.0 c).executions op) (eq-eqb e.node.0 e.node.0 refl) in
    let all = sum_changed (waits_of setup (e ∷ past) op) (waits_of setup past op) e.node.0 (answers_in e.outputs op) (one_if (requests e.input op))
    (λ n other. ap (λ c. waits_over (chosen n c).executions op) other) (omega (arith, balance, said, here)) setup.nodes parts.0 in
    omega (arith, known, asked, all)

at_most_one : (b : Bool) → one_if b ≤ 1
at_most_one true = omega arith
at_most_one false = omega arith

-- an operation waits at a node at most once
pub waits_once : (setup : SetupState) (past : List Entry) → IsRun setup past → (n : ℕ) (op : OpId) → n < setup.nodes → waits_over (state setup n past).executions op ≤ 1
waits_once setup past h n op below =
    let known = answered_and_waiting setup past h op in
    let few = at_most_one (is_requested past op) in
    let here = one_below (waits_of setup past op) setup.nodes n below in
    omega (arith, known, few, here)

pub once_answered : (setup : SetupState) → IsSetup setup → (past : List Entry) → IsRun setup past → (op : OpId) → answers_to past op ≤ 1
once_answered setup ok past h op =
    let known = answered_and_waiting setup past h op in
    let few = at_most_one (is_requested past op) in
    omega (arith, known, few)
