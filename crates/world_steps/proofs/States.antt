-- What a world keeps beside its journal, as entries come, and which events it refuses.
use Rattle.std.proofs.Common.{◌≡◌, ◌≢◌, ◌⊎◌, Err, IsErrOf, ◌==◌, ℕ, zero, suc, ◌+◌, ◌<◌, Bool, true, false, cond, not, ◌&&◌, ◌||◌, nat_lt, List, [], ◌∷◌, ◌++◌, map, length, set, get_or, Option, Some, None, inl, inr, refl, sym, ap, ap₂, ◌∙◌, subst, is_some, add_comm, arith}
use Rattle.std.proofs.lemmas.Bool.{cases_eq, cases_lt, eq-eqb, ne_eqb, lt-ltb, ltb-true}
use Rattle.std.proofs.lemmas.Bool.Decides.{nat_tests}
use Rattle.std.proofs.lemmas.List.{same_lists, get_or_append_left, get_or-map, get_or-set_same, get_or-set_other, length-map, length-set, map-append}
use Rattle.std.proofs.Math.Seq.{get_or-append_seam}
use Rattle.std.proofs.Common.{length-append}
use Rattle.std.proofs.lemmas.List.Sums.{sum_by-cons}
use Rattle.std.specs.BTreeSet.{BTreeSet, contains}
use Rattle.region_map.specs.declared.id.NodeId.{NodeId}
use Rattle.register_laws.specs.declared.operation.OpId.{OpId}
use Rattle.contract_types.specs.Setup.{SetupState, nodes_below}
use Rattle.region_map.specs.declared.step_refused.StepRefused.{StepRefused}
use Rattle.region_map.specs.declared.step_refused.StepRefused.TheVariants.{NumbersEnd}
use Rattle.region_map.specs.declared.step_refused.StepRefused.TheVariants as step
use Rattle.contract_types.specs.declared.limits.Which.TheVariants.{JournalEntries, Numbers}
use Rattle.exec_types.specs.declared.input.Input.{Input}
use Rattle.exec_types.specs.declared.input.Input.TheVariants.{Request, GiveUp, See, Tick, Deliver, Crash, Restart}
use Rattle.exec_types.specs.declared.output.Output.{Output}
use Rattle.node_core.specs.declared.node.Brought.{Brought}
use Rattle.node_core.specs.declared.journal.Entry.{Entry}
use Rattle.node_core.specs.Step.{NodeState, begin_node, node_step, ends_numbers}
use Rattle.runs.specs.declared.envelope.Envelope.{Envelope}
use Rattle.world_steps.specs.declared.push_refused.PushRefused.{PushRefused}
use Rattle.world_steps.specs.declared.push_refused.PushRefused.TheVariants.{NoSuchNode, NotYours, Down, Up, OpKnown, JournalFull, OutOfMemory}
use Rattle.runs.specs.Run.{numbered, may_step, sent, sent_by, brought, state, requests, is_requested, message_at, names_node, suits, is_to, arrives, is_fresh, outs_of, entry_of}
use Rattle.world_steps.specs.Waiting.{delivers, is_between}
use Rattle.world_steps.specs.Pairs.{SetsState, pair_has, comes_between, waits_between, is_up_state, is_up_among}
use Rattle.world_steps.proofs.Waits.{waits_next, sent_next, arrives_sent, waits_lost, sent_lost, lost_one, one_is_sent}
use Rattle.world_steps.specs.World.{WorldState, states, step_refusal, numbers_refusal, weight_of, total_weight, heavy_refusal, weight_refusal, made_refusal, owner_refusal, message_refusal, up_refusal, op_refusal, most_entries, entries_refusal, names_nodes, input_refusal, entry_refusal, event_refusal, unless_ended, push_refusal, is_up, op_cmp, AreSent, IsInStep}

-- ---- lists by the numbers of nodes

length_below : (n : ℕ) → length (nodes_below n) ≡ n
length_below zero = refl
length_below (suc n) = omega (arith, length-append (nodes_below n) (n ∷ []), length_below n)

get_below : (n k d : ℕ) → k < n → get_or (nodes_below n) k d ≡ k
get_below zero k d h = absurd (omega arith)
get_below (suc n) k d h =
    let count : length (nodes_below n) ≡ n = length_below n in
    elim (cases_lt k n) [
      | inl within ↦ get_or_append_left (nodes_below n) (n ∷ []) d k (omega arith) ∙ get_below n k d within
      | inr past ↦
          let last : k ≡ length (nodes_below n) = omega arith in
          let same : n ≡ k = omega arith in
          ap (λ m. get_or (nodes_below n ++ n ∷ []) m d) last ∙ get_or-append_seam (nodes_below n) n [] d ∙ same
    ]

pub length_map_below : {A : Type 0} (f : ℕ → A) (n : ℕ) → length (map f (nodes_below n)) ≡ n
length_map_below f n = length-map (nodes_below n) f ∙ length_below n

pub get_map_below : {A : Type 0} (f : ℕ → A) (n k : ℕ) (d : A) → k < n → get_or (map f (nodes_below n)) k d ≡ f k
get_map_below f n k d h =
    let within : k < length (nodes_below n) = omega (arith, length_below n) in
    get_or-map f (nodes_below n) k 0 d within ∙ ap f (get_below n k 0 h)

set_map_below : {A : Type 0} (f g : ℕ → A) (n i : ℕ) (v : A) → i < n → v ≡ g i → ((k : ℕ) → k ≢ i → f k ≡ g k) → set (map f (nodes_below n)) i v ≡ map g (nodes_below n)
set_map_below f g n i v h here others =
    let count : length (map f (nodes_below n)) ≡ n = length_map_below f n in
    let counts : length (set (map f (nodes_below n)) i v) ≡ n = length-set (map f (nodes_below n)) i v ∙ count in
    same_lists (set (map f (nodes_below n)) i v) (map g (nodes_below n)) (counts ∙ sym (length_map_below g n))
    (λ k d within.
    let below : k < n = omega arith in
    elim (cases_eq k i) [
      | inl same ↦
          ap (λ m. get_or (set (map f (nodes_below n)) i v) m d) same ∙ get_or-set_same (map f (nodes_below n)) i v d (omega arith)
          ∙ here ∙ ap g (sym same) ∙ sym (get_map_below g n k d below)
      | inr other ↦
          get_or-set_other (map f (nodes_below n)) i k v d other ∙ get_map_below f n k d below ∙ others k other
          ∙ sym (get_map_below g n k d below)
    ])

-- one more node of a table as it begins
pub begun_next : (setup : SetupState) (n : ℕ) (nodes more : List (Option NodeState)) (node : NodeState) → nodes ≡ map (λ (k : ℕ). Some (begin_node setup k)) (nodes_below n)
    → node ≡ begin_node setup n → more ≡ nodes ++ Some node ∷ [] → more ≡ map (λ (k : ℕ). Some (begin_node setup k)) (nodes_below (n + 1))
begun_next setup n nodes more node before now e =
    let f : ℕ → Option NodeState = λ k. Some (begin_node setup k) in
    let next : suc n ≡ n + 1 = omega arith in
    e ∙ ap₂ (λ (l : List (Option NodeState)) (s : NodeState). l ++ Some s ∷ []) before now ∙ sym (map-append f (nodes_below n) (n ∷ []))
    ∙ ap (λ (m : ℕ). map f (nodes_below m)) next

-- ---- one more entry

-- the state of a node after its step
abbrev pub stepped : SetupState → List Entry → NodeId → Input → NodeState
stepped setup past node input = (node_step (state setup node.0 past) input (brought past input)).node

states-next : (setup : SetupState) (past : List Entry) (node : NodeId) (input : Input) → node.0 < setup.nodes
    → set (states setup past) node.0 (Some (stepped setup past node input)) ≡ states setup (entry_of setup past node input ∷ past)
states-next setup past node input h =
    let f : ℕ → Option NodeState = λ n. Some (state setup n past) in
    let g : ℕ → Option NodeState = λ n. Some (state setup n (entry_of setup past node input ∷ past)) in
    set_map_below f g setup.nodes node.0 (Some (stepped setup past node input)) h
    (ap (λ b. Some (cond b (stepped setup past node input) (state setup node.0 past))) (sym (eq-eqb node.0 node.0 refl)))
    (λ k other.
    ap (λ b. Some (cond b (node_step (state setup k past) input (brought past input)).node (state setup k past)))
    (sym (ne_eqb node.0 k (λ e. other (sym e)))))

pub state_at : (setup : SetupState) (past : List Entry) (n : ℕ) → n < setup.nodes → get_or (states setup past) n None ≡ Some (state setup n past)
state_at setup past n h = get_map_below (λ (k : ℕ). Some (state setup k past)) setup.nodes n None h

pub length_states : (setup : SetupState) (past : List Entry) → length (states setup past) ≡ setup.nodes
length_states setup past = length_map_below (λ (k : ℕ). Some (state setup k past)) setup.nodes

pub IsInStep-next : (setup : SetupState) (past : List Entry) (lost : List ℕ) (node : NodeId) (input : Input) (nodes new : List (Option NodeState)) (messages more : List Envelope) (waits waiting : SetsState) (requested noted : BTreeSet OpId)
    → IsInStep setup past lost nodes messages waits requested → node.0 < length nodes → entry_refusal setup past node input ≡ None
    → new ≡ set nodes node.0 (Some (stepped setup past node input))
    → more ≡ messages ++ sent_by node (outs_of setup past node input)
    → waiting.nodes ≡ waits.nodes
    → ((a b : NodeId) → a.0 < waits.nodes → b.0 < waits.nodes → (k : ℕ) → pair_has waiting a b k
    ≡ (comes_between (length messages) more a b k || (not (delivers input k && is_between a b (numbered messages k)) && pair_has waits a b k)))
    → ((op : OpId) → contains op_cmp noted op ≡ (requests input op || is_requested past op))
    → IsInStep setup (entry_of setup past node input ∷ past) lost new more waiting noted
IsInStep-next setup past lost node input nodes new messages more waits waiting requested noted h within goes n m c w r =
    let e : Entry = entry_of setup past node input in
    let count : length nodes ≡ setup.nodes = ap length h.states_are ∙ length_states setup past in
    let sent_now : more ≡ sent past ++ sent_by node (outs_of setup past node input) = m ∙ ap (λ (l : List Envelope). l ++ sent_by node (outs_of setup past node input)) h.sent_are in
    let arrives = arrives_sent setup past node input goes in
    record {
      states_are = n ∙ ap (λ (l : List (Option NodeState)). set l node.0 (Some (stepped setup past node input))) h.states_are ∙ states-next setup past node input (omega arith);
      sent_are = sent_now;
      waits_are = record {
        nodes_are = c ∙ h.waits_are.nodes_are;
        sets_are = λ a b ha hb k.
            let ha' : a.0 < waits.nodes = subst (λ (v : ℕ). a.0 < v) c ha in
            let hb' : b.0 < waits.nodes = subst (λ (v : ℕ). b.0 < v) c hb in
            waits_next past lost e a b k (pair_has waits a b k) (pair_has waiting a b k) h.known_sent (arrives k) (h.waits_are.sets_are a b ha' hb' k)
            (w a b ha' hb' k ∙ ap₂ (λ (ms all : List Envelope). comes_between (length ms) all a b k || (not (delivers input k && is_between a b (numbered ms k)) && pair_has waits a b k)) h.sent_are sent_now);
      };
      known_sent = sent_next past lost e h.known_sent arrives;
      ops_are = r;
    }

-- one more message is marked lost
pub IsInStep-lost : (setup : SetupState) (past : List Entry) (lost more : List ℕ) (m : ℕ) (nodes : List (Option NodeState)) (messages : List Envelope) (waits waiting : SetsState) (requested : BTreeSet OpId)
    → IsInStep setup past lost nodes messages waits requested → more ≡ lost ++ m ∷ [] → is_some (numbered messages m) ≡ true
    → waiting.nodes ≡ waits.nodes
    → ((a b : NodeId) → a.0 < waits.nodes → b.0 < waits.nodes → (k : ℕ) → pair_has waiting a b k ≡ (not ((m == k) && is_between a b (numbered messages k)) && pair_has waits a b k))
    → IsInStep setup past more nodes messages waiting requested
IsInStep-lost setup past lost more m nodes messages waits waiting requested h l s c w =
    let there : is_some (message_at past m) ≡ true = ap (λ (ms : List Envelope). is_some (numbered ms m)) (sym h.sent_are) ∙ s in
    record {
      states_are = h.states_are;
      sent_are = h.sent_are;
      waits_are = record {
        nodes_are = c ∙ h.waits_are.nodes_are;
        sets_are = λ a b ha hb k.
            let ha' : a.0 < waits.nodes = subst (λ (v : ℕ). a.0 < v) c ha in
            let hb' : b.0 < waits.nodes = subst (λ (v : ℕ). b.0 < v) c hb in
            waits_lost past lost (m ∷ []) a b k (pair_has waits a b k) (pair_has waiting a b k) (h.waits_are.sets_are a b ha' hb' k)
            (w a b ha' hb' k ∙ ap (λ (ms : List Envelope). not ((m == k) && is_between a b (numbered ms k)) && pair_has waits a b k) h.sent_are
            ∙ ap (λ v. not (v && is_between a b (message_at past k)) && pair_has waits a b k) (sym (lost_one m k)))
            ∙ ap (λ (ls : List ℕ). waits_between past ls a b k) (sym l);
      };
      known_sent = subst (AreSent past) (sym l) (sent_lost past lost (m ∷ []) h.known_sent (one_is_sent past m there));
      ops_are = h.ops_are;
    }

-- ---- what a run may take

owner_passes : (m : Option Envelope) (node : NodeId) (later : Option PushRefused) → owner_refusal m node later ≡ None → (is_to m node ≡ true) × (later ≡ None)
owner_passes None node later = λ e. absurd (cc)
owner_passes (Some m) node later =
    elim (m.to.0 == node.0) as (λ c. cond c later (Some NotYours) ≡ None → (c ≡ true) × (later ≡ None)) [
      | true ↦ λ e. (refl, e)
      | false ↦ λ e. absurd (cc)
    ]

message_passes : (past : List Entry) (node : NodeId) (input : Input) (later : Option PushRefused) → message_refusal past node input later ≡ None
    → (arrives past node input ≡ true) × (later ≡ None)
message_passes past node (Request op key what) later e = (refl, e)
message_passes past node (GiveUp op) later e = (refl, e)
message_passes past node (See other up) later e = (refl, e)
message_passes past node Tick later e = (refl, e)
message_passes past node (Deliver number) later e = owner_passes (message_at past number) node later e
message_passes past node Crash later e = (refl, e)
message_passes past node Restart later e = (refl, e)

up_passes : (up : Bool) (input : Input) (later : Option PushRefused) → up_refusal up input later ≡ None → (suits up input ≡ true) × (later ≡ None)
up_passes up input later =
    elim (suits up input) as (λ c. cond c later (Some (cond up Up Down)) ≡ None → (c ≡ true) × (later ≡ None)) [
      | true ↦ λ e. (refl, e)
      | false ↦ λ e. absurd (cc)
    ]

op_passes : (past : List Entry) (input : Input) (later : Option PushRefused) → op_refusal past input later ≡ None → is_fresh past input ≡ true
op_passes past (Request op key what) later =
    elim (is_requested past op) as (λ c. cond c (Some OpKnown) later ≡ None → not c ≡ true) [
      | true ↦ λ e. absurd (cc)
      | false ↦ λ e. refl
    ]
op_passes past (GiveUp op) later = λ e. refl
op_passes past (See other up) later = λ e. refl
op_passes past Tick later = λ e. refl
op_passes past (Deliver number) later = λ e. refl
op_passes past Crash later = λ e. refl
op_passes past Restart later = λ e. refl

names_pass : (named : Bool) (later : Option PushRefused) → cond named later (Some NoSuchNode) ≡ None → (named ≡ true) × (later ≡ None)
names_pass true later e = (refl, e)
names_pass false later e = absurd (cc)

numbers_pass : (ends : Bool) (later : Option PushRefused) → cond ends (Some (JournalFull Numbers)) later ≡ None → not ends ≡ true
numbers_pass true later e = absurd (cc)
numbers_pass false later e = refl

all_hold : (a b c d e f : Bool) → (a && b) ≡ true → c ≡ true → d ≡ true → e ≡ true → f ≡ true → (a && b && c && d && e && f) ≡ true
all_hold a b c d e f ab hc hd he hf = grind (arith, nat_tests)

-- an event that nothing refuses may be a step of a run
pub goes_on : (setup : SetupState) (past : List Entry) (node : NodeId) (input : Input) → entry_refusal setup past node input ≡ None → made_refusal setup past node input ≡ None
    → may_step setup past node input ≡ true
goes_on setup past node input e n =
    let s : NodeState = state setup node.0 past in
    let full : Option PushRefused = entries_refusal past None in
    let named = names_pass (names_nodes setup node input) (input_refusal setup past node input full) e in
    let arrived = message_passes past node input (up_refusal s.up input (op_refusal past input full)) named.1 in
    let suited = up_passes s.up input (op_refusal past input full) arrived.1 in
    all_hold (nat_lt node.0 setup.nodes) (names_node setup input) (arrives past node input) (suits s.up input) (is_fresh past input)
    (not (ends_numbers s input (brought past input))) named.0 arrived.0 suited.0 (op_passes past input full suited.1)
    (numbers_pass (ends_numbers s input (brought past input)) (weight_refusal setup past node input) n)

-- ---- refusals

entries_refused : (past : List Entry) (later : Option PushRefused) (why : PushRefused) → entries_refusal past None ≡ Some why → entries_refusal past later ≡ Some why
entries_refused past later why =
    elim (nat_lt (length past) most_entries) as (λ c. cond c None (Some (JournalFull JournalEntries)) ≡ Some why → cond c later (Some (JournalFull JournalEntries)) ≡ Some why) [
      | true ↦ λ e. absurd (cc)
      | false ↦ λ e. e
    ]

op_refused : (past : List Entry) (input : Input) (now later : Option PushRefused) (why : PushRefused) → (now ≡ Some why → later ≡ Some why) → op_refusal past input now ≡ Some why
    → op_refusal past input later ≡ Some why
op_refused past (Request op key what) now later why h =
    elim (is_requested past op) as (λ c. cond c (Some OpKnown) now ≡ Some why → cond c (Some OpKnown) later ≡ Some why) [
      | true ↦ λ e. e
      | false ↦ h
    ]
op_refused past (GiveUp op) now later why h = h
op_refused past (See other up) now later why h = h
op_refused past Tick now later why h = h
op_refused past (Deliver number) now later why h = h
op_refused past Crash now later why h = h
op_refused past Restart now later why h = h

up_refused : (up : Bool) (input : Input) (now later : Option PushRefused) (why : PushRefused) → (now ≡ Some why → later ≡ Some why) → up_refusal up input now ≡ Some why
    → up_refusal up input later ≡ Some why
up_refused up input now later why h =
    elim (suits up input) as (λ c. cond c now (Some (cond up Up Down)) ≡ Some why → cond c later (Some (cond up Up Down)) ≡ Some why) [
      | true ↦ h
      | false ↦ λ e. e
    ]

owner_refused : (m : Option Envelope) (node : NodeId) (now later : Option PushRefused) (why : PushRefused) → (now ≡ Some why → later ≡ Some why) → owner_refusal m node now ≡ Some why
    → owner_refusal m node later ≡ Some why
owner_refused None node now later why h = λ e. e
owner_refused (Some m) node now later why h =
    elim (m.to.0 == node.0) as (λ c. cond c now (Some NotYours) ≡ Some why → cond c later (Some NotYours) ≡ Some why) [
      | true ↦ h
      | false ↦ λ e. e
    ]

message_refused : (past : List Entry) (node : NodeId) (input : Input) (now later : Option PushRefused) (why : PushRefused) → (now ≡ Some why → later ≡ Some why)
    → message_refusal past node input now ≡ Some why → message_refusal past node input later ≡ Some why
message_refused past node (Request op key what) now later why h = h
message_refused past node (GiveUp op) now later why h = h
message_refused past node (See other up) now later why h = h
message_refused past node Tick now later why h = h
message_refused past node (Deliver number) now later why h = owner_refused (message_at past number) node now later why h
message_refused past node Crash now later why h = h
message_refused past node Restart now later why h = h

input_refused : (setup : SetupState) (past : List Entry) (node : NodeId) (input : Input) (now later : Option PushRefused) (why : PushRefused) → (now ≡ Some why → later ≡ Some why)
    → input_refusal setup past node input now ≡ Some why → input_refusal setup past node input later ≡ Some why
input_refused setup past node input now later why h =
    let up : Bool = (state setup node.0 past).up in
    message_refused past node input (up_refusal up input (op_refusal past input now)) (up_refusal up input (op_refusal past input later)) why
    (up_refused up input (op_refusal past input now) (op_refusal past input later) why (op_refused past input now later why h))

event_refused : (setup : SetupState) (past : List Entry) (node : NodeId) (input : Input) (why : PushRefused) → entry_refusal setup past node input ≡ Some why
    → event_refusal setup past node input ≡ Some why
event_refused setup past node input why =
    let now : Option PushRefused = entries_refusal past None in
    let later : Option PushRefused = entries_refusal past (made_refusal setup past node input) in
    elim (names_nodes setup node input) as (λ c. cond c (input_refusal setup past node input now) (Some NoSuchNode) ≡ Some why → cond c (input_refusal setup past node input later) (Some NoSuchNode) ≡ Some why) [
      | true ↦ input_refused setup past node input now later why (entries_refused past (made_refusal setup past node input) why)
      | false ↦ λ e. e
    ]

-- ---- refusals, as they are tried

message_none : (past : List Entry) (node : NodeId) (input : Input) (later : Option PushRefused) → message_refusal past node input None ≡ None
    → message_refusal past node input later ≡ later
message_none past node (Request op key what) later e = refl
message_none past node (GiveUp op) later e = refl
message_none past node (See other up) later e = refl
message_none past node Tick later e = refl
message_none past node (Deliver number) later e = owner_none (message_at past number) e
  where
    owner_none : (m : Option Envelope) → owner_refusal m node None ≡ None → owner_refusal m node later ≡ later
    owner_none None = λ e. absurd (cc)
    owner_none (Some m) =
        elim (m.to.0 == node.0) as (λ c. cond c None (Some NotYours) ≡ None → cond c later (Some NotYours) ≡ later) [
          | true ↦ λ e. refl
          | false ↦ λ e. absurd (cc)
        ]
message_none past node Crash later e = refl
message_none past node Restart later e = refl

-- an event of nodes that are there, whose message is for its node
pub entry_after_message : (setup : SetupState) (past : List Entry) (node : NodeId) (input : Input) → names_nodes setup node input ≡ true → message_refusal past node input None ≡ None
    → entry_refusal setup past node input ≡ up_refusal (state setup node.0 past).up input (op_refusal past input (entries_refusal past None))
entry_after_message setup past node input n m =
    ap (λ c. cond c (input_refusal setup past node input (entries_refusal past None)) (Some NoSuchNode)) n ∙ message_none past node input (up_refusal (state setup node.0 past).up input (op_refusal past input (entries_refusal past None))) m

-- one whose node takes no such input
pub entry_unsuited : (setup : SetupState) (past : List Entry) (node : NodeId) (input : Input) → names_nodes setup node input ≡ true → message_refusal past node input None ≡ None
    → (up : Bool) → up ≡ (state setup node.0 past).up → suits up input ≡ false → entry_refusal setup past node input ≡ Some (cond up Up Down)
entry_unsuited setup past node input n m up u s =
    entry_after_message setup past node input n m ∙ ap (λ v. up_refusal v input (op_refusal past input (entries_refusal past None))) (sym u) ∙ ap (λ c. cond c (op_refusal past input (entries_refusal past None)) (Some (cond up Up Down))) s

-- one whose node takes such an input
pub entry_suited : (setup : SetupState) (past : List Entry) (node : NodeId) (input : Input) → names_nodes setup node input ≡ true → message_refusal past node input None ≡ None
    → (up : Bool) → up ≡ (state setup node.0 past).up → suits up input ≡ true → entry_refusal setup past node input ≡ op_refusal past input (entries_refusal past None)
entry_suited setup past node input n m up u s =
    entry_after_message setup past node input n m ∙ ap (λ v. up_refusal v input (op_refusal past input (entries_refusal past None))) (sym u) ∙ ap (λ c. cond c (op_refusal past input (entries_refusal past None)) (Some (cond up Up Down))) s

-- whether the node that is stored is up
pub up_stored : (setup : SetupState) (past : List Entry) (nodes : List (Option NodeState)) (node : NodeId) (up : Bool) → nodes ≡ states setup past → nat_lt node.0 setup.nodes ≡ true
    → up ≡ is_up_among nodes node.0 → up ≡ (state setup node.0 past).up
up_stored setup past nodes node up e within h =
    h ∙ ap (λ (l : List (Option NodeState)). is_up_state (get_or l node.0 None)) e ∙ ap is_up_state (state_at setup past node.0 (ltb-true node.0 setup.nodes within))

-- as the world says it
pub up_told : (w : WorldState) (setup : SetupState) (past : List Entry) (lost : List ℕ) (ended : Option PushRefused) (nodes : List (Option NodeState)) (node : NodeId) (up : Bool)
    → record { setup = setup; past = past; lost = lost; ended = ended } ≡ w → nodes ≡ states setup past → node.0 < setup.nodes
    → up ≡ is_up_among nodes node.0 → up ≡ is_up w node
up_told w setup past lost ended nodes node up v e within h =
    let below : nat_lt node.0 setup.nodes ≡ true = lt-ltb node.0 setup.nodes within in
    up_stored setup past nodes node up e below h ∙ ap (λ b. b && (state setup node.0 past).up) (sym below) ∙ ap (λ (x : WorldState). is_up x node) v

pub known_refused : (past : List Entry) (input : Input) (later : Option PushRefused) → is_some (op_refusal past input None) ≡ true → Some OpKnown ≡ op_refusal past input later
known_refused past (Request op key what) later =
    elim (is_requested past op) as (λ c. is_some (cond c (Some OpKnown) None) ≡ true → Some OpKnown ≡ cond c (Some OpKnown) later) [
      | true ↦ λ e. refl
      | false ↦ λ e. absurd (cc)
    ]
known_refused past (GiveUp op) later = λ e. absurd (cc)
known_refused past (See other up) later = λ e. absurd (cc)
known_refused past Tick later = λ e. absurd (cc)
known_refused past (Deliver number) later = λ e. absurd (cc)
known_refused past Crash later = λ e. absurd (cc)
known_refused past Restart later = λ e. absurd (cc)

pub unknown : (past : List Entry) (input : Input) (later : Option PushRefused) → is_some (op_refusal past input None) ≡ false → later ≡ op_refusal past input later
unknown past (Request op key what) later =
    elim (is_requested past op) as (λ c. is_some (cond c (Some OpKnown) None) ≡ false → later ≡ cond c (Some OpKnown) later) [
      | true ↦ λ e. absurd (cc)
      | false ↦ λ e. refl
    ]
unknown past (GiveUp op) later = λ e. refl
unknown past (See other up) later = λ e. refl
unknown past Tick later = λ e. refl
unknown past (Deliver number) later = λ e. refl
unknown past Crash later = λ e. refl
unknown past Restart later = λ e. refl

-- a journal that is full, and one that is not
pub full : (past : List Entry) → not (nat_lt (length past) most_entries) ≡ true → Some (JournalFull JournalEntries) ≡ entries_refusal past None
full past =
    elim (nat_lt (length past) most_entries) as (λ c. not c ≡ true → Some (JournalFull JournalEntries) ≡ cond c None (Some (JournalFull JournalEntries))) [
      | true ↦ λ e. absurd (cc)
      | false ↦ λ e. refl
    ]

pub not_full : (past : List Entry) → not (nat_lt (length past) most_entries) ≡ false → None ≡ entries_refusal past None
not_full past =
    elim (nat_lt (length past) most_entries) as (λ c. not c ≡ false → None ≡ cond c None (Some (JournalFull JournalEntries))) [
      | true ↦ λ e. refl
      | false ↦ λ e. absurd (cc)
    ]

pub push_refused : (w : WorldState) (setup : SetupState) (past : List Entry) (lost : List ℕ) (ended : Option PushRefused) (node : NodeId) (input : Input) (why : PushRefused)
    → record { setup = setup; past = past; lost = lost; ended = ended } ≡ w → ended ≡ None → entry_refusal setup past node input ≡ Some why → push_refusal w node input ≡ Some why
push_refused w setup past lost ended node input why e n h =
    ap (λ (v : WorldState). push_refusal v node input) (sym e) ∙ ap (λ (o : Option PushRefused). unless_ended o (event_refusal setup past node input)) n
    ∙ event_refused setup past node input why h

-- the node of an event that is not refused is one of the table
pub within_table : (setup : SetupState) (past : List Entry) (node : NodeId) (input : Input) → entry_refusal setup past node input ≡ None → nat_lt node.0 setup.nodes ≡ true
within_table setup past node input =
    elim (nat_lt node.0 setup.nodes) as (λ c. cond (c && names_node setup input) (input_refusal setup past node input (entries_refusal past None)) (Some NoSuchNode) ≡ None → c ≡ true) [
      | true ↦ λ e. refl
      | false ↦ λ e. absurd (cc)
    ]

-- ---- one step of one node

-- the state that is stored for a node
pub state_stored : (setup : SetupState) (past : List Entry) (lost : List ℕ) (nodes : List (Option NodeState)) (messages : List Envelope) (waits : SetsState) (requested : BTreeSet OpId) (n : ℕ)
    → IsInStep setup past lost nodes messages waits requested → n < length nodes → get_or nodes n None ≡ Some (state setup n past)
state_stored setup past lost nodes messages waits requested n h within =
    let count : length nodes ≡ setup.nodes = ap length h.states_are ∙ length_states setup past in
    ap (λ (l : List (Option NodeState)). get_or l n None) h.states_are ∙ state_at setup past n (omega arith)

-- what the numbers refuse, by what was brought
numbers_by : (setup : SetupState) (past : List Entry) (node : NodeId) (input : Input) (b : Option Brought) (later : Option PushRefused) → b ≡ brought past input
    → numbers_refusal setup past node input later ≡ cond (ends_numbers (state setup node.0 past) input b) (Some (JournalFull Numbers)) later
numbers_by setup past node input b later e = ap (λ (m : Option Brought). cond (ends_numbers (state setup node.0 past) input m) (Some (JournalFull Numbers)) later) (sym e)

numbers_of : (why : StepRefused) (b : Bool) (later : Option PushRefused) → (IsErrOf {T = List Output} {E = StepRefused} (Err why) NumbersEnd → b ≡ true)
    → (step_refusal why ≡ OutOfMemory) ⊎ (cond b (Some (JournalFull Numbers)) later ≡ Some (step_refusal why))
numbers_of NumbersEnd b later h = inr (ap (λ v. cond v (Some (JournalFull Numbers)) later) (h refl))
numbers_of step.OutOfMemory b later h = inl refl

pub numbers_refused : (why : StepRefused) (setup : SetupState) (past : List Entry) (node : NodeId) (input : Input) (b : Option Brought) → b ≡ brought past input
    → (IsErrOf {T = List Output} {E = StepRefused} (Err why) NumbersEnd → ends_numbers (state setup node.0 past) input b ≡ true)
    → (step_refusal why ≡ OutOfMemory) ⊎ (made_refusal setup past node input ≡ Some (step_refusal why))
numbers_refused why setup past node input b e h =
    elim (numbers_of why (ends_numbers (state setup node.0 past) input b) (weight_refusal setup past node input) h) [
      | inl o ↦ inl o
      | inr n ↦ inr (numbers_by setup past node input b (weight_refusal setup past node input) e ∙ n)
    ]

-- what a journal weighs with one more entry
pub weight_next : (past : List Entry) (e : Entry) (before : ℕ) → before ≡ total_weight past → before + weight_of e ≡ total_weight (e ∷ past)
weight_next past e before h = ap (λ n. n + weight_of e) h ∙ add_comm (total_weight past) (weight_of e) ∙ sym (sum_by-cons weight_of e past)

-- where the step passes no limit of the numbers, the weight of its entry decides
pub weight_decides : (setup : SetupState) (past : List Entry) (node : NodeId) (input : Input) (b : Option Brought) (outs : List Output) (before : ℕ) (r : Option PushRefused) → b ≡ brought past input
    → ends_numbers (state setup node.0 past) input b ≡ false → outs ≡ outs_of setup past node input → before ≡ total_weight past
    → heavy_refusal (before + weight_of (record { node = node; input = input; outputs = outs })) ≡ r → made_refusal setup past node input ≡ r
weight_decides setup past node input b outs before r e goes o w h =
    let made : List Output → Entry = λ os. record { node = node; input = input; outputs = os } in
    let weighs : before + weight_of (made outs) ≡ total_weight (entry_of setup past node input ∷ past) =
    ap (λ os. before + weight_of (made os)) o ∙ weight_next past (entry_of setup past node input) before w in
    numbers_by setup past node input b (weight_refusal setup past node input) e ∙ ap (λ v. cond v (Some (JournalFull Numbers)) (weight_refusal setup past node input)) goes
    ∙ ap heavy_refusal (sym weighs) ∙ h

-- what the node gives, by what was brought
pub outs_given : (setup : SetupState) (past : List Entry) (node : NodeId) (input : Input) (b : Option Brought) (outs : List Output) → b ≡ brought past input
    → outs ≡ (node_step (state setup node.0 past) input b).outs → outs ≡ outs_of setup past node input
outs_given setup past node input b outs e h = h ∙ ap (λ (m : Option Brought). (node_step (state setup node.0 past) input m).outs) e

pub node_given : (setup : SetupState) (past : List Entry) (node : NodeId) (input : Input) (b : Option Brought) (nodes new : List (Option NodeState)) → b ≡ brought past input
    → new ≡ set nodes node.0 (Some (node_step (state setup node.0 past) input b).node) → new ≡ set nodes node.0 (Some (stepped setup past node input))
node_given setup past node input b nodes new e h = h ∙ ap (λ (m : Option Brought). set nodes node.0 (Some (node_step (state setup node.0 past) input m).node)) e
