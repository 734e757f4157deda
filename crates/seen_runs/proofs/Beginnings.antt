-- What a beginning of a journal tells stays true in the whole: the states of the nodes that made no more, and the messages.
use Rattle.std.proofs.Common.{◌≡◌, ℕ, ◌+◌, ◌-◌, ◌<◌, ◌==◌, true, false, cond, List, [], ◌∷◌, ◌++◌, length, Option, Some, None, slice_get, refl, sym, ap, ◌∙◌, subst, arith}
use Rattle.std.proofs.lemmas.Bool.{false≢true}
use Rattle.std.proofs.lemmas.List.{append-nil, append_assoc, get_or_append_left, length-append}
use Rattle.std.proofs.lemmas.Option.{slice_get_within, slice_get-get_or, get_or_from_slice_get}
use Rattle.std.proofs.lemmas.List.Elements.{filter-append}
use Rattle.runs.specs.region_map.declared.id.NodeId.{NodeId}
use Rattle.runs.specs.contract_types.Setup.{SetupState}
use Rattle.runs.specs.exec_types.declared.input.Input.{Input}
use Rattle.runs.specs.exec_types.declared.input.Input.TheVariants.{Request, GiveUp, See, Tick, Deliver, Crash, Restart}
use Rattle.runs.specs.node_core.declared.journal.Entry.{Entry}
use Rattle.runs.specs.node_core.Step.{node_step}
use Rattle.runs.specs.declared.envelope.Envelope.{Envelope}
use Rattle.runs.specs.Run.{sent, sent_by, message_at, opened, brought, state, is_to, arrives}
use Rattle.journal_seat.specs.Book.{made_by}
use Rattle.seen_runs.specs.Seen.{node_of}

-- ---- entries of others

-- an entry that a list of others' entries begins with is of another node
pub other_first : (n : ℕ) (e : Entry) (more : List Entry) → made_by node_of n (e ∷ more) ≡ [] → (e.node.0 == n) ≡ false
other_first n e more none =
    elim (e.node.0 == n) as (λ b. cond b (e ∷ made_by node_of n more) (made_by node_of n more) ≡ [] → b ≡ false) [
      | true ↦ λ h. absurd (false≢true (ap (λ (l : List Entry). elim l [ [] ↦ false | _ ∷ _ ↦ true ]) (sym h)))
      | false ↦ λ _. refl
    ] none

pub others_rest : (n : ℕ) (e : Entry) (more : List Entry) → made_by node_of n (e ∷ more) ≡ [] → made_by node_of n more ≡ []
others_rest n e more none = subst (λ b. cond b (e ∷ made_by node_of n more) (made_by node_of n more) ≡ []) (other_first n e more none) none

-- they leave the state of a node, and its entries, as they were
pub state_more : (setup : SetupState) (n : ℕ) (more past : List Entry) → made_by node_of n more ≡ [] → state setup n (more ++ past) ≡ state setup n past
state_more setup n [] past none = refl
state_more setup n (e ∷ more) past none =
    ap (λ b. cond b (node_step (state setup n (more ++ past)) e.input (brought (more ++ past) e.input)).node (state setup n (more ++ past)))
    (other_first n e more none)
    ∙ state_more setup n more past (others_rest n e more none)

pub made_more : (n : ℕ) (more past : List Entry) → made_by node_of n more ≡ [] → made_by node_of n (more ++ past) ≡ made_by node_of n past
made_more n more past none = filter-append (λ e. node_of e == n) more past ∙ ap (λ (l : List Entry). l ++ made_by node_of n past) none

-- ---- messages

-- more entries send their messages behind all others
pub sent_more : (more past : List Entry) → sent (more ++ past) ≡ sent past ++ sent more
sent_more [] past = sym (append-nil (sent past))
sent_more (e ∷ more) past = ap (λ (l : List Envelope). l ++ sent_by e.node e.outputs) (sent_more more past) ∙ append_assoc (sent past) (sent more) (sent_by e.node e.outputs)

-- a message that was sent keeps its number
pub get_more : {X : Type 0} (xs ys : List X) (k : ℕ) (x : X) → slice_get xs k ≡ Some x → slice_get (xs ++ ys) k ≡ Some x
get_more xs ys k x h =
    let here : k < length xs = slice_get_within xs k x h in
    let sum : length (xs ++ ys) ≡ length xs + length ys = length-append xs ys in
    let there : k < length (xs ++ ys) = omega arith in
    slice_get-get_or (xs ++ ys) k x there ∙ ap Some (get_or_append_left xs ys x k here ∙ get_or_from_slice_get xs k x x h)

pub message_more : (more past : List Entry) (number : ℕ) (m : Envelope) → message_at past number ≡ Some m → message_at (more ++ past) number ≡ Some m
message_more more past number m h =
    elim (number == 0) as (λ b. cond b None (slice_get (sent past) (number - 1)) ≡ Some m → cond b None (slice_get (sent (more ++ past)) (number - 1)) ≡ Some m) [
      | true ↦ λ none. none
      | false ↦ λ found. subst (λ (l : List Envelope). slice_get l (number - 1) ≡ Some m) (sym (sent_more more past)) (get_more (sent past) (sent more) (number - 1) m found)
    ] h

-- ---- what an input brings

-- a message that came to a node was sent
pub to_some : (o : Option Envelope) (node : NodeId) → is_to o node ≡ true → (m : Envelope) × (o ≡ Some m)
to_some None node h = absurd (false≢true h)
to_some (Some m) node h = (m, refl)

pub message_same : (more past : List Entry) (node : NodeId) (number : ℕ) → is_to (message_at past number) node ≡ true → message_at (more ++ past) number ≡ message_at past number
message_same more past node number h =
    let m = to_some (message_at past number) node h in
    message_more more past number m.0 m.1 ∙ sym m.1

pub arrives_more : (more past : List Entry) (node : NodeId) (input : Input) → arrives past node input ≡ true → arrives (more ++ past) node input ≡ true
arrives_more more past node (Request op key what) h = refl
arrives_more more past node (GiveUp op) h = refl
arrives_more more past node (See other up) h = refl
arrives_more more past node Tick h = refl
arrives_more more past node (Deliver number) h = ap (λ m. is_to m node) (message_same more past node number h) ∙ h
arrives_more more past node Crash h = refl
arrives_more more past node Restart h = refl

pub brought_more : (more past : List Entry) (node : NodeId) (input : Input) → arrives past node input ≡ true → brought (more ++ past) input ≡ brought past input
brought_more more past node (Request op key what) h = refl
brought_more more past node (GiveUp op) h = refl
brought_more more past node (See other up) h = refl
brought_more more past node Tick h = refl
brought_more more past node (Deliver number) h = ap opened (message_same more past node number h)
brought_more more past node Crash h = refl
brought_more more past node Restart h = refl
