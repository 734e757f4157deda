-- Lists of outputs: the spoken ones, and the messages of the log.
use Rattle.std.proofs.Common.{◌≡◌, List, [], ◌∷◌, ◌++◌, map, inl, inr, refl, ap}
use Rattle.std.specs.List.{AllByRecursion, flat_map}
use Rattle.node_moves.specs.list_laws.Members.{IsIn}
use Rattle.node_moves.specs.region_map.declared.id.NodeId.{NodeId}
use Rattle.node_moves.specs.raft_vote.declared.message.RaftMessage.{RaftMessage}
use Rattle.node_moves.specs.contract_types.declared.change.Change.{Change}
use Rattle.node_moves.specs.exec_types.declared.message.Message.{Message}
use Rattle.node_moves.specs.exec_types.declared.message.Message.TheVariants as message
use Rattle.node_moves.specs.exec_types.declared.output.Output.{Output}
use Rattle.node_moves.specs.exec_types.declared.output.Output.TheVariants as output
use Rattle.node_moves.specs.node_core.Step.{raft_outs}
use Rattle.node_moves.specs.Says.{spoken}
use Rattle.node_moves.specs.Sends.{logged}
use Rattle.list_laws.proofs.All.{all_append}

pub IsIn-mapped : {X Y : Type 0} (f : X → Y) (xs : List X) (x : X) → IsIn xs x → IsIn (map f xs) (f x)
IsIn-mapped f [] x i = absurd i
IsIn-mapped f (y ∷ xs) x i = elim i [ inl e ↦ inl (ap f e) | inr j ↦ inr (IsIn-mapped f xs x j) ]

pub spoken-append : (a b : List Output) → spoken (a ++ b) ≡ spoken a ++ spoken b
spoken-append [] b = refl
spoken-append (output.Message to m ∷ a) b = spoken-append a b
spoken-append (output.Dispatched op key branch at ∷ a) b = ap (λ (l : List Output). output.Dispatched op key branch at ∷ l) (spoken-append a b)
spoken-append (output.Viewed first results ∷ a) b = ap (λ (l : List Output). output.Viewed first results ∷ l) (spoken-append a b)
spoken-append (output.Answer op outcome ∷ a) b = ap (λ (l : List Output). output.Answer op outcome ∷ l) (spoken-append a b)

pub logged-append : (a b : List Output) → logged (a ++ b) ≡ logged a ++ logged b
logged-append [] b = refl
logged-append (output.Message to (message.Raft m) ∷ a) b = ap (λ (l : List (NodeId × RaftMessage Change)). (to, m) ∷ l) (logged-append a b)
logged-append (output.Message to (message.Say contract ack) ∷ a) b = logged-append a b
logged-append (output.Message to (message.Stream stream) ∷ a) b = logged-append a b
logged-append (output.Message to (message.Got got) ∷ a) b = logged-append a b
logged-append (output.Dispatched op key branch at ∷ a) b = logged-append a b
logged-append (output.Viewed first results ∷ a) b = logged-append a b
logged-append (output.Answer op outcome ∷ a) b = logged-append a b

pub logged-raft : (sent : List (NodeId × RaftMessage Change)) → logged (raft_outs sent) ≡ sent
logged-raft [] = refl
logged-raft (x ∷ xs) = ap (λ (l : List (NodeId × RaftMessage Change)). x ∷ l) (logged-raft xs)

-- ---- messages alone, each of which something holds

abbrev pub Only : (NodeId → Message → Type 0) → Output → Type 0
Only P (output.Message to m) = P to m
Only P (output.Dispatched op key branch at) = ⊥
Only P (output.Viewed first results) = ⊥
Only P (output.Answer op outcome) = ⊥

abbrev pub AllOnly : (NodeId → Message → Type 0) → List Output → Type 0
AllOnly P outs = AllByRecursion (Only P) outs

pub only_spoken : (P : NodeId → Message → Type 0) (outs : List Output) → AllOnly P outs → spoken outs ≡ []
only_spoken P [] h = refl
only_spoken P (output.Message to m ∷ outs) h = only_spoken P outs h.1
only_spoken P (output.Dispatched op key branch at ∷ outs) h = absurd h.0
only_spoken P (output.Viewed first results ∷ outs) h = absurd h.0
only_spoken P (output.Answer op outcome ∷ outs) h = absurd h.0

-- where none of them is of the log
pub only_logged : (P : NodeId → Message → Type 0) → ((to : NodeId) (m : RaftMessage Change) → P to (message.Raft m) → ⊥) → (outs : List Output) → AllOnly P outs → logged outs ≡ []
only_logged P none [] h = refl
only_logged P none (output.Message to (message.Raft m) ∷ outs) h = absurd (none to m h.0)
only_logged P none (output.Message to (message.Say contract ack) ∷ outs) h = only_logged P none outs h.1
only_logged P none (output.Message to (message.Stream stream) ∷ outs) h = only_logged P none outs h.1
only_logged P none (output.Message to (message.Got got) ∷ outs) h = only_logged P none outs h.1
only_logged P none (output.Dispatched op key branch at ∷ outs) h = absurd h.0
only_logged P none (output.Viewed first results ∷ outs) h = absurd h.0
only_logged P none (output.Answer op outcome ∷ outs) h = absurd h.0

pub only_flat : {X : Type 0} (P : NodeId → Message → Type 0) (f : X → List Output) (xs : List X) → AllByRecursion (λ x. AllOnly P (f x)) xs → AllOnly P (flat_map f xs)
only_flat P f [] h = tt
only_flat P f (x ∷ xs) h = all_append (Only P) (f x) (flat_map f xs) h.0 (only_flat P f xs h.1)

-- ---- what holds of the messages of a list

abbrev pub Messages : (NodeId → Message → Type 0) → Output → Type 0
Messages P (output.Message to m) = P to m
Messages P (output.Dispatched op key branch at) = Unit {0}
Messages P (output.Viewed first results) = Unit {0}
Messages P (output.Answer op outcome) = Unit {0}

abbrev pub AllMessages : (NodeId → Message → Type 0) → List Output → Type 0
AllMessages P outs = AllByRecursion (Messages P) outs

pub only_messages : (P Q : NodeId → Message → Type 0) → ((to : NodeId) (m : Message) → P to m → Q to m) → (outs : List Output) → AllOnly P outs → AllMessages Q outs
only_messages P Q more [] h = tt
only_messages P Q more (output.Message to m ∷ outs) h = (more to m h.0, only_messages P Q more outs h.1)
only_messages P Q more (output.Dispatched op key branch at ∷ outs) h = absurd h.0
only_messages P Q more (output.Viewed first results ∷ outs) h = absurd h.0
only_messages P Q more (output.Answer op outcome ∷ outs) h = absurd h.0

-- no message is among them
abbrev pub IsSpoken : Output → Type 0
IsSpoken (output.Message to m) = ⊥
IsSpoken (output.Dispatched op key branch at) = Unit {0}
IsSpoken (output.Viewed first results) = Unit {0}
IsSpoken (output.Answer op outcome) = Unit {0}

abbrev pub AllSpoken : List Output → Type 0
AllSpoken outs = AllByRecursion IsSpoken outs

pub spoken_all : (outs : List Output) → AllSpoken outs → spoken outs ≡ outs
spoken_all [] h = refl
spoken_all (output.Message to m ∷ outs) h = absurd h.0
spoken_all (output.Dispatched op key branch at ∷ outs) h = ap (λ (l : List Output). output.Dispatched op key branch at ∷ l) (spoken_all outs h.1)
spoken_all (output.Viewed first results ∷ outs) h = ap (λ (l : List Output). output.Viewed first results ∷ l) (spoken_all outs h.1)
spoken_all (output.Answer op outcome ∷ outs) h = ap (λ (l : List Output). output.Answer op outcome ∷ l) (spoken_all outs h.1)

pub logged_none : (outs : List Output) → AllSpoken outs → logged outs ≡ []
logged_none [] h = refl
logged_none (output.Message to m ∷ outs) h = absurd h.0
logged_none (output.Dispatched op key branch at ∷ outs) h = logged_none outs h.1
logged_none (output.Viewed first results ∷ outs) h = logged_none outs h.1
logged_none (output.Answer op outcome ∷ outs) h = logged_none outs h.1

pub messages_none : (P : NodeId → Message → Type 0) (outs : List Output) → AllSpoken outs → AllMessages P outs
messages_none P [] h = tt
messages_none P (output.Message to m ∷ outs) h = absurd h.0
messages_none P (output.Dispatched op key branch at ∷ outs) h = (tt, messages_none P outs h.1)
messages_none P (output.Viewed first results ∷ outs) h = (tt, messages_none P outs h.1)
messages_none P (output.Answer op outcome ∷ outs) h = (tt, messages_none P outs h.1)
