-- Playing more only adds entries.
use Rattle.std.proofs.Common.{◌≡◌, ℕ, zero, suc, cond, List, [], ◌∷◌, ◌++◌, Option, Some, None, refl, sym, ap, ◌∙◌, append_assoc}
use Rattle.std.proofs.Common.{◌<◌, length, get_or, drop, subst, drop-cons, Result, Ok, Err, OnErr}
use Rattle.std.proofs.lemmas.Bool.{cond_both}
use Rattle.region_map.specs.declared.id.NodeId.{NodeId}
use Rattle.region_map.specs.Nodes.{node_id}
use Rattle.contract_types.specs.Setup.{SetupState}
use Rattle.exec_types.specs.declared.input.Input.{Input}
use Rattle.exec_types.specs.declared.input.Input.TheVariants as input
use Rattle.node_core.specs.declared.journal.Entry.{Entry}
use Rattle.world_core.specs.runs.declared.envelope.Envelope.{Envelope}
use Rattle.world_steps.specs.declared.push_refused.PushRefused.{PushRefused}
use Rattle.world_steps.specs.declared.push_refused.PushRefused.TheVariants as refused
use Rattle.world_core.specs.runs.Run.{message_at, entry_of, state}
use Rattle.world_steps.specs.Waiting.{waiting}
use Rattle.world_steps.specs.World.{event_refusal}
use Rattle.script_text.specs.declared.script.ScriptWord.{ScriptWord}
use Rattle.script_text.specs.declared.script.ScriptWord.TheVariants.{Request, GiveUp, See, Crash, Restart, Tick, Deliver, Lose, LoseBetween, Flush, Settle}
use Rattle.script_text.specs.declared.script.ScriptItem.{ScriptItem}
use Rattle.world_steps.specs.World.{WorldState}
use Rattle.table_play.specs.Steps.{HasPartOf}
use Rattle.table_play.specs.Play.{Played, is_over, with_down, refused_as, play_event, play_arrival, play_delivery, play_loss, only_of, flush_next, flush_by, play_flush, play_tick, play_ticks, play_round, play_rounds, most_deliveries, play_word, play_items}

-- some entries came on top of these
pub record Adds (before after : List Entry) : Type 0 where
  pub later : List Entry
  pub split : after ≡ later ++ before

pub adds_none : (past : List Entry) → Adds past past
adds_none past = record { later = []; split = refl }

adds_more : (a b c : List Entry) → Adds a b → Adds b c → Adds a c
adds_more a b c h k = record { later = k.later ++ h.later; split = k.split ∙ ap (λ (l : List Entry). k.later ++ l) h.split ∙ sym (append_assoc k.later h.later a) }

-- one thing, and unless a limit is met another
then_adds : (p q r : Played) → Adds p.past q.past → Adds q.past r.past → Adds p.past (cond (is_over q.met) q r).past
then_adds p q r first later = cond_both (is_over q.met) q r (λ (s : Played). Adds p.past s.past) (λ _. first) (λ _. adds_more p.past q.past r.past first later)

down_adds : (p : Played) (line : ℕ) (i : Input) → Adds p.past (with_down p line i).past
down_adds p line (input.Request op key what) = adds_none p.past
down_adds p line (input.GiveUp op) = adds_none p.past
down_adds p line (input.See other up) = adds_none p.past
down_adds p line input.Tick = adds_none p.past
down_adds p line (input.Deliver number) = adds_none p.past
down_adds p line input.Crash = adds_none p.past
down_adds p line input.Restart = adds_none p.past

refused_adds : (setup : SetupState) (p : Played) (line : ℕ) (node : NodeId) (i : Input) (why : Option PushRefused) → Adds p.past (refused_as setup p line node i why).past
refused_adds setup p line node i None = record { later = entry_of setup p.past node i ∷ []; split = refl }
refused_adds setup p line node i (Some refused.NoSuchNode) = adds_none p.past
refused_adds setup p line node i (Some refused.NoSuchMessage) = adds_none p.past
refused_adds setup p line node i (Some refused.NotYours) = adds_none p.past
refused_adds setup p line node i (Some refused.Down) = down_adds p line i
refused_adds setup p line node i (Some refused.Up) = adds_none p.past
refused_adds setup p line node i (Some refused.OpKnown) = adds_none p.past
refused_adds setup p line node i (Some (refused.JournalFull which)) = adds_none p.past
refused_adds setup p line node i (Some refused.OutOfMemory) = adds_none p.past

event_adds : (setup : SetupState) (p : Played) (line : ℕ) (node : NodeId) (i : Input) → Adds p.past (play_event setup p line node i).past
event_adds setup p line node i = refused_adds setup p line node i (event_refusal setup p.past node i)

-- ---- messages

arrival_adds : (setup : SetupState) (p : Played) (line number : ℕ) (e : Option Envelope) → Adds p.past (play_arrival setup p line number e).past
arrival_adds setup p line number None = adds_none p.past
arrival_adds setup p line number (Some e) = event_adds setup p line e.to (input.Deliver number)

delivery_adds : (setup : SetupState) (p : Played) (line number : ℕ) (node : Option NodeId) → Adds p.past (play_delivery setup p line number node).past
delivery_adds setup p line number None = arrival_adds setup p line number (message_at p.past number)
delivery_adds setup p line number (Some node) = event_adds setup p line node (input.Deliver number)

loss_adds : (p : Played) (line number : ℕ) (e : Option Envelope) → Adds p.past (play_loss p line number e).past
loss_adds p line number None = adds_none p.past
loss_adds p line number (Some e) = adds_none p.past

next_adds : (setup : SetupState) (p : Played) (line : ℕ) (o : Option ℕ) (later : Played → Played) → ((q : Played) → Adds q.past (later q).past) → Adds p.past (flush_next setup p line o later).past
next_adds setup p line None later h = adds_none p.past
next_adds setup p line (Some number) later h =
    let q : Played = play_arrival setup p line number (message_at p.past number) in
    then_adds p q (later q) (arrival_adds setup p line number (message_at p.past number)) (h q)

-- flushing only adds entries
pub flush_adds : (count : ℕ) (setup : SetupState) (only : List ℕ) (p : Played) (line : ℕ) → Adds p.past (flush_by count setup only p line).past
flush_adds zero setup only p line = adds_none p.past
flush_adds (suc count) setup only p line =
    next_adds setup p line (waiting setup p.past p.lost only) (λ q. flush_by count setup only q line) (λ q. flush_adds count setup only q line)

-- ---- ticks

tick_adds : (setup : SetupState) (p : Played) (line n : ℕ) → Adds p.past (play_tick setup p line n).past
tick_adds setup p line n =
    cond_both (state setup n p.past).up (play_event setup p line (node_id n) input.Tick) p (λ (r : Played). Adds p.past r.past)
    (λ _. event_adds setup p line (node_id n) input.Tick) (λ _. adds_none p.past)

-- so do ticks
pub ticks_add : (setup : SetupState) (p : Played) (line : ℕ) (ns : List ℕ) → Adds p.past (play_ticks setup p line ns).past
ticks_add setup p line [] = adds_none p.past
ticks_add setup p line (n ∷ ns) =
    let q : Played = play_tick setup p line n in
    then_adds p q (play_ticks setup q line ns) (tick_adds setup p line n) (ticks_add setup q line ns)

round_adds : (setup : SetupState) (only : List ℕ) (p : Played) (line : ℕ) → Adds p.past (play_round setup only p line).past
round_adds setup only p line =
    let q : Played = play_ticks setup p line only in
    then_adds p q (play_flush setup only q line) (ticks_add setup p line only) (flush_adds most_deliveries setup only q line)

-- and rounds of both
pub rounds_add : (count : ℕ) (setup : SetupState) (only : List ℕ) (p : Played) (line : ℕ) → Adds p.past (play_rounds count setup only p line).past
rounds_add zero setup only p line = adds_none p.past
rounds_add (suc count) setup only p line =
    let q : Played = play_round setup only p line in
    then_adds p q (play_rounds count setup only q line) (round_adds setup only p line) (rounds_add count setup only q line)

-- ---- words

pub word_adds : (setup : SetupState) (p : Played) (line : ℕ) (word : ScriptWord) → Adds p.past (play_word setup p line word).past
word_adds setup p line (Request op node key what) = event_adds setup p line node (input.Request op key what)
word_adds setup p line (GiveUp node op) = event_adds setup p line node (input.GiveUp op)
word_adds setup p line (See node other up) = event_adds setup p line node (input.See other up)
word_adds setup p line (Crash node) = event_adds setup p line node input.Crash
word_adds setup p line (Restart node) = event_adds setup p line node input.Restart
word_adds setup p line (Tick node) = event_adds setup p line node input.Tick
word_adds setup p line (Deliver number node) = delivery_adds setup p line number node
word_adds setup p line (Lose number) = loss_adds p line number (message_at p.past number)
word_adds setup p line (LoseBetween from to) = adds_none p.past
word_adds setup p line (Flush only) = flush_adds most_deliveries setup (only_of setup only) p line
word_adds setup p line (Settle rounds only) = rounds_add rounds setup (only_of setup only) p line

-- playing more words only adds entries
pub play_adds : (setup : SetupState) (p : Played) (items : List ScriptItem) → Adds p.past (play_items setup p items).past
play_adds setup p [] = adds_none p.past
play_adds setup p (item ∷ items) =
    let q : Played = play_word setup p item.line item.word in
    then_adds p q (play_items setup q items) (word_adds setup p item.line item.word) (play_adds setup q items)

-- ---- what is left of a call that wants memory

pub on_err : {T E : Type 0} {P : Type 0} (r : Result T E) → P → OnErr r P
on_err (Ok x) h = tt
on_err (Err e) h = h

-- a world as it was before has a part of what comes
pub keeps_part : (before after : WorldState) (p : Played) → Adds before.past p.past → after.past ≡ before.past → HasPartOf after p
keeps_part before after p a e = (a.later, a.split ∙ ap (λ (l : List Entry). a.later ++ l) (sym e))

-- a world that has a part has a part of what comes later
more_part : (w : WorldState) (p q : Played) → HasPartOf w p → Adds p.past q.past → HasPartOf w q
more_part w p q h a = (a.later ++ h.0, a.split ∙ ap (λ (l : List Entry). a.later ++ l) h.1 ∙ sym (append_assoc a.later h.0 w.past))

-- so too where what comes later comes only if no limit is met
then_part : (w : WorldState) (q r : Played) → HasPartOf w q → Adds q.past r.past → HasPartOf w (cond (is_over q.met) q r)
then_part w q r h a = cond_both (is_over q.met) q r (HasPartOf w) (λ _. h) (λ _. more_part w q r h a)

-- a part of one word is a part of the words from it on
pub items_part : (setup : SetupState) (p : Played) (items : List ScriptItem) (i : ℕ) (item : ScriptItem) (w : WorldState) → i < length items → item ≡ get_or items i item
    → HasPartOf w (play_word setup p item.line item.word) → HasPartOf w (play_items setup p (drop i items))
items_part setup p items i item w within is h =
    let e : drop i items ≡ item ∷ drop (suc i) items = drop-cons items i item within ∙ ap (λ (x : ScriptItem). x ∷ drop (suc i) items) (sym is) in
    let q : Played = play_word setup p item.line item.word in
    subst (λ (l : List ScriptItem). HasPartOf w (play_items setup p l)) (sym e)
    (then_part w q (play_items setup q (drop (suc i) items)) h (play_adds setup q (drop (suc i) items)))

-- a part of the ticks of a round is a part of the round
pub ticks_part : (setup : SetupState) (only : List ℕ) (p : Played) (line : ℕ) (w : WorldState) → HasPartOf w (play_ticks setup p line only) → HasPartOf w (play_round setup only p line)
ticks_part setup only p line w h =
    let q : Played = play_ticks setup p line only in
    then_part w q (play_flush setup only q line) h (flush_adds most_deliveries setup only q line)

-- a part of one round is a part of the rounds from it on
pub round_part : (count : ℕ) (setup : SetupState) (only : List ℕ) (p : Played) (line : ℕ) (w : WorldState) → HasPartOf w (play_round setup only p line)
    → HasPartOf w (play_rounds (suc count) setup only p line)
round_part count setup only p line w h =
    let q : Played = play_round setup only p line in
    then_part w q (play_rounds count setup only q line) h (rounds_add count setup only q line)
