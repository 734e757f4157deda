-- No line of an accepted script is passed over.
use Rattle.std.proofs.Common.{◌≡◌, ℕ, zero, suc, ◌+◌, ◌==◌, Bool, true, false, cond, not, ◌&&◌, ◌||◌, nat_lt, List, [], ◌∷◌, ◌++◌, length, Option, Some, None, refl, sym, ap, ◌∙◌, subst, inl, inr, arith}
use Rattle.std.proofs.lemmas.Bool.{cond_both, false≢true, and_parts, eq-eqb, eqb-true, ltb-true, ltb-false, or_cases, or_left, or_right}
use Rattle.std.specs.List.{list_all}
use Rattle.region_map.specs.declared.id.NodeId.{NodeId}
use Rattle.region_map.specs.Nodes.{node_id, has}
use Rattle.register_laws.specs.declared.operation.OpId.{OpId}
use Rattle.contract_types.specs.Setup.{SetupState}
use Rattle.contract_types.specs.declared.limits.Which.TheVariants.{JournalEntries, JournalWeight, Numbers}
use Rattle.exec_types.specs.declared.input.Input.{Input}
use Rattle.exec_types.specs.declared.input.Input.TheVariants as input
use Rattle.node_core.specs.declared.journal.Entry.{Entry}
use Rattle.node_core.specs.Step.{ends_numbers}
use Rattle.world_core.specs.runs.declared.envelope.Envelope.{Envelope}
use Rattle.world_steps.specs.declared.push_refused.PushRefused.{PushRefused}
use Rattle.world_steps.specs.declared.push_refused.PushRefused.TheVariants.{NoSuchNode, NotYours, Down, Up, OpKnown, JournalFull}
use Rattle.world_core.specs.runs.Run.{message_at, requests, is_requested, brought, state, entry_of, suits}
use Rattle.world_steps.specs.Waiting.{is_waiting, may_flow, is_flowing, first_from, waiting}
use Rattle.world_steps.specs.World.{names_nodes, owner_refusal, message_refusal, up_refusal, op_refusal, input_refusal, entries_refusal, weight_refusal, made_refusal, event_refusal, most_entries, most_weight, total_weight}
use Rattle.script_text.specs.declared.script.ScriptWord.{ScriptWord}
use Rattle.script_text.specs.declared.script.ScriptWord.TheVariants.{Request, GiveUp, See, Crash, Restart, Tick, Deliver, Lose, LoseBetween, Flush, Settle}
use Rattle.script_text.specs.declared.script.ScriptItem.{ScriptItem}
use Rattle.script_text.specs.Script.{ScriptState, is_known, is_again}
use Rattle.script_text.specs.Script.{requests as gives}
use Rattle.script_text.specs.Sound.{fits_only, fits_node, fits_table, are_new}
use Rattle.script_text.specs.Lines.{Accepted, read_lines}
use Rattle.script_text.proofs.SoundLaws.{accepted_sound}
use Rattle.report_text.specs.declared.ending.EventRefused.TheVariants as refused
use Rattle.table_play.specs.Play.{Played, is_over, with_refusal, with_down, refused_as, play_event, play_arrival, play_delivery, play_loss, only_of, flush_next, flush_by, play_flush, most_deliveries, play_tick, play_ticks, play_round, play_rounds, play_word, unplayed}
use Rattle.table_play.specs.Lines.{AddsEntry, Arrives, ArrivesAt, Delivers, Then, FlushesNext, Flushes, Ticks, TicksEach, Settles, Does, AllDo}
use Rattle.contract_types.proofs.Below.{below_within}

-- what the entries request was given by the items before
record Reached (before : List ScriptItem) (past : List Entry) : Type 0 where
  known : (op : OpId) → is_requested past op ≡ true → is_known op.0 before ≡ true

-- an event that comes to a node of the table with a message of its own, if with any, and with a fresh operation, if with any
record Goes (setup : SetupState) (before : List ScriptItem) (p : Played) (line : ℕ) (node : NodeId) (i : Input) (q : Played) : Type 0 where
  adds : AddsEntry setup p line node i q
  reached : Reached before q.past

-- one thing does what it is to do, and what is requested was given before
record Holds (before : List ScriptItem) (P : Played → Type 0) (q : Played) : Type 0 where
  holds : P q
  reached : Reached before q.past

-- one thing, and unless a limit is met what comes later
then_goes : (before : List ScriptItem) (First : Played → Type 0) (Later : Played → Played → Type 0) (first : Played) (later : Played → Played) → Holds before First first
    → (Reached before first.past → Holds before (Later first) (later first)) → Holds before (Then First Later) (cond (is_over first.met) first (later first))
then_goes before First Later first later h next =
    cond_both (is_over first.met) first (later first) (Holds before (Then First Later))
    (λ met. record { holds = (first, h.holds, inl (met, refl)); reached = h.reached })
    (λ on. let n = next h.reached in record { holds = (first, h.holds, inr (on, n.holds)); reached = n.reached })

down_past : (p : Played) (line : ℕ) (i : Input) → (with_down p line i).past ≡ p.past
down_past p line (input.Request op key what) = refl
down_past p line (input.GiveUp op) = refl
down_past p line (input.See other up) = refl
down_past p line input.Tick = refl
down_past p line (input.Deliver number) = refl
down_past p line input.Crash = refl
down_past p line input.Restart = refl

module _ (setup : SetupState) where
  -- the order of refusals: whether the node takes such an input, the room for an entry, the numbers, the weight
  event_goes : (before : List ScriptItem) (p : Played) (line : ℕ) (node : NodeId) (i : Input) → Reached before p.past → names_nodes setup node i ≡ true
      → ((later : Option PushRefused) → message_refusal p.past node i later ≡ later) → ((later : Option PushRefused) → op_refusal p.past i later ≡ later)
      → ((op : OpId) → requests i op ≡ true → is_known op.0 before ≡ true) → Goes setup before p line node i (play_event setup p line node i)
  event_goes before p line node i h fits mine fresh new =
      let P : Option PushRefused → Type 0 = λ why. Goes setup before p line node i (refused_as setup p line node i why) in
      let up : Bool = (state setup node.0 p.past).up in
      let weight : ℕ = total_weight (entry_of setup p.past node i ∷ p.past) in
      let ends : Bool = ends_numbers (state setup node.0 p.past) i (brought p.past i) in
      let last : Option PushRefused = entries_refusal p.past (made_refusal setup p.past node i) in
      let refusal : event_refusal setup p.past node i ≡ up_refusal up i last =
      ap (λ b. cond b (input_refusal setup p.past node i last) (Some NoSuchNode)) fits ∙ mine (up_refusal up i (op_refusal p.past i last)) ∙ ap (up_refusal up i) (fresh last) in
      let unsuited : suits up i ≡ false → P (Some (cond up Up Down)) = λ s. other s up refl in
      subst P (sym refusal)
      (cond_both (suits up i) last (Some (cond up Up Down)) P
      (λ _. cond_both (nat_lt (length p.past) most_entries) (made_refusal setup p.past node i) (Some (JournalFull JournalEntries)) P
      (λ _. cond_both ends (Some (JournalFull Numbers)) (weight_refusal setup p.past node i) P
      (λ e. record { adds = inr (inl (inr (inl (e, refl)))); reached = h })
      (λ _. cond_both (nat_lt most_weight weight) (Some (JournalFull JournalWeight)) None P
      (λ heavy. record { adds = inr (inl (inr (inr (ltb-true _ _ heavy, refl)))); reached = h })
      (λ _. record { adds = inl refl; reached = record { known = λ op r. elim (or_cases (requests i op) (is_requested p.past op) r) [ inl now ↦ new op now | inr old ↦ h.known op old ] } })))
      (λ full. record { adds = inr (inl (inl (ltb-false _ _ full, refl))); reached = h }))
      unsuited)
    where
      other : suits (state setup node.0 p.past).up i ≡ false → (b : Bool) → (state setup node.0 p.past).up ≡ b → Goes setup before p line node i (refused_as setup p line node i (Some (cond b Up Down)))
      other s true e = record { adds = inr (inr (s, sym (ap (λ b. cond b (with_refusal p line refused.Up) (with_down p line i)) e))); reached = h }
      other s false e = record { adds = inr (inr (s, sym (ap (λ b. cond b (with_refusal p line refused.Up) (with_down p line i)) e))); reached = subst (Reached before) (sym (down_past p line i)) h }

  -- ---- messages

  to_node : (before : List ScriptItem) (p : Played) (line number : ℕ) (m : Envelope) → Reached before p.past → message_at p.past number ≡ Some m → nat_lt m.to.0 setup.nodes ≡ true
      → Goes setup before p line m.to (input.Deliver number) (play_event setup p line m.to (input.Deliver number))
  to_node before p line number m h e within =
      event_goes before p line m.to (input.Deliver number) h (ap (λ b. b && true) within)
      (λ later. ap (λ (o : Option Envelope). owner_refusal o m.to later) e ∙ ap (λ b. cond b later (Some NotYours)) (eq-eqb m.to.0 m.to.0 refl))
      (λ later. refl) (λ op r. absurd (false≢true r))

  first_is : (p : ℕ → Bool) (count from n : ℕ) → first_from p count from ≡ Some n → p n ≡ true
  first_is p zero from n = λ e. cc
  first_is p (suc count) from n =
      elim (p from) as (λ c. p from ≡ c → cond c (Some from) (first_from p count (from + 1)) ≡ Some n → p n ≡ true) [
        | true ↦ λ is e. let same : from ≡ n = cc in ap p (sym same) ∙ is
        | false ↦ λ _ e. first_is p count (from + 1) n e
      ] refl

  -- a message that may flow among nodes of the table was sent, to one of them
  flows : (past : List Entry) (only : List ℕ) (o : Option Envelope) → may_flow setup past only o ≡ true → (m : Envelope) × (o ≡ Some m) × (has only m.to.0 ≡ true)
  flows past only None e = absurd (false≢true e)
  flows past only (Some m) e =
      let all = and_parts (has only m.from.0 && has only m.to.0) (state setup m.to.0 past).up e in
      (m, refl, (and_parts (has only m.from.0) (has only m.to.0) all.0).1)

  member_within : (only : List ℕ) (n : ℕ) → list_all (λ k. nat_lt k setup.nodes) only ≡ true → has only n ≡ true → nat_lt n setup.nodes ≡ true
  member_within [] n all h = absurd (false≢true h)
  member_within (k ∷ ks) n all h =
      let a = and_parts (nat_lt k setup.nodes) (list_all (λ j. nat_lt j setup.nodes) ks) all in
      elim (or_cases (k == n) (has ks n) h) [ inl same ↦ ap (λ j. nat_lt j setup.nodes) (sym (eqb-true k n same)) ∙ a.0 | inr rest ↦ member_within ks n a.1 rest ]

  waiting_there : (past : List Entry) (lost only : List ℕ) (n : ℕ) → list_all (λ k. nat_lt k setup.nodes) only ≡ true → waiting setup past lost only ≡ Some n
      → (m : Envelope) × (message_at past n ≡ Some m) × (nat_lt m.to.0 setup.nodes ≡ true)
  waiting_there past lost only n fits e =
      let is : is_flowing setup past lost only n ≡ true = first_is (is_flowing setup past lost only) _ 1 n e in
      let f = flows past only (message_at past n) (and_parts (is_waiting past lost n) (may_flow setup past only (message_at past n)) is).1 in
      (f.0, f.1, member_within only f.0.to.0 fits f.2)

  -- ---- deliveries

  arrival_goes : (before : List ScriptItem) (p : Played) (line number : ℕ) (o : Option Envelope) → message_at p.past number ≡ o → Reached before p.past
      → Holds before (Arrives setup p line number o) (play_arrival setup p line number o)
  arrival_goes before p line number None e h = record { holds = refl; reached = h }
  arrival_goes before p line number (Some m) e h =
      let i : Input = input.Deliver number in
      let P : Played → Type 0 = Holds before (Arrives setup p line number (Some m)) in
      let last : Option PushRefused = input_refusal setup p.past m.to i (entries_refusal p.past (made_refusal setup p.past m.to i)) in
      elim (nat_lt m.to.0 setup.nodes) as (λ c. nat_lt m.to.0 setup.nodes ≡ c → P (play_event setup p line m.to i)) [
        | true ↦ λ within. let goes = to_node before p line number m h e within in record { holds = inl goes.adds; reached = goes.reached }
        | false ↦ λ outside.
            let nothing : play_event setup p line m.to i ≡ p = ap (λ b. refused_as setup p line m.to i (cond (b && true) last (Some NoSuchNode))) outside in
            subst P (sym nothing) (record { holds = inr (outside, refl); reached = h })
      ] refl

  arrival_at_goes : (before : List ScriptItem) (p : Played) (line number : ℕ) (node : NodeId) (o : Option Envelope) → message_at p.past number ≡ o → Reached before p.past
      → nat_lt node.0 setup.nodes ≡ true → Holds before (ArrivesAt setup p line number node o) (play_event setup p line node (input.Deliver number))
  arrival_at_goes before p line number node o e h within =
      let i : Input = input.Deliver number in
      let last : Option PushRefused = up_refusal (state setup node.0 p.past).up i (entries_refusal p.past (made_refusal setup p.past node i)) in
      let refusal : event_refusal setup p.past node i ≡ owner_refusal o node last =
      ap (λ b. cond (b && true) (owner_refusal (message_at p.past number) node last) (Some NoSuchNode)) within ∙ ap (λ (m : Option Envelope). owner_refusal m node last) e in
      by_owner o e last refusal
    where
      by_owner : (o : Option Envelope) → message_at p.past number ≡ o → (last : Option PushRefused) → event_refusal setup p.past node (input.Deliver number) ≡ owner_refusal o node last
          → Holds before (ArrivesAt setup p line number node o) (play_event setup p line node (input.Deliver number))
      by_owner None e last refusal =
          subst (λ (why : Option PushRefused). Holds before (ArrivesAt setup p line number node None) (refused_as setup p line node (input.Deliver number) why)) (sym refusal)
          (record { holds = refl; reached = h })
      by_owner (Some m) e last refusal =
          let i : Input = input.Deliver number in
          let P : Played → Type 0 = Holds before (ArrivesAt setup p line number node (Some m)) in
          elim (m.to.0 == node.0) as (λ c. (m.to.0 == node.0) ≡ c → P (play_event setup p line node i)) [
            | true ↦ λ same.
                let goes = event_goes before p line node i h (ap (λ b. b && true) within)
                (λ later. ap (λ (o : Option Envelope). owner_refusal o node later) e ∙ ap (λ b. cond b later (Some NotYours)) same) (λ later. refl) (λ op r. absurd (false≢true r)) in
                record { holds = inl (same, goes.adds); reached = goes.reached }
            | false ↦ λ other.
                subst (λ (why : Option PushRefused). P (refused_as setup p line node i why)) (sym (refusal ∙ ap (λ b. cond b last (Some NotYours)) other))
                (record { holds = inr (other, refl); reached = h })
          ] refl

  delivery_goes : (before : List ScriptItem) (p : Played) (line number : ℕ) (node : Option NodeId) → Reached before p.past → fits_node setup node ≡ true
      → Holds before (Delivers setup p line number node) (play_delivery setup p line number node)
  delivery_goes before p line number None h fits =
      let goes = arrival_goes before p line number (message_at p.past number) refl h in record { holds = goes.holds; reached = goes.reached }
  delivery_goes before p line number (Some node) h fits =
      let goes = arrival_at_goes before p line number node (message_at p.past number) refl h fits in record { holds = goes.holds; reached = goes.reached }

  -- ---- flushes

  flush_goes : (before : List ScriptItem) (only : List ℕ) (line count : ℕ) (p : Played) → list_all (λ k. nat_lt k setup.nodes) only ≡ true → Reached before p.past
      → Holds before (Flushes count setup only line p) (flush_by count setup only p line)
  flush_goes before only line zero p fits h = record { holds = refl; reached = h }
  flush_goes before only line (suc count) p fits h =
      let later : Played → Played = λ q. flush_by count setup only q line in
      let P : Option ℕ → Type 0 = λ o. Holds before (FlushesNext setup p line o (Flushes count setup only line)) (flush_next setup p line o (λ q. flush_by count setup only q line)) in
      let done : P (waiting setup p.past p.lost only) =
      elim (waiting setup p.past p.lost only) as (λ o. waiting setup p.past p.lost only ≡ o → P o) [
        | None ↦ λ _. record { holds = refl; reached = h }
        | Some n ↦ λ e.
            let there = waiting_there p.past p.lost only n fits e in
            let m : Envelope = there.0 in
            let first : Played = play_event setup p line m.to (input.Deliver n) in
            let First : Played → Type 0 = AddsEntry setup p line m.to (input.Deliver n) in
            let goes = to_node before p line n m h there.1 there.2 in
            let Q : Option Envelope → Type 0 = λ o. Holds before (Then First (Flushes count setup only line))
            (cond (is_over (play_arrival setup p line n o).met) (play_arrival setup p line n o) (flush_by count setup only (play_arrival setup p line n o) line)) in
            let both = then_goes before First (Flushes count setup only line) first later (record { holds = goes.adds; reached = goes.reached })
            (λ r. flush_goes before only line count first fits r) in
            let all : Q (message_at p.past n) = subst Q (sym there.1) both in
            record { holds = (m, there.1, all.holds); reached = all.reached }
      ] refl in
      record { holds = done.holds; reached = done.reached }

  -- ---- ticks

  tick_goes : (before : List ScriptItem) (p : Played) (line n : ℕ) → Reached before p.past → nat_lt n setup.nodes ≡ true → Holds before (Ticks setup line n p) (play_tick setup p line n)
  tick_goes before p line n h within =
      cond_both (state setup n p.past).up (play_event setup p line (node_id n) input.Tick) p (Holds before (Ticks setup line n p))
      (λ up.
      let goes = event_goes before p line (node_id n) input.Tick h (ap (λ b. b && true) within) (λ later. refl) (λ later. refl) (λ op r. absurd (false≢true r)) in
      record { holds = inl (up, goes.adds); reached = goes.reached })
      (λ down. record { holds = inr (down, refl); reached = h })

  ticks_go : (before : List ScriptItem) (line : ℕ) (ns : List ℕ) (p : Played) → list_all (λ k. nat_lt k setup.nodes) ns ≡ true → Reached before p.past
      → Holds before (TicksEach setup line ns p) (play_ticks setup p line ns)
  ticks_go before line [] p fits h = record { holds = refl; reached = h }
  ticks_go before line (n ∷ ns) p fits h =
      let f = and_parts (nat_lt n setup.nodes) (list_all (λ k. nat_lt k setup.nodes) ns) fits in
      let goes = then_goes before (Ticks setup line n p) (TicksEach setup line ns) (play_tick setup p line n) (λ q. play_ticks setup q line ns) (tick_goes before p line n h f.0)
      (λ r. ticks_go before line ns (play_tick setup p line n) f.1 r) in
      record { holds = goes.holds; reached = goes.reached }

  round_goes : (before : List ScriptItem) (only : List ℕ) (line : ℕ) (p : Played) → list_all (λ k. nat_lt k setup.nodes) only ≡ true → Reached before p.past
      → Holds before (Then (TicksEach setup line only p) (Flushes most_deliveries setup only line)) (play_round setup only p line)
  round_goes before only line p fits h =
      then_goes before (TicksEach setup line only p) (Flushes most_deliveries setup only line) (play_ticks setup p line only) (λ q. play_flush setup only q line) (ticks_go before line only p fits h)
      (λ r. flush_goes before only line most_deliveries (play_ticks setup p line only) fits r)

  rounds_go : (before : List ScriptItem) (only : List ℕ) (line count : ℕ) (p : Played) → list_all (λ k. nat_lt k setup.nodes) only ≡ true → Reached before p.past
      → Holds before (Settles count setup only line p) (play_rounds count setup only p line)
  rounds_go before only line zero p fits h = record { holds = refl; reached = h }
  rounds_go before only line (suc count) p fits h =
      let goes = then_goes before (Then (TicksEach setup line only p) (Flushes most_deliveries setup only line)) (Settles count setup only line) (play_round setup only p line)
      (λ q. play_rounds count setup only q line) (round_goes before only line p fits h) (λ r. rounds_go before only line count (play_round setup only p line) fits r) in
      record { holds = goes.holds; reached = goes.reached }

  only_within : (only : Option (List ℕ)) → fits_only setup only ≡ true → list_all (λ k. nat_lt k setup.nodes) (only_of setup only) ≡ true
  only_within None fits = below_within setup.nodes
  only_within (Some only) fits = fits

  -- ---- the lines

  known_more : (q : ℕ) (before : List ScriptItem) (item : ScriptItem) → is_known q (before ++ item ∷ []) ≡ (is_known q before || gives q item.word)
  known_more q [] item = grind arith
  known_more q (x ∷ xs) item = let rest = known_more q xs item in grind arith

  reached_more : (before : List ScriptItem) (item : ScriptItem) (past : List Entry) → Reached before past → Reached (before ++ item ∷ []) past
  reached_more before item past h = record { known = λ op r. known_more op.0 before item ∙ or_left (is_known op.0 before) (gives op.0 item.word) (h.known op r) }

  unknown : (past : List Entry) (op : OpId) (before : List ScriptItem) → Reached before past → not (is_known op.0 before) ≡ true → is_requested past op ≡ false
  unknown past op before h new =
      elim (is_requested past op) as (λ c. is_requested past op ≡ c → c ≡ false) [
        | true ↦ λ e. absurd (false≢true (sym (ap not (h.known op e)) ∙ new))
        | false ↦ λ _. refl
      ] refl

  loss_past : (p : Played) (line number : ℕ) (o : Option Envelope) → (play_loss p line number o).past ≡ p.past
  loss_past p line number None = refl
  loss_past p line number (Some m) = refl

  -- an event of a line that asks for no operation
  plain_goes : (before : List ScriptItem) (p : Played) (line : ℕ) (node : NodeId) (i : Input) → Reached before p.past → names_nodes setup node i ≡ true
      → ((later : Option PushRefused) → message_refusal p.past node i later ≡ later) → ((later : Option PushRefused) → op_refusal p.past i later ≡ later)
      → ((op : OpId) → requests i op ≡ false) → Holds before (AddsEntry setup p line node i) (play_event setup p line node i)
  plain_goes before p line node i h fits mine fresh none =
      let goes = event_goes before p line node i h fits mine fresh (λ op r. absurd (false≢true (sym (none op) ∙ r))) in
      record { holds = goes.adds; reached = goes.reached }

  word_goes : (before : List ScriptItem) (p : Played) (line : ℕ) (word : ScriptWord) → Reached before p.past → fits_table setup word ≡ true → not (is_again word before) ≡ true
      → Holds (before ++ record { line = line; word = word } ∷ []) (Does setup p line word) (play_word setup p line word)
  word_goes before p line (Request op node key what) h fits new =
      let item : ScriptItem = record { line = line; word = Request op node key what } in
      let free : is_requested p.past op ≡ false = unknown p.past op before h new in
      let goes = event_goes (before ++ item ∷ []) p line node (input.Request op key what) (reached_more before item p.past h) (ap (λ b. b && true) fits) (λ later. refl)
      (λ later. ap (λ b. cond b (Some OpKnown) later) free) (λ q r. known_more q.0 before item ∙ or_right (is_known q.0 before) (op.0 == q.0) r) in
      record { holds = goes.adds; reached = goes.reached }
  word_goes before p line (GiveUp node op) h fits new =
      let goes = plain_goes before p line node (input.GiveUp op) h (ap (λ b. b && true) fits) (λ later. refl) (λ later. refl) (λ q. refl) in
      record { holds = goes.holds; reached = reached_more before (record { line = line; word = GiveUp node op }) _ goes.reached }
  word_goes before p line (See node other up) h fits new =
      let goes = plain_goes before p line node (input.See other up) h fits (λ later. refl) (λ later. refl) (λ q. refl) in
      record { holds = goes.holds; reached = reached_more before (record { line = line; word = See node other up }) _ goes.reached }
  word_goes before p line (Crash node) h fits new =
      let goes = plain_goes before p line node input.Crash h (ap (λ b. b && true) fits) (λ later. refl) (λ later. refl) (λ q. refl) in
      record { holds = goes.holds; reached = reached_more before (record { line = line; word = Crash node }) _ goes.reached }
  word_goes before p line (Restart node) h fits new =
      let goes = plain_goes before p line node input.Restart h (ap (λ b. b && true) fits) (λ later. refl) (λ later. refl) (λ q. refl) in
      record { holds = goes.holds; reached = reached_more before (record { line = line; word = Restart node }) _ goes.reached }
  word_goes before p line (Tick node) h fits new =
      let goes = plain_goes before p line node input.Tick h (ap (λ b. b && true) fits) (λ later. refl) (λ later. refl) (λ q. refl) in
      record { holds = goes.holds; reached = reached_more before (record { line = line; word = Tick node }) _ goes.reached }
  word_goes before p line (Deliver number node) h fits new =
      let goes = delivery_goes before p line number node h fits in
      record { holds = goes.holds; reached = reached_more before (record { line = line; word = Deliver number node }) _ goes.reached }
  word_goes before p line (Lose number) h fits new =
      let item : ScriptItem = record { line = line; word = Lose number } in
      let same : (play_word setup p line (Lose number)).past ≡ p.past = loss_past p line number (message_at p.past number) in
      record { holds = refl; reached = subst (Reached (before ++ item ∷ [])) (sym same) (reached_more before item p.past h) }
  word_goes before p line (LoseBetween from to) h fits new =
      record { holds = refl; reached = reached_more before (record { line = line; word = LoseBetween from to }) p.past h }
  word_goes before p line (Flush only) h fits new =
      let goes = flush_goes before (only_of setup only) line most_deliveries p (only_within only fits) h in
      record { holds = goes.holds; reached = reached_more before (record { line = line; word = Flush only }) _ goes.reached }
  word_goes before p line (Settle rounds only) h fits new =
      let goes = rounds_go before (only_of setup only) line rounds p (only_within only fits) h in
      record { holds = goes.holds; reached = reached_more before (record { line = line; word = Settle rounds only }) _ goes.reached }

  lines_go : (before items : List ScriptItem) (p : Played) → Reached before p.past → list_all (λ item. fits_table setup item.word) items ≡ true → are_new before items ≡ true → AllDo setup p items
  lines_go before [] p h fits new = tt
  lines_go before (item ∷ items) p h fits new =
      let f = and_parts (fits_table setup item.word) (list_all (λ i. fits_table setup i.word) items) fits in
      let n = and_parts (not (is_again item.word before)) (are_new (before ++ item ∷ []) items) new in
      let goes = word_goes before p item.line item.word h f.0 n.0 in
      (goes.holds, λ _. lines_go (before ++ item ∷ []) items (play_word setup p item.line item.word) goes.reached f.1 n.1)

-- each line of an accepted script that is reached before a limit does what its word says
pub accepted_lines_do : (text : List ℕ) (script : ScriptState) → read_lines text ≡ Accepted script → AllDo script.setup unplayed script.items
accepted_lines_do text script is =
    let sound = accepted_sound text script is in
    lines_go script.setup [] script.items unplayed (record { known = λ op r. absurd (false≢true r) }) sound.fits sound.new
