-- Runs of nodes, as runs of their logs.
use Rattle.std.proofs.Common.{◌≡◌, ◌∙◌, ◌==◌, ◌&&◌, ◌<◌, ◌≤◌, nat_lt, nat_le, ◌-◌, ℕ, zero, suc, true, false, cond, not, inl, inr, if◌then◌else◌, List, [], ◌∷◌, ◌++◌, length, take, slice_get, Option, Some, None, refl, sym, ap, subst, arith, length-append}
use Rattle.std.proofs.Math.Path.{fun_ext}
use Rattle.std.proofs.lemmas.Bool.{cond_both, and_parts, not-true, cases_eq, eq-eqb, ne_eqb, eqb-true, ltb-true, leb-true, leb-false, le-leb}
use Rattle.std.proofs.lemmas.List.Elements.{filter_map-append}
use Rattle.std.specs.List.{filter_map}
use Rattle.step_runs.specs.runs.region_map.declared.id.NodeId.{NodeId}
use Rattle.step_runs.specs.runs.raft_vote.declared.message.RaftMessage.{RaftMessage}
use Rattle.raft_laws.specs.declared.event.Sent.{Sent}
use Rattle.raft_laws.specs.World.{World, start, addressed, message_to}
use Rattle.raft_laws.specs.Parts.{Becomes, KeepsPromises}
use Rattle.raft_laws.proofs.Parts.{keeps_promises}
use Rattle.schedule_laws.specs.Schedules.{set_at}
use Rattle.step_runs.proofs.runs.list_laws.All.{all_append}
use Rattle.schedule_laws.proofs.Lists.{place_among}
use Rattle.step_runs.specs.runs.contract_types.declared.change.Change.{Change}
use Rattle.step_runs.specs.runs.contract_types.declared.change.Change.TheVariants.{Noop}
use Rattle.step_runs.specs.runs.contract_types.Setup.{SetupState}
use Rattle.step_runs.specs.runs.table_log.Fitting.{log_fits}
use Rattle.step_runs.specs.runs.table_log.Fitting.{message_fits as raft_fits}
use Rattle.step_runs.specs.runs.exec_types.declared.message.Message.{Message}
use Rattle.step_runs.specs.runs.exec_types.declared.message.Message.TheVariants as message
use Rattle.step_runs.specs.runs.exec_types.declared.input.Input.{Input}
use Rattle.step_runs.specs.runs.exec_types.declared.input.Input.TheVariants.{Request, GiveUp, See, Tick, Deliver, Crash, Restart}
use Rattle.step_runs.specs.runs.node_core.declared.journal.Entry.{Entry}
use Rattle.step_runs.specs.runs.node_core.Step.{NodeState, Stepped, node_step, ends_numbers}
use Rattle.step_runs.specs.runs.declared.envelope.Envelope.{Envelope}
use Rattle.step_runs.specs.runs.Run.{IsStep, IsRun, sent, sent_by, message_at, opened, brought, state, is_to, arrives, names_node, suits, is_fresh}
use Rattle.log_runs.proofs.LogWorldMoves.{placed, placed_itself, goes_becomes}
use Rattle.log_runs.proofs.LogWorldOuts.{raft_in, raft_of, raft_by}
use Rattle.log_runs.proofs.LogWorldRows.{AllFit, alone, IsThere, IsBrought, LogStep, step_is}

-- the messages of the log among all that were sent
abbrev pub raft_sent : List Entry → List (Sent Change)
raft_sent past = filter_map raft_of (sent past)

-- the logs of all nodes
abbrev pub log_world : SetupState → List Entry → World Change
log_world setup past = record { node = λ n. (state setup n past).log.raft; up = λ n. (state setup n past).up; sent = raft_sent past }

-- ---- places of messages

-- a message of the log stands among those of the log
abbrev pub IsPlaced : List Entry → Envelope → RaftMessage Change → Type 0
IsPlaced past e m = (number : ℕ) × (message_to (raft_sent past) e.to.0 number ≡ Some (record { from = e.from; to = e.to; message = m }))

place_is : (past : List Entry) (e : Envelope) (m : RaftMessage Change) (place : ℕ) → slice_get (sent past) place ≡ Some e → e.message ≡ message.Raft m → IsPlaced past e m
place_is past e m place at is =
    let s : Sent Change = record { from = e.from; to = e.to; message = m } in
    let among = length (filter_map raft_of (take place (sent past))) in
    let there : slice_get (raft_sent past) among ≡ Some s = place_among raft_of (sent past) place e s at (ap (raft_in e.from e.to) is) in (
      suc among,
      ap (addressed e.to.0) there ∙ ap (λ b. cond b (Some s) None) (eq-eqb e.to.0 e.to.0 refl),
    )

pub placed_message : (past : List Entry) (number : ℕ) (e : Envelope) (m : RaftMessage Change) → message_at past number ≡ Some e → e.message ≡ message.Raft m → IsPlaced past e m
placed_message past zero e m at is = absurd (cc at)
placed_message past (suc k) e m at is =
    let same : k ≡ suc k - 1 = omega arith in
    let some : (suc k == 0) ≡ false = ne_eqb (suc k) 0 (λ q. absurd (omega (arith, q))) in
    place_is past e m k (ap (slice_get (sent past)) same ∙ ap (λ b. cond b None (slice_get (sent past) (suc k - 1))) (sym some) ∙ at) is

-- what comes to a node is there
there_is : (past : List Entry) (n : NodeId) (e : Envelope) (m : Message) → ((r : RaftMessage Change) → m ≡ message.Raft r → IsPlaced past e r) → e.to.0 ≡ n.0 → IsThere n (raft_sent past) e.from m
there_is past n e (message.Raft r) placed to =
    let p = placed r refl in
    (p.0, e.to, ap (λ k. message_to (raft_sent past) k p.0) (sym to) ∙ p.1)
there_is past n e (message.Say contract ack) placed to = tt
there_is past n e (message.Stream stream) placed to = tt
there_is past n e (message.Got got) placed to = tt

envelope_there : (past : List Entry) (n : NodeId) (number : ℕ) (o : Option Envelope) → message_at past number ≡ o → is_to o n ≡ true → IsBrought n (raft_sent past) (opened o)
envelope_there past n number None at to = tt
envelope_there past n number (Some e) at to = there_is past n e e.message (λ r is. placed_message past number e r at is) (eqb-true e.to.0 n.0 to)

brought_there : (past : List Entry) (n : NodeId) (input : Input) → arrives past n input ≡ true → IsBrought n (raft_sent past) (brought past input)
brought_there past n (Request op key what) h = tt
brought_there past n (GiveUp op) h = tt
brought_there past n (See other up) h = tt
brought_there past n Tick h = tt
brought_there past n (Deliver number) h = envelope_there past n number (message_at past number) refl h
brought_there past n Crash h = tt
brought_there past n Restart h = tt

-- ---- one entry more

moved : {S R : Type 0} (g : S → R) (f x : ℕ → S) (n k : ℕ) → g (cond (n == k) (x k) (f k)) ≡ set_at (λ j. g (f j)) n (g (x n)) k
moved g f x n k =
    elim (cases_eq k n) [
      | inl same ↦
          subst (λ m. g (cond (n == m) (x m) (f m)) ≡ cond (m == n) (g (x n)) (g (f m))) (sym same)
          (elim (n == n) as (λ b. g (cond b (x n) (f n)) ≡ cond b (g (x n)) (g (f n))) [ true ↦ refl | false ↦ refl ])
      | inr other ↦
          ap (λ b. g (cond b (x k) (f k))) (ne_eqb n k (λ e. other (sym e))) ∙ ap (λ b. cond b (g (x n)) (g (f k))) (sym (ne_eqb k n other))
    ]

pub raft_sent-next : (past : List Entry) (e : Entry) → raft_sent (e ∷ past) ≡ raft_sent past ++ raft_by e.node e.outputs
raft_sent-next past e = filter_map-append raft_of (sent past) (sent_by e.node e.outputs)

-- the state of a node after an entry, if it is of that node
abbrev pub moving : SetupState → List Entry → Entry → ℕ → NodeState
moving setup past e k = (node_step (state setup k past) e.input (brought past e.input)).node

module _ (setup : SetupState) (past : List Entry) (e : Entry) (h : IsStep setup past e) where
  abbrev before : NodeState
  before = state setup e.node.0 past

  abbrev pub after_entry : Stepped
  after_entry = node_step before e.input (brought past e.input)

  world_next : log_world setup (e ∷ past)
      ≡ placed (log_world setup past).node (log_world setup past).up e.node.0 (alone after_entry.node (raft_sent past ++ raft_by e.node after_entry.outs))
  world_next =
      let nodes : (log_world setup (e ∷ past)).node ≡ set_at (log_world setup past).node e.node.0 after_entry.node.log.raft =
      fun_ext (λ k. moved (λ (s : NodeState). s.log.raft) (λ j. state setup j past) (moving setup past e) e.node.0 k) in
      let ups : (log_world setup (e ∷ past)).up ≡ set_at (log_world setup past).up e.node.0 after_entry.node.up =
      fun_ext (λ k. moved (λ (s : NodeState). s.up) (λ j. state setup j past) (moving setup past e) e.node.0 k) in
      let more : raft_sent (e ∷ past) ≡ raft_sent past ++ raft_by e.node after_entry.outs =
      raft_sent-next past e ∙ ap (λ o. raft_sent past ++ raft_by e.node o) h.outputs in
      λ i. record { node = nodes i; up = ups i; sent = more i }

  pub entry_step : before.log.config ≡ setup → LogStep setup e.node (raft_sent past) before after_entry
  entry_step of =
      let a = nat_lt e.node.0 setup.nodes in
      let b = names_node setup e.input in
      let c = arrives past e.node e.input in
      let d = suits before.up e.input in
      let f = is_fresh past e.input in
      let g = not (ends_numbers before e.input (brought past e.input)) in
      let whole = and_parts (a && b && c && d && f) g h.allowed in
      let four = and_parts (a && b && c && d) f whole.0 in
      let three = and_parts (a && b && c) d four.0 in
      let two = and_parts (a && b) c three.0 in
      let one = and_parts a b two.0 in
      step_is setup e.node (raft_sent past) before of (ltb-true e.node.0 setup.nodes one.0) e.input (brought past e.input) three.1
      (not-true (ends_numbers before e.input (brought past e.input)) whole.1) (brought_there past e.node e.input two.1)

  pub entry_becomes : before.log.config ≡ setup → Becomes setup.nodes Noop (log_world setup past) (log_world setup (e ∷ past))
  entry_becomes of =
      goes_becomes setup.nodes Noop e.node (log_world setup past) (log_world setup (e ∷ past)) (alone before (raft_sent past))
      (alone after_entry.node (raft_sent past ++ raft_by e.node after_entry.outs)) (sym (placed_itself (log_world setup past) e.node.0)) world_next (entry_step of).goes

-- ---- what each run keeps

pub record RunFacts (setup : SetupState) (past : List Entry) : Type 0 where
  pub config : (n : ℕ) → (state setup n past).log.config ≡ setup
  pub logs : (n : ℕ) → log_fits setup.hashes (state setup n past).log.raft.log ≡ true
  pub sends : AllFit setup.hashes (raft_sent past)
  pub caught : (n : ℕ) → (state setup n past).log.acted ≡ (state setup n past).log.raft.view

-- what holds of the node of an entry after it, and of each other node before it, holds of each node after it
each_node : (P : NodeState → Type 0) (setup : SetupState) (past : List Entry) (e : Entry) → P (moving setup past e e.node.0) → ((n : ℕ) → P (state setup n past)) → (n : ℕ) → P (state setup n (e ∷ past))
each_node P setup past e own others n =
    cond_both (e.node.0 == n) (moving setup past e n) (state setup n past) P
    (λ same. subst (λ k. P (moving setup past e k)) (eqb-true e.node.0 n same) own) (λ _. others n)

pub run_facts : (setup : SetupState) (past : List Entry) → IsRun setup past → RunFacts setup past
run_facts setup [] h = record { config = λ n. refl; logs = λ n. refl; sends = tt; caught = λ n. refl }
run_facts setup (e ∷ past) h =
    let f = run_facts setup past h.1 in
    let s = entry_step setup past e h.0 (f.config e.node.0) in
    let fits = AllFit setup.hashes in
    let more : raft_sent past ++ raft_by e.node (after_entry setup past e h.0).outs ≡ raft_sent (e ∷ past) =
    ap (λ o. raft_sent past ++ raft_by e.node o) (sym h.0.outputs) ∙ sym (raft_sent-next past e) in
    record {
      config = each_node (λ t. t.log.config ≡ setup) setup past e s.config f.config;
      logs = each_node (λ t. log_fits setup.hashes t.log.raft.log ≡ true) setup past e (s.logs (f.logs e.node.0)) f.logs;
      sends = subst fits more (all_append (λ (m : Sent Change). raft_fits setup.hashes m.message ≡ true) (raft_sent past) (raft_by e.node (after_entry setup past e h.0).outs) f.sends (s.sends (f.logs e.node.0)));
      caught = each_node (λ t. t.log.acted ≡ t.log.raft.view) setup past e s.caught f.caught;
    }

-- ---- the moments of a run

-- the journal as it stood after so many entries; past the end, the whole
abbrev pub journal_at : List Entry → ℕ → List Entry
journal_at [] k = []
journal_at (e ∷ past) k = if nat_le k (length past) then journal_at past k else e ∷ past

pub journal_past : (past : List Entry) (k : ℕ) → length past ≤ k → journal_at past k ≡ past
journal_past [] k h = refl
journal_past (e ∷ past) k h =
    cond_both (nat_le k (length past)) (journal_at past k) (e ∷ past) (λ (l : List Entry). l ≡ e ∷ past)
    (λ low. let at : k ≤ length past = leb-true k (length past) low in absurd (omega (arith, at, h))) (λ _. refl)

pub journal_earlier : (later p : List Entry) → journal_at (later ++ p) (length p) ≡ p
journal_earlier [] p = journal_past p (length p) (omega arith)
journal_earlier (e ∷ later) p =
    let low : length p ≤ length (later ++ p) = omega (arith, length-append later p) in
    ap (λ b. cond b (journal_at (later ++ p) (length p)) (e ∷ (later ++ p))) (le-leb (length p) (length (later ++ p)) low) ∙ journal_earlier later p

abbrev pub part : SetupState → List Entry → ℕ → World Change
part setup past k = log_world setup (journal_at past k)

same_part : (setup : SetupState) (v w : List Entry) → v ≡ w → Becomes setup.nodes Noop (log_world setup v) (log_world setup w)
same_part setup v w e = record { events = []; is = ap (log_world setup) (sym e) }

journal_first : (past : List Entry) → journal_at past 0 ≡ []
journal_first [] = refl
journal_first (e ∷ past) =
    let low : 0 ≤ length past = omega arith in
    ap (λ b. cond b (journal_at past 0) (e ∷ past)) (le-leb 0 (length past) low) ∙ journal_first past

first_part : (setup : SetupState) (past : List Entry) → part setup past 0 ≡ start setup.nodes
first_part setup past = ap (log_world setup) (journal_first past)

next_part : (setup : SetupState) (past : List Entry) → IsRun setup past → (k : ℕ) → Becomes setup.nodes Noop (part setup past k) (part setup past (suc k))
next_part setup [] h k = same_part setup [] [] refl
next_part setup (e ∷ past) h k =
    let B : List Entry → List Entry → Type 0 = λ v w. Becomes setup.nodes Noop (log_world setup v) (log_world setup w) in
    cond_both (nat_le (suc k) (length past)) (journal_at past (suc k)) (e ∷ past) (B (journal_at (e ∷ past) k))
    (λ within.
    let at : suc k ≤ length past = leb-true (suc k) (length past) within in
    let low : k ≤ length past = omega (arith, at) in
    subst (λ b. B (cond b (journal_at past k) (e ∷ past)) (journal_at past (suc k))) (sym (le-leb k (length past) low)) (next_part setup past h.1 k))
    (λ past_it.
    cond_both (nat_le k (length past)) (journal_at past k) (e ∷ past) (λ v. B v (e ∷ past))
    (λ within.
    let over : length past < suc k = leb-false (suc k) (length past) past_it in
    let at : length past ≤ k = omega (arith, over) in
    subst (λ v. B v (e ∷ past)) (sym (journal_past past k at)) (entry_becomes setup past e h.0 ((run_facts setup past h.1).config e.node.0)))
    (λ _. same_part setup (e ∷ past) (e ∷ past) refl))

pub promises : (setup : SetupState) (past : List Entry) → IsRun setup past → KeepsPromises (part setup past)
promises setup past h =
    keeps_promises setup.nodes Noop (part setup past) (record { first = first_part setup past; next = λ k _. next_part setup past h k })
