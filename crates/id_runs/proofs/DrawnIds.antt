-- The ids under which nodes ask for branches, and wait to join: none is drawn twice.
use Rattle.std.proofs.Common.{◌≡◌, ℕ, ◌+◌, ◌≤◌, ◌<◌, ◌==◌, true, false, cond, List, [], ◌∷◌, length, Option, Some, None, inl, inr, refl, sym, ap, ◌∙◌, subst, arith}
use Rattle.std.proofs.lemmas.Bool.{cond_both, false_from_ne_true}
use Rattle.std.specs.List.{AllByRecursion}
use Rattle.lead_runs.specs.runs.region_map.declared.id.Id.{Id}
use Rattle.lead_runs.specs.runs.region_map.declared.id.NodeId.{NodeId}
use Rattle.lead_runs.specs.runs.region_map.Nodes.{node_id}
use Rattle.lead_runs.specs.runs.branch_history.Histories.{knows}
use Rattle.lead_runs.specs.runs.contract_types.declared.contract.Contract.{Contract}
use Rattle.lead_runs.specs.runs.contract_types.declared.results.Viewed.{Viewed}
use Rattle.lead_runs.specs.runs.contract_types.Setup.{SetupState, IsSetup}
use Rattle.lead_runs.specs.runs.contract_types.Tables.{first_contracts}
use Rattle.lead_runs.specs.runs.contract_types.Tables.{setup as first_table}
use Rattle.lead_runs.specs.runs.table_apply.Conditions.{is_held_by}
use Rattle.lead_runs.specs.runs.table_log.Logs.{table_of, viewed}
use Rattle.lead_runs.specs.runs.coordinator.Acks.{with_ack}
use Rattle.lead_runs.specs.runs.coordinator.Proposals.{proposals_of, after_proposals}
use Rattle.lead_runs.specs.runs.exec_types.declared.message.Message.{Message as Sent}
use Rattle.lead_runs.specs.runs.exec_types.declared.message.Message.TheVariants as message
use Rattle.lead_runs.specs.runs.exec_types.declared.input.Input.{Input}
use Rattle.lead_runs.specs.runs.exec_types.declared.input.Input.TheVariants.{Request, GiveUp, See, Tick, Deliver, Crash, Restart}
use Rattle.lead_runs.specs.runs.secondary_exec.declared.waiting.Waiting.{Waiting}
use Rattle.lead_runs.specs.runs.primary_exec.declared.asking.Asking.{Asking}
use Rattle.lead_runs.specs.runs.node_core.declared.node.Brought.{Brought}
use Rattle.lead_runs.specs.runs.node_core.declared.journal.Entry.{Entry}
use Rattle.lead_runs.specs.runs.node_core.Step.{NodeState, Stepped, silent, leads, coordinates, propose_all, with_proposals, askings_from, id_in, primary_followed, waiting_with, waitings_from, message_row, is_well_formed, brought_row, input_row, act_on, node_step}
use Rattle.lead_runs.specs.runs.Run.{state, brought, IsRun}
use Rattle.lead_runs.specs.runs.Committed.{IsEarlier}
use Rattle.lead_runs.specs.runs.Story.{IsIn}
use Rattle.lead_runs.proofs.change_runs.AskedRuns.{contracts_stay}
use Rattle.lead_runs.proofs.log_runs.LogWorldRuns.{moving}
use Rattle.lead_runs.proofs.step_runs.PointBranches.{all_at, all_from}
use Rattle.lead_runs.proofs.LedRoles.{asked_from, IsAsking}
use Rattle.lead_runs.proofs.LedRuns.{run_roles, earlier_run}
use Rattle.lead_runs.proofs.LedAsked.{asking_own, first_life}

-- ---- the ids that a node draws as it comes up

-- those of branches have counters from one number on, below another
record IsDrawn (me : NodeId) (life first last : ℕ) (id : Id) : Type 0 where
  is : id ≡ id_in me life id.counter
  least : first ≤ id.counter
  most : id.counter < last

counter_is : (me : NodeId) (life counter : ℕ) (id : Id) → id_in me life counter ≡ id → IsDrawn me life counter (counter + 1) id
counter_is me life counter id e =
    let same : counter ≡ id.counter = ap (λ (x : Id). x.counter) e in
    record { is = sym e ∙ ap (id_in me life) same; least = omega (arith, same); most = omega (arith, same) }

asked_drawn : (me : NodeId) (life next : ℕ) (cs : List Contract) (a : Asking) → IsIn (askings_from me life next cs) a → IsDrawn me life next (next + length (askings_from me life next cs)) a.branch
asked_drawn me life next [] a i = absurd i
asked_drawn me life next (c ∷ cs) a i =
    let first : Asking = record { contract = c; branch = id_in me life next } in
    let later = askings_from me life (next + 1) cs in
    elim (is_held_by c.primary me) as (λ b. IsIn (cond b (first ∷ later) (askings_from me life next cs)) a
    → IsDrawn me life next (next + length (cond b (first ∷ later) (askings_from me life next cs))) a.branch) [
      | true ↦ λ j. elim j [
        | inl e ↦
            let d = counter_is me life next a.branch (ap (λ (x : Asking). x.branch) e) in
            let l = d.least in
            let m = d.most in
            record { is = d.is; least = l; most = omega (arith, m) }
        | inr more ↦
            let d = asked_drawn me life (next + 1) cs a more in
            let l = d.least in
            let m = d.most in
            record { is = d.is; least = omega (arith, l); most = omega (arith, m) }
      ]
      | false ↦ λ j. asked_drawn me life next cs a j
    ] i

pub asked_once : (me : NodeId) (life next : ℕ) (cs : List Contract) (a b : Asking) → IsIn (askings_from me life next cs) a → IsIn (askings_from me life next cs) b → a.branch ≡ b.branch → a ≡ b
asked_once me life next [] a b i j e = absurd i
asked_once me life next (c ∷ cs) a b i j e =
    let first : Asking = record { contract = c; branch = id_in me life next } in
    let later = askings_from me life (next + 1) cs in
    let counters : a.branch.counter ≡ b.branch.counter = ap (λ (x : Id). x.counter) e in
    elim (is_held_by c.primary me) as (λ v. IsIn (cond v (first ∷ later) (askings_from me life next cs)) a → IsIn (cond v (first ∷ later) (askings_from me life next cs)) b → a ≡ b) [
      | true ↦ λ k l. elim k [
        | inl f ↦ elim l [
          | inl g ↦ sym f ∙ g
          | inr m ↦
              let least = (asked_drawn me life (next + 1) cs b m).least in
              let own : next ≡ a.branch.counter = ap (λ (x : Asking). x.branch.counter) f in
              absurd (omega (arith, least, own, counters))
        ]
        | inr n ↦ elim l [
          | inl g ↦
              let least = (asked_drawn me life (next + 1) cs a n).least in
              let own : next ≡ b.branch.counter = ap (λ (x : Asking). x.branch.counter) g in
              absurd (omega (arith, least, own, counters))
          | inr m ↦ asked_once me life (next + 1) cs a b n m e
        ]
      ]
      | false ↦ λ k l. asked_once me life next cs a b k l e
    ] i j

waiting_drawn : (me : NodeId) (life next : ℕ) (cs : List Contract) (w : Waiting) → IsIn (waitings_from me life next cs) w → (w.asked ≡ id_in me life w.asked.counter) × (next ≤ w.asked.counter)
waiting_drawn me life next [] w i = absurd i
waiting_drawn me life next (c ∷ cs) w i =
    elim (primary_followed me c c.primary) as (λ o. IsIn (waiting_with me life next c o (λ n. waitings_from me life n cs)) w → (w.asked ≡ id_in me life w.asked.counter) × (next ≤ w.asked.counter)) [
      | None ↦ λ j. waiting_drawn me life next cs w j
      | Some primary ↦ λ j. elim j [
        | inl e ↦ let d = counter_is me life next w.asked (ap (λ (x : Waiting). x.asked) e) in (d.is, d.least)
        | inr more ↦ let d = waiting_drawn me life (next + 1) cs w more in let l = d.1 in (d.0, omega (arith, l))
      ]
    ] i

waiting_once : (me : NodeId) (life next : ℕ) (cs : List Contract) (v w : Waiting) → IsIn (waitings_from me life next cs) v → IsIn (waitings_from me life next cs) w → v.asked ≡ w.asked → v ≡ w
waiting_once me life next [] v w i j e = absurd i
waiting_once me life next (c ∷ cs) v w i j e =
    let counters : v.asked.counter ≡ w.asked.counter = ap (λ (x : Id). x.counter) e in
    elim (primary_followed me c c.primary) as (λ o. IsIn (waiting_with me life next c o (λ n. waitings_from me life n cs)) v
    → IsIn (waiting_with me life next c o (λ n. waitings_from me life n cs)) w → v ≡ w) [
      | None ↦ λ k l. waiting_once me life next cs v w k l e
      | Some primary ↦ λ k l. elim k [
        | inl f ↦ elim l [
          | inl g ↦ sym f ∙ g
          | inr m ↦
              let least = (waiting_drawn me life (next + 1) cs w m).1 in
              let own : next ≡ v.asked.counter = ap (λ (x : Waiting). x.asked.counter) f in
              absurd (omega (arith, least, own, counters))
        ]
        | inr n ↦ elim l [
          | inl g ↦
              let least = (waiting_drawn me life (next + 1) cs v n).1 in
              let own : next ≡ w.asked.counter = ap (λ (x : Waiting). x.asked.counter) g in
              absurd (omega (arith, least, own, counters))
          | inr m ↦ waiting_once me life (next + 1) cs v w n m e
        ]
      ]
    ] i j

-- ---- what waits was drawn in the present life

record Joining : Type 0 where
  life : ℕ
  waiting : List Waiting

abbrev joining : NodeState → Joining
joining s = record { life = s.life; waiting = s.waiting }

message_joining : (s : NodeState) (from : NodeId) (m : Sent) → joining (message_row s from m).node ≡ joining s
message_joining s from (message.Raft m) = refl
message_joining s from (message.Say contract ack) =
    cond_both (leads s.log) (record s { acks = with_ack contract from ack s.acks }) s (λ (t : NodeState). joining t ≡ joining s) (λ _. refl) (λ _. refl)
message_joining s from (message.Stream stream) = refl
message_joining s from (message.Got got) = refl

brought_joining : (s : NodeState) (b : Option Brought) → joining (brought_row s b).node ≡ joining s
brought_joining s None = refl
brought_joining s (Some b) =
    cond_both (is_well_formed s b) (message_row s b.from b.message) (silent s) (λ (step : Stepped). joining step.node ≡ joining s) (λ _. message_joining s b.from b.message) (λ _. refl)

tick_joining : (s : NodeState) → joining (with_proposals s) ≡ joining s
tick_joining s =
    cond_both (coordinates s.log)
    (record s { log = propose_all s.log (proposals_of s.acks (table_of s.log)); acks = after_proposals s.acks (table_of s.log) }) s
    (λ (t : NodeState). joining t ≡ joining s) (λ _. refl) (λ _. refl)

act_joining : (step : Stepped) (v : Option Viewed) → joining (act_on step v).node ≡ joining step.node
act_joining step None = refl
act_joining step (Some v) = refl

-- what a node waits for in a life
abbrev waits_from : NodeId → ℕ → List Contract → List Waiting
waits_from me life cs = waitings_from me life (length (askings_from me life 0 cs)) cs

abbrev AllDrawn : NodeId → List Contract → Joining → Type 0
AllDrawn me cs j = AllByRecursion (λ w. IsIn (waits_from me j.life cs) w) j.waiting

row_drawn : (s : NodeState) (input : Input) (b : Option Brought) → AllDrawn s.me (table_of s.log).contracts (joining s) → AllDrawn s.me (table_of s.log).contracts (joining (input_row s input b).node)
row_drawn s (Request op key what) b h = h
row_drawn s (GiveUp op) b h = h
row_drawn s (See other up) b h = h
row_drawn s Tick b h = subst (AllDrawn s.me (table_of s.log).contracts) (sym (tick_joining s)) h
row_drawn s (Deliver number) b h = subst (AllDrawn s.me (table_of s.log).contracts) (sym (brought_joining s b)) h
row_drawn s Crash b h = tt
row_drawn s Restart b h =
    let cs : List Contract = (table_of s.log).contracts in
    all_from (λ w. IsIn (waits_from s.me (s.life + 1) cs) w) (waits_from s.me (s.life + 1) cs) (λ w i. i)

step_drawn : (s : NodeState) (input : Input) (b : Option Brought) → AllDrawn s.me (table_of s.log).contracts (joining s) → AllDrawn s.me (table_of s.log).contracts (joining (node_step s input b).node)
step_drawn s input b h =
    let step : Stepped = input_row s input b in
    subst (AllDrawn s.me (table_of s.log).contracts) (sym (act_joining step (viewed step.node.log))) (row_drawn s input b h)

waits_drawn : (setup : SetupState) → IsSetup setup → (past : List Entry) → IsRun setup past → (n : ℕ) → AllDrawn (node_id n) (first_contracts 0 setup.shards) (joining (state setup n past))
waits_drawn setup ok [] run n = tt
waits_drawn setup ok (e ∷ past) run n =
    let before = waits_drawn setup ok past run.1 n in
    let s : NodeState = state setup n past in
    let D : NodeId → List Contract → NodeState → Type 0 = λ me cs t. AllDrawn me cs (joining t) in
    let me = (run_roles setup ok past run.1 n).me_is in
    let contracts = contracts_stay setup ok past run.1 n in
    cond_both (e.node.0 == n) (moving setup past e n) s (λ (t : NodeState). AllDrawn (node_id n) (first_contracts 0 setup.shards) (joining t))
    (λ _.
    let own : AllDrawn s.me (table_of s.log).contracts (joining s) =
    subst (λ (m : NodeId). AllDrawn m (table_of s.log).contracts (joining s)) (sym me) (subst (λ (cs : List Contract). AllDrawn (node_id n) cs (joining s)) (sym contracts) before) in
    let next : AllDrawn s.me (table_of s.log).contracts (joining (moving setup past e n)) = step_drawn s e.input (brought past e.input) own in
    subst (λ (cs : List Contract). AllDrawn (node_id n) cs (joining (moving setup past e n))) contracts
    (subst (λ (m : NodeId). AllDrawn m (table_of s.log).contracts (joining (moving setup past e n))) me next))
    (λ _. before)

-- ---- every run

module _ (setup : SetupState) (ok : IsSetup setup) (past : List Entry) (run : IsRun setup past) where
  -- what a node asks for at some moment
  asks : (p : List Entry) → IsEarlier past p → (n : ℕ) (a : Asking) → IsIn (state setup n p).asking a → IsAsking setup n (state setup n p).life a
  asks p early n a i =
      let then = earlier_run setup past p run early in
      all_at (IsAsking setup n (state setup n p).life) (state setup n p).asking (run_roles setup ok p then n).roles.askings a i

  waits : (p : List Entry) → IsEarlier past p → (n : ℕ) (w : Waiting) → IsIn (state setup n p).waiting w → IsIn (waits_from (node_id n) (state setup n p).life (first_contracts 0 setup.shards)) w
  waits p early n w i =
      all_at (λ v. IsIn (waits_from (node_id n) (state setup n p).life (first_contracts 0 setup.shards)) v) (state setup n p).waiting (waits_drawn setup ok p (earlier_run setup past p run early) n) w i

  asked_is : (p : List Entry) → IsEarlier past p → (n : ℕ) (a : Asking) → IsIn (state setup n p).asking a → a.branch ≡ id_in (node_id n) (state setup n p).life a.branch.counter
  asked_is p early n a i = (asked_drawn (node_id n) (state setup n p).life 0 (first_contracts 0 setup.shards) a (asks p early n a i).of).is

  waited_is : (p : List Entry) → IsEarlier past p → (n : ℕ) (w : Waiting) → IsIn (state setup n p).waiting w → w.asked ≡ id_in (node_id n) (state setup n p).life w.asked.counter
  waited_is p early n w i =
      let cs = first_contracts 0 setup.shards in
      (waiting_drawn (node_id n) (state setup n p).life (length (askings_from (node_id n) (state setup n p).life 0 cs)) cs w (waits p early n w i)).0

  pub asked_one : (p q : List Entry) → IsEarlier past p → IsEarlier past q → (n m : ℕ) (a b : Asking) → IsIn (state setup n p).asking a → IsIn (state setup m q).asking b → a.branch ≡ b.branch
      → (n ≡ m) × ((state setup n p).life ≡ (state setup m q).life) × (a ≡ b)
  asked_one p q early also n m a b i j e =
      let same = sym (asked_is p early n a i) ∙ e ∙ asked_is q also m b j in
      let nodes : n ≡ m = ap (λ (x : Id). x.node.0) same in
      let lives : (state setup n p).life ≡ (state setup m q).life = ap (λ (x : Id). x.life) same in
      let in_it : IsIn (asked_from setup n (state setup n p).life) b =
      subst (λ life. IsIn (asked_from setup n life) b) (sym lives) (subst (λ k. IsIn (asked_from setup k (state setup m q).life) b) (sym nodes) (asks q also m b j).of) in
      (nodes, lives, asked_once (node_id n) (state setup n p).life 0 (first_contracts 0 setup.shards) a b (asks p early n a i).of in_it e)

  pub waited_one : (p q : List Entry) → IsEarlier past p → IsEarlier past q → (n m : ℕ) (v w : Waiting) → IsIn (state setup n p).waiting v → IsIn (state setup m q).waiting w → v.asked ≡ w.asked
      → (n ≡ m) × ((state setup n p).life ≡ (state setup m q).life) × (v ≡ w)
  waited_one p q early also n m v w i j e =
      let cs : List Contract = first_contracts 0 setup.shards in
      let same = sym (waited_is p early n v i) ∙ e ∙ waited_is q also m w j in
      let nodes : n ≡ m = ap (λ (x : Id). x.node.0) same in
      let lives : (state setup n p).life ≡ (state setup m q).life = ap (λ (x : Id). x.life) same in
      let in_it : IsIn (waits_from (node_id n) (state setup n p).life cs) w =
      subst (λ life. IsIn (waits_from (node_id n) life cs) w) (sym lives) (subst (λ k. IsIn (waits_from (node_id k) (state setup m q).life cs) w) (sym nodes) (waits q also m w j)) in
      (nodes, lives, waiting_once (node_id n) (state setup n p).life (length (askings_from (node_id n) (state setup n p).life 0 cs)) cs v w (waits p early n v i) in_it e)

  pub asked_not_waited : (p q : List Entry) → IsEarlier past p → IsEarlier past q → (n m : ℕ) (a : Asking) (w : Waiting) → IsIn (state setup n p).asking a → IsIn (state setup m q).waiting w → a.branch ≡ w.asked → ⊥
  asked_not_waited p q early also n m a w i j e =
      let cs : List Contract = first_contracts 0 setup.shards in
      let same = sym (asked_is p early n a i) ∙ e ∙ waited_is q also m w j in
      let nodes : n ≡ m = ap (λ (x : Id). x.node.0) same in
      let lives : (state setup n p).life ≡ (state setup m q).life = ap (λ (x : Id). x.life) same in
      let counters : a.branch.counter ≡ w.asked.counter = ap (λ (x : Id). x.counter) e in
      let in_it : IsIn (waits_from (node_id n) (state setup n p).life cs) w =
      subst (λ life. IsIn (waits_from (node_id n) life cs) w) (sym lives) (subst (λ k. IsIn (waits_from (node_id k) (state setup m q).life cs) w) (sym nodes) (waits q also m w j)) in
      let most = (asked_drawn (node_id n) (state setup n p).life 0 cs a (asks p early n a i).of).most in
      let least = (waiting_drawn (node_id n) (state setup n p).life (length (askings_from (node_id n) (state setup n p).life 0 cs)) cs w in_it).1 in
      omega (arith, most, least, counters)

  -- each was drawn in a life after the first
  pub asked_new : (p : List Entry) → IsEarlier past p → (n : ℕ) (a : Asking) → IsIn (state setup n p).asking a → knows (first_table setup).history a.branch ≡ false
  asked_new p early n a i =
      false_from_ne_true _ (λ known.
      let then = earlier_run setup past p run early in
      let later = (asks p early n a i).later in
      let own = (asking_own setup p then n a i).life_is in
      elim (first_life setup.hashes 0 setup.shards [] a.branch known) [
        | inl none ↦ absurd (cc none)
        | inr one ↦ absurd (omega (arith, later, own, one))
      ])
