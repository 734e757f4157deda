-- The least number in the sets of pairs that may flow is the least message that does; and the whole of a set.
use Rattle.std.proofs.Common.{◌≡◌, ℕ, zero, suc, ◌+◌, ◌<◌, ◌≤◌, ◌==◌, Bool, true, false, cond, not, ◌&&◌, ◌||◌, nat_lt, nat_le, List, [], ◌∷◌, ◌++◌, length, get_or, Option, Some, None, inl, inr, refl, sym, ap, ap₂, ◌∙◌, subst, arith}
use Rattle.std.proofs.lemmas.Bool.{false≢true, ltb-true, leb-true, eqb-true, and_parts, or_left, or_right, or_cases, cases_eq, cases_Bool}
use Rattle.std.proofs.lemmas.Bool.Decides.{nat_tests}
use Rattle.std.proofs.lemmas.Map.Keys.{sorted_head, sorted_tail}
use Rattle.std.specs.List.{list_any, list_all, AllByRecursion}
use Rattle.std.specs.List.Sorted.{IsStrictlySortedBy}
use Rattle.std.specs.declared.cmp.Ordering.TheVariants.{Less}
use Rattle.std.specs.Ordering.{nat_cmp}
use Rattle.std.specs.BTreeMap.{is_at}
use Rattle.region_map.specs.declared.id.NodeId.{NodeId}
use Rattle.region_map.specs.Nodes.{has, node_id}
use Rattle.contract_types.specs.Setup.{SetupState}
use Rattle.node_core.specs.declared.journal.Entry.{Entry}
use Rattle.node_core.specs.Step.{NodeState}
use Rattle.runs.specs.declared.envelope.Envelope.{Envelope}
use Rattle.runs.specs.Run.{sent, message_at, state}
use Rattle.world_steps.specs.Waiting.{is_lost, is_waiting, is_sent, is_delivered, is_between, may_flow, is_flowing, first_from, all_from, waiting, waiting_between}
use Rattle.world_steps.specs.Pairs.{SetsState, AreWaiting, IsLeast, any_below, is_up_state, is_up_among, may_pass, set_of, pair_has, waits_between, flows_between, flows_from, flows_in}
use Rattle.std.specs.BTreeSet.{BTreeSet}
use Rattle.register_laws.specs.declared.operation.OpId.{OpId}
use Rattle.world_steps.specs.World.{states, AreSent, IsInStep}
use Rattle.world_steps.proofs.Waits.{has_number, waiting_sent, waits_emptied, sent_lost}
use Rattle.world_steps.proofs.States.{state_at}

-- ---- tests

iff : (x y : Bool) → (x ≡ true → y ≡ true) → (y ≡ true → x ≡ true) → x ≡ y
iff true y h g = sym (h refl)
iff false true h g = g refl
iff false false h g = refl

-- one below the bound that passes
any_found : (p : ℕ → Bool) (k : ℕ) → any_below p k ≡ true → (i : ℕ) × (i < k) × (p i ≡ true)
any_found p zero h = absurd (false≢true h)
any_found p (suc k) h =
    elim (or_cases (p k) (any_below p k) h) [
      | inl here ↦ (k, omega arith, here)
      | inr there ↦ let f = any_found p k there in (f.0, omega (arith, f.1), f.2)
    ]

any_at : (p : ℕ → Bool) (k i : ℕ) → i < k → p i ≡ true → any_below p k ≡ true
any_at p zero i h e = absurd (omega arith)
any_at p (suc k) i h e =
    elim (cases_eq i k) [
      | inl same ↦ or_left (p k) (any_below p k) (ap p (sym same) ∙ e)
      | inr other ↦ or_right (p k) (any_below p k) (any_at p k i (omega arith) e)
    ]

-- a member of nodes that are all below a bound is
member_below : (only : List ℕ) (bound n : ℕ) → list_all (λ k. nat_lt k bound) only ≡ true → has only n ≡ true → n < bound
member_below [] bound n all h = absurd (false≢true h)
member_below (k ∷ only) bound n all h =
    let parts = and_parts (nat_lt k bound) (list_all (λ k. nat_lt k bound) only) all in
    elim (or_cases (k == n) (has only n) h) [
      | inl here ↦ subst (λ m. m < bound) (eqb-true k n here) (ltb-true k bound parts.0)
      | inr there ↦ member_below only bound n parts.1 there
    ]

-- ---- messages that may flow

-- a node of the table is up as the journal says it
up_is : (setup : SetupState) (past : List Entry) (nodes : List (Option NodeState)) (n : ℕ) → nodes ≡ states setup past → n < setup.nodes → is_up_among nodes n ≡ (state setup n past).up
up_is setup past nodes n e h = ap (λ (l : List (Option NodeState)). is_up_state (get_or l n None)) e ∙ ap is_up_state (state_at setup past n h)

three : (x y z : Bool) → (x && y && z) ≡ true → (x ≡ true) × (y ≡ true) × (z ≡ true)
three true true true e = (refl, refl, refl)
three true true false e = absurd (false≢true e)
three true false z e = absurd (false≢true e)
three false y z e = absurd (false≢true e)

all_three : (x y z : Bool) → x ≡ true → y ≡ true → z ≡ true → (x && y && z) ≡ true
all_three x y z a b c = rw (a, b, c) refl

-- a message between nodes that may pass may flow
between_flows : (setup : SetupState) (past : List Entry) (only : List ℕ) (from to : NodeId) (m : Option Envelope) → is_between from to m ≡ true
    → has only from.0 ≡ true → has only to.0 ≡ true → (state setup to.0 past).up ≡ true → may_flow setup past only m ≡ true
between_flows setup past only from to None e hf ht u = absurd (false≢true e)
between_flows setup past only from to (Some m) e hf ht u =
    let parts = and_parts (m.from.0 == from.0) (m.to.0 == to.0) e in
    let f : m.from.0 ≡ from.0 = eqb-true m.from.0 from.0 parts.0 in
    let t : m.to.0 ≡ to.0 = eqb-true m.to.0 to.0 parts.1 in
    all_three (has only m.from.0) (has only m.to.0) (state setup m.to.0 past).up (ap (has only) f ∙ hf) (ap (has only) t ∙ ht) (ap (λ n. (state setup n past).up) t ∙ u)

-- one that may flow is between nodes that may
flows_between_own : (setup : SetupState) (past : List Entry) (only : List ℕ) (m : Option Envelope) → may_flow setup past only m ≡ true
    → (from : NodeId) × (to : NodeId) × (is_between from to m ≡ true) × (has only from.0 ≡ true) × (has only to.0 ≡ true) × ((state setup to.0 past).up ≡ true)
flows_between_own setup past only None e = absurd (false≢true e)
flows_between_own setup past only (Some m) e =
    let parts = three (has only m.from.0) (has only m.to.0) (state setup m.to.0 past).up e in
    (m.from, m.to, own m.from.0 m.to.0, parts.0, parts.1, parts.2)
  where
    own : (f t : ℕ) → ((f == f) && (t == t)) ≡ true
    own f t = grind (arith, nat_tests)

flows_are : (setup : SetupState) (past : List Entry) (lost only : List ℕ) (nodes : List (Option NodeState)) (s : SetsState) → nodes ≡ states setup past → AreWaiting setup s past lost
    → list_all (λ k. nat_lt k setup.nodes) only ≡ true → (n : ℕ) → flows_in nodes only s s.nodes n ≡ is_flowing setup past lost only n
flows_are setup past lost only nodes s e are within n = iff (flows_in nodes only s s.nodes n) (is_flowing setup past lost only n) forth back
  where
    forth : flows_in nodes only s s.nodes n ≡ true → is_flowing setup past lost only n ≡ true
    forth h =
        let f = any_found (λ (k : ℕ). flows_from nodes only s s.nodes (node_id k) n) s.nodes h in
        let t = any_found (λ (k : ℕ). flows_between nodes only s (node_id f.0) (node_id k) n) s.nodes f.2 in
        let both = and_parts (may_pass nodes only (node_id f.0) (node_id t.0)) (pair_has s (node_id f.0) (node_id t.0) n) t.2 in
        let pass = three (has only f.0) (has only t.0) (is_up_among nodes t.0) both.0 in
        let waits = and_parts (is_waiting past lost n) (is_between (node_id f.0) (node_id t.0) (message_at past n)) (sym (are.sets_are (node_id f.0) (node_id t.0) f.1 t.1 n) ∙ both.1) in
        let to_within : t.0 < setup.nodes = subst (λ m. t.0 < m) are.nodes_are t.1 in
        both_true (is_waiting past lost n) (may_flow setup past only (message_at past n)) waits.0
        (between_flows setup past only (node_id f.0) (node_id t.0) (message_at past n) waits.1 pass.0 pass.1 (sym (up_is setup past nodes t.0 e to_within) ∙ pass.2))
      where
        both_true : (x y : Bool) → x ≡ true → y ≡ true → (x && y) ≡ true
        both_true x y a b = rw (a, b) refl

    back : is_flowing setup past lost only n ≡ true → flows_in nodes only s s.nodes n ≡ true
    back h =
        let both = and_parts (is_waiting past lost n) (may_flow setup past only (message_at past n)) h in
        let own = flows_between_own setup past only (message_at past n) both.1 in
        let from = own.0 in
        let to = own.1 in
        let hf : from.0 < s.nodes = subst (λ m. from.0 < m) (sym are.nodes_are) (member_below only setup.nodes from.0 within own.3) in
        let to_within : to.0 < setup.nodes = member_below only setup.nodes to.0 within own.4 in
        let ht : to.0 < s.nodes = subst (λ m. to.0 < m) (sym are.nodes_are) to_within in
        let up : is_up_among nodes to.0 ≡ true = up_is setup past nodes to.0 e to_within ∙ own.5 in
        let waits : pair_has s from to n ≡ true = are.sets_are from to hf ht n ∙ both_true (is_waiting past lost n) (is_between from to (message_at past n)) both.0 own.2 in
        any_at (λ (k : ℕ). flows_from nodes only s s.nodes (node_id k) n) s.nodes from.0 hf
        (any_at (λ (k : ℕ). flows_between nodes only s from (node_id k) n) s.nodes to.0 ht
        (both_true (may_pass nodes only from to) (pair_has s from to n) (all_three (has only from.0) (has only to.0) (is_up_among nodes to.0) own.3 own.4 up) waits))
      where
        both_true : (x y : Bool) → x ≡ true → y ≡ true → (x && y) ≡ true
        both_true x y a b = rw (a, b) refl

-- ---- the least one

first_none : (p : ℕ → Bool) (count n : ℕ) → ((m : ℕ) → p m ≡ false) → first_from p count n ≡ None
first_none p zero n h = refl
first_none p (suc count) n h = ap (λ b. cond b (Some n) (first_from p count (n + 1))) (h n) ∙ first_none p count (n + 1) h

first_some : (p : ℕ → Bool) (count from n : ℕ) → p n ≡ true → from ≤ n → n < from + count → ((m : ℕ) → p m ≡ true → n ≤ m) → first_from p count from ≡ Some n
first_some p zero from n here low high least = absurd (omega arith)
first_some p (suc count) from n here low high least =
    elim (cases_eq from n) [
      | inl same ↦ ap (λ b. cond b (Some from) (first_from p count (from + 1))) (ap p same ∙ here) ∙ ap (λ (m : ℕ). Some m) same
      | inr other ↦
          let before : p from ≡ false = not_true (p from) (λ e. let past : n ≤ from = least from e in other (omega arith)) in
          ap (λ b. cond b (Some from) (first_from p count (from + 1))) before ∙ first_some p count (from + 1) n here (omega arith) (omega arith) least
    ]
  where
    not_true : (b : Bool) → (b ≡ true → ⊥) → b ≡ false
    not_true true h = absurd (h refl)
    not_true false h = refl

-- a message that was sent has its number among those that are tried
sent_within : (past : List Entry) (n : ℕ) → is_sent past n ≡ true → (1 ≤ n) × (n < 1 + length (sent past))
sent_within past n h =
    let parts = and_parts (nat_lt 0 n) (nat_le n (length (sent past))) (sym (has_number (sent past) n) ∙ h) in
    let low : 0 < n = ltb-true 0 n parts.0 in
    let high : n ≤ length (sent past) = leb-true n (length (sent past)) parts.1 in
    (omega arith, omega arith)

least_waits : (setup : SetupState) (past : List Entry) (lost only : List ℕ) (o : Option ℕ) → IsLeast (is_flowing setup past lost only) o → o ≡ waiting setup past lost only
least_waits setup past lost only None h = sym (first_none (is_flowing setup past lost only) (length (sent past)) 1 h)
least_waits setup past lost only (Some n) h =
    let within = sent_within past n (waiting_sent (is_sent past n) (is_delivered past n) (is_lost lost n) (may_flow setup past only (message_at past n)) h.0) in
    sym (first_some (is_flowing setup past lost only) (length (sent past)) 1 n h.0 within.0 within.1 h.1)

IsLeast-same : (p q : ℕ → Bool) (o : Option ℕ) → ((n : ℕ) → p n ≡ q n) → IsLeast p o → IsLeast q o
IsLeast-same p q None e h = λ n. sym (e n) ∙ h n
IsLeast-same p q (Some n) e h = (sym (e n) ∙ h.0, λ m g. h.1 m (e m ∙ g))

pub waiting_is : (setup : SetupState) (past : List Entry) (lost only : List ℕ) (nodes : List (Option NodeState)) (s : SetsState) (o : Option ℕ) → nodes ≡ states setup past
    → AreWaiting setup s past lost → list_all (λ k. nat_lt k setup.nodes) only ≡ true → IsLeast (flows_in nodes only s s.nodes) o → o ≡ waiting setup past lost only
waiting_is setup past lost only nodes s o e are within h =
    least_waits setup past lost only o (IsLeast-same (flows_in nodes only s s.nodes) (is_flowing setup past lost only) o (flows_are setup past lost only nodes s e are within) h)

-- ---- the whole of a set

-- a number is lost where it is a key
pub keys_lost : (keys : List ℕ) (n : ℕ) → list_any (is_at (nat_cmp n)) keys ≡ is_lost keys n
keys_lost [] n = refl
keys_lost (k ∷ keys) n = ap (λ b. b || list_any (is_at (nat_cmp n)) keys) (at n k) ∙ ap (λ b. (k == n) || b) (keys_lost keys n)
  where
    at : (n k : ℕ) → is_at (nat_cmp n) k ≡ (k == n)
    at n k = grind (arith, nat_tests)

-- the keys behind one are greater
lost_above : (k : ℕ) (keys : List ℕ) → AllByRecursion (λ y. nat_cmp k y ≡ Less) keys → (n : ℕ) → is_lost keys n ≡ true → k < n
lost_above k [] all n h = absurd (false≢true h)
lost_above k (x ∷ keys) all n h =
    elim (or_cases (x == n) (is_lost keys n) h) [
      | inl here ↦ subst (λ m. k < m) (eqb-true x n here) (less k x all.0)
      | inr there ↦ lost_above k keys all.1 n there
    ]
  where
    less : (k x : ℕ) → nat_cmp k x ≡ Less → k < x
    less k x e = grind (arith, nat_tests)

own_lost : (k : ℕ) (keys : List ℕ) → is_lost (k ∷ keys) k ≡ true
own_lost k keys = or_left (k == k) (is_lost keys k) (own k)
  where
    own : (k : ℕ) → (k == k) ≡ true
    own k = grind (arith, nat_tests)

lost_behind : (k : ℕ) (keys : List ℕ) (n : ℕ) → k < n → is_lost (k ∷ keys) n ≡ is_lost keys n
lost_behind k keys n h = ap (λ b. b || is_lost keys n) (other k n h)
  where
    other : (k n : ℕ) → k < n → (k == n) ≡ false
    other k n h = grind (arith, nat_tests)

-- a number that is no key is not among those that pass
abbrev AreKeys : (ℕ → Bool) → ℕ → ℕ → List ℕ → Type 0
AreKeys p count from keys = ((n : ℕ) → from ≤ n → is_lost keys n ≡ p n) × ((n : ℕ) → is_lost keys n ≡ true → (from ≤ n) × (n < from + count))

keys_past : (p : ℕ → Bool) (count from : ℕ) (keys : List ℕ) → p from ≡ false → AreKeys p (suc count) from keys → AreKeys p count (from + 1) keys
keys_past p count from keys f h = (
  λ n low. h.0 n (omega arith),
  λ n l.
      let w = h.1 n l in
      let other : from ≡ n → ⊥ = λ e. false≢true (sym (h.0 from (omega arith) ∙ f) ∙ ap (is_lost keys) e ∙ l) in
      (omega (arith, w.0, other), omega (arith, w.1)),
)

-- keys in order are the numbers that pass, where they are those among so many
keys_are : (p : ℕ → Bool) (count from : ℕ) (keys : List ℕ) → IsStrictlySortedBy nat_cmp keys → AreKeys p count from keys → keys ≡ all_from p count from
keys_are p zero from [] sorted h = refl
keys_are p zero from (k ∷ keys) sorted h = let w = h.1 k (own_lost k keys) in absurd (omega (arith, w.0, w.1))
keys_are p (suc count) from [] sorted h =
    let none : p from ≡ false = sym (h.0 from (omega arith)) in
    keys_are p count (from + 1) [] sorted (keys_past p count from [] none h) ∙ ap (λ b. cond b (from ∷ all_from p count (from + 1)) (all_from p count (from + 1))) (sym none)
keys_are p (suc count) from (k ∷ keys) sorted h =
    elim (cases_Bool (p from)) [
      | inl here ↦
          let above = lost_above k keys (sorted_head nat_cmp k keys sorted) in
          let w = h.1 k (own_lost k keys) in
          let same : k ≡ from = elim (or_cases (k == from) (is_lost keys from) (h.0 from (omega arith) ∙ here)) [
            | inl e ↦ eqb-true k from e
            | inr behind ↦ let a = above from behind in absurd (omega (arith, a, w.0))
          ] in
          ap₂ (λ (x : ℕ) (xs : List ℕ). x ∷ xs) same (keys_are p count (from + 1) keys (sorted_tail nat_cmp k keys sorted) (
            λ n low. sym (lost_behind k keys n (omega (arith, same, low))) ∙ h.0 n (omega (arith, low)),
            λ n l. let a = above n l in let v = h.1 n (or_right (k == n) (is_lost keys n) l) in (omega (arith, a, same), omega (arith, v.1)),
          )) ∙ ap (λ b. cond b (from ∷ all_from p count (from + 1)) (all_from p count (from + 1))) (sym here)
      | inr none ↦
          keys_are p count (from + 1) (k ∷ keys) sorted (keys_past p count from (k ∷ keys) none h)
          ∙ ap (λ b. cond b (from ∷ all_from p count (from + 1)) (all_from p count (from + 1))) (sym none)
    ]

pub all_between : (past : List Entry) (lost : List ℕ) (from to : NodeId) (keys : List ℕ) → IsStrictlySortedBy nat_cmp keys
    → ((n : ℕ) → list_any (is_at (nat_cmp n)) keys ≡ waits_between past lost from to n) → (keys ≡ waiting_between past lost from to) × ((n : ℕ) → is_lost keys n ≡ waits_between past lost from to n)
all_between past lost from to keys sorted h =
    let same : (n : ℕ) → is_lost keys n ≡ waits_between past lost from to n = λ n. sym (keys_lost keys n) ∙ h n in (
      keys_are (waits_between past lost from to) (length (sent past)) 1 keys sorted
          (λ n low. same n, λ n l. sent_within past n (waiting_sent (is_sent past n) (is_delivered past n) (is_lost lost n) (is_between from to (message_at past n)) (sym (same n) ∙ l))),
      same,
    )

-- ---- all that wait between two nodes are lost

pub IsInStep-between : (setup : SetupState) (past : List Entry) (lost more : List ℕ) (nodes : List (Option NodeState)) (messages : List Envelope) (waits waiting : SetsState) (requested : BTreeSet OpId) (from to : NodeId)
    → IsInStep setup past lost nodes messages waits requested → from.0 < waits.nodes → to.0 < waits.nodes → IsStrictlySortedBy nat_cmp (set_of waits from to).keys
    → more ≡ lost ++ (set_of waits from to).keys → waiting.nodes ≡ waits.nodes
    → ((a b : NodeId) → a.0 < waits.nodes → b.0 < waits.nodes → (n : ℕ) → pair_has waiting a b n ≡ (not ((from.0 == a.0) && (to.0 == b.0)) && pair_has waits a b n))
    → IsInStep setup past more nodes messages waiting requested
IsInStep-between setup past lost more nodes messages waits waiting requested from to h hf ht sorted l c w =
    let keys : List ℕ = (set_of waits from to).keys in
    let all = all_between past lost from to keys sorted (h.waits_are.sets_are from to hf ht) in
    record {
      states_are = h.states_are;
      sent_are = h.sent_are;
      waits_are = record {
        nodes_are = c ∙ h.waits_are.nodes_are;
        sets_are = λ a b ha hb k.
            let ha' : a.0 < waits.nodes = subst (λ (v : ℕ). a.0 < v) c ha in
            let hb' : b.0 < waits.nodes = subst (λ (v : ℕ). b.0 < v) c hb in
            waits_emptied past lost keys from to a b k (pair_has waits a b k) (pair_has waiting a b k) (h.waits_are.sets_are a b ha' hb' k) all.1 (w a b ha' hb' k)
            ∙ ap (λ (ls : List ℕ). waits_between past ls a b k) (sym l);
      };
      known_sent = subst (AreSent past) (sym l) (sent_lost past lost keys h.known_sent
          (λ n k. waiting_sent (is_sent past n) (is_delivered past n) (is_lost lost n) (is_between from to (message_at past n)) (sym (all.1 n) ∙ k)));
      ops_are = h.ops_are;
    }

pub lost_between : (setup : SetupState) (past : List Entry) (lost more : List ℕ) (waits : SetsState) (from to : NodeId) → AreWaiting setup waits past lost
    → from.0 < waits.nodes → to.0 < waits.nodes → IsStrictlySortedBy nat_cmp (set_of waits from to).keys → more ≡ lost ++ (set_of waits from to).keys
    → more ≡ lost ++ waiting_between past lost from to
lost_between setup past lost more waits from to h hf ht sorted l =
    l ∙ ap (λ (ks : List ℕ). lost ++ ks) (all_between past lost from to (set_of waits from to).keys sorted (h.sets_are from to hf ht)).0
