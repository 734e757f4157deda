-- Which messages wait between two nodes, as entries come and messages are lost.
use Rattle.std.proofs.Common.{◌≡◌, ℕ, zero, suc, ◌+◌, ◌-◌, ◌<◌, ◌≤◌, ◌==◌, Bool, true, false, cond, not, ◌&&◌, ◌||◌, nat_lt, nat_le, List, [], ◌∷◌, ◌++◌, length, Option, Some, None, is_some, refl, sym, ap, ap₂, ◌∙◌, arith, length-append, inl, inr}
use Rattle.std.proofs.lemmas.Bool.{false≢true, le-ltb, lt-ltb, and_parts, eqb-true, cases_eq, cases_lt, ne_eqb, or_left, or_cases}
use Rattle.std.proofs.lemmas.Bool.Decides.{nat_tests}
use Rattle.std.specs.Prelude.{slice_get}
use Rattle.exec_types.specs.declared.input.Input.{Input}
use Rattle.exec_types.specs.declared.input.Input.TheVariants.{Request, GiveUp, See, Tick, Deliver, Crash, Restart}
use Rattle.region_map.specs.declared.id.NodeId.{NodeId}
use Rattle.contract_types.specs.Setup.{SetupState}
use Rattle.node_core.specs.declared.journal.Entry.{Entry}
use Rattle.runs.specs.declared.envelope.Envelope.{Envelope}
use Rattle.world_steps.specs.declared.push_refused.PushRefused.{PushRefused}
use Rattle.world_steps.specs.declared.push_refused.PushRefused.TheVariants.{NoSuchNode}
use Rattle.runs.specs.Run.{sent, sent_by, numbered, message_at, state}
use Rattle.world_steps.specs.World.{AreSent, names_nodes, entries_refusal, owner_refusal, message_refusal, up_refusal, op_refusal, input_refusal, entry_refusal}
use Rattle.world_steps.specs.Waiting.{is_sent, delivers, is_delivered, is_lost, is_waiting, is_new, is_between}
use Rattle.world_steps.specs.Pairs.{waits_between, comes_between}
use Rattle.world_steps.proofs.Pairs.{is_pair}

-- ---- numbers of messages

has_place : (ms : List Envelope) (k : ℕ) → is_some (slice_get ms k) ≡ nat_lt k (length ms)
has_place [] k = sym (le-ltb k 0 (omega arith))
has_place (m ∷ ms) zero = sym (lt-ltb 0 (length (m ∷ ms)) (omega arith))
has_place (m ∷ ms) (suc k) = has_place ms k ∙ shift k (length ms) (length (m ∷ ms)) (omega arith)
  where
    shift : (a b c : ℕ) → c ≡ b + 1 → nat_lt a b ≡ nat_lt (suc a) c
    shift a b c e = grind (arith, nat_tests)

pub numbered_from : (ms : List Envelope) (k : ℕ) → numbered ms (suc k) ≡ slice_get ms k
numbered_from ms k =
    let place : suc k - 1 ≡ k = omega arith in
    ap (λ b. cond b None (slice_get ms (suc k - 1))) (ne_eqb (suc k) 0 (λ e. omega arith)) ∙ ap (slice_get ms) place

-- the messages are numbered from 1
pub has_number : (ms : List Envelope) (n : ℕ) → is_some (numbered ms n) ≡ (nat_lt 0 n && nat_le n (length ms))
has_number ms zero = refl
has_number ms (suc k) = ap (λ (o : Option Envelope). is_some o) (numbered_from ms k) ∙ has_place ms k ∙ shift k (length ms)
  where
    shift : (a b : ℕ) → nat_lt a b ≡ (nat_lt 0 (suc a) && nat_le (suc a) b)
    shift a b = grind (arith, nat_tests)

-- a number among more messages is one of these, or a new one
sent_more : (ms new : List Envelope) (n : ℕ) → is_some (numbered (ms ++ new) n) ≡ (is_some (numbered ms n) || is_new (length ms) (length (ms ++ new)) n)
sent_more ms new n =
    let count = length-append ms new in
    has_number (ms ++ new) n ∙ numbers n (length ms) (length (ms ++ new)) (omega (arith, count)) ∙ ap (λ b. b || is_new (length ms) (length (ms ++ new)) n) (sym (has_number ms n))
  where
    numbers : (n a b : ℕ) → a ≤ b → (nat_lt 0 n && nat_le n b) ≡ ((nat_lt 0 n && nat_le n a) || (nat_lt a n && nat_le n b))
    numbers n a b h = grind (arith, nat_tests)

-- a new number is none of those before
new_unsent : (ms : List Envelope) (n after : ℕ) → is_new (length ms) after n ≡ true → is_some (numbered ms n) ≡ false
new_unsent ms n after h = has_number ms n ∙ numbers n (length ms) after h
  where
    numbers : (n a b : ℕ) → (nat_lt a n && nat_le n b) ≡ true → (nat_lt 0 n && nat_le n a) ≡ false
    numbers n a b h = grind (arith, nat_tests)

-- what stands in front stays where more is put behind
front : (ms new : List Envelope) (k : ℕ) → is_some (slice_get ms k) ≡ true → slice_get (ms ++ new) k ≡ slice_get ms k
front [] new k h = absurd (false≢true h)
front (m ∷ ms) new zero h = refl
front (m ∷ ms) new (suc k) h = front ms new k h

seam : (ms : List Envelope) (e : Envelope) → slice_get (ms ++ e ∷ []) (length ms) ≡ Some e
seam [] e = refl
seam (m ∷ ms) e = ap (λ k. slice_get (m ∷ ms ++ e ∷ []) k) next ∙ seam ms e
  where
    next : length (m ∷ ms) ≡ suc (length ms)
    next = omega arith

pub numbered_before : (ms new : List Envelope) (n : ℕ) → is_some (numbered ms n) ≡ true → numbered (ms ++ new) n ≡ numbered ms n
numbered_before ms new zero h = refl
numbered_before ms new (suc k) h =
    numbered_from (ms ++ new) k ∙ front ms new k (ap (λ (o : Option Envelope). is_some o) (sym (numbered_from ms k)) ∙ h) ∙ sym (numbered_from ms k)

-- ---- messages that come between two nodes

-- the one that comes is the last
pub comes_one : (ms : List Envelope) (e : Envelope) (a b : NodeId) (n : ℕ) → comes_between (length ms) (ms ++ e ∷ []) a b n ≡ ((length ms + 1 == n) && is_between a b (Some e))
comes_one ms e a b n =
    let count : length (ms ++ e ∷ []) ≡ length ms + 1 = length-append ms (e ∷ []) in
    ap (λ c. is_new (length ms) c n && is_between a b (numbered (ms ++ e ∷ []) n)) count
    ∙ ap (λ x. x && is_between a b (numbered (ms ++ e ∷ []) n)) (one (length ms) n)
    ∙ last
  where
    one : (l n : ℕ) → (nat_lt l n && nat_le n (l + 1)) ≡ (l + 1 == n)
    one l n = grind (arith, nat_tests)

    last : ((length ms + 1 == n) && is_between a b (numbered (ms ++ e ∷ []) n)) ≡ ((length ms + 1 == n) && is_between a b (Some e))
    last = elim (cases_eq (length ms + 1) n) [
      | inl same ↦
          let at : suc (length ms) ≡ n = omega (arith, same) in
          ap (λ (m : Option Envelope). (length ms + 1 == n) && is_between a b m) (ap (numbered (ms ++ e ∷ [])) (sym at) ∙ numbered_from (ms ++ e ∷ []) (length ms) ∙ seam ms e)
      | inr other ↦
          let apart : (length ms + 1 == n) ≡ false = ne_eqb (length ms + 1) n other in
          ap (λ x. x && is_between a b (numbered (ms ++ e ∷ []) n)) apart ∙ ap (λ x. x && is_between a b (Some e)) (sym apart)
    ]

-- those that come behind some, and these, are those that come
pub comes_more : (ms more : List Envelope) (k : ℕ) → k ≤ length ms → (a b : NodeId) (n : ℕ)
    → (comes_between (length ms) (ms ++ more) a b n || comes_between k ms a b n) ≡ comes_between k (ms ++ more) a b n
comes_more ms more k low a b n =
    let count : length ms ≤ length (ms ++ more) = omega (arith, length-append ms more) in
    elim (cases_lt (length ms) n) [
      | inl behind ↦
          joined_behind (is_new (length ms) (length (ms ++ more)) n) (is_new k (length ms) n) (is_new k (length (ms ++ more)) n)
          (is_between a b (numbered (ms ++ more) n)) (is_between a b (numbered ms n))
          (late (length ms) k (length (ms ++ more)) n behind low) (not_yet k (length ms) n behind)
      | inr within ↦
          joined_within (is_new (length ms) (length (ms ++ more)) n) (is_new k (length ms) n) (is_new k (length (ms ++ more)) n)
          (is_between a b (numbered (ms ++ more) n)) (is_between a b (numbered ms n))
          (early (length ms) (length (ms ++ more)) n within) (same k (length ms) (length (ms ++ more)) n within count)
          (λ z. ap (is_between a b) (numbered_before ms more n (has_number ms n ∙ there k (length (ms ++ more)) (length ms) n z within)))
    ]
  where
    late : (l k c n : ℕ) → l < n → k ≤ l → (nat_lt l n && nat_le n c) ≡ (nat_lt k n && nat_le n c)
    late l k c n h g = grind (arith, nat_tests)

    not_yet : (k l n : ℕ) → l < n → (nat_lt k n && nat_le n l) ≡ false
    not_yet k l n h = grind (arith, nat_tests)

    early : (l c n : ℕ) → n ≤ l → (nat_lt l n && nat_le n c) ≡ false
    early l c n h = grind (arith, nat_tests)

    same : (k l c n : ℕ) → n ≤ l → l ≤ c → (nat_lt k n && nat_le n l) ≡ (nat_lt k n && nat_le n c)
    same k l c n h g = grind (arith, nat_tests)

    there : (k c l n : ℕ) → (nat_lt k n && nat_le n c) ≡ true → n ≤ l → (nat_lt 0 n && nat_le n l) ≡ true
    there k c l n z h = grind (arith, nat_tests)

    joined_behind : (x y z w v : Bool) → x ≡ z → y ≡ false → ((x && w) || (y && v)) ≡ (z && w)
    joined_behind true true z w v e f = absurd (false≢true (sym f))
    joined_behind true false z w v e f = rw (sym e) (or_no w)
      where
        or_no : (w : Bool) → (w || false) ≡ w
        or_no true = refl
        or_no false = refl
    joined_behind false true z w v e f = absurd (false≢true (sym f))
    joined_behind false false z w v e f = rw (sym e) refl

    joined_within : (x y z w v : Bool) → x ≡ false → y ≡ z → (z ≡ true → w ≡ v) → ((x && w) || (y && v)) ≡ (z && w)
    joined_within true y z w v e f h = absurd (false≢true (sym e))
    joined_within false true z w v e f h = rw (sym f) (sym (h (sym f)))
    joined_within false false z w v e f h = rw (sym f) refl

pub grows : (ms all more : List Envelope) (k : ℕ) → all ≡ ms ++ more → k ≤ length ms → k ≤ length all
grows ms all more k e low =
    let count : length all ≡ length ms + length more = ap length e ∙ length-append ms more in
    omega arith

pub comes_more_to : (ms all more : List Envelope) (k : ℕ) → all ≡ ms ++ more → k ≤ length ms → (a b : NodeId) (n : ℕ) (was : Bool)
    → (comes_between (length ms) all a b n || (comes_between k ms a b n || was)) ≡ (comes_between k all a b n || was)
comes_more_to ms all more k e low a b n was =
    ap (λ (l : List Envelope). comes_between (length ms) l a b n || (comes_between k ms a b n || was)) e
    ∙ grouped (comes_between (length ms) (ms ++ more) a b n) (comes_between k ms a b n) was
    ∙ ap (λ v. v || was) (comes_more ms more k low a b n ∙ ap (λ (l : List Envelope). comes_between k l a b n) (sym e))
  where
    grouped : (x y z : Bool) → (x || (y || z)) ≡ ((x || y) || z)
    grouped true y z = refl
    grouped false y z = refl

-- ---- one more entry

-- a message that an event delivers was sent
arrived_sent : (node : NodeId) (m : Option Envelope) (later : Option PushRefused) → owner_refusal m node later ≡ None → is_some m ≡ true
arrived_sent node None later e = absurd (cc)
arrived_sent node (Some m) later e = refl

delivered_sent : (past : List Entry) (node : NodeId) (input : Input) (later : Option PushRefused) (n : ℕ) → message_refusal past node input later ≡ None
    → delivers input n ≡ true → is_sent past n ≡ true
delivered_sent past node (Request op key what) later n e d = absurd (false≢true d)
delivered_sent past node (GiveUp op) later n e d = absurd (false≢true d)
delivered_sent past node (See other up) later n e d = absurd (false≢true d)
delivered_sent past node Tick later n e d = absurd (false≢true d)
delivered_sent past node (Deliver number) later n e d =
    ap (λ m. is_sent past m) (sym (eqb-true number n d)) ∙ arrived_sent node (message_at past number) later e
delivered_sent past node Crash later n e d = absurd (false≢true d)
delivered_sent past node Restart later n e d = absurd (false≢true d)

-- waiting goes by: sent, delivered before, lost, delivered now, new, and between the nodes as it was and as it is
rest : (s d l now new was is : Bool) → (d ≡ true → s ≡ true) → (l ≡ true → s ≡ true) → (now ≡ true → s ≡ true) → (new ≡ true → s ≡ false) → (s ≡ true → was ≡ is)
    → ((new && is) || (not (now && was) && ((s && (not d && not l)) && was))) ≡ (((s || new) && (not (now || d) && not l)) && is)
rest true d l now true was is hd hl hn hs hb = absurd (false≢true (sym (hs refl)))
rest true d l now false was is hd hl hn hs hb = rw (hb refl) (stays d l now is)
  where
    stays : (d l now is : Bool) → (not (now && is) && ((not d && not l) && is)) ≡ ((not (now || d) && not l) && is)
    stays true l true is = elim is as (λ b. (not b && false) ≡ false) [ true ↦ refl | false ↦ refl ]
    stays true l false is = refl
    stays false true true is = elim is as (λ b. (not b && false) ≡ false) [ true ↦ refl | false ↦ refl ]
    stays false true false is = refl
    stays false false true true = refl
    stays false false true false = refl
    stays false false false is = refl
rest false true l now new was is hd hl hn hs hb = absurd (false≢true (hd refl))
rest false false true now new was is hd hl hn hs hb = absurd (false≢true (hl refl))
rest false false false true new was is hd hl hn hs hb = absurd (false≢true (hn refl))
rest false false false false true true is hd hl hn hs hb = elim is as (λ b. (b || false) ≡ b) [ true ↦ refl | false ↦ refl ]
rest false false false false true false is hd hl hn hs hb = elim is as (λ b. (b || false) ≡ b) [ true ↦ refl | false ↦ refl ]
rest false false false false false was is hd hl hn hs hb = refl

pub waits_next : (past : List Entry) (lost : List ℕ) (e : Entry) (a b : NodeId) (n : ℕ) (before after : Bool)
    → AreSent past lost → (delivers e.input n ≡ true → is_sent past n ≡ true)
    → before ≡ waits_between past lost a b n
    → after ≡ (comes_between (length (sent past)) (sent past ++ sent_by e.node e.outputs) a b n || (not (delivers e.input n && is_between a b (message_at past n)) && before))
    → after ≡ waits_between (e ∷ past) lost a b n
waits_next past lost e a b n before after h arrives was is =
    let ms = sent past in
    let new = sent_by e.node e.outputs in
    let fresh : Bool = is_new (length ms) (length (ms ++ new)) n in
    let there = is_between a b (message_at past n) in
    let there' = is_between a b (message_at (e ∷ past) n) in
    is ∙ ap (λ v. (fresh && there') || (not (delivers e.input n && there) && v)) was
    ∙ rest (is_sent past n) (is_delivered past n) (is_lost lost n) (delivers e.input n) fresh there there' (h.delivered n) (h.lost_too n) arrives (new_unsent ms n (length (ms ++ new)))
    (λ s. ap (is_between a b) (sym (numbered_before ms new n s)))
    ∙ ap (λ v. (v && (not (delivers e.input n || is_delivered past n) && not (is_lost lost n))) && there') (sym (sent_more ms new n))

-- what was sent stays so
still_sent : (past : List Entry) (e : Entry) (n : ℕ) → is_sent past n ≡ true → is_sent (e ∷ past) n ≡ true
still_sent past e n h = sent_more (sent past) (sent_by e.node e.outputs) n ∙ or_left (is_sent past n) (is_new (length (sent past)) (length (sent past ++ sent_by e.node e.outputs)) n) h

pub sent_next : (past : List Entry) (lost : List ℕ) (e : Entry) → AreSent past lost → ((n : ℕ) → delivers e.input n ≡ true → is_sent past n ≡ true) → AreSent (e ∷ past) lost
sent_next past lost e h arrives =
    record {
      delivered = λ n d. still_sent past e n (elim (or_cases (delivers e.input n) (is_delivered past n) d) [ inl now ↦ arrives n now | inr old ↦ h.delivered n old ]);
      lost_too = λ n l. still_sent past e n (h.lost_too n l);
    }

pub arrives_sent : (setup : SetupState) (past : List Entry) (node : NodeId) (input : Input) → entry_refusal setup past node input ≡ None
    → (n : ℕ) → delivers input n ≡ true → is_sent past n ≡ true
arrives_sent setup past node input =
    elim (names_nodes setup node input) as (λ c. cond c (input_refusal setup past node input (entries_refusal past None)) (Some NoSuchNode) ≡ None → (n : ℕ) → delivers input n ≡ true → is_sent past n ≡ true) [
      | true ↦ λ e n d. delivered_sent past node input (up_refusal (state setup node.0 past).up input (op_refusal past input (entries_refusal past None))) n e d
      | false ↦ λ e n d. absurd (cc)
    ]

-- ---- more messages that are lost

lost_more : (lost more : List ℕ) (n : ℕ) → is_lost (lost ++ more) n ≡ (is_lost lost n || is_lost more n)
lost_more [] more n = refl
lost_more (x ∷ lost) more n =
    ap (λ b. (x == n) || b) (lost_more lost more n) ∙ elim (x == n) as (λ c. (c || (is_lost lost n || is_lost more n)) ≡ ((c || is_lost lost n) || is_lost more n)) [ true ↦ refl | false ↦ refl ]

unless_lost : (s d l m b : Bool) → (not (m && b) && ((s && (not d && not l)) && b)) ≡ ((s && (not d && not (l || m))) && b)
unless_lost s d l true true = off s d l
  where
    off : (s d l : Bool) → false ≡ ((s && (not d && not (l || true))) && true)
    off true true l = refl
    off true false true = refl
    off true false false = refl
    off false d l = refl
unless_lost s d l false b = ap (λ v. (s && (not d && not v)) && b) (no l)
  where
    no : (l : Bool) → l ≡ (l || false)
    no true = refl
    no false = refl
unless_lost s d l true false = both (s && (not d && not l)) (s && (not d && not (l || true)))
  where
    both : (x y : Bool) → (x && false) ≡ (y && false)
    both true true = refl
    both true false = refl
    both false true = refl
    both false false = refl

-- where those that are lost wait no longer between two nodes
pub waits_lost : (past : List Entry) (lost more : List ℕ) (a b : NodeId) (n : ℕ) (before after : Bool) → before ≡ waits_between past lost a b n
    → after ≡ (not (is_lost more n && is_between a b (message_at past n)) && before) → after ≡ waits_between past (lost ++ more) a b n
waits_lost past lost more a b n before after was is =
    let there = is_between a b (message_at past n) in
    is ∙ ap (λ v. not (is_lost more n && there) && v) was ∙ unless_lost (is_sent past n) (is_delivered past n) (is_lost lost n) (is_lost more n) there
    ∙ ap (λ v. (is_sent past n && (not (is_delivered past n) && not v)) && there) (sym (lost_more lost more n))

pub sent_lost : (past : List Entry) (lost more : List ℕ) → AreSent past lost → ((n : ℕ) → is_lost more n ≡ true → is_sent past n ≡ true) → AreSent past (lost ++ more)
sent_lost past lost more h s =
    record {
      delivered = h.delivered;
      lost_too = λ n l. elim (or_cases (is_lost lost n) (is_lost more n) (sym (lost_more lost more n) ∙ l)) [
        | inl old ↦ h.lost_too n old
        | inr now ↦ s n now
      ];
    }

-- one alone
pub lost_one : (m n : ℕ) → is_lost (m ∷ []) n ≡ (m == n)
lost_one m n = elim (m == n) as (λ c. (c || false) ≡ c) [ true ↦ refl | false ↦ refl ]

pub one_is_sent : (past : List Entry) (m : ℕ) → is_sent past m ≡ true → (n : ℕ) → is_lost (m ∷ []) n ≡ true → is_sent past n ≡ true
one_is_sent past m s n l = ap (is_sent past) (sym (eqb-true m n (sym (lost_one m n) ∙ l))) ∙ s

pub waiting_sent : (s d l b : Bool) → ((s && (not d && not l)) && b) ≡ true → s ≡ true
waiting_sent true d l b e = refl
waiting_sent false d l b e = absurd (false≢true e)

-- all that wait between two nodes are lost
all_lost : (p w ab ft : Bool) → (p ≡ true → ab ≡ ft) → (p ≡ false → (ab && ft) ≡ false) → (not p && (w && ab)) ≡ (not ((w && ft) && ab) && (w && ab))
all_lost true w ab ft h g = rw (h refl) (none w ft)
  where
    none : (w ft : Bool) → false ≡ (not ((w && ft) && ft) && (w && ft))
    none true true = refl
    none true false = refl
    none false ft = refl
all_lost false false ab ft h g = refl
all_lost false true true true h g = absurd (false≢true (sym (g refl)))
all_lost false true true false h g = refl
all_lost false true false ft h g = elim ft as (λ f. false ≡ (not (f && false) && false)) [ true ↦ refl | false ↦ refl ]

same_pair : (from to a b : NodeId) (m : Option Envelope) → is_pair from to a b ≡ true → is_between a b m ≡ is_between from to m
same_pair from to a b m e =
    let parts = and_parts (from.0 == a.0) (to.0 == b.0) e in
    ap₂ (λ (x y : ℕ). is_between (record { 0 = x }) (record { 0 = y }) m) (sym (eqb-true from.0 a.0 parts.0)) (sym (eqb-true to.0 b.0 parts.1))

other_pair : (from to a b : NodeId) (m : Option Envelope) → is_pair from to a b ≡ false → (is_between a b m && is_between from to m) ≡ false
other_pair from to a b None e = refl
other_pair from to a b (Some m) e = numbers m.from.0 m.to.0 from.0 to.0 a.0 b.0 e
  where
    numbers : (x y f t a b : ℕ) → ((f == a) && (t == b)) ≡ false → (((x == a) && (y == b)) && ((x == f) && (y == t))) ≡ false
    numbers x y f t a b e = grind (arith, nat_tests)

pub waits_emptied : (past : List Entry) (lost more : List ℕ) (from to a b : NodeId) (n : ℕ) (before after : Bool) → before ≡ waits_between past lost a b n
    → ((k : ℕ) → is_lost more k ≡ waits_between past lost from to k) → after ≡ (not (is_pair from to a b) && before) → after ≡ waits_between past (lost ++ more) a b n
waits_emptied past lost more from to a b n before after was all is =
    let m = message_at past n in
    waits_lost past lost more a b n before after was
    (is ∙ ap (λ v. not (is_pair from to a b) && v) was
    ∙ all_lost (is_pair from to a b) (is_waiting past lost n) (is_between a b m) (is_between from to m) (same_pair from to a b m) (other_pair from to a b m)
    ∙ ap (λ v. not (v && is_between a b m) && waits_between past lost a b n) (sym (all n)) ∙ ap (λ v. not (is_lost more n && is_between a b m) && v) (sym was))
