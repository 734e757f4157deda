-- What a leader learns of the others, and what it then acts on.
use Rattle.std.proofs.Common.{◌≡◌, ◌==◌, ℕ, zero, suc, ◌<◌, ◌≤◌, ◌+◌, ◌*◌, max, nat_lt, nat_le, cond, Bool, true, false, inl, inr, List, [], ◌∷◌, length, map, filter, count_by, refl, sym, ap, subst, ◌∙◌, arith, slice_set}
use Rattle.std.proofs.lemmas.Bool.{cases_lt, cond_both, eq-eqb, eqb-true, and_parts, or_cases, leb-true, ltb-true, lt-ltb, or_left, or_right}
use Rattle.std.proofs.lemmas.List.Sums.{length-filter}
use Rattle.region_map.specs.declared.id.NodeId.{NodeId}
use Rattle.region_map.specs.Nodes.{has, node_id, is_majority}
use Rattle.raft_vote.specs.Log.{term_at}
use Rattle.raft_vote.specs.Rows.{is_leader, all_nodes}
use Rattle.raft_append.specs.declared.peers.Progress.{Progress}
use Rattle.raft_append.specs.Peers.{progress_at, progressed}
use Rattle.raft_append.specs.Commit.{matched_by, is_matched, greatest, is_decided, decided}
use Rattle.raft_node.specs.State.{RaftState}
use Rattle.raft_node.specs.Rows.{advanced}
use Rattle.raft_laws.specs.World.{kept}
use Rattle.raft_laws.proofs.Past.{Past}
use Rattle.raft_laws.proofs.Claims.{Certified}
use Rattle.raft_laws.proofs.Nodes.{Knows, NodeOk}
use Rattle.raft_laws.proofs.Moves.{sees, learns}
use Rattle.raft_laws.proofs.Leading.{leads_of, of_leads}

-- ---- what passes a test

has_filter : (p : ℕ → Bool) (xs : List ℕ) (x : ℕ) → has xs x ≡ true → p x ≡ true → has (filter p xs) x ≡ true
has_filter p [] x h e = h
has_filter p (y ∷ ys) x h e =
    cond_both (p y) (y ∷ filter p ys) (filter p ys) (λ (zs : List ℕ). has zs x ≡ true)
    (λ _. elim (or_cases (y == x) (has ys x) h) [
      | inl same ↦ or_left (y == x) (has (filter p ys) x) same
      | inr more ↦ or_right (y == x) (has (filter p ys) x) (has_filter p ys x more e)
    ])
    (λ no. elim (or_cases (y == x) (has ys x) h) [
      | inl same ↦
          let is : y ≡ x = eqb-true y x same in
          let clash : false ≡ true = sym no ∙ ap p is ∙ e in
          cc
      | inr more ↦ has_filter p ys x more e
    ])

filter_passes : (p : ℕ → Bool) (xs : List ℕ) (x : ℕ) → has (filter p xs) x ≡ true → p x ≡ true
filter_passes p [] x h = absurd (cc h)
filter_passes p (y ∷ ys) x h =
    cond_both (p y) (y ∷ filter p ys) (filter p ys) (λ (zs : List ℕ). has zs x ≡ true → p x ≡ true)
    (λ yes_y g. elim (or_cases (y == x) (has (filter p ys) x) g) [
      | inl same ↦ ap p (sym (eqb-true y x same)) ∙ yes_y
      | inr more ↦ filter_passes p ys x more
    ])
    (λ _ g. filter_passes p ys x g) h

passes_more : (p q : ℕ → Bool) (xs : List ℕ) → ((x : ℕ) → has xs x ≡ true → p x ≡ true → q x ≡ true) → length (filter p xs) ≤ length (filter q xs)
passes_more p q [] f = omega arith
passes_more p q (x ∷ xs) f =
    let rest = passes_more p q xs (λ y h. f y (or_right (x == y) (has xs y) h)) in
    let here : p x ≡ true → q x ≡ true = f x (or_left (x == x) (has xs x) (eq-eqb x x refl)) in
    cond_both (p x) (x ∷ filter p xs) (filter p xs) (λ (c : List ℕ). length c ≤ length (cond (q x) (x ∷ filter q xs) (filter q xs)))
    (λ e. let also = here e in rw also (omega (arith, rest)))
    (λ _. cond_both (q x) (x ∷ filter q xs) (filter q xs) (λ (c : List ℕ). length (filter p xs) ≤ length c) (λ _. omega (arith, rest)) (λ _. rest))

passes_map : (p : NodeId → Bool) (xs : List ℕ) → length (filter p (map node_id xs)) ≡ length (filter (λ x. p (node_id x)) xs)
passes_map p [] = refl
passes_map p (x ∷ xs) =
    elim (p (node_id x)) as (λ (b : Bool). length (cond b (node_id x ∷ filter p (map node_id xs)) (filter p (map node_id xs))) ≡ length (cond b (x ∷ filter (λ y. p (node_id y)) xs) (filter (λ y. p (node_id y)) xs))) [
      | true ↦ ap suc (passes_map p xs)
      | false ↦ passes_map p xs
    ]

majority_of : (p : NodeId → Bool) (nodes : List ℕ) → nat_lt (length nodes) (2 * count_by p (map node_id nodes)) ≡ true → is_majority (filter (λ k. p (node_id k)) nodes) nodes ≡ true
majority_of p nodes h =
    let most : length nodes < 2 * count_by p (map node_id nodes) = ltb-true (length nodes) (2 * count_by p (map node_id nodes)) h in
    let holders = filter (λ k. p (node_id k)) nodes in
    let more = passes_more (λ k. p (node_id k)) (has holders) nodes (λ x a b. has_filter (λ k. p (node_id k)) nodes x a b) in
    lt-ltb (length nodes) (2 * count_by (has (filter (λ k. p (node_id k)) nodes)) nodes) (omega (arith, most, more, passes_map p nodes, length-filter p (map node_id nodes), length-filter (has holders) nodes))

pub record Greatest (p : ℕ → Bool) (n : ℕ) (found : ℕ) : Type 0 where
  pub passes : p found ≡ true
  pub within : found ≤ n

greatest_found : (p : ℕ → Bool) (n : ℕ) → 0 < greatest p n → Greatest p n (greatest p n)
greatest_found p zero h = absurd (omega (arith, h))
greatest_found p (suc n) h =
    cond_both (p (suc n)) (suc n) (greatest p n) (λ (v : ℕ). 0 < v → Greatest p (suc n) v)
    (λ e _. record { passes = e; within = omega arith })
    (λ _ g. let r = greatest_found p n g in record { passes = r.passes; within = let w = r.within in omega (arith, w) }) h

-- ---- what a leader acts on

module _ {E : Type 0} (nodes : List ℕ) (p : Past E) (n : ℕ) (s : RaftState E) (o : NodeOk nodes p n s) where
  decided_seen : is_leader s.votes.role ≡ true → 0 < decided s.votes s.log s.peers → Certified nodes p s.votes.term s.log (decided s.votes s.log s.peers)
  decided_seen leading h =
      let d = decided s.votes s.log s.peers in
      let l = leads_of p n s.votes.role s.votes.term s.log s.peers leading o.role in
      let g = greatest_found (is_decided s.votes s.log s.peers) (length s.log) h in
      let parts = and_parts (term_at s.log d == s.votes.term) (is_matched s.votes (length s.log) s.peers d) g.passes in
      let test : NodeId → Bool = λ k. nat_le d (matched_by s.votes (length s.log) s.peers k) in
      let most : nat_lt (length nodes) (2 * count_by test (map node_id nodes)) ≡ true =
      subst (λ (v : List ℕ). nat_lt (length v) (2 * count_by test (map node_id v)) ≡ true) o.all parts.1 in
      record {
        term = s.votes.term;
        index = d;
        low = omega arith;
        reach = omega arith;
        decided = record {
          reign = record { leader = n; won = l.won; log = s.log };
          is = l.is;
          positive = h;
          within = g.within;
          own = eqb-true (term_at s.log d) s.votes.term parts.0;
          holders = filter (λ k. test (node_id k)) nodes;
          majority = majority_of test nodes most;
          each = λ k a.
              let pass = leb-true d (matched_by s.votes (length s.log) s.peers (node_id k)) (filter_passes (λ v. test (node_id v)) nodes k a) in
              let known : matched_by s.votes (length s.log) s.peers (node_id k) ≤ p.acks k s.votes.term =
              cond_both (k == s.votes.me.0) (length s.log) (progress_at s.peers k).matched (λ (v : ℕ). v ≤ p.acks k s.votes.term)
              (λ e.
              let same : n ≡ k = ap (λ (m : NodeId). m.0) (sym o.me) ∙ sym (eqb-true k s.votes.me.0 e) in
              subst (λ (v : ℕ). length s.log ≤ p.acks v s.votes.term) same l.mine)
              (λ _. (l.knows k).matched) in
              omega (arith, pass, known);
        };
        same = refl;
      }

  pub advances : NodeOk nodes p n (advanced s)
  advances =
      let d = decided s.votes s.log s.peers in
      cond_both (is_leader s.votes.role) (record s { view = max s.view d }) s (NodeOk nodes p n)
      (λ leading.
      sees nodes p n s o (max s.view d)
      (λ h. elim (cases_lt s.view d) [
        | inl more ↦
            let e : max s.view d ≡ d = omega (arith, more) in
            subst (Certified nodes p s.votes.term s.log) (sym e) (decided_seen leading (omega (arith, more)))
        | inr less ↦
            let e : max s.view d ≡ s.view = omega (arith, less) in
            subst (Certified nodes p s.votes.term s.log) (sym e) (o.seen (omega (arith, e, h)))
      ]))
      (λ _. o)

-- ---- what a leader is told

set_knows : (said last : ℕ) (peers : List Progress) (f k : ℕ) (x : Progress) → Knows said last (progress_at peers k) → (k ≡ f → Knows said last x) → Knows said last (progress_at (slice_set peers f x) k)
set_knows said last [] f k x h g = h
set_knows said last (y ∷ ys) zero zero x h g = g refl
set_knows said last (y ∷ ys) zero (suc k) x h g = h
set_knows said last (y ∷ ys) (suc f) zero x h g = h
set_knows said last (y ∷ ys) (suc f) (suc k) x h g = set_knows said last ys f k x h (λ e. g (ap suc e))

progressed_knows : (said last : ℕ) (p : Progress) (ok : Bool) (upto : ℕ) → Knows said last p → (ok ≡ true → upto ≤ said) → Knows said last (progressed p last ok upto)
progressed_knows said last p true upto h g =
    let l = g refl in
    let m = h.matched in
    let w = h.within in
    let n = h.next in
    cond_both (nat_le upto last) (record { matched = max p.matched upto; next = max p.next (max p.matched upto + 1) }) p (Knows said last)
    (λ e. let low = leb-true upto last e in record { matched = omega (arith, m, l); within = omega (arith, w, low); next = omega (arith, n, w, low) })
    (λ _. h)
progressed_knows said last p false upto h g =
    let n = h.next in
    record { matched = h.matched; within = h.within; next = omega (arith, n) }

module _ {E : Type 0} (nodes : List ℕ) (p : Past E) (n : ℕ) (s : RaftState E) (o : NodeOk nodes p n s) where
  pub hears : is_leader s.votes.role ≡ true → (from : NodeId) (ok : Bool) (upto : ℕ) → (ok ≡ true → upto ≤ p.acks from.0 s.votes.term)
      → NodeOk nodes p n (record s { peers = slice_set s.peers from.0 (progressed (progress_at s.peers from.0) (length s.log) ok upto) })
  hears leading from ok upto said =
      let l = leads_of p n s.votes.role s.votes.term s.log s.peers leading o.role in
      let peers = slice_set s.peers from.0 (progressed (progress_at s.peers from.0) (length s.log) ok upto) in
      learns nodes p n s o peers
      (of_leads p n s.votes.role s.votes.term s.log peers leading (record {
        won = l.won;
        is = l.is;
        mine = l.mine;
        knows = λ k.
            let told = progressed (progress_at s.peers from.0) (length s.log) ok upto in
            set_knows (p.acks k s.votes.term) (length s.log) s.peers from.0 k told (l.knows k)
            (λ e. subst (λ (v : ℕ). Knows (p.acks v s.votes.term) (length s.log) told) (sym e)
            (progressed_knows (p.acks from.0 s.votes.term) (length s.log) (progress_at s.peers from.0) ok upto (l.knows from.0) said));
      }))

-- a crash, and a restart
pub stops : {E : Type 0} (nodes : ℕ) (p : Past E) (n : ℕ) (s : RaftState E) → NodeOk (all_nodes nodes) p n s → NodeOk (all_nodes nodes) p n (kept nodes s)
stops nodes p n s o =
    record {
      me = o.me;
      all = refl;
      now = o.now;
      later = o.later;
      role = tt;
      grounded = o.grounded;
      upto = o.upto;
      led = λ u r e l. elim (o.led u r e l) [ inl below ↦ inl below | inr at ↦ inr (at.0, refl) ];
      acked = o.acked;
      seen = o.seen;
    }
