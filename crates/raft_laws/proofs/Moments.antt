-- Two moments of one run.
use Rattle.std.proofs.Common.{◌≡◌, ℕ, zero, suc, ◌<◌, ◌≤◌, nat_lt, true, inl, inr, List, [], ◌∷◌, ◌++◌, length, take, drop, Some, refl, sym, ap, ◌∙◌, arith, take-append-drop}
use Rattle.std.proofs.lemmas.Bool.{cases_lt, and_parts, and_from, lt-ltb}
use Rattle.std.proofs.lemmas.List.{take-take}
use Rattle.region_map.specs.declared.id.NodeId.{NodeId}
use Rattle.raft_vote.specs.declared.log.LogEntry.{LogEntry}
use Rattle.raft_vote.specs.Rows.{all_nodes, is_leader}
use Rattle.raft_node.specs.Rows.{keeps_view}
use Rattle.schedule_laws.specs.Schedules.{run}
use Rattle.raft_laws.specs.declared.event.RaftEvent.{RaftEvent}
use Rattle.raft_laws.specs.World.{World, start, happens, moment, leads, term_of_node, log_of, committed}
use Rattle.raft_laws.specs.Laws.{IsFrontOf, VotesLast, OneLeader, LogsMatch, LeadersComplete, TermsRise, NodesAgree, ViewsGrow, DeliveriesFit}
use Rattle.raft_laws.proofs.Logs.{as_long, front_of, shorter}
use Rattle.raft_laws.proofs.Past.{Past, Ballot, Reign, Cast, Cast-grows, Grows, Grows-more, Grounded, Grounded-grows, matching, one_reign}
use Rattle.raft_laws.proofs.Claims.{Certified, Certified-grows, Certified-within, PastOk}
use Rattle.raft_laws.proofs.Completeness.{has_certified, has_won, agree}
use Rattle.raft_laws.proofs.Leading.{leads_of, grounded_rises}
use Rattle.raft_laws.proofs.Rows.{cast_of}
use Rattle.raft_laws.proofs.Runs.{Good, happens_since, run_since, message_so, no_past, start_good}
use Rattle.raft_laws.proofs.Lasting.{Lasts, lasts_from}
use Rattle.raft_laws.proofs.Fitting.{sender_is, all_nodes-length, keeps_said}

front : {X : Type 0} (v : ℕ) (xs ys : List X) → take v xs ≡ take v ys → IsFrontOf (take v xs) ys
front v xs ys e = record { rest = drop v ys; is = sym (take-append-drop v ys) ∙ ap (λ l. l ++ drop v ys) (sym e) }

-- a log that leads, or led, is a front of the last log of its term, and begins with the log that won
pub record Led {E : Type 0} (p : Past E) (n term : ℕ) (log : List (LogEntry E)) : Type 0 where
  pub reign : Reign E
  pub is : p.reigns term ≡ Some reign
  pub leader : reign.leader ≡ n
  pub since : List (LogEntry E)
  pub won : log ≡ reign.won ++ since

-- what stays true of a world, whatever happens later
pub record Stays {E : Type 0} (nodes : ℕ) (p : Past E) (w : World E) : Type 0 where
  pub grounded : (n : ℕ) → Grounded p (w.node n).log
  pub led : (n : ℕ) → is_leader (w.node n).votes.role ≡ true → Led p n (w.node n).votes.term (w.node n).log
  pub cast : (n : ℕ) (c : NodeId) → (w.node n).votes.vote ≡ Some c → Cast p n (w.node n).votes.term c
  pub seen : (n : ℕ) → 0 < (w.node n).view → Certified (all_nodes nodes) p (w.node n).votes.term (w.node n).log (w.node n).view

module _ {E : Type 0} (nodes : ℕ) where
  stays_good : (p : Past E) (w : World E) → Good nodes p w → Stays nodes p w
  stays_good p w g =
      record {
        grounded = λ n. (g.each n).grounded;
        led = λ n e.
            let s = w.node n in
            let l = leads_of p n s.votes.role s.votes.term s.log s.peers e (g.each n).role in
            let reign = g.past.reigns s.votes.term (record { leader = n; won = l.won; log = s.log }) l.is in
            record { reign = record { leader = n; won = l.won; log = s.log }; is = l.is; leader = refl; since = reign.rest; won = reign.is };
        cast = λ n c e. let t = (w.node n).votes.term in cast_of p n t c (p.ballots n t) refl ((g.each n).now ∙ e);
        seen = λ n h. (g.each n).seen h;
      }

  stays_grows : (p q : Past E) (w : World E) → Grows p q → Stays nodes p w → Stays nodes q w
  stays_grows p q w g s =
      record {
        grounded = λ n. Grounded-grows p q (w.node n).log g (s.grounded n);
        led = λ n e.
            let l = s.led n e in
            let new = g.reigns (w.node n).votes.term l.reign l.is in
            record { reign = record { leader = l.reign.leader; won = l.reign.won; log = l.reign.log ++ new.rest }; is = new.is; leader = l.leader; since = l.since; won = l.won };
        cast = λ n c e. Cast-grows p q n (w.node n).votes.term c g (s.cast n c e);
        seen = λ n h. Certified-grows p q g (all_nodes nodes) (w.node n).votes.term (w.node n).log (w.node n).view (s.seen n h);
      }

  -- a past that has grown from p, by which what was so at two moments is so
  pub record Both (p : Past E) (v w : World E) : Type 0 where
    pub now : Past E
    pub grows : Grows p now
    pub past : PastOk (all_nodes nodes) now
    pub one : Stays nodes now v
    pub two : Stays nodes now w

  -- the second world comes after the first, and the past is as it is there
  pub record Then (p : Past E) (v w : World E) : Type 0 where
    pub now : Past E
    pub grows : Grows p now
    pub one : Stays nodes now v
    pub two : Good nodes now w

  abbrev goes : E → List (NodeId × RaftEvent E) → World E → World E
  goes noop events w = run (happens nodes noop) events w

  then_after : (noop : E) (p : Past E) (w : World E) (events : List (NodeId × RaftEvent E)) → Good nodes p w → Then p w (goes noop events w)
  then_after noop p w events g =
      let s = run_since nodes noop events p w g in
      record { now = s.now; grows = s.grows; one = stays_grows p s.now w s.grows (stays_good p w g); two = s.good }

  both_then : (p : Past E) (v w : World E) → Then p v w → Both p v w
  both_then p v w t = record { now = t.now; grows = t.grows; past = t.two.past; one = t.one; two = stays_good t.now w t.two }

  turned : (p : Past E) (v w : World E) → Both p v w → Both p w v
  turned p v w b = record { now = b.now; grows = b.grows; past = b.past; one = b.two; two = b.one }

  both_from : (noop : E) (p : Past E) (events : List (NodeId × RaftEvent E)) (w : World E) (i j : ℕ) → Good nodes p w → Both p (goes noop (take i events) w) (goes noop (take j events) w)
  both_from noop p events w zero j g = both_then p w (goes noop (take j events) w) (then_after noop p w (take j events) g)
  both_from noop p events w (suc i) zero g = turned p w (goes noop (take (suc i) events) w) (both_then p w (goes noop (take (suc i) events) w) (then_after noop p w (take (suc i) events) g))
  both_from noop p [] w (suc i) (suc j) g = both_then p w w (then_after noop p w [] g)
  both_from noop p (e ∷ es) w (suc i) (suc j) g =
      let first = happens_since nodes noop p w e g in
      let rest = both_from noop first.now es (happens nodes noop w e) i j first.good in
      record { now = rest.now; grows = Grows-more p first.now rest.now first.grows rest.grows; past = rest.past; one = rest.one; two = rest.two }

  then_from : (noop : E) (p : Past E) (events : List (NodeId × RaftEvent E)) (w : World E) (i j : ℕ) → i ≤ j → Good nodes p w → Then p (goes noop (take i events) w) (goes noop (take j events) w)
  then_from noop p events w zero j h g = then_after noop p w (take j events) g
  then_from noop p events w (suc i) zero h g = absurd (omega (arith, h))
  then_from noop p [] w (suc i) (suc j) h g = then_after noop p w [] g
  then_from noop p (e ∷ es) w (suc i) (suc j) h g =
      let first = happens_since nodes noop p w e g in
      let rest = then_from noop first.now es (happens nodes noop w e) i j (omega (arith, h)) first.good in
      record { now = rest.now; grows = Grows-more p first.now rest.now first.grows rest.grows; one = rest.one; two = rest.two }

  pub both : (noop : E) (events : List (NodeId × RaftEvent E)) (i j : ℕ) → Both no_past (moment nodes noop events i) (moment nodes noop events j)
  both noop events i j = both_from noop no_past events (start nodes) i j (start_good nodes)

  pub then_moment : (noop : E) (events : List (NodeId × RaftEvent E)) (i j : ℕ) → i ≤ j → Then no_past (moment nodes noop events i) (moment nodes noop events j)
  then_moment noop events i j h = then_from noop no_past events (start nodes) i j h (start_good nodes)

  -- ---- the laws

  pub one_leader : (noop : E) → OneLeader nodes noop
  one_leader noop events i j a b leads_a leads_b same =
      let v = moment nodes noop events i in
      let w = moment nodes noop events j in
      let p = both noop events i j in
      let x = p.one.led a (and_parts (v.up a) (is_leader (v.node a).votes.role) leads_a).1 in
      let y = p.two.led b (and_parts (w.up b) (is_leader (w.node b).votes.role) leads_b).1 in
      let one = one_reign p.now (w.node b).votes.term x.reign y.reign (ap p.now.reigns (sym same) ∙ x.is) y.is in
      sym x.leader ∙ ap (λ (r : Reign E). r.leader) one ∙ y.leader

  pub logs_match : (noop : E) → LogsMatch nodes noop
  logs_match noop events i j a b index within_a within_b same =
      let v = moment nodes noop events i in
      let w = moment nodes noop events j in
      let p = both noop events i j in
      (matching p.now (v.node a).log (w.node b).log (p.one.grounded a) (p.two.grounded b)).at index within_a within_b same

  later_term : (noop : E) (events : List (NodeId × RaftEvent E)) (i j a b : ℕ) → leads (moment nodes noop events j) b ≡ true
      → term_of_node (moment nodes noop events i) a < term_of_node (moment nodes noop events j) b → IsFrontOf (committed (moment nodes noop events i) a) (log_of (moment nodes noop events j) b)
  later_term noop events i j a b leading h =
      let v = moment nodes noop events i in
      let w = moment nodes noop events j in
      let s = v.node a in
      let p = both noop events i j in
      let led = p.two.led b (and_parts (w.up b) (is_leader (w.node b).votes.role) leading).1 in
      front s.view s.log (w.node b).log
      (elim (cases_lt 0 s.view) [
        | inl some ↦
            let c = p.one.seen a some in
            let low = c.low in
            let whole = has_won (all_nodes nodes) p.now p.past c.term c.index c.decided (w.node b).votes.term led.reign (omega (arith, low, h)) led.is in
            let won : take s.view s.log ≡ take s.view led.reign.won = c.same ∙ sym (shorter s.view c.index led.reign.won c.decided.reign.log whole c.reach) in
            let within : s.view ≤ length led.reign.won = as_long s.view s.log led.reign.won won (Certified-within (all_nodes nodes) p.now s.votes.term s.log s.view c) in
            won ∙ sym (ap (take s.view) led.won ∙ front_of led.reign.won led.since s.view within)
        | inr none ↦ let z : s.view ≡ 0 = omega (arith, none) in rw z refl
      ])

  later_moment : (noop : E) (events : List (NodeId × RaftEvent E)) (i j a b : ℕ) → i ≤ j → leads (moment nodes noop events j) b ≡ true
      → term_of_node (moment nodes noop events i) a ≤ term_of_node (moment nodes noop events j) b → IsFrontOf (committed (moment nodes noop events i) a) (log_of (moment nodes noop events j) b)
  later_moment noop events i j a b ij leading h =
      let v = moment nodes noop events i in
      let w = moment nodes noop events j in
      let s = v.node a in
      let t = w.node b in
      let p = then_moment noop events i j ij in
      let l = leads_of p.now b t.votes.role t.votes.term t.log t.peers (and_parts (w.up b) (is_leader t.votes.role) leading).1 (p.two.each b).role in
      front s.view s.log t.log
      (elim (cases_lt 0 s.view) [
        | inl some ↦ has_certified (all_nodes nodes) p.now p.two.past s.votes.term s.log s.view (p.one.seen a some) t.votes.term (record { leader = b; won = l.won; log = t.log }) h l.is
        | inr none ↦ let z : s.view ≡ 0 = omega (arith, none) in rw z refl
      ])

  pub leaders_complete : (noop : E) → LeadersComplete nodes noop
  leaders_complete noop = record { later_term = later_term noop; later_moment = later_moment noop }

  -- the node with the smaller view has a front of the other's log
  pub agreed : (p : Past E) (v w : World E) → PastOk (all_nodes nodes) p → Stays nodes p v → Stays nodes p w → (a b : ℕ) → (v.node a).view ≤ (w.node b).view → IsFrontOf (committed v a) (committed w b)
  agreed p v w ok x y a b h =
      let s = v.node a in
      let t = w.node b in
      let same : take s.view s.log ≡ take s.view t.log = elim (cases_lt 0 s.view) [
        | inl some ↦ agree (all_nodes nodes) p ok s.votes.term t.votes.term s.log t.log s.view t.view h (x.seen a some) (y.seen b (omega (arith, some, h)))
        | inr none ↦ let z : s.view ≡ 0 = omega (arith, none) in rw z refl
      ] in
      front s.view s.log (take t.view t.log) (same ∙ sym (take-take s.view t.view t.log h))

  pub nodes_agree : (noop : E) → NodesAgree nodes noop
  nodes_agree noop events i j a b =
      let v = moment nodes noop events i in
      let w = moment nodes noop events j in
      let p = both noop events i j in
      elim (cases_lt (v.node a).view (w.node b).view) [
        | inl less ↦ inl (agreed p.now v w p.past p.one p.two a b (omega (arith, less)))
        | inr more ↦ inr (agreed p.now w v p.past p.two p.one b a more)
      ]

  -- ---- what never goes back

  -- a node at two moments, the second not before the first
  pub lasts : (noop : E) (events : List (NodeId × RaftEvent E)) (i j n : ℕ) → i ≤ j → Lasts ((moment nodes noop events i).node n) ((moment nodes noop events j).node n)
  lasts noop events i j n h = lasts_from nodes noop events (start nodes) i j n h

  one_vote : (noop : E) (events : List (NodeId × RaftEvent E)) (i j n : ℕ) (c d : NodeId) → term_of_node (moment nodes noop events i) n ≡ term_of_node (moment nodes noop events j) n
      → ((moment nodes noop events i).node n).votes.vote ≡ Some c → ((moment nodes noop events j).node n).votes.vote ≡ Some d → c ≡ d
  one_vote noop events i j n c d same e f =
      let w = moment nodes noop events j in
      let p = both noop events i j in
      let x = p.one.cast n c e in
      let y = p.two.cast n d f in
      let two : Some x.ballot ≡ Some y.ballot = sym x.is ∙ ap (p.now.ballots n) same ∙ y.is in
      let one : x.ballot ≡ y.ballot = cc in
      sym x.self ∙ ap (λ (b : Ballot E). b.for_node) one ∙ y.self

  pub votes_last : (noop : E) → VotesLast nodes noop
  votes_last noop =
      record {
        term = λ events i j n h. (lasts noop events i j n h).term;
        vote = λ events i j n c h e v. (lasts noop events i j n h).vote c e v;
        one = one_vote noop;
      }

  pub views_grow : (noop : E) → ViewsGrow nodes noop
  views_grow noop =
      record {
        view = λ events i j n h. (lasts noop events i j n h).view;
        within = λ events i n.
            let w = moment nodes noop events i in
            let p = both noop events i i in
            elim (cases_lt 0 (w.node n).view) [
              | inl some ↦ Certified-within (all_nodes nodes) p.now (w.node n).votes.term (w.node n).log (w.node n).view (p.one.seen n some)
              | inr none ↦ omega (arith, none)
            ];
        committed = λ events i j n h.
            let v = moment nodes noop events i in
            let w = moment nodes noop events j in
            let p = both noop events i j in
            agreed p.now v w p.past p.one p.two n n (lasts noop events i j n h).view;
      }

  pub terms_rise : (noop : E) → TermsRise nodes noop
  terms_rise noop =
      record {
        order = λ events i n low high h l.
            let p = then_moment noop events i i (omega arith) in
            (grounded_rises (all_nodes nodes) p.now p.two.past (log_of (moment nodes noop events i) n) (p.two.each n).grounded).at low high h l;
        upto = λ events i n index l. let p = then_moment noop events i i (omega arith) in (p.two.each n).upto.at index l;
      }

  -- ---- what may come

  pub deliveries_fit : (noop : E) → DeliveriesFit nodes noop
  deliveries_fit noop events i n number m e =
      let w = moment nodes noop events i in
      let s = w.node n in
      let p = then_moment noop events i i (omega arith) in
      let so = message_so nodes p.now w n number m p.two e in
      let from : m.from.0 < nodes = sender_is nodes noop events i n number m e in
      let all : length s.votes.nodes ≡ nodes = ap length (p.two.each n).all ∙ all_nodes-length nodes in
      and_from (nat_lt m.from.0 (length s.votes.nodes)) (keeps_view s m.message) (lt-ltb m.from.0 (length s.votes.nodes) (omega (arith, from, all)))
      (keeps_said (all_nodes nodes) p.now p.two.past n s (p.two.each n) m.from m.message so)
