-- What a node's small moves keep.
use Rattle.std.proofs.Common.{◌≡◌, ◌==◌, ◌&&◌, ℕ, suc, ◌<◌, ◌≤◌, ◌+◌, nat_lt, nat_le, true, false, ◌⊎◌, inl, inr, List, ◌++◌, length, Option, Some, None, refl, sym, ap, subst, ◌∙◌, arith}
use Rattle.std.proofs.lemmas.Bool.{cases_lt, both_ways, eq-eqb, eqb-true, or_cases, or_right, and_from, le-leb, false≢true}
use Rattle.region_map.specs.declared.id.NodeId.{NodeId}
use Rattle.region_map.specs.Nodes.{node_id}
use Rattle.raft_vote.specs.declared.log.LogEntry.{LogEntry}
use Rattle.raft_vote.specs.declared.votes.Role.{Role}
use Rattle.raft_vote.specs.declared.votes.Role.TheVariants.{Follower, Candidate, Leader}
use Rattle.raft_vote.specs.Log.{term_at, last_term}
use Rattle.raft_vote.specs.Rows.{alone, reaches}
use Rattle.raft_append.specs.declared.peers.Progress.{Progress}
use Rattle.raft_append.specs.Peers.{progress_at}
use Rattle.raft_node.specs.State.{RaftState}
use Rattle.raft_laws.specs.World.{Sent, World}
use Rattle.raft_laws.proofs.Logs.{as_long, front_of, IsUpTo-more}
use Rattle.raft_laws.proofs.Past.{Past, Ballot, Reign, Grows, Grounded-grows, for_whom}
use Rattle.raft_laws.proofs.Claims.{Holds, Holds-grows, Certified, Certified-grows, Certified-other, Rival, BallotOk, PastOk}
use Rattle.raft_laws.proofs.Nodes.{NodeOk, RoleOk, Stands-grows, AckOk, is_candidate, Here, Comes, moves, Knows-more}
use Rattle.raft_laws.proofs.Ghosts.{with_ballot, with_ballot-at, with_ballot-term, with_ballot-beside, with_ballot-past}

-- ---- what the past is not concerned with

module _ {E : Type 0} (p : Past E) where
  pub Holds-high : (t reach high higher : ℕ) (log : List (LogEntry E)) → high ≤ higher → Holds p t reach high log → Holds p t reach higher log
  Holds-high t reach high higher log h k =
      record {
        reign = k.reign;
        is = k.is;
        within = k.within;
        keeps = λ u l b. k.keeps u l (record { at = λ x r a c e. b.at x r a (omega (arith, c, h)) e });
      }

  -- of a log with more behind
  pub Holds-more : (t reach high : ℕ) (log rest : List (LogEntry E)) → Holds p t reach high log → Holds p t reach high (log ++ rest)
  Holds-more t reach high log rest k =
      record {
        reign = k.reign;
        is = k.is;
        within = k.within;
        keeps = λ u l b.
            let same = k.keeps u l b in
            let w = k.within in
            front_of log rest u (as_long u k.reign.log log (sym same) (omega (arith, l, w))) ∙ same;
      }

module _ {E : Type 0} (nodes : List ℕ) (p : Past E) (n : ℕ) (s : RaftState E) (o : NodeOk nodes p n s) where
  -- a greater term, with no vote
  pub takes_term : (t : ℕ) → s.votes.term < t → NodeOk nodes p n (record s { votes = record s.votes { term = t; vote = None; role = Follower; leader = None } })
  takes_term t h =
      record {
        me = o.me;
        all = o.all;
        now = ap for_whom (o.later t h);
        later = λ u l. o.later u (omega (arith, h, l));
        role = tt;
        grounded = o.grounded;
        upto = IsUpTo-more s.log s.votes.term t (omega (arith, h)) o.upto;
        led = λ u r e l.
            elim (o.led u r e l) [
              | inl below ↦ inl (omega (arith, below, h))
              | inr at ↦ let same = at.0 in inl (omega (arith, same, h))
            ];
        acked = λ u l.
            let old = o.acked u l in
            let low = old.low in
            record { low = omega (arith, low, h); holds = Holds-high p u (p.acks n u) (suc s.votes.term) (suc t) s.log (omega (arith, h)) old.holds };
        seen = λ l. Certified-other nodes p s.votes.term t s.log s.log s.view (omega (arith, h)) refl (o.seen l);
      }

  -- another role in the term
  pub turns : (role : Role) (leader : Option NodeId) → RoleOk p n role s.votes.term s.log s.peers → (is_candidate role ≡ true → is_candidate s.votes.role ≡ true)
      → NodeOk nodes p n (record s { votes = record s.votes { role = role; leader = leader } })
  turns role leader ok stands =
      record {
        me = o.me;
        all = o.all;
        now = o.now;
        later = o.later;
        role = ok;
        grounded = o.grounded;
        upto = o.upto;
        led = λ u r e l.
            elim (o.led u r e l) [
              | inl below ↦ inl below
              | inr at ↦ inr (at.0, no_more role (s.votes.role) stands at.1)
            ];
        acked = o.acked;
        seen = o.seen;
      }
    where
      no_more : (a b : Role) → (is_candidate a ≡ true → is_candidate b ≡ true) → is_candidate b ≡ false → is_candidate a ≡ false
      no_more Follower b f e = refl
      no_more (Candidate votes refused) b f e = absurd (both_ways (is_candidate b) e (f refl))
      no_more Leader b f e = refl

  -- a leader knows more of the others
  pub learns : (peers : List Progress) → RoleOk p n s.votes.role s.votes.term s.log peers → NodeOk nodes p n (record s { peers = peers })
  learns peers ok =
      record { me = o.me; all = o.all; now = o.now; later = o.later; role = ok; grounded = o.grounded; upto = o.upto; led = o.led; acked = o.acked; seen = o.seen }

  -- it acts on more
  pub sees : (view : ℕ) → (0 < view → Certified nodes p s.votes.term s.log view) → NodeOk nodes p n (record s { view = view })
  sees view seen =
      record { me = o.me; all = o.all; now = o.now; later = o.later; role = o.role; grounded = o.grounded; upto = o.upto; led = o.led; acked = o.acked; seen = seen }

-- ---- votes

for_none : {E : Type 0} (x : Option (Ballot E)) → for_whom x ≡ None → x ≡ None
for_none None e = refl
for_none (Some b) e = absurd (cc e)

RoleOk-grows : {E : Type 0} (nodes : List ℕ) (p q : Past E) (g : Grows p q) (n : ℕ) (same : (t : ℕ) → q.reigns t ≡ p.reigns t) (r : Role) (term : ℕ) (log : List (LogEntry E)) (peers : List Progress) → RoleOk p n r term log peers → RoleOk q n r term log peers
RoleOk-grows nodes p q g n same Follower term log peers o = tt
RoleOk-grows nodes p q g n same (Candidate votes refused) term log peers o = Stands-grows nodes p q g n term log votes o
RoleOk-grows nodes p q g n same Leader term log peers o =
    record {
      won = o.won;
      is = same term ∙ o.is;
      mine = let a = g.acks n term in let m = o.mine in omega (arith, a, m);
      knows = λ j. Knows-more (p.acks j term) (length log) (q.acks j term) (length log) (progress_at peers j) (g.acks j term) (omega arith) (o.knows j);
    }

-- the term from which on no leader had changed the log of a node that votes in this one
abbrev pub bound_of : {E : Type 0} → Option (Reign E) → ℕ → ℕ
bound_of None t = t
bound_of (Some r) t = suc t

module _ {E : Type 0} (nodes : List ℕ) (p : Past E) (n : ℕ) (s : RaftState E) (o : NodeOk nodes p n s) (ok : PastOk nodes p) (t : ℕ) (c : NodeId) (h : s.votes.term ≤ t) where
  -- the ballot with which the node votes in its term or a later one
  abbrev pub ballot : Ballot E
  ballot = record { for_node = c; log = s.log; bound = bound_of (p.reigns t) t }

  held : (early : ℕ) → early < t → 0 < p.acks n early → (o : Option (Reign E)) → p.reigns t ≡ o → Holds p early (p.acks n early) (bound_of o t) s.log
  held early l a None none =
      let old = (o.acked early a).holds in
      record {
        reign = old.reign;
        is = old.is;
        within = old.within;
        keeps = λ u v b. old.keeps u v (record {
          at = λ x r y z e.
              elim (cases_lt x t) [
                | inl below ↦ b.at x r y below e
                | inr at ↦
                    let same : x ≡ t = omega (arith, at, z, h) in
                    let clash : None ≡ Some r = sym none ∙ ap p.reigns (sym same) ∙ e in
                    cc
              ];
        });
      }
  held early l a (Some r) some = Holds-high p early (p.acks n early) (suc s.votes.term) (suc t) s.log (omega (arith, h)) (o.acked early a).holds

  fresh : (o : Option (Reign E)) → p.reigns t ≡ o → (bound_of o t ≡ t) ⊎ ((r : Reign E) × (p.reigns t ≡ Some r))
  fresh None e = inl refl
  fresh (Some r) e = inr (r, e)

  pub ballot_ok : (none : p.ballots n t ≡ None) → Rival (with_ballot p n t ballot) t ballot → BallotOk (with_ballot p n t ballot) n t ballot
  ballot_ok none rival =
      let q = with_ballot p n t ballot in
      let grows = (with_ballot-beside p n t ballot none).grows in
      record {
        grounded = Grounded-grows p q s.log grows o.grounded;
        rival = rival;
        acked = λ early l a. Holds-grows p q grows early (p.acks n early) (bound_of (p.reigns t) t) s.log (held early l a (p.reigns t) refl);
        fresh = fresh (p.reigns t) refl;
      }

module _ {E : Type 0} (nodes : List ℕ) (w : World E) (n : ℕ) (p : Past E) (s : RaftState E) (xs : List (Sent E)) (here : Here nodes w n p s xs) where
  -- what holds of the node holds with one more ballot of a term that it has come to
  with_vote_ok : (t : ℕ) (b : Ballot E) (none : p.ballots n t ≡ None) → s.votes.term ≤ t → (u : ℕ) → t < u → (with_ballot p n t b).ballots n u ≡ None
  with_vote_ok t b none h u l = with_ballot-term p n t b u (λ e. omega (arith, e, l)) ∙ here.self.later u (omega (arith, h, l))

  acked_grows : (q : Past E) (g : Grows p q) (same : (k u : ℕ) → q.acks k u ≡ p.acks k u) (u : ℕ) → 0 < q.acks n u → AckOk q n u s.votes.term s.log
  acked_grows q g same u a =
      let e = same n u in
      let old = here.self.acked u (omega (arith, e, a)) in
      record { low = old.low; holds = subst (λ (v : ℕ). Holds q u v (suc s.votes.term) s.log) (sym e) (Holds-grows p q g u (p.acks n u) (suc s.votes.term) s.log old.holds) }

  -- the node votes in its term
  pub votes_for : (c : NodeId) (rival : Rival p s.votes.term (ballot nodes p n s here.self here.past s.votes.term c (omega arith))) → s.votes.vote ≡ None → Comes nodes w n p (record s { votes = record s.votes { vote = Some c } }) xs
  votes_for c rival none_now =
      let o = here.self in
      let t = s.votes.term in
      let b = ballot nodes p n s o here.past t c (omega arith) in
      let q = with_ballot p n t b in
      let none : p.ballots n t ≡ None = for_none (p.ballots n t) (o.now ∙ none_now) in
      let beside = with_ballot-beside p n t b none in
      let g = beside.grows in
      let rival_now : Rival q t b = record { ballot = rival.ballot; is = g.ballots b.for_node.0 t rival.ballot rival.is; self = rival.self; reaches = rival.reaches } in
      let ok = with_ballot-past p n t b nodes none (ballot_ok nodes p n s o here.past t c (omega arith) none rival_now) here.past in
      let r = record s { votes = record s.votes { vote = Some c } } in
      moves nodes w n p q s r xs beside ok
      (record {
        me = o.me;
        all = o.all;
        now = ap for_whom (with_ballot-at p n t b);
        later = with_vote_ok t b none (omega arith);
        role = RoleOk-grows nodes p q g n (λ u. refl) s.votes.role t s.log s.peers o.role;
        grounded = Grounded-grows p q s.log g o.grounded;
        upto = o.upto;
        led = o.led;
        acked = acked_grows q g (λ k u. refl);
        seen = λ l. Certified-grows p q g nodes t s.log s.view (o.seen l);
      })
      here

  -- it stands for election in the next term
  pub stands : Comes nodes w n p (record s { votes = record s.votes { term = s.votes.term + 1; vote = Some s.votes.me; role = Candidate (alone s.votes.me) false; leader = None } }) xs
  stands =
      let o = here.self in
      let t = s.votes.term + 1 in
      let h : s.votes.term ≤ t = omega arith in
      let b = ballot nodes p n s o here.past t (node_id n) h in
      let q = with_ballot p n t b in
      let none : p.ballots n t ≡ None = o.later t (omega arith) in
      let beside = with_ballot-beside p n t b none in
      let g = beside.grows in
      let level : reaches (last_term s.log) (length s.log) (last_term s.log) (length s.log) ≡ true =
      or_right (nat_lt (last_term s.log) (last_term s.log)) ((last_term s.log == last_term s.log) && nat_le (length s.log) (length s.log))
      (and_from (last_term s.log == last_term s.log) (nat_le (length s.log) (length s.log)) (eq-eqb (last_term s.log) (last_term s.log) refl) (le-leb (length s.log) (length s.log) (omega arith))) in
      let rival : Rival q t b = record { ballot = b; is = with_ballot-at p n t b; self = refl; reaches = level } in
      let ok = with_ballot-past p n t b nodes none (ballot_ok nodes p n s o here.past t (node_id n) h none rival) here.past in
      let below : (i : ℕ) → i ≤ length s.log → term_at s.log i < t = λ i l. let e = o.upto.at i l in omega (arith, e) in
      moves nodes w n p q s (record s { votes = record s.votes { term = t; vote = Some s.votes.me; role = Candidate (alone s.votes.me) false; leader = None } }) xs beside ok
      (record {
        me = o.me;
        all = o.all;
        now = ap for_whom (with_ballot-at p n t b) ∙ ap Some (sym o.me);
        later = with_vote_ok t b none h;
        role = record {
          counted = λ k e.
              let same : k ≡ n = elim (or_cases (s.votes.me.0 == k) false e) [
                | inl is ↦ sym (eqb-true s.votes.me.0 k is) ∙ ap (λ (m : NodeId). m.0) o.me
                | inr is ↦ absurd (false≢true is)
              ] in
              record { ballot = b; is = ap (λ v. q.ballots v t) same ∙ with_ballot-at p n t b; self = refl };
          bound = b.bound;
          own = with_ballot-at p n t b;
          below = below;
        };
        grounded = Grounded-grows p q s.log g o.grounded;
        upto = IsUpTo-more s.log s.votes.term t h o.upto;
        led = λ u r e l. elim (o.led u r e l) [ inl before ↦ inl (omega (arith, before)) | inr at ↦ let same = at.0 in inl (omega (arith, same)) ];
        acked = λ u a.
            let old = acked_grows q g (λ k v. refl) u a in
            let low = old.low in
            record { low = omega (arith, low); holds = Holds-high q u (q.acks n u) (suc s.votes.term) (suc t) s.log (omega arith) old.holds };
        seen = λ l. Certified-other nodes q s.votes.term t s.log s.log s.view h refl (Certified-grows p q g nodes s.votes.term s.log s.view (o.seen l));
      })
      here
