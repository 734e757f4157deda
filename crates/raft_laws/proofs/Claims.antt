-- What stays so of a node and of a ballot, and what is decided.
use Rattle.std.proofs.Common.{◌≡◌, ℕ, ◌<◌, ◌≤◌, true, ◌⊎◌, inl, inr, List, ◌++◌, length, take, Some, sym, subst, ◌∙◌, arith, length-append}
use Rattle.region_map.specs.declared.id.NodeId.{NodeId}
use Rattle.region_map.specs.Nodes.{has, node_id, is_majority}
use Rattle.raft_vote.specs.declared.log.LogEntry.{LogEntry}
use Rattle.raft_vote.specs.Log.{term_at, last_term}
use Rattle.raft_vote.specs.Rows.{reaches}
use Rattle.raft_laws.proofs.Logs.{term_at-append, as_long, front_of, Rises, IsUpTo}
use Rattle.raft_laws.proofs.Past.{Past, Ballot, Reign, Cast, Grows, Grounded, Grounded-grows}

-- each log that won a term from low to high, without these two, has this front
pub record Between {E : Type 0} (p : Past E) (low high u : ℕ) (log : List (LogEntry E)) : Type 0 where
  pub at : (term : ℕ) (r : Reign E) → low < term → term < high → p.reigns term ≡ Some r → take u r.won ≡ take u log

-- what a log was acknowledged to have of the leader's of a term, it has, but where a leader of a term between had not
pub record Holds {E : Type 0} (p : Past E) (term reach high : ℕ) (log : List (LogEntry E)) : Type 0 where
  pub reign : Reign E
  pub is : p.reigns term ≡ Some reign
  pub within : reach ≤ length reign.log
  pub keeps : (u : ℕ) → u ≤ reach → Between p term high u reign.log → take u log ≡ take u reign.log

-- a majority has an entry of a leader's own term
pub record Decided {E : Type 0} (nodes : List ℕ) (p : Past E) (term index : ℕ) : Type 0 where
  pub reign : Reign E
  pub is : p.reigns term ≡ Some reign
  pub positive : 0 < index
  pub within : index ≤ length reign.log
  pub own : term_at reign.log index ≡ term
  pub holders : List ℕ
  pub majority : is_majority holders nodes ≡ true
  pub each : (k : ℕ) → has holders k ≡ true → index ≤ p.acks k term

-- the front of a log is decided, in a term up to this one
pub record Certified {E : Type 0} (nodes : List ℕ) (p : Past E) (upto : ℕ) (log : List (LogEntry E)) (v : ℕ) : Type 0 where
  pub term : ℕ
  pub index : ℕ
  pub low : term ≤ upto
  pub reach : v ≤ index
  pub decided : Decided nodes p term index
  pub same : take v log ≡ take v decided.reign.log

module _ {E : Type 0} (p q : Past E) (g : Grows p q) where
  pub Between-grows : (low high u : ℕ) (log : List (LogEntry E)) → Between q low high u log → Between p low high u log
  Between-grows low high u log b =
      record {
        at = λ term r l h e.
            let new = g.reigns term r e in
            b.at term (record { leader = r.leader; won = r.won; log = r.log ++ new.rest }) l h new.is;
      }

  pub Holds-grows : (term reach high : ℕ) (log : List (LogEntry E)) → Holds p term reach high log → Holds q term reach high log
  Holds-grows term reach high log k =
      let new = g.reigns term k.reign k.is in
      record {
        reign = record { leader = k.reign.leader; won = k.reign.won; log = k.reign.log ++ new.rest };
        is = new.is;
        within = let w = k.within in omega (arith, w, length-append k.reign.log new.rest);
        keeps = λ u h b.
            let w = k.within in
            let front : take u (k.reign.log ++ new.rest) ≡ take u k.reign.log = front_of k.reign.log new.rest u (omega (arith, w, h)) in
            let old : Between p term high u k.reign.log =
            record { at = λ t r l m e. (Between-grows term high u (k.reign.log ++ new.rest) b).at t r l m e ∙ front } in
            k.keeps u h old ∙ sym front;
      }

  pub Decided-grows : (nodes : List ℕ) (term index : ℕ) → Decided nodes p term index → Decided nodes q term index
  Decided-grows nodes term index d =
      let new = g.reigns term d.reign d.is in
      record {
        reign = record { leader = d.reign.leader; won = d.reign.won; log = d.reign.log ++ new.rest };
        is = new.is;
        positive = d.positive;
        within = let w = d.within in omega (arith, w, length-append d.reign.log new.rest);
        own = term_at-append d.reign.log new.rest index d.within ∙ d.own;
        holders = d.holders;
        majority = d.majority;
        each = λ k h. let a = d.each k h in let b = g.acks k term in omega (arith, a, b);
      }

  pub Certified-grows : (nodes : List ℕ) (upto : ℕ) (log : List (LogEntry E)) (v : ℕ) → Certified nodes p upto log v → Certified nodes q upto log v
  unfolding Decided-grows
  Certified-grows nodes upto log v c =
      let d = Decided-grows nodes c.term c.index c.decided in
      let new = g.reigns c.term c.decided.reign c.decided.is in
      record {
        term = c.term;
        index = c.index;
        low = c.low;
        reach = c.reach;
        decided = d;
        same = let w = c.decided.within in let r = c.reach in c.same ∙ sym (front_of c.decided.reign.log new.rest v (omega (arith, w, r)));
      }

module _ {E : Type 0} (nodes : List ℕ) (p : Past E) where
  -- in a later term, and of another log with this front
  pub Certified-other : (upto high : ℕ) (log other : List (LogEntry E)) (v : ℕ) → upto ≤ high → take v other ≡ take v log → Certified nodes p upto log v → Certified nodes p high other v
  Certified-other upto high log other v h e c =
      record { term = c.term; index = c.index; low = let l = c.low in omega (arith, l, h); reach = c.reach; decided = c.decided; same = e ∙ c.same }

  -- it is within the log
  pub Certified-within : (upto : ℕ) (log : List (LogEntry E)) (v : ℕ) → Certified nodes p upto log v → v ≤ length log
  Certified-within upto log v c =
      let w = c.decided.within in
      let r = c.reach in
      as_long v c.decided.reign.log log (sym c.same) (omega (arith, w, r))

-- ---- the past is in order

-- the ballot of whom this one is for
pub record Rival {E : Type 0} (p : Past E) (term : ℕ) (b : Ballot E) : Type 0 where
  pub ballot : Ballot E
  pub is : p.ballots b.for_node.0 term ≡ Some ballot
  pub self : ballot.for_node ≡ b.for_node
  pub reaches : reaches (last_term ballot.log) (length ballot.log) (last_term b.log) (length b.log) ≡ true

pub record BallotOk {E : Type 0} (p : Past E) (k term : ℕ) (b : Ballot E) : Type 0 where
  pub grounded : Grounded p b.log
  pub rival : Rival p term b
  pub acked : (early : ℕ) → early < term → 0 < p.acks k early → Holds p early (p.acks k early) b.bound b.log
  pub fresh : (b.bound ≡ term) ⊎ ((r : Reign E) × (p.reigns term ≡ Some r))

-- a vote that was cast before the term had a leader
pub record CastEarly {E : Type 0} (p : Past E) (k term : ℕ) (c : NodeId) : Type 0 where
  pub cast : Cast p k term c
  pub early : cast.ballot.bound ≡ term

pub record ReignOk {E : Type 0} (nodes : List ℕ) (p : Past E) (term : ℕ) (r : Reign E) : Type 0 where
  pub votes : List ℕ
  pub majority : is_majority votes nodes ≡ true
  pub voted : (k : ℕ) → has votes k ≡ true → CastEarly p k term (node_id r.leader)
  pub bound : ℕ
  pub own : p.ballots r.leader term ≡ Some (record { for_node = node_id r.leader; log = r.won; bound = bound })
  pub below : (i : ℕ) → i ≤ length r.won → term_at r.won i < term
  pub rest : List (LogEntry E)
  pub is : r.log ≡ r.won ++ rest
  pub rises : Rises r.log
  pub upto : IsUpTo r.log term
  pub grounded : Grounded p r.log

pub record PastOk {E : Type 0} (nodes : List ℕ) (p : Past E) : Type 0 where
  pub reigns : (term : ℕ) (r : Reign E) → p.reigns term ≡ Some r → ReignOk nodes p term r
  pub ballots : (k term : ℕ) (b : Ballot E) → p.ballots k term ≡ Some b → BallotOk p k term b

module _ {E : Type 0} (p q : Past E) (g : Grows p q) where
  Rival-grows : (term : ℕ) (b : Ballot E) → Rival p term b → Rival q term b
  Rival-grows term b r = record { ballot = r.ballot; is = g.ballots b.for_node.0 term r.ballot r.is; self = r.self; reaches = r.reaches }

  pub BallotOk-grows : (k term : ℕ) (b : Ballot E) → ((early : ℕ) → early < term → q.acks k early ≡ p.acks k early) → BallotOk p k term b → BallotOk q k term b
  BallotOk-grows k term b same o =
      record {
        grounded = Grounded-grows p q b.log g o.grounded;
        rival = Rival-grows term b o.rival;
        acked = λ early l h.
            let s = same early l in
            let held = o.acked early l (omega (arith, s, h)) in
            subst (λ (u : ℕ). Holds q early u b.bound b.log) (sym s) (Holds-grows p q g early (p.acks k early) b.bound b.log held);
        fresh = elim o.fresh [
          | inl e ↦ inl e
          | inr led ↦ let new = g.reigns term led.0 led.1 in inr (record { leader = led.0.leader; won = led.0.won; log = led.0.log ++ new.rest }, new.is)
        ];
      }

  pub ReignOk-grows : (nodes : List ℕ) (term : ℕ) (r : Reign E) → ReignOk nodes p term r → ReignOk nodes q term r
  ReignOk-grows nodes term r o =
      record {
        votes = o.votes;
        majority = o.majority;
        voted = λ k h.
            let old = o.voted k h in
            record { cast = record { ballot = old.cast.ballot; is = g.ballots k term old.cast.ballot old.cast.is; self = old.cast.self }; early = old.early };
        bound = o.bound;
        own = g.ballots r.leader term _ o.own;
        below = o.below;
        rest = o.rest;
        is = o.is;
        rises = o.rises;
        upto = o.upto;
        grounded = Grounded-grows p q r.log g o.grounded;
      }
