-- What holds of a node and of a message, by what a run left behind.
use Rattle.std.proofs.Common.{◌≡◌, ◌==◌, ℕ, suc, ◌<◌, ◌≤◌, Bool, true, false, ◌⊎◌, inl, inr, List, ◌++◌, length, take, drop, Some, None, refl, sym, ap, subst, ◌∙◌, arith, length-take}
use Rattle.std.proofs.lemmas.Bool.{both_ways, eq-eqb}
use Rattle.std.specs.List.{AllByRecursion}
use Rattle.list_laws.proofs.All.{all_append, all_weaker}
use Rattle.region_map.specs.declared.id.NodeId.{NodeId}
use Rattle.region_map.specs.Nodes.{has, node_id}
use Rattle.raft_vote.specs.declared.log.LogEntry.{LogEntry}
use Rattle.raft_vote.specs.declared.message.RaftMessage.{RaftMessage}
use Rattle.raft_vote.specs.declared.message.RaftMessage.TheVariants.{VoteAsk, VoteSay, Append, AppendSay}
use Rattle.raft_vote.specs.declared.votes.Role.{Role}
use Rattle.raft_vote.specs.declared.votes.Role.TheVariants.{Follower, Candidate, Leader}
use Rattle.raft_vote.specs.Log.{term_at, last_term}
use Rattle.raft_append.specs.declared.peers.Progress.{Progress}
use Rattle.raft_append.specs.Peers.{progress_at}
use Rattle.raft_node.specs.State.{RaftState}
use Rattle.raft_laws.specs.World.{Sent, World}
use Rattle.raft_laws.proofs.Logs.{front_of, IsUpTo}
use Rattle.raft_laws.proofs.Past.{Past, Ballot, Reign, Cast, Cast-grows, Grows, Grows-same, Grows-more, Grounded, Grounded-grows, for_whom}
use Rattle.raft_laws.proofs.Claims.{Holds, Holds-grows, Certified, Certified-grows, Certified-other, Certified-within, PastOk}

abbrev pub is_candidate : Role → Bool
is_candidate Follower = false
is_candidate (Candidate votes refused) = true
is_candidate Leader = false

-- a candidate: the votes that it counts were cast for it, one of them by itself with the log that it has
pub record Stands {E : Type 0} (p : Past E) (n term : ℕ) (log : List (LogEntry E)) (votes : List ℕ) : Type 0 where
  pub counted : (k : ℕ) → has votes k ≡ true → Cast p k term (node_id n)
  pub bound : ℕ
  pub own : p.ballots n term ≡ Some (record { for_node = node_id n; log = log; bound = bound })
  pub below : (i : ℕ) → i ≤ length log → term_at log i < term

-- what a leader knows of a node: no more than the node said, and the entry that it is sent next is one of the leader's
-- log, or the one behind its end
pub record Knows (said last : ℕ) (x : Progress) : Type 0 where
  pub matched : x.matched ≤ said
  pub within : x.matched ≤ last
  pub next : x.next ≤ suc last

-- with more said, and a longer log
pub Knows-more : (said last more longer : ℕ) (x : Progress) → said ≤ more → last ≤ longer → Knows said last x → Knows more longer x
Knows-more said last more longer x a b k =
    let m = k.matched in
    let w = k.within in
    let n = k.next in
    record { matched = omega (arith, m, a); within = omega (arith, w, b); next = omega (arith, n, b) }

-- a leader: its log is that of the term, and it knows of each node no more than that node said
pub record Leads {E : Type 0} (p : Past E) (n term : ℕ) (log : List (LogEntry E)) (peers : List Progress) : Type 0 where
  pub won : List (LogEntry E)
  pub is : p.reigns term ≡ Some (record { leader = n; won = won; log = log })
  pub mine : length log ≤ p.acks n term
  pub knows : (k : ℕ) → Knows (p.acks k term) (length log) (progress_at peers k)

abbrev pub RoleOk : {E : Type 0} → Past E → ℕ → Role → ℕ → List (LogEntry E) → List Progress → Type 0
RoleOk p n Follower term log peers = Unit {0}
RoleOk p n (Candidate votes refused) term log peers = Stands p n term log votes
RoleOk p n Leader term log peers = Leads p n term log peers

-- a term in which a node no longer comes to lead
abbrev pub IsPast : Role → ℕ → ℕ → Type 0
IsPast role term t = (t < term) ⊎ ((t ≡ term) × (is_candidate role ≡ false))

pub record AckOk {E : Type 0} (p : Past E) (n t term : ℕ) (log : List (LogEntry E)) : Type 0 where
  pub low : t ≤ term
  pub holds : Holds p t (p.acks n t) (suc term) log

pub record NodeOk {E : Type 0} (nodes : List ℕ) (p : Past E) (n : ℕ) (s : RaftState E) : Type 0 where
  pub me : s.votes.me ≡ node_id n
  pub all : s.votes.nodes ≡ nodes
  pub now : for_whom (p.ballots n s.votes.term) ≡ s.votes.vote
  pub later : (t : ℕ) → s.votes.term < t → p.ballots n t ≡ None
  pub role : RoleOk p n s.votes.role s.votes.term s.log s.peers
  pub grounded : Grounded p s.log
  pub upto : IsUpTo s.log s.votes.term
  pub led : (t : ℕ) (r : Reign E) → p.reigns t ≡ Some r → r.leader ≡ n → IsPast s.votes.role s.votes.term t
  pub acked : (t : ℕ) → 0 < p.acks n t → AckOk p n t s.votes.term s.log
  pub seen : 0 < s.view → Certified nodes p s.votes.term s.log s.view

-- ---- messages

-- a candidate asks with the end of the log that it has
pub record Asked {E : Type 0} (p : Past E) (from : NodeId) (term last index : ℕ) : Type 0 where
  pub ballot : Ballot E
  pub is : p.ballots from.0 term ≡ Some ballot
  pub self : ballot.for_node ≡ from
  pub last_is : last ≡ last_term ballot.log
  pub index_is : index ≡ length ballot.log

-- entries are those of a front of the leader's log behind a place, and what it acts on is decided
pub record Shipped {E : Type 0} (nodes : List ℕ) (p : Past E) (term prev prev_term : ℕ) (entries : List (LogEntry E)) (commit : ℕ) : Type 0 where
  pub reign : Reign E
  pub is : p.reigns term ≡ Some reign
  pub log : List (LogEntry E)
  pub front : take (length log) reign.log ≡ log
  pub within : prev ≤ length log
  pub term_is : prev_term ≡ term_at log prev
  pub rest : entries ≡ drop prev log
  pub seen : 0 < commit → Certified nodes p term reign.log commit

-- what a message says was so
abbrev pub IsSo : {E : Type 0} → List ℕ → Past E → NodeId → NodeId → RaftMessage E → Type 0
IsSo nodes p from to (VoteAsk term last index) = Asked p from term last index
IsSo nodes p from to (VoteSay term true) = Cast p from.0 term to
IsSo nodes p from to (VoteSay term false) = Unit {0}
IsSo nodes p from to (Append term prev prev_term entries commit) = Shipped nodes p term prev prev_term entries commit
IsSo nodes p from to (AppendSay term true upto) = upto ≤ p.acks from.0 term
IsSo nodes p from to (AppendSay term false upto) = Unit {0}

module _ {E : Type 0} (nodes : List ℕ) (p q : Past E) (g : Grows p q) where
  Shipped-grows : (term prev prev_term : ℕ) (entries : List (LogEntry E)) (commit : ℕ) → Shipped nodes p term prev prev_term entries commit → Shipped nodes q term prev prev_term entries commit
  Shipped-grows term prev prev_term entries commit s =
      let new = g.reigns term s.reign s.is in
      let long : length s.log ≤ length s.reign.log = omega (arith, ap length s.front, length-take (length s.log) s.reign.log) in
      record {
        reign = record { leader = s.reign.leader; won = s.reign.won; log = s.reign.log ++ new.rest };
        is = new.is;
        log = s.log;
        front = front_of s.reign.log new.rest (length s.log) long ∙ s.front;
        within = s.within;
        term_is = s.term_is;
        rest = s.rest;
        seen = λ h.
            let c = s.seen h in
            Certified-other nodes q term term s.reign.log (s.reign.log ++ new.rest) commit (omega arith)
            (front_of s.reign.log new.rest commit (Certified-within nodes p term s.reign.log commit c))
            (Certified-grows p q g nodes term s.reign.log commit c);
      }

  pub IsSo-grows : (from to : NodeId) (m : RaftMessage E) → IsSo nodes p from to m → IsSo nodes q from to m
  IsSo-grows from to (VoteAsk term last index) s = record { ballot = s.ballot; is = g.ballots from.0 term s.ballot s.is; self = s.self; last_is = s.last_is; index_is = s.index_is }
  IsSo-grows from to (VoteSay term true) s = Cast-grows p q from.0 term to g s
  IsSo-grows from to (VoteSay term false) s = tt
  IsSo-grows from to (Append term prev prev_term entries commit) s = Shipped-grows term prev prev_term entries commit s
  IsSo-grows from to (AppendSay term true upto) s = let a = g.acks from.0 term in omega (arith, a, s)
  IsSo-grows from to (AppendSay term false upto) s = tt

  pub Stands-grows : (n term : ℕ) (log : List (LogEntry E)) (votes : List ℕ) → Stands p n term log votes → Stands q n term log votes
  Stands-grows n term log votes s = record { counted = λ k h. Cast-grows p q k term (node_id n) g (s.counted k h); bound = s.bound; own = g.ballots n term _ s.own; below = s.below }

-- ---- what changes at one node alone

pub record Beside {E : Type 0} (n : ℕ) (p q : Past E) : Type 0 where
  pub grows : Grows p q
  pub ballots : (k t : ℕ) → k == n ≡ false → q.ballots k t ≡ p.ballots k t
  pub acks : (k t : ℕ) → k == n ≡ false → q.acks k t ≡ p.acks k t
  pub reigns : (t : ℕ) (r : Reign E) → q.reigns t ≡ Some r → (p.reigns t ≡ Some r) ⊎ (r.leader ≡ n)

pub Beside-more : {E : Type 0} (n : ℕ) (p q r : Past E) → Beside n p q → Beside n q r → Beside n p r
Beside-more n p q r a b =
    record {
      grows = Grows-more p q r a.grows b.grows;
      ballots = λ k t e. b.ballots k t e ∙ a.ballots k t e;
      acks = λ k t e. b.acks k t e ∙ a.acks k t e;
      reigns = λ t x e. elim (b.reigns t x e) [ inl old ↦ a.reigns t x old | inr own ↦ inr own ];
    }

module _ {E : Type 0} (nodes : List ℕ) (n : ℕ) (p q : Past E) (b : Beside n p q) (k : ℕ) (other : k == n ≡ false) where
  Leads-beside : (term : ℕ) (log : List (LogEntry E)) (peers : List Progress) → Leads p k term log peers → Leads q k term log peers
  Leads-beside term log peers l =
      let old : Reign E = record { leader = k; won = l.won; log = log } in
      let new = b.grows.reigns term old l.is in
      record {
        won = l.won;
        is = elim (b.reigns term (record { leader = k; won = l.won; log = log ++ new.rest }) new.is) [
          | inl same ↦ new.is ∙ sym same ∙ l.is
          | inr own ↦ absurd (both_ways (k == n) other (eq-eqb k n own))
        ];
        mine = let a = b.grows.acks k term in let m = l.mine in omega (arith, a, m);
        knows = λ j. Knows-more (p.acks j term) (length log) (q.acks j term) (length log) (progress_at peers j) (b.grows.acks j term) (omega arith) (l.knows j);
      }

  RoleOk-beside : (r : Role) (term : ℕ) (log : List (LogEntry E)) (peers : List Progress) → RoleOk p k r term log peers → RoleOk q k r term log peers
  RoleOk-beside Follower term log peers o = tt
  RoleOk-beside (Candidate votes refused) term log peers o = Stands-grows nodes p q b.grows k term log votes o
  RoleOk-beside Leader term log peers o = Leads-beside term log peers o

  pub NodeOk-beside : (s : RaftState E) → NodeOk nodes p k s → NodeOk nodes q k s
  NodeOk-beside s o =
      record {
        me = o.me;
        all = o.all;
        now = ap for_whom (b.ballots k s.votes.term other) ∙ o.now;
        later = λ t h. b.ballots k t other ∙ o.later t h;
        role = RoleOk-beside s.votes.role s.votes.term s.log s.peers o.role;
        grounded = Grounded-grows p q s.log b.grows o.grounded;
        upto = o.upto;
        led = λ t r e l.
            elim (b.reigns t r e) [
              | inl old ↦ o.led t r old l
              | inr own ↦ absurd (both_ways (k == n) other (eq-eqb k n (sym l ∙ own)))
            ];
        acked = λ t h.
            let same = b.acks k t other in
            let old = o.acked t (omega (arith, same, h)) in
            record {
              low = old.low;
              holds = subst (λ (u : ℕ). Holds q t u (suc s.votes.term) s.log) (sym same) (Holds-grows p q b.grows t (p.acks k t) (suc s.votes.term) s.log old.holds);
            };
        seen = λ h. Certified-grows p q b.grows nodes s.votes.term s.log s.view (o.seen h);
      }

-- ---- a node amid the others

-- node n has come to s, the others are as in the world w, and these messages were ever sent
pub record Here {E : Type 0} (nodes : List ℕ) (w : World E) (n : ℕ) (p : Past E) (s : RaftState E) (sent : List (Sent E)) : Type 0 where
  pub self : NodeOk nodes p n s
  pub others : (k : ℕ) → k == n ≡ false → NodeOk nodes p k (w.node k)
  pub past : PastOk nodes p
  pub said : AllByRecursion (λ (m : Sent E). IsSo nodes p m.from m.to m.message) sent

-- the same with a past that has grown from p
pub record Comes {E : Type 0} (nodes : List ℕ) (w : World E) (n : ℕ) (p : Past E) (s : RaftState E) (sent : List (Sent E)) : Type 0 where
  pub now : Past E
  pub grows : Grows p now
  pub here : Here nodes w n now s sent

module _ {E : Type 0} (nodes : List ℕ) (w : World E) (n : ℕ) where
  pub stay : (p : Past E) (s : RaftState E) (sent : List (Sent E)) → Here nodes w n p s sent → Comes nodes w n p s sent
  stay p s sent h = record { now = p; grows = Grows-same p; here = h }

  -- one move after another
  pub go_on : (p : Past E) (s t : RaftState E) (xs ys : List (Sent E)) → Comes nodes w n p s xs → ((q : Past E) → Grows p q → Here nodes w n q s xs → Comes nodes w n q t ys) → Comes nodes w n p t ys
  go_on p s t xs ys c f =
      let d = f c.now c.grows c.here in
      record { now = d.now; grows = Grows-more p c.now d.now c.grows d.grows; here = d.here }

  -- a move that leaves the past as it is
  pub goes_to : (p : Past E) (s t : RaftState E) (xs : List (Sent E)) → ((q : Past E) → Grows p q → PastOk nodes q → NodeOk nodes q n s → NodeOk nodes q n t) → Comes nodes w n p s xs → Comes nodes w n p t xs
  goes_to p s t xs f c =
      record { now = c.now; grows = c.grows; here = record { self = f c.now c.grows c.here.past c.here.self; others = c.here.others; past = c.here.past; said = c.here.said } }

  -- what the node sends is so
  pub sends : (p : Past E) (s : RaftState E) (xs ys : List (Sent E)) → ((q : Past E) → Grows p q → NodeOk nodes q n s → AllByRecursion (λ (m : Sent E). IsSo nodes q m.from m.to m.message) ys) → Comes nodes w n p s xs → Comes nodes w n p s (xs ++ ys)
  sends p s xs ys f c =
      record {
        now = c.now;
        grows = c.grows;
        here = record {
          self = c.here.self;
          others = c.here.others;
          past = c.here.past;
          said = all_append (λ (m : Sent E). IsSo nodes c.now m.from m.to m.message) xs ys c.here.said (f c.now c.grows c.here.self);
        };
      }

  -- what the node sends is so now
  pub sends_now : (p : Past E) (s : RaftState E) (xs ys : List (Sent E)) (c : Comes nodes w n p s xs) → AllByRecursion (λ (m : Sent E). IsSo nodes c.now m.from m.to m.message) ys → Comes nodes w n p s (xs ++ ys)
  sends_now p s xs ys c so =
      record {
        now = c.now;
        grows = c.grows;
        here = record { self = c.here.self; others = c.here.others; past = c.here.past; said = all_append (λ (m : Sent E). IsSo nodes c.now m.from m.to m.message) xs ys c.here.said so };
      }

  -- a past that changes for this node alone
  pub moves : (p q : Past E) (s t : RaftState E) (xs : List (Sent E)) → Beside n p q → PastOk nodes q → NodeOk nodes q n t → Here nodes w n p s xs → Comes nodes w n p t xs
  moves p q s t xs b ok self h =
      record {
        now = q;
        grows = b.grows;
        here = record {
          self = self;
          others = λ k other. NodeOk-beside nodes n p q b k other (w.node k) (h.others k other);
          past = ok;
          said = all_weaker (λ (m : Sent E). IsSo nodes p m.from m.to m.message) (λ (m : Sent E). IsSo nodes q m.from m.to m.message) xs (λ m. IsSo-grows nodes p q b.grows m.from m.to m.message) h.said;
        };
      }

  pub moves_now : (p q : Past E) (s t : RaftState E) (xs : List (Sent E)) → Beside n p q → PastOk nodes q → NodeOk nodes q n t → Here nodes w n p s xs → (c : Comes nodes w n p t xs) × (c.now ≡ q)
  unfolding moves
  moves_now p q s t xs b ok self h = (moves p q s t xs b ok self h, refl)
