-- What each row of a step keeps.
use Rattle.std.proofs.Common.{◌≡◌, ◌==◌, ◌&&◌, ℕ, ◌≤◌, ◌+◌, ◌-◌, min, max, nat_lt, not, Bool, true, false, ◌⊎◌, inl, inr, List, [], ◌∷◌, ◌++◌, length, map, take, drop, Option, Some, None, refl, sym, ap, subst, ◌∙◌, arith, append-nil, append_assoc, length-take, slice_set}
use Rattle.std.proofs.lemmas.Bool.{cond_both, eqb-true, and_parts, and_right, and_left, or_cases, ltb-true, ltb-false, both_ways, false≢true}
use Rattle.std.proofs.lemmas.List.{take_all, take-take, drop-take}
use Rattle.std.specs.List.{AllByRecursion}
use Rattle.region_map.specs.declared.id.NodeId.{NodeId}
use Rattle.region_map.specs.Nodes.{has, node_id, is_majority, with_member, without}
use Rattle.region_map.proofs.Sets.{has-with_member}
use Rattle.raft_vote.specs.declared.log.LogEntry.{LogEntry}
use Rattle.raft_vote.specs.declared.message.RaftMessage.{RaftMessage}
use Rattle.raft_vote.specs.declared.message.RaftMessage.TheVariants.{VoteAsk, VoteSay, Append, AppendSay}
use Rattle.raft_vote.specs.declared.votes.Role.{Role}
use Rattle.raft_vote.specs.declared.votes.Role.TheVariants.{Follower, Candidate, Leader}
use Rattle.raft_vote.specs.Log.{last_term}
use Rattle.raft_vote.specs.State.{VoteState}
use Rattle.raft_vote.specs.Rows.{Asking, alone, others, is_leader, wins, with_grants, election, starts_election, waiting, vote_tick, asks, take_term, following, is_free, reaches, grants, with_vote, counted, vote_said}
use Rattle.raft_append.specs.Merge.{Taken, fits, merged, taken}
use Rattle.raft_append.specs.Peers.{progress_at, progressed, reset_to}
use Rattle.raft_node.specs.declared.input.RaftInput.{RaftInput}
use Rattle.raft_node.specs.declared.input.RaftInput.TheVariants.{Tick, Deliver}
use Rattle.raft_node.specs.State.{RaftState}
use Rattle.raft_node.specs.Rows.{RaftStepped, is_full, entries_limit, prev_for, append_to, append_all, with_entry, won, elected, elect_row, tick_row, ask_row, vote_row, answered, append_row, say_row, deliver_row, input_row, advanced, raft_step, proposed}
use Rattle.raft_laws.specs.World.{Sent, World, posted}
use Rattle.raft_laws.proofs.Logs.{term_at-take}
use Rattle.raft_laws.proofs.Past.{Past, Ballot, Cast, Cast-grows, Grows, for_whom}
use Rattle.raft_laws.proofs.Nodes.{NodeOk, RoleOk, Stands, Asked, Shipped, IsSo, IsSo-grows, is_candidate, Comes, go_on, goes_to, sends}
use Rattle.raft_laws.proofs.Moves.{takes_term, turns, votes_for, stands}
use Rattle.raft_laws.proofs.Leading.{wins_term, appends, leads_of}
use Rattle.raft_laws.proofs.Following.{takes}
use Rattle.raft_laws.proofs.Counting.{advances, hears}

posted-append : {E : Type 0} (n : ℕ) (xs ys : List (NodeId × RaftMessage E)) → posted n (xs ++ ys) ≡ posted n xs ++ posted n ys
posted-append n [] ys = refl
posted-append n (x ∷ xs) ys = ap (λ zs. record { from = node_id n; to = x.0; message = x.1 } ∷ zs) (posted-append n xs ys)

-- a vote that a node has was cast
pub cast_of : {E : Type 0} (p : Past E) (k t : ℕ) (c : NodeId) (x : Option (Ballot E)) → p.ballots k t ≡ x → for_whom x ≡ Some c → Cast p k t c
cast_of p k t c None e f = absurd (cc f)
cast_of p k t c (Some b) e f = let same : b.for_node ≡ c = cc in record { ballot = b; is = e; self = same }

take_term-term : (s : VoteState) (term : ℕ) → s.term ≤ term → (take_term s term).term ≡ term
take_term-term s term h =
    cond_both (nat_lt s.term term) (record s { term = term; vote = None; role = Follower; leader = None }) s (λ (v : VoteState). v.term ≡ term)
    (λ _. refl) (λ e. let l = ltb-false s.term term e in omega (arith, l, h))

-- a node that stands or leads after it took a term did before
take_term-role : (s : VoteState) (term : ℕ) (r : Role) → (r ≡ Follower → ⊥) → (take_term s term).role ≡ r → s.role ≡ r
take_term-role s term r other =
    cond_both (nat_lt s.term term) (record s { term = term; vote = None; role = Follower; leader = None }) s (λ (v : VoteState). v.role ≡ r → s.role ≡ r)
    (λ _ e. absurd (other (sym e))) (λ _ e. e)

module _ {E : Type 0} (nodes : List ℕ) (w : World E) (n : ℕ) (p : Past E) (xs : List (Sent E)) where
  -- the node comes to this state, and what it sends is so
  abbrev pub Goes : RaftState E → List (NodeId × RaftMessage E) → Type 0
  Goes t sent = Comes nodes w n p t (xs ++ posted n sent)

  quiet : (t : RaftState E) → Comes nodes w n p t xs → Goes t []
  quiet t c = subst (Comes nodes w n p t) (sym (append-nil xs)) c

  takes_any : (s : RaftState E) (term : ℕ) → Comes nodes w n p s xs → Comes nodes w n p (record s { votes = take_term s.votes term }) xs
  takes_any s term c =
      cond_both (nat_lt s.votes.term term) (record s.votes { term = term; vote = None; role = Follower; leader = None }) s.votes
      (λ (v : VoteState). Comes nodes w n p (record s { votes = v }) xs)
      (λ e. goes_to nodes w n p s (record s { votes = record s.votes { term = term; vote = None; role = Follower; leader = None } }) xs (λ q g ok o. takes_term nodes q n s o term (ltb-true s.votes.term term e)) c)
      (λ _. c)

  -- ---- asked for a vote

  votes_free : (s : RaftState E) (from : NodeId) (v : Option NodeId) → s.votes.vote ≡ v → is_free v from ≡ true
      → ((q : Past E) → Grows p q → (ballot : Ballot E) × (q.ballots from.0 s.votes.term ≡ Some ballot) × (ballot.for_node ≡ from) × (reaches (last_term ballot.log) (length ballot.log) (last_term s.log) (length s.log) ≡ true))
      → Comes nodes w n p s xs → Comes nodes w n p (record s { votes = record s.votes { vote = Some from } }) xs
  votes_free s from None none free rival c =
      go_on nodes w n p s (record s { votes = record s.votes { vote = Some from } }) xs xs c
      (λ q g h. let r = rival q g in votes_for nodes w n q s xs h from (record { ballot = r.0; is = r.1; self = r.2; reaches = r.3 }) none)
  votes_free s from (Some m) some free rival c =
      let number : m.0 ≡ from.0 = eqb-true m.0 from.0 free in
      let same : s.votes.vote ≡ Some from = some ∙ ap (λ k. Some (node_id k)) number in
      subst (λ (v : Option NodeId). Comes nodes w n p (record s { votes = record s.votes { vote = v } }) xs) same c

  says_vote : (s : RaftState E) (from : NodeId) (granted : Bool) (c : Comes nodes w n p (record s { votes = with_vote s.votes from granted }) xs) → Goes (record s { votes = with_vote s.votes from granted }) ((from, VoteSay (with_vote s.votes from granted).term granted) ∷ [])
  says_vote s from true c =
      let t : RaftState E = record s { votes = with_vote s.votes from true } in
      sends nodes w n p t xs (posted n ((from, VoteSay t.votes.term true) ∷ [])) (λ q g o. (cast_of q n t.votes.term from (q.ballots n t.votes.term) refl o.now, tt)) c
  says_vote s from false c =
      let t : RaftState E = record s { votes = with_vote s.votes from false } in
      sends nodes w n p t xs (posted n ((from, VoteSay t.votes.term false) ∷ [])) (λ q g o. (tt, tt)) c

  with_vote_comes : (s : RaftState E) (from : NodeId) (term last index : ℕ) → Asked p from term last index → (granted : Bool) → grants s.votes from term last index (last_term s.log) (length s.log) ≡ granted → Comes nodes w n p s xs → Comes nodes w n p (record s { votes = with_vote s.votes from granted }) xs
  with_vote_comes s from term last index asked false e c = c
  with_vote_comes s from term last index asked true e c =
      let one = and_parts ((s.votes.term == term) && is_free s.votes.vote from) (reaches last index (last_term s.log) (length s.log)) e in
      let two = and_parts (s.votes.term == term) (is_free s.votes.vote from) one.0 in
      let same : s.votes.term ≡ term = eqb-true s.votes.term term two.0 in
      votes_free s from s.votes.vote refl two.1
      (λ q g. (
        asked.ballot,
        ap (q.ballots from.0) same ∙ g.ballots from.0 term asked.ballot asked.is,
        asked.self,
        ap (λ v. reaches v (length asked.ballot.log) (last_term s.log) (length s.log)) (sym asked.last_is)
            ∙ ap (λ v. reaches last v (last_term s.log) (length s.log)) (sym asked.index_is) ∙ one.1,
      )) c

  asked_goes : (s : RaftState E) (from : NodeId) (term last index : ℕ) → Asked p from term last index → Comes nodes w n p s xs → (let r = ask_row s from term last index in Goes r.node r.sent)
  asked_goes s from term last index asked c =
      let t : RaftState E = record s { votes = take_term s.votes term } in
      let granted = grants t.votes from term last index (last_term s.log) (length s.log) in
      says_vote t from granted (with_vote_comes t from term last index asked granted refl (takes_any s term c))

  -- ---- elections

  -- a candidate with a majority, which the election makes a leader
  pub record Winning (s : RaftState E) (v : VoteState) (sent : List (NodeId × RaftMessage E)) : Type 0 where
    pub wins_is : wins s.votes v ≡ true
    pub before : VoteState
    pub granted : List ℕ
    pub refused : Bool
    pub stood : before.role ≡ Candidate granted refused
    pub most : is_majority granted nodes ≡ true
    pub is : v ≡ record before { role = Leader; leader = Some before.me }
    pub comes : Comes nodes w n p (record s { votes = before }) (xs ++ posted n sent)

  -- no election is won
  pub record Resting (s : RaftState E) (v : VoteState) (sent : List (NodeId × RaftMessage E)) : Type 0 where
    pub wins_not : wins s.votes v ≡ false
    pub comes : Comes nodes w n p (record s { votes = v }) (xs ++ posted n sent)

  abbrev Outcome : RaftState E → VoteState → List (NodeId × RaftMessage E) → Type 0
  Outcome s v sent = Resting s v sent ⊎ Winning s v sent

  no_win : (s v : VoteState) → is_leader v.role ≡ false → wins s v ≡ false
  no_win s v e = and_right (not (is_leader s.role)) (is_leader v.role) e

  -- what a candidate sends
  abbrev CandidateSays : RaftState E → (ℕ → List (NodeId × RaftMessage E)) → Type 0
  CandidateSays s f = (q : Past E) (term : ℕ) (votes : List ℕ) → Grows p q → Stands q n term s.log votes → AllByRecursion (λ (m : Sent E). IsSo nodes q m.from m.to m.message) (posted n (f term))

  granted_outcome : (s : RaftState E) (u : VoteState) (granted : List ℕ) (refused : Bool) (f : ℕ → List (NodeId × RaftMessage E)) → is_leader s.votes.role ≡ false → u.nodes ≡ nodes → CandidateSays s f
      → Comes nodes w n p (record s { votes = record u { role = Candidate granted refused } }) xs → (let v = with_grants u granted refused in Outcome s v (f v.term))
  granted_outcome s u granted refused f follows all says c =
      let cand : VoteState = record u { role = Candidate granted refused } in
      let lead : VoteState = record u { role = Leader; leader = Some u.me } in
      let comes : Comes nodes w n p (record s { votes = cand }) (xs ++ posted n (f u.term)) =
      sends nodes w n p (record s { votes = cand }) xs (posted n (f u.term)) (λ q g o. says q u.term granted g o.role) c in
      cond_both (is_majority granted u.nodes) lead cand (λ (v : VoteState). Outcome s v (f v.term))
      (λ e.
      let win : wins s.votes lead ≡ true = ap (λ b. not b && true) follows in
      inr (record {
        wins_is = win;
        before = cand;
        granted = granted;
        refused = refused;
        stood = refl;
        most = subst (λ (ns : List ℕ). is_majority granted ns ≡ true) all e;
        is = refl;
        comes = comes;
      }))
      (λ _. inl (record { wins_not = no_win s.votes cand refl; comes = comes }))

  -- a new leader's log, and what it says of it
  shipped_all : (s : RaftState E) → is_leader s.votes.role ≡ true → (q : Past E) → NodeOk nodes q n s → (to : NodeId) → IsSo nodes q (node_id n) to (append_to s to)
  shipped_all s leading q o to =
      let l = leads_of q n s.votes.role s.votes.term s.log s.peers leading o.role in
      let prev = prev_for s to in
      let next = (l.knows to.0).next in
      let low : prev ≤ length s.log = omega (arith, next) in
      let end = prev + entries_limit in
      let front = take end s.log in
      let size : length front ≡ min end (length s.log) = length-take end s.log in
      let short : length front ≤ end = omega (arith, size) in
      let long : prev ≤ length front = omega (arith, low, size) in
      record {
        reign = record { leader = n; won = l.won; log = s.log };
        is = l.is;
        log = front;
        front = sym (take-take (length front) end s.log short) ∙ take_all (length front) front (omega arith);
        within = long;
        term_is = sym (term_at-take end prev s.log (omega arith));
        rest = sym (drop-take prev entries_limit s.log);
        seen = o.seen;
      }

  says_all : (s : RaftState E) (ys : List (Sent E)) → is_leader s.votes.role ≡ true → Comes nodes w n p s ys → Comes nodes w n p s (ys ++ posted n (append_all s))
  says_all s ys leading c =
      sends nodes w n p s ys (posted n (append_all s)) (λ q g o. all_so q o (map node_id (others s.votes))) c
    where
      all_so : (q : Past E) → NodeOk nodes q n s → (ns : List NodeId) → AllByRecursion (λ (m : Sent E). IsSo nodes q m.from m.to m.message) (posted n (map (λ m. (m, append_to s m)) ns))
      all_so q o [] = tt
      all_so q o (m ∷ ms) = (shipped_all s leading q o m, all_so q o ms)

  won_comes : (noop : E) (s : RaftState E) (v : VoteState) (sent : List (NodeId × RaftMessage E)) → Winning s v sent → Comes nodes w n p (won noop (record s { votes = v })) (xs ++ posted n sent)
  won_comes noop s v sent r =
      let ys = xs ++ posted n sent in
      let before : RaftState E = record s { votes = r.before } in
      let after : VoteState = record r.before { role = Leader; leader = Some r.before.me } in
      let t : RaftState E = record s { votes = after; peers = reset_to (length s.log + 1) s.peers } in
      let led : Comes nodes w n p t ys =
      go_on nodes w n p before t ys ys r.comes
      (λ q g h.
      let st : Stands q n r.before.term s.log r.granted = subst (λ (x : Role). RoleOk q n x r.before.term s.log s.peers) r.stood h.self.role in
      wins_term nodes w n q before ys h r.granted st (ap is_candidate r.stood) r.most (Some r.before.me)) in
      let done : Comes nodes w n p (won noop (record s { votes = after })) ys =
      cond_both (is_full s.log) t (with_entry t noop) (λ (x : RaftState E). Comes nodes w n p x ys)
      (λ _. led)
      (λ _. go_on nodes w n p t (with_entry t noop) ys ys led (λ q g h. appends nodes w n q t ys h refl noop)) in
      subst (λ (x : VoteState). Comes nodes w n p (won noop (record s { votes = x })) ys) (sym r.is) done

  won_leads : (noop : E) (s : RaftState E) → is_leader s.votes.role ≡ true → is_leader (won noop s).votes.role ≡ true
  won_leads noop s e = cond_both (is_full s.log) (record s { peers = reset_to (length s.log + 1) s.peers }) (with_entry (record s { peers = reset_to (length s.log + 1) s.peers }) noop) (λ (x : RaftState E). is_leader x.votes.role ≡ true) (λ _. e) (λ _. e)

  elected_goes : (noop : E) (s : RaftState E) (v : VoteState) (sent : List (NodeId × RaftMessage E)) → Outcome s v sent → (let r = elected noop s v sent in Goes r.node r.sent)
  elected_goes noop s v sent outcome =
      let t : RaftState E = record s { votes = v } in
      cond_both (wins s.votes v) (record { node = won noop t; sent = sent ++ append_all (won noop t) }) (record { node = t; sent = sent }) (λ (r : RaftStepped E). Goes r.node r.sent)
      (λ win. elim outcome [
        | inl rest ↦ absurd (both_ways (wins s.votes v) rest.wins_not win)
        | inr winning ↦
            let leading = won_leads noop t (and_parts (not (is_leader s.votes.role)) (is_leader v.role) win).1 in
            let all = says_all (won noop t) (xs ++ posted n sent) leading (won_comes noop s v sent winning) in
            let joined : xs ++ posted n (sent ++ append_all (won noop t)) ≡ (xs ++ posted n sent) ++ posted n (append_all (won noop t)) =
            ap (λ ys. xs ++ ys) (posted-append n sent (append_all (won noop t))) ∙ sym (append_assoc xs (posted n sent) (posted n (append_all (won noop t)))) in
            subst (Comes nodes w n p (won noop t)) (sym joined) all
      ])
      (λ no. elim outcome [
        | inl rest ↦ rest.comes
        | inr winning ↦ absurd (both_ways (wins s.votes v) no winning.wins_is)
      ])

  -- ---- a tick

  asks_so : (q : Past E) (s : RaftState E) (term : ℕ) (votes : List ℕ) → Stands q n term s.log votes → (ns : List NodeId) → AllByRecursion (λ (m : Sent E). IsSo nodes q m.from m.to m.message) (posted n (map (λ m. (m, VoteAsk term (last_term s.log) (length s.log))) ns))
  asks_so q s term votes st [] = tt
  asks_so q s term votes st (m ∷ ms) =
      (record { ballot = record { for_node = node_id n; log = s.log; bound = st.bound }; is = st.own; self = refl; last_is = refl; index_is = refl }, asks_so q s term votes st ms)

  election_outcome : (s : RaftState E) → is_leader s.votes.role ≡ false → ((q : Past E) → NodeOk nodes q n s → s.votes.nodes ≡ nodes) → Comes nodes w n p s xs
      → (let r = election s.votes in Outcome s r.node (asks r.node.term (last_term s.log) (length s.log) r.asked))
  election_outcome s follows all c =
      let u : VoteState = record s.votes { term = s.votes.term + 1; vote = Some s.votes.me; leader = None } in
      let cand : RaftState E = record s { votes = record u { role = Candidate (alone s.votes.me) false } } in
      granted_outcome s u (alone s.votes.me) false (λ term. asks term (last_term s.log) (length s.log) (others s.votes)) follows (c.here.self.all)
      (λ q term votes g st. asks_so q s term votes st (map node_id (others s.votes)))
      (go_on nodes w n p s cand xs xs c (λ q g h. stands nodes w n q s xs h))

  waiting_outcome : (s : RaftState E) (r : Role) → s.votes.role ≡ r → is_leader r ≡ false → Comes nodes w n p s xs
      → (let a = waiting r s.votes in Outcome s a.node (asks a.node.term (last_term s.log) (length s.log) a.asked))
  waiting_outcome s Follower is follows c = inl (record { wins_not = no_win s.votes s.votes (ap is_leader is); comes = quiet s c })
  waiting_outcome s (Candidate granted true) is follows c =
      let v : VoteState = record s.votes { role = Follower } in
      let t : RaftState E = record s { votes = v } in
      inl (record { wins_not = no_win s.votes v refl; comes = quiet t (goes_to nodes w n p s t xs (λ q g ok o. turns nodes q n s o Follower s.votes.leader tt (λ (e : false ≡ true). absurd (false≢true e))) c) })
  waiting_outcome s (Candidate granted false) is follows c =
      inl (record {
        wins_not = no_win s.votes s.votes (ap is_leader is);
        comes = sends nodes w n p s xs (posted n (asks s.votes.term (last_term s.log) (length s.log) (without s.votes.nodes granted)))
            (λ q g o. asks_so q s s.votes.term granted (subst (λ (x : Role). RoleOk q n x s.votes.term s.log s.peers) is o.role) (map node_id (without s.votes.nodes granted))) c;
      })
  waiting_outcome s Leader is follows c = absurd (cc follows)

  tick_goes : (noop : E) (s : RaftState E) (unseen : List ℕ) → Comes nodes w n p s xs → (let r = tick_row noop s unseen in Goes r.node r.sent)
  tick_goes noop s unseen c =
      cond_both (is_leader s.votes.role) (record { node = s; sent = append_all s }) (elect_row noop s unseen) (λ (r : RaftStepped E). Goes r.node r.sent)
      (λ leading. says_all s xs leading c)
      (λ follows.
      let outcome : (let a = vote_tick s.votes unseen in Outcome s a.node (asks a.node.term (last_term s.log) (length s.log) a.asked)) =
      cond_both (starts_election s.votes.role s.votes unseen) (election s.votes) (waiting s.votes.role s.votes) (λ (a : Asking). Outcome s a.node (asks a.node.term (last_term s.log) (length s.log) a.asked))
      (λ _. election_outcome s follows (λ q o. o.all) c)
      (λ _. waiting_outcome s s.votes.role refl follows c) in
      let a = vote_tick s.votes unseen in
      elected_goes noop s a.node (asks a.node.term (last_term s.log) (length s.log) a.asked) outcome)

  -- ---- told of a vote

  counted_outcome : (s : RaftState E) (from : NodeId) (term : ℕ) (granted : Bool) → IsSo nodes p from (node_id n) (VoteSay term granted) → Comes nodes w n p (record s { votes = take_term s.votes term }) xs
      → (r : Role) → (take_term s.votes term).role ≡ r → Outcome s (counted r (take_term s.votes term) from term granted) []
  counted_outcome s from term granted so c Follower is =
      let t : RaftState E = record s { votes = take_term s.votes term } in
      inl (record { wins_not = no_win s.votes t.votes (ap is_leader is); comes = quiet t c })
  counted_outcome s from term true so c (Candidate votes refused) is =
      let t : RaftState E = record s { votes = take_term s.votes term } in
      let more = with_member votes from.0 in
      let role = Candidate more refused in
      let follows : is_leader s.votes.role ≡ false = ap is_leader (take_term-role s.votes term (Candidate votes refused) (λ e. cc e) is) in
      cond_both (t.votes.term == term) (with_grants t.votes more refused) t.votes (λ (v : VoteState). Outcome s v [])
      (λ same.
      let term_is : t.votes.term ≡ term = eqb-true t.votes.term term same in
      let cand : RaftState E = record s { votes = record t.votes { role = role } } in
      granted_outcome s t.votes more refused (λ _. []) follows (c.here.self.all) (λ q k v g st. tt)
      (goes_to nodes w n p t cand xs
      (λ q g ok o.
      let st : Stands q n t.votes.term s.log votes = subst (λ (x : Role). RoleOk q n x t.votes.term s.log s.peers) is o.role in
      let new : Cast q from.0 t.votes.term (node_id n) = subst (λ (x : ℕ). Cast q from.0 x (node_id n)) (sym term_is) (Cast-grows p q from.0 term (node_id n) g so) in
      let now : Stands q n t.votes.term s.log more =
      record {
        counted = λ k e.
            elim (or_cases (from.0 == k) (has votes k) (sym (has-with_member votes from.0 k) ∙ e)) [
              | inl one ↦ subst (λ (x : ℕ). Cast q x t.votes.term (node_id n)) (eqb-true from.0 k one) new
              | inr old ↦ st.counted k old
            ];
        bound = st.bound;
        own = st.own;
        below = st.below;
      } in
      turns nodes q n t o role t.votes.leader now (λ _. ap is_candidate is)) c))
      (λ _. inl (record { wins_not = no_win s.votes t.votes (ap is_leader is); comes = quiet t c }))
  counted_outcome s from term false so c (Candidate votes refused) is =
      let t : RaftState E = record s { votes = take_term s.votes term } in
      let v : VoteState = record t.votes { role = Candidate votes true } in
      cond_both (t.votes.term == term) v t.votes (λ (x : VoteState). Outcome s x [])
      (λ _.
      let cand : RaftState E = record s { votes = v } in
      inl (record {
        wins_not = no_win s.votes v refl;
        comes = quiet cand (goes_to nodes w n p t cand xs
            (λ q g ok o.
            let st : Stands q n t.votes.term s.log votes = subst (λ (x : Role). RoleOk q n x t.votes.term s.log s.peers) is o.role in
            turns nodes q n t o (Candidate votes true) t.votes.leader st (λ _. ap is_candidate is)) c);
      }))
      (λ _. inl (record { wins_not = no_win s.votes t.votes (ap is_leader is); comes = quiet t c }))
  counted_outcome s from term granted so c Leader is =
      let t : RaftState E = record s { votes = take_term s.votes term } in
      let leads : s.votes.role ≡ Leader = take_term-role s.votes term Leader (λ e. cc e) is in
      inl (record { wins_not = and_left (not (is_leader s.votes.role)) (is_leader t.votes.role) (ap (λ (r : Role). not (is_leader r)) leads); comes = quiet t c })

  told_goes : (noop : E) (s : RaftState E) (from : NodeId) (term : ℕ) (granted : Bool) → IsSo nodes p from (node_id n) (VoteSay term granted) → Comes nodes w n p s xs → (let r = vote_row noop s from term granted in Goes r.node r.sent)
  told_goes noop s from term granted so c =
      elected_goes noop s (vote_said s.votes from term granted) []
      (counted_outcome s from term granted so (takes_any s term c) (take_term s.votes term).role refl)

  -- ---- appends

  append_goes : (s : RaftState E) (from : NodeId) (term prev prev_term : ℕ) (entries : List (LogEntry E)) (commit : ℕ) → Shipped nodes p term prev prev_term entries commit → Comes nodes w n p s xs
      → (let r = append_row s from term prev prev_term entries commit in Goes r.node r.sent)
  append_goes s from term prev prev_term entries commit shipped c =
      let t : RaftState E = record s { votes = take_term s.votes term } in
      let f : RaftState E = record s { votes = following (take_term s.votes term) from } in
      cond_both (nat_lt term s.votes.term) (record { node = s; sent = (from, AppendSay s.votes.term false 0) ∷ [] }) (answered f from (taken s.log s.view prev prev_term entries commit))
      (λ (r : RaftStepped E). Goes r.node r.sent)
      (λ _. sends nodes w n p s xs (posted n ((from, AppendSay s.votes.term false 0) ∷ [])) (λ q g o. (tt, tt)) c)
      (λ e.
      let same : f.votes.term ≡ term = take_term-term s.votes term (ltb-false term s.votes.term e) in
      let comes : Comes nodes w n p f xs =
      goes_to nodes w n p t f xs (λ q g ok o. turns nodes q n t o Follower (Some from) tt (λ (e : false ≡ true). absurd (false≢true e))) (takes_any s term c) in
      cond_both (fits s.log prev prev_term)
      (record { log = take prev s.log ++ merged (drop prev s.log) entries; view = max s.view (min commit (prev + length entries)); ok = true; upto = prev + length entries })
      (record { log = s.log; view = s.view; ok = false; upto = min (prev - 1) (length s.log) })
      (λ (x : Taken E). let r = answered f from x in Goes r.node r.sent)
      (λ fit.
      go_on nodes w n p f (record f { log = take prev s.log ++ merged (drop prev s.log) entries; view = max s.view (min commit (prev + length entries)) }) xs
      (xs ++ posted n ((from, AppendSay f.votes.term true (prev + length entries)) ∷ [])) comes
      (λ q g h. takes nodes w n q f xs h refl from prev prev_term entries commit
      (subst (λ (k : ℕ). Shipped nodes q k prev prev_term entries commit) (sym same) (IsSo-grows nodes p q g from (node_id n) (Append term prev prev_term entries commit) shipped)) fit))
      (λ _. sends nodes w n p f xs (posted n ((from, AppendSay f.votes.term false (min (prev - 1) (length s.log))) ∷ [])) (λ q g o. (tt, tt)) comes))

  say_so : (q : Past E) (from : NodeId) (term : ℕ) (ok : Bool) (upto : ℕ) → IsSo nodes q from (node_id n) (AppendSay term ok upto) → ok ≡ true → upto ≤ q.acks from.0 term
  say_so q from term true upto so e = so
  say_so q from term false upto so e = absurd (false≢true e)

  say_goes : (s : RaftState E) (from : NodeId) (term : ℕ) (ok : Bool) (upto : ℕ) → IsSo nodes p from (node_id n) (AppendSay term ok upto) → Comes nodes w n p s xs → Goes (say_row s from term ok upto) []
  say_goes s from term ok upto so c =
      let t : RaftState E = record s { votes = take_term s.votes term } in
      let comes = takes_any s term c in
      let told : RaftState E = record t { peers = slice_set s.peers from.0 (progressed (progress_at s.peers from.0) (length s.log) ok upto) } in
      cond_both (is_leader t.votes.role && (t.votes.term == term)) told t (λ (x : RaftState E). Goes x [])
      (λ e.
      let both = and_parts (is_leader t.votes.role) (t.votes.term == term) e in
      let same : t.votes.term ≡ term = eqb-true t.votes.term term both.1 in
      quiet told (goes_to nodes w n p t told xs
      (λ q g good o. hears nodes q n t o both.0 from ok upto
      (λ is. subst (λ (k : ℕ). upto ≤ q.acks from.0 k) (sym same) (say_so q from term ok upto (IsSo-grows nodes p q g from (node_id n) (AppendSay term ok upto) so) is))) comes))
      (λ _. quiet t comes)

  -- ---- a step

  deliver_goes : (noop : E) (s : RaftState E) (from : NodeId) (m : RaftMessage E) → IsSo nodes p from (node_id n) m → Comes nodes w n p s xs → (let r = deliver_row noop s from m in Goes r.node r.sent)
  deliver_goes noop s from (VoteAsk term last index) so c = asked_goes s from term last index so c
  deliver_goes noop s from (VoteSay term granted) so c = told_goes noop s from term granted so c
  deliver_goes noop s from (Append term prev prev_term entries commit) so c = append_goes s from term prev prev_term entries commit so c
  deliver_goes noop s from (AppendSay term ok upto) so c = say_goes s from term ok upto so c

  -- what a step is given is so
  abbrev pub IsGiven : RaftInput E → Type 0
  IsGiven (Tick unseen) = Unit {0}
  IsGiven (Deliver from m) = IsSo nodes p from (node_id n) m

  row_goes : (noop : E) (s : RaftState E) (i : RaftInput E) → IsGiven i → Comes nodes w n p s xs → (let r = input_row noop s i in Goes r.node r.sent)
  row_goes noop s (Tick unseen) given c = tick_goes noop s unseen c
  row_goes noop s (Deliver from m) given c = deliver_goes noop s from m given c

  goes_advanced : (t : RaftState E) (ys : List (Sent E)) → Comes nodes w n p t ys → Comes nodes w n p (advanced t) ys
  goes_advanced t ys c = goes_to nodes w n p t (advanced t) ys (λ q g ok o. advances nodes q n t o) c

  pub step_goes : (noop : E) (s : RaftState E) (i : RaftInput E) → IsGiven i → Comes nodes w n p s xs → (let r = raft_step noop s i in Goes r.node r.sent)
  step_goes noop s i given c = let r = input_row noop s i in goes_advanced r.node (xs ++ posted n r.sent) (row_goes noop s i given c)

  pub propose_goes : (s : RaftState E) (change : E) → is_leader s.votes.role ≡ true → Comes nodes w n p s xs → Comes nodes w n p (proposed s change) xs
  propose_goes s change leading c =
      goes_advanced (with_entry s change) xs (go_on nodes w n p s (with_entry s change) xs xs c (λ q g h. appends nodes w n q s xs h leading change))
