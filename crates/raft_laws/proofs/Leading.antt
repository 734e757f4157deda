-- What a node keeps as it comes to lead, and as it leads.
use Rattle.std.proofs.Common.{◌≡◌, ℕ, zero, suc, ◌≤◌, ◌+◌, max, true, false, inl, inr, List, [], ◌∷◌, ◌++◌, length, Option, Some, None, refl, sym, ap, subst, ◌∙◌, arith, append_assoc, append-nil, length-append, replicate}
use Rattle.std.proofs.lemmas.Bool.{cases_lt, cases_eq, both_ways}
use Rattle.region_map.specs.declared.id.NodeId.{NodeId}
use Rattle.region_map.specs.Nodes.{node_id, is_majority}
use Rattle.region_map.proofs.Majorities.{majorities_meet}
use Rattle.raft_vote.specs.declared.log.LogEntry.{LogEntry}
use Rattle.raft_vote.specs.declared.votes.Role.{Role}
use Rattle.raft_vote.specs.declared.votes.Role.TheVariants.{Follower, Candidate, Leader}
use Rattle.raft_vote.specs.Log.{term_at}
use Rattle.raft_vote.specs.Rows.{is_leader}
use Rattle.raft_append.specs.declared.peers.Progress.{Progress}
use Rattle.raft_append.specs.Peers.{progress_at, reset_to, fresh}
use Rattle.raft_node.specs.State.{RaftState}
use Rattle.raft_node.specs.Rows.{with_entry}
use Rattle.raft_laws.specs.World.{Sent, World}
use Rattle.raft_laws.proofs.Logs.{same_terms, as_long, front_of, Rises, Rises-push, IsUpTo-push}
use Rattle.raft_laws.proofs.Past.{Past, Ballot, Reign, Grounded, Grounded-grows, Grounded-push, one_reign}
use Rattle.raft_laws.proofs.Claims.{Holds, Holds-grows, Certified-grows, Certified-other, Certified-within, ReignOk, ReignOk-grows, PastOk}
use Rattle.raft_laws.proofs.Nodes.{RoleOk, Stands, Knows, Knows-more, Leads, Beside-more, is_candidate, Here, Comes, moves}
use Rattle.raft_laws.proofs.Ghosts.{with_reign, with_reign-at, with_reign-term, with_reign-beside, with_reign-past, IsLonger, with_ack, with_ack-at, with_ack-term, with_ack-beside, with_ack-past}
use Rattle.raft_laws.proofs.Moves.{Holds-more}

none_if : {X : Type 0} (x : Option X) → ((y : X) → x ≡ Some y → ⊥) → x ≡ None
none_if None f = refl
none_if (Some y) f = absurd (f y refl)

-- nothing is known of a node that is not in the list, nor at the start
fresh_knows : (said last n k : ℕ) → Knows said last (progress_at (replicate n (fresh (last + 1))) k)
fresh_knows said last zero k = record { matched = omega arith; within = omega arith; next = omega arith }
fresh_knows said last (suc n) zero = record { matched = omega arith; within = omega arith; next = omega arith }
fresh_knows said last (suc n) (suc k) = fresh_knows said last n k

reset_knows : (said last k : ℕ) (peers : List Progress) → Knows said last (progress_at (reset_to (last + 1) peers) k)
reset_knows said last k peers = fresh_knows said last (length peers) k

-- the terms of a log that is grounded do not fall
pub grounded_rises : {E : Type 0} (nodes : List ℕ) (p : Past E) → PastOk nodes p → (log : List (LogEntry E)) → Grounded p log → Rises log
grounded_rises nodes p ok log g =
    record {
      at = λ i k h l.
          elim (cases_lt 0 k) [
            | inl some ↦
                let source = g.at k some l in
                let reign = ok.reigns (term_at log k) source.reign source.is in
                let far : k ≤ length source.reign.log = as_long k log source.reign.log source.same l in
                let rise = reign.rises.at i k h far in
                let a : term_at log i ≡ term_at source.reign.log i = same_terms k i log source.reign.log source.same h in
                let b : term_at log k ≡ term_at source.reign.log k = same_terms k k log source.reign.log source.same (omega arith) in
                omega (arith, rise, a, b)
            | inr none ↦
                let same : i ≡ k = omega (arith, h, none) in
                let e : term_at log i ≡ term_at log k = ap (term_at log) same in
                omega (arith, e)
          ];
    }

module _ {E : Type 0} (nodes : List ℕ) (w : World E) (n : ℕ) (p : Past E) (s : RaftState E) (xs : List (Sent E)) (here : Here nodes w n p s xs) where
  -- a candidate that has a majority is the first to lead in its term
  first : (votes : List ℕ) → Stands p n s.votes.term s.log votes → is_candidate s.votes.role ≡ true → is_majority votes nodes ≡ true → p.reigns s.votes.term ≡ None
  first votes st cand most =
      none_if (p.reigns s.votes.term)
      (λ r e.
      let reign = here.past.reigns s.votes.term r e in
      let both = majorities_meet votes reign.votes nodes most reign.majority in
      let a = st.counted both.0 both.2 in
      let b = (reign.voted both.0 both.3).cast in
      let two : Some a.ballot ≡ Some b.ballot = sym a.is ∙ b.is in
      let one : a.ballot ≡ b.ballot = cc in
      let ids : node_id r.leader ≡ node_id n = sym b.self ∙ ap (λ (x : Ballot E). x.for_node) (sym one) ∙ a.self in
      let same : r.leader ≡ n = ap (λ (m : NodeId). m.0) ids in
      elim (here.self.led s.votes.term r e same) [
        | inl below ↦ omega (arith, below)
        | inr at ↦ both_ways (is_candidate s.votes.role) at.1 cand
      ])

  pub wins_term : (votes : List ℕ) → Stands p n s.votes.term s.log votes → is_candidate s.votes.role ≡ true → is_majority votes nodes ≡ true → (leader : Option NodeId)
      → Comes nodes w n p (record s { votes = record s.votes { role = Leader; leader = leader }; peers = reset_to (length s.log + 1) s.peers }) xs
  wins_term votes st cand most leader =
      let o = here.self in
      let t = s.votes.term in
      let none = first votes st cand most in
      let r : Reign E = record { leader = n; won = s.log; log = s.log } in
      let q = with_reign p n t r refl in
      let longer : IsLonger p n t r refl = record { at = λ x e. let clash : None ≡ Some x = sym none ∙ e in cc } in
      let beside = with_reign-beside p n t r refl longer in
      let g = beside.grows in
      let at = with_reign-at p n t r refl in
      let reign_ok : ReignOk nodes q t r =
      record {
        votes = votes;
        majority = most;
        voted = λ k h.
            let c = st.counted k h in
            let early : c.ballot.bound ≡ t = elim (here.past.ballots k t c.ballot c.is).fresh [
              | inl e ↦ e
              | inr led ↦ let clash : None ≡ Some led.0 = sym none ∙ led.1 in cc
            ] in
            record { cast = record { ballot = c.ballot; is = c.is; self = c.self }; early = early };
        bound = st.bound;
        own = st.own;
        below = st.below;
        rest = [];
        is = sym (append-nil s.log);
        rises = grounded_rises nodes p here.past s.log o.grounded;
        upto = o.upto;
        grounded = Grounded-grows p q s.log g o.grounded;
      } in
      let ok = with_reign-past p n t r refl nodes longer reign_ok here.past in
      let u = with_ack q n t (length s.log) in
      let beside2 = with_ack-beside q n t (length s.log) in
      let ok2 = with_ack-past q n t (length s.log) nodes o.later ok in
      let acked_now : u.acks n t ≡ max (p.acks n t) (length s.log) = with_ack-at q n t (length s.log) in
      let no_ack : p.acks n t ≡ 0 = elim (cases_lt 0 (p.acks n t)) [
        | inl some ↦
            let old = (o.acked t some).holds in
            let clash : None ≡ Some old.reign = sym none ∙ old.is in
            cc
        | inr zero_at ↦ omega (arith, zero_at)
      ] in
      let both = Beside-more n p q u beside beside2 in
      moves nodes w n p u s (record s { votes = record s.votes { role = Leader; leader = leader }; peers = reset_to (length s.log + 1) s.peers }) xs both ok2
      (record {
        me = o.me;
        all = o.all;
        now = o.now;
        later = o.later;
        role = record { won = s.log; is = at; mine = omega (arith, acked_now, no_ack); knows = λ k. reset_knows (u.acks k t) (length s.log) k s.peers };
        grounded = Grounded-grows p u s.log both.grows o.grounded;
        upto = o.upto;
        led = λ x y e l.
            elim (cases_eq x t) [
              | inl same ↦ inr (same, refl)
              | inr ne ↦ elim (o.led x y (sym (with_reign-term p n t r refl x ne) ∙ e) l) [
                | inl below ↦ inl below
                | inr same ↦ absurd (ne same.0)
              ]
            ];
        acked = λ x a.
            elim (cases_eq x t) [
              | inl same ↦
                  let e : u.acks n x ≡ length s.log = ap (u.acks n) same ∙ acked_now ∙ (let m : max (p.acks n t) (length s.log) ≡ length s.log = omega (arith, no_ack) in m) in
                  record {
                    low = omega (arith, same);
                    holds = record { reign = r; is = ap u.reigns same ∙ at; within = omega (arith, e); keeps = λ v l b. refl };
                  }
              | inr ne ↦
                  let e = with_ack-term q n t (length s.log) x ne in
                  let old = o.acked x (omega (arith, e, a)) in
                  record { low = old.low; holds = subst (λ (v : ℕ). Holds u x v (suc t) s.log) (sym e) (Holds-grows p u both.grows x (p.acks n x) (suc t) s.log old.holds) }
            ];
        seen = λ l. Certified-grows p u both.grows nodes t s.log s.view (o.seen l);
      })
      here

pub leads_of : {E : Type 0} (p : Past E) (n : ℕ) (r : Role) (term : ℕ) (log : List (LogEntry E)) (peers : List Progress) → is_leader r ≡ true → RoleOk p n r term log peers → Leads p n term log peers
leads_of p n Follower term log peers e o = absurd (cc e)
leads_of p n (Candidate votes refused) term log peers e o = absurd (cc e)
leads_of p n Leader term log peers e o = o

pub of_leads : {E : Type 0} (p : Past E) (n : ℕ) (r : Role) (term : ℕ) (log : List (LogEntry E)) (peers : List Progress) → is_leader r ≡ true → Leads p n term log peers → RoleOk p n r term log peers
of_leads p n Follower term log peers e o = tt
of_leads p n (Candidate votes refused) term log peers e o = absurd (cc e)
of_leads p n Leader term log peers e o = o

pub not_candidate : (r : Role) → is_leader r ≡ true → is_candidate r ≡ false
not_candidate Follower e = refl
not_candidate (Candidate votes refused) e = absurd (cc e)
not_candidate Leader e = refl

module _ {E : Type 0} (nodes : List ℕ) (w : World E) (n : ℕ) (p : Past E) (s : RaftState E) (xs : List (Sent E)) (here : Here nodes w n p s xs) (leading : is_leader s.votes.role ≡ true) where
  -- a leader appends an entry
  pub appends : (change : E) → Comes nodes w n p (with_entry s change) xs
  appends change =
      let o = here.self in
      let t = s.votes.term in
      let x : LogEntry E = record { term = t; change = change } in
      let log = s.log ++ x ∷ [] in
      let l = leads_of p n s.votes.role t s.log s.peers leading o.role in
      let old_reign : Reign E = record { leader = n; won = l.won; log = s.log } in
      let old_ok = here.past.reigns t old_reign l.is in
      let r : Reign E = record { leader = n; won = l.won; log = log } in
      let q = with_reign p n t r refl in
      let longer : IsLonger p n t r refl =
      record { at = λ y e. let same = one_reign p t y old_reign e l.is in (x ∷ [], ap (λ (z : Reign E). record { leader = z.leader; won = z.won; log = z.log ++ x ∷ [] }) (sym same)) } in
      let beside = with_reign-beside p n t r refl longer in
      let g = beside.grows in
      let at = with_reign-at p n t r refl in
      let grounded : Grounded q log = Grounded-push q s.log x r at refl (Grounded-grows p q s.log g o.grounded) in
      let before = ReignOk-grows p q g nodes t old_reign old_ok in
      let reign_ok : ReignOk nodes q t r =
      record {
        votes = before.votes;
        majority = before.majority;
        voted = before.voted;
        bound = before.bound;
        own = before.own;
        below = before.below;
        rest = before.rest ++ x ∷ [];
        is = ap (λ (y : List (LogEntry E)). y ++ x ∷ []) before.is ∙ append_assoc l.won before.rest (x ∷ []);
        rises = Rises-push s.log x before.rises before.upto;
        upto = IsUpTo-push s.log x before.upto;
        grounded = grounded;
      } in
      let ok = with_reign-past p n t r refl nodes longer reign_ok here.past in
      let long : length log ≡ length s.log + 1 = omega (arith, length-append s.log (x ∷ [])) in
      let u = with_ack q n t (length log) in
      let beside2 = with_ack-beside q n t (length log) in
      let ok2 = with_ack-past q n t (length log) nodes o.later ok in
      let acked_now : u.acks n t ≡ max (p.acks n t) (length log) = with_ack-at q n t (length log) in
      let old_ack : p.acks n t ≤ length s.log = elim (cases_lt 0 (p.acks n t)) [
        | inl some ↦
            let old = (o.acked t some).holds in
            let same = one_reign p t old.reign old_reign old.is l.is in
            let within = old.within in
            let e : length old.reign.log ≡ length s.log = ap (λ (z : Reign E). length z.log) same in
            omega (arith, within, e)
        | inr zero_at ↦ omega (arith, zero_at)
      ] in
      let both = Beside-more n p q u beside beside2 in
      let acks_grow = both.grows.acks in
      moves nodes w n p u s (with_entry s change) xs both ok2
      (record {
        me = o.me;
        all = o.all;
        now = o.now;
        later = o.later;
        role = of_leads u n s.votes.role t log s.peers leading
            (record { won = l.won; is = at; mine = omega (arith, acked_now); knows = λ k. Knows-more (p.acks k t) (length s.log) (u.acks k t) (length log) (progress_at s.peers k) (acks_grow k t) (omega (arith, long)) (l.knows k) });
        grounded = Grounded-grows q u log beside2.grows grounded;
        upto = IsUpTo-push s.log x o.upto;
        led = λ v y e own.
            elim (cases_eq v t) [
              | inl same ↦ inr (same, not_candidate s.votes.role leading)
              | inr ne ↦ o.led v y (sym (with_reign-term p n t r refl v ne) ∙ e) own
            ];
        acked = λ v a.
            elim (cases_eq v t) [
              | inl same ↦
                  let e : u.acks n v ≡ length log = ap (u.acks n) same ∙ acked_now ∙ (let m : max (p.acks n t) (length log) ≡ length log = omega (arith, old_ack, long) in m) in
                  record {
                    low = omega (arith, same);
                    holds = record { reign = r; is = ap u.reigns same ∙ at; within = omega (arith, e); keeps = λ i h b. refl };
                  }
              | inr ne ↦
                  let e = with_ack-term q n t (length log) v ne in
                  let old = o.acked v (omega (arith, e, a)) in
                  record { low = old.low; holds = subst (λ (i : ℕ). Holds u v i (suc t) log) (sym e) (Holds-more u v (p.acks n v) (suc t) s.log (x ∷ []) (Holds-grows p u both.grows v (p.acks n v) (suc t) s.log old.holds)) }
            ];
        seen = λ h.
            let c = o.seen h in
            Certified-other nodes u t t s.log log s.view (omega arith) (front_of s.log (x ∷ []) s.view (Certified-within nodes p t s.log s.view c)) (Certified-grows p u both.grows nodes t s.log s.view c);
      })
      here
