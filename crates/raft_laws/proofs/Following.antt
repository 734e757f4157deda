-- What a node keeps as its log takes a leader's entries.
use Rattle.std.proofs.Common.{◌≡◌, ℕ, suc, ◌<◌, ◌≤◌, ◌+◌, ◌-◌, min, max, true, inl, inr, List, [], ◌∷◌, ◌++◌, length, take, drop, Some, refl, sym, ap, subst, ◌∙◌, arith, length-take, length-drop}
use Rattle.std.proofs.lemmas.Bool.{cases_lt, cases_eq, le-leb}
use Rattle.std.proofs.lemmas.List.{take_all}
use Rattle.region_map.specs.declared.id.NodeId.{NodeId}
use Rattle.region_map.specs.Nodes.{node_id}
use Rattle.raft_vote.specs.declared.log.LogEntry.{LogEntry}
use Rattle.raft_vote.specs.declared.message.RaftMessage.TheVariants.{AppendSay}
use Rattle.raft_vote.specs.declared.votes.Role.{Role}
use Rattle.raft_vote.specs.declared.votes.Role.TheVariants.{Follower}
use Rattle.raft_vote.specs.Log.{term_at}
use Rattle.raft_append.specs.Merge.{fits, agreeing, merged, agrees_to_view}
use Rattle.raft_node.specs.State.{RaftState}
use Rattle.raft_laws.specs.World.{Sent, World}
use Rattle.raft_laws.proofs.Logs.{same_terms, shorter, as_long, front_of, IsUpTo, Merged, merged_is, fits_front, fits_within, agree_behind}
use Rattle.raft_laws.proofs.Past.{Past, Reign, Grounded, Grounded-grows, Grounded-front, matching, one_reign}
use Rattle.raft_laws.proofs.Claims.{Between, Holds, Holds-grows, Certified, Certified-grows, Certified-other, Certified-within, PastOk}
use Rattle.raft_laws.proofs.Completeness.{has_certified}
use Rattle.raft_laws.proofs.Nodes.{NodeOk, RoleOk, Shipped, Here, Comes, moves_now, sends_now}
use Rattle.raft_laws.proofs.Ghosts.{with_ack, with_ack-at, with_ack-term, with_ack-beside, with_ack-past}

-- a front of a log has no greater term
IsUpTo-front : {E : Type 0} (log whole : List (LogEntry E)) (t : ℕ) → take (length log) whole ≡ log → IsUpTo whole t → IsUpTo log t
IsUpTo-front log whole t e b =
    record {
      at = λ i l.
          let same : take (length log) log ≡ take (length log) whole = take_all (length log) log (omega arith) ∙ sym e in
          let term : term_at log i ≡ term_at whole i = same_terms (length log) i log whole same l in
          let long = as_long (length log) log whole same (omega arith) in
          let bound = b.at i (omega (arith, l, long)) in
          omega (arith, term, bound);
    }

-- a front that is certified is certified to each lower index
Certified-lower : {E : Type 0} (nodes : List ℕ) (p : Past E) (upto : ℕ) (log : List (LogEntry E)) (v u : ℕ) → u ≤ v → Certified nodes p upto log v → Certified nodes p upto log u
Certified-lower nodes p upto log v u h c =
    record { term = c.term; index = c.index; low = c.low; reach = let r = c.reach in omega (arith, r, h); decided = c.decided; same = shorter u v log c.decided.reign.log c.same h }

-- what a node holds of an early leader's log, the leader of its own term has too
module _ {E : Type 0} (nodes : List ℕ) (p : Past E) (ok : PastOk nodes p) (n : ℕ) (s : RaftState E) (o : NodeOk nodes p n s) (r : Reign E) (is : p.reigns s.votes.term ≡ Some r) where
  reign_has : (t u : ℕ) → t ≤ s.votes.term → (base : Reign E) → p.reigns t ≡ Some base → u ≤ length base.log → Between p t (suc s.votes.term) u base.log → take u r.log ≡ take u base.log
  reign_has t u h base there l b =
      elim (cases_lt t s.votes.term) [
        | inl below ↦
            let won = b.at s.votes.term r below (omega arith) is in
            let reign = ok.reigns s.votes.term r is in
            ap (take u) reign.is ∙ front_of r.won reign.rest u (as_long u base.log r.won (sym won) l) ∙ won
        | inr at ↦
            let same : s.votes.term ≡ t = omega (arith, h, at) in
            let one = one_reign p t r base (ap p.reigns (sym same) ∙ is) there in
            ap (λ (x : Reign E). take u x.log) one
      ]

  -- what the node acts on
  pub reign_seen : take s.view s.log ≡ take s.view r.log
  reign_seen =
      elim (cases_lt 0 s.view) [
        | inl some ↦ has_certified nodes p ok s.votes.term s.log s.view (o.seen some) s.votes.term r (omega arith) is
        | inr none ↦ let z : s.view ≡ 0 = omega (arith, none) in rw z
      ]

module _ {E : Type 0} (nodes : List ℕ) (w : World E) (n : ℕ) (p : Past E) (s : RaftState E) (xs : List (Sent E)) (here : Here nodes w n p s xs) (follows : s.votes.role ≡ Follower) where
  -- a follower's log that has become another one, which has the front y of its leader's log
  takes_log : (y : List (LogEntry E)) (r : Reign E) (is : p.reigns s.votes.term ≡ Some r) (front : take (length y) r.log ≡ y) (log : List (LogEntry E)) (m : Merged s.log y log) (view : ℕ) (seen : 0 < view → Certified nodes p s.votes.term log view)
      → (c : Comes nodes w n p (record s { log = log; view = view }) xs) × (length y ≤ c.now.acks n s.votes.term)
  takes_log y r is front log m view seen =
      let o = here.self in
      let t = s.votes.term in
      let reign = here.past.reigns t r is in
      let q = with_ack p n t (length y) in
      let beside = with_ack-beside p n t (length y) in
      let g = beside.grows in
      let ok = with_ack-past p n t (length y) nodes o.later here.past in
      let acked_now : q.acks n t ≡ max (p.acks n t) (length y) = with_ack-at p n t (length y) in
      let long : length y ≤ length r.log = omega (arith, ap length front, length-take (length y) r.log) in
      let grounded_y = Grounded-front p y r.log front reign.grounded in
      let grounded : Grounded p log = elim m.is [
        | inl e ↦ subst (Grounded p) (sym e) o.grounded
        | inr e ↦ subst (Grounded p) (sym e) grounded_y
      ] in
      let upto : IsUpTo log t = elim m.is [
        | inl e ↦ subst (λ (l : List (LogEntry E)). IsUpTo l t) (sym e) o.upto
        | inr e ↦ subst (λ (l : List (LogEntry E)). IsUpTo l t) (sym e) (IsUpTo-front y r.log t front reign.upto)
      ] in
      -- what the node held of an early leader's log it holds
      let old_holds : (u : ℕ) → 0 < p.acks n u → Holds p u (p.acks n u) (suc t) log = λ u a.
      let old = o.acked u a in
      let k = old.holds in
      record {
        reign = k.reign;
        is = k.is;
        within = k.within;
        keeps = λ v h b.
            let w = k.within in
            let far : v ≤ length k.reign.log = omega (arith, h, w) in
            let had = k.keeps v h b in
            let leader = reign_has nodes p here.past n s o r is u v old.low k.reign k.is far b in
            m.keeps v r.log front (as_long v k.reign.log s.log (sym had) far) (had ∙ sym leader) ∙ leader;
      } in
      let c = moves_now nodes w n p q s (record s { log = log; view = view }) xs beside ok
      (record {
        me = o.me;
        all = o.all;
        now = o.now;
        later = o.later;
        role = subst (λ (x : Role). RoleOk q n x t log s.peers) (sym follows) tt;
        grounded = Grounded-grows p q log g grounded;
        upto = upto;
        led = o.led;
        acked = λ u a.
            elim (cases_eq u t) [
              | inl same ↦
                  let e : q.acks n u ≡ max (p.acks n t) (length y) = ap (q.acks n) same ∙ acked_now in
                  let old_within : p.acks n t ≤ length r.log = elim (cases_lt 0 (p.acks n t)) [
                    | inl some ↦
                        let old = (o.acked t some).holds in
                        let within = old.within in
                        let one : length old.reign.log ≡ length r.log = ap (λ (z : Reign E). length z.log) (one_reign p t old.reign r old.is is) in
                        omega (arith, within, one)
                    | inr none ↦ omega (arith, none)
                  ] in
                  record {
                    low = omega (arith, same);
                    holds = record {
                      reign = r;
                      is = ap q.reigns same ∙ is;
                      within = omega (arith, e, old_within, long);
                      keeps = λ v h b.
                          elim (cases_lt (length y) v) [
                            | inl past ↦
                                let some : 0 < p.acks n t = omega (arith, h, e, past) in
                                let old = old_holds t some in
                                let one = one_reign p t old.reign r old.is is in
                                let none : Between p t (suc t) v old.reign.log = record { at = λ x z l c _. absurd (omega (arith, l, c)) } in
                                old.keeps v (omega (arith, h, e, past)) none ∙ ap (λ (z : Reign E). take v z.log) one
                            | inr within ↦
                                let new : take (length y) log ≡ take (length y) r.log = m.has ∙ sym front in
                                shorter v (length y) log r.log new within
                          ];
                    };
                  }
              | inr ne ↦
                  let e = with_ack-term p n t (length y) u ne in
                  let some : 0 < p.acks n u = omega (arith, e, a) in
                  record { low = (o.acked u some).low; holds = subst (λ (i : ℕ). Holds q u i (suc t) log) (sym e) (Holds-grows p q g u (p.acks n u) (suc t) log (old_holds u some)) }
            ];
        seen = λ h. Certified-grows p q g nodes t log view (seen h);
      })
      here in
      (c.0, let same : c.0.now.acks n t ≡ q.acks n t = ap (λ (v : Past E). v.acks n t) {x = c.0.now} {y = q} c.1 in omega (arith, acked_now, same))

  -- what it then acts on is decided
  takes_view : (y : List (LogEntry E)) (r : Reign E) (is : p.reigns s.votes.term ≡ Some r) (front : take (length y) r.log ≡ y) (log : List (LogEntry E)) (m : Merged s.log y log) (commit : ℕ) (seen : 0 < commit → Certified nodes p s.votes.term r.log commit)
      → 0 < max s.view (min commit (length y)) → Certified nodes p s.votes.term log (max s.view (min commit (length y)))
  takes_view y r is front log m commit seen h =
      let o = here.self in
      let t = s.votes.term in
      let new = min commit (length y) in
      elim (cases_lt s.view new) [
        | inl more ↦
            let e : max s.view new ≡ new = omega (arith, more) in
            let some : 0 < commit = omega (arith, more) in
            let c = Certified-lower nodes p t r.log commit new (omega arith) (seen some) in
            let same : take new log ≡ take new r.log = shorter new (length y) log r.log (m.has ∙ sym front) (omega arith) in
            subst (Certified nodes p t log) (sym e) (Certified-other nodes p t t r.log log new (omega arith) same c)
        | inr less ↦
            let e : max s.view new ≡ s.view = omega (arith, less) in
            let some : 0 < s.view = omega (arith, e, h) in
            let c = o.seen some in
            let leader = reign_seen nodes p here.past n s o r is in
            let same : take s.view log ≡ take s.view s.log =
            m.keeps s.view r.log front (Certified-within nodes p t s.log s.view c) leader ∙ sym leader in
            subst (Certified nodes p t log) (sym e) (Certified-other nodes p t t s.log log s.view (omega arith) same c)
      ]

  -- a follower takes entries of its leader that fit, and says so
  pub takes : (to : NodeId) (prev prev_term : ℕ) (entries : List (LogEntry E)) (commit : ℕ) → Shipped nodes p s.votes.term prev prev_term entries commit → fits s.log prev prev_term ≡ true
      → Comes nodes w n p (record s { log = take prev s.log ++ merged (drop prev s.log) entries; view = max s.view (min commit (prev + length entries)) }) (xs ++ record { from = node_id n; to = to; message = AppendSay s.votes.term true (prev + length entries) } ∷ [])
  takes to prev prev_term entries commit shipped fit =
      let y = shipped.log in
      let r = shipped.reign in
      let reign = here.past.reigns s.votes.term r shipped.is in
      let match = matching p s.log y here.self.grounded (Grounded-front p y r.log shipped.front reign.grounded) in
      let lo : prev ≤ length s.log = fits_within s.log prev prev_term fit in
      let fit_y : fits s.log prev (term_at y prev) ≡ true = ap (fits s.log prev) (sym shipped.term_is) ∙ fit in
      let front = fits_front s.log y prev match lo shipped.within fit_y in
      let m = merged_is s.log y prev match lo shipped.within front in
      let log = take prev s.log ++ merged (drop prev s.log) (drop prev y) in
      let within = shipped.within in
      let size : prev + length (drop prev y) ≡ length y = omega (arith, length-drop prev y, within) in
      let done = takes_log y r shipped.is shipped.front log m (max s.view (min commit (length y))) (takes_view y r shipped.is shipped.front log m commit shipped.seen) in
      let t = s.votes.term in
      let sized = subst (λ (k : ℕ). (c : Comes nodes w n p (record s { log = log; view = max s.view (min commit k) }) xs) × (k ≤ c.now.acks n t)) (sym size) done in
      let c = subst (λ (es : List (LogEntry E)). (c : Comes nodes w n p (record s { log = take prev s.log ++ merged (drop prev s.log) es; view = max s.view (min commit (prev + length es)) }) xs) × (prev + length es ≤ c.now.acks n t)) (sym shipped.rest) sized in
      sends_now nodes w n p (record s { log = take prev s.log ++ merged (drop prev s.log) entries; view = max s.view (min commit (prev + length entries)) }) xs (record { from = node_id n; to = to; message = AppendSay t true (prev + length entries) } ∷ []) c.0 (c.1, tt)

-- an Append of the node's term or a greater one agrees with its log up to its view
module _ {E : Type 0} (nodes : List ℕ) (p : Past E) (ok : PastOk nodes p) (n : ℕ) (s : RaftState E) (o : NodeOk nodes p n s) where
  pub keeps_seen : (term prev prev_term : ℕ) (entries : List (LogEntry E)) (commit : ℕ) → Shipped nodes p term prev prev_term entries commit → s.votes.term ≤ term → agrees_to_view s.log s.view prev entries ≡ true
  keeps_seen term prev prev_term entries commit shipped h =
      let y = shipped.log in
      let m = min s.view (length y) in
      let seen : take s.view s.log ≡ take s.view shipped.reign.log = elim (cases_lt 0 s.view) [
        | inl some ↦ has_certified nodes p ok s.votes.term s.log s.view (o.seen some) term shipped.reign h shipped.is
        | inr none ↦ let z : s.view ≡ 0 = omega (arith, none) in rw z refl
      ] in
      let within : s.view ≤ length s.log = elim (cases_lt 0 s.view) [
        | inl some ↦ Certified-within nodes p s.votes.term s.log s.view (o.seen some)
        | inr none ↦ omega (arith, none)
      ] in
      let whole : take (length y) shipped.reign.log ≡ take (length y) y = shipped.front ∙ sym (take_all (length y) y (omega arith)) in
      let same : take m s.log ≡ take m y = shorter m s.view s.log shipped.reign.log seen (omega arith) ∙ shorter m (length y) shipped.reign.log y whole (omega arith) in
      let agree = agree_behind prev m s.log y same (omega (arith, within)) in
      let e : min (s.view - prev) (length (drop prev y)) ≤ agreeing (drop prev s.log) (drop prev y) = omega (arith, agree, length-drop prev y) in
      subst (λ (es : List (LogEntry E)). agrees_to_view s.log s.view prev es ≡ true) (sym shipped.rest)
      (le-leb (min (s.view - prev) (length (drop prev y))) (agreeing (drop prev s.log) (drop prev y)) e)
