-- What a run leaves behind: the votes that were cast, the logs that led, and how far nodes said that they agree.
use Rattle.std.proofs.Common.{◌≡◌, ℕ, zero, suc, ◌<◌, ◌≤◌, ◌+◌, inl, inr, List, [], ◌∷◌, ◌++◌, length, take, Option, Some, None, refl, sym, ap, ◌∙◌, arith, append_assoc, append-nil, length-append, length-take}
use Rattle.std.proofs.lemmas.Bool.{cases_lt}
use Rattle.std.proofs.lemmas.List.{take_all}
use Rattle.region_map.specs.declared.id.NodeId.{NodeId}
use Rattle.raft_vote.specs.declared.log.LogEntry.{LogEntry}
use Rattle.raft_vote.specs.Log.{term_at}
use Rattle.raft_laws.proofs.Logs.{term_at-append, term_at_last, same_terms, shorter, as_long, front_of, Match}

-- a vote, the log that the voter had, and the term from which on no leader had changed that log
pub record Ballot (E : Type 0) : Type 0 where
  pub for_node : NodeId
  pub log : List (LogEntry E)
  pub bound : ℕ

-- the leader of a term, its log as it won, and its log as it last was
pub record Reign (E : Type 0) : Type 0 where
  pub leader : ℕ
  pub won : List (LogEntry E)
  pub log : List (LogEntry E)

pub record Past (E : Type 0) : Type 0 where
  pub ballots : ℕ → ℕ → Option (Ballot E)  -- of a node in a term
  pub reigns : ℕ → Option (Reign E)  -- of a term
  pub acks : ℕ → ℕ → ℕ  -- how far a node's log was that of a term's leader

abbrev pub for_whom : {E : Type 0} → Option (Ballot E) → Option NodeId
for_whom None = None
for_whom (Some b) = Some b.for_node

-- a node voted in a term for this one
pub record Cast {E : Type 0} (p : Past E) (k term : ℕ) (c : NodeId) : Type 0 where
  pub ballot : Ballot E
  pub is : p.ballots k term ≡ Some ballot
  pub self : ballot.for_node ≡ c

-- ---- growth

pub record Longer {E : Type 0} (q : Past E) (term : ℕ) (r : Reign E) : Type 0 where
  pub rest : List (LogEntry E)
  pub is : q.reigns term ≡ Some (record { leader = r.leader; won = r.won; log = r.log ++ rest })

pub record Grows {E : Type 0} (p q : Past E) : Type 0 where
  pub ballots : (k term : ℕ) (b : Ballot E) → p.ballots k term ≡ Some b → q.ballots k term ≡ Some b
  pub reigns : (term : ℕ) (r : Reign E) → p.reigns term ≡ Some r → Longer q term r
  pub acks : (k term : ℕ) → p.acks k term ≤ q.acks k term

module _ {E : Type 0} where
  pub Longer-same : (q : Past E) (term : ℕ) (r : Reign E) → q.reigns term ≡ Some r → Longer q term r
  Longer-same q term r e = record { rest = []; is = e ∙ ap (λ (l : List (LogEntry E)). Some (record { leader = r.leader; won = r.won; log = l })) (sym (append-nil r.log)) }

  pub Grows-same : (p : Past E) → Grows p p
  Grows-same p = record { ballots = λ k term b e. e; reigns = λ term r e. Longer-same p term r e; acks = λ k term. omega arith }

  pub Grows-more : (p q r : Past E) → Grows p q → Grows q r → Grows p r
  Grows-more p q r g h =
      record {
        ballots = λ k term b e. h.ballots k term b (g.ballots k term b e);
        reigns = λ term x e.
            let one = g.reigns term x e in
            let two = h.reigns term (record { leader = x.leader; won = x.won; log = x.log ++ one.rest }) one.is in
            record { rest = one.rest ++ two.rest; is = two.is ∙ ap (λ (l : List (LogEntry E)). Some (record { leader = x.leader; won = x.won; log = l })) (append_assoc x.log one.rest two.rest) };
        acks = λ k term. let a = g.acks k term in let b = h.acks k term in omega (arith, a, b);
      }

  pub Cast-grows : (p q : Past E) (k term : ℕ) (c : NodeId) → Grows p q → Cast p k term c → Cast q k term c
  Cast-grows p q k term c g v = record { ballot = v.ballot; is = g.ballots k term v.ballot v.is; self = v.self }

-- ---- logs of leaders

-- the front of a log up to an index is that of the leader whose term the entry there has
pub record Source {E : Type 0} (p : Past E) (log : List (LogEntry E)) (i : ℕ) : Type 0 where
  pub reign : Reign E
  pub is : p.reigns (term_at log i) ≡ Some reign
  pub same : take i log ≡ take i reign.log

pub record Grounded {E : Type 0} (p : Past E) (log : List (LogEntry E)) : Type 0 where
  pub at : (i : ℕ) → 0 < i → i ≤ length log → Source p log i

module _ {E : Type 0} where
  pub Grounded-nil : (p : Past E) → Grounded p []
  Grounded-nil p = record { at = λ i h l. absurd (omega (arith, h, l)) }

  pub Grounded-grows : (p q : Past E) (log : List (LogEntry E)) → Grows p q → Grounded p log → Grounded q log
  Grounded-grows p q log g s =
      record {
        at = λ i h l.
            let old = s.at i h l in
            let new = g.reigns (term_at log i) old.reign old.is in
            record {
              reign = record { leader = old.reign.leader; won = old.reign.won; log = old.reign.log ++ new.rest };
              is = new.is;
              same = old.same ∙ sym (front_of old.reign.log new.rest i (as_long i log old.reign.log old.same l));
            };
      }

  -- the leader of a term adds an entry
  pub Grounded-push : (q : Past E) (log : List (LogEntry E)) (x : LogEntry E) (r : Reign E) → q.reigns x.term ≡ Some r → r.log ≡ log ++ x ∷ [] → Grounded q log → Grounded q (log ++ x ∷ [])
  Grounded-push q log x r e is s =
      record {
        at = λ i h l.
            elim (cases_lt (length log) i) [
              | inl past ↦
                  let last : i ≡ length log + 1 = omega (arith, length-append log (x ∷ [])) in
                  record { reign = r; is = ap (λ k. q.reigns (term_at (log ++ x ∷ []) k)) last ∙ ap q.reigns (term_at_last log x) ∙ e; same = ap (take i) (sym is) }
              | inr within ↦
                  let old = s.at i h within in
                  record { reign = old.reign; is = ap q.reigns (term_at-append log (x ∷ []) i within) ∙ old.is; same = front_of log (x ∷ []) i within ∙ old.same }
            ];
      }

  -- a front of a log
  pub Grounded-front : (p : Past E) (log whole : List (LogEntry E)) → take (length log) whole ≡ log → Grounded p whole → Grounded p log
  Grounded-front p log whole e s =
      record {
        at = λ i h l.
            let long : i ≤ length whole = omega (arith, l, ap length e, length-take (length log) whole) in
            let old = s.at i h long in
            let same : take i log ≡ take i whole = sym (shorter i (length log) whole log (e ∙ sym (take_all (length log) log (omega arith))) l) in
            let term : term_at log i ≡ term_at whole i = same_terms i i log whole same (omega arith) in
            record { reign = old.reign; is = ap p.reigns term ∙ old.is; same = same ∙ old.same };
      }

  pub one_reign : (p : Past E) (term : ℕ) (a b : Reign E) → p.reigns term ≡ Some a → p.reigns term ≡ Some b → a ≡ b
  one_reign p term a b x y = let both : Some a ≡ Some b = sym x ∙ y in cc

  same_to : (p : Past E) (a b : List (LogEntry E)) → Grounded p a → Grounded p b → (i : ℕ) → i ≤ length a → i ≤ length b → term_at a i ≡ term_at b i → take i a ≡ take i b
  same_to p a b s t zero la lb e = refl
  same_to p a b s t (suc i) la lb e =
      let x = s.at (suc i) (omega arith) la in
      let y = t.at (suc i) (omega arith) lb in
      let one : x.reign ≡ y.reign = one_reign p (term_at b (suc i)) x.reign y.reign (ap p.reigns (sym e) ∙ x.is) y.is in
      x.same ∙ ap (λ (r : Reign E). take (suc i) r.log) one ∙ sym y.same

  pub matching : (p : Past E) (a b : List (LogEntry E)) → Grounded p a → Grounded p b → Match a b
  matching p a b s t = record { at = same_to p a b s t }
