-- What is decided is in the log of each later leader.
use Rattle.std.proofs.Common.{◌≡◌, ◌==◌, ◌&&◌, nat_lt, nat_le, ℕ, zero, suc, ◌<◌, ◌≤◌, true, ◌⊎◌, inl, inr, List, length, take, Some, sym, ap, subst, ◌∙◌, arith}
use Rattle.std.proofs.lemmas.Bool.{cases_lt, or_cases, and_parts, ltb-true, leb-true, eqb-true}
use Rattle.region_map.specs.declared.id.NodeId.{NodeId}
use Rattle.region_map.specs.Nodes.{node_id}
use Rattle.region_map.proofs.Majorities.{majorities_meet}
use Rattle.raft_vote.specs.declared.log.LogEntry.{LogEntry}
use Rattle.raft_vote.specs.Log.{term_at, last_term}
use Rattle.raft_vote.specs.Rows.{reaches}
use Rattle.raft_laws.proofs.Logs.{same_terms, shorter, as_long, front_of}
use Rattle.raft_laws.proofs.Past.{Past, Ballot, Reign, Grounded, one_reign}
use Rattle.raft_laws.proofs.Claims.{Between, Holds, Decided, Certified, PastOk}

-- the ends of logs, one not below the other
pub record Ends (term index own_term own_index : ℕ) : Type 0 where
  pub by : (own_term < term) ⊎ ((own_term ≡ term) × (own_index ≤ index))

pub ends : (term index own_term own_index : ℕ) → reaches term index own_term own_index ≡ true → Ends term index own_term own_index
ends term index own_term own_index r =
    record {
      by = elim (or_cases (nat_lt own_term term) ((own_term == term) && nat_le own_index index) r) [
        | inl above ↦ inl (ltb-true own_term term above)
        | inr level ↦
            let both = and_parts (own_term == term) (nat_le own_index index) level in
            inr (eqb-true own_term term both.0, leb-true own_index index both.1)
      ];
    }

module _ {E : Type 0} where
  one_ballot : (p : Past E) (k term : ℕ) (a b : Ballot E) → p.ballots k term ≡ Some a → p.ballots k term ≡ Some b → a ≡ b
  one_ballot p k term a b x y = let both : Some a ≡ Some b = sym x ∙ y in cc

  -- a log that is grounded rises to its end
  pub last_rises : (nodes : List ℕ) (p : Past E) → PastOk nodes p → (log : List (LogEntry E)) → Grounded p log → (j : ℕ) → 0 < j → j ≤ length log → term_at log j ≤ last_term log
  last_rises nodes p ok log s j h l =
      let source = s.at (length log) (omega (arith, h, l)) (omega arith) in
      let reign = ok.reigns (last_term log) source.reign source.is in
      let long : length log ≤ length source.reign.log = as_long (length log) log source.reign.log source.same (omega arith) in
      let rise = reign.rises.at j (length log) l long in
      let a : term_at log j ≡ term_at source.reign.log j = same_terms (length log) j log source.reign.log source.same l in
      let b : last_term log ≡ term_at source.reign.log (length log) = same_terms (length log) (length log) log source.reign.log source.same (omega arith) in
      omega (arith, rise, a, b)

module _ {E : Type 0} (nodes : List ℕ) (p : Past E) (ok : PastOk nodes p) where
  -- what is decided in a term is in each log that wins a term from there to a bound
  abbrev IsHad : (term index : ℕ) → Decided nodes p term index → ℕ → Type 0
  IsHad term index d bound = (later : ℕ) (r : Reign E) → term < later → later < bound → p.reigns later ≡ Some r → take index r.won ≡ take index d.reign.log

  -- the last term of a winner's log is above that of the decided entry
  from_above : (term index : ℕ) (d : Decided nodes p term index) (later : ℕ) (won : List (LogEntry E)) → IsHad term index d later → Grounded p won → ((i : ℕ) → i ≤ length won → term_at won i < later) → term < last_term won → take index won ≡ take index d.reign.log
  from_above term index d later won had grounded below above =
      let some : 0 < length won = elim (cases_lt 0 (length won)) [
        | inl h ↦ h
        | inr h ↦
            let none : length won ≡ 0 = omega arith in
            let bottom : last_term won ≡ 0 = ap (term_at won) none in
            absurd (omega (arith, bottom, above))
      ] in
      let source = grounded.at (length won) some (omega arith) in
      let here = had (last_term won) source.reign above (below (length won) (omega arith)) source.is in
      let reign = ok.reigns (last_term won) source.reign source.is in
      let within : index ≤ length source.reign.won = as_long index d.reign.log source.reign.won (sym here) d.within in
      let whole : take index source.reign.log ≡ take index d.reign.log =
      ap (take index) reign.is ∙ front_of source.reign.won reign.rest index within ∙ here in
      let far : index ≤ length source.reign.log = as_long index d.reign.log source.reign.log (sym whole) d.within in
      let high : last_term won ≡ term_at source.reign.log (length won) = same_terms (length won) (length won) won source.reign.log source.same (omega arith) in
      let low : term_at source.reign.log index ≡ term = same_terms index index source.reign.log d.reign.log whole (omega arith) ∙ d.own in
      let long : index ≤ length won = elim (cases_lt (length won) index) [
        | inl short ↦
            let rise = reign.rises.at (length won) index (omega (arith, short)) far in
            absurd (omega (arith, rise, high, low, above))
        | inr h ↦ h
      ] in
      shorter index (length won) won source.reign.log source.same long ∙ whole

  -- the winner's log is not below that of a voter, who has it
  reached : (term index : ℕ) (d : Decided nodes p term index) (later : ℕ) (won : List (LogEntry E)) → IsHad term index d later → Grounded p won → ((i : ℕ) → i ≤ length won → term_at won i < later)
      → (log : List (LogEntry E)) → Grounded p log → take index log ≡ take index d.reign.log → reaches (last_term won) (length won) (last_term log) (length log) ≡ true → take index won ≡ take index d.reign.log
  reached term index d later won had won_grounded below log grounded has_it reach =
      let long : index ≤ length log = as_long index d.reign.log log (sym has_it) d.within in
      let there : term_at log index ≡ term = same_terms index index log d.reign.log has_it (omega arith) ∙ d.own in
      let rise = last_rises nodes p ok log grounded index d.positive long in
      let positive = d.positive in
      elim (cases_lt term (last_term won)) [
        | inl above ↦ from_above term index d later won had won_grounded below above
        | inr down ↦
            elim (ends (last_term won) (length won) (last_term log) (length log) reach).by [
              | inl over ↦ absurd (omega (arith, over, down, rise, there))
              | inr level ↦
                  let level_term = level.0 in
                  let level_length = level.1 in
                  let same : last_term won ≡ term = omega (arith, level_term, down, rise, there) in
                  let source = won_grounded.at (length won) (omega (arith, positive, long, level_length)) (omega arith) in
                  let one : source.reign ≡ d.reign = one_reign p term source.reign d.reign (ap p.reigns (sym same) ∙ source.is) d.is in
                  shorter index (length won) won source.reign.log source.same (omega (arith, long, level_length)) ∙ ap (λ (r : Reign E). take index r.log) one
            ]
      ]

  -- one more term
  next : (term index : ℕ) (d : Decided nodes p term index) (later : ℕ) (r : Reign E) → term < later → IsHad term index d later → p.reigns later ≡ Some r → take index r.won ≡ take index d.reign.log
  next term index d later r l had is =
      let reign = ok.reigns later r is in
      let both = majorities_meet reign.votes d.holders nodes reign.majority d.majority in
      let k = both.0 in
      let voted = reign.voted k both.2 in
      let cast = voted.cast in
      let ack = d.each k both.3 in
      let positive = d.positive in
      let ballot = ok.ballots k later cast.ballot cast.is in
      let held = subst (λ (v : ℕ). Holds p term (p.acks k term) v cast.ballot.log) voted.early (ballot.acked term l (omega (arith, ack, positive))) in
      let one : held.reign ≡ d.reign = one_reign p term held.reign d.reign held.is d.is in
      let between : Between p term later index held.reign.log =
      record { at = λ t x a b e. had t x a b e ∙ ap (λ (y : Reign E). take index y.log) (sym one) } in
      let has_it : take index cast.ballot.log ≡ take index d.reign.log = held.keeps index ack between ∙ ap (λ (y : Reign E). take index y.log) one in
      let winner = ok.ballots r.leader later (record { for_node = node_id r.leader; log = r.won; bound = reign.bound }) reign.own in
      let rival_is : p.ballots r.leader later ≡ Some ballot.rival.ballot = ap (λ (c : NodeId). p.ballots c.0 later) (sym cast.self) ∙ ballot.rival.is in
      let same : ballot.rival.ballot ≡ record { for_node = node_id r.leader; log = r.won; bound = reign.bound } = one_ballot p r.leader later ballot.rival.ballot (record { for_node = node_id r.leader; log = r.won; bound = reign.bound }) rival_is reign.own in
      let reach : reaches (last_term r.won) (length r.won) (last_term cast.ballot.log) (length cast.ballot.log) ≡ true =
      ap (λ (b : Ballot E). reaches (last_term b.log) (length b.log) (last_term cast.ballot.log) (length cast.ballot.log)) (sym same) ∙ ballot.rival.reaches in
      reached term index d later r.won had winner.grounded reign.below cast.ballot.log ballot.grounded has_it reach

  upto_bound : (term index : ℕ) (d : Decided nodes p term index) (bound : ℕ) → IsHad term index d bound
  upto_bound term index d zero later r l h is = absurd (omega (arith, h))
  upto_bound term index d (suc bound) later r l h is =
      elim (cases_lt later bound) [
        | inl below ↦ upto_bound term index d bound later r l below is
        | inr at ↦
            let same : later ≡ bound = omega (arith, at, h) in
            next term index d later r l (subst (IsHad term index d) (sym same) (upto_bound term index d bound)) is
      ]

  -- what is decided is in each log that won a later term
  pub has_won : (term index : ℕ) (d : Decided nodes p term index) (later : ℕ) (r : Reign E) → term < later → p.reigns later ≡ Some r → take index r.won ≡ take index d.reign.log
  has_won term index d later r l is = upto_bound term index d (suc later) later r l (omega arith) is

  -- and in the log of each leader from its term on
  pub has_decided : (term index : ℕ) (d : Decided nodes p term index) (later : ℕ) (r : Reign E) → term ≤ later → p.reigns later ≡ Some r → take index r.log ≡ take index d.reign.log
  has_decided term index d later r l is =
      elim (cases_lt term later) [
        | inl after ↦
            let won = has_won term index d later r after is in
            let reign = ok.reigns later r is in
            let within : index ≤ length r.won = as_long index d.reign.log r.won (sym won) d.within in
            ap (take index) reign.is ∙ front_of r.won reign.rest index within ∙ won
        | inr now ↦
            let same : later ≡ term = omega (arith, now, l) in
            let one : r ≡ d.reign = one_reign p term r d.reign (ap p.reigns (sym same) ∙ is) d.is in
            ap (λ (x : Reign E). take index x.log) one
      ]

  -- a certified front is in the log of each leader from then on
  pub has_certified : (upto : ℕ) (log : List (LogEntry E)) (v : ℕ) (c : Certified nodes p upto log v) (later : ℕ) (r : Reign E) → upto ≤ later → p.reigns later ≡ Some r → take v log ≡ take v r.log
  has_certified upto log v c later r l is =
      let low = c.low in
      let whole = has_decided c.term c.index c.decided later r (omega (arith, low, l)) is in
      c.same ∙ sym (shorter v c.index r.log c.decided.reign.log whole c.reach)

  -- of two certified fronts one is a front of the other
  pub agree : (a b : ℕ) (xs ys : List (LogEntry E)) (v u : ℕ) → v ≤ u → Certified nodes p a xs v → Certified nodes p b ys u → take v xs ≡ take v ys
  agree a b xs ys v u h c d =
      elim (cases_lt c.term d.term) [
        | inl before ↦
            let whole = has_decided c.term c.index c.decided d.term d.decided.reign (omega (arith, before)) d.decided.is in
            c.same ∙ sym (shorter v c.index d.decided.reign.log c.decided.reign.log whole c.reach) ∙ sym (shorter v u ys d.decided.reign.log d.same h)
        | inr after ↦
            let whole = has_decided d.term d.index d.decided c.term c.decided.reign after c.decided.is in
            let reach = d.reach in
            c.same ∙ shorter v d.index c.decided.reign.log d.decided.reign.log whole (omega (arith, h, reach)) ∙ sym (shorter v u ys d.decided.reign.log d.same h)
      ]
