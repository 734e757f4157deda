-- One more vote, a longer log of a leader, one more acknowledgement.
use Rattle.std.proofs.Common.{◌≡◌, ◌≢◌, ◌==◌, ◌&&◌, ℕ, ◌<◌, ◌≤◌, max, cond, true, false, ◌⊎◌, inl, inr, List, ◌++◌, Option, Some, None, refl, sym, ap, subst, ◌∙◌, arith}
use Rattle.std.proofs.lemmas.Bool.{cases_eq, cond_both, eq-eqb, ne_eqb, eqb-true, and_parts}
use Rattle.raft_vote.specs.declared.log.LogEntry.{LogEntry}
use Rattle.raft_laws.proofs.Past.{Past, Ballot, Reign, Longer-same}
use Rattle.raft_laws.proofs.Claims.{BallotOk, BallotOk-grows, ReignOk, ReignOk-grows, PastOk}
use Rattle.raft_laws.proofs.Nodes.{Beside}

module _ {E : Type 0} (p : Past E) (n t : ℕ) (b : Ballot E) where
  -- a vote that node n casts in term t
  abbrev pub with_ballot : Past E
  with_ballot = record { ballots = λ k u. cond ((k == n) && (u == t)) (Some b) (p.ballots k u); reigns = p.reigns; acks = p.acks }

  pub with_ballot-at : with_ballot.ballots n t ≡ Some b
  with_ballot-at = let who : n == n ≡ true = eq-eqb n n refl in let when : t == t ≡ true = eq-eqb t t refl in rw (who, when)

  pub with_ballot-term : (u : ℕ) → u ≢ t → with_ballot.ballots n u ≡ p.ballots n u
  with_ballot-term u ne = let who : n == n ≡ true = eq-eqb n n refl in let when : u == t ≡ false = ne_eqb u t ne in rw (who, when)

  with_ballot-node : (k u : ℕ) → k == n ≡ false → with_ballot.ballots k u ≡ p.ballots k u
  with_ballot-node k u e = rw e

  pub with_ballot-beside : p.ballots n t ≡ None → Beside n p with_ballot
  with_ballot-beside none =
      record {
        grows = record {
          ballots = λ k u x e.
              cond_both ((k == n) && (u == t)) (Some b) (p.ballots k u) (λ (v : Option (Ballot E)). v ≡ Some x)
              (λ both.
              let parts = and_parts (k == n) (u == t) both in
              let who : k ≡ n = eqb-true k n parts.0 in
              let when : u ≡ t = eqb-true u t parts.1 in
              let clash : None ≡ Some x = sym none ∙ ap (λ v. p.ballots v t) (sym who) ∙ ap (p.ballots k) (sym when) ∙ e in
              cc)
              (λ _. e);
          reigns = λ u r e. Longer-same with_ballot u r e;
          acks = λ k u. omega arith;
        };
        ballots = with_ballot-node;
        acks = λ k u e. refl;
        reigns = λ u r e. inl e;
      }

  pub with_ballot-past : (nodes : List ℕ) → p.ballots n t ≡ None → BallotOk with_ballot n t b → PastOk nodes p → PastOk nodes with_ballot
  with_ballot-past nodes none new ok =
      let grows = (with_ballot-beside none).grows in
      record {
        reigns = λ u r e. ReignOk-grows p with_ballot grows nodes u r (ok.reigns u r e);
        ballots = λ k u x e.
            cond_both ((k == n) && (u == t)) (Some b) (p.ballots k u) (λ (v : Option (Ballot E)). v ≡ Some x → BallotOk with_ballot k u x)
            (λ both is.
            let parts = and_parts (k == n) (u == t) both in
            let who : k ≡ n = eqb-true k n parts.0 in
            let when : u ≡ t = eqb-true u t parts.1 in
            let same : b ≡ x = cc in
            subst (λ (v : ℕ). BallotOk with_ballot v u x) (sym who) (subst (λ (v : ℕ). BallotOk with_ballot n v x) (sym when) (subst (BallotOk with_ballot n t) same new)))
            (λ _ is. BallotOk-grows p with_ballot grows k u x (λ early l. refl) (ok.ballots k u x is)) e;
      }

module _ {E : Type 0} (p : Past E) (n t : ℕ) (r : Reign E) (own : r.leader ≡ n) where
  -- the log that leads term t
  abbrev pub with_reign : Past E
  with_reign = record { ballots = p.ballots; reigns = λ u. cond (u == t) (Some r) (p.reigns u); acks = p.acks }

  pub with_reign-at : with_reign.reigns t ≡ Some r
  with_reign-at = let when : t == t ≡ true = eq-eqb t t refl in rw when

  pub with_reign-term : (u : ℕ) → u ≢ t → with_reign.reigns u ≡ p.reigns u
  with_reign-term u ne = let when : u == t ≡ false = ne_eqb u t ne in rw when

  -- it has become longer, if there was one
  pub record IsLonger : Type 0 where
    pub at : (x : Reign E) → p.reigns t ≡ Some x → (rest : List (LogEntry E)) × (r ≡ record { leader = x.leader; won = x.won; log = x.log ++ rest })

  pub with_reign-beside : IsLonger → Beside n p with_reign
  with_reign-beside longer =
      record {
        grows = record {
          ballots = λ k u x e. e;
          reigns = λ u x e.
              elim (cases_eq u t) [
                | inl same ↦
                    let l = longer.at x (ap p.reigns (sym same) ∙ e) in
                    record { rest = l.0; is = ap with_reign.reigns same ∙ with_reign-at ∙ ap Some l.1 }
                | inr ne ↦ Longer-same with_reign u x (with_reign-term u ne ∙ e)
              ];
          acks = λ k u. omega arith;
        };
        ballots = λ k u e. refl;
        acks = λ k u e. refl;
        reigns = λ u x e.
            cond_both (u == t) (Some r) (p.reigns u) (λ (v : Option (Reign E)). v ≡ Some x → (p.reigns u ≡ Some x) ⊎ (x.leader ≡ n))
            (λ _ is. let same : x ≡ r = cc in inr (ap (λ (y : Reign E). y.leader) same ∙ own))
            (λ _ is. inl is) e;
      }

  pub with_reign-past : (nodes : List ℕ) → IsLonger → ReignOk nodes with_reign t r → PastOk nodes p → PastOk nodes with_reign
  with_reign-past nodes longer new ok =
      let grows = (with_reign-beside longer).grows in
      record {
        reigns = λ u x e.
            cond_both (u == t) (Some r) (p.reigns u) (λ (v : Option (Reign E)). v ≡ Some x → ReignOk nodes with_reign u x)
            (λ when is.
            let same : r ≡ x = cc in
            subst (λ (v : ℕ). ReignOk nodes with_reign v x) (sym (eqb-true u t when)) (subst (ReignOk nodes with_reign t) same new))
            (λ _ is. ReignOk-grows p with_reign grows nodes u x (ok.reigns u x is)) e;
        ballots = λ k u x e. BallotOk-grows p with_reign grows k u x (λ early l. refl) (ok.ballots k u x e);
      }

module _ {E : Type 0} (p : Past E) (n t u : ℕ) where
  -- node n says in term t that it agrees up to u
  abbrev pub with_ack : Past E
  with_ack = record { ballots = p.ballots; reigns = p.reigns; acks = λ k x. cond ((k == n) && (x == t)) (max (p.acks k x) u) (p.acks k x) }

  pub with_ack-at : with_ack.acks n t ≡ max (p.acks n t) u
  with_ack-at = let who : n == n ≡ true = eq-eqb n n refl in let when : t == t ≡ true = eq-eqb t t refl in rw (who, when)

  pub with_ack-term : (x : ℕ) → x ≢ t → with_ack.acks n x ≡ p.acks n x
  with_ack-term x ne = let who : n == n ≡ true = eq-eqb n n refl in let when : x == t ≡ false = ne_eqb x t ne in rw (who, when)

  with_ack-node : (k x : ℕ) → k == n ≡ false → with_ack.acks k x ≡ p.acks k x
  with_ack-node k x e = rw e

  pub with_ack-beside : Beside n p with_ack
  with_ack-beside =
      record {
        grows = record {
          ballots = λ k x b e. e;
          reigns = λ x r e. Longer-same with_ack x r e;
          acks = λ k x. cond_both ((k == n) && (x == t)) (max (p.acks k x) u) (p.acks k x) (λ v. p.acks k x ≤ v) (λ _. omega arith) (λ _. omega arith);
        };
        ballots = λ k x e. refl;
        acks = with_ack-node;
        reigns = λ x r e. inl e;
      }

  pub with_ack-past : (nodes : List ℕ) → ((x : ℕ) → t < x → p.ballots n x ≡ None) → PastOk nodes p → PastOk nodes with_ack
  with_ack-past nodes later ok =
      let grows = with_ack-beside.grows in
      record {
        reigns = λ x r e. ReignOk-grows p with_ack grows nodes x r (ok.reigns x r e);
        ballots = λ k x b e.
            BallotOk-grows p with_ack grows k x b
            (λ early l.
            cond_both ((k == n) && (early == t)) (max (p.acks k early) u) (p.acks k early) (λ v. v ≡ p.acks k early)
            (λ both.
            let parts = and_parts (k == n) (early == t) both in
            let who : k ≡ n = eqb-true k n parts.0 in
            let when : early ≡ t = eqb-true early t parts.1 in
            let clash : None ≡ Some b = sym (later x (omega (arith, when, l))) ∙ ap (λ v. p.ballots v x) (sym who) ∙ e in
            cc)
            (λ _. refl))
            (ok.ballots k x b e);
      }
