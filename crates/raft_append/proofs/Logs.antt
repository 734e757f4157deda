-- Laws of logs.
use Rattle.std.proofs.Common.{◌≡◌, ◌≢◌, ℕ, ◌+◌, List, ◌++◌, length, take, drop, sym, subst, append_assoc, take-add}
use Rattle.std.proofs.lemmas.Bool.{ne_eqb}
use Rattle.raft_vote.specs.declared.log.LogEntry.{LogEntry}
use Rattle.raft_append.specs.Merge.{agreeing, merged}

-- where an entry differs, the log is cut there
pub merged_some : {E : Type 0} (own new : List (LogEntry E)) (prev same : ℕ) → same ≡ agreeing (drop prev own) new → same ≢ length new → take (prev + same) own ++ drop same new ≡ take prev own ++ merged (drop prev own) new
merged_some own new prev same is some =
    subst (λ (n : ℕ). n ≢ length new → take (prev + n) own ++ drop n new ≡ take prev own ++ merged (drop prev own) new) (sym is)
    (λ differs.
    let test = ne_eqb (agreeing (drop prev own) new) (length new) differs in
    rw (test, take-add prev (agreeing (drop prev own) new) own, append_assoc))
    some
