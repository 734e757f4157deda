-- In every run a point that lies on the path of another one of its key was taken before it.
use Rattle.std.proofs.Common.{◌≡◌, ◌≢◌, ℕ, ◌<◌, true, List, [], ◌∷◌, ◌++◌, inl, inr, refl, sym, ap, ◌∙◌, subst, arith, append_assoc}
use Rattle.std.specs.List.{AllByRecursion}
use Rattle.id_runs.specs.runs.region_map.Keys.{hash_of}
use Rattle.id_runs.specs.runs.branch_history.declared.version.Version.{Version}
use Rattle.id_runs.specs.runs.branch_history.Paths.{Branches, is_on}
use Rattle.id_runs.proofs.runs.branch_history.PathLaws.{on_antisym}
use Rattle.id_runs.specs.runs.contract_types.Setup.{SetupState, IsSetup}
use Rattle.id_runs.specs.runs.store_api.Versions.{point}
use Rattle.id_runs.specs.runs.node_core.declared.journal.Entry.{Entry}
use Rattle.id_runs.specs.runs.Run.{IsRun}
use Rattle.id_runs.specs.runs.Story.{Point, IsIn, points, same_key}
use Rattle.id_runs.specs.runs.Latest.{told_table}
use Rattle.id_runs.specs.runs.DonePoints.{is_before_on}
use Rattle.id_runs.specs.runs.Rising.{IsBelow, AreRising}
use Rattle.id_runs.proofs.step_runs.PointBranches.{all_at}
use Rattle.id_runs.proofs.step_runs.PointRuns.{rise}
use Rattle.id_runs.proofs.step_runs.RegisterStory.{same_key-true}
use Rattle.id_runs.proofs.step_runs.Told.{IsIn-append, IsIn-right}
use Rattle.id_runs.proofs.change_runs.LedHistories.{some_inner}
use Rattle.path_runs.proofs.Stays.{Split, split_at, told_history, before_on}

-- what comes later in a list in which points rise is above
rising_later : (first later : List Point) (q : Point) → AreRising (first ++ q ∷ later) → AllByRecursion (IsBelow q) later
rising_later [] later q r = r.0
rising_later (p ∷ first) later q r = rising_later first later q r.1

module _ (setup : SetupState) (ok : IsSetup setup) (past : List Entry) (run : IsRun setup past) (first later : List Point) (q : Point) (is : points past ≡ first ++ q ∷ later) (p : Point)
    (same : same_key p.key q.key ≡ true) (on : is_before_on setup.hashes (told_table setup past).history p q ≡ true)
  where
    -- else each lies on the path of the other one, so they would be one point of one branch
    not_later : IsIn later p → ⊥
    not_later i =
        let bs : Branches = (told_table setup past).history in
        let at : Split later p = split_at later p i in
        let split : points past ≡ (first ++ q ∷ at.first) ++ p ∷ at.later = is ∙ ap (λ (l : List Point). first ++ q ∷ l) at.is ∙ sym (append_assoc first (q ∷ at.first) (p ∷ at.later)) in
        let keys : p.key ≡ q.key = same_key-true p.key q.key same in
        let back = before_on setup ok past run (first ++ q ∷ at.first) at.later p split q (IsIn-right first (q ∷ at.first) q (inl refl)) (ap (λ (k : List ℕ). same_key k p.key) (sym keys) ∙ ap (same_key p.key) keys ∙ same) in
        let back_here : is_on bs (hash_of q.key setup.hashes) q.key (point p.branch p.timestamp) (point q.branch q.timestamp) ≡ true =
        subst (λ (k : List ℕ). is_on bs (hash_of k setup.hashes) k (point p.branch p.timestamp) (point q.branch q.timestamp) ≡ true) keys back in
        let one : point q.branch q.timestamp ≡ point p.branch p.timestamp = on_antisym bs (hash_of q.key setup.hashes) q.key (point q.branch q.timestamp) (point p.branch p.timestamp) (told_history setup ok past run q.key) on back_here in
        let branches : q.branch ≡ p.branch = some_inner q.branch p.branch (ap (λ (v : Version). v.branch) one) in
        let times : q.timestamp ≡ p.timestamp = ap (λ (v : Version). v.timestamp) one in
        let below : q.timestamp < p.timestamp = all_at (IsBelow q) later (rising_later first later q (subst AreRising is (rise setup ok past run))) p i branches in
        absurd (omega (arith, below, times))

    pub taken_before : IsIn (points past) p → p ≢ q → IsIn first p
    taken_before i apart =
        elim (IsIn-append first (q ∷ later) p (subst (λ (l : List Point). IsIn l p) is i)) [
          | inl here ↦ here
          | inr rest ↦ elim rest [ inl e ↦ absurd (apart (sym e)) | inr j ↦ absurd (not_later j) ]
        ]
