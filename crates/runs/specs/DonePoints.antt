-- Points at which operations are done, and the branches that go on from them.
use Rattle.std.specs.Prelude.{◌≡◌, ℕ, Bool, true, List, ◌∷◌, ◌++◌, Some}
use Rattle.region_map.specs.declared.id.Id.{Id}
use Rattle.region_map.specs.Keys.{hash_of}
use Rattle.branch_history.specs.declared.history.BranchBirth.{BranchBirth}
use Rattle.branch_history.specs.Paths.{Branches, origin_at, is_on}
use Rattle.branch_history.specs.Histories.{knows}
use Rattle.contract_types.specs.Setup.{SetupState}
use Rattle.register_laws.specs.declared.operation.OpId.{OpId}
use Rattle.register_laws.specs.declared.operation.Reply.{Reply}
use Rattle.exec_types.specs.declared.outcome.Outcome.TheVariants.{Done}
use Rattle.store_api.specs.Rows.{has_key}
use Rattle.store_api.specs.Versions.{point}
use Rattle.primary_exec.specs.declared.asking.Asking.{Asking}
use Rattle.primary_exec.specs.Execution.{Execution}
use Rattle.node_core.specs.declared.journal.Entry.{Entry}
use Rattle.runs.specs.Run.{state}
use Rattle.runs.specs.Story.{Point, IsIn, points, answer}

-- an operation took a timestamp of a branch, among some points
abbrev pub Took : List Point → OpId → Id → ℕ → Type 0
Took ps op branch timestamp = (p : Point) × IsIn ps p × (p.op ≡ op) × (p.branch ≡ branch) × (p.timestamp ≡ timestamp)

-- an operation took the point, and was answered that it is done there
pub record IsDoneAt (past : List Entry) (q : Point) : Type 0 where
  pub taken : IsIn (points past) q
  pub reply : Reply
  pub answered : answer past q.op ≡ Some (Done reply q.branch q.timestamp)

-- a branch goes on from a point: the point lies on the path of the version from which the branch starts at the key
abbrev pub goes_on_from : ℕ → Branches → BranchBirth → Point → Bool
goes_on_from hashes bs birth q =
    is_on bs (hash_of q.key hashes) q.key (origin_at birth (hash_of q.key hashes) q.key) (point q.branch q.timestamp)

-- each branch of a history that was registered after that of the point, and that has the point's key, goes on from it, in
-- the branches that were there before it
abbrev pub StaysIn : ℕ → Branches → Point → Type 0
StaysIn hashes history q =
    (newer older : Branches) (b : Id × BranchBirth) → history ≡ newer ++ b ∷ older → knows older q.branch ≡ true
    → has_key b.1.region hashes q.key ≡ true → goes_on_from hashes older b.1 q ≡ true

-- and so it is in all branches of the history
abbrev pub StaysInAll : ℕ → Branches → Point → Type 0
StaysInAll hashes history q =
    (newer older : Branches) (b : Id × BranchBirth) → history ≡ newer ++ b ∷ older → knows older q.branch ≡ true
    → has_key b.1.region hashes q.key ≡ true → goes_on_from hashes history b.1 q ≡ true

-- a point lies on the path of another point of its key
abbrev pub is_before_on : ℕ → Branches → Point → Point → Bool
is_before_on hashes history p q =
    is_on history (hash_of q.key hashes) q.key (point q.branch q.timestamp) (point p.branch p.timestamp)

-- an entry starts a branch: its node asked for it before, and writes it from then on
pub record Starts (setup : SetupState) (past : List Entry) (e : Entry) (a : Asking) : Type 0 where
  pub asked : IsIn (state setup e.node.0 past).asking a
  pub execution : Execution
  pub writes : IsIn (state setup e.node.0 (e ∷ past)).executions execution
  pub branch_is : execution.branch ≡ a.branch
