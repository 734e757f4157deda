-- A table follows from what its log has up to there.
use Rattle.std.proofs.Common.{◌≡◌, ◌∙◌, ℕ, ◌≤◌, List, map, take, get_or, sym, ap}
use Rattle.std.proofs.lemmas.List.{take-take, take-map, get_or-take}
use Rattle.raft_vote.specs.declared.log.LogEntry.{LogEntry}
use Rattle.raft_node.specs.State.{RaftState}
use Rattle.raft_node.specs.Committed.{KeepsCommitted}
use Rattle.contract_types.specs.declared.change.Change.{Change}
use Rattle.contract_types.specs.declared.change.Change.TheVariants.{Noop}
use Rattle.contract_types.specs.Configs.{ConfigState}
use Rattle.table_apply.specs.Runs.{table_at}
use Rattle.table_apply.proofs.Tables.{depends}
use Rattle.table_log.specs.Fitting.{changes_of}

pub same_changes : (config : ConfigState) (xs ys : List Change) (a : ℕ) → take a xs ≡ take a ys → table_at config xs a ≡ table_at config ys a
same_changes config xs ys a e =
    depends config xs ys a (λ place l. sym (get_or-take a xs place Noop l) ∙ ap (λ (zs : List Change). get_or zs place Noop) e ∙ get_or-take a ys place Noop l)

pub same_entries : (config : ConfigState) (xs ys : List (LogEntry Change)) (a : ℕ) → take a xs ≡ take a ys → table_at config (changes_of xs) a ≡ table_at config (changes_of ys) a
same_entries config xs ys a e =
    let f : LogEntry Change → Change = λ e. e.change in
    same_changes config (changes_of xs) (changes_of ys) a (take-map f a xs ∙ ap (map f) e ∙ sym (take-map f a ys))

-- what was acted on stays
pub kept_table : (config : ConfigState) (s t : RaftState Change) (acted : ℕ) → KeepsCommitted s t → acted ≤ s.view → table_at config (changes_of t.log) acted ≡ table_at config (changes_of s.log) acted
kept_table config s t acted kept within =
    same_entries config t.log s.log acted
    (sym (take-take acted s.view t.log within) ∙ ap (λ (xs : List (LogEntry Change)). take acted xs) kept.same ∙ take-take acted s.view s.log within)
