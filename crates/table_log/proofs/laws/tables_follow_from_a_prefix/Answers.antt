use Rattle.std.proofs.Common.{◌≡◌, ◌∙◌, take, ap}
use Rattle.contract_types.specs.Configs.{ConfigState}
use Rattle.table_apply.specs.Runs.{table_at}
use Rattle.table_log.specs.Fitting.{changes_of}
use Rattle.table_log.specs.Logs.{LogState, table_of}
use Rattle.table_log.proofs.Prefixes.{same_changes, same_entries}
use Rattle.table_log.proofs.laws.tables_follow_from_a_prefix.Goals as goal

earlier : (s t : LogState) → s.config ≡ t.config → take s.acted s.raft.log ≡ take s.acted t.raft.log → table_of s ≡ table_at t.config (changes_of t.raft.log) s.acted
earlier s t same agrees =
    same_entries s.config s.raft.log t.raft.log s.acted agrees ∙ ap (λ (c : ConfigState). table_at c (changes_of t.raft.log) s.acted) same

pub returns : goal.returns
returns c = record { changes = same_changes; logs = earlier }
