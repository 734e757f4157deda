use Rattle.std.proofs.Common.{◌≡◌, ◌+◌, map, drop}
use Rattle.contract_types.specs.Tables.{setup as table_of}
use Rattle.step_runs.specs.runs.Latest.{told_from}
use Rattle.journal_story.proofs.latest.told_table.Given as goal

-- the changes that are left lead from the table to that of all
abbrev pub invariant-loop-place : goal.invariant-loop-place
invariant-loop-place l = record {
  told : told_from l.setup.hashes l.table (l.place + 1) (map (λ r. r.now) (drop l.place l.viewed)) ≡ told_from l.setup.hashes (table_of l.setup) 1 (map (λ r. r.now) l.viewed);
  hashes : l.table.config.hashes ≡ l.setup.hashes;
}
