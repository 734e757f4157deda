-- Where a log only registers branches, its table has the contracts with which it began; and each of them has an id of its own.
use Rattle.std.proofs.Common.{◌≡◌, ◌∙◌, ℕ, zero, suc, ◌+◌, ◌≤◌, List, [], ◌∷◌, ◌++◌, length, take, inl, inr, refl, sym, ap, subst, arith}
use Rattle.std.proofs.lemmas.List.{take-append-le}
use Rattle.log_runs.specs.runs.region_map.declared.id.Id.{Id}
use Rattle.log_runs.specs.runs.raft_vote.declared.log.LogEntry.{LogEntry}
use Rattle.log_runs.specs.runs.contract_types.declared.change.Change.{Change}
use Rattle.log_runs.specs.runs.contract_types.declared.change.Change.TheVariants.{Noop, SetConfig, NewContracts, RegisterBranch}
use Rattle.log_runs.specs.runs.contract_types.declared.config.ShardConfig.{ShardConfig}
use Rattle.log_runs.specs.runs.contract_types.declared.contract.Contract.{Contract}
use Rattle.log_runs.specs.runs.contract_types.Configs.{ConfigState}
use Rattle.log_runs.specs.runs.contract_types.Tables.{Table, first_contracts}
use Rattle.log_runs.specs.runs.table_apply.Effects.{applied_at}
use Rattle.log_runs.specs.runs.table_apply.Runs.{change_at, table_at}
use Rattle.log_runs.proofs.runs.table_apply.Steps.{table_after}
use Rattle.log_runs.specs.runs.table_log.Fitting.{changes_of}
use Rattle.log_runs.specs.runs.table_log.Logs.{LogState, table_of}
use Rattle.log_runs.proofs.runs.table_log.Prefixes.{same_entries}
use Rattle.log_runs.specs.runs.Story.{IsIn}
use Rattle.change_runs.proofs.AskedRunsLogs.{Each}

-- ---- changes that leave contracts

abbrev pub OnlyRegisters : Change → Type 0
OnlyRegisters Noop = Unit {0}
OnlyRegisters (SetConfig config) = ⊥
OnlyRegisters (NewContracts removed added) = ⊥
OnlyRegisters (RegisterBranch branch region tenure maker based_on origin) = Unit {0}

pub record SameContracts (s t : Table) : Type 0 where
  pub config : t.config ≡ s.config
  pub contracts : t.contracts ≡ s.contracts

contracts_left : (t : Table) (index : ℕ) (change : Change) → OnlyRegisters change → SameContracts t (applied_at t index change).table
contracts_left t index change h =
    let same : SameContracts t t = record { config = refl; contracts = refl } in
    table_after (SameContracts t) t index change same (λ config is. absurd (subst OnlyRegisters is h)) (λ removed added is a. absurd (subst OnlyRegisters is h))
    (λ branch region tenure maker based_on origin is j. record { config = refl; contracts = refl })

each_registers : (log : List (LogEntry Change)) (place : ℕ) → Each OnlyRegisters log → OnlyRegisters (change_at (changes_of log) place)
each_registers [] place h = tt
each_registers (x ∷ xs) zero h = h.0
each_registers (x ∷ xs) (suc place) h = each_registers xs place h.1

-- the table began with these contracts, and has them
pub record HasFirst (config : ConfigState) (t : Table) : Type 0 where
  pub config_is : t.config ≡ config
  pub contracts_are : t.contracts ≡ first_contracts 0 config.shards

pub table_has_first : (config : ConfigState) (log : List (LogEntry Change)) (w : ℕ) → Each OnlyRegisters log → HasFirst config (table_at config (changes_of log) w)
table_has_first config log zero h = record { config_is = refl; contracts_are = refl }
table_has_first config log (suc w) h =
    let before = table_has_first config log w h in
    let changes = changes_of log in
    let now = contracts_left (table_at config changes w) (suc w) (change_at changes w) (each_registers log w h) in
    record { config_is = now.config ∙ before.config_is; contracts_are = now.contracts ∙ before.contracts_are }

-- ---- a log with more entries at its end

pub record Extends (a b : LogState) : Type 0 where
  pub config : b.config ≡ a.config
  pub acted : b.acted ≡ a.acted
  pub rest : List (LogEntry Change)
  pub log : b.raft.log ≡ a.raft.log ++ rest

pub extended_table : (a b : LogState) → Extends a b → a.acted ≤ length a.raft.log → table_of b ≡ table_of a
extended_table a b x within =
    let k = a.acted in
    let same : take k b.raft.log ≡ take k a.raft.log = ap (take k) x.log ∙ take-append-le k a.raft.log x.rest within in
    (λ i. table_at (x.config i) (changes_of b.raft.log) (x.acted i)) ∙ same_entries a.config b.raft.log a.raft.log k same

-- ---- ids of contracts

first_counter : (place : ℕ) (ss : List ShardConfig) (c : Contract) → IsIn (first_contracts place ss) c → place ≤ c.id.counter
first_counter place [] c i = absurd i
first_counter place (s ∷ ss) c i =
    elim i [
      | inl e ↦ let same : place ≡ c.id.counter = ap (λ (d : Contract). d.id.counter) e in omega (arith, same)
      | inr j ↦ let l = first_counter (place + 1) ss c j in omega (arith, l)
    ]

pub one_of_id : (place : ℕ) (ss : List ShardConfig) (c d : Contract) → IsIn (first_contracts place ss) c → IsIn (first_contracts place ss) d → c.id ≡ d.id → c ≡ d
one_of_id place [] c d i j e = absurd i
one_of_id place (s ∷ ss) c d i j e =
    let counters : c.id.counter ≡ d.id.counter = ap (λ (k : Id). k.counter) e in
    elim i [
      | inl f ↦ elim j [
        | inl g ↦ sym f ∙ g
        | inr g ↦
            let l = first_counter (place + 1) ss d g in
            let same : place ≡ c.id.counter = ap (λ (k : Contract). k.id.counter) f in
            absurd (omega (arith, l, same, counters))
      ]
      | inr f ↦ elim j [
        | inl g ↦
            let l = first_counter (place + 1) ss c f in
            let same : place ≡ d.id.counter = ap (λ (k : Contract). k.id.counter) g in
            absurd (omega (arith, l, same, counters))
        | inr g ↦ one_of_id (place + 1) ss c d f g e
      ]
    ]
