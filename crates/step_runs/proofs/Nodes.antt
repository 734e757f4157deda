-- What holds of each node of a run, and what an entry leaves as it was.
use Rattle.std.proofs.Common.{◌≡◌, ℕ, ◌+◌, ◌≤◌, ◌<◌, true, false, cond, List, [], ◌∷◌, map, Some, None, refl, sym, ap, ◌∙◌, inl, inr, arith}
use Rattle.std.proofs.lemmas.Bool.{false≢true, or_cases}
use Rattle.std.specs.List.{list_any, AllByRecursion}
use Rattle.runs.specs.region_map.declared.region.Region.{Region}
use Rattle.runs.specs.region_map.Keys.{hash_of}
use Rattle.runs.specs.region_map.Regions.{in_region}
use Rattle.runs.specs.region_map.Maps.{Pieced, value_at}
use Rattle.runs.specs.branch_history.declared.version.Version.{Version}
use Rattle.runs.specs.contract_types.Setup.{SetupState}
use Rattle.runs.specs.contract_types.Tilings.{holders}
use Rattle.runs.specs.store_api.Rows.{Rows, row_of, value_in, value_of}
use Rattle.runs.specs.store_api.Versions.{point}
use Rattle.runs.specs.primary_exec.Execution.{Execution}
use Rattle.runs.specs.node_core.declared.journal.Entry.{Entry}
use Rattle.runs.specs.node_core.Parts.{is_for}
use Rattle.step_runs.proofs.Begun.{begun_branch, begun_path}
use Rattle.step_runs.proofs.Told.{after}
use Rattle.step_runs.proofs.Facts.{WaitsWell, WaitsWell-more}
use Rattle.step_runs.proofs.Setups.{exec_region}

-- ---- how many have a pair in their region

-- only the regions count
pub holders-map : {T : Type 0} (place : T → Region) (xs : List T) (h : ℕ) (k : List ℕ) → holders place xs h k ≡ holders (λ r. r) (map place xs) h k
holders-map place [] h k = refl
holders-map place (x ∷ xs) h k =
    ap (λ n. cond (in_region (place x) h k) (1 + n) n) (holders-map place xs h k)

pub holders-same : {T : Type 0} (place : T → Region) (xs ys : List T) (h : ℕ) (k : List ℕ) → map place xs ≡ map place ys → holders place xs h k ≡ holders place ys h k
holders-same place xs ys h k e = holders-map place xs h k ∙ ap (λ rs. holders (λ r. r) rs h k) e ∙ sym (holders-map place ys h k)

-- one that has the pair is counted, and one that has not is not
pub holders-in : {T : Type 0} (place : T → Region) (x : T) (xs : List T) (h : ℕ) (k : List ℕ) → in_region (place x) h k ≡ true → holders place (x ∷ xs) h k ≡ 1 + holders place xs h k
holders-in place x xs h k e = ap (λ b. cond b (1 + holders place xs h k) (holders place xs h k)) e

-- a list has at least as many as its rest, and as its first alone
pub holders-rest : {T : Type 0} (place : T → Region) (x : T) (xs : List T) (h : ℕ) (k : List ℕ) → holders place (x ∷ xs) h k ≡ holders place (x ∷ []) h k + holders place xs h k
holders-rest place x xs h k =
    elim (in_region (place x) h k) as (λ b. cond b (1 + holders place xs h k) (holders place xs h k) ≡ cond b (1 + 0) 0 + holders place xs h k) [
      | true ↦ omega arith
      | false ↦ omega arith
    ]

-- where one is for a key it has its pair
pub some_holds : (hashes : ℕ) (key : List ℕ) (xs : List Execution) → list_any (is_for hashes key) xs ≡ true → 0 < holders exec_region xs (hash_of key hashes) key
some_holds hashes key [] e = absurd (false≢true e)
some_holds hashes key (x ∷ xs) e =
    let sum = holders-rest exec_region x xs (hash_of key hashes) key in
    elim (or_cases (is_for hashes key x) (list_any (is_for hashes key) xs) e) [
      | inl here ↦ let in' = holders-in exec_region x xs (hash_of key hashes) key here in omega (arith, in')
      | inr there ↦ let rest = some_holds hashes key xs there in omega (arith, sum, rest)
    ]

-- ---- the facts

-- a key's point is on the branch of the execution that has it in its region; the region stands where the branch is,
-- its rows are the values of the paths, and what is pending waits well
pub record ExecutionFacts (setup : SetupState) (past : List Entry) (rows : Rows) (versions : Pieced Version) (x : Execution) : Type 0 where
  pub branch : (key : List ℕ) → is_for setup.hashes key x ≡ true → begun_branch setup key ≡ Some x.branch
  pub stands : (h : ℕ) (k : List ℕ) → h < setup.hashes → in_region x.contract.region h k ≡ true → value_at versions.pieces h k ≡ Some (point x.branch x.last)
  pub store : (key : List ℕ) → is_for setup.hashes key x ≡ true → value_of rows key ≡ after None (begun_path setup past key)
  pub waiting : AllByRecursion (WaitsWell setup past) x.dispatch.waiting

abbrev pub AllRun : SetupState → List Entry → Rows → Pieced Version → List Execution → Type 0
AllRun setup past rows versions xs = AllByRecursion (ExecutionFacts setup past rows versions) xs

-- ---- what stays where a count of holders is 0

-- rows and versions stay
pub record StoreStays (hashes : ℕ) (count : ℕ → List ℕ → ℕ) (rows later : Rows) (versions newer : Pieced Version) : Type 0 where
  pub versions_stay : (h : ℕ) (k : List ℕ) → h < hashes → count h k ≡ 0 → value_at newer.pieces h k ≡ value_at versions.pieces h k
  pub rows_stay : (key : List ℕ) → count (hash_of key hashes) key ≡ 0 → row_of later key ≡ row_of rows key

-- the paths stay
pub record PathsStay (setup : SetupState) (count : ℕ → List ℕ → ℕ) (past : List Entry) (e : Entry) : Type 0 where
  pub stays : (key : List ℕ) → count (hash_of key setup.hashes) key ≡ 0 → begun_path setup (e ∷ past) key ≡ begun_path setup past key

-- an execution keeps its facts where nothing of its region counts
pub kept : (setup : SetupState) (past : List Entry) (e : Entry) (count : ℕ → List ℕ → ℕ) (rows later : Rows) (versions newer : Pieced Version) (x : Execution)
    → ((h : ℕ) (k : List ℕ) → in_region x.contract.region h k ≡ true → count h k ≡ 0)
    → StoreStays setup.hashes count rows later versions newer → PathsStay setup count past e → ExecutionFacts setup past rows versions x → ExecutionFacts setup (e ∷ past) later newer x
kept setup past e count rows later versions newer x none s p f =
    record {
      branch = f.branch;
      stands = λ h k lt i. s.versions_stay h k lt (none h k i) ∙ f.stands h k lt i;
      store = λ key i.
          ap value_in (s.rows_stay key (none (hash_of key setup.hashes) key i)) ∙ f.store key i ∙ ap (after None) (sym (p.stays key (none (hash_of key setup.hashes) key i)));
      waiting = WaitsWell-more setup past e x.dispatch.waiting f.waiting;
    }

pub all_kept : (setup : SetupState) (past : List Entry) (e : Entry) (count : ℕ → List ℕ → ℕ) (rows later : Rows) (versions newer : Pieced Version) (xs : List Execution)
    → ((h : ℕ) (k : List ℕ) → holders exec_region xs h k + count h k ≤ 1)
    → StoreStays setup.hashes count rows later versions newer → PathsStay setup count past e → AllRun setup past rows versions xs → AllRun setup (e ∷ past) later newer xs
all_kept setup past e count rows later versions newer [] one s p f = tt
all_kept setup past e count rows later versions newer (x ∷ xs) one s p f = (
  kept setup past e count rows later versions newer x
      (λ h k i. let a = one h k in let b = holders-in exec_region x xs h k i in omega (arith, a, b)) s p f.0,
  all_kept setup past e count rows later versions newer xs
      (λ h k. let a = one h k in let b = holders-rest exec_region x xs h k in omega (arith, a, b)) s p f.1,
)
