-- The row of a key after an operation that a region comes to, and what row a list of operations leaves.
use Rattle.std.proofs.Common.{◌≡◌, ℕ, Bool, true, false, cond, ◌&&◌, List, [], ◌∷◌, ◌++◌, Option, Some, refl, sym, ap, ◌∙◌}
use Rattle.std.proofs.lemmas.Bool.{false≢true, cond_both, false_from_ne_true}
use Rattle.runs.specs.region_map.declared.id.Id.{Id}
use Rattle.runs.specs.region_map.declared.region.Region.{Region}
use Rattle.runs.specs.region_map.Maps.{Pieced}
use Rattle.runs.specs.branch_history.declared.version.Version.{Version}
use Rattle.runs.specs.register_laws.declared.operation.Op.{Op}
use Rattle.runs.specs.register_laws.declared.operation.Op.TheVariants.{Put, Delete, Cas, Read}
use Rattle.runs.specs.register_laws.Register.{State, state_after, writes}
use Rattle.runs.specs.exec_types.Parts.{effect_of}
use Rattle.runs.specs.exec_types.declared.message.Part.{Part}
use Rattle.runs.specs.exec_types.declared.message.Part.TheVariants.{Write, Sync}
use Rattle.runs.specs.store_api.declared.Row.{Row}
use Rattle.runs.specs.store_api.Rows.{Rows, row_of, value_in, with_row}
use Rattle.runs.specs.store_api.Versions.{comes_to, advanced_rows}
use Rattle.runs.proofs.store_api.RowLemmas.{row_of-with_row_same, row_of-with_row_other}
use Rattle.runs.specs.primary_exec.Execution.{part_of}
use Rattle.runs.specs.Story.{Point, same_key}
use Rattle.runs.specs.Stored.{row_step, row_after}
use Rattle.step_runs.proofs.Told.{after}
use Rattle.step_runs.proofs.RegisterStory.{same_key-true}

-- ---- the row that operations leave

pub row_after-append : (before : Option Row) (ps qs : List Point) → row_after before (ps ++ qs) ≡ row_after (row_after before ps) qs
row_after-append before [] qs = refl
row_after-append before (p ∷ ps) qs = row_after-append (row_step before p) ps qs

pub keeps_state : (s : State) (w : Op) → writes s w ≡ false → state_after s w ≡ s
keeps_state s (Put v) e = absurd (false≢true (sym e))
keeps_state s Delete e = absurd (false≢true (sym e))
keeps_state s (Cas expect put) e = ap (λ b. cond b put s) e
keeps_state s Read e = refl

value_in-step : (before : Option Row) (p : Point) → value_in (row_step before p) ≡ state_after (value_in before) p.what
value_in-step before p =
    cond_both (writes (value_in before) p.what) (Some (record { value = state_after (value_in before) p.what; recency = p.timestamp })) before
    (λ (r : Option Row). value_in r ≡ state_after (value_in before) p.what) (λ _. refl) (λ e. sym (keeps_state (value_in before) p.what e))

-- its value is what the register holds
pub value_in-after : (before : Option Row) (ps : List Point) → value_in (row_after before ps) ≡ after (value_in before) ps
value_in-after before [] = refl
value_in-after before (p ∷ ps) = value_in-after (row_step before p) ps ∙ ap (λ s. after s ps) (value_in-step before p)

-- ---- keys

-- a test that tells two keys apart
pub apart_keys : (test : List ℕ → Bool) (a b : List ℕ) → test a ≡ false → test b ≡ true → same_key a b ≡ false
apart_keys test a b here there = false_from_ne_true (same_key a b) (λ is. false≢true (sym here ∙ ap test (same_key-true a b is) ∙ there))

pub first_and : (a b : Bool) → (a && b) ≡ true → a ≡ true
first_and true b e = refl
first_and false b e = absurd (false≢true e)

-- ---- the rows of a region that comes to the next point of its branch

-- any other key keeps its row
pub row-other : (before : State) (what : Op) (key other : List ℕ) (region : Region) (branch : Id) (at : ℕ) (versions : Pieced Version) (rows : Rows) → (comes_to region branch at versions key ≡ true → same_key other key ≡ false)
    → row_of (advanced_rows (effect_of (part_of before at key what)) region branch at versions rows) other ≡ row_of rows other
row-other before what key other region branch at versions rows apart =
    let row : Row = record { value = state_after before what; recency = at } in
    cond_both (writes before what) (Write at key row) (Sync at) (λ (p : Part). row_of (advanced_rows (effect_of p) region branch at versions rows) other ≡ row_of rows other)
    (λ _. cond_both (comes_to region branch at versions key) (with_row rows key row) rows (λ (l : Rows). row_of l other ≡ row_of rows other)
    (λ comes. row_of-with_row_other rows key other row (apart comes)) (λ _. refl))
    (λ _. refl)

-- the key of the point gets the row that the point leaves
pub row-own : (q : Point) (region : Region) (branch : Id) (at : ℕ) (versions : Pieced Version) (rows : Rows) → q.timestamp ≡ at → comes_to region branch at versions q.key ≡ true
    → row_of (advanced_rows (effect_of (part_of (value_in (row_of rows q.key)) at q.key q.what)) region branch at versions rows) q.key ≡ row_step (row_of rows q.key) q
row-own q region branch at versions rows time comes =
    let before : Option Row = row_of rows q.key in
    let row : Row = record { value = state_after (value_in before) q.what; recency = at } in
    elim (writes (value_in before) q.what) as (λ c. row_of (advanced_rows (effect_of (cond c (Write at q.key row) (Sync at))) region branch at versions rows) q.key
    ≡ cond c (Some (record { value = state_after (value_in before) q.what; recency = q.timestamp })) before) [
      | true ↦
          ap (λ b. row_of (cond b (with_row rows q.key row) rows) q.key) comes ∙ row_of-with_row_same rows q.key row
          ∙ ap (λ t. Some (record { value = state_after (value_in before) q.what; recency = t })) (sym time)
      | false ↦ refl
    ]
