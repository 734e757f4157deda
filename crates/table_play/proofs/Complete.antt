-- Where the source and the sink tell their bytes and meet no fault, the outcome is a function of the text.
use Rattle.std.proofs.Common.{◌≡◌, ◌⊎◌, ℕ, ◌+◌, ◌<◌, ◌≤◌, true, false, cond, nat_le, List, [], ◌++◌, length, length-append, Some, refl, sym, ap, ◌∙◌, subst, inl, inr, append-nil, arith}
use Rattle.std.proofs.lemmas.Bool.{false≢true, leb-true, le-leb}
use Rattle.line_io.specs.Counts.{rose}
use Rattle.node_core.specs.Journal.{JournalState}
use Rattle.script_text.specs.declared.status.Status.{Status}
use Rattle.script_text.specs.declared.status.Status.TheVariants as status
use Rattle.script_text.specs.Lines.{read_lines}
use Rattle.table_play.specs.Headline.{Outcome, Reading, Came, Faulted, Exceeded, IsReading, most_script_bytes, outcome_of, outcome_of_script, is_command, IsPlay, Ends, WantsOf}
use Rattle.table_play.specs.Whole.{outcome_of_text, IsWhole}

some_same : (a b : List ℕ) → Some a ≡ Some b → a ≡ b
some_same a b e = cc

-- a text that came whole, within the limit
outcome_within : (text came rest : List ℕ) → Some text ≡ Some (came ++ rest) → rest ≡ [] → length came ≤ most_script_bytes → outcome_of_text text ≡ outcome_of (Came came)
outcome_within text came rest e end within =
    let same : text ≡ came = some_same text (came ++ rest) e ∙ ap (λ (l : List ℕ). came ++ l) end ∙ append-nil came in
    ap outcome_of_text same ∙ ap (λ c. cond c (outcome_of_script (read_lines came)) (outcome_of Exceeded)) (le-leb (length came) most_script_bytes within)

too_long : (text : List ℕ) → most_script_bytes < length text → nat_le (length text) most_script_bytes ≡ false
too_long text more =
    elim (nat_le (length text) most_script_bytes) as (λ c. nat_le (length text) most_script_bytes ≡ c → c ≡ false) [
      | true ↦ λ e. let within : length text ≤ most_script_bytes = leb-true (length text) most_script_bytes e in absurd (omega arith)
      | false ↦ λ e. refl
    ] refl

-- a text of which more than the limit came
outcome_past : (text came rest : List ℕ) → Some text ≡ Some (came ++ rest) → most_script_bytes < length came → outcome_of_text text ≡ outcome_of Exceeded
outcome_past text came rest e more =
    let count : length text ≡ length came + length rest = ap length (some_same text (came ++ rest) e) ∙ length-append came rest in
    let longer : most_script_bytes < length text = omega arith in
    ap (λ c. cond c (outcome_of_script (read_lines text)) (outcome_of Exceeded)) (too_long text longer)

module _ (result : Status) (journal : JournalState) (text rest held held' : List ℕ) (faults faults' writes writes' : ℕ) (read_well : rose faults faults' ≡ false) (wrote_well : rose writes writes' ≡ false) where
  -- the whole outcome, or want of memory before anything was written
  abbrev pub WholeOr : Outcome → Type 0
  WholeOr o = IsWhole o result journal held held' ⊎ ((result ≡ status.OutOfMemory) × (held' ≡ held))

  ends_whole : (o : Outcome) → Ends o result journal (Some held) (Some held') writes writes' → WholeOr o
  ends_whole o h =
      elim h.says [
        | inl s ↦ inl (record { status_is = s.0; journal_is = h.journal_is; text_is = some_same held' (held ++ o.text) s.1 })
        | inr f ↦ absurd (false≢true (sym wrote_well ∙ f.1))
      ]

  of_reading : (r : Reading) → IsReading r (Some text) (Some rest) faults faults' → (Ends (outcome_of r) result journal (Some held) (Some held') writes writes' ⊎ WantsOf r result journal (Some held) (Some held')) → WholeOr (outcome_of_text text)
  of_reading (Came came) g h =
      elim h [
        | inl ends ↦ subst WholeOr (sym (outcome_within text came rest g.0 g.1 g.2)) (ends_whole (outcome_of (Came came)) ends)
        | inr wants ↦ inr (wants.status_is, some_same held' held wants.nothing_written)
      ]
  of_reading Faulted g h = absurd (false≢true (sym read_well ∙ g))
  of_reading Exceeded g h =
      elim h [
        | inl ends ↦ subst WholeOr (sym (outcome_past text g.0 rest g.1 g.2)) (ends_whole (outcome_of Exceeded) ends)
        | inr wants ↦ absurd wants
      ]

  pub play_whole : (words : List (List ℕ)) → IsPlay words result journal (Some text) (Some rest) faults faults' (Some held) (Some held') writes writes' → is_command words ≡ true → WholeOr (outcome_of_text text)
  play_whole words p command =
      elim p [
        | inl other ↦ absurd (false≢true (sym other.0 ∙ command))
        | inr called ↦ elim called [
          | inl read ↦ of_reading read.1.0 read.1.1 read.1.2
          | inr first ↦ inr (first.1.status_is, some_same held' held first.1.nothing_written)
        ]
      ]
