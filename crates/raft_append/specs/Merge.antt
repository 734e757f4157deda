-- How a log takes the entries of a leader.
use Rattle.std.specs.Prelude.{ℕ, ◌+◌, ◌-◌, ◌==◌, min, max, nat_le, Bool, true, false, ◌&&◌, ◌||◌, if◌then◌else◌, List, ◌++◌, length, take, drop}
use Rattle.std.specs.List.{common_prefix_len}
use Rattle.raft_vote.specs.declared.log.LogEntry.{LogEntry}
use Rattle.raft_vote.specs.Log.{term_at}

-- there is an entry of this term at the index; index 0 always fits
abbrev pub fits : {E : Type 0} → List (LogEntry E) → ℕ → ℕ → Bool
fits log index term = (index == 0) || (nat_le index (length log) && (term_at log index == term))

-- how many entries at the front agree in term
abbrev pub agreeing : {E : Type 0} → List (LogEntry E) → List (LogEntry E) → ℕ
agreeing own new = common_prefix_len (λ x y. x.term == y.term) own new

-- from the first entry that differs in term on, the new ones
abbrev pub merged : {E : Type 0} → List (LogEntry E) → List (LogEntry E) → List (LogEntry E)
merged own new =
    let same = agreeing own new in
    if same == length new then own else take same own ++ drop same new

-- a log and its view after a leader's entries, and what is answered
pub record Taken (E : Type 0) : Type 0 where
  pub log : List (LogEntry E)
  pub view : ℕ
  pub ok : Bool
  pub upto : ℕ

-- entries that a leader has behind an index, where its entry has this term, and acts on up to `commit`
abbrev pub taken : {E : Type 0} → List (LogEntry E) → ℕ → ℕ → ℕ → List (LogEntry E) → ℕ → Taken E
taken log view prev prev_term entries commit =
    if fits log prev prev_term
    then record {
      log = take prev log ++ merged (drop prev log) entries;
      view = max view (min commit (prev + length entries));
      ok = true;
      upto = prev + length entries;
    }
    else record { log = log; view = view; ok = false; upto = min (prev - 1) (length log) }

-- the entries behind an index have, as far as the view reaches, the terms of the log
abbrev pub agrees_to_view : {E : Type 0} → List (LogEntry E) → ℕ → ℕ → List (LogEntry E) → Bool
agrees_to_view log view prev entries = nat_le (min (view - prev) (length entries)) (agreeing (drop prev log) entries)
