-- What a node knows of its entries is kept by what its seat does with a book, and makes the book's list a run.
use Rattle.std.proofs.Common.{◌≡◌, ℕ, ◌==◌, true, false, cond, List, [], ◌∷◌, ◌++◌, drop, length, reverse, refl, sym, ap, ◌∙◌, subst, inl, inr}
use Rattle.std.proofs.lemmas.Bool.{false≢true, eqb-true, eq-eqb, or_cases}
use Rattle.std.proofs.lemmas.List.{append-nil, append_cancel_left, reverse-append, take-append-drop}
use Rattle.std.proofs.lemmas.List.Elements.{filter-append, All-head, All-tail}
use Rattle.std.specs.List.{All}
use Rattle.runs.specs.contract_types.Setup.{SetupState}
use Rattle.runs.specs.node_core.declared.journal.Entry.{Entry}
use Rattle.runs.specs.Run.{IsRun}
use Rattle.journal_seat.specs.declared.book.BookLimits.{BookLimits}
use Rattle.journal_seat.specs.declared.view.EndedSeat.{EndedSeat}
use Rattle.journal_seat.specs.declared.view.View.{View}
use Rattle.journal_seat.specs.Book.{StartsWith, made_by, is_among, ended_numbers, IsKept, Looked}
use Rattle.journal_seat.specs.Calls.{Appended, IsWhole}
use Rattle.seen_runs.specs.Seen.{node_of, IsOwnStep, OwnSteps, IsOwnRun, IsSeatRun}
use Rattle.seen_runs.proofs.Beginnings.{other_first, others_rest}
use Rattle.seen_runs.proofs.Nodes.{own_step_more, own_steps_more, no_own_steps, run_of_own_steps}

-- ---- beginnings

-- what lies behind a beginning
abbrev behind : List Entry → List Entry → List Entry
behind list front = drop (length front) list

split_at : (list front : List Entry) → StartsWith list front → list ≡ front ++ behind list front
split_at list front begins = sym (take-append-drop (length front) list) ∙ ap (λ (l : List Entry). l ++ behind list front) begins

-- the newest come first
newest_first : (list front : List Entry) → StartsWith list front → reverse list ≡ reverse (behind list front) ++ reverse front
newest_first list front begins = ap reverse (split_at list front begins) ∙ reverse-append front (behind list front)

-- where a node has no more entries in the whole than in a beginning, what lies behind is of others
others_behind : (n : ℕ) (list front : List Entry) → StartsWith list front → made_by node_of n list ≡ made_by node_of n front → made_by node_of n (behind list front) ≡ []
others_behind n list front begins same =
    append_cancel_left (made_by node_of n front) (made_by node_of n (behind list front)) []
    (sym (ap (made_by node_of n) (split_at list front begins) ∙ filter-append (λ e. node_of e == n) front (behind list front))
    ∙ same ∙ sym (append-nil (made_by node_of n front)))

none_reversed : (n : ℕ) (list : List Entry) → made_by node_of n list ≡ [] → made_by node_of n (reverse list) ≡ []
none_reversed n [] none = refl
none_reversed n (e ∷ list) none =
    ap (made_by node_of n) (reverse-append (e ∷ []) list)
    ∙ filter-append (λ x. node_of x == n) (reverse list) (e ∷ [])
    ∙ ap (λ (l : List Entry). l ++ made_by node_of n (e ∷ [])) (none_reversed n list (others_rest n e list none))
    ∙ ap (λ b. cond b (e ∷ []) []) (other_first n e list none)

-- ---- a node that has seen a beginning

own_steps_grow : (setup : SetupState) (home : ℕ → ℕ) (n : ℕ) (list seen made : List Entry) → IsOwnRun setup home n seen made → StartsWith list seen
    → made_by node_of n list ≡ made → OwnSteps setup home n (reverse list)
own_steps_grow setup home n list seen made run begins is =
    let none : made_by node_of n (reverse (behind list seen)) ≡ [] =
    none_reversed n (behind list seen) (others_behind n list seen begins (is ∙ sym run.own)) in
    subst (OwnSteps setup home n) (sym (newest_first list seen begins)) (own_steps_more setup home n (reverse (behind list seen)) (reverse seen) none run.steps)

pub looked : (setup : SetupState) (home : ℕ → ℕ) (v w : View Entry) → IsOwnRun setup home v.number v.seen v.made → Looked node_of v w
    → IsOwnRun setup home w.number w.seen w.made
looked setup home v w run look =
    subst (λ (x : View Entry). IsOwnRun setup home x.number w.seen x.made) (sym look.0)
    (record { own = look.1.1; steps = own_steps_grow setup home v.number w.seen v.seen v.made run look.1.0 look.1.1 })

-- an entry that is put behind others
with_own : (n : ℕ) (before made : List Entry) (e : Entry) → e.node.0 ≡ n → made_by node_of n before ≡ made → made_by node_of n (before ++ e ∷ []) ≡ made ++ e ∷ []
with_own n before made e names is =
    filter-append (λ x. node_of x == n) before (e ∷ [])
    ∙ ap (λ b. made_by node_of n before ++ cond b (e ∷ []) []) (eq-eqb e.node.0 n names)
    ∙ ap (λ (l : List Entry). l ++ e ∷ []) is

pub appended : (setup : SetupState) (home : ℕ → ℕ) (weight_of : Entry → ℕ) (limits : BookLimits) (e : Entry) (v : View Entry) (place : ℕ) (w : View Entry)
    → IsOwnRun setup home v.number v.seen v.made → e.node.0 ≡ v.number → IsOwnStep setup home (reverse v.seen) e → Appended node_of weight_of limits e v place w
    → IsOwnRun setup home w.number w.seen w.made
appended setup home weight_of limits e v place w run names step (before, known, at, room, is) =
    let more : List Entry = reverse (behind before v.seen) in
    let none : made_by node_of v.number more ≡ [] =
    none_reversed v.number (behind before v.seen) (others_behind v.number before v.seen known.0 (known.1 ∙ sym run.own)) in
    let here : IsOwnStep setup home (reverse before) e =
    subst (λ (l : List Entry). IsOwnStep setup home l e) (sym (newest_first before v.seen known.0))
    (own_step_more setup home more (reverse v.seen) e (subst (λ n. made_by node_of n more ≡ []) (sym names) none) step) in
    let steps : OwnSteps setup home v.number (e ∷ reverse before) = (λ _. here, own_steps_grow setup home v.number before v.seen v.made run known.0 known.1) in
    subst (λ (x : View Entry). IsOwnRun setup home x.number x.seen x.made) (sym is)
    (record {
      own = with_own v.number before v.made e names known.1;
      steps = subst (OwnSteps setup home v.number) (sym (reverse-append before (e ∷ []))) steps;
    })

-- ---- a closed book

seat_steps : (setup : SetupState) (home : ℕ → ℕ) (list : List Entry) (p : EndedSeat Entry) → IsSeatRun setup home p → IsKept node_of list p
    → OwnSteps setup home p.number (reverse list)
seat_steps setup home list p (inl none) kept = no_own_steps setup home p.number (reverse list) (none_reversed p.number list (kept.1 ∙ none))
seat_steps setup home list p (inr run) kept = own_steps_grow setup home p.number list p.seen p.made run kept.0 kept.1

ended_steps : (setup : SetupState) (home : ℕ → ℕ) (list : List Entry) (n : ℕ) (ps : List (EndedSeat Entry)) → All (IsSeatRun setup home) ps → All (IsKept node_of list) ps
    → is_among n (ended_numbers ps) ≡ true → OwnSteps setup home n (reverse list)
ended_steps setup home list n [] runs kept here = absurd (false≢true here)
ended_steps setup home list n (p ∷ ps) runs kept here =
    elim (or_cases (p.number == n) (is_among n (ended_numbers ps)) here) [
      | inl same ↦
          subst (λ k. OwnSteps setup home k (reverse list)) (eqb-true p.number n same)
          (seat_steps setup home list p (All-head (IsSeatRun setup home) p ps runs) (All-head (IsKept node_of list) p ps kept))
      | inr there ↦ ended_steps setup home list n ps (All-tail (IsSeatRun setup home) p ps runs) (All-tail (IsKept node_of list) p ps kept) there
    ]

node_steps : (setup : SetupState) (home : ℕ → ℕ) (v : View Entry) (list : List Entry) → IsWhole node_of v list → (seen : List Entry) → StartsWith list seen
    → IsOwnRun setup home v.number seen v.made → All (IsSeatRun setup home) v.ended → (n : ℕ) → OwnSteps setup home n (reverse list)
node_steps setup home v list whole seen begins run runs n =
    elim (is_among n (v.number ∷ ended_numbers v.ended)) as (λ b. is_among n (v.number ∷ ended_numbers v.ended) ≡ b → OwnSteps setup home n (reverse list)) [
      | true ↦ λ here. elim (or_cases (v.number == n) (is_among n (ended_numbers v.ended)) here) [
        | inl same ↦
            subst (λ k. OwnSteps setup home k (reverse list)) (eqb-true v.number n same)
            (own_steps_grow setup home v.number list seen v.made run begins whole.own.1)
        | inr there ↦ ended_steps setup home list n v.ended runs whole.ended there
      ]
      | false ↦ λ other. no_own_steps setup home n (reverse list) (none_reversed n list (whole.others n other))
    ] refl

pub closed : (setup : SetupState) (home : ℕ → ℕ) (v : View Entry) (list : List Entry) → IsWhole node_of v list → (seen : List Entry) → StartsWith list seen
    → IsOwnRun setup home v.number seen v.made → All (IsSeatRun setup home) v.ended → IsRun setup (reverse list)
closed setup home v list whole seen begins run runs =
    run_of_own_steps setup home (reverse list) (node_steps setup home v list whole seen begins run runs)
