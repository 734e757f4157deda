-- Laws of the operations that stand in the story of a key.
use Rattle.std.proofs.Common.{◌≡◌, ℕ, ◌&&◌, ◌||◌, not, Bool, cond, List, [], ◌∷◌, ◌++◌, map, filter, None, refl, ap, sym, ◌∙◌, append_assoc}
use Rattle.std.proofs.lemmas.List.{map-append}
use Rattle.contract_types.specs.Setup.{SetupState}
use Rattle.contract_types.specs.Tables.{Table}
use Rattle.register_laws.specs.declared.operation.OpId.{OpId}
use Rattle.register_laws.specs.declared.operation.Op.{Op}
use Rattle.register_laws.specs.declared.operation.Told.{Told}
use Rattle.register_laws.specs.Register.{State, reply_of, state_after}
use Rattle.register_laws.specs.Lists.{told_from, is_read}
use Rattle.exec_types.specs.declared.output.Output.{Output}
use Rattle.node_core.specs.declared.journal.Entry.{Entry}
use Rattle.journal_story.specs.Done.{Marks, MarksAnswers}
use Rattle.step_runs.specs.runs.Latest.{told_table}
use Rattle.step_runs.specs.runs.Story.{Point, points, points_in, points_of, is_on_path, is_shown_point, call_of, story}
use Rattle.journal_story.specs.Telling.{is_shown_by, is_told_by, calls_of}
use Rattle.journal_story.proofs.Branches.{on_path-hashes}
use Rattle.journal_story.proofs.Keeping.{done-marked}
use Rattle.step_runs.proofs.Outs.{points_in-append}
use Rattle.step_runs.proofs.Told.{filter-append, filter-filter}

abbrev pub Calls : Type 0
Calls = List (OpId × Op)

pub calls-append : (t : Table) (marks : Marks) (key : List ℕ) (ps qs : List Point) → calls_of t marks key (ps ++ qs) ≡ calls_of t marks key ps ++ calls_of t marks key qs
calls-append t marks key ps qs =
    ap (λ (rs : List Point). map call_of rs) (filter-append (is_told_by t marks key) ps qs)
    ∙ map-append call_of (filter (is_told_by t marks key) ps) (filter (is_told_by t marks key) qs)

-- an output more
pub call-more : (t : Table) (marks : Marks) (key : List ℕ) (what : Op) (x : Output) (outs : List Output) (a b : Calls) → b ≡ a ++ calls_of t marks key (points_in what (x ∷ [])) → b ++ calls_of t marks key (points_in what outs) ≡ a ++ calls_of t marks key (points_in what (x ∷ outs))
call-more t marks key what x outs a b told =
    ap (λ (front : Calls). front ++ calls_of t marks key (points_in what outs)) told
    ∙ append_assoc a (calls_of t marks key (points_in what (x ∷ []))) (calls_of t marks key (points_in what outs))
    ∙ ap (λ (back : Calls). a ++ back) (sym (calls-append t marks key (points_in what (x ∷ [])) (points_in what outs)))
    ∙ ap (λ (ps : List Point). a ++ calls_of t marks key ps) (sym (points_in-append what (x ∷ []) outs))

-- an entry more
pub call-entry : (t : Table) (marks : Marks) (key : List ℕ) (e : Entry) (before : List Entry) (a b : Calls) → a ≡ calls_of t marks key (points before) → b ≡ a ++ calls_of t marks key (points_of e.input e.outputs) → b ≡ calls_of t marks key (points (e ∷ before))
call-entry t marks key e before a b is told =
    told ∙ ap (λ (front : Calls). front ++ calls_of t marks key (points_of e.input e.outputs)) is ∙ sym (calls-append t marks key (points before) (points_of e.input e.outputs))

-- an operation more with its reply
pub reply-more : (s : State) (op : OpId) (what : Op) (rest : Calls) (told all : List Told) → told ++ told_from s ((op, what) ∷ rest) ≡ all
    → (told ++ record { op = op; what = what; reply = reply_of s what } ∷ []) ++ told_from (state_after s what) rest ≡ all
reply-more s op what rest told all is =
    append_assoc told (record { op = op; what = what; reply = reply_of s what } ∷ []) (told_from (state_after s what) rest) ∙ is

-- ---- the whole

filter-alike : {A : Type 0} (f g : A → Bool) → ((x : A) → f x ≡ g x) → (xs : List A) → filter f xs ≡ filter g xs
filter-alike f g same [] = refl
filter-alike f g same (x ∷ xs) = λ i. cond (same x i) (x ∷ filter-alike f g same xs i) (filter-alike f g same xs i)

told_alike : (setup : SetupState) (t : Table) (marks : Marks) (past : List Entry) (key : List ℕ) → setup.hashes ≡ t.config.hashes → MarksAnswers marks past
    → (p : Point) → is_told_by t marks key p ≡ (is_on_path setup t key p && is_shown_point past p)
told_alike setup t marks past key e kept p =
    ap (λ on. on && is_shown_by marks p.op p.what) (sym (on_path-hashes setup t.config t key p e))
    ∙ ap (λ done. is_on_path setup t key p && (not (is_read p.what) || done)) (done-marked marks past kept p.op)

-- with their replies they are the story
pub calls-story : (setup : SetupState) (t : Table) (marks : Marks) (past : List Entry) (key : List ℕ) → t ≡ told_table setup past → t.config.hashes ≡ setup.hashes → MarksAnswers marks past
    → told_from None (calls_of t marks key (points past)) ≡ story setup past key
calls-story setup t marks past key is hashes kept =
    ap (λ (ps : List Point). told_from None (map call_of ps))
    (filter-alike (is_told_by t marks key) (λ p. is_on_path setup t key p && is_shown_point past p) (told_alike setup t marks past key (sym hashes) kept) (points past)
    ∙ sym (filter-filter (is_shown_point past) (is_on_path setup t key) (points past)))
    ∙ ap (λ (u : Table). told_from None (map call_of (filter (is_shown_point past) (filter (is_on_path setup u key) (points past))))) is
