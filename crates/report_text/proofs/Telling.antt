-- Laws of the texts of stories.
use Rattle.std.proofs.Common.{◌≡◌, ℕ, ◌&&◌, Bool, true, false, cond, List, [], ◌∷◌, ◌++◌, map, filter, Option, Some, None, refl, ap, sym, ◌∙◌, append_assoc, append-nil}
use Rattle.std.specs.declared.cmp.Ordering.{Ordering}
use Rattle.std.specs.declared.cmp.Ordering.TheVariants.{Less, Equal, Greater}
use Rattle.std.specs.Ordering.{nat_cmp, is_eq}
use Rattle.std.specs.Cmp.Lexicographic.{slice_cmp, texts_ties}
use Rattle.std.specs.FinMap.{slice_cmp-IsAntisymmetric, nat_cmp-IsAntisymmetric}
use Rattle.std.specs.BTreeMap.{get, is_at}
use Rattle.contract_types.specs.Setup.{SetupState}
use Rattle.contract_types.specs.Tables.{Table}
use Rattle.journal_story.specs.runs.Latest.{told_table}
use Rattle.register_laws.specs.declared.operation.Op.{Op}
use Rattle.register_laws.specs.Register.{State, state_after}
use Rattle.register_laws.specs.Lists.{told_from}
use Rattle.exec_types.specs.declared.output.Output.{Output}
use Rattle.exec_types.specs.declared.output.Output.TheVariants.{Message, Dispatched, Viewed, Answer}
use Rattle.node_core.specs.declared.journal.Entry.{Entry}
use Rattle.journal_story.specs.runs.Story.{Point, points, points_in, points_of, same_key, is_on_path, is_shown_point, call_of, story}
use Rattle.report_text.specs.Report.{told_text, story_line}
use Rattle.report_text.specs.Stories.{Texts, text_at, told_op, point_text, points_text, text_or_none, line_with, line_by}
use Rattle.journal_story.proofs.Branches.{on_path-hashes}

pub points_text-append : (t : Table) (past : List Entry) (key : List ℕ) (ps qs : List Point) → points_text t past key (ps ++ qs) ≡ points_text t past key ps ++ points_text t past key qs
points_text-append t past key [] qs = refl
points_text-append t past key (p ∷ ps) qs = ap (λ rest. point_text t past key p ++ rest) (points_text-append t past key ps qs) ∙ sym (append_assoc (point_text t past key p) (points_text t past key ps) (points_text t past key qs))

pub points_in-cons : (what : Op) (x : Output) (outs : List Output) → points_in what (x ∷ outs) ≡ points_in what (x ∷ []) ++ points_in what outs
points_in-cons what (Message to message) outs = refl
points_in-cons what (Dispatched op key branch timestamp) outs = refl
points_in-cons what (Viewed first results) outs = refl
points_in-cons what (Answer op outcome) outs = refl

-- one output more
pub tell-more : (t : Table) (past : List Entry) (key : List ℕ) (what : Op) (x : Output) (outs : List Output) (a b : List ℕ) → b ≡ a ++ points_text t past key (points_in what (x ∷ [])) → b ++ points_text t past key (points_in what outs) ≡ a ++ points_text t past key (points_in what (x ∷ outs))
tell-more t past key what x outs a b told =
    ap (λ front. front ++ points_text t past key (points_in what outs)) told
    ∙ append_assoc a (points_text t past key (points_in what (x ∷ []))) (points_text t past key (points_in what outs))
    ∙ ap (λ back. a ++ back) (sym (points_text-append t past key (points_in what (x ∷ [])) (points_in what outs)))
    ∙ ap (λ (ps : List Point). a ++ points_text t past key ps) (sym (points_in-cons what x outs))

-- one entry more
pub tell-entry : (t : Table) (past : List Entry) (key : List ℕ) (e : Entry) (before : List Entry) (a b : List ℕ) → a ≡ points_text t past key (points before) → b ≡ a ++ points_text t past key (points_of e.input e.outputs) → b ≡ points_text t past key (points (e ∷ before))
tell-entry t past key e before a b is told =
    told ∙ ap (λ front. front ++ points_text t past key (points_of e.input e.outputs)) is ∙ sym (points_text-append t past key (points before) (points_of e.input e.outputs))

-- a point that lies on the path and is shown is told, and no other
told-point : (s : State) (p : Point) (on shown : Bool) (rest : List Point) (text : List ℕ)
    → ((s : State) → told_text (told_from s (map call_of rest)) ≡ text)
    → told_text (told_from s (map call_of (cond on (cond shown (p ∷ rest) rest) rest))) ≡ cond (on && shown) (told_op p.op.0) [] ++ text
told-point s p true true rest text same = ap (λ back. told_op p.op.0 ++ back) (same (state_after s p.what))
told-point s p true false rest text same = same s
told-point s p false shown rest text same = same s

cond-filter : {A : Type 0} (q : A → Bool) (on : Bool) (x : A) (xs : List A) → filter q (cond on (x ∷ xs) xs) ≡ cond on (cond (q x) (x ∷ filter q xs) (filter q xs)) (filter q xs)
cond-filter q true x xs = refl
cond-filter q false x xs = refl

told-points : (setup : SetupState) (t : Table) (past : List Entry) (key : List ℕ) (s : State) (ps : List Point) → setup.hashes ≡ t.config.hashes
    → told_text (told_from s (map call_of (filter (is_shown_point past) (filter (is_on_path setup t key) ps)))) ≡ points_text t past key ps
told-points setup t past key s [] e = refl
told-points setup t past key s (p ∷ ps) e =
    ap (λ (qs : List Point). told_text (told_from s (map call_of qs))) (cond-filter (is_shown_point past) (is_on_path setup t key p) p (filter (is_on_path setup t key) ps))
    ∙ told-point s p (is_on_path setup t key p) (is_shown_point past p) (filter (is_shown_point past) (filter (is_on_path setup t key) ps)) (points_text t past key ps) (λ r. told-points setup t past key r ps e)
    ∙ ap (λ on. cond (on && is_shown_point past p) (told_op p.op.0) [] ++ points_text t past key ps) (on_path-hashes setup t.config t key p e)

-- the points that are told by the table of a journal are those of the story
pub points-story : (setup : SetupState) (t : Table) (past : List Entry) (key : List ℕ) → t ≡ told_table setup past → t.config.hashes ≡ setup.hashes
    → points_text t past key (points past) ≡ told_text (story setup past key)
points-story setup t past key is hashes =
    sym (told-points setup t past key None (points past) (sym hashes))
    ∙ ap (λ (u : Table). told_text (told_from None (map call_of (filter (is_shown_point past) (filter (is_on_path setup u key) (points past)))))) is

-- lines by texts that are the stories' are the stories' lines
pub lines-by : (texts : Texts) (setup : SetupState) (past : List Entry) → ((key : List ℕ) → text_at texts key ≡ told_text (story setup past key)) → (keys : List (List ℕ)) → map (line_by texts) keys ≡ map (story_line setup past) keys
lines-by texts setup past same [] = refl
lines-by texts setup past same (key ∷ keys) =
    ap (λ told. line_with key told ∷ map (line_by texts) keys) (same key) ∙ ap (λ (rest : List (List ℕ)). story_line setup past key ∷ rest) (lines-by texts setup past same keys)

is_equal : (o : Ordering) → is_eq o ≡ true → o ≡ Equal
is_equal Less h = cc
is_equal Equal h = refl
is_equal Greater h = cc

same_key-equal : (a b : List ℕ) → same_key a b ≡ true → a ≡ b
same_key-equal a b same = slice_cmp-IsAntisymmetric nat_cmp-IsAntisymmetric a b (is_equal (slice_cmp nat_cmp a b) (sym (texts_ties a b) ∙ same))

told-here : (same : Bool) (old : Texts) (key other told text : List ℕ) → (same ≡ true → key ≡ other) → text ≡ text_at old key ++ told
    → text_or_none (cond same (Some text) (cond same None (get (slice_cmp nat_cmp) old other))) ≡ text_at old other ++ cond same told []
told-here true old key other told text equal is = is ∙ ap (λ k. text_at old k ++ told) (equal refl)
told-here false old key other told text equal is = sym (append-nil (text_at old other))

-- what is told of a key was taken out, and put back with more
pub tell-one : (old removed new : Texts) (key copy other told text : List ℕ) → copy ≡ key
    → get (slice_cmp nat_cmp) new other ≡ cond (is_at (slice_cmp nat_cmp copy) other) (Some text) (get (slice_cmp nat_cmp) removed other)
    → get (slice_cmp nat_cmp) removed other ≡ cond (is_at (slice_cmp nat_cmp key) other) None (get (slice_cmp nat_cmp) old other)
    → text ≡ text_at old key ++ told
    → text_at new other ≡ text_at old other ++ cond (same_key key other) told []
tell-one old removed new key copy other told text copied put gone is =
    let test : is_at (slice_cmp nat_cmp key) other ≡ same_key key other = sym (texts_ties key other) in
    ap text_or_none put
    ∙ ap (λ k. text_or_none (cond (is_at (slice_cmp nat_cmp k) other) (Some text) (get (slice_cmp nat_cmp) removed other))) copied
    ∙ ap (λ (o : Option (List ℕ)). text_or_none (cond (is_at (slice_cmp nat_cmp key) other) (Some text) o)) gone
    ∙ ap (λ b. text_or_none (cond b (Some text) (cond b None (get (slice_cmp nat_cmp) old other)))) test
    ∙ told-here (same_key key other) old key other told text (same_key-equal key other) is
