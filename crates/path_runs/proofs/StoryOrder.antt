-- In every run a key's story is told in the order of the path.
use Rattle.std.proofs.Common.{◌≡◌, ℕ, Bool, true, false, cond, List, [], ◌∷◌, ◌++◌, filter, refl, sym, ap, ◌∙◌, inl, inr}
use Rattle.id_runs.specs.runs.contract_types.Setup.{SetupState, IsSetup}
use Rattle.id_runs.specs.runs.node_core.declared.journal.Entry.{Entry}
use Rattle.id_runs.specs.runs.Run.{IsRun}
use Rattle.id_runs.specs.runs.Story.{Point, IsIn, points, is_on_path, is_on_branch, branch_in, same_key}
use Rattle.id_runs.specs.runs.StoryOrder.{IsStoryInOrder}
use Rattle.id_runs.specs.runs.Latest.{told_table}
use Rattle.id_runs.proofs.step_runs.RegisterStory.{same_key-true}
use Rattle.id_runs.specs.runs.store_api.Versions.{point}
use Rattle.std.proofs.lemmas.Bool.{and_parts}
use Rattle.path_runs.proofs.Stays.{before_on}

-- where a filtered list comes from, around one of its members
record Around {A : Type 0} (f : A → Bool) (xs first : List A) (q : A) : Type 0 where
  before : List A
  after : List A
  these : xs ≡ before ++ q ∷ after
  passes : f q ≡ true
  from : (p : A) → IsIn first p → IsIn before p × (f p ≡ true)

head_is : {A : Type 0} (x y : A) (xs ys : List A) → x ∷ xs ≡ y ∷ ys → x ≡ y
head_is x y xs ys e = cc

tail_is : {A : Type 0} (x y : A) (xs ys : List A) → x ∷ xs ≡ y ∷ ys → xs ≡ ys
tail_is x y xs ys e = cc

not_cons : {A : Type 0} (q : A) (first later : List A) → [] ≡ first ++ q ∷ later → ⊥
not_cons q [] later e = cc
not_cons q (p ∷ first) later e = cc

around_more : {A : Type 0} (f : A → Bool) (x : A) (xs first : List A) (q : A) → Around f xs first q → Around f (x ∷ xs) first q
around_more f x xs first q a =
    record {
      before = x ∷ a.before;
      after = a.after;
      these = ap (λ (l : List _). x ∷ l) a.these;
      passes = a.passes;
      from = λ p i. let r = a.from p i in (inr r.0, r.1);
    }

-- a member that passes stands in the front, or is the member itself
kept_around : {A : Type 0} (f : A → Bool) (x : A) (xs later : List A) (q : A) → ((front : List A) → filter f xs ≡ front ++ q ∷ later → Around f xs front q)
    → (front : List A) → f x ≡ true → x ∷ filter f xs ≡ front ++ q ∷ later → Around f (x ∷ xs) front q
kept_around f x xs later q rest [] is k =
    let same : x ≡ q = head_is x q (filter f xs) later k in
    record { before = []; after = xs; these = ap (λ y. y ∷ xs) same; passes = ap f (sym same) ∙ is; from = λ p i. absurd i }
kept_around f x xs later q rest (y ∷ front) is k =
    let same : x ≡ y = head_is x y (filter f xs) (front ++ q ∷ later) k in
    let more = rest front (tail_is x y (filter f xs) (front ++ q ∷ later) k) in
    record {
      before = x ∷ more.before;
      after = more.after;
      these = ap (λ (l : List _). x ∷ l) more.these;
      passes = more.passes;
      from = λ p i.
          elim i [
            | inl e ↦ (inl (same ∙ e), ap f (sym (same ∙ e)) ∙ is)
            | inr j ↦ let r = more.from p j in (inr r.0, r.1)
          ];
    }

around : {A : Type 0} (f : A → Bool) (xs first later : List A) (q : A) → filter f xs ≡ first ++ q ∷ later → Around f xs first q
around f [] first later q e = absurd (not_cons q first later e)
around f (x ∷ xs) first later q e =
    elim (f x) as (λ c. f x ≡ c → cond c (x ∷ filter f xs) (filter f xs) ≡ first ++ q ∷ later → Around f (x ∷ xs) first q) [
      | true ↦ λ is k. kept_around f x xs later q (λ front. around f xs front later q) first is k
      | false ↦ λ _ k. around_more f x xs first q (around f xs first later q k)
    ] refl e

pub story_in_order : (setup : SetupState) → IsSetup setup → (past : List Entry) → IsRun setup past → (key : List ℕ) → IsStoryInOrder setup past key
story_in_order setup ok past run key first later q is p i =
    let a : Around (is_on_path setup (told_table setup past) key) (points past) first q = around (is_on_path setup (told_table setup past) key) (points past) first later q is in
    let there = a.from p i in
    let of_key = λ (r : Point) (on : is_on_path setup (told_table setup past) key r ≡ true).
    and_parts (same_key r.key key) (is_on_branch setup (told_table setup past) key (branch_in setup (told_table setup past) key) (point r.branch r.timestamp)) on in
    let own : p.key ≡ key = same_key-true p.key key (of_key p there.1).0 in
    let other : q.key ≡ key = same_key-true q.key key (of_key q a.passes).0 in
    before_on setup ok past run a.before a.after q a.these p there.0
    (ap (λ (k : List ℕ). same_key p.key k) (other ∙ sym own) ∙ ap (λ (k : List ℕ). same_key p.key k) own ∙ (of_key p there.1).0)
