-- Laws of the changes that a journal tells.
use Rattle.std.proofs.Common.{◌≡◌, ℕ, suc, ◌+◌, List, [], ◌∷◌, ◌++◌, refl, ap, sym, ◌∙◌, arith, append_assoc, append-nil}
use Rattle.std.proofs.lemmas.Bool.Decides.{nat_tests}
use Rattle.contract_types.specs.declared.change.Change.{Change}
use Rattle.contract_types.specs.declared.applied.Applied.{Applied}
use Rattle.contract_types.specs.Setup.{nodes_below}
use Rattle.exec_types.specs.declared.output.Output.{Output}
use Rattle.exec_types.specs.declared.output.Output.TheVariants.{Message, Dispatched, Viewed, Answer}
use Rattle.node_core.specs.declared.journal.Entry.{Entry}
use Rattle.step_runs.specs.runs.Committed.{viewed_in, viewed_by}
use Rattle.step_runs.specs.runs.Latest.{longer, longest_of}

-- ---- the changes that a node viewed

viewed_in-cons : (x : Output) (outs : List Output) → viewed_in (x ∷ outs) ≡ viewed_in (x ∷ []) ++ viewed_in outs
viewed_in-cons (Message to message) outs = refl
viewed_in-cons (Dispatched op key branch timestamp) outs = refl
viewed_in-cons (Viewed first results) outs = ap (λ front. front ++ viewed_in outs) (sym (append-nil results))
viewed_in-cons (Answer op outcome) outs = refl

-- one output more
pub view-more : (x : Output) (outs : List Output) (a b : List (Change × Applied)) → b ≡ a ++ viewed_in (x ∷ []) → b ++ viewed_in outs ≡ a ++ viewed_in (x ∷ outs)
view-more x outs a b viewed =
    ap (λ front. front ++ viewed_in outs) viewed
    ∙ append_assoc a (viewed_in (x ∷ [])) (viewed_in outs)
    ∙ ap (λ back. a ++ back) (sym (viewed_in-cons x outs))

-- ---- the longest list

longer-empty : (xs : List (Change × Applied)) → longer xs [] ≡ longer [] xs
longer-empty [] = refl
longer-empty (x ∷ xs) = grind (arith, nat_tests)

longer-assoc : (a b c : List (Change × Applied)) → longer a (longer b c) ≡ longer (longer a b) c
longer-assoc a b c = grind (arith, nat_tests)

longest_of-append : (past : List Entry) (ns : List ℕ) (n : ℕ) → longest_of past (ns ++ n ∷ []) ≡ longer (longest_of past ns) (viewed_by n past)
longest_of-append past [] n = longer-empty (viewed_by n past)
longest_of-append past (m ∷ ns) n = ap (longer (viewed_by m past)) (longest_of-append past ns n) ∙ longer-assoc (viewed_by m past) (longest_of past ns) (viewed_by n past)

-- one node more
pub longest-more : (past : List Entry) (n : ℕ) (a b : List (Change × Applied)) → a ≡ longest_of past (nodes_below n) → b ≡ viewed_by n past → longer a b ≡ longest_of past (nodes_below (n + 1))
longest-more past n a b before viewed =
    let next : suc n ≡ n + 1 = omega arith in
    ap (λ xs. longer xs b) before ∙ ap (longer (longest_of past (nodes_below n))) viewed ∙ sym (longest_of-append past (nodes_below n) n) ∙ ap (λ m. longest_of past (nodes_below m)) next
