-- An operation has an outcome where some entry has an output that answers it.
use Rattle.std.proofs.Common.{◌≡◌, ℕ, true, false, cond, not, ◌||◌, List, [], ◌∷◌, ◌++◌, take, drop, length, reverse, Option, Some, None, is_some, refl, sym, ap, ◌∙◌}
use Rattle.std.proofs.lemmas.Bool.{false≢true, not-true}
use Rattle.std.proofs.lemmas.List.{reverse-append, take-append-drop}
use Rattle.std.proofs.lemmas.List.Folds.{list_any-append}
use Rattle.std.proofs.Math.Bool.{or_assoc, or-false}
use Rattle.std.proofs.Math.Seq.{take-length}
use Rattle.std.specs.List.{list_any}
use Rattle.runs.specs.register_laws.declared.operation.OpId.{OpId}
use Rattle.runs.specs.register_laws.Lists.{same_op}
use Rattle.runs.specs.exec_types.declared.outcome.Outcome.{Outcome}
use Rattle.runs.specs.exec_types.declared.output.Output.{Output}
use Rattle.runs.specs.exec_types.declared.output.Output.TheVariants.{Message, Dispatched, Viewed, Answer}
use Rattle.runs.specs.node_core.declared.journal.Entry.{Entry}
use Rattle.runs.specs.Story.{answer_in, answer, or_else}
use Rattle.node_turn.specs.Outcomes.{is_answer, answers, has_outcome, awaited, lacks}

pub any_answer : (op : OpId) (outs : List Output) → list_any (is_answer op) outs ≡ is_some (answer_in outs op)
any_answer op [] = refl
any_answer op (Message to message ∷ outs) = any_answer op outs
any_answer op (Dispatched q key branch timestamp ∷ outs) = any_answer op outs
any_answer op (Viewed first results ∷ outs) = any_answer op outs
any_answer op (Answer q outcome ∷ outs) =
    elim (same_op q op) as (λ b. (b || list_any (is_answer op) outs) ≡ is_some (cond b (Some outcome) (answer_in outs op))) [
      | true ↦ refl
      | false ↦ any_answer op outs
    ]

some_or : (a b : Option Outcome) → is_some (or_else a b) ≡ (is_some a || is_some b)
some_or None b = refl
some_or (Some o) b = refl

-- the outcome of an older entry is found too
outcome_before : (op : OpId) (e : Entry) (more : List Entry) → has_outcome (more ++ e ∷ []) op ≡ (is_some (answer_in e.outputs op) || has_outcome more op)
outcome_before op e [] = some_or None (answer_in e.outputs op) ∙ sym (or-false (is_some (answer_in e.outputs op)))
outcome_before op e (x ∷ more) =
    some_or (answer (more ++ e ∷ []) op) (answer_in x.outputs op)
    ∙ ap (λ b. b || is_some (answer_in x.outputs op)) (outcome_before op e more)
    ∙ or_assoc (is_some (answer_in e.outputs op)) (has_outcome more op) (is_some (answer_in x.outputs op))
    ∙ ap (λ b. is_some (answer_in e.outputs op) || b) (sym (some_or (answer more op) (answer_in x.outputs op)))

pub any_outcome : (op : OpId) (seen : List Entry) → list_any (answers op) seen ≡ has_outcome (reverse seen) op
any_outcome op [] = refl
any_outcome op (e ∷ seen) =
    (λ i. any_answer op e.outputs i || any_outcome op seen i)
    ∙ sym (outcome_before op e (reverse seen))
    ∙ ap (λ (l : List Entry). has_outcome l op) (sym (reverse-append (e ∷ []) seen))

-- ---- how far a search has come

pub lacks_outcome : (past : List Entry) (op : OpId) → lacks past (Some op) ≡ true → has_outcome past op ≡ false
lacks_outcome past op h = not-true (has_outcome past op) h

pub lacks_nothing : (after : Option OpId) → lacks [] after ≡ true
lacks_nothing None = refl
lacks_nothing (Some op) = refl

-- what lies behind entries that lack an outcome has it where the whole has it
pub outcome_behind : (op : OpId) (seen : List Entry) (asked : ℕ) → has_outcome (reverse (take asked seen)) op ≡ false
    → list_any (answers op) (drop asked seen) ≡ has_outcome (reverse seen) op
outcome_behind op seen asked lacking =
    let front : list_any (answers op) (take asked seen) ≡ false = any_outcome op (take asked seen) ∙ lacking in
    sym
    (sym (any_outcome op seen)
    ∙ ap (list_any (answers op)) (sym (take-append-drop asked seen))
    ∙ list_any-append (answers op) (take asked seen) (drop asked seen)
    ∙ ap (λ b. b || list_any (answers op) (drop asked seen)) front)

-- an operation that is waited for has no outcome
pub lacks_awaited : (seen : List Entry) (after : Option OpId) (op : OpId) → awaited (reverse seen) after ≡ Some op → lacks (reverse (take (length seen) seen)) after ≡ true
lacks_awaited seen None op h = refl
lacks_awaited seen (Some q) op h =
    ap (λ (l : List Entry). lacks (reverse l) (Some q)) (take-length seen)
    ∙ elim (has_outcome (reverse seen) q) as (λ b. cond b None (Some q) ≡ Some op → not b ≡ true) [
      | true ↦ λ e. absurd (false≢true (ap (λ (o : Option OpId). elim o [ None ↦ false | Some x ↦ true ]) e))
      | false ↦ λ _. refl
    ] h
