-- Laws of answers that are kept one after another.
use Rattle.std.proofs.Common.{◌≡◌, ◌==◌, ◌||◌, ℕ, ◌+◌, ◌<◌, Bool, true, false, cond, List, [], ◌∷◌, length, get_or, drop, Option, Some, None, refl, ap, sym, ◌∙◌}
use Rattle.std.proofs.lemmas.List.{at_drop_more}
use Rattle.register_laws.specs.declared.operation.OpId.{OpId}
use Rattle.exec_types.specs.declared.outcome.Outcome.{Outcome}
use Rattle.exec_types.specs.declared.output.Output.{Output}
use Rattle.journal_story.specs.runs.Story.{answer_in, or_else}
use Rattle.journal_story.proofs.step_runs.Outs.{answer_in-append}
use Rattle.report_text.specs.declared.answered.Answered.{Answered}
use Rattle.journal_story.specs.Done.{op_of}
use Rattle.report_text.specs.Known.{all_answered, or_answered}
use Rattle.report_text.specs.Report.{is_down}

pub all_answered-or_else : (a b : Option Outcome) → all_answered (or_else a b) ≡ or_answered (all_answered a) (all_answered b)
all_answered-or_else None b = refl
all_answered-or_else (Some a) b = refl

pub or_answered-assoc : (a b c : Option Answered) → or_answered (or_answered a b) c ≡ or_answered a (or_answered b c)
or_answered-assoc None b c = refl
or_answered-assoc (Some a) b c = refl

-- one output more
pub keep-more : (a b : Option Answered) (x : Output) (outs : List Output) (op : OpId) → b ≡ or_answered a (all_answered (answer_in (x ∷ []) op)) → or_answered b (all_answered (answer_in outs op)) ≡ or_answered a (all_answered (answer_in (x ∷ outs) op))
keep-more a b x outs op kept =
    ap (λ (k : Option Answered). or_answered k (all_answered (answer_in outs op))) kept
    ∙ or_answered-assoc a (all_answered (answer_in (x ∷ []) op)) (all_answered (answer_in outs op))
    ∙ ap (or_answered a) (sym (all_answered-or_else (answer_in (x ∷ []) op) (answer_in outs op)))
    ∙ ap (λ (o : Option Outcome). or_answered a (all_answered o)) (sym (answer_in-append (x ∷ []) outs op))

pub or_answered-none : (a : Option Answered) → or_answered a None ≡ a
or_answered-none None = refl
or_answered-none (Some a) = refl

-- an output more is kept as its own
pub kept_as : (b : Bool) (o : Outcome) → all_answered (cond b (Some o) None) ≡ cond b (all_answered (Some o)) None
kept_as true o = refl
kept_as false o = refl

or-moves : (here old rest : Bool) → ((here || old) || rest) ≡ (old || (here || rest))
or-moves true true rest = refl
or-moves true false rest = refl
or-moves false old rest = refl

-- one operation more that was asked of a node that was down
pub down-more : (ops : List OpId) (i : ℕ) (x : OpId) (n : ℕ) (old new : Bool) → i < length ops → x ≡ get_or ops i x → new ≡ ((x.0 == n) || old)
    → (new || is_down (drop (i + 1) ops) (op_of n)) ≡ (old || is_down (drop i ops) (op_of n))
down-more ops i x n old new below read added =
    ap (λ b. b || is_down (drop (i + 1) ops) (op_of n)) added
    ∙ or-moves (x.0 == n) old (is_down (drop (i + 1) ops) (op_of n))
    ∙ ap (λ b. old || b) (ap (λ (y : OpId). is_down (y ∷ drop (i + 1) ops) (op_of n)) read ∙ sym (at_drop_more (λ (qs : List OpId). is_down qs (op_of n)) ops i x below))
