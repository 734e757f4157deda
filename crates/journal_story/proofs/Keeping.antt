-- Laws of marks that are made one after another.
use Rattle.std.proofs.Common.{◌≡◌, Bool, true, false, cond, List, [], ◌∷◌, Option, Some, None, refl, ap, sym, ◌∙◌}
use Rattle.register_laws.specs.declared.operation.OpId.{OpId}
use Rattle.exec_types.specs.declared.outcome.Outcome.{Outcome}
use Rattle.exec_types.specs.declared.output.Output.{Output}
use Rattle.node_core.specs.declared.journal.Entry.{Entry}
use Rattle.step_runs.specs.runs.Story.{answer, answer_in, or_else, is_done_outcome}
use Rattle.step_runs.proofs.Outs.{answer_in-append}
use Rattle.journal_story.specs.Done.{Marks, mark_of, or_mark, MarksAnswers, is_marked, is_done_by}

pub mark_of-or_else : (a b : Option Outcome) → mark_of (or_else a b) ≡ or_mark (mark_of a) (mark_of b)
mark_of-or_else None b = refl
mark_of-or_else (Some a) b = refl

pub or_mark-assoc : (a b c : Option Bool) → or_mark (or_mark a b) c ≡ or_mark a (or_mark b c)
or_mark-assoc None b c = refl
or_mark-assoc (Some a) b c = refl

pub or_mark-none : (a : Option Bool) → or_mark a None ≡ a
or_mark-none None = refl
or_mark-none (Some a) = refl

-- an output more
pub mark-more : (a b : Option Bool) (x : Output) (outs : List Output) (op : OpId) → b ≡ or_mark a (mark_of (answer_in (x ∷ []) op)) → or_mark b (mark_of (answer_in outs op)) ≡ or_mark a (mark_of (answer_in (x ∷ outs) op))
mark-more a b x outs op marked =
    ap (λ (k : Option Bool). or_mark k (mark_of (answer_in outs op))) marked
    ∙ or_mark-assoc a (mark_of (answer_in (x ∷ []) op)) (mark_of (answer_in outs op))
    ∙ ap (or_mark a) (sym (mark_of-or_else (answer_in (x ∷ []) op) (answer_in outs op)))
    ∙ ap (λ (o : Option Outcome). or_mark a (mark_of o)) (sym (answer_in-append (x ∷ []) outs op))

-- an entry more
pub mark-entry : (a b : Option Bool) (e : Entry) (before : List Entry) (op : OpId) → a ≡ mark_of (answer before op) → b ≡ or_mark a (mark_of (answer_in e.outputs op)) → b ≡ mark_of (answer (e ∷ before) op)
mark-entry a b e before op is marked =
    marked ∙ ap (λ (k : Option Bool). or_mark k (mark_of (answer_in e.outputs op))) is ∙ sym (mark_of-or_else (answer before op) (answer_in e.outputs op))

-- the mark of an answer is that of its outcome
pub marked_as : (b : Bool) (o : Outcome) → mark_of (cond b (Some o) None) ≡ cond b (mark_of (Some o)) None
marked_as true o = refl
marked_as false o = refl

is_marked-mark : (o : Option Outcome) → is_marked (mark_of o) ≡ is_done_outcome o
is_marked-mark None = refl
is_marked-mark (Some o) = refl

-- what is done by its mark is done
pub done-marked : (marks : Marks) (past : List Entry) → MarksAnswers marks past → (op : OpId) → is_done_by marks op ≡ is_done_outcome (answer past op)
done-marked marks past kept op = ap is_marked (kept op.0) ∙ is_marked-mark (answer past op)
