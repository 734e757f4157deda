-- The timestamps of one branch rise, in every run.
use Rattle.std.proofs.Common.{ℕ, ◌==◌, List, [], ◌∷◌, ◌++◌, Option, refl, sym, ◌∙◌, subst}
use Rattle.std.proofs.lemmas.Bool.{cond_both, eqb-true, eq-eqb, false≢true}
use Rattle.std.specs.List.{AllByRecursion}
use Rattle.runs.specs.contract_types.Setup.{SetupState, IsSetup}
use Rattle.runs.specs.exec_types.declared.output.Output.{Output}
use Rattle.runs.specs.node_core.declared.node.Brought.{Brought}
use Rattle.runs.specs.node_core.declared.journal.Entry.{Entry}
use Rattle.runs.specs.node_core.Step.{NodeState, node_step}
use Rattle.runs.specs.Run.{brought, state, IsStep, IsRun}
use Rattle.runs.specs.Story.{Point, IsIn, points_of, points}
use Rattle.runs.specs.Rising.{AreRising, IsOfLife}
use Rattle.step_runs.proofs.PointBranches.{all_at, all_from, rising_append, heads_of, held, IsHeld, IsNext, held_other}
use Rattle.step_runs.proofs.PointBegins.{begin_held}
use Rattle.step_runs.proofs.PointSteps.{StepTakes, step_takes}

-- what an entry takes, and what its node then keeps
entry_takes : (setup : SetupState) (past : List Entry) (e : Entry) → IsStep setup past e → IsHeld e.node.0 (points past) (held (state setup e.node.0 past))
    → StepTakes e.node.0 (state setup e.node.0 past).life (points past) (points_of e.input e.outputs) (heads_of (state setup e.node.0 past).executions)
    (held (node_step (state setup e.node.0 past) e.input (brought past e.input)).node)
entry_takes setup past e h k =
    let s : NodeState = state setup e.node.0 past in
    let b : Option Brought = brought past e.input in
    subst (λ (l : List Output). StepTakes e.node.0 s.life (points past) (points_of e.input l) (heads_of s.executions) (held (node_step s e.input b).node)) (sym h.outputs)
    (step_takes e.node.0 (points past) s e.input b k)

pub points_rise : (setup : SetupState) (past : List Entry) → IsRun setup past → AreRising (points past) × ((n : ℕ) → IsHeld n (points past) (held (state setup n past)))
points_rise setup [] h = (tt, begin_held setup)
points_rise setup (e ∷ past) h =
    let r = points_rise setup past h.1 in
    let s : NodeState = state setup e.node.0 past in
    let qs : List Point = points_of e.input e.outputs in
    let t = entry_takes setup past e h.0 (r.1 e.node.0) in
    let next : (q : Point) → IsIn qs q → IsNext e.node.0 s.life (points past) (heads_of s.executions) q =
    all_at (IsNext e.node.0 s.life (points past) (heads_of s.executions)) qs t.next in (
      rising_append (points past) qs r.0 t.rising (λ p q i j same. (next q j).above p i same),
      λ n.
          cond_both (e.node.0 == n) (node_step (state setup n past) e.input (brought past e.input)).node (state setup n past) (λ (v : NodeState). IsHeld n (points past ++ qs) (held v))
          (λ same. subst (λ (k : ℕ). IsHeld k (points past ++ qs) (held (node_step (state setup k past) e.input (brought past e.input)).node)) (eqb-true e.node.0 n same) t.now)
          (λ other. held_other n (points past) qs (held (state setup n past)) (r.1 n) (λ q i is.
          false≢true (sym other ∙ eq-eqb e.node.0 n (sym (next q i).node_is ∙ is)))),
    )

pub rise : (setup : SetupState) → IsSetup setup → (past : List Entry) → IsRun setup past → AreRising (points past)
rise setup ok past h = (points_rise setup past h).0

pub lives : (setup : SetupState) → IsSetup setup → (past : List Entry) → IsRun setup past → AllByRecursion (IsOfLife setup past) (points past)
lives setup ok past h = all_from (IsOfLife setup past) (points past) (λ p i. ((points_rise setup past h).1 p.branch.node.0).lives p i refl)
