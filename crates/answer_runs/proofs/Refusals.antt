-- "Not serving" by the table of the node that was asked: it has an execution of a key exactly where it is to serve the key.
use Rattle.std.proofs.Common.{◌≡◌, ℕ, List, [], ◌∷◌, Some, sym, ◌∙◌, inl, inr}
use Rattle.path_runs.specs.runs.register_laws.declared.operation.OpId.{OpId}
use Rattle.path_runs.specs.runs.contract_types.Setup.{SetupState, IsSetup}
use Rattle.path_runs.specs.runs.exec_types.declared.input.Input.{Input}
use Rattle.path_runs.specs.runs.exec_types.declared.input.Input.TheVariants.{Request, GiveUp, See, Tick, Deliver, Crash, Restart}
use Rattle.path_runs.specs.runs.exec_types.declared.outcome.Outcome.TheVariants.{NotServing}
use Rattle.path_runs.specs.runs.node_core.declared.journal.Entry.{Entry}
use Rattle.path_runs.specs.runs.Run.{state, IsRun}
use Rattle.path_runs.specs.runs.Story.{answer}
use Rattle.path_runs.specs.runs.Served.{IsNotServedBy, IsNotServed}
use Rattle.path_runs.proofs.key_runs.Refused.{IsRefusedBy, IsRefused}
use Rattle.path_runs.proofs.key_runs.KeyedLaws.{answered_refused, refused_answered}
use Rattle.answer_runs.proofs.ServedLaws.{serves_exactly}

module _ (setup : SetupState) (ok : IsSetup setup) where
  refused_served : (past : List Entry) → IsRun setup past → (n : ℕ) (input : Input) (op : OpId) → IsRefusedBy (state setup n past) input op → IsNotServedBy (state setup n past) input op
  refused_served past run n (Request q key what) op h = (h.0, sym (serves_exactly setup ok past run n key) ∙ h.1)
  refused_served past run n (GiveUp q) op h = absurd h
  refused_served past run n (See other up) op h = absurd h
  refused_served past run n Tick op h = absurd h
  refused_served past run n (Deliver number) op h = absurd h
  refused_served past run n Crash op h = absurd h
  refused_served past run n Restart op h = absurd h

  served_refused : (past : List Entry) → IsRun setup past → (n : ℕ) (input : Input) (op : OpId) → IsNotServedBy (state setup n past) input op → IsRefusedBy (state setup n past) input op
  served_refused past run n (Request q key what) op h = (h.0, serves_exactly setup ok past run n key ∙ h.1)
  served_refused past run n (GiveUp q) op h = absurd h
  served_refused past run n (See other up) op h = absurd h
  served_refused past run n Tick op h = absurd h
  served_refused past run n (Deliver number) op h = absurd h
  served_refused past run n Crash op h = absurd h
  served_refused past run n Restart op h = absurd h

  refused_not_served : (past : List Entry) → IsRun setup past → (op : OpId) → IsRefused setup past op → IsNotServed setup past op
  refused_not_served [] run op h = absurd h
  refused_not_served (e ∷ past) run op h =
      elim h [
        | inl now ↦ inl (refused_served past run.1 e.node.0 e.input op now)
        | inr earlier ↦ inr (refused_not_served past run.1 op earlier)
      ]

  not_served_refused : (past : List Entry) → IsRun setup past → (op : OpId) → IsNotServed setup past op → IsRefused setup past op
  not_served_refused [] run op h = absurd h
  not_served_refused (e ∷ past) run op h =
      elim h [
        | inl now ↦ inl (served_refused past run.1 e.node.0 e.input op now)
        | inr earlier ↦ inr (not_served_refused past run.1 op earlier)
      ]

-- "not serving" is answered exactly where the node was not to serve the key as it took the request
pub answered_not_served : (setup : SetupState) → IsSetup setup → (past : List Entry) → IsRun setup past → (op : OpId) → answer past op ≡ Some NotServing → IsNotServed setup past op
answered_not_served setup ok past run op is = refused_not_served setup ok past run op (answered_refused setup ok past run op is)

pub not_served_answered : (setup : SetupState) → IsSetup setup → (past : List Entry) → IsRun setup past → (op : OpId) → IsNotServed setup past op → answer past op ≡ Some NotServing
not_served_answered setup ok past run op h = refused_answered setup ok past run op (not_served_refused setup ok past run op h)
