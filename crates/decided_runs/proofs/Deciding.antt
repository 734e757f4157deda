-- In every run, what is answered as done was decided in the step that answers it: its maker stood at it, and more than half of the voters did.
use Rattle.std.proofs.Common.{◌≡◌, ℕ, cond, List, [], ◌∷◌, Option, Some, None, refl, sym, ap, ◌∙◌, subst}
use Rattle.std.proofs.lemmas.Bool.{eq-eqb}
use Rattle.std.specs.List.{AllByRecursion}
use Rattle.row_runs.specs.runs.region_map.declared.id.Id.{Id}
use Rattle.row_runs.specs.runs.register_laws.declared.operation.OpId.{OpId}
use Rattle.row_runs.specs.runs.register_laws.declared.operation.Reply.{Reply}
use Rattle.row_runs.specs.runs.contract_types.Setup.{SetupState, IsSetup}
use Rattle.row_runs.specs.runs.exec_types.declared.outcome.Outcome.{Outcome}
use Rattle.row_runs.specs.runs.exec_types.declared.outcome.Outcome.TheVariants.{Done}
use Rattle.row_runs.specs.runs.exec_types.declared.output.Output.{Output}
use Rattle.row_runs.specs.runs.node_core.declared.journal.Entry.{Entry}
use Rattle.row_runs.specs.runs.node_core.Step.{NodeState, Stepped, input_row, act, end_step}
use Rattle.row_runs.specs.runs.Committed.{IsEarlier}
use Rattle.row_runs.specs.runs.Run.{brought, state, IsRun}
use Rattle.row_runs.specs.runs.Story.{IsIn, answer_in, or_else, answer}
use Rattle.row_runs.proofs.lead_runs.LedRoles.{IsLed, Roles, ends_kept}
use Rattle.row_runs.proofs.lead_runs.LedRows.{Lead, kept, lead_of, leads_of}
use Rattle.row_runs.proofs.lead_runs.LedRuns.{run_roles}
use Rattle.row_runs.proofs.lead_runs.LedShards.{leads_in}
use Rattle.row_runs.proofs.log_runs.LogWorldRuns.{moving}
use Rattle.row_runs.proofs.step_runs.PointBranches.{all_at, all_from}
use Rattle.durability_laws.proofs.Backing.{WaitsIn, Backed}
use Rattle.durability_laws.proofs.HeldRuns.{HasPoint, DoneHeld, decides_held, acted, run_held, answer_done}
use Rattle.durability_laws.proofs.Reached.{Reaches}
use Rattle.durability_laws.proofs.Telling.{OutIn, Decides, step_tell}

-- at a moment a node writes a branch at which an operation is pending, and the operation is done by the counts of then
pub record Deciding (setup : SetupState) (m : List Entry) (n : ℕ) (op : OpId) (branch : Id) (at : ℕ) : Type 0 where
  pub held : DoneHeld setup m op branch at
  pub lead : Lead
  pub is_in : IsIn (kept (state setup n m)).leads lead
  pub branch_is : lead.branch ≡ branch
  pub waits : HasPoint setup m lead.contract.region op at

module _ (setup : SetupState) (ok : IsSetup setup) (past : List Entry) (e : Entry) (run : IsRun setup (e ∷ past)) where
  abbrev n : ℕ
  n = e.node.0

  abbrev s : NodeState
  s = state setup n past

  abbrev more : List Entry
  more = e ∷ past

  abbrev step : Stepped
  step = input_row s e.input (brought past e.input)

  abbrev D : OpId → Id → ℕ → Type 0
  D = Deciding setup (e ∷ past) e.node.0

  here : state setup n more ≡ (end_step step).node
  here = ap (λ b. cond b (moving setup past e n) s) (eq-eqb n n refl)

  deciding : AllByRecursion (Decides D) (act step).node.executions
  deciding =
      let roles = (run_roles setup ok more run n).roles in
      let same : kept (state setup n more) ≡ kept (act step).node = ap kept here ∙ ends_kept step in
      let all : Roles setup n (kept (act step).node) = subst (Roles setup n) same roles in
      let backed = acted setup ok past e run (run_held setup ok past run.1) in
      all_from (Decides D) (act step).node.executions (λ x i.
      let k : Backed setup.hashes n (Reaches setup more) (HasPoint setup more) x = all_at (Backed setup.hashes n (Reaches setup more) (HasPoint setup more)) (act step).node.executions backed x i in
      let lead_in : IsIn (kept (act step).node).leads (lead_of x) = leads_in (act step).node.executions x i in
      λ d j is op op_is. record {
        held = decides_held setup ok more n (kept (act step).node).life x (all_at (IsLed setup n (kept (act step).node).life) (leads_of (act step).node.executions) all.leads (lead_of x) lead_in) k d j is op op_is;
        lead = lead_of x;
        is_in = subst (λ ls. IsIn ls (lead_of x)) (sym (ap (λ t. t.leads) same)) lead_in;
        branch_is = refl;
        waits = (all_at (WaitsIn (HasPoint setup more) x.contract.region) x.dispatch.waiting k.waits d j).of op op_is;
      })

  tells : AllByRecursion (OutIn (state setup n more).followings D) e.outputs
  tells =
      subst (λ (outs : List Output). AllByRecursion (OutIn (state setup n more).followings D) outs) (sym run.0.outputs)
      (subst (λ (t : NodeState). AllByRecursion (OutIn t.followings D) (end_step step).outs) (sym here) (step_tell D s e.input (brought past e.input) deciding))

  pub answers : (op : OpId) (reply : Reply) (branch : Id) (at : ℕ) → answer_in e.outputs op ≡ Some (Done reply branch at) → Deciding setup (e ∷ past) e.node.0 op branch at
  answers op reply branch at is = answer_done (state setup n more).followings D e.outputs op reply branch at tells is

-- the moment at which it was answered
pub record Answered (setup : SetupState) (past : List Entry) (op : OpId) (branch : Id) (at : ℕ) : Type 0 where
  pub moment : List Entry
  pub earlier : IsEarlier past moment
  pub node : ℕ
  pub deciding : Deciding setup moment node op branch at

pub answered : (setup : SetupState) → IsSetup setup → (past : List Entry) → IsRun setup past → (op : OpId) (reply : Reply) (branch : Id) (at : ℕ) → answer past op ≡ Some (Done reply branch at) → Answered setup past op branch at
answered setup ok [] run op reply branch at is = absurd (cc is)
answered setup ok (e ∷ past) run op reply branch at is = by (answer past op) refl is (λ old. answered setup ok past run.1 op reply branch at old)
  where
    by : (o : Option Outcome) → answer past op ≡ o → or_else o (answer_in e.outputs op) ≡ Some (Done reply branch at) → (answer past op ≡ Some (Done reply branch at) → Answered setup past op branch at)
        → Answered setup (e ∷ past) op branch at
    by None none f before = record { moment = e ∷ past; earlier = record { later = []; is = refl }; node = e.node.0; deciding = answers setup ok past e run op reply branch at f }
    by (Some outcome) old f before =
        let a = before (old ∙ f) in
        record { moment = a.moment; earlier = record { later = e ∷ a.earlier.later; is = ap (λ (l : List Entry). e ∷ l) a.earlier.is }; node = a.node; deciding = a.deciding }
