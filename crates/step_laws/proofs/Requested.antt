-- What a step dispatches and refuses: what its request asks for, once.
use Rattle.std.proofs.Common.{◌≡◌, ℕ, ◌+◌, true, false, List, [], ◌∷◌, ◌++◌, map, filter, Option, Some, None, refl, ap, ◌∙◌, inl, inr, append-nil}
use Rattle.std.proofs.lemmas.Bool.{cond_both, both_ways}
use Rattle.list_laws.specs.Members.{IsIn}
use Rattle.runs.specs.region_map.declared.id.Id.{Id}
use Rattle.runs.specs.region_map.Maps.{Pieced}
use Rattle.runs.specs.branch_history.declared.version.Version.{Version}
use Rattle.runs.specs.register_laws.declared.operation.OpId.{OpId}
use Rattle.runs.specs.register_laws.declared.operation.Op.{Op}
use Rattle.runs.specs.contract_types.declared.contract.Contract.{Contract}
use Rattle.runs.specs.contract_types.declared.results.Viewed.{Viewed as Results}
use Rattle.runs.specs.exec_types.declared.input.Input.TheVariants.{Request}
use Rattle.runs.specs.exec_types.declared.message.Part.{Part}
use Rattle.runs.specs.exec_types.declared.outcome.Outcome.TheVariants.{Done, NotServing, NoMajority}
use Rattle.runs.specs.exec_types.declared.output.Output.{Output}
use Rattle.runs.specs.exec_types.declared.output.Output.TheVariants.{Message, Dispatched, Viewed, Answer}
use Rattle.runs.specs.store_api.Rows.{Rows, has_key, value_of}
use Rattle.runs.specs.table_log.Logs.{viewed}
use Rattle.runs.specs.write_dispatch.declared.decided.Decided.{Decided}
use Rattle.runs.specs.write_dispatch.Dispatch.{Acks, is_decided}
use Rattle.runs.specs.primary_exec.declared.session.Session.{Session}
use Rattle.runs.specs.primary_exec.Execution.{Execution, has_room, sends, part_of, dispatch_row, answers, answers_under, decide_outs}
use Rattle.runs.specs.node_core.declared.node.Brought.{Brought}
use Rattle.runs.specs.node_core.Parts.{Requested, is_for, dispatched, passed_on, request_all, decide_all_outs}
use Rattle.runs.specs.node_core.Step.{NodeState, Stepped, request_row, act_on, act, end_step, node_step}
use Rattle.step_laws.specs.Outs.{dispatched_in, refused_in}

-- what outputs dispatch and refuse
pub record Says (outs : List Output) (ops : List (OpId × List ℕ)) (refused : List OpId) : Type 0 where
  pub dispatches : dispatched_in outs ≡ ops
  pub refuses : refused_in outs ≡ refused

dispatched_in-append : (a b : List Output) → dispatched_in (a ++ b) ≡ dispatched_in a ++ dispatched_in b
dispatched_in-append [] b = refl
dispatched_in-append (Message to message ∷ a) b = dispatched_in-append a b
dispatched_in-append (Dispatched op key branch timestamp ∷ a) b = ap (λ (l : List (OpId × List ℕ)). (op, key) ∷ l) (dispatched_in-append a b)
dispatched_in-append (Viewed first results ∷ a) b = dispatched_in-append a b
dispatched_in-append (Answer op outcome ∷ a) b = dispatched_in-append a b

refused_in-append : (a b : List Output) → refused_in (a ++ b) ≡ refused_in a ++ refused_in b
refused_in-append [] b = refl
refused_in-append (Message to message ∷ a) b = refused_in-append a b
refused_in-append (Dispatched op key branch timestamp ∷ a) b = refused_in-append a b
refused_in-append (Viewed first results ∷ a) b = refused_in-append a b
refused_in-append (Answer op (Done reply branch timestamp) ∷ a) b = refused_in-append a b
refused_in-append (Answer op NotServing ∷ a) b = ap (λ (l : List OpId). op ∷ l) (refused_in-append a b)
refused_in-append (Answer op (NoMajority counts) ∷ a) b = refused_in-append a b

-- what says nothing, before and behind what says something
says_more : (a b : List Output) (ops : List (OpId × List ℕ)) (refused : List OpId) → Says a ops refused → Says b [] [] → Says (a ++ b) ops refused
says_more a b ops refused h none =
    record {
      dispatches = dispatched_in-append a b ∙ ap (λ (l : List (OpId × List ℕ)). dispatched_in a ++ l) none.dispatches ∙ append-nil (dispatched_in a) ∙ h.dispatches;
      refuses = refused_in-append a b ∙ ap (λ (l : List OpId). refused_in a ++ l) none.refuses ∙ append-nil (refused_in a) ∙ h.refuses;
    }

says_behind : (a b : List Output) (ops : List (OpId × List ℕ)) (refused : List OpId) → Says a [] [] → Says b ops refused → Says (a ++ b) ops refused
says_behind a b ops refused none h =
    record {
      dispatches = dispatched_in-append a b ∙ ap (λ (l : List (OpId × List ℕ)). l ++ dispatched_in b) none.dispatches ∙ h.dispatches;
      refuses = refused_in-append a b ∙ ap (λ (l : List OpId). l ++ refused_in b) none.refuses ∙ h.refuses;
    }

nothing : Says [] [] []
nothing = record { dispatches = refl; refuses = refl }

-- ---- what is done or viewed says nothing

sends_nothing : (part : Part) (ss : List Session) → Says (map (sends part) ss) [] []
sends_nothing part [] = nothing
sends_nothing part (s ∷ ss) = let rest = sends_nothing part ss in record { dispatches = rest.dispatches; refuses = rest.refuses }

answer_nothing : (branch : Id) (d : Decided) (op : Option OpId) → Says (answers branch d op) [] []
answer_nothing branch d None = nothing
answer_nothing branch d (Some op) = record { dispatches = refl; refuses = refl }

answers_nothing : (acks : Acks) (c : Contract) (me : ℕ) (branch : Id) (ds : List Decided) → Says (answers_under acks c me branch ds) [] []
answers_nothing acks c me branch [] = nothing
answers_nothing acks c me branch (d ∷ ds) =
    cond_both (is_decided acks c me d.at) (answers branch d d.op ++ answers_under acks c me branch ds) [] (λ (l : List Output). Says l [] [])
    (λ _. says_more (answers branch d d.op) (answers_under acks c me branch ds) [] [] (answer_nothing branch d d.op) (answers_nothing acks c me branch ds)) (λ _. nothing)

decide_nothing : (xs : List Execution) → Says (decide_all_outs xs) [] []
decide_nothing [] = nothing
decide_nothing (x ∷ xs) =
    says_more (decide_outs x) (decide_all_outs xs) [] [] (answers_nothing x.dispatch.acks x.contract x.me.0 x.branch x.dispatch.waiting) (decide_nothing xs)

act_nothing : (step : Stepped) (v : Option Results) (ops : List (OpId × List ℕ)) (refused : List OpId) → Says step.outs ops refused → Says (act_on step v).outs ops refused
act_nothing step None ops refused h = h
act_nothing step (Some v) ops refused h = says_more step.outs (Viewed v.first v.results ∷ []) ops refused h (record { dispatches = refl; refuses = refl })

end_nothing : (step : Stepped) (ops : List (OpId × List ℕ)) (refused : List OpId) → Says step.outs ops refused → Says (end_step step).outs ops refused
end_nothing step ops refused h =
    says_more (act step).outs (decide_all_outs (act step).node.executions) ops refused (act_nothing step (viewed step.node.log) ops refused h)
    (decide_nothing (act step).node.executions)

-- ---- a request

module _ (hashes : ℕ) (rows : Rows) (versions : Pieced Version) (op : OpId) (key : List ℕ) (what : Op) where
  dispatch_says : (x : Execution) → Says (dispatch_row x rows versions op key what).outs ((op, key) ∷ []) []
  dispatch_says x =
      let part : Part = part_of (value_of rows key) (x.last + 1) key what in
      says_behind (map (sends part) (filter has_room x.sessions)) (Dispatched op key x.branch (x.last + 1) ∷ []) ((op, key) ∷ []) []
      (sends_nothing part (filter has_room x.sessions)) (record { dispatches = refl; refuses = refl })

  served_says : (xs : List Execution) (x : Execution) → IsIn xs x → is_for hashes key x ≡ true → Says (request_all hashes xs rows versions op key what).outs ((op, key) ∷ []) []
  served_says [] x i for = absurd i
  served_says (y ∷ ys) x i for =
      cond_both (is_for hashes key y) (dispatched (dispatch_row y rows versions op key what) ys) (passed_on y (request_all hashes ys rows versions op key what))
      (λ (r : Requested). Says r.outs ((op, key) ∷ []) [])
      (λ _. dispatch_says y)
      (λ other. elim i [
        | inl same ↦ absurd (both_ways (is_for hashes key y) other (ap (is_for hashes key) same ∙ for))
        | inr there ↦ served_says ys x there for
      ])

  unserved_says : (xs : List Execution) → ((x : Execution) → IsIn xs x → is_for hashes key x ≡ false) → Says (request_all hashes xs rows versions op key what).outs [] (op ∷ [])
  unserved_says [] none = record { dispatches = refl; refuses = refl }
  unserved_says (y ∷ ys) none =
      cond_both (is_for hashes key y) (dispatched (dispatch_row y rows versions op key what) ys) (passed_on y (request_all hashes ys rows versions op key what))
      (λ (r : Requested). Says r.outs [] (op ∷ []))
      (λ here. absurd (both_ways (is_for hashes key y) (none y (inl refl)) here))
      (λ _. unserved_says ys (λ x i. none x (inr i)))

pub requested_dispatched : (s : NodeState) (op : OpId) (key : List ℕ) (what : Op) (brought : Option Brought) (x : Execution) → IsIn s.executions x → has_key x.contract.region s.setup.hashes key ≡ true
    → (dispatched_in (node_step s (Request op key what) brought).outs ≡ (op, key) ∷ []) × (refused_in (node_step s (Request op key what) brought).outs ≡ [])
requested_dispatched s op key what brought x i for =
    let says = end_nothing (request_row s op key what) ((op, key) ∷ []) [] (served_says s.setup.hashes s.rows s.versions op key what s.executions x i for) in
    (says.dispatches, says.refuses)

pub requested_refused : (s : NodeState) (op : OpId) (key : List ℕ) (what : Op) (brought : Option Brought) → ((x : Execution) → IsIn s.executions x → has_key x.contract.region s.setup.hashes key ≡ false)
    → (dispatched_in (node_step s (Request op key what) brought).outs ≡ []) × (refused_in (node_step s (Request op key what) brought).outs ≡ op ∷ [])
requested_refused s op key what brought none =
    let says = end_nothing (request_row s op key what) [] (op ∷ []) (unserved_says s.setup.hashes s.rows s.versions op key what s.executions none) in
    (says.dispatches, says.refuses)
