-- What executions answer as a step gives up an operation, or decides.
use Rattle.std.proofs.Common.{◌≡◌, ℕ, true, false, List, [], ◌∷◌, ◌++◌, Option, Some, None, inl, inr, refl}
use Rattle.std.proofs.lemmas.Bool.{cond_both}
use Rattle.node_moves.specs.list_laws.Members.{IsIn}
use Rattle.node_moves.specs.region_map.declared.id.Id.{Id}
use Rattle.node_moves.specs.register_laws.declared.operation.OpId.{OpId}
use Rattle.node_moves.specs.contract_types.declared.contract.Contract.{Contract}
use Rattle.node_moves.specs.exec_types.declared.outcome.Outcome.TheVariants.{Done, NoMajority}
use Rattle.node_moves.specs.exec_types.declared.output.Output.{Output}
use Rattle.node_moves.specs.exec_types.declared.output.Output.TheVariants.{Answer}
use Rattle.node_moves.specs.write_dispatch.declared.decided.Decided.{Decided}
use Rattle.node_moves.specs.write_dispatch.Dispatch.{Acks, are_majorities, counts_of, is_decided, pending_of}
use Rattle.node_moves.specs.primary_exec.Execution.{Execution, answers, decide_outs, decided_answers, decides, given_up, give_up_outs}
use Rattle.node_moves.specs.node_core.Parts.{give_up_all_outs, decide_all_outs}
use Rattle.node_moves.proofs.Lists.{AllSpoken, IsSpoken}
use Rattle.list_laws.proofs.All.{all_append}
use Rattle.list_laws.proofs.Members.{IsIn-append}

-- ---- what is decided

spoken_answers : (branch : Id) (d : Decided) (op : Option OpId) → AllSpoken (answers branch d op)
spoken_answers branch d None = tt
spoken_answers branch d (Some op) = (tt, tt)

spoken_decided : (x : Execution) (ds : List Decided) → AllSpoken (decided_answers x ds)
spoken_decided x [] = tt
spoken_decided x (d ∷ ds) =
    cond_both (decides x d) (answers x.branch d d.op ++ decided_answers x ds) [] AllSpoken
    (λ _. all_append IsSpoken (answers x.branch d d.op) (decided_answers x ds) (spoken_answers x.branch d d.op) (spoken_decided x ds)) (λ _. tt)

pub spoken_all_decided : (xs : List Execution) → AllSpoken (decide_all_outs xs)
spoken_all_decided [] = tt
spoken_all_decided (x ∷ xs) = all_append IsSpoken (decide_outs x) (decide_all_outs xs) (spoken_decided x x.dispatch.waiting) (spoken_all_decided xs)

-- an answer that an execution gives to something that waits there and is decided
pub record IsDecidedAt (x : Execution) (ds : List Decided) (out : Output) : Type 0 where
  pub d : Decided
  pub is_in : IsIn ds d
  pub counted : decides x d ≡ true
  pub op : OpId
  pub op_is : d.op ≡ Some op
  pub out_is : Answer op (Done d.reply x.branch d.at) ≡ out

answers_of : (x : Execution) (ds : List Decided) (d : Decided) (op : Option OpId) (out : Output) → d.op ≡ op → IsIn ds d → decides x d ≡ true → IsIn (answers x.branch d op) out → IsDecidedAt x ds out
answers_of x ds d None out same i counted j = absurd j
answers_of x ds d (Some op) out same i counted j =
    elim j [ inl e ↦ record { d = d; is_in = i; counted = counted; op = op; op_is = same; out_is = e } | inr none ↦ absurd none ]

decided_later : (x : Execution) (d : Decided) (ds : List Decided) (out : Output) → IsDecidedAt x ds out → IsDecidedAt x (d ∷ ds) out
decided_later x d ds out h = record { d = h.d; is_in = inr h.is_in; counted = h.counted; op = h.op; op_is = h.op_is; out_is = h.out_is }

decided_at : (x : Execution) (ds : List Decided) (out : Output) → IsIn (decided_answers x ds) out → IsDecidedAt x ds out
decided_at x [] out i = absurd i
decided_at x (d ∷ ds) out i =
    cond_both (decides x d) (answers x.branch d d.op ++ decided_answers x ds) [] (λ (l : List Output). IsIn l out → IsDecidedAt x (d ∷ ds) out)
    (λ counted j. elim (IsIn-append (answers x.branch d d.op) (decided_answers x ds) out j) [
      | inl here ↦ answers_of x (d ∷ ds) d d.op out refl (inl refl) counted here
      | inr later ↦ decided_later x d ds out (decided_at x ds out later)
    ])
    (λ _ j. absurd j) i

pub decided_by : (xs : List Execution) (out : Output) → IsIn (decide_all_outs xs) out → (x : Execution) × IsIn xs x × IsDecidedAt x x.dispatch.waiting out
decided_by [] out i = absurd i
decided_by (x ∷ xs) out i =
    elim (IsIn-append (decide_outs x) (decide_all_outs xs) out i) [
      | inl here ↦ (x, inl refl, decided_at x x.dispatch.waiting out here)
      | inr later ↦ let r = decided_by xs out later in (r.0, inr r.1, r.2)
    ]

-- ---- what is given up

spoken_given : (acks : Acks) (c : Contract) (me : ℕ) (op : OpId) (d : Option Decided) → AllSpoken (given_up acks c me op d)
spoken_given acks c me op None = tt
spoken_given acks c me op (Some d) =
    cond_both (is_decided acks c me d.at) [] (Answer op (NoMajority (counts_of acks c me d.at)) ∷ []) AllSpoken (λ _. tt) (λ _. (tt, tt))

pub spoken_give_up : (xs : List Execution) (op : OpId) → AllSpoken (give_up_all_outs xs op)
spoken_give_up [] op = tt
spoken_give_up (x ∷ xs) op =
    all_append IsSpoken (give_up_outs x op) (give_up_all_outs xs op) (spoken_given x.dispatch.acks x.contract x.me.0 op (pending_of x.dispatch.waiting op)) (spoken_give_up xs op)

-- the answer to an operation that is given up at an execution
pub record IsGivenUpAt (x : Execution) (op : OpId) (out : Output) : Type 0 where
  pub d : Decided
  pub pending : pending_of x.dispatch.waiting op ≡ Some d
  pub short : are_majorities (counts_of x.dispatch.acks x.contract x.me.0 d.at) ≡ false
  pub out_is : Answer op (NoMajority (counts_of x.dispatch.acks x.contract x.me.0 d.at)) ≡ out

given_at : (x : Execution) (op : OpId) (o : Option Decided) (out : Output) → pending_of x.dispatch.waiting op ≡ o → IsIn (given_up x.dispatch.acks x.contract x.me.0 op o) out → IsGivenUpAt x op out
given_at x op None out same i = absurd i
given_at x op (Some d) out same i =
    cond_both (is_decided x.dispatch.acks x.contract x.me.0 d.at) [] (Answer op (NoMajority (counts_of x.dispatch.acks x.contract x.me.0 d.at)) ∷ []) (λ (l : List Output). IsIn l out → IsGivenUpAt x op out)
    (λ _ j. absurd j)
    (λ short j. elim j [ inl e ↦ record { d = d; pending = same; short = short; out_is = e } | inr none ↦ absurd none ]) i

pub given_by : (xs : List Execution) (op : OpId) (out : Output) → IsIn (give_up_all_outs xs op) out → (x : Execution) × IsIn xs x × IsGivenUpAt x op out
given_by [] op out i = absurd i
given_by (x ∷ xs) op out i =
    elim (IsIn-append (give_up_outs x op) (give_up_all_outs xs op) out i) [
      | inl here ↦ (x, inl refl, given_at x op (pending_of x.dispatch.waiting op) out refl here)
      | inr later ↦ let r = given_by xs op out later in (r.0, inr r.1, r.2)
    ]
