-- The branches with which a node begins, and those that it asks for as it comes up.
use Rattle.std.proofs.Common.{◌≡◌, ℕ, ◌+◌, ◌≤◌, ◌<◌, List, [], ◌∷◌, refl, sym, ap, ◌∙◌, arith}
use Rattle.std.proofs.lemmas.Bool.{cond_both, eqb-true}
use Rattle.std.specs.List.{AllByRecursion}
use Rattle.runs.specs.region_map.declared.id.Id.{Id}
use Rattle.runs.specs.region_map.declared.id.NodeId.{NodeId}
use Rattle.runs.specs.contract_types.declared.config.ShardConfig.{ShardConfig}
use Rattle.runs.specs.contract_types.declared.contract.Contract.{Contract}
use Rattle.runs.specs.contract_types.Setup.{SetupState}
use Rattle.runs.specs.contract_types.Tables.{setup_id, first_contract}
use Rattle.runs.specs.table_apply.Conditions.{is_held_by}
use Rattle.runs.specs.table_log.Logs.{table_of}
use Rattle.runs.specs.primary_exec.declared.asking.Asking.{Asking}
use Rattle.runs.specs.primary_exec.Execution.{Execution, setup_execution}
use Rattle.runs.specs.node_core.Step.{NodeState, is_led, executions_from, begin_node, id_in, askings_from, restart_row}
use Rattle.runs.specs.Story.{Point, IsIn}
use Rattle.step_runs.proofs.PointBranches.{times, times_other, times_one_more, heads_of, branches, asked_of, held, IsHeadOf, IsUnused, IsHeld}
use Rattle.step_runs.proofs.Setups.{setup_branch}

-- ---- with which a node begins

setup_heads : (n place : ℕ) (ss : List ShardConfig) → AllByRecursion (IsHeadOf n 1 []) (heads_of (executions_from n place ss))
setup_heads n place [] = tt
setup_heads n place (s ∷ ss) =
    let x : Execution = setup_execution (first_contract place s) s.primary place in
    let rest : List Execution = executions_from n (place + 1) ss in
    let is : x.branch ≡ setup_id place s.primary = setup_branch (first_contract place s) s.primary place in
    cond_both (is_led n s) (x ∷ rest) rest (λ (l : List Execution). AllByRecursion (IsHeadOf n 1 []) (heads_of l))
    (λ led. (
      record { node_is = ap (λ (b : Id). b.node.0) is ∙ eqb-true s.primary.0 n led; life_is = ap (λ (b : Id). b.life) is; above = λ p i. absurd i },
      setup_heads n (place + 1) ss,
    ))
    (λ _. setup_heads n (place + 1) ss)

-- earlier places are not among them
setup_none : (n place : ℕ) (ss : List ShardConfig) (b : Id) → b.counter < place → times (branches (heads_of (executions_from n place ss))) b ≡ 0
setup_none n place [] b before = refl
setup_none n place (s ∷ ss) b before =
    let x : Execution = setup_execution (first_contract place s) s.primary place in
    let rest : List Execution = executions_from n (place + 1) ss in
    let is : x.branch ≡ setup_id place s.primary = setup_branch (first_contract place s) s.primary place in
    let none = setup_none n (place + 1) ss b (omega (arith, before)) in
    cond_both (is_led n s) (x ∷ rest) rest (λ (l : List Execution). times (branches (heads_of l)) b ≡ 0)
    (λ _. times_other x.branch b (times (branches (heads_of rest)) b) (λ e.
    let c : place ≡ b.counter = ap (λ (i : Id). i.counter) (sym is ∙ e) in
    omega (arith, c, before)) ∙ none)
    (λ _. none)

setup_once : (n place : ℕ) (ss : List ShardConfig) (b : Id) → times (branches (heads_of (executions_from n place ss))) b ≤ 1
setup_once n place [] b = omega arith
setup_once n place (s ∷ ss) b =
    let x : Execution = setup_execution (first_contract place s) s.primary place in
    let rest : List Execution = executions_from n (place + 1) ss in
    let is : x.branch ≡ setup_id place s.primary = setup_branch (first_contract place s) s.primary place in
    let few = setup_once n (place + 1) ss b in
    cond_both (is_led n s) (x ∷ rest) rest (λ (l : List Execution). times (branches (heads_of l)) b ≤ 1)
    (λ _. times_one_more x.branch b (times (branches (heads_of rest)) b) few (λ e.
    let c : place ≡ b.counter = ap (λ (i : Id). i.counter) (sym is ∙ e) in
    setup_none n (place + 1) ss b (omega (arith, c))))
    (λ _. few)

pub begin_held : (setup : SetupState) (n : ℕ) → IsHeld n [] (held (begin_node setup n))
begin_held setup n =
    record {
      me_is = refl;
      heads_are = setup_heads n 0 setup.shards;
      asked_are = tt;
      once = λ b. let few = setup_once n 0 setup.shards b in omega (arith, few);
      lives = λ p i. absurd i;
    }

-- ---- for which it asks

askings_unused : (n life : ℕ) (ps : List Point) (me : NodeId) (next : ℕ) (cs : List Contract) → me.0 ≡ n → ((p : Point) → IsIn ps p → p.branch.node.0 ≡ n → p.branch.life < life)
    → AllByRecursion (IsUnused n life ps) (asked_of (askings_from me life next cs))
askings_unused n life ps me next [] is before = tt
askings_unused n life ps me next (c ∷ cs) is before =
    let a : Asking = record { contract = c; branch = id_in me life next } in
    cond_both (is_held_by c.primary me) (a ∷ askings_from me life (next + 1) cs) (askings_from me life next cs) (λ (l : List Asking). AllByRecursion (IsUnused n life ps) (asked_of l))
    (λ _. (
      record {
        node_is = is;
        life_is = refl;
        unused = λ p i e.
            let l = before p i (ap (λ (b : Id). b.node.0) e ∙ is) in
            let same : p.branch.life ≡ life = ap (λ (b : Id). b.life) e in
            omega (arith, l, same);
      },
      askings_unused n life ps me (next + 1) cs is before,
    ))
    (λ _. askings_unused n life ps me next cs is before)

-- earlier numbers are not among them
askings_none : (me : NodeId) (life next : ℕ) (cs : List Contract) (b : Id) → b.counter < next → times (asked_of (askings_from me life next cs)) b ≡ 0
askings_none me life next [] b before = refl
askings_none me life next (c ∷ cs) b before =
    let a : Asking = record { contract = c; branch = id_in me life next } in
    let rest : List Asking = askings_from me life (next + 1) cs in
    cond_both (is_held_by c.primary me) (a ∷ rest) (askings_from me life next cs) (λ (l : List Asking). times (asked_of l) b ≡ 0)
    (λ _. times_other (id_in me life next) b (times (asked_of rest) b) (λ e.
    let same : next ≡ b.counter = ap (λ (i : Id). i.counter) e in
    omega (arith, same, before)) ∙ askings_none me life (next + 1) cs b (omega (arith, before)))
    (λ _. askings_none me life next cs b before)

askings_once : (me : NodeId) (life next : ℕ) (cs : List Contract) (b : Id) → times (asked_of (askings_from me life next cs)) b ≤ 1
askings_once me life next [] b = omega arith
askings_once me life next (c ∷ cs) b =
    let a : Asking = record { contract = c; branch = id_in me life next } in
    let rest : List Asking = askings_from me life (next + 1) cs in
    cond_both (is_held_by c.primary me) (a ∷ rest) (askings_from me life next cs) (λ (l : List Asking). times (asked_of l) b ≤ 1)
    (λ _. times_one_more (id_in me life next) b (times (asked_of rest) b) (askings_once me life (next + 1) cs b) (λ e.
    let same : next ≡ b.counter = ap (λ (i : Id). i.counter) e in
    askings_none me life (next + 1) cs b (omega (arith, same))))
    (λ _. askings_once me life next cs b)

-- a node that comes up asks for branches of its new life
pub restart_held : (n : ℕ) (ps : List Point) (s : NodeState) → IsHeld n ps (held s) → IsHeld n ps (held (restart_row s).node)
restart_held n ps s k =
    let cs : List Contract = (table_of s.log).contracts in
    record {
      me_is = k.me_is;
      heads_are = tt;
      asked_are = askings_unused n (s.life + 1) ps s.me 0 cs k.me_is (λ p i e. let l = k.lives p i e in omega (arith, l));
      once = λ b. let few = askings_once s.me (s.life + 1) 0 cs b in omega (arith, few);
      lives = λ p i e. let l = k.lives p i e in omega (arith, l);
    }
