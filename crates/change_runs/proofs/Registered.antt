-- How branches came into a table: they are the first ones, or a change of the log registered them.
use Rattle.std.proofs.Common.{◌≡◌, ◌==◌, ◌⊎◌, ◌<◌, ℕ, zero, suc, true, false, cond, ◌&&◌, List, [], ◌∷◌, ◌++◌, Option, Some, None, inl, inr, refl, sym, ap, ◌∙◌, subst, arith, append_assoc}
use Rattle.std.proofs.lemmas.Bool.{and_parts, both_ways, eqb-true, false_from_ne_true}
use Rattle.log_runs.specs.runs.region_map.declared.id.Id.{Id}
use Rattle.log_runs.specs.runs.region_map.declared.id.NodeId.{NodeId}
use Rattle.log_runs.specs.runs.region_map.declared.region.Region.{Region}
use Rattle.log_runs.specs.runs.region_map.Regions.{in_region}
use Rattle.log_runs.specs.runs.region_map.Maps.{Pieced, value_at}
use Rattle.log_runs.specs.runs.region_map.Equal.{same_id}
use Rattle.log_runs.specs.runs.branch_history.declared.version.Version.{Version}
use Rattle.log_runs.specs.runs.branch_history.declared.history.BranchBirth.{BranchBirth}
use Rattle.log_runs.specs.runs.branch_history.Paths.{Branches}
use Rattle.log_runs.specs.runs.branch_history.Histories.{knows}
use Rattle.log_runs.specs.runs.contract_types.Setup.{SetupState, IsSetup}
use Rattle.log_runs.specs.runs.contract_types.declared.change.Change.{Change}
use Rattle.log_runs.specs.runs.contract_types.declared.change.Change.TheVariants.{RegisterBranch}
use Rattle.log_runs.specs.runs.contract_types.declared.contract.Contract.{Contract}
use Rattle.log_runs.specs.runs.contract_types.Tables.{Table, branch_at, setup as first_table}
use Rattle.log_runs.specs.runs.table_apply.Conditions.{is_held_by, same_regions, has_tenure, is_based_on}
use Rattle.log_runs.specs.runs.table_apply.Effects.{birth, applied_at}
use Rattle.log_runs.specs.runs.table_apply.Runs.{change_at, table_at, AreFounded}
use Rattle.log_runs.proofs.runs.table_apply.Based.{region_same}
use Rattle.log_runs.proofs.runs.branch_history.PathLaws.{id_same, id_self}
use Rattle.log_runs.proofs.runs.list_laws.Members.{IsIn-from_any}
use Rattle.log_runs.proofs.runs.table_apply.Meaning.{based_means}
use Rattle.log_runs.proofs.runs.table_apply.Steps.{table_after}
use Rattle.log_runs.proofs.runs.table_apply.Tables.{founded}
use Rattle.log_runs.specs.runs.table_log.Fitting.{fits}
use Rattle.log_runs.proofs.runs.table_log.Holding.{fits_is, hashes_at}
use Rattle.log_runs.specs.runs.Story.{IsIn}
use Rattle.change_runs.proofs.Asked.{upto, rest_of, Stale}

-- ---- lists

heads_same : {A : Type 0} (x y : A) (xs ys : List A) → x ∷ xs ≡ y ∷ ys → x ≡ y
heads_same x y xs ys e = cc

tails_same : {A : Type 0} (x y : A) (xs ys : List A) → x ∷ xs ≡ y ∷ ys → xs ≡ ys
tails_same x y xs ys e = cc

-- ---- what a change does to the history

-- a change registered a branch
record Grows (t : Table) (change : Change) (after : Branches) : Type 0 where
  branch : Id
  region : Region
  tenure : ℕ
  maker : NodeId
  based_on : Pieced Id
  origin : Pieced Version
  change_is : change ≡ RegisterBranch branch region tenure maker based_on origin
  history_is : after ≡ (branch, birth region tenure origin) ∷ t.history
  held : has_tenure t.contracts region tenure maker ≡ true
  based : is_based_on t.config.hashes t.history region based_on ≡ true

grows : (t : Table) (index : ℕ) (change : Change) → ((applied_at t index change).table.history ≡ t.history) ⊎ Grows t change (applied_at t index change).table.history
grows t index change =
    table_after (λ (u : Table). (u.history ≡ t.history) ⊎ Grows t change u.history) t index change (inl refl) (λ config is. inl refl) (λ removed added is a. inl refl)
    (λ branch region tenure maker based_on origin is j. inr (record {
      branch = branch;
      region = region;
      tenure = tenure;
      maker = maker;
      based_on = based_on;
      origin = origin;
      change_is = is;
      history_is = refl;
      held = j.held;
      based = j.based;
    }))

hashes_kept : (setup : SetupState) (changes : List Change) → ((i : ℕ) → fits setup.hashes (change_at changes i) ≡ true) → (w : ℕ) → (table_at setup changes w).config.hashes ≡ setup.hashes
hashes_kept setup changes fitting w = hashes_at setup changes w (λ i. fits_is setup.hashes (change_at changes i) (fitting i))

-- ---- what is known of a part of a history

knows_older : (first bs : Branches) (x : Id) → knows bs x ≡ true → knows (first ++ bs) x ≡ true
knows_older [] bs x e = e
knows_older (c ∷ cs) bs x e = elim (same_id c.0 x) as (λ v. cond v true (knows (cs ++ bs) x) ≡ true) [ true ↦ refl | false ↦ knows_older cs bs x e ]

unknown_older : (first bs : Branches) (x : Id) → knows (first ++ bs) x ≡ false → knows bs x ≡ false
unknown_older first bs x e = false_from_ne_true _ (λ f. both_ways (knows (first ++ bs) x) e (knows_older first bs x f))

founded_rest : (first bs : Branches) → AreFounded (first ++ bs) → AreFounded bs
founded_rest [] bs f = f
founded_rest (c ∷ cs) bs f = founded_rest cs bs f.2

knows_first : (now : Id) (birth : BranchBirth) (last : Branches) → knows ((now, birth) ∷ last) now ≡ true
knows_first now birth last = ap (λ v. cond v true (knows last now)) (id_self now)

upto_is : (newer : Branches) (now : Id) (birth : BranchBirth) (last : Branches) → AreFounded (newer ++ (now, birth) ∷ last)
    → upto (newer ++ (now, birth) ∷ last) now ≡ (now, birth) ∷ last
upto_is [] now birth last f = ap (λ v. cond v ((now, birth) ∷ last) (upto last now)) (id_self now)
upto_is (c ∷ cs) now birth last f =
    elim (same_id c.0 now) as (λ v. same_id c.0 now ≡ v → cond v (c ∷ (cs ++ (now, birth) ∷ last)) (upto (cs ++ (now, birth) ∷ last) now) ≡ (now, birth) ∷ last) [
      | true ↦ λ e. absurd (both_ways (knows (cs ++ (now, birth) ∷ last) c.0) f.0
          (ap (λ x. knows (cs ++ (now, birth) ∷ last) x) (id_same c.0 now e) ∙ knows_older cs ((now, birth) ∷ last) now (knows_first now birth last)))
      | false ↦ λ e. upto_is cs now birth last f.2
    ] refl

-- the current branch of a pair is not older than one that has the pair
current_unknown : (first last : Branches) (now : Id) (birth : BranchBirth) (h : ℕ) (k : List ℕ) (x : Id) → AreFounded (first ++ (now, birth) ∷ last) → in_region birth.region h k ≡ true
    → branch_at (first ++ (now, birth) ∷ last) h k ≡ Some x → knows last x ≡ false
current_unknown [] last now birth h k x f i e =
    let s : Some now ≡ Some x = sym (ap (λ v. cond v (Some now) (branch_at last h k)) i) ∙ e in
    let same : now ≡ x = cc in
    ap (λ y. knows last y) (sym same) ∙ f.0
current_unknown (c ∷ cs) last now birth h k x f i e =
    elim (in_region c.1.region h k) as (λ v. cond v (Some c.0) (branch_at (cs ++ (now, birth) ∷ last) h k) ≡ Some x → knows last x ≡ false) [
      | true ↦ λ s.
          let same : c.0 ≡ x = cc in
          ap (λ y. knows last y) (sym same) ∙ unknown_older (cs ++ (now, birth) ∷ []) last c.0
          (ap (λ bs. knows bs c.0) (append_assoc cs ((now, birth) ∷ []) last) ∙ f.0)
      | false ↦ λ s. current_unknown cs last now birth h k x f.2 i s
    ] e

-- ---- registered

-- the change of a log that registered a branch, and how the table then stood
pub record IsRegistered (setup : SetupState) (changes : List Change) (w : ℕ) (b : Id × BranchBirth) (older : Branches) : Type 0 where
  pub index : ℕ
  pub before : index < w
  pub tenure : ℕ
  pub maker : NodeId
  pub based_on : Pieced Id
  pub change_is : change_at changes index ≡ RegisterBranch b.0 b.1.region tenure maker based_on b.1.origin
  pub tenure_is : b.1.tenure ≡ tenure
  pub older_is : older ≡ (table_at setup changes index).history
  pub based : (h : ℕ) (k : List ℕ) → h < setup.hashes → in_region b.1.region h k ≡ true → value_at based_on.pieces h k ≡ branch_at older h k
  pub contract : Contract
  pub current : IsIn (table_at setup changes index).contracts contract
  pub region_is : contract.region ≡ b.1.region
  pub held : is_held_by contract.primary maker ≡ true
  pub of_tenure : contract.tenure ≡ tenure

-- one more change
later : (setup : SetupState) (changes : List Change) (w : ℕ) (b : Id × BranchBirth) (older : Branches) → IsRegistered setup changes w b older → IsRegistered setup changes (suc w) b older
later setup changes w b older r = record {
  index = r.index;
  before = let l = r.before in omega arith;
  tenure = r.tenure;
  maker = r.maker;
  based_on = r.based_on;
  change_is = r.change_is;
  tenure_is = r.tenure_is;
  older_is = r.older_is;
  based = r.based;
  contract = r.contract;
  current = r.current;
  region_is = r.region_is;
  held = r.held;
  of_tenure = r.of_tenure;
}

-- what a change that registers a branch was asked
made : (setup : SetupState) (changes : List Change) (w : ℕ) → (table_at setup changes w).config.hashes ≡ setup.hashes
    → (g : Grows (table_at setup changes w) (change_at changes w) (applied_at (table_at setup changes w) (suc w) (change_at changes w)).table.history)
    → IsRegistered setup changes (suc w) (g.branch, birth g.region g.tenure g.origin) (table_at setup changes w).history
made setup changes w hashes g =
    let t = table_at setup changes w in
    let found = IsIn-from_any (λ c. same_regions c.region g.region && ((c.tenure == g.tenure) && is_held_by c.primary g.maker)) t.contracts g.held in
    let both = and_parts (same_regions found.0.region g.region) ((found.0.tenure == g.tenure) && is_held_by found.0.primary g.maker) found.2 in
    let known = (based_means t.config.hashes t.history g.region g.based_on).0 g.based in
    record {
      index = w;
      before = omega arith;
      tenure = g.tenure;
      maker = g.maker;
      based_on = g.based_on;
      change_is = g.change_is;
      tenure_is = refl;
      older_is = refl;
      based = λ h k l i. known.1 h k (subst (λ n. h < n) (sym hashes) l) ∙ ap (λ v. cond v (branch_at t.history h k) None) i;
      contract = found.0;
      current = found.1;
      region_is = region_same found.0.region g.region both.0;
      held = (and_parts (found.0.tenure == g.tenure) (is_held_by found.0.primary g.maker) both.1).1;
      of_tenure = eqb-true found.0.tenure g.tenure (and_parts (found.0.tenure == g.tenure) (is_held_by found.0.primary g.maker) both.1).0;
    }

-- each branch of a table that follows from changes which fit
pub comes_from : (setup : SetupState) → IsSetup setup → (changes : List Change) → ((i : ℕ) → fits setup.hashes (change_at changes i) ≡ true) → (w : ℕ) (newer older : Branches) (b : Id × BranchBirth)
    → (table_at setup changes w).history ≡ newer ++ b ∷ older
    → ((rest : Branches) × ((first_table setup).history ≡ rest ++ b ∷ older)) ⊎ IsRegistered setup changes w b older
comes_from setup ok changes fitting zero newer older b is = inl (newer, is)
comes_from setup ok changes fitting (suc w) newer older b is =
    let t = table_at setup changes w in
    let before = λ (bs : Branches) (e : t.history ≡ bs ++ b ∷ older). comes_from setup ok changes fitting w bs older b e in
    elim (grows t (suc w) (change_at changes w)) [
      | inl same ↦ sooner (before newer (sym same ∙ is))
      | inr g ↦ started before newer g (sym g.history_is ∙ is)
    ]
  where
    sooner : (((rest : Branches) × ((first_table setup).history ≡ rest ++ b ∷ older)) ⊎ IsRegistered setup changes w b older)
        → ((rest : Branches) × ((first_table setup).history ≡ rest ++ b ∷ older)) ⊎ IsRegistered setup changes (suc w) b older
    sooner r = elim r [
      | inl f ↦ inl f
      | inr r ↦ inr (later setup changes w b older r)
    ]

    started : ((newer : Branches) → (table_at setup changes w).history ≡ newer ++ b ∷ older
        → ((rest : Branches) × ((first_table setup).history ≡ rest ++ b ∷ older)) ⊎ IsRegistered setup changes w b older)
        → (newer : Branches) → (g : Grows (table_at setup changes w) (change_at changes w) (applied_at (table_at setup changes w) (suc w) (change_at changes w)).table.history)
        → (g.branch, birth g.region g.tenure g.origin) ∷ (table_at setup changes w).history ≡ newer ++ b ∷ older
        → ((rest : Branches) × ((first_table setup).history ≡ rest ++ b ∷ older)) ⊎ IsRegistered setup changes (suc w) b older
    started before [] g e =
        let first = heads_same _ _ _ _ e in
        let tail = tails_same _ _ _ _ e in
        let R : Id × BranchBirth → Type 0 = λ x. IsRegistered setup changes (suc w) x older in
        let S : Branches → Type 0 = λ bs. IsRegistered setup changes (suc w) (g.branch, birth g.region g.tenure g.origin) bs in
        inr (subst R first (subst S tail (made setup changes w (hashes_kept setup changes fitting w) g)))
    started before (n ∷ ns) g e = sooner (before ns (tails_same _ _ _ _ e))

-- a branch that was registered after another one of the pair is not stale with that one: its change was based on the branch that was
-- current just before it
pub not_stale : (setup : SetupState) → IsSetup setup → (changes : List Change) → ((i : ℕ) → fits setup.hashes (change_at changes i) ≡ true) → (w : ℕ) (newer older : Branches) (b : Id × BranchBirth) (h : ℕ) (k : List ℕ)
    (now : Id) (birth : BranchBirth) (based : Option Id)
    → (table_at setup changes w).history ≡ newer ++ b ∷ older → in_region b.1.region h k ≡ true
    → (first : Branches) (last : Branches) → older ≡ first ++ (now, birth) ∷ last → in_region birth.region h k ≡ true
    → branch_at older h k ≡ based → Stale ((table_at setup changes w).history) now b.0 based → ⊥
not_stale setup ok changes fitting w newer older b h k now birth based is inside first last there inside' current stale =
    let whole : Branches = (table_at setup changes w).history in
    let below_b : Branches = first ++ (now, birth) ∷ last in
    let split : whole ≡ (newer ++ b ∷ first) ++ (now, birth) ∷ last =
    is ∙ ap (λ bs. newer ++ b ∷ bs) there ∙ sym (append_assoc newer (b ∷ first) ((now, birth) ∷ last)) in
    let all : AreFounded whole = founded setup changes w in
    let known : AreFounded (b ∷ below_b) = founded_rest newer (b ∷ below_b) (subst AreFounded (is ∙ ap (λ bs. newer ++ b ∷ bs) there) all) in
    let from_now : upto whole now ≡ (now, birth) ∷ last =
    ap (λ bs. upto bs now) split ∙ upto_is (newer ++ b ∷ first) now birth last (subst AreFounded split all) in
    elim stale [
      | inl e ↦
          both_ways (knows below_b b.0) known.0
          (knows_older first ((now, birth) ∷ last) b.0 (sym (ap (λ bs. knows bs b.0) from_now) ∙ e))
      | inr (x, is_x, e) ↦
          both_ways (knows last x)
          (current_unknown first last now birth h k x known.2 inside' (sym (ap (λ bs. branch_at bs h k) there) ∙ current ∙ is_x))
          (sym (ap (λ bs. knows (rest_of bs) x) from_now) ∙ e)
    ]
