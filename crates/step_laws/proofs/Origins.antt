-- Each branch of a table begins at the greatest timestamp of its origin.
use Rattle.std.proofs.Common.{◌≡◌, ℕ, zero, suc, ◌+◌, ◌≤◌, nat_le, max, List, [], ◌∷◌, refl, subst, sym, ◌∙◌, inl, inr, ◌⊎◌, arith, true, false}
use Rattle.std.proofs.lemmas.Bool.Decides.{nat_tests}
use Rattle.std.specs.List.{AllByRecursion}
use Rattle.list_laws.specs.Members.{IsIn}
use Rattle.list_laws.proofs.Members.{all_member}
use Rattle.runs.specs.region_map.declared.id.Id.{Id}
use Rattle.runs.specs.region_map.declared.region.Region.{Region}
use Rattle.runs.specs.branch_history.declared.version.Version.{Version}
use Rattle.runs.specs.branch_history.declared.history.BranchBirth.{BranchBirth}
use Rattle.runs.specs.branch_history.Paths.{Branches}
use Rattle.runs.specs.contract_types.declared.change.Change.{Change}
use Rattle.runs.specs.contract_types.declared.config.ShardConfig.{ShardConfig}
use Rattle.runs.specs.contract_types.Configs.{ConfigState}
use Rattle.runs.specs.contract_types.Tables.{Table, first_id, first_birth, first_branches}
use Rattle.runs.specs.table_apply.Effects.{greatest}
use Rattle.runs.specs.table_apply.Runs.{change_at, table_at}
use Rattle.runs.proofs.table_apply.Steps.{table_after}
use Rattle.step_laws.specs.Begins.{IsGreatest}

abbrev IsGreatestOf : Id × BranchBirth → Type 0
IsGreatestOf b = IsGreatest b.1.initial b.1.origin.pieces

-- one piece before others
one_more : (p : Region × Version) (ps : List (Region × Version)) (n : ℕ) → IsGreatest n ps → IsGreatest (max p.1.timestamp n) (p ∷ ps)
one_more p ps n h =
    record {
      above = λ q i. elim i [
        | inl same ↦ subst (λ (v : Region × Version). v.1.timestamp ≤ max p.1.timestamp n) same (omega arith)
        | inr there ↦ let low = h.above q there in omega (arith, low)
      ];
      reached = reached_by (nat_le p.1.timestamp n) refl;
    }
  where
    reached_by : (b : _) → nat_le p.1.timestamp n ≡ b → ((max p.1.timestamp n ≡ 0) ⊎ ((q : Region × Version) × (IsIn (p ∷ ps) q) × (q.1.timestamp ≡ max p.1.timestamp n)))
    reached_by true e =
        let is : max p.1.timestamp n ≡ n = grind (arith, nat_tests) in
        elim h.reached [
          | inl none ↦ inl (is ∙ none)
          | inr r ↦ inr (r.0, inr r.1, r.2 ∙ sym is)
        ]
    reached_by false e =
        let is : max p.1.timestamp n ≡ p.1.timestamp = grind (arith, nat_tests) in
        inr (p, inl refl, sym is)

greatest_is : (ps : List (Region × Version)) → IsGreatest (greatest ps) ps
greatest_is [] = record { above = λ p i. absurd i; reached = inl refl }
greatest_is (p ∷ ps) = one_more p ps (greatest ps) (greatest_is ps)

first_are : (hashes place : ℕ) (shards : List ShardConfig) (older : Branches) → AllByRecursion IsGreatestOf older → AllByRecursion IsGreatestOf (first_branches hashes place shards older)
first_are hashes place [] older h = h
first_are hashes place (s ∷ ss) older h =
    first_are hashes (place + 1) ss ((first_id place s, first_birth hashes s) ∷ older)
    (record { above = λ p i. elim i [ inl same ↦ subst (λ (v : Region × Version). v.1.timestamp ≤ 0) same (omega arith) | inr none ↦ absurd none ]; reached = inl refl }, h)

all_are : (config : ConfigState) (changes : List Change) (w : ℕ) → AllByRecursion IsGreatestOf (table_at config changes w).history
all_are config changes zero = first_are config.hashes 0 config.shards [] tt
all_are config changes (suc w) =
    let before = all_are config changes w in
    table_after (λ (t : Table). AllByRecursion IsGreatestOf t.history) (table_at config changes w) (suc w) (change_at changes w) before
    (λ config is. before) (λ removed added is a. before) (λ branch region tenure maker based_on origin is j. (greatest_is origin.pieces, before))

pub begins_at_greatest : (config : ConfigState) (changes : List Change) (w : ℕ) (b : Id × BranchBirth) → IsIn (table_at config changes w).history b → IsGreatest b.1.initial b.1.origin.pieces
begins_at_greatest config changes w b i = all_member IsGreatestOf (table_at config changes w).history (all_are config changes w) b i
