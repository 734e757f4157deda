-- Laws of the shards that a setup asks for.
use Rattle.std.proofs.Common.{◌≡◌, ℕ, Bool, true, false, not, ◌&&◌, List, [], ◌++◌, map, Result, Ok, Err, if◌then◌else◌, append_assoc, refl, sym, ap, ◌∙◌, subst}
use Rattle.std.specs.Prelude.{nat_lt}
use Rattle.std.specs.List.{list_all}
use Rattle.std.proofs.lemmas.Bool.{and_parts}
use Rattle.std.proofs.lemmas.List.Folds.{list_all-map}
use Rattle.region_map.specs.declared.id.NodeId.{NodeId}
use Rattle.region_map.specs.Nodes.{node_id}
use Rattle.contract_types.specs.declared.config.ConfigRefused.{ConfigRefused}
use Rattle.contract_types.specs.declared.config.ConfigRefused.TheVariants as config
use Rattle.script_text.specs.declared.status.Reason.{Reason}
use Rattle.script_text.specs.declared.status.Reason.TheVariants.{NoShards, Region, Replicas, Roles, Overlap, Gap}
use Rattle.contract_types.specs.Configs.{ConfigState, IsConfig, is_config, has_no_shards, has_bad_region, has_bad_replicas, has_bad_roles, has_regions, has_replicas, has_roles, Overlaps, HasGap}
use Rattle.contract_types.proofs.Begins.{regions_first}
use Rattle.contract_types.proofs.Shards.{config_decides}
use Rattle.contract_types.proofs.Everywhere.{apart_decides}
use Rattle.script_text.specs.Grammar.{needs, after_these, are_apart, broken_rule}
use Rattle.script_text.specs.LineReads.{IsRefusedAs, refusal}

-- the members of a set are below a number
pub all_below : (nodes : ℕ) (set : List ℕ) → list_all (λ (n : NodeId). nat_lt n.0 nodes) (map node_id set) ≡ list_all (λ n. nat_lt n nodes) set
all_below nodes set = list_all-map (λ (n : NodeId). nat_lt n.0 nodes) node_id set

pub after_nothing : {A : Type 0} (r : Result (List A) Reason) → after_these [] r ≡ r
after_nothing (Ok others) = refl
after_nothing (Err why) = refl

pub after_both : {A : Type 0} (first then' : List A) (r : Result (List A) Reason) → after_these first (after_these then' r) ≡ after_these (first ++ then') r
after_both first then' (Ok others) = rw append_assoc refl
after_both first then' (Err why) = refl

-- ---- rules of a configuration

-- what is said of shards that are tried as a configuration
abbrev pub tried : ConfigState → Result ConfigState Reason
tried x = needs (is_config x) (broken_rule x) (Ok x)

pub kept_config : (x c : ConfigState) → c ≡ x → IsConfig c → tried x ≡ Ok c
kept_config x c e ok = ap (λ b. needs b (broken_rule x) (Ok x)) ((config_decides x).1 (subst IsConfig e ok)) ∙ ap Ok (sym e)

refused : (x : ConfigState) (why : Reason) → (IsConfig x → ⊥) → broken_rule x ≡ why → tried x ≡ Err why
refused x why broken rule =
    elim (is_config x) as (λ b. is_config x ≡ b → needs b (broken_rule x) (Ok x) ≡ Err why) [
      | true ↦ λ e. absurd (broken ((config_decides x).0 e))
      | false ↦ λ e. ap Err rule
    ] refl

opposed : (p q : Bool) → (p && q) ≡ true → (p && not q) ≡ true → ⊥
opposed true true h g = cc
opposed true false h g = cc
opposed false q h g = cc

opposed_not : (p : Bool) → p ≡ true → not p ≡ true → ⊥
opposed_not true h g = cc
opposed_not false h g = cc

replicas : (x : ConfigState) → IsConfig x → has_replicas x.nodes x.hashes x.shards ≡ true
replicas x ok = (and_parts (has_replicas x.nodes x.hashes x.shards) (not (has_bad_roles x.shards)) ok.roles).0

-- the first rule that is broken, by the tests of each in turn
abbrev rule_of : Bool → Bool → Bool → Bool → Bool → Reason
rule_of none region replica role apart =
    if none then NoShards else if region then Region else if replica then Replicas else if role then Roles else if apart then Gap else Overlap

first_rule : (a b c d e : Bool) → a ≡ true → rule_of a b c d e ≡ NoShards
first_rule true b c d e h = refl
first_rule false b c d e h = cc

second_rule : (a b c d e : Bool) → (not a && b) ≡ true → rule_of a b c d e ≡ Region
second_rule true b c d e h = cc
second_rule false true c d e h = refl
second_rule false false c d e h = cc

third_rule : (a b c d e : Bool) → ((not a && not b) && c) ≡ true → rule_of a b c d e ≡ Replicas
third_rule true b c d e h = cc
third_rule false true c d e h = cc
third_rule false false true d e h = refl
third_rule false false false d e h = cc

fourth_rule : (a b c d e : Bool) → (((not a && not b) && not c) && d) ≡ true → rule_of a b c d e ≡ Roles
fourth_rule true b c d e h = cc
fourth_rule false true c d e h = cc
fourth_rule false false true d e h = cc
fourth_rule false false false true e h = refl
fourth_rule false false false false e h = cc

last_rule : (a b c d e : Bool) → (((not a && not b) && not c) && not d) ≡ true → rule_of a b c d e ≡ (if e then Gap else Overlap)
last_rule true b c d e h = cc
last_rule false true c d e h = cc
last_rule false false true d e h = cc
last_rule false false false true e h = cc
last_rule false false false false e h = refl

not_true : (b : Bool) → (not b ≡ true → ⊥) → b ≡ true
not_true true h = refl
not_true false h = absurd (h refl)

not_false : (b : Bool) → not b ≡ true → b ≡ false
not_false true h = cc
not_false false h = refl

overlap_rule : (x : ConfigState) → has_roles x.nodes x.hashes x.shards ≡ true → Overlaps x.shards → broken_rule x ≡ Overlap
unfolding are_apart
overlap_rule x roles over =
    let e : are_apart x.shards ≡ false = not_false (are_apart x.shards) ((apart_decides x.shards x.shards (are_apart x.shards) refl).1 over) in
    last_rule (has_no_shards x.shards) (has_bad_region x.hashes x.shards) (has_bad_replicas x.nodes x.shards) (has_bad_roles x.shards) (are_apart x.shards) roles ∙ ap (λ b. if b then Gap else Overlap) e

gap_rule : (x : ConfigState) → has_roles x.nodes x.hashes x.shards ≡ true → (Overlaps x.shards → ⊥) → broken_rule x ≡ Gap
unfolding are_apart
gap_rule x roles apart =
    let e : are_apart x.shards ≡ true = not_true (are_apart x.shards) (λ n. apart ((apart_decides x.shards x.shards (are_apart x.shards) refl).0 n)) in
    last_rule (has_no_shards x.shards) (has_bad_region x.hashes x.shards) (has_bad_replicas x.nodes x.shards) (has_bad_roles x.shards) (are_apart x.shards) roles ∙ ap (λ b. if b then Gap else Overlap) e

-- shards that are refused break a rule, and none before it
pub refused_config : (x : ConfigState) (e : ConfigRefused)
    → (e ≡ config.NoShards → has_no_shards x.shards ≡ true)
    → (e ≡ config.Region → (not (has_no_shards x.shards) && has_bad_region x.hashes x.shards) ≡ true)
    → (e ≡ config.Replicas → (has_regions x.hashes x.shards && has_bad_replicas x.nodes x.shards) ≡ true)
    → (e ≡ config.Roles → (has_replicas x.nodes x.hashes x.shards && has_bad_roles x.shards) ≡ true)
    → (e ≡ config.Overlap → (has_roles x.nodes x.hashes x.shards ≡ true) × Overlaps x.shards)
    → (e ≡ config.Gap → (has_roles x.nodes x.hashes x.shards ≡ true) × (¬ Overlaps x.shards) × HasGap x.hashes x.shards)
    → IsRefusedAs (refusal e) (tried x)
refused_config x config.NoShards a b c d o g = refused x NoShards (λ ok. opposed_not (has_no_shards x.shards) (a refl) (and_parts (not (has_no_shards x.shards)) (not (has_bad_region x.hashes x.shards)) (regions_first x ok)).0)
    (first_rule (has_no_shards x.shards) (has_bad_region x.hashes x.shards) (has_bad_replicas x.nodes x.shards) (has_bad_roles x.shards) (are_apart x.shards) (a refl))
refused_config x config.Region a b c d o g = refused x Region (λ ok. opposed (not (has_no_shards x.shards)) (has_bad_region x.hashes x.shards) (b refl) (regions_first x ok))
    (second_rule (has_no_shards x.shards) (has_bad_region x.hashes x.shards) (has_bad_replicas x.nodes x.shards) (has_bad_roles x.shards) (are_apart x.shards) (b refl))
refused_config x config.Replicas a b c d o g = refused x Replicas (λ ok. opposed (has_regions x.hashes x.shards) (has_bad_replicas x.nodes x.shards) (c refl) (replicas x ok))
    (third_rule (has_no_shards x.shards) (has_bad_region x.hashes x.shards) (has_bad_replicas x.nodes x.shards) (has_bad_roles x.shards) (are_apart x.shards) (c refl))
refused_config x config.Roles a b c d o g = refused x Roles (λ ok. opposed (has_replicas x.nodes x.hashes x.shards) (has_bad_roles x.shards) (d refl) ok.roles)
    (fourth_rule (has_no_shards x.shards) (has_bad_region x.hashes x.shards) (has_bad_replicas x.nodes x.shards) (has_bad_roles x.shards) (are_apart x.shards) (d refl))
refused_config x config.Overlap a b c d o g = let h = o refl in refused x Overlap (λ ok. ok.apart h.1) (overlap_rule x h.0 h.1)
refused_config x config.Gap a b c d o g = let h = g refl in refused x Gap (λ ok. ok.whole h.2) (gap_rule x h.0 h.1)
refused_config x config.OutOfMemory a b c d o g = tt
