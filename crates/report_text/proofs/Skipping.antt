-- Laws of the lines of skipped changes.
use Rattle.std.proofs.Common.{◌≡◌, ℕ, ◌+◌, List, [], ◌∷◌, ◌++◌, refl, ap, sym, ◌∙◌, append_assoc}
use Rattle.contract_types.specs.declared.change.Change.{Change}
use Rattle.contract_types.specs.declared.applied.Applied.{Applied}
use Rattle.contract_types.specs.declared.applied.Applied.TheVariants.{Taken, Skipped}
use Rattle.report_text.specs.Report.{with_skipped, skipped_lines}

with_skipped-nil : (index : ℕ) (applied : Applied) (rest : List (List ℕ)) → with_skipped index applied rest ≡ with_skipped index applied [] ++ rest
with_skipped-nil index Taken rest = refl
with_skipped-nil index (Skipped condition) rest = refl

-- one change more
pub skip-more : (index : ℕ) (r : Change × Applied) (rs : List (Change × Applied)) (a b : List (List ℕ)) → b ≡ a ++ with_skipped index r.1 []
    → b ++ skipped_lines (index + 1) rs ≡ a ++ skipped_lines index (r ∷ rs)
skip-more index r rs a b added =
    ap (λ front. front ++ skipped_lines (index + 1) rs) added
    ∙ append_assoc a (with_skipped index r.1 []) (skipped_lines (index + 1) rs)
    ∙ ap (λ back. a ++ back) (sym (with_skipped-nil index r.1 (skipped_lines (index + 1) rs)))
