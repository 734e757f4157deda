-- The texts of stories, gathered by key.
use Rattle.std.specs.Prelude.{ℕ, codes, ◌&&◌, List, [], ◌∷◌, ◌++◌, Option, Some, None, if◌then◌else◌}
use Rattle.std.specs.Fmt.{decimal}
use Rattle.std.specs.Ordering.{nat_cmp}
use Rattle.std.specs.Cmp.Lexicographic.{slice_cmp}
use Rattle.std.specs.BTreeMap.{BTreeMap, get}
use Rattle.contract_types.specs.Tables.{Table}
use Rattle.node_core.specs.declared.journal.Entry.{Entry}
use Rattle.journal_story.specs.runs.Story.{Point, is_on_path, is_shown_point}
use Rattle.report_text.specs.Report.{ended, bytes_text}

-- texts by key
abbrev pub Texts : Type 0
Texts = BTreeMap (List ℕ) (List ℕ)

abbrev pub text_or_none : Option (List ℕ) → List ℕ
text_or_none None = []
text_or_none (Some text) = text

abbrev pub text_at : Texts → List ℕ → List ℕ
text_at texts key = text_or_none (get (slice_cmp nat_cmp) texts key)

-- a space and the number of an operation
abbrev pub told_op : ℕ → List ℕ
told_op n = codes " " ++ decimal n

-- what a point adds to the story of a key, by the branches of a table
abbrev pub point_text : Table → List Entry → List ℕ → Point → List ℕ
point_text t past key p = if is_on_path t.config t key p && is_shown_point past p then told_op p.op.0 else []

abbrev pub points_text : Table → List Entry → List ℕ → List Point → List ℕ
points_text t past key [] = []
points_text t past key (p ∷ ps) = point_text t past key p ++ points_text t past key ps

-- the line of a key with this text of its story
abbrev pub line_with : List ℕ → List ℕ → List ℕ
line_with key told = ended (codes "story " ++ bytes_text key ++ told)

abbrev pub line_by : Texts → List ℕ → List ℕ
line_by texts key = line_with key (text_at texts key)
