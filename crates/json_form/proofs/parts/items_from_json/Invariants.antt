use Rattle.std.proofs.Common.{◌≡◌, ◌++◌, drop, option_map}
use Rattle.serde_json.specs.View.{items_view}
use Rattle.json_base.specs.Parts.{read_items}
use Rattle.json_form.proofs.parts.items_from_json.Given as goal

abbrev pub invariant-loop-json : goal.invariant-loop-json
invariant-loop-json g l =
    option_map (λ others. l.items.items ++ others) (read_items g.T.JsonForm.form l.hashes (items_view (drop l.json-index l.list))) ≡ read_items g.T.JsonForm.form l.hashes (items_view l.list)
