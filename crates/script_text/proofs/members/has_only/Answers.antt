use Rattle.std.proofs.Common.{◌∙◌}
use Rattle.script_text.proofs.LineLaws.{are_named-keys}
use Rattle.serde_json.proofs.Views.{view-Object}
use Rattle.script_text.proofs.members.has_only.Goals as goal

pub returns-in-Object : goal.returns-in-Object
returns-in-Object c = rw (c.in-Object.is, view-Object) (c.are_named.ensures ∙ are_named-keys c.args.names.now c.in-Object.members.entries)
