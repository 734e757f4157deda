-- The members that are left of an object that is read one after another.
use Rattle.serde_json.specs.Data.{Members}
use Rattle.serde_json.specs.View.{members_view}
use Rattle.json_base.specs.declared.fields.Fields.{Fields}

abbrev pub left : Fields → Members
left f = members_view f.members
