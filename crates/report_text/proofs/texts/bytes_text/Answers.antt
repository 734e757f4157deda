use Rattle.std.proofs.Common.{sym, ap, ◌∙◌}
use Rattle.serde_json.specs.Data.{string}
use Rattle.serde_json.specs.Written.{compact_text}
use Rattle.report_text.proofs.Utf8.{bytes_text-utf8, bytes_text-other}
use Rattle.report_text.proofs.texts.bytes_text.Goals as goal

pub returns-in_default : goal.returns-in_default
returns-in_default c = c.in_ok-from_str.ensures.ok ∙ sym (bytes_text-other c.args.bytes.now c.in_default.ensures.cases.0)

pub returns : goal.returns
returns c = c.in_ok-written.ensures ∙ ap (λ b. compact_text (string b)) c.in-Ok.ensures.cases.0 ∙ sym (bytes_text-utf8 c.args.bytes.now c.in-Ok.ensures.cases.1)
