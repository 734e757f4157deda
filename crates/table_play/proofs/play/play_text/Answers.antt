use Rattle.std.proofs.Common.{ℕ, List, ◌≡◌, ◌∙◌, ◌⊎◌, sym, subst, inl}
use Rattle.script_text.specs.Lines.{ScriptRead, most_line_bytes, read_lines}
use Rattle.script_text.specs.LineReads.{IsScriptRefusedAs}
use Rattle.script_text.specs.declared.script_refused.ScriptRefused.{ScriptRefused}
use Rattle.script_text.specs.declared.script_refused.ScriptRefused.TheVariants as refused
use Rattle.contract_types.specs.declared.limits.Which.TheVariants.{LineBytes}
use Rattle.script_text.specs.declared.status.Status.TheVariants as status
use Rattle.table_play.specs.Headline.{Ends, Says, Wants, outcome_of_script}
use Rattle.table_play.proofs.play.play_text.Goals as goal

pub returns-in-Ok-clause-ends : goal.returns-in-Ok-clause-ends
returns-in-Ok-clause-ends g c =
    let held = g.K.Sink.held c.args.sink.now in
    let held' = g.K.Sink.held c.play_script.new.sink in
    let writes = g.K.Sink.faults c.args.sink.now in
    let writes' = g.K.Sink.faults c.play_script.new.sink in
    subst (λ (r : ScriptRead). Ends (outcome_of_script r) c.play_script.result c.play_script.new.journal held held' writes writes' ⊎ Wants r c.play_script.result c.play_script.new.journal held held')
    (sym c.in-Ok.ensures.ok) c.play_script.ensures.ends

-- the words of a script that was read fit its table
pub play_script-requires-clause-fits : goal.play_script-requires-clause-fits
play_script-requires-clause-fits g c = c.in-Ok.ensures.sound.fits

pub returns-in-Ok-limit_line-clause-ends : goal.returns-in-Ok-limit_line-clause-ends
returns-in-Ok-limit_line-clause-ends g c =
    let why : IsScriptRefusedAs refused.LineTooLong (read_lines c.args.text.now) =
    subst (λ (w : ScriptRefused). IsScriptRefusedAs w (read_lines c.args.text.now)) c.in-Err-LineTooLong.field-0-is c.in-Err-LineTooLong.ensures.refused in
    let result = c.say-in-Ok-limit_line.result in
    let held = g.K.Sink.held c.args.sink.now in
    let held' = g.K.Sink.held c.say-in-Ok-limit_line.new.sink in
    let writes = g.K.Sink.faults c.args.sink.now in
    let writes' = g.K.Sink.faults c.say-in-Ok-limit_line.new.sink in
    subst (λ (r : ScriptRead). Ends (outcome_of_script r) result c.args.journal.now held held' writes writes' ⊎ Wants r result c.args.journal.now held held')
    (sym why)
    (inl (record {
      journal_is = c.requires;
      says = subst (λ (text : List ℕ). Says (status.Limit LineBytes most_line_bytes) text result held held' writes writes')
          (c.as_bytes-in-Ok-limit_line.ensures ∙ c.in-Ok-limit_line.ensures) c.say-in-Ok-limit_line.ensures.says;
    }))
