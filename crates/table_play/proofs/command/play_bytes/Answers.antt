use Rattle.std.proofs.Common.{◌≡◌, ◌∙◌, ap, map, option_map, subst, inl, ℕ, List, refl, false}
use Rattle.script_text.specs.declared.status.Status.TheVariants as status
use Rattle.table_play.specs.Headline.{Says, is_command}
use Rattle.table_play.proofs.Texts.{no_texts_no_command}
use Rattle.table_play.proofs.command.play_bytes.Goals as goal

pub returns-in-Ok-None-clause-play : goal.returns-in-Ok-None-clause-play
returns-in-Ok-None-clause-play g c =
    let no_command : is_command (map (λ word. word.items) c.args.words.now) ≡ false =
    no_texts_no_command (map (λ word. word.items) c.args.words.now) _ (ap (option_map (λ texts. map (λ text. text.now) texts.items)) c.in-Ok-None.field-0-is) c.in-Ok-None.ensures in
    inl (inl (
      no_command,
      refl,
      refl,
      record {
        journal_is = c.requires;
        says = subst (λ (line : List ℕ). Says status.Usage line c.say.result (g.K.Sink.held c.args.sink.now) (g.K.Sink.held c.say.new.sink) (g.K.Sink.faults c.args.sink.now) (g.K.Sink.faults c.say.new.sink))
            (c.as_bytes.ensures.value ∙ c.usage_line.ensures) c.say.ensures.says;
      },
    ))
