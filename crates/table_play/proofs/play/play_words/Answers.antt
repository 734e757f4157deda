use Rattle.std.proofs.Common.{◌≡◌, ◌⊎◌, List, ℕ, true, map, sym, ◌∙◌, subst, inl, inr}
use Rattle.table_play.specs.Headline.{IsReading, Came, Ends, WantsOf, outcome_of, is_command}
use Rattle.table_play.proofs.play.play_words.Goals as goal

pub returns-in-Ok-clause-play : goal.returns-in-Ok-clause-play
returns-in-Ok-clause-play g c =
    let held = g.K.Sink.held c.args.sink.now in
    let held' = g.K.Sink.held c.play_text.new.sink in
    let writes = g.K.Sink.faults c.args.sink.now in
    let writes' = g.K.Sink.faults c.play_text.new.sink in
    let command : is_command (map (λ w. w.now) c.args.words.now) ≡ true = sym c.is_command.ensures ∙ c.if-not-is_command.false in
    let reading : IsReading (Came c.in-Ok.text.items) (g.S.Source.left c.args.source.now) (g.S.Source.left c.read_all.new.source) (g.S.Source.faults c.args.source.now) (g.S.Source.faults c.read_all.new.source) =
    (c.in-Ok.ensures.gives, c.in-Ok.ensures.end, c.in-Ok.ensures.within) in
    let ends : Ends (outcome_of (Came c.in-Ok.text.items)) c.play_text.result c.play_text.new.journal held held' writes writes' ⊎ WantsOf (Came c.in-Ok.text.items) c.play_text.result c.play_text.new.journal held held' =
    subst (λ (t : List ℕ). Ends (outcome_of (Came t)) c.play_text.result c.play_text.new.journal held held' writes writes' ⊎ WantsOf (Came t) c.play_text.result c.play_text.new.journal held held')
    c.as_slice.ensures.value c.play_text.ensures.ends in
    inr (inl (command, (Came c.in-Ok.text.items, reading, ends)))
