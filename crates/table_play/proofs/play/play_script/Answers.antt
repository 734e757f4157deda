use Rattle.std.proofs.Common.{◌≡◌, ◌⊎◌, List, [], Some, None, sym, ap, ◌∙◌, subst, inr}
use Rattle.node_core.specs.Journal.{JournalState}
use Rattle.world_steps.specs.World.{WorldState}
use Rattle.script_text.specs.declared.status.Status.TheVariants as status
use Rattle.script_text.specs.Lines.{Accepted}
use Rattle.std.specs.List.{list_all}
use Rattle.register_laws.specs.declared.operation.OpId.{OpId}
use Rattle.report_text.specs.declared.ending.Refusal.{Refusal}
use Rattle.script_text.specs.Sound.{fits_table}
use Rattle.table_play.specs.Play.{Played, play_items, play_journal}
use Rattle.table_play.specs.Steps.{played_at, played_by, HasPartOf}
use Rattle.table_play.specs.Headline.{Ends, Wants, plays}
use Rattle.table_play.proofs.Outcomes.{script_ends, script_wants, Printed, journal_of}
use Rattle.table_play.proofs.play.play_script.Goals as goal

pub returns-clause-ends : goal.returns-clause-ends
returns-clause-ends g c =
    let script = c.args.script.now in
    let after = c.play_items-played.new.world in
    let down : List OpId = c.play_items-played.new.down.items in
    let refused : List Refusal = c.play_items-played.new.refused.items in
    let met = c.in-Ok-played.met in
    let start : c.in-Ok.world ≡ record { setup = script.setup; past = []; lost = []; ended = None } = c.in-Ok.ensures in
    let played : played_by after.past after.lost down refused met ≡ play_journal script.setup script.items =
    c.in-Ok-played.ensures.ok ∙ (λ i. play_items (start i).setup (played_at (start i) (c.new-down.ensures.items i) (c.new-refused.ensures.items i) None) (c.items.ensures i)) in
    let setup' : after.setup ≡ script.setup = c.play_items-played.ensures.setup ∙ ap (λ (w : WorldState). w.setup) start in
    let journal : c.into_journal.result ≡ journal_of script after.past =
    c.into_journal.ensures.value ∙ (λ i. record { setup = Some (setup' i); past = after.past }) in
    let told : Printed script (played_by c.into_journal.result.past after.lost down refused met) c.print.result (g.K.Sink.held c.args.sink.now) (g.K.Sink.held c.print.new.sink) (g.K.Sink.faults c.args.sink.now) (g.K.Sink.faults c.print.new.sink) =
    subst (λ (l : List OpId). Printed script (played_by c.into_journal.result.past after.lost l refused met) c.print.result (g.K.Sink.held c.args.sink.now) (g.K.Sink.held c.print.new.sink) (g.K.Sink.faults c.args.sink.now) (g.K.Sink.faults c.print.new.sink)) c.deref.ensures.value
    (subst (λ (l : List Refusal). Printed script (played_by c.into_journal.result.past after.lost c.deref.result.now l met) c.print.result (g.K.Sink.held c.args.sink.now) (g.K.Sink.held c.print.new.sink) (g.K.Sink.faults c.args.sink.now) (g.K.Sink.faults c.print.new.sink)) c.deref-in-Ok-played.ensures.value c.print.ensures) in
    let printed : Printed script (played_by after.past after.lost down refused met) c.print.result (g.K.Sink.held c.args.sink.now) (g.K.Sink.held c.print.new.sink) (g.K.Sink.faults c.args.sink.now) (g.K.Sink.faults c.print.new.sink) =
    subst (λ (j : JournalState). Printed script (played_by j.past after.lost down refused met) c.print.result (g.K.Sink.held c.args.sink.now) (g.K.Sink.held c.print.new.sink) (g.K.Sink.faults c.args.sink.now) (g.K.Sink.faults c.print.new.sink)) journal told in
    subst (λ (j : JournalState). Ends (plays script) c.print.result j (g.K.Sink.held c.args.sink.now) (g.K.Sink.held c.print.new.sink) (g.K.Sink.faults c.args.sink.now) (g.K.Sink.faults c.print.new.sink) ⊎ Wants (Accepted script) c.print.result j (g.K.Sink.held c.args.sink.now) (g.K.Sink.held c.print.new.sink)) (sym journal)
    (script_ends script after.past after.lost down refused met c.print.result (g.K.Sink.held c.args.sink.now) (g.K.Sink.held c.print.new.sink) (g.K.Sink.faults c.args.sink.now) (g.K.Sink.faults c.print.new.sink) played printed)

pub returns-in-Err-clause-ends : goal.returns-in-Err-clause-ends
returns-in-Err-clause-ends g c =
    let script = c.args.script.now in
    let after = c.play_items-played.new.world in
    let held = g.K.Sink.held c.args.sink.now in
    let faults = g.K.Sink.faults c.args.sink.now in
    let start : c.in-Ok.world ≡ record { setup = script.setup; past = []; lost = []; ended = None } = c.in-Ok.ensures in
    let part : HasPartOf after (play_journal script.setup script.items) =
    subst (λ (p : Played). HasPartOf after p) (λ i. play_items (start i).setup (played_at (start i) (c.new-down.ensures.items i) (c.new-refused.ensures.items i) None) (c.items.ensures i)) c.in-Err.ensures.err in
    let setup' : after.setup ≡ script.setup = c.play_items-played.ensures.setup ∙ ap (λ (w : WorldState). w.setup) start in
    let journal : c.into_journal.result ≡ journal_of script after.past =
    c.into_journal.ensures.value ∙ (λ i. record { setup = Some (setup' i); past = after.past }) in
    subst (λ (j : JournalState). Ends (plays script) status.OutOfMemory j held held faults faults ⊎ Wants (Accepted script) status.OutOfMemory j held held) (sym journal) (inr (script_wants script after.past held part))

pub play_items-played-requires-clause-fits : goal.play_items-played-requires-clause-fits
play_items-played-requires-clause-fits g c =
    let script = c.args.script.now in
    let start : c.in-Ok.world ≡ record { setup = script.setup; past = []; lost = []; ended = None } = c.in-Ok.ensures in
    (λ i. list_all (λ item. fits_table (start i).setup item.word) (c.items.ensures i)) ∙ c.requires.fits
