use Rattle.answer_runs.proofs.Refusals.{answered_not_served, not_served_answered}
use Rattle.answer_runs.proofs.AnswerPoints.{done_took}
use Rattle.answer_runs.proofs.OnceGivenUp.{given_up_where}
use Rattle.world_core.proofs.path_runs.StoryOrder.{story_in_order}
use Rattle.table_play.proofs.Outcomes.{journal_run, journal_story, journal_once, journal_short}
use Rattle.table_play.proofs.play.play.Goals as goal

pub returns-clause-stories : goal.returns-clause-stories
returns-clause-stories g c = journal_story c.play_words.new.journal c.play_words.ensures.run

pub returns-clause-story_order : goal.returns-clause-story_order
returns-clause-story_order g c = λ setup key e. let r = journal_run c.play_words.new.journal c.play_words.ensures.run setup e in story_in_order setup r.0 c.play_words.new.journal.past r.1 key

pub returns-clause-done_points : goal.returns-clause-done_points
returns-clause-done_points g c = λ setup op reply branch timestamp e. let r = journal_run c.play_words.new.journal c.play_words.ensures.run setup e in done_took setup r.0 c.play_words.new.journal.past r.1 op reply branch timestamp

pub returns-clause-not_serving_only : goal.returns-clause-not_serving_only
returns-clause-not_serving_only g c = λ setup op e. let r = journal_run c.play_words.new.journal c.play_words.ensures.run setup e in answered_not_served setup r.0 c.play_words.new.journal.past r.1 op

pub returns-clause-not_serving_always : goal.returns-clause-not_serving_always
returns-clause-not_serving_always g c = λ setup op e. let r = journal_run c.play_words.new.journal c.play_words.ensures.run setup e in not_served_answered setup r.0 c.play_words.new.journal.past r.1 op

pub returns-clause-no_majority : goal.returns-clause-no_majority
returns-clause-no_majority g c = journal_short c.play_words.new.journal c.play_words.ensures.run

pub returns-clause-given_up : goal.returns-clause-given_up
returns-clause-given_up g c = λ setup op counts e a. let r = journal_run c.play_words.new.journal c.play_words.ensures.run setup e in given_up_where setup r.0 c.play_words.new.journal.past r.1 op counts a

pub returns-clause-answered_once : goal.returns-clause-answered_once
returns-clause-answered_once g c = journal_once c.play_words.new.journal c.play_words.ensures.run
