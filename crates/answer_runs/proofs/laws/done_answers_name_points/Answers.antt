use Rattle.answer_runs.proofs.AnswerPoints.{done_took}
use Rattle.answer_runs.proofs.laws.done_answers_name_points.Goals as goal

pub returns : goal.returns
returns c = done_took
