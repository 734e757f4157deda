use Rattle.path_runs.proofs.AllStories.{run_stories}
use Rattle.path_runs.proofs.laws.stories_of_runs.Goals as goal

pub returns : goal.returns
returns c = run_stories
