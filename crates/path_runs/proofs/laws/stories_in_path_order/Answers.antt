use Rattle.path_runs.proofs.StoryOrder.{story_in_order}
use Rattle.path_runs.proofs.laws.stories_in_path_order.Goals as goal

pub returns : goal.returns
returns c = story_in_order
