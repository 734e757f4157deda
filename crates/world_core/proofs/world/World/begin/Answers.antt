-- The empty journal is a run, so its stories are register stories.
use Rattle.std.proofs.Common.{ℕ, List, [], sym, subst}
use Rattle.node_core.specs.Journal.{JournalState}
use Rattle.path_runs.specs.runs.Story.{IsRegisterStory, story}
use Rattle.path_runs.specs.runs.StoryOrder.{IsStoryInOrder}
use Rattle.path_runs.proofs.AllStories.{run_stories}
use Rattle.path_runs.proofs.StoryOrder.{story_in_order}
use Rattle.world_core.proofs.world.World.begin.Goals as goal

pub returns-clause-stories : goal.returns-clause-stories
returns-clause-stories c =
    subst (λ (j : JournalState). (key : List ℕ) → IsRegisterStory c.args.setup j.past key (story c.args.setup j.past key)) (sym c.begin-journal.ensures)
    (run_stories c.args.setup c.config-config.ensures.setup [] tt)

pub returns-clause-story_order : goal.returns-clause-story_order
returns-clause-story_order c =
    subst (λ (j : JournalState). (key : List ℕ) → IsStoryInOrder c.args.setup j.past key) (sym c.begin-journal.ensures)
    (story_in_order c.args.setup c.config-config.ensures.setup [] tt)
