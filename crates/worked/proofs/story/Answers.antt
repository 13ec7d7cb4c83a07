use Rattle.worked.proofs.Told.{story_holds}
use Rattle.worked.proofs.story.Goals as goal

pub returns : goal.returns
returns c = story_holds
