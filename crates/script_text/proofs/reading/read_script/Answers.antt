use Rattle.std.proofs.Common.{arith}
use Rattle.std.proofs.lemmas.Grind.{common_steps}
use Rattle.script_text.proofs.SoundLaws.{accepted_sound}
use Rattle.script_text.proofs.reading.read_script.Goals as goal

pub returns-clause-sound : goal.returns-clause-sound
returns-clause-sound c = accepted_sound c.args.text.now c.into_script.result (grind (arith, common_steps))
