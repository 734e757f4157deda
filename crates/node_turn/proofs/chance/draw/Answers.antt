use Rattle.std.proofs.Common.{ℕ, ◌%◌, ap, ◌∙◌}
use Rattle.rand_xoshiro.specs.SplitMix64.{mix_u64}
use Rattle.node_turn.specs.Chances.{drawn}
use Rattle.node_turn.proofs.chance.draw.Goals as goal

pub returns : goal.returns
unfolding Rattle.node_turn.specs.Chances.drawn
returns c = ap (λ (p : ℕ × ℕ). p.0 % 100) c.next_word.ensures ∙ ap (λ s. (mix_u64 s).0 % 100) c.seed_from_u64-drawing.ensures.same
