use Rattle.std.proofs.Common.{◌≡◌, length, drop, arith, ap, ◌∙◌, sym}
use Rattle.backfill_stream.specs.Parts.{Stream}
use Rattle.backfill_stream.proofs.Places.{kept-drop, kept-front}
use Rattle.backfill_stream.proofs.numbered.Numbered.acked.Goals as goal

pub invariant_of-self : goal.invariant_of-self
invariant_of-self g c =
    let same : length c.unacked.result.now ≡ length (drop c.self.inside.front c.self.inside.parts.items) =
    ap length c.unacked.ensures.value ∙ sym (ap (λ (s : Stream g.row.P.Denot). length s.unacked) c.self.view_is) in
    rw c.drop_front.ensures (kept-front _ _ _ (kept-drop c.self.inside.next c.self.inside.front c.acked_count-count.result c.self.inside.parts.items c.self.invariant (omega (arith, same, c.acked_count-count.ensures.within))))

pub invariant_of-self-else-len-self : goal.invariant_of-self-else-len-self
invariant_of-self-else-len-self g c =
    let same : length c.unacked.result.now ≡ length (drop c.self.inside.front c.self.inside.parts.items) =
    ap length c.unacked.ensures.value ∙ sym (ap (λ (s : Stream g.row.P.Denot). length s.unacked) c.self.view_is) in
    kept-drop c.self.inside.next c.self.inside.front c.acked_count-count.result c.self.inside.parts.items c.self.invariant (omega (arith, same, c.acked_count-count.ensures.within))
