use Rattle.std.proofs.Common.{◌≡◌, ◌<◌, length, drop, arith, sym, ap, ◌∙◌}
use Rattle.std.proofs.lemmas.Bool.{leb-false}
use Rattle.backfill_stream.specs.Parts.{Stream}
use Rattle.backfill_stream.proofs.Places.{kept-push}
use Rattle.backfill_stream.proofs.numbered.Numbered.send.Goals as goal

pub invariant_of-self-2 : goal.invariant_of-self-2
invariant_of-self-2 g c =
    let room : length c.args.self.now.unacked < 1024 = leb-false 1024 _ (sym c.is_full.ensures ∙ c.if-is_full.false) in
    let same : length (drop c.self.inside.front c.self.inside.parts.items) ≡ length c.args.self.now.unacked = ap (λ (s : Stream g.row.P.Denot). length s.unacked) c.self.view_is in
    rw c.in_ok-push.ensures.items (kept-push c.self.inside.next c.self.inside.front c.self.inside.parts.items c.args.part c.self.invariant (omega (arith, room, same)))
