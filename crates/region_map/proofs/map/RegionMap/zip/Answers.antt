use Rattle.std.proofs.Common.{◌≡◌, ◌∙◌, map, ap, sym, subst, arith}
use Rattle.region_map.specs.Maps.{Pieced, IsCanonical, value_at}
use Rattle.region_map.specs.Rows.{ranges_at, stretches_of}
use Rattle.region_map.specs.Bands.{band_of}
use Rattle.region_map.proofs.Bands.{zip_more, zip_seen, none_past, value_at-pieces_of}
use Rattle.region_map.proofs.Made.{bands_canonical, joined_is}
use Rattle.region_map.proofs.map.RegionMap.zip.Goals as goal

pub loop-hash-preserved : goal.loop-hash-preserved
loop-hash-preserved g c = record {
  are = c.in_ok-add_row.ensures.are;
  at = zip_more (g.F.Combine.combined c.args.with.now) c.args.self.now c.args.other.now (map band_of c.loop-hash.bands.items) (map band_of c.add_row.new.bands.items) c.loop-hash.hash
      c.in_ok-row.row.items c.in_ok-a.a.items c.in_ok-b.b.items
      (subst (λ m. IsCanonical m) c.self.view_is c.self.invariant) (subst (λ m. IsCanonical m) c.other.view_is c.other.invariant)
      c.loop-hash.invariant.at
      (c.in_ok-a.ensures ∙ ap (λ ps. stretches_of (ranges_at ps c.loop-hash.hash)) (c.deref.ensures.value ∙ ap (λ (m : Pieced _). m.pieces) c.self.view_is))
      (c.in_ok-b.ensures ∙ ap (λ ps. stretches_of (ranges_at ps c.loop-hash.hash)) (c.deref-in-loop-hash.ensures.value ∙ ap (λ (m : Pieced _). m.pieces) c.other.view_is))
      (zip_seen (g.F.Combine.combined c.args.with.now) _ _ _ _ _ c.deref-in-loop-hash-2.ensures.value c.deref-in-loop-hash-3.ensures.value c.in_ok-row.ensures)
      c.in_ok-add_row.ensures;
}

pub returns-clause-at : goal.returns-clause-at
returns-clause-at g c h k lt =
    let n : c.args.self.now.hashes ≡ c.self.inside.hashes = ap (λ (m : Pieced _). m.hashes) (sym c.self.view_is) in
    ap (λ x. value_at x h k) c.in_ok-pieces.ensures ∙ value_at-pieces_of c.loop-hash.hash (map band_of c.loop-hash.bands.items) h k c.loop-hash.invariant.are
    ∙ c.loop-hash.invariant.at h k (omega arith)

pub returns-clause-beyond : goal.returns-clause-beyond
returns-clause-beyond g c h k le =
    let n : c.args.self.now.hashes ≡ c.self.inside.hashes = ap (λ (m : Pieced _). m.hashes) (sym c.self.view_is) in
    none_past c.loop-hash.hash (map band_of c.loop-hash.bands.items) c.in_ok-pieces.pieces.items h k c.in_ok-pieces.ensures c.loop-hash.invariant.are (omega arith)

pub returns-clause-made : goal.returns-clause-made
returns-clause-made g c =
    let n : c.args.self.now.hashes ≡ c.self.inside.hashes = ap (λ (m : Pieced _). m.hashes) (sym c.self.view_is) in
    let all : c.loop-hash.hash ≡ c.self.inside.hashes = omega arith in
    joined_is g.X.MapValue.same g.met.X.MapValue.decides (g.F.Combine.combined c.args.with.now) c.args.self.now c.args.other.now (record { hashes = c.self.inside.hashes; pieces = c.in_ok-pieces.pieces.items })
    (bands_canonical c.self.inside.hashes c.loop-hash.hash (map band_of c.loop-hash.bands.items) c.in_ok-pieces.pieces.items all c.self.invariant.some_hash c.loop-hash.invariant.are c.in_ok-pieces.ensures)
    (sym n) (λ h k lt. returns-clause-at g c h k lt)
