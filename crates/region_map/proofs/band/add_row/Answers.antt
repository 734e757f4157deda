use Rattle.std.proofs.Common.{◌≡◌, ◌≢◌, ◌∙◌, ap, sym, [], map, length, refl, arith}
use Rattle.std.proofs.lemmas.List.{map-append, nil_from_length}
use Rattle.std.proofs.lemmas.Bool.{both_ways, eqb-true, eqb-false}
use Rattle.region_map.specs.Bands.{band_of}
use Rattle.region_map.proofs.Bands.{adds_none, adds_apart_at, adds_longer_at}
use Rattle.region_map.proofs.band.add_row.Goals as goal

pub returns-then-is_empty : goal.returns-then-is_empty
returns-then-is_empty g c =
    let z = eqb-true _ _ (sym c.is_empty.ensures ∙ c.if-is_empty.true) in
    let n : length c.args.ranges.items ≡ 0 = omega arith in
    adds_none _ _ _ c.requires.bands (nil_from_length c.args.ranges.items n)

pub returns-in_ok-push-in-Some : goal.returns-in_ok-push-in-Some
returns-in_ok-push-in-Some g c =
    let same = c.goes_on.ensures.0 c.if-goes_on.true in
    adds_longer_at (map band_of c.args.bands.now.items) (map band_of c.pop.new.self.items) (map band_of c.push-then-goes_on.new.self.items) (band_of c.in-Some.last) _
    c.args.hash c.args.ranges.items
    (ap (map band_of) c.in-Some.ensures.items ∙ map-append band_of c.pop.new.self.items _)
    (ap (map band_of) c.in_ok-push-in-Some.ensures.items ∙ map-append band_of c.pop.new.self.items _)
    c.requires.bands same.0 (same.1 ∙ c.deref.ensures.value) refl refl refl

pub returns-in_ok-push-in-Some-3 : goal.returns-in_ok-push-in-Some-3
returns-in_ok-push-in-Some-3 g c =
    let z = eqb-false _ _ (sym c.is_empty.ensures ∙ c.if-is_empty.false) in
    let filled : c.args.ranges.items ≢ [] = λ e. let n : length c.args.ranges.items ≡ 0 = ap length e in z (omega arith) in
    adds_apart_at (map band_of c.args.bands.now.items) (map band_of c.pop.new.self.items) (map band_of c.push-else-goes_on.new.self.items) (map band_of c.push-else-goes_on-2.new.self.items) (band_of c.in-Some.last) _
    c.args.hash c.args.ranges.items
    (ap (map band_of) c.in-Some.ensures.items ∙ map-append band_of c.pop.new.self.items _)
    (ap (map band_of) c.in_ok-push-in-Some-2.ensures.items ∙ map-append band_of c.pop.new.self.items _)
    (ap (map band_of) c.in_ok-push-in-Some-3.ensures.items ∙ map-append band_of c.push-else-goes_on.new.self.items _)
    c.requires.bands c.requires.row filled (λ a b. both_ways _ c.if-goes_on.false (c.goes_on.ensures.1 (a, b ∙ sym c.deref.ensures.value))) refl refl refl
