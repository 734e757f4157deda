use Rattle.std.proofs.Common.{◌≡◌, ◌+◌, ◌∙◌, ap, ap₂, sym, cond, length, drop, refl, arith}
use Rattle.region_map.specs.Rows.{head_end, sooner, sooner_of}
use Rattle.region_map.proofs.Zips.{zip_begin, zip_step, zip_end, zip_less, next_within, is_within, left_is, right_is}
use Rattle.region_map.proofs.row.zipped.Goals as goal

pub loop-from-init : goal.loop-from-init
loop-from-init g c = (zip_begin _ _ _ c.new-row.result.items _ c.new-row.ensures.items refl, omega arith, omega arith)

pub returns-in-None : goal.returns-in-None
returns-in-None g c =
    let f = g.F.Combine.combined c.args.with.now in
    zip_end f c.args.a.now c.args.b.now c.loop-from.i c.loop-from.j c.loop-from.row.items c.emit.new.row.items c.loop-from.from c.in_ok-end.end c.emit.new.from c.in_ok-value.value
    c.loop-from.invariant.0
    (c.in_ok-end.ensures ∙ ap₂ sooner_of c.end_of-a_end.ensures c.end_of-b_end.ensures)
    (c.in_ok-value.ensures ∙ ap₂ f c.value_of-a_value.ensures c.value_of-b_value.ensures)
    c.in_ok-emit.ensures c.in-None.is

pub loop-from-smaller-in-Some : goal.loop-from-smaller-in-Some
loop-from-smaller-in-Some g c =
    let a = c.args.a.now in
    let b = c.args.b.now in
    let i = c.loop-from.i in
    let j = c.loop-from.j in
    let x = head_end (drop i a) in
    let y = head_end (drop j b) in
    let here : sooner_of x y ≡ c.in_ok-end.end = sym (c.in_ok-end.ensures ∙ ap₂ sooner_of c.end_of-a_end.ensures c.end_of-b_end.ensures) in
    zip_less x y (length a) (length b) i j c.next_place-i.result c.next_place-j.result
    (c.next_place-i.ensures ∙ ap (λ d. cond d i (i + 1)) (c.is_sooner-b_first.ensures ∙ ap₂ sooner c.end_of-b_end.ensures c.end_of-a_end.ensures))
    (c.next_place-j.ensures ∙ ap (λ d. cond d j (j + 1)) (c.is_sooner-a_first.ensures ∙ ap₂ sooner c.end_of-a_end.ensures c.end_of-b_end.ensures))
    c.loop-from.invariant.1 c.loop-from.invariant.2
    (λ s. is_within a i c.in-Some.field-0 (left_is x y _ (here ∙ c.in-Some.is) s))
    (λ s. is_within b j c.in-Some.field-0 (right_is x y _ (here ∙ c.in-Some.is) s))

pub loop-from-preserved-in-Some : goal.loop-from-preserved-in-Some
loop-from-preserved-in-Some g c =
    let f = g.F.Combine.combined c.args.with.now in
    let a = c.args.a.now in
    let b = c.args.b.now in
    let i = c.loop-from.i in
    let j = c.loop-from.j in
    let x = head_end (drop i a) in
    let y = head_end (drop j b) in
    let e : c.in_ok-end.end ≡ sooner_of x y = c.in_ok-end.ensures ∙ ap₂ sooner_of c.end_of-a_end.ensures c.end_of-b_end.ensures in
    let p : c.next_place-i.result ≡ cond (sooner y x) i (i + 1) = c.next_place-i.ensures ∙ ap (λ d. cond d i (i + 1)) (c.is_sooner-b_first.ensures ∙ ap₂ sooner c.end_of-b_end.ensures c.end_of-a_end.ensures) in
    let q : c.next_place-j.result ≡ cond (sooner x y) j (j + 1) = c.next_place-j.ensures ∙ ap (λ d. cond d j (j + 1)) (c.is_sooner-a_first.ensures ∙ ap₂ sooner c.end_of-a_end.ensures c.end_of-b_end.ensures) in (
      zip_step f a b i j c.next_place-i.result c.next_place-j.result c.loop-from.row.items c.emit.new.row.items c.loop-from.from c.in_ok-end.end c.emit.new.from c.in_ok-value.value c.in-Some.field-0
          c.loop-from.invariant.0 e
          (c.in_ok-value.ensures ∙ ap₂ f c.value_of-a_value.ensures c.value_of-b_value.ensures)
          c.in_ok-emit.ensures c.in-Some.is p q,
      next_within (length a) i c.next_place-i.result (sooner y x) p c.loop-from.invariant.1 (λ s. is_within a i c.in-Some.field-0 (left_is x y _ (sym e ∙ c.in-Some.is) s)),
      next_within (length b) j c.next_place-j.result (sooner x y) q c.loop-from.invariant.2 (λ s. is_within b j c.in-Some.field-0 (right_is x y _ (sym e ∙ c.in-Some.is) s)),
    )
