use Rattle.std.proofs.Common.{◌∙◌, sym, subst}
use Rattle.region_map.specs.Rows.{Puts}
use Rattle.region_map.proofs.Zips.{emits_some, emits_none, emits_empty}
use Rattle.region_map.proofs.row.emit.Goals as goal

pub returns-in_ok-put-in-Some : goal.returns-in_ok-put-in-Some
returns-in_ok-put-in-Some g c =
    emits_some c.args.row.now.items c.put.new.row.items c.args.from.now c.args.to.now c.replace-begin.new.dest c.args.value c.in-Some.value c.in-Some.is
    (subst (λ x. Puts c.args.row.now.items (record { from = x; to = c.args.to.now; value = c.in-Some.value }) c.put.new.row.items) c.replace-begin.ensures.value
    (subst (λ x. Puts c.args.row.now.items (record { from = c.replace-begin.result; to = x; value = c.in-Some.value }) c.put.new.row.items) c.in_ok-end.ensures.copy c.in_ok-put-in-Some.ensures))
    (sym c.is_range.ensures ∙ c.if-is_range.true) (c.replace-begin.ensures.after ∙ c.in_ok-copy_bound.ensures.copy) c.copy_bound.ensures.bound

pub returns-in-None : goal.returns-in-None
returns-in-None g c =
    emits_none c.args.row.now.items c.args.from.now c.args.to.now c.replace-begin.new.dest c.args.value c.in-None.is c.requires.row c.requires.behind
    (sym c.is_range.ensures ∙ c.if-is_range.true) (c.replace-begin.ensures.after ∙ c.in_ok-copy_bound.ensures.copy) c.copy_bound.ensures.bound

pub returns-else-is_range : goal.returns-else-is_range
returns-else-is_range g c = emits_empty _ _ _ _ c.requires.row c.requires.behind c.requires.bound (sym c.is_range.ensures ∙ c.if-is_range.false)
