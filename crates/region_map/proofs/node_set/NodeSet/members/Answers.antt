use Rattle.std.proofs.Common.{◌≡◌, ◌++◌, ◌∷◌, [], ◌∙◌, ap, sym, arith, vec_items, map}
use Rattle.region_map.specs.Nodes.{node_id}
use Rattle.region_map.proofs.SetLemmas.{listed, listed-zero, listed_push, listed_same, listed_all}
use Rattle.region_map.proofs.node_set.NodeSet.members.Goals as goal
use Rattle.region_map.proofs.node_set.NodeSet.members.Goals.{then-bits-n-ne0+in_ok-push, else-bits-n-ne0}

pub loop-n-init : goal.loop-n-init
loop-n-init c = c.new-found.ensures.items ∙ sym (listed-zero c.self.inside.bits)

pub loop-n-preserved : goal.loop-n-preserved
loop-n-preserved c =
    elim c.if-bits-n-ne0.branch [
      | then-bits-n-ne0+in_ok-push w ↦
          ap vec_items w.found-is ∙ w.in_ok-push.ensures.items
          ∙ ap (λ xs. xs ++ node_id c.loop-n.n ∷ []) c.loop-n.invariant
          ∙ sym (listed_push c.self.inside.bits c.loop-n.n c.loop-n-test.true w.if-bits-n-ne0.true)
      | else-bits-n-ne0 w ↦
          ap vec_items w.found-is ∙ c.loop-n.invariant
          ∙ sym (listed_same c.self.inside.bits c.loop-n.n c.loop-n-test.true w.if-bits-n-ne0.false)
    ]

pub returns : goal.returns
returns c =
    let n : c.loop-n.n ≡ 64 = omega arith in
    c.loop-n.invariant ∙ ap (listed c.self.inside.bits) n ∙ listed_all c.self.inside.bits ∙ ap (map node_id) c.self.view_is
