-- The nodes tick one by one.
use Rattle.std.proofs.Common.{rules, ◌≡◌, ◌∷◌, ℕ, List, Option, Some, None, true, nat_lt, map, refl, sym, ap, ◌∙◌, subst}
use Rattle.std.specs.List.{list_all}
use Rattle.std.proofs.lemmas.Bool.{and_parts}
use Rattle.region_map.specs.declared.id.NodeId.{NodeId}
use Rattle.region_map.specs.Nodes.{node_id}
use Rattle.contract_types.specs.Setup.{SetupState}
use Rattle.contract_types.specs.declared.limits.Which.{Which}
use Rattle.table_play.specs.Play.{Played, is_over, play_tick, play_ticks}
use Rattle.table_play.specs.Steps.{played_at, HasPartOf}
use Rattle.table_play.proofs.Flushes.{numbers_of_nodes, ticks_meet, ticks_go}
use Rattle.table_play.proofs.Grows.{on_err, keeps_part, ticks_add}
use Rattle.table_play.proofs.events.ticks.Goals as goal

pub loop-node-init : goal.loop-node-init
loop-node-init c =
    let setup = c.args.world.now.setup in
    let p = played_at c.args.world.now c.args.down.now.items c.args.refused.now.items None in
    let members : c.into_iter-node-iterator.result ≡ map node_id c.args.only.now = search rules in
    let numbers : map (λ (n : NodeId). n.0) c.into_iter-node-iterator.result ≡ c.args.only.now = ap (map (λ (n : NodeId). n.0)) members ∙ numbers_of_nodes c.args.only.now in (
      c.requires.on,
      refl,
      ap (list_all (λ n. nat_lt n setup.nodes)) numbers ∙ c.requires.only,
      ap (play_ticks setup p c.args.line) numbers,
    )

pub loop-node-preserved : goal.loop-node-preserved
loop-node-preserved c =
    let inv = c.loop-node.invariant in
    let setup = c.args.world.now.setup in
    let line = c.args.line in
    let n = c.in-Some.node.0 in
    let rest : List ℕ = map (λ (k : NodeId). k.0) c.next.new.self in
    let step : c.loop-node.node-iterator ≡ c.in-Some.node ∷ c.next.new.self = search rules in
    let numbers : map (λ (k : NodeId). k.0) c.loop-node.node-iterator ≡ n ∷ rest = ap (map (λ (k : NodeId). k.0)) step in
    let fits : list_all (λ k. nat_lt k setup.nodes) (n ∷ rest) ≡ true = ap (list_all (λ k. nat_lt k setup.nodes)) (sym numbers) ∙ inv.2 in
    let p = played_at c.loop-node.world c.loop-node.down.items c.loop-node.refused.items None in
    let q = played_at c.tick.new.world c.tick.new.down.items c.tick.new.refused.items None in
    let is : q ≡ play_tick setup p line n =
    ap (λ (met : Option Which). played_at c.tick.new.world c.tick.new.down.items c.tick.new.refused.items met) (sym c.in_default.is) ∙ c.in_ok-which.ensures.ok
    ∙ ap (λ (s : SetupState). play_tick s p line n) inv.1 in (
      c.in_ok-which.ensures.on (ap is_over c.in_default.is),
      c.in_ok-which.ensures.setup ∙ inv.1,
      (and_parts (nat_lt n setup.nodes) (list_all (λ k. nat_lt k setup.nodes) rest) fits).1,
      sym (ticks_go setup p q line n rest is refl) ∙ ap (play_ticks setup p line) (sym numbers) ∙ inv.3,
    )

pub returns-in-Some-2-clause-ok : goal.returns-in-Some-2-clause-ok
returns-in-Some-2-clause-ok c =
    let inv = c.loop-node.invariant in
    let setup = c.args.world.now.setup in
    let line = c.args.line in
    let n = c.in-Some.node.0 in
    let which = c.in-Some-2.which in
    let rest : List ℕ = map (λ (k : NodeId). k.0) c.next.new.self in
    let step : c.loop-node.node-iterator ≡ c.in-Some.node ∷ c.next.new.self = search rules in
    let numbers : map (λ (k : NodeId). k.0) c.loop-node.node-iterator ≡ n ∷ rest = ap (map (λ (k : NodeId). k.0)) step in
    let p = played_at c.loop-node.world c.loop-node.down.items c.loop-node.refused.items None in
    let q = played_at c.tick.new.world c.tick.new.down.items c.tick.new.refused.items (Some which) in
    let is : q ≡ play_tick setup p line n =
    ap (λ (met : Option Which). played_at c.tick.new.world c.tick.new.down.items c.tick.new.refused.items met) (sym c.in-Some-2.is) ∙ c.in_ok-which.ensures.ok
    ∙ ap (λ (s : SetupState). play_tick s p line n) inv.1 in
    sym (ticks_meet setup p q line n rest which is refl) ∙ ap (play_ticks setup p line) (sym numbers) ∙ inv.3

pub returns-in_err-which-clause-err : goal.returns-in_err-which-clause-err
returns-in_err-which-clause-err c =
    let inv = c.loop-node.invariant in
    let setup = c.args.world.now.setup in
    let line = c.args.line in
    let ns : List ℕ = map (λ (k : NodeId). k.0) c.loop-node.node-iterator in
    let p = played_at c.loop-node.world c.loop-node.down.items c.loop-node.refused.items None in
    on_err c.from_residual.result (subst (λ (q : Played). HasPartOf c.tick.new.world q) inv.3
    (keeps_part c.loop-node.world c.tick.new.world (play_ticks setup p line ns) (ticks_add setup p line ns) c.in_err-which.ensures.err))
