use Rattle.std.proofs.Common.{◌∙◌, ap, sym, map, length, rules}
use Rattle.region_map.specs.Bits.{members}
use Rattle.region_map.specs.Nodes.{node_id}
use Rattle.region_map.proofs.SetLemmas.{members-zero, members_first}
use Rattle.region_map.proofs.node_set.MembersIterator.next.Goals as goal

pub returns-then-self-eq0-clause-steps : goal.returns-then-self-eq0-clause-steps
returns-then-self-eq0-clause-steps c =
    let none = sym c.self.view_is ∙ ap (λ b. map node_id (members b)) c.if-self-eq0.true ∙ ap (map node_id) members-zero in (none, none)

pub returns-clause-steps : goal.returns-clause-steps
returns-clause-steps c = sym c.self.view_is ∙ ap (map node_id) (members_first c.self.inside.bits c.if-self-eq0.false c.self.invariant)

pub returns-clause-goes : goal.returns-clause-goes
returns-clause-goes c =
    let e = sym c.self.view_is ∙ ap (map node_id) (members_first c.self.inside.bits c.if-self-eq0.false c.self.invariant) in
    let shorter = ap length e in search rules
