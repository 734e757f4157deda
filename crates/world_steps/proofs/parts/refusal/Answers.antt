-- The refusals in their order: the node that an event is for is stored as the journal gives it.
use Rattle.std.proofs.Common.{◌≡◌, true, false, cond, nat_lt, Some, None, sym, ap, ◌∙◌}
use Rattle.std.proofs.lemmas.Bool.{and_parts}
use Rattle.world_steps.specs.declared.push_refused.PushRefused.TheVariants.{Up, Down}
use Rattle.runs.specs.Run.{names_node, suits}
use Rattle.world_steps.specs.World.{names_nodes, message_refusal, entries_refusal}
use Rattle.world_steps.proofs.States.{up_stored, entry_unsuited, entry_suited, known_refused, unknown, full, not_full}
use Rattle.world_steps.proofs.parts.refusal.Goals as goal

pub returns-then-up-clause-value : goal.returns-then-up-clause-value
returns-then-up-clause-value c = λ nodes messages known.
    let past = c.args.journal.now.past in
    let setup = c.args.setup.now in
    let node = c.args.node in
    let input = c.args.input.now in
    let named : names_nodes setup node input ≡ true = sym c.names_nodes.ensures ∙ c.if-not-names_nodes.false in
    let passed : message_refusal past node input None ≡ None = sym (c.in_default.ensures.value past messages) in
    let up = up_stored setup past c.args.nodes.now node c.is_up-up.result nodes (and_parts (nat_lt node.0 setup.nodes) (names_node setup input) named).0 c.is_up-up.ensures in
    let apart : suits c.is_up-up.result input ≡ false = sym c.suits.ensures ∙ c.if-not-suits.true in
    ap (λ b. Some (cond b Up Down)) (sym c.if-up.true) ∙ sym (entry_unsuited setup past node input named passed c.is_up-up.result up apart)

pub returns-else-up-clause-value : goal.returns-else-up-clause-value
returns-else-up-clause-value c = λ nodes messages known.
    let past = c.args.journal.now.past in
    let setup = c.args.setup.now in
    let node = c.args.node in
    let input = c.args.input.now in
    let named : names_nodes setup node input ≡ true = sym c.names_nodes.ensures ∙ c.if-not-names_nodes.false in
    let passed : message_refusal past node input None ≡ None = sym (c.in_default.ensures.value past messages) in
    let up = up_stored setup past c.args.nodes.now node c.is_up-up.result nodes (and_parts (nat_lt node.0 setup.nodes) (names_node setup input) named).0 c.is_up-up.ensures in
    let apart : suits c.is_up-up.result input ≡ false = sym c.suits.ensures ∙ c.if-not-suits.true in
    ap (λ b. Some (cond b Up Down)) (sym c.if-up.false) ∙ sym (entry_unsuited setup past node input named passed c.is_up-up.result up apart)

pub returns-then-is_known-clause-value : goal.returns-then-is_known-clause-value
returns-then-is_known-clause-value c = λ nodes messages known.
    let past = c.args.journal.now.past in
    let setup = c.args.setup.now in
    let node = c.args.node in
    let input = c.args.input.now in
    let named : names_nodes setup node input ≡ true = sym c.names_nodes.ensures ∙ c.if-not-names_nodes.false in
    let passed : message_refusal past node input None ≡ None = sym (c.in_default.ensures.value past messages) in
    let up = up_stored setup past c.args.nodes.now node c.is_up-up.result nodes (and_parts (nat_lt node.0 setup.nodes) (names_node setup input) named).0 c.is_up-up.ensures in
    let suited : suits c.is_up-up.result input ≡ true = sym c.suits.ensures ∙ c.if-not-suits.false in
    known_refused past input (entries_refusal past None) (sym (c.is_known.ensures past known) ∙ c.if-is_known.true) ∙ sym (entry_suited setup past node input named passed c.is_up-up.result up suited)

pub returns-then-is_full-clause-value : goal.returns-then-is_full-clause-value
returns-then-is_full-clause-value c = λ nodes messages known.
    let past = c.args.journal.now.past in
    let setup = c.args.setup.now in
    let node = c.args.node in
    let input = c.args.input.now in
    let named : names_nodes setup node input ≡ true = sym c.names_nodes.ensures ∙ c.if-not-names_nodes.false in
    let passed : message_refusal past node input None ≡ None = sym (c.in_default.ensures.value past messages) in
    let up = up_stored setup past c.args.nodes.now node c.is_up-up.result nodes (and_parts (nat_lt node.0 setup.nodes) (names_node setup input) named).0 c.is_up-up.ensures in
    let suited : suits c.is_up-up.result input ≡ true = sym c.suits.ensures ∙ c.if-not-suits.false in
    full past (sym c.is_full.ensures ∙ c.if-is_full.true) ∙ unknown past input (entries_refusal past None) (sym (c.is_known.ensures past known) ∙ c.if-is_known.false) ∙ sym (entry_suited setup past node input named passed c.is_up-up.result up suited)

pub returns-clause-value : goal.returns-clause-value
returns-clause-value c = λ nodes messages known.
    let past = c.args.journal.now.past in
    let setup = c.args.setup.now in
    let node = c.args.node in
    let input = c.args.input.now in
    let named : names_nodes setup node input ≡ true = sym c.names_nodes.ensures ∙ c.if-not-names_nodes.false in
    let passed : message_refusal past node input None ≡ None = sym (c.in_default.ensures.value past messages) in
    let up = up_stored setup past c.args.nodes.now node c.is_up-up.result nodes (and_parts (nat_lt node.0 setup.nodes) (names_node setup input) named).0 c.is_up-up.ensures in
    let suited : suits c.is_up-up.result input ≡ true = sym c.suits.ensures ∙ c.if-not-suits.false in
    not_full past (sym c.is_full.ensures ∙ c.if-is_full.false) ∙ unknown past input (entries_refusal past None) (sym (c.is_known.ensures past known) ∙ c.if-is_known.false) ∙ sym (entry_suited setup past node input named passed c.is_up-up.result up suited)
