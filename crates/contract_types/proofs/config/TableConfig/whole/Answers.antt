use Rattle.std.proofs.Common.{rules, ◌≡◌, ◌∷◌, [], sym, subst}
use Rattle.contract_types.specs.Configs.{IsConfig}
use Rattle.contract_types.specs.Setup.{whole_shard}
use Rattle.contract_types.proofs.Whole.{whole_is_config}
use Rattle.contract_types.proofs.config.TableConfig.whole.Goals as goal

pub invariant_of-result : goal.invariant_of-result
invariant_of-result c =
    let e : c.push.new.self.items ≡ whole_shard c.args.nodes c.args.hashes ∷ [] = search rules in
    subst (λ xs. IsConfig (record { nodes = c.args.nodes; hashes = c.args.hashes; shards = xs })) (sym e) (whole_is_config c.args.nodes c.args.hashes c.requires.nodes c.requires.hashes)
