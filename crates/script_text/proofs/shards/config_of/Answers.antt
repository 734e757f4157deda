use Rattle.std.proofs.Common.{Err, ap}
use Rattle.std.proofs.lemmas.Result.{err_from_is_err_and}
use Rattle.contract_types.specs.Configs.{ConfigState}
use Rattle.script_text.proofs.ShardLaws.{kept_config, refused_config}
use Rattle.script_text.proofs.shards.config_of.Goals as goal

pub returns : goal.returns
returns c = kept_config (record { nodes = c.args.nodes; hashes = c.args.hashes; shards = c.args.shards.items }) c.in_ok-config.config c.in_ok-config.ensures.ok c.in_ok-config.ensures.config

pub returns-in_err-config : goal.returns-in_err-config
returns-in_err-config c =
    let x : ConfigState = record { nodes = c.args.nodes; hashes = c.args.hashes; shards = c.args.shards.items } in
    let h = c.in_err-config.ensures in
    let p = err_from_is_err_and c.from_residual.result c.from_residual.ensures.1 in
    rw (p.1, p.2) (refused_config x c.in_err-config.field-0.0
    (λ e. h.no_shards.0 (ap Err e)) (λ e. h.region.0 (ap Err e)) (λ e. h.replicas.0 (ap Err e)) (λ e. h.roles.0 (ap Err e)) (λ e. h.overlap.0 (ap Err e)) (λ e. h.gap.0 (ap Err e)))
