use Rattle.std.proofs.Common.{◌+◌, cond, Some, ap, subst, sym}
use Rattle.region_map.specs.Regions.{in_region}
use Rattle.region_map.specs.Maps.{Pieced, value_at}
use Rattle.branch_history.specs.declared.version.Version.{Version}
use Rattle.store_api.specs.Calls.{HasValues}
use Rattle.store_api.specs.Rows.{Rows, row_of}
use Rattle.store_api.specs.Versions.{point}
use Rattle.primary_exec.proofs.Starts.{started_values}
use Rattle.primary_exec.proofs.laws.starts_stand_at_their_sync.Goals as goal

pub returns : goal.returns
returns g c =
    let old : Pieced Version = g.T.Store.versions c.args.old.now in
    let a = c.args.asking.now in
    record {
      rows = λ key. ap (λ (r : Rows). row_of r key) c.requires.rows;
      versions =
          subst (λ (m : Pieced Version). HasValues old.hashes (λ h k. cond (in_region a.contract.region h k) (Some (point a.branch (c.args.initial + 1))) (value_at old.pieces h k)) m)
          (sym c.requires.versions)
          (started_values a.contract.region a.branch c.args.initial (g.T.Store.rows c.args.old.now) old c.hashes-hashes.ensures.sound);
    }
