use Rattle.store_api.proofs.VersionMaps.{advanced_map_canonical, advanced_map_hashes, advanced_map_at, replaced_map_canonical, replaced_map_hashes, replaced_map_at, zero_map_canonical, zero_map_hashes, zero_map_at}
use Rattle.store_api.proofs.laws.versions_at_each_pair.Goals as goal

pub returns : goal.returns
returns c = record {
  advance = λ part branch at m some. record {
    canonical = advanced_map_canonical part branch at m some;
    hashes_are = advanced_map_hashes part branch at m;
    values_are = advanced_map_at part branch at m;
  };
  replace = λ part new m some. record {
    canonical = replaced_map_canonical part new m some;
    hashes_are = replaced_map_hashes part new m;
    values_are = replaced_map_at part new m;
  };
  begin = λ hashes some. record { canonical = zero_map_canonical hashes some; hashes_are = zero_map_hashes hashes; values_are = zero_map_at hashes };
}
