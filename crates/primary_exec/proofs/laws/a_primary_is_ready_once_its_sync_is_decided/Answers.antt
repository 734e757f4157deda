use Rattle.std.proofs.Common.{refl}
use Rattle.primary_exec.proofs.Ready.{ready_once_synced, stays_ready, got_keeps_ready}
use Rattle.primary_exec.proofs.laws.a_primary_is_ready_once_its_sync_is_decided.Goals as goal

pub returns : goal.returns
returns c = record {
  sync = ready_once_synced;
  stays = stays_ready;
  request = λ x rows versions op key what. refl;
  got = got_keeps_ready;
  give_up = λ x op. refl;
}
