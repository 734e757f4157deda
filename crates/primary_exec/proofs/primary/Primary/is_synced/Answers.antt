use Rattle.std.proofs.Common.{◌≡◌, Some, ◌∙◌, sym, ap}
use Rattle.write_dispatch.specs.Dispatch.{is_decided}
use Rattle.primary_exec.specs.Execution.{Execution, is_synced}
use Rattle.primary_exec.proofs.primary.Primary.is_synced.Goals as goal

pub returns-in-Some : goal.returns-in-Some
returns-in-Some c =
    let sync : c.args.self.now.sync ≡ Some c.in-Some.at = sym (ap (λ (x : Execution). x.sync) c.self.view_is) ∙ c.in-Some.is in
    c.is_decided.ensures
    ∙ ap (λ (x : Execution). is_decided x.dispatch.acks x.contract x.me.0 c.in-Some.at) c.self.view_is
    ∙ sym (ap (is_synced c.args.self.now) sync)
