use Rattle.std.proofs.Common.{◌∙◌, ◌<◌, sym, ap, length, take, subst}
use Rattle.store_api.proofs.Maps.{take-take, take_short}
use Rattle.store_api.proofs.laws.scans_are_fronts.Goals as goal

pub returns : goal.returns
returns g c =
    record {
      front = c.requires.short ∙ take-take _ _ _ c.requires.limits ∙ ap (take c.args.limit) (sym c.requires.long);
      all = λ lt. c.requires.short ∙ take_short _ _ _ c.requires.limits (subst (λ n. length n < c.args.limit) c.requires.short lt) ∙ sym c.requires.long;
    }
