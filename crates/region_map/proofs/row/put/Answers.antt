use Rattle.std.proofs.lemmas.Bool.{both_ways}
use Rattle.region_map.proofs.Rows.{puts_longer_at, puts_apart_at}
use Rattle.region_map.proofs.row.put.Goals as goal

pub returns-in_ok-push-in-Some : goal.returns-in_ok-push-in-Some
returns-in_ok-push-in-Some g c =
    let same = c.joins.ensures.0 c.if-joins.true in
    puts_longer_at c.args.row.now.items c.pop.new.self.items c.push-then-joins.new.self.items c.in-Some.last c.args.range c.longer.result c.in-Some.ensures.items c.in_ok-push-in-Some.ensures.items c.longer.ensures
    c.requires.row c.requires.range c.requires.behind same.0 same.1

pub returns-in_ok-push-in-Some-3 : goal.returns-in_ok-push-in-Some-3
returns-in_ok-push-in-Some-3 g c =
    puts_apart_at c.args.row.now.items c.pop.new.self.items c.push-else-joins.new.self.items c.push-else-joins-2.new.self.items c.in-Some.last c.args.range c.in-Some.ensures.items c.in_ok-push-in-Some-2.ensures.items c.in_ok-push-in-Some-3.ensures.items
    c.requires.row c.requires.range c.requires.behind (λ touch same. both_ways _ c.if-joins.false (c.joins.ensures.1 (touch, same)))
