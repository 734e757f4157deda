use Rattle.std.proofs.Common.{◌≡◌, ◌+◌, ◌∷◌, length, take, sym, subst, arith}
use Rattle.std.proofs.lemmas.Bool.Decides.{nat_tests}
use Rattle.std.proofs.lemmas.Slice.{between_to_end}
use Rattle.script_text.specs.Lines.{lines}
use Rattle.script_text.proofs.LineLaws.{lines-at, lines-whole}
use Rattle.script_text.proofs.lines.split_line.Goals as goal

pub returns-in-Some-clause-parts : goal.returns-in-Some-clause-parts
returns-in-Some-clause-parts c =
    subst (λ back. lines c.args.text.now ≡ take c.in-Some.at c.args.text.now ∷ lines back) (sym (between_to_end c.args.text.now (c.in-Some.at + 1) (length c.args.text.now) (omega arith))) (lines-at c.args.text.now c.in-Some.at c.in-Some.ensures)

pub returns-in-None-clause-parts : goal.returns-in-None-clause-parts
returns-in-None-clause-parts c = lines-whole c.args.text.now c.requires (grind (arith, nat_tests))
