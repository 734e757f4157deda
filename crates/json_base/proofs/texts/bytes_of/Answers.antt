use Rattle.std.proofs.Common.{◌≡◌, [], ◌∷◌, ◌++◌, true, false, sym, ap, ◌∙◌, subst, append_assoc, arith, rules}
use Rattle.std.specs.Prelude.{nat_lt, chars}
use Rattle.std.specs.Str.Iter.{chars_rest}
use Rattle.std.proofs.lemmas.Bool.Decides.{nat_tests}
use Rattle.std.proofs.lemmas.Str.{chars_past_char, IsUtf8-past_char}
use Rattle.json_base.specs.Texts.{are_bytes}
use Rattle.json_base.proofs.TextLaws.{bytes_found, bytes_none, bytes_more, no_chars}
use Rattle.json_base.proofs.texts.bytes_of.Goals as goal

pub returns-in-Err : goal.returns-in-Err
returns-in-Err c =
    let l = c.loop-character in
    let next = chars_past_char (chars_rest l.character-iterator) (chars_rest c.next.new.self) c.in-Some.character l.invariant.left c.in-Some.ensures.steps.0 in
    let big : nat_lt c.in-Some.character 256 ≡ false = grind (arith, nat_tests) in
    bytes_none c.args.text.now l.bytes.items (chars (chars_rest c.next.new.self)) c.in-Some.character (ap (λ cs. l.bytes.items ++ cs) (sym next) ∙ l.invariant.so_far) big

pub loop-character-preserved : goal.loop-character-preserved
loop-character-preserved c =
    let l = c.loop-character in
    let next = chars_past_char (chars_rest l.character-iterator) (chars_rest c.next.new.self) c.in-Some.character l.invariant.left c.in-Some.ensures.steps.0 in
    let items : c.push.new.self.items ≡ l.bytes.items ++ c.in-Some.character ∷ [] = search rules in
    let small : nat_lt c.in-Some.character 256 ≡ true = grind (arith, nat_tests) in
    record {
      so_far = ap (λ bs. bs ++ chars (chars_rest c.next.new.self)) items ∙ append_assoc l.bytes.items (c.in-Some.character ∷ []) _ ∙ ap (λ cs. l.bytes.items ++ cs) (sym next) ∙ l.invariant.so_far;
      bytes = subst (λ bs. are_bytes bs ≡ true) (sym items) (bytes_more l.bytes.items c.in-Some.character l.invariant.bytes small);
      left = IsUtf8-past_char (chars_rest l.character-iterator) (chars_rest c.next.new.self) c.in-Some.character l.invariant.left c.in-Some.ensures.steps.0;
    }

pub returns : goal.returns
returns c =
    let l = c.loop-character in
    bytes_found c.args.text.now l.bytes.items c.utf8.text (no_chars l.bytes.items (chars_rest l.character-iterator) (chars c.args.text.now) c.in-None.ensures.steps.0.0 l.invariant.so_far) l.invariant.bytes
