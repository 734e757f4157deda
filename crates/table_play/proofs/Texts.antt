-- Words and their texts.
use Rattle.std.proofs.Common.{◌≡◌, ℕ, zero, suc, ◌+◌, ◌<◌, List, [], ◌∷◌, ◌++◌, length, get_or, take, map, true, false, codes, bytes_eq, Bool, arith, subst, Option, Some, None, IsUtf8, refl, sym, ap, ◌∙◌}
use Rattle.std.proofs.lemmas.List.{take-map, map-append, take_more}
use Rattle.std.proofs.lemmas.Str.{IsUtf8-from_ascii}
use Rattle.std.proofs.lemmas.Str.Ascii.{IsAscii-nil, IsAscii-cons}
use Rattle.std.proofs.lemmas.Slice.Eq.{bytes_eq-Decides}
use Rattle.table_play.specs.Headline.{is_command}
use Rattle.table_play.specs.Words.{IsTexts}

-- the text of the next word goes to the end
pub one_more : {A B C : Type 0} (f : A → C) (g : B → C) (done : List A) (one : A) (all : List B) (i : ℕ) (x : B)
    → map f done ≡ take i (map g all) → i < length all → x ≡ get_or all i x → f one ≡ g x → map f (done ++ one ∷ []) ≡ take (i + 1) (map g all)
one_more f g done one all i x so_far below read same =
    map-append f done (one ∷ [])
    ∙ ap (λ front. front ++ (f one ∷ [])) (so_far ∙ take-map g i all)
    ∙ ap (λ y. map g (take i all) ++ (y ∷ [])) (same ∙ ap g read)
    ∙ sym (take-map g (i + 1) all ∙ ap (map g) (take_more all i x below) ∙ map-append g (take i all) (get_or all i x ∷ []))

the_command_is_text : IsUtf8 (codes "play")
the_command_is_text = IsUtf8-from_ascii (codes "play")
    (IsAscii-cons 112 (108 ∷ 97 ∷ 121 ∷ []) (omega arith) (IsAscii-cons 108 (97 ∷ 121 ∷ []) (omega arith) (IsAscii-cons 97 (121 ∷ []) (omega arith) (IsAscii-cons 121 [] (omega arith) IsAscii-nil))))

false_if : (b : Bool) → (b ≡ true → ⊥) → b ≡ false
false_if true never = absurd (never refl)
false_if false never = refl

-- words of which one is no text are no command
no_text_at : (words : List (List ℕ)) (place : ℕ) → place < length words → (IsUtf8 (get_or words place []) → ⊥) → is_command words ≡ false
no_text_at [] place within no_text = refl
no_text_at (word ∷ []) zero within no_text =
    false_if (bytes_eq word (codes "play")) (λ same. no_text (subst IsUtf8 (sym ((bytes_eq-Decides word (codes "play")).0 same)) the_command_is_text))
no_text_at (word ∷ []) (suc place) within no_text = let never : ⊥ = omega arith in absurd never
no_text_at (word ∷ next ∷ words) place within no_text = refl

pub no_texts_no_command : (words : List (List ℕ)) (texts : Option (List (List ℕ))) → texts ≡ None → IsTexts words texts → is_command words ≡ false
no_texts_no_command words None is (place, within, no_text) = no_text_at words place within no_text
no_texts_no_command words (Some texts) is told = cc
