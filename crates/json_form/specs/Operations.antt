-- The forms of operations and of replies.
use Rattle.std.specs.Prelude.{◌≡◌, ℕ, ⊤, List, [], ◌∷◌, codes, Option}
use Rattle.std.proofs.Common.{◌⊎◌, inl, inr, refl}
use Rattle.json_base.specs.Forms.{Form, IsExact, Fields, no_fields, field, object_of, mapped}
use Rattle.json_base.specs.Objects.{nothing_fits, both_fit, seen_fits, end_exact, field_exact, object_exact, mapped_exact}
use Rattle.json_base.specs.Parts.{option_form, option_fits, option_exact}
use Rattle.json_base.specs.Choices.{word, last_word, variant, last_variant, either_fits, IsChoice, word_choice, last_word_choice, variant_choice, last_variant_choice}
use Rattle.json_form.specs.Keys.{value_form, value_fits, value_exact}
use Rattle.register_laws.specs.declared.operation.Op.{Op}
use Rattle.register_laws.specs.declared.operation.Op.TheVariants.{Put, Delete, Cas, Read}
use Rattle.register_laws.specs.declared.operation.Reply.{Reply}
use Rattle.register_laws.specs.declared.operation.Reply.TheVariants.{Was, Swapped, Kept}

-- the state of a register: no value is `null`
abbrev pub State : Type 0
State = Option (List ℕ)

abbrev pub state_form : Form State
state_form = option_form value_form

abbrev pub state_fits : ℕ → State → Type 0
state_fits = option_fits value_fits

pub state_exact : IsExact state_fits state_form
state_exact = option_exact value_fits value_form (λ h. refl) value_exact

-- ---- operations

abbrev pub CasParts : Type 0
CasParts = State × (State × ⊤)

abbrev pub cas_fields : Fields CasParts
cas_fields = field (codes "expect") state_form (field (codes "put") state_form no_fields)

abbrev pub cas_fit : ℕ → CasParts → Type 0
cas_fit = both_fit state_fits (both_fit state_fits nothing_fits)

cas_exact : IsExact cas_fit (object_of cas_fields)
cas_exact = object_exact cas_fit cas_fields (field_exact (codes "expect") _ _ _ _ state_exact (field_exact (codes "put") _ _ _ _ state_exact end_exact))

abbrev pub OpParts : Type 0
OpParts = List ℕ ⊎ (⊤ ⊎ (CasParts ⊎ ⊤))

abbrev pub op_to : OpParts → Op
op_to (inl value) = Put value
op_to (inr (inl x)) = Delete
op_to (inr (inr (inl p))) = Cas p.0 p.1.0
op_to (inr (inr (inr x))) = Read

abbrev pub op_from : Op → OpParts
op_from (Put value) = inl value
op_from Delete = inr (inl tt)
op_from (Cas expect put) = inr (inr (inl (expect, (put, tt))))
op_from Read = inr (inr (inr tt))

op_there : (p : OpParts) → op_from (op_to p) ≡ p
op_there (inl value) = refl
op_there (inr (inl x)) = refl
op_there (inr (inr (inl p))) = refl
op_there (inr (inr (inr x))) = refl

op_back : (op : Op) → op_to (op_from op) ≡ op
op_back (Put value) = refl
op_back Delete = refl
op_back (Cas expect put) = refl
op_back Read = refl

abbrev pub op_variants : Form OpParts
op_variants = variant (codes "put") value_form (word (codes "delete") (variant (codes "cas") (object_of cas_fields) (last_word (codes "read"))))

abbrev pub op_parts_fit : ℕ → OpParts → Type 0
op_parts_fit = either_fits value_fits (either_fits nothing_fits (either_fits cas_fit nothing_fits))

op_choice : IsChoice (codes "put" ∷ codes "delete" ∷ codes "cas" ∷ codes "read" ∷ []) op_parts_fit op_variants
op_choice =
    variant_choice (codes "put") _ _ _ _ _ refl value_exact
    (word_choice (codes "delete") _ _ _ refl
    (variant_choice (codes "cas") _ _ _ _ _ refl cas_exact
    (last_word_choice (codes "read"))))

abbrev pub operation_form : Form Op
operation_form = mapped op_to op_from op_variants

abbrev pub operation_fits : ℕ → Op → Type 0
operation_fits = seen_fits op_from op_parts_fit

pub operation_exact : IsExact operation_fits operation_form
operation_exact = mapped_exact op_to op_from op_there op_back op_parts_fit op_variants op_choice.exact

-- ---- replies

abbrev pub ReplyParts : Type 0
ReplyParts = State ⊎ (⊤ ⊎ State)

abbrev pub reply_to : ReplyParts → Reply
reply_to (inl state) = Was state
reply_to (inr (inl x)) = Swapped
reply_to (inr (inr state)) = Kept state

abbrev pub reply_from : Reply → ReplyParts
reply_from (Was state) = inl state
reply_from Swapped = inr (inl tt)
reply_from (Kept state) = inr (inr state)

reply_there : (p : ReplyParts) → reply_from (reply_to p) ≡ p
reply_there (inl state) = refl
reply_there (inr (inl x)) = refl
reply_there (inr (inr state)) = refl

reply_back : (reply : Reply) → reply_to (reply_from reply) ≡ reply
reply_back (Was state) = refl
reply_back Swapped = refl
reply_back (Kept state) = refl

abbrev pub reply_variants : Form ReplyParts
reply_variants = variant (codes "was") state_form (word (codes "swapped") (last_variant (codes "kept") state_form))

abbrev pub reply_parts_fit : ℕ → ReplyParts → Type 0
reply_parts_fit = either_fits state_fits (either_fits nothing_fits state_fits)

reply_choice : IsChoice (codes "was" ∷ codes "swapped" ∷ codes "kept" ∷ []) reply_parts_fit reply_variants
reply_choice =
    variant_choice (codes "was") _ _ _ _ _ refl state_exact
    (word_choice (codes "swapped") _ _ _ refl
    (last_variant_choice (codes "kept") _ _ state_exact))

abbrev pub reply_form : Form Reply
reply_form = mapped reply_to reply_from reply_variants

abbrev pub reply_fits : ℕ → Reply → Type 0
reply_fits = seen_fits reply_from reply_parts_fit

pub reply_exact : IsExact reply_fits reply_form
reply_exact = mapped_exact reply_to reply_from reply_there reply_back reply_parts_fit reply_variants reply_choice.exact
