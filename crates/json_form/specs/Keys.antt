-- The forms of keys, values of registers and regions.
use Rattle.std.specs.Prelude.{ℕ, List, length, nat_le, codes, Option, ⊤}
use Rattle.std.proofs.Common.{refl}
use Rattle.json_base.specs.Forms.{Form, IsExact, Fields, no_fields, field, object_of, mapped}
use Rattle.json_base.specs.Numbers.{byte_form, is_byte, byte_exact}
use Rattle.json_base.specs.Objects.{nothing_fits, both_fit, seen_fits, end_exact, field_exact, object_exact, mapped_exact}
use Rattle.json_base.specs.Parts.{option_form, option_fits, option_exact}
use Rattle.json_base.specs.Texts.{text_form, text_fits, text_exact}
use Rattle.json_form.specs.Kept.{kept, kept_fits, kept_exact}
use Rattle.region_map.specs.Keys.{is_key}
use Rattle.region_map.specs.declared.region.Region.{Region}

abbrev pub key_form : Form (List ℕ)
key_form = kept (λ h key. is_key key) text_form

abbrev pub key_fits : ℕ → List ℕ → Type 0
key_fits = kept_fits (λ h key. is_key key) text_fits

pub key_exact : IsExact key_fits key_form
key_exact = kept_exact (λ h key. is_key key) text_fits text_form text_exact

-- a value has at most 1,024 bytes
abbrev pub value_form : Form (List ℕ)
value_form = kept (λ h value. nat_le (length value) 1024) text_form

abbrev pub value_fits : ℕ → List ℕ → Type 0
value_fits = kept_fits (λ h value. nat_le (length value) 1024) text_fits

pub value_exact : IsExact value_fits value_form
value_exact = kept_exact (λ h value. nat_le (length value) 1024) text_fits text_form text_exact

-- a bound is absent as `null`
abbrev pub bound_form : Form (Option (List ℕ))
bound_form = option_form key_form

abbrev pub bound_fits : ℕ → Option (List ℕ) → Type 0
bound_fits = option_fits key_fits

pub bound_exact : IsExact bound_fits bound_form
bound_exact = option_exact key_fits key_form (λ h. refl) key_exact

-- ---- regions

abbrev pub RegionParts : Type 0
RegionParts = Option (List ℕ) × (ℕ × (ℕ × (Option (List ℕ) × ⊤)))

abbrev pub region_to : RegionParts → Region
region_to p = record { hash_from = p.1.0; hash_to = p.1.1.0; from = p.0; to = p.1.1.1.0 }

abbrev pub region_from : Region → RegionParts
region_from r = (r.from, (r.hash_from, (r.hash_to, (r.to, tt))))

abbrev pub region_fields : Fields RegionParts
region_fields = field (codes "from") bound_form (field (codes "hash_from") byte_form (field (codes "hash_to") byte_form (field (codes "to") bound_form no_fields)))

abbrev pub region_parts_fit : ℕ → RegionParts → Type 0
region_parts_fit = both_fit bound_fits (both_fit is_byte (both_fit is_byte (both_fit bound_fits nothing_fits)))

abbrev pub region_form : Form Region
region_form = mapped region_to region_from (object_of region_fields)

abbrev pub region_fits : ℕ → Region → Type 0
region_fits = seen_fits region_from region_parts_fit

pub region_exact : IsExact region_fits region_form
region_exact =
    mapped_exact region_to region_from (λ p. refl) (λ r. refl) region_parts_fit (object_of region_fields)
    (object_exact region_parts_fit region_fields
    (field_exact (codes "from") bound_fits bound_form _ _ bound_exact
    (field_exact (codes "hash_from") is_byte byte_form _ _ byte_exact
    (field_exact (codes "hash_to") is_byte byte_form _ _ byte_exact
    (field_exact (codes "to") bound_fits bound_form _ _ bound_exact end_exact)))))
