-- The forms of numbers and of truth values: numbers are whole and without sign.
use Rattle.std.specs.Prelude.{◌≡◌, ℕ, ⊤, Bool, true, nat_lt, Option, Some, None, option_and_then}
use Rattle.std.proofs.Common.{refl}
use Rattle.serde_json.specs.Data.{unsigned, negative, float, Data, null, boolean, number, string, array, object}
use Rattle.serde_json.specs.Find.{as_bool, as_number, as_u64}
use Rattle.json_base.specs.Forms.{Form, IsExact, kept_if, kept_some}

abbrev pub number_of : Data → Option ℕ
number_of d = option_and_then as_u64 (as_number d)

abbrev pub number_form : Form ℕ
number_form = record { tree = λ n. number (unsigned n); read = λ h d. number_of d }

abbrev pub any_number : ℕ → ℕ → Type 0
any_number h n = ⊤

-- a number below 256
abbrev pub byte_form : Form ℕ
byte_form = record { tree = λ n. number (unsigned n); read = λ h d. option_and_then (λ n. kept_if (nat_lt n 256) n) (number_of d) }

abbrev pub is_byte : ℕ → ℕ → Type 0
is_byte h n = nat_lt n 256 ≡ true

abbrev pub truth_form : Form Bool
truth_form = record { tree = boolean; read = λ h d. as_bool d }

abbrev pub any_truth : ℕ → Bool → Type 0
any_truth h b = ⊤

-- ---- each of these is exact

number_told : (d : Data) (n : ℕ) → number_of d ≡ Some n → number (unsigned n) ≡ d
number_told null n e = absurd (cc)
number_told (boolean b) n e = absurd (cc)
number_told (number (unsigned m)) n e = cc
number_told (number (negative z)) n e = absurd (cc)
number_told (number (float x)) n e = absurd (cc)
number_told (string s) n e = absurd (cc)
number_told (array ds) n e = absurd (cc)
number_told (object ms) n e = absurd (cc)

pub number_exact : IsExact any_number number_form
number_exact = record { finds = λ h n f. refl; tells = λ h d n e. (number_told d n e, tt) }

byte_kept : (o : Option ℕ) (n : ℕ) → option_and_then (λ m. kept_if (nat_lt m 256) m) o ≡ Some n → (o ≡ Some n) × (nat_lt n 256 ≡ true)
byte_kept None n e = absurd (cc)
byte_kept (Some m) n e = kept_some (λ k. nat_lt k 256) m n e

pub byte_exact : IsExact is_byte byte_form
byte_exact = record {
  finds = λ h n f. rw f refl;
  tells = λ h d n e. let k = byte_kept (number_of d) n e in (number_told d n k.0, k.1);
}

truth_told : (d : Data) (b : Bool) → as_bool d ≡ Some b → boolean b ≡ d
truth_told null b e = absurd (cc)
truth_told (boolean c) b e = cc
truth_told (number n) b e = absurd (cc)
truth_told (string s) b e = absurd (cc)
truth_told (array ds) b e = absurd (cc)
truth_told (object ms) b e = absurd (cc)

pub truth_exact : IsExact any_truth truth_form
truth_exact = record { finds = λ h b f. refl; tells = λ h d b e. (truth_told d b e, tt) }
