-- The forms of nodes, ids and numbers of operations: an id is the string `node.life.counter`.
use Rattle.std.specs.Prelude.{◌≡◌, ℕ, ◌+◌, ◌*◌, ◌-◌, ◌^◌, ◌<◌, ◌≤◌, Bool, true, false, ◌&&◌, ◌==◌, nat_lt, nat_le, List, [], ◌∷◌, ◌++◌, codes, decimal, bytes_eq, Option, Some, None, option_and_then, if◌then◌else◌}
use Rattle.std.specs.Char.{digit_value}
use Rattle.std.specs.Int.{IsInRange}
use Rattle.std.specs.Str.Parse.{AllDigits, digits_value_after}
use Rattle.std.proofs.Common.{refl, sym, ap, ◌∙◌, subst, append_assoc, arith}
use Rattle.std.proofs.lemmas.Bool.{and_parts}
use Rattle.std.proofs.lemmas.Bool.Decides.{nat_tests}
use Rattle.std.proofs.lemmas.Fmt.{decimal_is_IsNumeral}
use Rattle.std.proofs.lemmas.Slice.Eq.{bytes_eq-Decides}
use Rattle.std.proofs.lemmas.Str.{digit_value_digit}
use Rattle.std.proofs.lemmas.Str.Parse.{digit_from_value}
use Rattle.serde_json.specs.Data.{string}
use Rattle.serde_json.specs.Find.{as_str}
use Rattle.json_base.specs.Forms.{Form, IsExact, ◌>>=◌, kept_if, some_same, mapped}
use Rattle.json_base.specs.Numbers.{number_form, any_number, number_exact, byte_form, is_byte, byte_exact}
use Rattle.json_base.specs.Objects.{seen_fits, mapped_exact, bind_some, same_name}
use Rattle.json_base.specs.Texts.{text_told}
use Rattle.region_map.specs.declared.id.Id.{Id}
use Rattle.region_map.specs.declared.id.NodeId.{NodeId}
use Rattle.region_map.specs.Nodes.{node_id}
use Rattle.register_laws.specs.declared.operation.OpId.{OpId}

abbrev pub node_form : Form NodeId
node_form = mapped node_id (λ node. node.0) byte_form

abbrev pub node_fits : ℕ → NodeId → Type 0
node_fits = seen_fits (λ node. node.0) is_byte

pub node_exact : IsExact node_fits node_form
node_exact = mapped_exact node_id (λ node. node.0) (λ n. refl) (λ node. refl) is_byte byte_form byte_exact

abbrev pub op_id : ℕ → OpId
op_id n = record { 0 = n }

abbrev pub op_form : Form OpId
op_form = mapped op_id (λ op. op.0) number_form

abbrev pub op_fits : ℕ → OpId → Type 0
op_fits = seen_fits (λ op. op.0) any_number

pub op_exact : IsExact op_fits op_form
op_exact = mapped_exact op_id (λ op. op.0) (λ n. refl) (λ op. refl) any_number number_form number_exact

-- ---- ids

abbrev pub id_text : Id → List ℕ
id_text id = decimal id.node.0 ++ codes "." ++ decimal id.life ++ codes "." ++ decimal id.counter

-- the number that digits up to a dot write behind those of n, and what stands behind the dot
abbrev pub number_to_dot : ℕ → List ℕ → Option (ℕ × List ℕ)
number_to_dot n [] = Some (n, [])
number_to_dot n (c ∷ cs) =
    if c == 46 then Some (n, cs)
    else if nat_le 48 c && nat_le c 57 && nat_lt (n * 10 + (c - 48)) (2 ^ 64) then number_to_dot (n * 10 + (c - 48)) cs else None

-- the id that a text is; its numbers are written anew, so that no other text is one
abbrev pub id_of : List ℕ → Option Id
id_of s = do
  node ← number_to_dot 0 s
  life ← number_to_dot 0 node.1
  counter ← number_to_dot 0 life.1
  kept_if (nat_lt node.0 256 && bytes_eq (id_text (record { node = node_id node.0; life = life.0; counter = counter.0 })) s) (record { node = node_id node.0; life = life.0; counter = counter.0 })

abbrev pub id_form : Form Id
id_form = record { tree = λ id. string (id_text id); read = λ h d. option_and_then id_of (as_str d) }

pub record IsId (id : Id) : Type 0 where
  pub node : id.node.0 < 256
  pub life : id.life < 2 ^ 64
  pub counter : id.counter < 2 ^ 64

abbrev pub id_fits : ℕ → Id → Type 0
id_fits h id = IsId id

-- ---- ids are read exactly

kept_parts : {A : Type 0} (t : Bool) (a b : A) → kept_if t a ≡ Some b → (t ≡ true) × (a ≡ b)
kept_parts true a b e = (refl, some_same a b e)
kept_parts false a b e = absurd (cc)

after_ge : (n : ℕ) (ds : List ℕ) → n ≤ digits_value_after 10 n ds
after_ge n [] = omega arith
after_ge n (c ∷ cs) = omega (arith, after_ge (n * 10 + digit_value c) cs)

not_dot : (c : ℕ) → IsInRange 48 57 c → (c == 46) ≡ false
not_dot c k = grind (arith, nat_tests)

low : (c : ℕ) → IsInRange 48 57 c → nat_le 48 c ≡ true
low c k = grind (arith, nat_tests)

high : (c : ℕ) → IsInRange 48 57 c → nat_le c 57 ≡ true
high c k = grind (arith, nat_tests)

nat_lt-from : (a b : ℕ) → a < b → nat_lt a b ≡ true
nat_lt-from a b h = grind (arith, nat_tests)

lt_from_test : (a b : ℕ) → nat_lt a b ≡ true → a < b
lt_from_test a b h = grind (arith, nat_tests)

-- one more digit
plain_step : (n c : ℕ) (cs : List ℕ) → IsInRange 48 57 c → n * 10 + (c - 48) < 2 ^ 64 → number_to_dot n (c ∷ cs) ≡ number_to_dot (n * 10 + (c - 48)) cs
plain_step n c cs k fits = rw (not_dot c k, low c k, high c k, nat_lt-from (n * 10 + (c - 48)) (2 ^ 64) fits) refl

digit_step : (n c : ℕ) (cs : List ℕ) → IsInRange 48 57 c → n * 10 + digit_value c < 2 ^ 64 → number_to_dot n (c ∷ cs) ≡ number_to_dot (n * 10 + digit_value c) cs
digit_step n c cs k small =
    let v : c - 48 ≡ digit_value c = omega (arith, digit_value_digit c k) in
    plain_step n c cs k (subst (λ d. n * 10 + d < 2 ^ 64) (sym v) small) ∙ ap (λ d. number_to_dot (n * 10 + d) cs) v

up_to_end : (n : ℕ) (ds : List ℕ) → AllDigits 10 ds → digits_value_after 10 n ds < 2 ^ 64 → number_to_dot n ds ≡ Some (digits_value_after 10 n ds, [])
up_to_end n [] d small = refl
up_to_end n (c ∷ cs) d small =
    digit_step n c cs (digit_from_value c d.0) (omega (arith, after_ge (n * 10 + digit_value c) cs)) ∙ up_to_end (n * 10 + digit_value c) cs d.1 small

up_to_dot : (n : ℕ) (ds rest : List ℕ) → AllDigits 10 ds → digits_value_after 10 n ds < 2 ^ 64 → number_to_dot n (ds ++ 46 ∷ rest) ≡ Some (digits_value_after 10 n ds, rest)
up_to_dot n [] rest d small = refl
up_to_dot n (c ∷ cs) rest d small =
    digit_step n c (cs ++ 46 ∷ rest) (digit_from_value c d.0) (omega (arith, after_ge (n * 10 + digit_value c) cs)) ∙ up_to_dot (n * 10 + digit_value c) cs rest d.1 small

decimal_to_end : (n : ℕ) → n < 2 ^ 64 → number_to_dot 0 (decimal n) ≡ Some (n, [])
decimal_to_end n small =
    let k = decimal_is_IsNumeral n small in
    up_to_end 0 (decimal n) k.0.1 (subst (λ v. v < 2 ^ 64) (sym k.1) small) ∙ ap (λ v. Some (v, [])) k.1

decimal_to_dot : (n : ℕ) (rest : List ℕ) → n < 2 ^ 64 → number_to_dot 0 (decimal n ++ 46 ∷ rest) ≡ Some (n, rest)
decimal_to_dot n rest small =
    let k = decimal_is_IsNumeral n small in
    up_to_dot 0 (decimal n) rest k.0.1 (subst (λ v. v < 2 ^ 64) (sym k.1) small) ∙ ap (λ v. Some (v, rest)) k.1

-- what is read fits
read_small : (n : ℕ) (s : List ℕ) (p : ℕ × List ℕ) → n < 2 ^ 64 → number_to_dot n s ≡ Some p → p.0 < 2 ^ 64
read_small n [] p small e = subst (λ (q : ℕ × List ℕ). q.0 < 2 ^ 64) (some_same (n, []) p e) small
read_small n (c ∷ cs) p small e = at_dot (c == 46) e (λ fits f. read_small (n * 10 + (c - 48)) cs p fits f)
  where
    at_digit : (t : Bool) → (nat_le 48 c && nat_le c 57 && nat_lt (n * 10 + (c - 48)) (2 ^ 64)) ≡ t
        → (if t then number_to_dot (n * 10 + (c - 48)) cs else None) ≡ Some p → (n * 10 + (c - 48) < 2 ^ 64 → number_to_dot (n * 10 + (c - 48)) cs ≡ Some p → p.0 < 2 ^ 64) → p.0 < 2 ^ 64
    at_digit true q f again =
        let k = and_parts (nat_le 48 c && nat_le c 57) (nat_lt (n * 10 + (c - 48)) (2 ^ 64)) q in
        again (lt_from_test (n * 10 + (c - 48)) (2 ^ 64) k.1) f
    at_digit false q f again = absurd (cc)

    at_dot : (t : Bool) → (if t then Some (n, cs) else if nat_le 48 c && nat_le c 57 && nat_lt (n * 10 + (c - 48)) (2 ^ 64) then number_to_dot (n * 10 + (c - 48)) cs else None) ≡ Some p
        → (n * 10 + (c - 48) < 2 ^ 64 → number_to_dot (n * 10 + (c - 48)) cs ≡ Some p → p.0 < 2 ^ 64) → p.0 < 2 ^ 64
    at_dot true f again = subst (λ (q : ℕ × List ℕ). q.0 < 2 ^ 64) (some_same (n, cs) p f) small
    at_dot false f again = at_digit _ refl f again

abbrev id_with : ℕ → ℕ → ℕ → Id
id_with a b c = record { node = node_id a; life = b; counter = c }

three_numbers : (s r t : List ℕ) (a b c : ℕ) → number_to_dot 0 s ≡ Some (a, r) → number_to_dot 0 r ≡ Some (b, t) → number_to_dot 0 t ≡ Some (c, [])
    → nat_lt a 256 ≡ true → bytes_eq (id_text (id_with a b c)) s ≡ true → id_of s ≡ Some (id_with a b c)
three_numbers s r t a b c e f g h k = rw (e, f, g, h, k) refl

dots : (a b c : List ℕ) → a ++ codes "." ++ b ++ codes "." ++ c ≡ a ++ (46 ∷ (b ++ (46 ∷ c)))
dots a b c =
    append_assoc (a ++ codes "." ++ b) (codes ".") c ∙ append_assoc (a ++ codes ".") b (46 ∷ c) ∙ append_assoc a (codes ".") (b ++ (46 ∷ c))

id_found : (id : Id) → IsId id → id_of (id_text id) ≡ Some id
id_found id k = three_numbers (id_text id) (decimal id.life ++ (46 ∷ decimal id.counter)) (decimal id.counter) id.node.0 id.life id.counter
    (ap (λ s. number_to_dot 0 s) (dots (decimal id.node.0) (decimal id.life) (decimal id.counter)) ∙ decimal_to_dot id.node.0 (decimal id.life ++ (46 ∷ decimal id.counter)) (omega (arith, k.node)))
    (decimal_to_dot id.life (decimal id.counter) k.life)
    (decimal_to_end id.counter k.counter)
    (nat_lt-from id.node.0 256 k.node) (same_name (id_text id))

id_told : (s : List ℕ) (id : Id) → id_of s ≡ Some id → (id_text id ≡ s) × IsId id
id_told s id e =
    let a = bind_some (number_to_dot 0 s) _ id e in
    let b = bind_some (number_to_dot 0 a.0.1) _ id a.2 in
    let c = bind_some (number_to_dot 0 b.0.1) _ id b.2 in
    let x : Id = record { node = node_id a.0.0; life = b.0.0; counter = c.0.0 } in
    let k = kept_parts (nat_lt a.0.0 256 && bytes_eq (id_text x) s) x id c.2 in
    let p = and_parts (nat_lt a.0.0 256) (bytes_eq (id_text x) s) k.0 in
    subst (λ y. (id_text y ≡ s) × IsId y) k.1 (
      (bytes_eq-Decides (id_text x) s).0 p.1,
      record { node = lt_from_test a.0.0 256 p.0; life = read_small 0 a.0.1 b.0 (omega arith) b.1; counter = read_small 0 b.0.1 c.0 (omega arith) c.1 },
    )

pub id_exact : IsExact id_fits id_form
id_exact = record {
  finds = λ h id k. id_found id k;
  tells = λ h d id e. let s = bind_some (as_str d) id_of id e in let t = id_told s.0 id s.2 in (ap string t.0 ∙ text_told d s.0 s.1, t.1);
}
