-- The form of a set of nodes: the list of its members, rising, each below 64.
use Rattle.std.specs.Prelude.{◌≡◌, ℕ, ◌+◌, ◌<◌, ◌≤◌, ◌==◌, Bool, true, false, ◌&&◌, nat_lt, nat_le, List, [], ◌∷◌, ◌++◌, map, Option, Some, None, option_and_then, if◌then◌else◌}
use Rattle.std.specs.List.{AllByRecursion}
use Rattle.std.proofs.Common.{refl, sym, ap, ◌∙◌, subst, append-nil, append_assoc, arith}
use Rattle.std.proofs.lemmas.Bool.{and_parts, and_from}
use Rattle.std.proofs.lemmas.Bool.Decides.{nat_tests}
use Rattle.serde_json.specs.Data.{Data}
use Rattle.json_base.specs.Forms.{Form, IsExact, some_same}
use Rattle.json_base.specs.Objects.{bind_some}
use Rattle.json_base.specs.Parts.{list_form, list_fits, list_exact}
use Rattle.region_map.specs.declared.id.NodeId.{NodeId}
use Rattle.region_map.specs.Nodes.{node_id, with_member}
use Rattle.json_form.specs.Ids.{node_form, node_fits, node_exact}

-- members that rise from a number on
abbrev pub rises : ℕ → List ℕ → Bool
rises least [] = true
rises least (n ∷ ns) = nat_le least n && nat_lt n 64 && rises (n + 1) ns

-- the set with these members too, if they rise from a number on
abbrev pub with_rising : ℕ → List ℕ → List NodeId → Option (List ℕ)
with_rising least set [] = Some set
with_rising least set (n ∷ ns) = if nat_le least n.0 && nat_lt n.0 64 then with_rising (n.0 + 1) (with_member set n.0) ns else None

abbrev pub set_form : Form (List ℕ)
set_form = record { tree = λ set. (list_form node_form).tree (map node_id set); read = λ h d. option_and_then (with_rising 0 []) ((list_form node_form).read h d) }

abbrev pub set_fits : ℕ → List ℕ → Type 0
set_fits h set = rises 0 set ≡ true

-- ---- sets are read exactly

abbrev pub AreBelow : ℕ → List ℕ → Type 0
AreBelow n ks = AllByRecursion (λ k. k < n) ks

below_last : (n : ℕ) (ks : List ℕ) (least : ℕ) → least ≤ n → AreBelow least ks → AreBelow (n + 1) (ks ++ n ∷ [])
below_last n [] least h b = (omega arith, tt)
below_last n (k ∷ ks) least h b = (omega (arith, b.0), below_last n ks least h b.1)

not_below : (n k : ℕ) → k < n → nat_lt n k ≡ false
not_below n k h = grind (arith, nat_tests)

not_same : (n k : ℕ) → k < n → (k == n) ≡ false
not_same n k h = grind (arith, nat_tests)

le_from_test : (a b : ℕ) → nat_le a b ≡ true → a ≤ b
le_from_test a b h = grind (arith, nat_tests)

member_last : (n : ℕ) (ks : List ℕ) (least : ℕ) → least ≤ n → AreBelow least ks → with_member ks n ≡ ks ++ n ∷ []
member_last n [] least h b = refl
member_last n (k ∷ ks) least h b =
    rw (not_below n k (omega (arith, b.0)), not_same n k (omega (arith, b.0))) (ap (λ xs. k ∷ xs) (member_last n ks least h b.1))

rising_found : (least : ℕ) (front set : List ℕ) → AreBelow least front → rises least set ≡ true → with_rising least front (map node_id set) ≡ Some (front ++ set)
rising_found least front [] b e = ap Some (sym (append-nil front))
rising_found least front (n ∷ ns) b e =
    let p = and_parts (nat_le least n && nat_lt n 64) (rises (n + 1) ns) e in
    let h = le_from_test least n (and_parts (nat_le least n) (nat_lt n 64) p.0).0 in
    rw p.0 (ap (λ s. with_rising (n + 1) s (map node_id ns)) (member_last n front least h b)
    ∙ rising_found (n + 1) (front ++ n ∷ []) ns (below_last n front least h b) p.1 ∙ ap Some (append_assoc front (n ∷ []) ns))

abbrev pub numbers : List NodeId → List ℕ
numbers ns = map (λ (n : NodeId). n.0) ns

rising_told : (least : ℕ) (front : List ℕ) (ns : List NodeId) (set : List ℕ) → AreBelow least front → with_rising least front ns ≡ Some set
    → (front ++ numbers ns ≡ set) × (rises least (numbers ns) ≡ true)
rising_told least front [] set b e = (append-nil front ∙ some_same front set e, refl)
rising_told least front (n ∷ ns) set b e = by_test (nat_le least n.0 && nat_lt n.0 64) refl e (λ k f. rising_told (n.0 + 1) (front ++ n.0 ∷ []) ns set k f)
  where
    by_test : (t : Bool) → (nat_le least n.0 && nat_lt n.0 64) ≡ t → (if t then with_rising (n.0 + 1) (with_member front n.0) ns else None) ≡ Some set
        → (AreBelow (n.0 + 1) (front ++ n.0 ∷ []) → with_rising (n.0 + 1) (front ++ n.0 ∷ []) ns ≡ Some set → ((front ++ n.0 ∷ []) ++ numbers ns ≡ set) × (rises (n.0 + 1) (numbers ns) ≡ true))
        → (front ++ numbers (n ∷ ns) ≡ set) × (rises least (numbers (n ∷ ns)) ≡ true)
    by_test true q f again =
        let h = le_from_test least n.0 (and_parts (nat_le least n.0) (nat_lt n.0 64) q).0 in
        let r = again (below_last n.0 front least h b) (ap (λ s. with_rising (n.0 + 1) s ns) (sym (member_last n.0 front least h b)) ∙ f) in
        (sym (append_assoc front (n.0 ∷ []) (numbers ns)) ∙ r.0, and_from (nat_le least n.0 && nat_lt n.0 64) (rises (n.0 + 1) (numbers ns)) q r.1)
    by_test false q f again = absurd (cc)

byte_node : (n : ℕ) → nat_lt n 64 ≡ true → nat_lt n 256 ≡ true
byte_node n h = grind (arith, nat_tests)

nodes_fit : (h least : ℕ) (set : List ℕ) → rises least set ≡ true → list_fits node_fits h (map node_id set)
nodes_fit h least [] e = tt
nodes_fit h least (n ∷ ns) e =
    let p = and_parts (nat_le least n && nat_lt n 64) (rises (n + 1) ns) e in
    (byte_node n (and_parts (nat_le least n) (nat_lt n 64) p.0).1, nodes_fit h (n + 1) ns p.1)

nodes_again : (ns : List NodeId) → map node_id (numbers ns) ≡ ns
nodes_again [] = refl
nodes_again (n ∷ ns) = ap (λ ms. n ∷ ms) (nodes_again ns)

pub set_exact : IsExact set_fits set_form
set_exact = record { finds = found; tells = told }
  where
    list : IsExact (list_fits node_fits) (list_form node_form)
    list = list_exact node_fits node_form node_exact

    found : (h : ℕ) (set : List ℕ) → rises 0 set ≡ true → set_form.read h (set_form.tree set) ≡ Some set
    found h set k = rw (list.finds h (map node_id set) (nodes_fit h 0 set k)) (rising_found 0 [] set tt k)

    told : (h : ℕ) (d : Data) (set : List ℕ) → set_form.read h d ≡ Some set → (set_form.tree set ≡ d) × (rises 0 set ≡ true)
    told h d set e =
        let ns = bind_some ((list_form node_form).read h d) (with_rising 0 []) set e in
        let t = list.tells h d ns.0 ns.1 in
        let r = rising_told 0 [] ns.0 set tt ns.2 in (
          ap (λ s. (list_form node_form).tree (map node_id s)) (sym r.0) ∙ ap (λ ms. (list_form node_form).tree ms) (nodes_again ns.0) ∙ t.0,
          subst (λ s. rises 0 s ≡ true) r.0 r.1,
        )
