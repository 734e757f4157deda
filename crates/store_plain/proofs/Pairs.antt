-- The version of a pair of a hash and a byte list.
use Rattle.std.proofs.Common.{◌≡◌, ℕ, ◌<◌, ◌≤◌, Bool, true, false, cond, ◌&&◌, not, nat_lt, nat_le, List, Option, Some, None, inl, inr, refl, sym, ap, ◌∙◌, arith}
use Rattle.std.specs.Option.{is_some}
use Rattle.std.proofs.lemmas.Bool.{cases_lt, lt-ltb, le-ltb, le-leb}
use Rattle.region_map.specs.declared.id.Id.{Id}
use Rattle.region_map.specs.declared.region.Region.{Region}
use Rattle.region_map.specs.Regions.{in_region}
use Rattle.branch_history.specs.declared.version.Version.{Version}
use Rattle.branch_history.specs.Paths.{zero}
use Rattle.region_map.proofs.Order.{before_nil}
use Rattle.store_api.specs.Versions.{point, is_behind, advanced}
use Rattle.store_plain.specs.Advances.{advanced_in}

none_there : {A : Type 0} (v : Option A) → is_some v ≡ false → v ≡ None
none_there None e = refl
none_there (Some x) e = cc

advanced_by : (branch : Id) (to : ℕ) (v : Option Version) (inside : Bool) → advanced_in branch to v (cond inside (Some true) None) ≡ cond (inside && is_behind branch to v) (Some (point branch to)) v
advanced_by branch to v true = refl
advanced_by branch to v false = refl

advanced_none : (inside : Bool) (p : Version) → cond (inside && false) (Some p) None ≡ None
advanced_none true p = refl
advanced_none false p = refl

-- the two maps together give each pair its new version
pub advanced_at : (part copy : Region) (branch : Id) (to hashes n h : ℕ) (k : List ℕ) (v new : Option Version) (inside : Option Bool)
    → is_some v ≡ nat_lt h hashes → n ≡ hashes → copy ≡ part → inside ≡ cond (nat_lt h n && in_region copy h k) (Some true) None
    → (h < hashes → new ≡ advanced_in branch to v inside) → (hashes ≤ h → new ≡ None) → new ≡ advanced part branch to h k v
advanced_at part copy branch to hashes n h k v new inside whole en ec is at beyond =
    elim (cases_lt h hashes) [
      | inl lt ↦
          let e : inside ≡ cond (in_region part h k) (Some true) None =
          is ∙ ap (λ x. cond (nat_lt h x && in_region copy h k) (Some true) None) en
          ∙ ap (λ x. cond (x && in_region copy h k) (Some true) None) (lt-ltb h hashes lt)
          ∙ ap (λ (x : Region). cond (in_region x h k) (Some true) None) ec in
          at lt ∙ ap (advanced_in branch to v) e ∙ advanced_by branch to v (in_region part h k)
      | inr ge ↦
          let none : v ≡ None = none_there v (whole ∙ le-ltb h hashes ge) in
          beyond ge ∙ sym (ap (λ x. advanced part branch to h k x) none ∙ advanced_none (in_region part h k) (point branch to))
    ]

and_again : (b : Bool) → (b && ((true && b) && true)) ≡ b
and_again true = refl
and_again false = refl

-- all pairs whose hash is one of so many
everything_has : (n h : ℕ) (k : List ℕ) → (nat_lt h n && in_region (record { hash_from = 0; hash_to = n; from = None; to = None }) h k) ≡ nat_lt h n
everything_has n h k =
    ap (λ x. nat_lt h n && ((nat_le 0 h && nat_lt h n) && (not x && true))) (before_nil k)
    ∙ ap (λ x. nat_lt h n && ((x && nat_lt h n) && true)) (le-leb 0 h (omega arith)) ∙ and_again (nat_lt h n)

-- each of them is at the zero version
pub begins_at : (n h : ℕ) (k : List ℕ) (first : Version) (v : Option Version) → first ≡ zero
    → v ≡ cond (nat_lt h n && in_region (record { hash_from = 0; hash_to = n; from = None; to = None }) h k) (Some first) None → v ≡ cond (nat_lt h n) (Some zero) None
begins_at n h k first v e is = is ∙ ap (λ x. cond x (Some first) None) (everything_has n h k) ∙ ap (λ x. cond (nat_lt h n) (Some x) None) e

pub begins_below : (n h : ℕ) (v : Option Version) → v ≡ cond (nat_lt h n) (Some zero) None → h < n → v ≡ Some zero
begins_below n h v is lt = is ∙ ap (λ x. cond x (Some zero) None) (lt-ltb h n lt)

some_there : (b : Bool) → is_some (cond b (Some zero) None) ≡ b
some_there true = refl
some_there false = refl

pub begins_whole : (n m h : ℕ) (v : Option Version) → v ≡ cond (nat_lt h n) (Some zero) None → m ≡ n → is_some v ≡ nat_lt h m
begins_whole n m h v is e = ap is_some is ∙ some_there (nat_lt h n) ∙ ap (nat_lt h) (sym e)
