-- Where the version of a pair stands at the node that leads it, through the rows of inputs.
use Rattle.std.proofs.Common.{◌≡◌, ◌⊎◌, ℕ, ◌+◌, ◌≤◌, ◌<◌, ◌&&◌, true, false, cond, nat_lt, nat_le, List, [], ◌∷◌, ◌++◌, Some, inl, inr, refl, sym, ap, ◌∙◌, subst, arith}
use Rattle.std.proofs.lemmas.Bool.{cases_Bool, both_ways, and_from, lt-ltb, le-leb}
use Rattle.change_runs.specs.runs.region_map.declared.id.Id.{Id}
use Rattle.change_runs.specs.runs.region_map.declared.region.Region.{Region}
use Rattle.change_runs.specs.runs.region_map.Keys.{hash_of}
use Rattle.change_runs.specs.runs.region_map.Regions.{in_region}
use Rattle.change_runs.specs.runs.region_map.Nodes.{node_id}
use Rattle.change_runs.specs.runs.region_map.Maps.{Pieced, value_at}
use Rattle.change_runs.specs.runs.branch_history.declared.version.Version.{Version}
use Rattle.change_runs.specs.runs.branch_history.declared.history.BranchBirth.{BranchBirth}
use Rattle.change_runs.specs.runs.branch_history.Paths.{Branches, is_branch, is_on, origin_at}
use Rattle.change_runs.specs.runs.branch_history.Histories.{birth_of, IsHistory}
use Rattle.change_runs.proofs.runs.branch_history.PathLaws.{id_self, on_forward}
use Rattle.change_runs.proofs.runs.branch_history.Births.{inside_birth}
use Rattle.change_runs.proofs.runs.branch_history.Grown.{points_stay}
use Rattle.change_runs.specs.runs.contract_types.Setup.{SetupState}
use Rattle.change_runs.specs.runs.contract_types.Tables.{first_contracts}
use Rattle.change_runs.specs.runs.contract_types.Tilings.{holders}
use Rattle.change_runs.specs.runs.store_api.Versions.{point, is_behind, advanced_map}
use Rattle.change_runs.proofs.runs.store_api.VersionMaps.{advanced_map_at}
use Rattle.change_runs.specs.runs.primary_exec.declared.asking.Asking.{Asking}
use Rattle.change_runs.specs.runs.Story.{Point, IsIn}
use Rattle.change_runs.specs.runs.Stored.{CameAbout}
use Rattle.change_runs.specs.runs.Stored.{Begun, Synced, Taken}
use Rattle.change_runs.proofs.Asked.{is_keyed}
use Rattle.change_runs.proofs.step_runs.RegisterStory.{same_key-true}
use Rattle.change_runs.proofs.step_runs.Told.{IsIn-left, IsIn-append, IsIn-right}
use Rattle.change_runs.proofs.LedHistories.{some_inner, birth_known, birth_longer, newer_apart}
use Rattle.lead_runs.proofs.LedRows.{Lead, Kept, Done, Still, Dispatches, Streams, GoesDown, ComesUp}
use Rattle.lead_runs.proofs.LedRoles.{lead_region, Roles, middle_count, one_of_few}

-- the version of a pair stands on a branch that is registered, and every point of the key lies on its path; what asks for a branch
-- does so in a later life than that in which this branch was made, and what writes one stands at the version
pub record Led (H : Branches) (g : ℕ) (key : List ℕ) (ps : List Point) (version : Version) (branch : Id) (k : Kept) : Type 0 where
  pub version_is : value_at k.versions.pieces g key ≡ Some version
  pub branch_is : version.branch ≡ Some branch
  pub birth : BranchBirth
  pub registered : birth_of H branch ≡ Some birth
  pub inside : in_region birth.region g key ≡ true
  pub initial : birth.initial ≤ version.timestamp
  pub came : CameAbout ps branch birth version.timestamp
  pub points_on : (q : Point) → IsIn ps q → is_keyed key q ≡ true → is_on H g key version (point q.branch q.timestamp) ≡ true
  pub life : branch.life ≤ k.life
  pub earlier : (a : Asking) → IsIn k.asking a → in_region a.contract.region g key ≡ true → branch.life < k.life
  pub stands : (x : Lead) → IsIn k.leads x → in_region x.contract.region g key ≡ true → version ≡ point x.branch x.last

-- some branch is written that has the pair
pub record HasLead (g : ℕ) (key : List ℕ) (xs : List Lead) : Type 0 where
  pub x : Lead
  pub is_in : IsIn xs x
  pub has : in_region x.contract.region g key ≡ true

-- ---- more points of other keys, and a longer history

-- what came about stays so
came_more : (ps qs : List Point) (branch : Id) (birth : BranchBirth) (at : ℕ) → CameAbout ps branch birth at → CameAbout (ps ++ qs) branch birth at
came_more ps qs branch birth at (Begun life is) = Begun life is
came_more ps qs branch birth at (Synced life is) = Synced life is
came_more ps qs branch birth at (Taken p i of is) = Taken p (IsIn-left ps qs p i) of is

pub led_more : (H : Branches) (g : ℕ) (key : List ℕ) (ps qs : List Point) (version : Version) (branch : Id) (k : Kept) → Led H g key ps version branch k
    → ((q : Point) → IsIn qs q → is_keyed key q ≡ true → ⊥) → Led H g key (ps ++ qs) version branch k
led_more H g key ps qs version branch k l other =
    record {
      version_is = l.version_is;
      branch_is = l.branch_is;
      birth = l.birth;
      registered = l.registered;
      inside = l.inside;
      initial = l.initial;
      came = came_more ps qs branch l.birth version.timestamp l.came;
      points_on = λ q i e. elim (IsIn-append ps qs q i) [ inl old ↦ l.points_on q old e | inr new ↦ absurd (other q new e) ];
      life = l.life;
      earlier = l.earlier;
      stands = l.stands;
    }

pub led_longer : (newer H : Branches) (g : ℕ) (key : List ℕ) (ps : List Point) (version : Version) (branch : Id) (k : Kept) → IsHistory (newer ++ H) → Led H g key ps version branch k
    → Led (newer ++ H) g key ps version branch k
led_longer newer H g key ps version branch k hist l =
    record {
      version_is = l.version_is;
      branch_is = l.branch_is;
      birth = l.birth;
      registered = birth_longer newer H branch (newer_apart newer H branch hist (birth_known H branch l.birth l.registered)) ∙ l.registered;
      inside = l.inside;
      initial = l.initial;
      came = l.came;
      points_on = λ q i e. points_stay newer H g key version (point q.branch q.timestamp) hist (l.points_on q i e);
      life = l.life;
      earlier = l.earlier;
      stands = l.stands;
    }

-- ---- versions of one pair

pub advanced_outside : (region : Region) (branch : Id) (at : ℕ) (m : Pieced Version) (g : ℕ) (key : List ℕ) → g < m.hashes → in_region region g key ≡ false
    → value_at (advanced_map region branch at m).pieces g key ≡ value_at m.pieces g key
advanced_outside region branch at m g key lt out =
    advanced_map_at region branch at m g key lt ∙ ap (λ b. cond (b && is_behind branch at (value_at m.pieces g key)) (Some (point branch at)) (value_at m.pieces g key)) out

pub advanced_inside : (region : Region) (branch : Id) (at : ℕ) (m : Pieced Version) (g : ℕ) (key : List ℕ) → g < m.hashes → in_region region g key ≡ true
    → value_at m.pieces g key ≡ Some (point branch at) → value_at (advanced_map region branch (at + 1) m).pieces g key ≡ Some (point branch (at + 1))
advanced_inside region branch at m g key lt has stands =
    let behind : is_behind branch (at + 1) (value_at m.pieces g key) ≡ true =
    ap (is_behind branch (at + 1)) stands ∙ and_from _ (nat_lt at (at + 1)) (id_self branch) (lt-ltb at (at + 1) (omega arith)) in
    advanced_map_at region branch (at + 1) m g key lt
    ∙ ap (λ b. cond b (Some (point branch (at + 1))) (value_at m.pieces g key)) (and_from (in_region region g key) (is_behind branch (at + 1) (value_at m.pieces g key)) has behind)

-- a point of a branch lies on its own path
pub on_own : (H : Branches) (g : ℕ) (key : List ℕ) (branch : Id) (birth : BranchBirth) (at : ℕ) → IsHistory H → birth_of H branch ≡ Some birth → in_region birth.region g key ≡ true → birth.initial ≤ at
    → is_on H g key (point branch at) (point branch at) ≡ true
on_own H g key branch birth at hist registered inside initial =
    let v : Version = point branch at in
    let own : (is_branch v branch && (nat_le birth.initial at && nat_le at at)) ≡ true =
    and_from _ _ (id_self branch) (and_from _ _ (le-leb birth.initial at initial) (le-leb at at (omega arith))) in
    inside_birth H g key branch birth v v hist registered refl inside ∙ ap (λ c. cond c true (is_on H g key (origin_at birth g key) v)) own

-- ---- lists

in_middle : (before after : List Lead) (x : Lead) → IsIn (before ++ x ∷ after) x
in_middle before after x = IsIn-right before (x ∷ after) x (inl refl)

changed_in : (before after : List Lead) (x z y : Lead) → IsIn (before ++ z ∷ after) y → (z ≡ y) ⊎ IsIn (before ++ x ∷ after) y
changed_in [] after x z y i = elim i [ inl e ↦ inl e | inr j ↦ inr (inr j) ]
changed_in (b ∷ before) after x z y i =
    elim i [
      | inl e ↦ inr (inl e)
      | inr j ↦ elim (changed_in before after x z y j) [ inl e ↦ inl e | inr m ↦ inr (inr m) ]
    ]

-- ---- rows

pub record RowLed (H : Branches) (g : ℕ) (key : List ℕ) (ps : List Point) (version : Version) (branch : Id) (next : Kept) : Type 0 where
  pub now : Version
  pub led : Led H g key ps now branch next
  pub same : (now ≡ version) ⊎ HasLead g key next.leads

module _ (setup : SetupState) (n : ℕ) (H : Branches) (hist : IsHistory H) (key : List ℕ) (within : hash_of key setup.hashes < setup.hashes) (ps : List Point) (version : Version) (branch : Id) (k : Kept)
    (r : Roles setup n k) (l : Led H (hash_of key setup.hashes) key ps version branch k)
    (follows : (region : Region) → IsIn k.followed region → in_region region (hash_of key setup.hashes) key ≡ false) where
  abbrev g : ℕ
  g = hash_of key setup.hashes

  wide : g < k.versions.hashes
  wide = let e = r.hashes_are in omega (arith, within, e)

  none_new : (qs : List Point) → qs ≡ [] → (q : Point) → IsIn qs q → is_keyed key q ≡ true → ⊥
  none_new qs e q i keyed = subst (λ (t : List Point). IsIn t q) e i

  more : (qs : List Point) → qs ≡ [] → Led H g key (ps ++ qs) version branch k
  more qs e = led_more H g key ps qs version branch k l (none_new qs e)

  -- the pair's own branch takes the next point
  here : (before after : List Lead) (x : Lead) (q : Point) → k.leads ≡ before ++ x ∷ after → q.branch ≡ x.branch → q.timestamp ≡ x.last + 1 → in_region x.contract.region g key ≡ true
      → RowLed H g key (ps ++ q ∷ []) version branch (record k { versions = advanced_map x.contract.region x.branch (x.last + 1) k.versions; leads = before ++ record x { last = x.last + 1 } ∷ after })
  here before after x q these from time has =
      let y : Lead = record x { last = x.last + 1 } in
      let v : Version = point x.branch (x.last + 1) in
      let stands : version ≡ point x.branch x.last = l.stands x (subst (λ (t : List Lead). IsIn t x) (sym these) (in_middle before after x)) has in
      let same_branch : x.branch ≡ branch = some_inner x.branch branch (ap (λ (w : Version). w.branch) (sym stands) ∙ l.branch_is) in
      let of : version.branch ≡ v.branch = ap (λ (w : Version). w.branch) stands in
      let at : version.timestamp ≡ x.last = ap (λ (w : Version). w.timestamp) stands in
      let begins = l.initial in
      let few : holders lead_region (before ++ y ∷ after) g key ≤ 1 =
      let o = r.one g key in
      let c = ap (λ (t : List Lead). holders lead_region t g key) these in
      let d = middle_count before after x y g key refl in
      omega (arith, o, c, d) in
      let on : is_on H g key v v ≡ true =
      subst (λ (i : Id). is_on H g key (point i (x.last + 1)) (point i (x.last + 1)) ≡ true) (sym same_branch) (on_own H g key branch l.birth (x.last + 1) hist l.registered l.inside (omega (arith, begins, at))) in
      record {
        now = v;
        led = record {
          version_is = advanced_inside x.contract.region x.branch x.last k.versions g key wide has (l.version_is ∙ ap Some stands);
          branch_is = ap Some same_branch;
          birth = l.birth;
          registered = l.registered;
          inside = l.inside;
          initial = omega (arith, begins, at);
          came = Taken q (IsIn-right ps (q ∷ []) q (inl refl)) (from ∙ same_branch) time;
          points_on = λ p i e. elim (IsIn-append ps (q ∷ []) p i) [
            | inl old ↦ on_forward H g key version v (point p.branch p.timestamp) of (omega (arith, at)) (l.points_on p old e)
            | inr new ↦ elim new [
              | inl is ↦ subst (λ (t : Point). is_on H g key v (point t.branch t.timestamp) ≡ true) is
                  (subst (λ (w : Version). is_on H g key v w ≡ true) (λ j. point (sym from j) (sym time j)) on)
              | inr no' ↦ absurd no'
            ]
          ];
          life = l.life;
          earlier = l.earlier;
          stands = λ z i p.
              let is : y ≡ z = one_of_few lead_region (before ++ y ∷ after) g key few y z (in_middle before after y) i has p in
              ap (λ (w : Lead). point w.branch w.last) is;
        };
        same = inr (record { x = y; is_in = in_middle before after y; has = has });
      }

  -- another branch does
  there : (before after : List Lead) (x : Lead) (q : Point) → k.leads ≡ before ++ x ∷ after → in_region x.contract.region (hash_of q.key setup.hashes) q.key ≡ true → in_region x.contract.region g key ≡ false
      → RowLed H g key (ps ++ q ∷ []) version branch (record k { versions = advanced_map x.contract.region x.branch (x.last + 1) k.versions; leads = before ++ record x { last = x.last + 1 } ∷ after })
  there before after x q these has out =
      let y : Lead = record x { last = x.last + 1 } in
      let moved = led_more H g key ps (q ∷ []) version branch k l (λ p i keyed. elim i [
        | inl is ↦
            let same : q.key ≡ key = ap (λ (t : Point). t.key) is ∙ same_key-true p.key key keyed in
            both_ways _ out (subst (λ (t : List ℕ). in_region x.contract.region (hash_of t setup.hashes) t ≡ true) same has)
        | inr no' ↦ no'
      ]) in
      record {
        now = version;
        led = record {
          version_is = advanced_outside x.contract.region x.branch (x.last + 1) k.versions g key wide out ∙ l.version_is;
          branch_is = l.branch_is;
          birth = l.birth;
          registered = l.registered;
          inside = l.inside;
          initial = l.initial;
          came = came_more ps (q ∷ []) branch l.birth version.timestamp l.came;
          points_on = moved.points_on;
          life = l.life;
          earlier = l.earlier;
          stands = λ z i p. elim (changed_in before after x y z i) [
            | inl is ↦ absurd (both_ways _ out (subst (λ (w : Lead). in_region w.contract.region g key ≡ true) (sym is) p))
            | inr old ↦ l.stands z (subst (λ (t : List Lead). IsIn t z) (sym these) old) p
          ];
        };
        same = inl refl;
      }

  pub led_row : (next : Kept) (qs : List Point) → Done (node_id n) setup.hashes (first_contracts 0 setup.shards) k next qs → RowLed H g key (ps ++ qs) version branch next
  led_row next qs (Still e none) = subst (RowLed H g key (ps ++ qs) version branch) (sym e) (record { now = version; led = more qs none; same = inl refl })
  led_row next qs (Dispatches before after x q these has from time e none) =
      subst (RowLed H g key (ps ++ qs) version branch) (sym e)
      (subst (λ (t : List Point). RowLed H g key (ps ++ t) version branch (record k { versions = advanced_map x.contract.region x.branch (x.last + 1) k.versions; leads = before ++ record x { last = x.last + 1 } ∷ after })) (sym none)
      (elim (cases_Bool (in_region x.contract.region g key)) [ inl in_it ↦ here before after x q these from time in_it | inr out ↦ there before after x q these has out ]))
  led_row next qs (Streams region b at i e none) =
      let m = more qs none in
      subst (RowLed H g key (ps ++ qs) version branch) (sym e) (record {
        now = version;
        led = record {
          version_is = advanced_outside region b at k.versions g key wide (follows region i) ∙ l.version_is;
          branch_is = l.branch_is;
          birth = l.birth;
          registered = l.registered;
          inside = l.inside;
          initial = l.initial;
          came = came_more ps qs branch l.birth version.timestamp l.came;
          points_on = m.points_on;
          life = l.life;
          earlier = l.earlier;
          stands = l.stands;
        };
        same = inl refl;
      })
  led_row next qs (GoesDown e none) =
      let m = more qs none in
      subst (RowLed H g key (ps ++ qs) version branch) (sym e) (record {
        now = version;
        led = record {
          version_is = l.version_is;
          branch_is = l.branch_is;
          birth = l.birth;
          registered = l.registered;
          inside = l.inside;
          initial = l.initial;
          came = came_more ps qs branch l.birth version.timestamp l.came;
          points_on = m.points_on;
          life = l.life;
          earlier = λ a i p. absurd i;
          stands = λ x i p. absurd i;
        };
        same = inl refl;
      })
  led_row next qs (ComesUp e none) =
      let m = more qs none in
      let made = l.life in
      subst (RowLed H g key (ps ++ qs) version branch) (sym e) (record {
        now = version;
        led = record {
          version_is = l.version_is;
          branch_is = l.branch_is;
          birth = l.birth;
          registered = l.registered;
          inside = l.inside;
          initial = l.initial;
          came = came_more ps qs branch l.birth version.timestamp l.came;
          points_on = m.points_on;
          life = omega (arith, made);
          earlier = λ a i p. omega (arith, made);
          stands = λ x i p. absurd i;
        };
        same = inl refl;
      })
