-- Where the version of a pair stands at the node that leads it, as primaries start.
use Rattle.std.proofs.Common.{◌≡◌, ◌⊎◌, ℕ, ◌+◌, ◌<◌, ◌&&◌, true, false, cond, nat_lt, nat_le, List, [], ◌∷◌, ◌++◌, Option, Some, None, is_some, inl, inr, refl, sym, ap, ◌∙◌, subst, arith}
use Rattle.std.proofs.lemmas.Bool.{cases_Bool, cond_both, both_ways}
use Rattle.change_runs.specs.runs.region_map.declared.id.Id.{Id}
use Rattle.change_runs.specs.runs.region_map.declared.id.NodeId.{NodeId}
use Rattle.change_runs.specs.runs.region_map.Regions.{in_region}
use Rattle.change_runs.specs.runs.region_map.Maps.{Pieced, value_at}
use Rattle.change_runs.specs.runs.branch_history.declared.version.Version.{Version}
use Rattle.change_runs.specs.runs.branch_history.declared.history.BranchBirth.{BranchBirth}
use Rattle.change_runs.specs.runs.branch_history.Paths.{Branches, is_branch, or_zero, origin_at, is_on}
use Rattle.change_runs.specs.runs.branch_history.Histories.{birth_of, IsHistory}
use Rattle.change_runs.proofs.runs.branch_history.Births.{inside_birth}
use Rattle.change_runs.specs.runs.contract_types.declared.contract.Contract.{Contract}
use Rattle.change_runs.specs.runs.contract_types.Setup.{SetupState}
use Rattle.change_runs.specs.runs.contract_types.Tables.{Table}
use Rattle.change_runs.specs.runs.store_api.Versions.{point, replaced_map}
use Rattle.change_runs.proofs.runs.store_api.VersionMaps.{replaced_map_hashes, replaced_map_at}
use Rattle.change_runs.specs.runs.primary_exec.declared.asking.Asking.{Asking}
use Rattle.change_runs.specs.runs.primary_exec.Execution.{Execution, started}
use Rattle.change_runs.specs.runs.node_core.Starting.{Starting, place_of, placed, due, start_one, start_each}
use Rattle.change_runs.specs.runs.Story.{Point, IsIn}
use Rattle.change_runs.specs.runs.Stored.{Synced}
use Rattle.change_runs.proofs.step_runs.Told.{IsIn-append}
use Rattle.lead_runs.proofs.LedRows.{Lead, lead_of, leads_of, Kept}
use Rattle.lead_runs.proofs.LedRoles.{lead_region, asking_region, placed_there, some_there, count_first, AreStarting, one_starting}
use Rattle.lead_runs.proofs.LedMoves.{Led, HasLead, advanced_outside, advanced_inside}

-- what a node keeps while some of those that ask were looked at
abbrev pub kept_in : ℕ → Starting → List Asking → Kept
kept_in life s rest = record { life = life; versions = s.versions; asking = s.asking ++ rest; leads = leads_of s.executions; followed = [] }

-- a branch that may start is registered, from the version at which the pair stands
pub record IsDue (H : Branches) (g : ℕ) (key : List ℕ) (life : ℕ) (version : Version) (a : Asking) (initial : ℕ) : Type 0 where
  pub birth : BranchBirth
  pub registered : birth_of H a.branch ≡ Some birth
  pub initial_is : birth.initial ≡ initial
  pub inside : in_region birth.region g key ≡ true
  pub origin : value_at birth.origin.pieces g key ≡ Some version
  pub own : a.branch.life ≡ life

-- ---- lists

placed_in : (cs : List Contract) (x : Execution) (ys : List Execution) (l : Lead) → IsIn (leads_of (placed cs x ys)) l → (lead_of x ≡ l) ⊎ IsIn (leads_of ys) l
placed_in cs x [] l i = i
placed_in cs x (y ∷ ys) l i =
    cond_both (nat_lt (place_of cs x.contract.id) (place_of cs y.contract.id)) (x ∷ y ∷ ys) (y ∷ placed cs x ys) (λ (m : List Execution). IsIn (leads_of m) l → (lead_of x ≡ l) ⊎ IsIn (leads_of (y ∷ ys)) l)
    (λ _ j. j)
    (λ _ j. elim j [
      | inl e ↦ inr (inl e)
      | inr m ↦ elim (placed_in cs x ys l m) [ inl e ↦ inl e | inr t ↦ inr (inr t) ]
    ]) i

moved_in : (done : List Asking) (a : Asking) (rest : List Asking) (y : Asking) → IsIn ((done ++ a ∷ []) ++ rest) y → IsIn (done ++ a ∷ rest) y
moved_in [] a rest y i = i
moved_in (d ∷ done) a rest y i = elim i [ inl e ↦ inl e | inr j ↦ inr (moved_in done a rest y j) ]

dropped_in : (done : List Asking) (a : Asking) (rest : List Asking) (y : Asking) → IsIn (done ++ rest) y → IsIn (done ++ a ∷ rest) y
dropped_in [] a rest y i = inr i
dropped_in (d ∷ done) a rest y i = elim i [ inl e ↦ inl e | inr j ↦ inr (dropped_in done a rest y j) ]

-- ---- one that asks

pub record StartLed (H : Branches) (g : ℕ) (key : List ℕ) (ps : List Point) (life : ℕ) (version : Version) (branch : Id) (s : Starting) (rest : List Asking) : Type 0 where
  pub now : Version
  pub at : Id
  pub led : Led H g key ps now at (kept_in life s rest)
  pub same : ((now ≡ version) × (at ≡ branch)) ⊎ HasLead g key (leads_of s.executions)

module _ (setup : SetupState) (n life : ℕ) (H : Branches) (hist : IsHistory H) (g : ℕ) (key : List ℕ) (within : g < setup.hashes) (ps : List Point) (me : NodeId) (cs : List Contract) where
  -- it still waits
  waits_on : (version : Version) (branch : Id) (a : Asking) (rest : List Asking) (s : Starting) → Led H g key ps version branch (kept_in life s (a ∷ rest))
      → StartLed H g key ps life version branch (start_one me cs a None s) rest
  waits_on version branch a rest s l =
      record {
        now = version;
        at = branch;
        led = record {
          version_is = l.version_is;
          branch_is = l.branch_is;
          birth = l.birth;
          registered = l.registered;
          inside = l.inside;
          initial = l.initial;
          came = l.came;
          points_on = l.points_on;
          life = l.life;
          earlier = λ y i p. l.earlier y (moved_in s.asking a rest y i) p;
          stands = l.stands;
        };
        same = inl (refl, refl);
      }

  wide : (s : Starting) → s.versions.hashes ≡ setup.hashes → g < s.versions.hashes
  wide s e = omega (arith, within, e)

  replaced_wide : (s : Starting) (a : Asking) (initial : ℕ) → s.versions.hashes ≡ setup.hashes → g < (replaced_map a.contract.region (point a.branch initial) s.versions).hashes
  replaced_wide s a initial e = let f = replaced_map_hashes a.contract.region (point a.branch initial) s.versions in omega (arith, within, e, f)

  -- a branch of other pairs starts
  starts_beside : (version : Version) (branch : Id) (a : Asking) (rest : List Asking) (initial : ℕ) (s : Starting) → AreStarting setup n life s (a ∷ rest) → Led H g key ps version branch (kept_in life s (a ∷ rest))
      → in_region a.contract.region g key ≡ false → StartLed H g key ps life version branch (start_one me cs a (Some initial) s) rest
  starts_beside version branch a rest initial s h l out =
      let first : Version = point a.branch initial in
      let between : Pieced Version = replaced_map a.contract.region first s.versions in
      record {
        now = version;
        at = branch;
        led = record {
          version_is =
              advanced_outside a.contract.region a.branch (initial + 1) between g key (replaced_wide s a initial h.hashes_are) out
              ∙ replaced_map_at a.contract.region first s.versions g key (wide s h.hashes_are)
              ∙ ap (λ b. cond (b && is_some (value_at s.versions.pieces g key)) (Some first) (value_at s.versions.pieces g key)) out ∙ l.version_is;
          branch_is = l.branch_is;
          birth = l.birth;
          registered = l.registered;
          inside = l.inside;
          initial = l.initial;
          came = l.came;
          points_on = l.points_on;
          life = l.life;
          earlier = λ y i p. l.earlier y (dropped_in s.asking a rest y i) p;
          stands = λ y i p. elim (placed_in cs (started a me initial) s.executions y i) [
            | inl e ↦ absurd (both_ways _ out (subst (λ (x : Lead). in_region x.contract.region g key ≡ true) (sym e) p))
            | inr j ↦ l.stands y j p
          ];
        };
        same = inl (refl, refl);
      }

  -- the branch of the pair starts
  starts_here : (version : Version) (branch : Id) (a : Asking) (rest : List Asking) (initial : ℕ) (s : Starting) → AreStarting setup n life s (a ∷ rest) → Led H g key ps version branch (kept_in life s (a ∷ rest))
      → in_region a.contract.region g key ≡ true → IsDue H g key life version a initial → StartLed H g key ps life version branch (start_one me cs a (Some initial) s) rest
  starts_here version branch a rest initial s h l has d =
      let first : Version = point a.branch initial in
      let v : Version = point a.branch (initial + 1) in
      let between : Pieced Version = replaced_map a.contract.region first s.versions in
      let there : value_at between.pieces g key ≡ Some first =
      replaced_map_at a.contract.region first s.versions g key (wide s h.hashes_are)
      ∙ ap (λ b. cond (b && is_some (value_at s.versions.pieces g key)) (Some first) (value_at s.versions.pieces g key)) has
      ∙ ap (λ o. cond (is_some o) (Some first) o) l.version_is in
      let begins = d.initial_is in
      let own = d.own in
      let o = h.one g key in
      let c = count_first asking_region a rest g key in
      let one : ◌≡◌ {A = ℕ} (cond (in_region a.contract.region g key) 1 0) 1 = ap (λ b. cond b 1 0) has in
      let origin : origin_at d.birth g key ≡ version = ap or_zero d.origin in
      record {
        now = v;
        at = a.branch;
        led = record {
          version_is = advanced_inside a.contract.region a.branch initial between g key (replaced_wide s a initial h.hashes_are) has there;
          branch_is = refl;
          birth = d.birth;
          registered = d.registered;
          inside = d.inside;
          initial = omega (arith, begins);
          came = let later = h.rest_are.0.later in Synced (omega (arith, own, later)) (omega (arith, begins));
          points_on = λ q i e.
              let w : Version = point q.branch q.timestamp in
              let older : is_on H g key (origin_at d.birth g key) w ≡ true = subst (λ (u : Version). is_on H g key u w ≡ true) (sym origin) (l.points_on q i e) in
              inside_birth H g key a.branch d.birth v w hist d.registered refl d.inside
              ∙ elim (is_branch w a.branch && (nat_le d.birth.initial w.timestamp && nat_le w.timestamp v.timestamp)) as (λ b. cond b true (is_on H g key (origin_at d.birth g key) w) ≡ true) [
                | true ↦ refl
                | false ↦ older
              ];
          life = omega (arith, own);
          earlier = λ y i p.
              elim (IsIn-append s.asking rest y i) [
                | inl j ↦ let t = some_there asking_region s.asking g key y j p in absurd (omega (arith, o, c, one, t))
                | inr j ↦ let t = some_there asking_region rest g key y j p in absurd (omega (arith, o, c, one, t))
              ];
          stands = λ y i p. elim (placed_in cs (started a me initial) s.executions y i) [
            | inl e ↦ ap (λ (x : Lead). point x.branch x.last) e
            | inr j ↦ let t = some_there lead_region (leads_of s.executions) g key y j p in absurd (omega (arith, o, c, one, t))
          ];
        };
        same = inr (record { x = lead_of (started a me initial); is_in = placed_there cs (started a me initial) s.executions (lead_of (started a me initial)) (inl refl); has = has });
      }

  one_started : (version : Version) (branch : Id) (a : Asking) (rest : List Asking) (o : Option ℕ) (s : Starting) → AreStarting setup n life s (a ∷ rest) → Led H g key ps version branch (kept_in life s (a ∷ rest))
      → (in_region a.contract.region g key ≡ true → (initial : ℕ) → o ≡ Some initial → IsDue H g key life version a initial) → StartLed H g key ps life version branch (start_one me cs a o s) rest
  one_started version branch a rest None s h l d = waits_on version branch a rest s l
  one_started version branch a rest (Some initial) s h l d =
      elim (cases_Bool (in_region a.contract.region g key)) [
        | inl has ↦ starts_here version branch a rest initial s h l has (d has initial refl)
        | inr out ↦ starts_beside version branch a rest initial s h l out
      ]

-- what is written stays so
one_there : (me : NodeId) (cs : List Contract) (a : Asking) (o : Option ℕ) (s : Starting) (x : Lead) → IsIn (leads_of s.executions) x → IsIn (leads_of (start_one me cs a o s).executions) x
one_there me cs a None s x i = i
one_there me cs a (Some initial) s x i = placed_there cs (started a me initial) s.executions x (inr i)

all_there : (me : NodeId) (t : Table) (rest : List Asking) (s : Starting) (x : Lead) → IsIn (leads_of s.executions) x → IsIn (leads_of (start_each me t rest s).executions) x
all_there me t [] s x i = i
all_there me t (a ∷ rest) s x i = all_there me t rest (start_one me t.contracts a (due t a) s) x (one_there me t.contracts a (due t a) s x i)

pub leads_there : (me : NodeId) (t : Table) (rest : List Asking) (s : Starting) (g : ℕ) (key : List ℕ) → HasLead g key (leads_of s.executions) → HasLead g key (leads_of (start_each me t rest s).executions)
leads_there me t rest s g key l = record { x = l.x; is_in = all_there me t rest s l.x l.is_in; has = l.has }

-- what is written was so before, or one that asked for it was due
pub record IsStarted (me : NodeId) (t : Table) (rest : List Asking) (l : Lead) : Type 0 where
  pub asking : Asking
  pub is_in : IsIn rest asking
  pub initial : ℕ
  pub due_is : due t asking ≡ Some initial
  pub is : lead_of (started asking me initial) ≡ l

one_in : (me : NodeId) (t : Table) (a : Asking) (rest : List Asking) (s : Starting) (l : Lead) (o : Option ℕ) → due t a ≡ o → IsIn (leads_of (start_one me t.contracts a o s).executions) l
    → IsIn (leads_of s.executions) l ⊎ IsStarted me t (a ∷ rest) l
one_in me t a rest s l None e i = inl i
one_in me t a rest s l (Some initial) e i =
    elim (placed_in t.contracts (started a me initial) s.executions l i) [
      | inl is ↦ inr (record { asking = a; is_in = inl refl; initial = initial; due_is = e; is = is })
      | inr j ↦ inl j
    ]

pub start_in : (me : NodeId) (t : Table) (rest : List Asking) (s : Starting) (l : Lead) → IsIn (leads_of (start_each me t rest s).executions) l → IsIn (leads_of s.executions) l ⊎ IsStarted me t rest l
start_in me t [] s l i = inl i
start_in me t (a ∷ rest) s l i =
    elim (start_in me t rest (start_one me t.contracts a (due t a) s) l i) [
      | inl j ↦ one_in me t a rest s l (due t a) refl j
      | inr r ↦ inr (record { asking = r.asking; is_in = inr r.is_in; initial = r.initial; due_is = r.due_is; is = r.is })
    ]

-- ---- all that ask

pub all_started : (setup : SetupState) (n life : ℕ) (H : Branches) → IsHistory H → (g : ℕ) (key : List ℕ) → g < setup.hashes → (ps : List Point) (me : NodeId) (t : Table) (version : Version) (branch : Id)
    (rest : List Asking) (s : Starting) → AreStarting setup n life s rest → Led H g key ps version branch (kept_in life s rest)
    → ((a : Asking) → IsIn rest a → in_region a.contract.region g key ≡ true → (initial : ℕ) → due t a ≡ Some initial → IsDue H g key life version a initial)
    → StartLed H g key ps life version branch (start_each me t rest s) []
all_started setup n life H hist g key within ps me t version branch [] s h l d = record { now = version; at = branch; led = l; same = inl (refl, refl) }
all_started setup n life H hist g key within ps me t version branch (a ∷ rest) s h l d =
    let s' : Starting = start_one me t.contracts a (due t a) s in
    let h' : AreStarting setup n life s' rest = one_starting setup n life me t.contracts a rest (due t a) s h in
    let first = one_started setup n life H hist g key within ps me t.contracts version branch a rest (due t a) s h l (λ has initial e. d a (inl refl) has initial e) in
    let dues : (y : Asking) → IsIn rest y → in_region y.contract.region g key ≡ true → (initial : ℕ) → due t y ≡ Some initial → IsDue H g key life first.now y initial =
    λ y i p initial e. elim first.same [
      | inl same ↦ subst (λ (v : Version). IsDue H g key life v y initial) (sym same.0) (d y (inr i) p initial e)
      | inr lead ↦
          let o = h'.one g key in
          let u = some_there lead_region (leads_of s'.executions) g key lead.x lead.is_in lead.has in
          let w = some_there asking_region rest g key y i p in
          absurd (omega (arith, o, u, w))
    ] in
    let last = all_started setup n life H hist g key within ps me t first.now first.at rest s' h' first.led dues in
    record {
      now = last.now;
      at = last.at;
      led = last.led;
      same = elim last.same [
        | inr lead ↦ inr lead
        | inl same ↦ elim first.same [
          | inl before ↦ inl (same.0 ∙ before.0, same.1 ∙ before.1)
          | inr lead ↦ inr (leads_there me t rest s' g key lead)
        ]
      ];
    }
