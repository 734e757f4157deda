-- The branches of a node, and what their points have in common.
use Rattle.std.proofs.Common.{◌≡◌, ℕ, ◌+◌, ◌≤◌, ◌<◌, true, false, cond, List, [], ◌∷◌, ◌++◌, map, refl, sym, ap, ◌∙◌, subst, inl, inr, arith, append-nil}
use Rattle.std.specs.List.{AllByRecursion}
use Rattle.runs.specs.region_map.declared.id.Id.{Id}
use Rattle.runs.specs.region_map.declared.id.NodeId.{NodeId}
use Rattle.runs.specs.region_map.Equal.{same_id, id_decides}
use Rattle.runs.specs.primary_exec.declared.asking.Asking.{Asking}
use Rattle.runs.specs.primary_exec.Execution.{Execution}
use Rattle.runs.specs.node_core.Step.{NodeState}
use Rattle.runs.specs.Story.{Point, IsIn}
use Rattle.runs.specs.Rising.{IsBelow, AreRising}
use Rattle.step_runs.proofs.Told.{IsIn-append}
pub use Rattle.runs.proofs.list_laws.All.{all_append, all_weaker}
pub use Rattle.runs.proofs.list_laws.Members.{all_member as all_at, all_from_members as all_from}

-- ---- lists of which something holds

-- points that rise, and later ones that rise above them
pub rising_append : (ps qs : List Point) → AreRising ps → AreRising qs → ((p q : Point) → IsIn ps p → IsIn qs q → IsBelow p q) → AreRising (ps ++ qs)
rising_append [] qs h k above = k
rising_append (p ∷ ps) qs h k above = (
  all_append (IsBelow p) ps qs h.0 (all_from (IsBelow p) qs (λ q i. above p q (inl refl) i)),
  rising_append ps qs h.1 k (λ o q i j. above o q (inr i) j),
)

-- ---- how often a branch stands among some

abbrev pub times : List Id → Id → ℕ
times [] b = 0
times (a ∷ more) b = cond (same_id a b) 1 0 + times more b

pub times_same : (a b : Id) (t : ℕ) → a ≡ b → cond (same_id a b) 1 0 + t ≡ 1 + t
times_same a b t e = ap (λ c. cond c 1 0 + t) ((id_decides a b).1 e)

pub times_other : (a b : Id) (t : ℕ) → (a ≡ b → ⊥) → cond (same_id a b) 1 0 + t ≡ t
times_other a b t apart =
    elim (same_id a b) as (λ c. same_id a b ≡ c → cond c 1 0 + t ≡ t) [
      | true ↦ λ e. absurd (apart ((id_decides a b).0 e))
      | false ↦ λ _. omega arith
    ] refl

pub times_one_more : (a b : Id) (t : ℕ) → t ≤ 1 → (a ≡ b → t ≡ 0) → cond (same_id a b) 1 0 + t ≤ 1
times_one_more a b t few none =
    elim (same_id a b) as (λ c. same_id a b ≡ c → cond c 1 0 + t ≤ 1) [
      | true ↦ λ e. omega (arith, none ((id_decides a b).0 e))
      | false ↦ λ _. omega (arith, few)
    ] refl

-- ---- what a node writes

-- a branch that is written, with the last timestamp that was taken of it
pub record Head : Type 0 where
  pub branch : Id
  pub last : ℕ

abbrev pub head_of : Execution → Head
head_of x = record { branch = x.branch; last = x.last }

abbrev pub heads_of : List Execution → List Head
heads_of xs = map head_of xs

abbrev pub branches : List Head → List Id
branches hs = map (λ (h : Head). h.branch) hs

abbrev pub asked_of : List Asking → List Id
asked_of waits = map (λ (a : Asking). a.branch) waits

-- what a node keeps of branches: those that it writes, and those for which it waits
pub record Held : Type 0 where
  pub me : NodeId
  pub life : ℕ
  pub heads : List Head
  pub asked : List Id

abbrev pub held : NodeState → Held
held s = record { me = s.me; life = s.life; heads = heads_of s.executions; asked = asked_of s.asking }

-- ---- what holds of it

-- a branch that a node made in this life, which has no point past its last timestamp
pub record IsHeadOf (n life : ℕ) (ps : List Point) (h : Head) : Type 0 where
  pub node_is : h.branch.node.0 ≡ n
  pub life_is : h.branch.life ≡ life
  pub above : (p : Point) → IsIn ps p → p.branch ≡ h.branch → p.timestamp ≤ h.last

-- a branch that a node made in this life, which has no point
pub record IsUnused (n life : ℕ) (ps : List Point) (b : Id) : Type 0 where
  pub node_is : b.node.0 ≡ n
  pub life_is : b.life ≡ life
  pub unused : (p : Point) → IsIn ps p → p.branch ≡ b → ⊥

pub record IsHeld (n : ℕ) (ps : List Point) (h : Held) : Type 0 where
  pub me_is : h.me.0 ≡ n
  pub heads_are : AllByRecursion (IsHeadOf n h.life ps) h.heads
  pub asked_are : AllByRecursion (IsUnused n h.life ps) h.asked
  pub once : (b : Id) → times (branches h.heads) b + times h.asked b ≤ 1
  pub lives : (p : Point) → IsIn ps p → p.branch.node.0 ≡ n → p.branch.life ≤ h.life

-- a point that a node takes next of one of its branches
pub record IsNext (n life : ℕ) (ps : List Point) (hs : List Head) (q : Point) : Type 0 where
  pub node_is : q.branch.node.0 ≡ n
  pub life_is : q.branch.life ≡ life
  pub here : 1 ≤ times (branches hs) q.branch
  pub above : (p : Point) → IsIn ps p → p.branch ≡ q.branch → p.timestamp < q.timestamp

-- points that are taken next, and the branches after that
pub record Takes (n life : ℕ) (ps qs : List Point) (hs ks : List Head) : Type 0 where
  pub heads_are : AllByRecursion (IsHeadOf n life (ps ++ qs)) ks
  pub same : (b : Id) → times (branches ks) b ≡ times (branches hs) b
  pub next : AllByRecursion (IsNext n life ps hs) qs
  pub rising : AreRising qs

-- ---- more points

head_stays : (n life : ℕ) (ps qs : List Point) (h : Head) → IsHeadOf n life ps h → ((q : Point) → IsIn qs q → q.branch ≡ h.branch → ⊥) → IsHeadOf n life (ps ++ qs) h
head_stays n life ps qs h k apart =
    record {
      node_is = k.node_is;
      life_is = k.life_is;
      above = λ p i e. elim (IsIn-append ps qs p i) [ inl old ↦ k.above p old e | inr new ↦ absurd (apart p new e) ];
    }

unused_stays : (n life : ℕ) (ps qs : List Point) (b : Id) → IsUnused n life ps b → ((q : Point) → IsIn qs q → q.branch ≡ b → ⊥) → IsUnused n life (ps ++ qs) b
unused_stays n life ps qs b k apart =
    record {
      node_is = k.node_is;
      life_is = k.life_is;
      unused = λ p i e. elim (IsIn-append ps qs p i) [ inl old ↦ k.unused p old e | inr new ↦ apart p new e ];
    }

-- what stands among some branches is none of those where it does not
first_apart : (a b : Id) (t : ℕ) → cond (same_id a b) 1 0 + t ≡ 0 → a ≡ b → ⊥
first_apart a b t none e = let c = times_same a b t e in omega (arith, c, none)

rest_none : (a b : Id) (t : ℕ) → cond (same_id a b) 1 0 + t ≡ 0 → t ≡ 0
rest_none a b t none = omega (arith, none)

heads_stay : (n life : ℕ) (ps qs : List Point) (hs : List Head) → AllByRecursion (IsHeadOf n life ps) hs → ((q : Point) → IsIn qs q → times (branches hs) q.branch ≡ 0) → AllByRecursion (IsHeadOf n life (ps ++ qs)) hs
heads_stay n life ps qs [] k none = tt
heads_stay n life ps qs (h ∷ hs) k none = (
  head_stays n life ps qs h k.0 (λ q i e. first_apart h.branch q.branch (times (branches hs) q.branch) (none q i) (sym e)),
  heads_stay n life ps qs hs k.1 (λ q i. rest_none h.branch q.branch (times (branches hs) q.branch) (none q i)),
)

asked_stay : (n life : ℕ) (ps qs : List Point) (bs : List Id) → AllByRecursion (IsUnused n life ps) bs → ((q : Point) → IsIn qs q → times bs q.branch ≡ 0) → AllByRecursion (IsUnused n life (ps ++ qs)) bs
asked_stay n life ps qs [] k none = tt
asked_stay n life ps qs (b ∷ bs) k none = (
  unused_stays n life ps qs b k.0 (λ q i e. first_apart b q.branch (times bs q.branch) (none q i) (sym e)),
  asked_stay n life ps qs bs k.1 (λ q i. rest_none b q.branch (times bs q.branch) (none q i)),
)

-- ---- a node takes points of its own branches

pub takes_none : (n life : ℕ) (ps : List Point) (hs : List Head) → AllByRecursion (IsHeadOf n life ps) hs → Takes n life ps [] hs hs
takes_none n life ps hs k =
    record {
      heads_are = subst (λ (l : List Point). AllByRecursion (IsHeadOf n life l) hs) (sym (append-nil ps)) k;
      same = λ b. refl;
      next = tt;
      rising = tt;
    }

-- of the first of some branches
pub takes_here : (n life : ℕ) (ps : List Point) (h : Head) (hs : List Head) (q : Point) → IsHeadOf n life ps h → AllByRecursion (IsHeadOf n life ps) hs → ((b : Id) → times (branches (h ∷ hs)) b ≤ 1)
    → q.branch ≡ h.branch → q.timestamp ≡ h.last + 1 → Takes n life ps (q ∷ []) (h ∷ hs) (record { branch = h.branch; last = h.last + 1 } ∷ hs)
takes_here n life ps h hs q k ks once branch timestamp =
    let one = times_same h.branch q.branch (times (branches hs) q.branch) (sym branch) in
    let few = once q.branch in
    let none : times (branches hs) q.branch ≡ 0 = omega (arith, one, few) in
    record {
      heads_are = (
        record {
          node_is = k.node_is;
          life_is = k.life_is;
          above = λ p i e.
              elim (IsIn-append ps (q ∷ []) p i) [
                | inl old ↦ let l = k.above p old e in omega (arith, l)
                | inr new ↦ elim new [
                  | inl is ↦ let t : p.timestamp ≡ h.last + 1 = ap (λ (r : Point). r.timestamp) (sym is) ∙ timestamp in omega (arith, t)
                  | inr no' ↦ absurd no'
                ]
              ];
        },
        heads_stay n life ps (q ∷ []) hs ks (λ p i. elim i [ inl is ↦ subst (λ (r : Point). times (branches hs) r.branch ≡ 0) is none | inr no' ↦ absurd no' ]),
      );
      same = λ b. refl;
      next = (
        record {
          node_is = ap (λ (b : Id). b.node.0) branch ∙ k.node_is;
          life_is = ap (λ (b : Id). b.life) branch ∙ k.life_is;
          here = omega (arith, one);
          above = λ p i e. let l = k.above p i (e ∙ branch) in omega (arith, l, timestamp);
        },
        tt,
      );
      rising = (tt, tt);
    }

-- of one of the others
pub takes_later : (n life : ℕ) (ps qs : List Point) (h : Head) (hs ks : List Head) → IsHeadOf n life ps h → ((b : Id) → times (branches (h ∷ hs)) b ≤ 1) → Takes n life ps qs hs ks → Takes n life ps qs (h ∷ hs) (h ∷ ks)
takes_later n life ps qs h hs ks k once t =
    record {
      heads_are = (
        head_stays n life ps qs h k (λ q i e.
            let next : IsNext n life ps hs q = all_at (IsNext n life ps hs) qs t.next q i in
            let one = times_same h.branch q.branch (times (branches hs) q.branch) (sym e) in
            let few = once q.branch in
            let some = next.here in
            omega (arith, one, few, some)),
        t.heads_are,
      );
      same = λ b. ap (λ m. cond (same_id h.branch b) 1 0 + m) (t.same b);
      next = all_weaker (IsNext n life ps hs) (IsNext n life ps (h ∷ hs)) qs
          (λ q next. record { node_is = next.node_is; life_is = next.life_is; here = let some = next.here in omega (arith, some); above = next.above }) t.next;
      rising = t.rising;
    }

-- once it took them
pub held_next : (n : ℕ) (ps qs : List Point) (h : Held) (ks : List Head) → IsHeld n ps h → Takes n h.life ps qs h.heads ks → IsHeld n (ps ++ qs) (record h { heads = ks })
held_next n ps qs h ks k t =
    let next : (q : Point) → IsIn qs q → IsNext n h.life ps h.heads q = all_at (IsNext n h.life ps h.heads) qs t.next in
    record {
      me_is = k.me_is;
      heads_are = t.heads_are;
      asked_are = asked_stay n h.life ps qs h.asked k.asked_are (λ q i. let few = k.once q.branch in let some = (next q i).here in omega (arith, few, some));
      once = λ b. let few = k.once b in let e = t.same b in omega (arith, few, e);
      lives = λ p i e. elim (IsIn-append ps qs p i) [ inl old ↦ k.lives p old e | inr new ↦ let l = (next p new).life_is in omega (arith, l) ];
    }

-- points of another node's branches change nothing
pub held_other : (n : ℕ) (ps qs : List Point) (h : Held) → IsHeld n ps h → ((q : Point) → IsIn qs q → q.branch.node.0 ≡ n → ⊥) → IsHeld n (ps ++ qs) h
held_other n ps qs h k apart =
    record {
      me_is = k.me_is;
      heads_are = all_weaker (IsHeadOf n h.life ps) (IsHeadOf n h.life (ps ++ qs)) h.heads
          (λ x r. head_stays n h.life ps qs x r (λ q i e. apart q i (ap (λ (b : Id). b.node.0) e ∙ r.node_is))) k.heads_are;
      asked_are = all_weaker (IsUnused n h.life ps) (IsUnused n h.life (ps ++ qs)) h.asked
          (λ b r. unused_stays n h.life ps qs b r (λ q i e. apart q i (ap (λ (b : Id). b.node.0) e ∙ r.node_is))) k.asked_are;
      once = k.once;
      lives = λ p i e. elim (IsIn-append ps qs p i) [ inl old ↦ k.lives p old e | inr new ↦ absurd (apart p new e) ];
    }
