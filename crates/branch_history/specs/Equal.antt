-- Tests of whether two versions, or two walks, are the same.
use Rattle.std.specs.Prelude.{◌≡◌, ◌==◌, Bool, true, false, ◌&&◌}
use Rattle.std.proofs.Common.{ap, ap₂}
use Rattle.std.proofs.lemmas.Bool.{and_parts, and_from, eqb-true, eq-eqb}
use Rattle.region_map.specs.Equal.{Decides, same_id, id_decides, same_option, option_decides}
use Rattle.branch_history.specs.declared.version.Version.{Version}
use Rattle.branch_history.specs.declared.walk.Walk.{Walk}
use Rattle.branch_history.specs.declared.walk.Walk.TheVariants.{Going, At}

abbrev pub same_version : Version → Version → Bool
same_version a b = same_option same_id a.branch b.branch && (a.timestamp == b.timestamp)

abbrev pub same_walk : Walk → Walk → Bool
same_walk (At a) (At b) = same_version a b
same_walk (At a) (Going x y) = false
same_walk (Going v w) (At b) = false
same_walk (Going v w) (Going x y) = same_version v x && same_version w y

-- ---- each of these decides

pub version_decides : Decides same_version
version_decides a b = (there, back)
  where
    there : same_version a b ≡ true → a ≡ b
    there e =
        let p = and_parts _ _ e in
        let o = (option_decides same_id id_decides a.branch b.branch).0 p.0 in
        let t = eqb-true a.timestamp b.timestamp p.1 in
        λ i. record { branch = o i; timestamp = t i }

    back : a ≡ b → same_version a b ≡ true
    back e =
        and_from _ _ ((option_decides same_id id_decides a.branch b.branch).1 (ap (λ (v : Version). v.branch) e))
        (eq-eqb a.timestamp b.timestamp (ap (λ (v : Version). v.timestamp) e))

at_same : (a b : Version) → At a ≡ At b → a ≡ b
at_same a b e = cc

going_first : (v w x y : Version) → Going v w ≡ Going x y → v ≡ x
going_first v w x y e = cc

going_second : (v w x y : Version) → Going v w ≡ Going x y → w ≡ y
going_second v w x y e = cc

pub walk_decides : Decides same_walk
walk_decides (At a) (At b) = (λ e. ap At ((version_decides a b).0 e), λ e. (version_decides a b).1 (at_same a b e))
walk_decides (At a) (Going x y) = (λ e. absurd (cc), λ e. absurd (cc))
walk_decides (Going v w) (At b) = (λ e. absurd (cc), λ e. absurd (cc))
walk_decides (Going v w) (Going x y) = (
  λ e. let p = and_parts _ _ e in ap₂ Going ((version_decides v x).0 p.0) ((version_decides w y).0 p.1),
  λ e. and_from _ _ ((version_decides v x).1 (going_first v w x y e)) ((version_decides w y).1 (going_second v w x y e)),
)
