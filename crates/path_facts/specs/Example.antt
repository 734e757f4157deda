-- A small run at one key, to which the facts apply. Nodes 0, 1 and 2 begin with the key, and node 0 leads. It writes once, is
-- told to go over to the nodes 1, 2 and 3, does so once these have its sync, and is let go. They elect node 1, which starts
-- a branch of its own. All nodes act on a change of the log at one moment.
use Rattle.std.specs.Prelude.{◌==◌, ℕ, zero, suc, ◌+◌, ◌*◌, ◌-◌, ◌/◌, min, [], ◌∷◌, Some, None}
use Rattle.path_facts.specs.Paths.{Version, Birth, zero_version, point}
use Rattle.path_facts.specs.Runs.{Contract, KeyRun}

abbrev pub first_branch : Birth ℕ
first_branch = record { branch = 0; registered = 0; tenure = 0; maker = 0; life = 1; initial = 0; origin = zero_version }

abbrev pub second_branch : Birth ℕ
second_branch = record { branch = 1; registered = 5; tenure = 4; maker = 1; life = 1; initial = 2; origin = point 0 2 }

-- at first; with a second set; gone over; let go; elected, and later with a branch
abbrev pub example_contract : ℕ → Contract
example_contract zero = record { voters = 0 ∷ 1 ∷ 2 ∷ []; second = None; primary = Some 0; replicas = 0 ∷ 1 ∷ 2 ∷ 3 ∷ []; since = 0; tenure = 0 }
example_contract (suc zero) = record { voters = 0 ∷ 1 ∷ 2 ∷ []; second = Some (1 ∷ 2 ∷ 3 ∷ []); primary = Some 0; replicas = 0 ∷ 1 ∷ 2 ∷ 3 ∷ []; since = 1; tenure = 0 }
example_contract (suc (suc zero)) = record { voters = 1 ∷ 2 ∷ 3 ∷ []; second = None; primary = Some 0; replicas = 0 ∷ 1 ∷ 2 ∷ 3 ∷ []; since = 2; tenure = 0 }
example_contract (suc (suc (suc zero))) = record { voters = 1 ∷ 2 ∷ 3 ∷ []; second = None; primary = None; replicas = 0 ∷ 1 ∷ 2 ∷ 3 ∷ []; since = 3; tenure = 3 }
example_contract (suc (suc (suc (suc w)))) = record { voters = 1 ∷ 2 ∷ 3 ∷ []; second = None; primary = Some 1; replicas = 0 ∷ 1 ∷ 2 ∷ 3 ∷ []; since = 4; tenure = 4 }

-- the versions of the key, in order: nothing, the first branch, the write, the sync, the second branch with its sync
abbrev pub example_version : ℕ → Version ℕ
example_version zero = zero_version
example_version (suc zero) = point 0 0
example_version (suc (suc zero)) = point 0 1
example_version (suc (suc (suc zero))) = point 0 2
example_version (suc (suc (suc (suc n)))) = point 1 3

-- how far a node came at a moment
abbrev pub example_place : ℕ → ℕ → ℕ
example_place zero m = 1 + min m 1 + min (m - 3) 1
example_place (suc zero) m = 1 + min (m - 1) 1 + min (m - 4) 1 + min (m - 12) 1
example_place (suc (suc zero)) m = 1 + 2 * min (m - 4) 1
example_place (suc (suc (suc zero))) m = 3 * min (m - 4) 1
example_place (suc (suc (suc (suc q)))) m = 0

abbrev pub example : KeyRun ℕ
example = record {
  same = λ a b. a == b;
  births = second_branch ∷ first_branch ∷ [];
  contract = example_contract;
  version = λ q m. example_version (example_place q m);
  view = λ q m. min ((m - 2) / 2) 5;
  life = λ q m. 1;
  last = 5;
  end = 13;
  top = 3;
}
