-- A table has a number of hashes that is not 0.
use Rattle.std.proofs.Common.{◌≡◌, ℕ, zero, suc, ◌<◌, true, ◌&&◌, nat_lt, nat_le, arith}
use Rattle.std.proofs.lemmas.Bool.{false≢true, and_parts}
use Rattle.runs.specs.contract_types.Setup.{SetupState, IsSetup, is_hashes}

-- ---- what a table begins with

hashes_some : (h : ℕ) → is_hashes h ≡ true → 0 < h
hashes_some zero e = absurd (false≢true e)
hashes_some (suc h) e = omega arith

pub some_hash : (setup : SetupState) → IsSetup setup → 0 < setup.hashes
some_hash setup ok = hashes_some setup.hashes (and_parts (nat_lt 0 setup.nodes && nat_le setup.nodes 7) (is_hashes setup.hashes) ok.fits).1
