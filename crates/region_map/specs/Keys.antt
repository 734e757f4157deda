-- What clients see of a key: its bytes.
use Rattle.std.specs.Prelude.{ℕ, ◌%◌, Bool, ◌&&◌, List, length, nat_lt, nat_le, sum}

-- a key has 1 to 64 bytes
abbrev pub is_key : List ℕ → Bool
is_key bytes = nat_lt 0 (length bytes) && nat_le (length bytes) 64

-- the sum of the bytes, modulo the number of hashes
abbrev pub hash_of : List ℕ → ℕ → ℕ
hash_of key hashes = sum key % hashes
