-- How a slab and a queue of its keys keep the waiting reads.
use Rattle.std.specs.Prelude.{◌≡◌, ℕ, ◌==◌, Bool, true, false, not, ◌&&◌, ◌||◌, List, [], ◌∷◌, length, Option, Some, None, is_some}
use Rattle.slab.specs.Slab.{Slab, get, slab_len}
use Rattle.register_laws.specs.declared.operation.OpId.{OpId}
use Rattle.majority_read.specs.declared.waiting_read.WaitingRead.{WaitingRead}
use Rattle.majority_read.specs.Reads.{is_rising, is_read_of}

abbrev pub with_first : Option WaitingRead → List WaitingRead → List WaitingRead
with_first None reads = reads
with_first (Some read) reads = read ∷ reads

-- the reads under these keys, in the keys' order
abbrev pub reads_at : Slab WaitingRead → List ℕ → List WaitingRead
reads_at slab [] = []
reads_at slab (key ∷ keys) = with_first (get slab key) (reads_at slab keys)

abbrev pub has_key : ℕ → List ℕ → Bool
has_key key [] = false
has_key key (k ∷ ks) = (k == key) || has_key key ks

-- each key has a read, and no key stands twice
abbrev pub are_keys : Slab WaitingRead → List ℕ → Bool
are_keys slab [] = true
are_keys slab (key ∷ keys) = is_some (get slab key) && (not (has_key key keys) && are_keys slab keys)

-- the queue has the keys of the slab, each once, and the timestamps of their reads rise
pub record IsKept (slab : Slab WaitingRead) (keys : List ℕ) : Type 0 where
  pub keys_are : are_keys slab keys ≡ true
  pub none_else : slab_len slab ≡ length keys
  pub rises : is_rising (reads_at slab keys) ≡ true

abbrev pub is_of : OpId → Option WaitingRead → Bool
is_of op None = false
is_of op (Some read) = is_read_of op read

-- this key has a read of the operation
abbrev pub is_key_of : Slab WaitingRead → OpId → ℕ → Bool
is_key_of slab op key = is_of op (get slab key)
