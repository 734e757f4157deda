-- How a program ends, as numbers and words.
use Rattle.std.specs.Prelude.{ℕ, List, codes}
use Rattle.script_text.specs.declared.status.Reason.{Reason}
use Rattle.script_text.specs.declared.status.Reason.TheVariants.{BadJson, Word, NotBuilt, Member, NotHere, Place, Range, Node, KeyLength, ValueLength, OpKnown, NoShards, Region, Replicas, Roles, Overlap, Gap}
use Rattle.script_text.specs.declared.status.Status.{Status}
use Rattle.script_text.specs.declared.status.Status.TheVariants.{Ok, Usage, Script, ReadFault, WriteFault, Limit, OutOfMemory}

-- the word of a reason
abbrev pub reason_text : Reason → List ℕ
reason_text BadJson = codes "bad_json"
reason_text Word = codes "word"
reason_text NotBuilt = codes "not_built"
reason_text Member = codes "member"
reason_text NotHere = codes "not_here"
reason_text Place = codes "place"
reason_text Range = codes "range"
reason_text Node = codes "node"
reason_text KeyLength = codes "key_length"
reason_text ValueLength = codes "value_length"
reason_text OpKnown = codes "op_known"
reason_text NoShards = codes "no_shards"
reason_text Region = codes "region"
reason_text Replicas = codes "replicas"
reason_text Roles = codes "roles"
reason_text Overlap = codes "overlap"
reason_text Gap = codes "gap"

-- the exit status
abbrev pub status_number : Status → ℕ
status_number Ok = 0
status_number Usage = 2
status_number (Script line why) = 3
status_number ReadFault = 4
status_number WriteFault = 5
status_number (Limit which number) = 6
status_number OutOfMemory = 7
