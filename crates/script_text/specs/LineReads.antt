-- What lines were read as.
use Rattle.std.specs.Prelude.{◌≡◌, List, Vec, Result, Ok, Err, MatchResult, ⊤}
use Rattle.std.specs.declared.alloc.Global.{Global}
use Rattle.contract_types.specs.declared.config.ConfigRefused.{ConfigRefused}
use Rattle.contract_types.specs.declared.config.ConfigRefused.TheVariants as config
use Rattle.script_text.specs.declared.status.Reason.{Reason}
use Rattle.script_text.specs.declared.status.Reason.TheVariants.{NoShards, Region, Replicas, Roles, Overlap, Gap}
use Rattle.script_text.specs.declared.line_refused.LineRefused.{LineRefused}
use Rattle.script_text.specs.declared.line_refused.LineRefused.TheVariants.{Because, OutOfMemory}
use Rattle.script_text.specs.declared.script_refused.ScriptRefused.{ScriptRefused}
use Rattle.script_text.specs.declared.script_refused.ScriptRefused.TheVariants as script
use Rattle.script_text.specs.Lines.{Reading, ScriptRead, Refused, TooLong}

-- a refused line says why; of want of memory nothing is known
abbrev pub IsRefusedAs : {A : Type 0} → LineRefused → Result A Reason → Type 0
IsRefusedAs (Because reason) said = said ≡ Err reason
IsRefusedAs OutOfMemory said = Unit {0}

-- what was read is what is said, and a line is refused exactly for the reason that is said
abbrev pub IsReadAs : {A : Type 0} → Result A LineRefused → Result A Reason → Type 0
IsReadAs result said = MatchResult result (λ a. said ≡ Ok a) (λ why. IsRefusedAs why said)

-- the same of what is read into a vector
abbrev pub AreReadAs : {A : Type 0} → Result (Vec A Global) LineRefused → Result (List A) Reason → Type 0
AreReadAs result said = MatchResult result (λ v. said ≡ Ok v.items) (λ why. IsRefusedAs why said)

-- what is said after a line was taken
abbrev pub IsTaken : Result ⊤ LineRefused → Reading → Result Reading Reason → Type 0
IsTaken result after said = MatchResult result (λ _. said ≡ Ok after) (λ why. IsRefusedAs why said)

-- the first refused line with its reason, or one that is too long; of want of memory nothing is known
abbrev pub IsScriptRefusedAs : ScriptRefused → ScriptRead → Type 0
IsScriptRefusedAs (script.Line number reason) said = said ≡ Refused number reason
IsScriptRefusedAs script.LineTooLong said = said ≡ TooLong
IsScriptRefusedAs script.OutOfMemory said = Unit {0}

-- shards that break a rule of a configuration give the rule as the reason
abbrev pub refusal : ConfigRefused → LineRefused
refusal config.NoShards = Because NoShards
refusal config.Region = Because Region
refusal config.Replicas = Because Replicas
refusal config.Roles = Because Roles
refusal config.Overlap = Because Overlap
refusal config.Gap = Because Gap
refusal config.OutOfMemory = OutOfMemory
