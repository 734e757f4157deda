-- Lists of operations that one register could have taken, and the order that clients saw.
use Rattle.std.specs.Prelude.{◌≡◌, ◌==◌, ℕ, Bool, true, false, not, ◌&&◌, ◌||◌, List, [], ◌∷◌, nat_lt, max, Option, Some, None, if◌then◌else◌}
use Rattle.std.specs.List.{AllByRecursion}
use Rattle.register_laws.specs.declared.operation.Op.{Op}
use Rattle.register_laws.specs.declared.operation.Op.TheVariants.{Put, Delete, Cas, Read}
use Rattle.register_laws.specs.declared.operation.OpId.{OpId}
use Rattle.register_laws.specs.declared.operation.Span.{Span}
use Rattle.register_laws.specs.declared.operation.Told.{Told}
use Rattle.register_laws.specs.Register.{State, reply_of, state_after}

-- each reply is the register's after all earlier members
abbrev pub IsLegalFrom : State → List Told → Type 0
IsLegalFrom s [] = Unit {0}
IsLegalFrom s (t ∷ ts) = (t.reply ≡ reply_of s t.what) × IsLegalFrom (state_after s t.what) ts

-- the same from no value
abbrev pub IsLegal : List Told → Type 0
IsLegal list = IsLegalFrom None list

-- the operations with the replies that the register gives them
abbrev pub told_from : State → List (OpId × Op) → List Told
told_from s [] = []
told_from s (x ∷ xs) = record { op = x.0; what = x.1; reply = reply_of s x.1 } ∷ told_from (state_after s x.1) xs

abbrev pub is_read : Op → Bool
is_read (Put v) = false
is_read Delete = false
is_read (Cas expect put) = false
is_read Read = true

-- whether an answer came before a moment
abbrev pub came_before : Option ℕ → ℕ → Bool
came_before None moment = false
came_before (Some answered) moment = nat_lt answered moment

abbrev pub same_op : OpId → OpId → Bool
same_op a b = a.0 == b.0

-- no span of `later` was answered before a span of `first` was asked
abbrev pub MayFollow : List Span → OpId → OpId → Type 0
MayFollow spans first later =
    AllByRecursion (λ (a : Span). a.op ≡ first → AllByRecursion (λ (b : Span). b.op ≡ later → came_before b.answered a.asked ≡ false) spans) spans

-- no member stands after another that was asked after its answer
abbrev pub KeepsOrder : List OpId → List Span → Type 0
KeepsOrder [] spans = Unit {0}
KeepsOrder (first ∷ rest) spans = AllByRecursion (MayFollow spans first) rest × KeepsOrder rest spans

-- whether a span of the operation was answered before a moment
abbrev pub ended_before : List Span → OpId → ℕ → Bool
ended_before [] op moment = false
ended_before (s ∷ ss) op moment = (same_op s.op op && came_before s.answered moment) || ended_before ss op moment

-- the last moment at which the operation was asked, 0 where it never was
abbrev pub last_asked : List Span → OpId → ℕ
last_asked [] op = 0
last_asked (s ∷ ss) op = max (if same_op s.op op then s.asked else 0) (last_asked ss op)

-- `KeepsOrder` in one walk: no member was answered before the moment at which one before it was asked last
abbrev pub in_order_from : List Span → ℕ → List OpId → Bool
in_order_from spans moment [] = true
in_order_from spans moment (op ∷ ops) =
    not (ended_before spans op moment) && in_order_from spans (max moment (last_asked spans op)) ops
