-- The rows of the node's step, over its executions and followings.
use Rattle.std.specs.Prelude.{ℕ, Bool, false, List, [], ◌∷◌, map, if◌then◌else◌}
use Rattle.std.specs.List.{flat_map}
use Rattle.region_map.specs.declared.id.NodeId.{NodeId}
use Rattle.region_map.specs.Maps.{Pieced}
use Rattle.branch_history.specs.declared.version.Version.{Version}
use Rattle.register_laws.specs.declared.operation.OpId.{OpId}
use Rattle.register_laws.specs.declared.operation.Op.{Op}
use Rattle.exec_types.specs.declared.message.Got.{Got}
use Rattle.exec_types.specs.declared.message.Stream.{Stream}
use Rattle.exec_types.specs.declared.outcome.Outcome.TheVariants.{NotServing}
use Rattle.exec_types.specs.declared.output.Output.{Output}
use Rattle.exec_types.specs.declared.output.Output.TheVariants.{Answer}
use Rattle.store_api.specs.Rows.{Rows, has_key}
use Rattle.secondary_exec.specs.declared.following.Following.{Following}
use Rattle.secondary_exec.specs.Stream.{FollowingStep, is_ours, stream_row, stream_ends_numbers}
use Rattle.primary_exec.specs.Execution.{Execution, PrimaryStep, dispatch_row, dispatch_ends_numbers, got_row, decided, decide_outs, give_up_row, give_up_outs}

-- ---- requests

-- whether an execution is of the region that has a key, where there are so many hashes
abbrev pub is_for : ℕ → List ℕ → Execution → Bool
is_for hashes key x = has_key x.contract.region hashes key

-- the executions, the rows and the versions of a node after a request, and what it gave
pub record Requested : Type 0 where
  pub executions : List Execution
  pub rows : Rows
  pub versions : Pieced Version
  pub outs : List Output

abbrev pub not_served : Rows → Pieced Version → OpId → Requested
not_served rows versions op = record { executions = []; rows = rows; versions = versions; outs = Answer op NotServing ∷ [] }

abbrev pub dispatched : PrimaryStep → List Execution → Requested
dispatched step others = record { executions = step.execution ∷ others; rows = step.rows; versions = step.versions; outs = step.outs }

abbrev pub passed_on : Execution → Requested → Requested
passed_on x r = record r { executions = x ∷ r.executions }

-- the execution of the key's region dispatches the operation; where there is none, the node does not serve the key
abbrev pub request_all : ℕ → List Execution → Rows → Pieced Version → OpId → List ℕ → Op → Requested
request_all hashes [] rows versions op key what = not_served rows versions op
request_all hashes (x ∷ xs) rows versions op key what =
    if is_for hashes key x then dispatched (dispatch_row x rows versions op key what) xs
    else passed_on x (request_all hashes xs rows versions op key what)

-- a number that the execution of the key's region would make is one that none reaches
abbrev pub requests_end_numbers : ℕ → List Execution → List ℕ → Bool
requests_end_numbers hashes [] key = false
requests_end_numbers hashes (x ∷ xs) key = if is_for hashes key x then dispatch_ends_numbers x else requests_end_numbers hashes xs key

-- ---- parts of streams

-- the followings, the rows and the versions of a node after a part of a stream, and what it gave
pub record Streamed : Type 0 where
  pub followings : List Following
  pub rows : Rows
  pub versions : Pieced Version
  pub outs : List Output

abbrev pub not_ours : Rows → Pieced Version → Streamed
not_ours rows versions = record { followings = []; rows = rows; versions = versions; outs = [] }

abbrev pub taken : FollowingStep → List Following → Streamed
taken step others = record { followings = step.following ∷ others; rows = step.rows; versions = step.versions; outs = step.outs }

abbrev pub left_alone : Following → Streamed → Streamed
left_alone f r = record r { followings = f ∷ r.followings }

-- the following that has the part's session takes the part; where there is none, nothing is done
abbrev pub stream_all : List Following → Rows → Pieced Version → NodeId → Stream → ℕ → Streamed
stream_all [] rows versions from stream view = not_ours rows versions
stream_all (f ∷ fs) rows versions from stream view =
    if is_ours f from stream then taken (stream_row f rows versions from stream view) fs
    else left_alone f (stream_all fs rows versions from stream view)

-- a number that the following would come to is one that none reaches
abbrev pub streams_end_numbers : List Following → NodeId → Stream → Bool
streams_end_numbers [] from stream = false
streams_end_numbers (f ∷ fs) from stream = if is_ours f from stream then stream_ends_numbers f from stream else streams_end_numbers fs from stream

-- ---- what each execution does

-- the one that has the session takes note
abbrev pub got_all : List Execution → NodeId → Got → List Execution
got_all xs from got = map (λ x. got_row x from got) xs

-- the one at which the operation is pending gives it up
abbrev pub give_up_all : List Execution → OpId → List Execution
give_up_all xs op = map (λ x. give_up_row x op) xs

abbrev pub give_up_all_outs : List Execution → OpId → List Output
give_up_all_outs xs op = flat_map (λ x. give_up_outs x op) xs

-- each answers what is decided
abbrev pub decide_all : List Execution → List Execution
decide_all xs = map decided xs

abbrev pub decide_all_outs : List Execution → List Output
decide_all_outs xs = flat_map decide_outs xs
