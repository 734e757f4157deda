-- The following that takes a part of a stream, by its place.
use Rattle.std.proofs.Common.{◌≡◌, ℕ, suc, ◌+◌, ◌<◌, ◌≤◌, true, false, cond, not, nat_lt, List, [], ◌∷◌, length, get_or, set, position, Some, None, refl, sym, ap, ◌∙◌, subst, arith}
use Rattle.std.specs.List.{position_or_len}
use Rattle.std.proofs.lemmas.Bool.{ltb-true, ltb-false}
use Rattle.region_map.specs.declared.id.NodeId.{NodeId}
use Rattle.region_map.specs.Maps.{Pieced}
use Rattle.branch_history.specs.declared.version.Version.{Version}
use Rattle.exec_types.specs.declared.message.Stream.{Stream}
use Rattle.store_api.specs.Rows.{Rows}
use Rattle.secondary_exec.specs.declared.following.Following.{Following}
use Rattle.secondary_exec.specs.Stream.{FollowingStep, is_ours, stream_row, stream_ends_numbers}
use Rattle.node_core.specs.Parts.{Streamed, taken, left_alone, stream_all, streams_end_numbers}

-- the followings with the one of a place after its row
abbrev pub with_step : List Following → ℕ → FollowingStep → Streamed
with_step xs i step = record { followings = set xs i step.following; rows = step.rows; versions = step.versions; outs = step.outs }

place : NodeId → Stream → List Following → ℕ
place from stream xs = position_or_len (λ f. is_ours f from stream) xs

-- ---- the first that has the session takes the part

stream_first : (xs : List Following) (rows : Rows) (versions : Pieced Version) (from : NodeId) (stream : Stream) (view : ℕ) (x : Following)
    → place from stream xs < length xs
    → stream_all xs rows versions from stream view ≡ with_step xs (place from stream xs) (stream_row (get_or xs (place from stream xs) x) rows versions from stream view)
unfolding place
stream_first [] rows versions from stream view x l = absurd (omega arith)
stream_first (y ∷ ys) rows versions from stream view x l =
    let next : 1 + place from stream ys ≡ suc (place from stream ys) = omega arith in
    elim (is_ours y from stream) as (λ c. cond (not c) (1 + place from stream ys) 0 < suc (length ys)
    → cond c (taken (stream_row y rows versions from stream view) ys) (left_alone y (stream_all ys rows versions from stream view))
    ≡ with_step (y ∷ ys) (cond (not c) (1 + place from stream ys) 0) (stream_row (get_or (y ∷ ys) (cond (not c) (1 + place from stream ys) 0) x) rows versions from stream view)) [
      | true ↦ λ l. refl
      | false ↦ λ l. ap (left_alone y) (stream_first ys rows versions from stream view x (omega arith))
          ∙ ap (λ n. with_step (y ∷ ys) n (stream_row (get_or (y ∷ ys) n x) rows versions from stream view)) (sym next)
    ] l

stream_ends : (xs : List Following) (from : NodeId) (stream : Stream) (x : Following)
    → place from stream xs < length xs → streams_end_numbers xs from stream ≡ stream_ends_numbers (get_or xs (place from stream xs) x) from stream
unfolding place
stream_ends [] from stream x l = absurd (omega arith)
stream_ends (y ∷ ys) from stream x l =
    let next : 1 + place from stream ys ≡ suc (place from stream ys) = omega arith in
    elim (is_ours y from stream) as (λ c. cond (not c) (1 + place from stream ys) 0 < suc (length ys)
    → cond c (stream_ends_numbers y from stream) (streams_end_numbers ys from stream) ≡ stream_ends_numbers (get_or (y ∷ ys) (cond (not c) (1 + place from stream ys) 0) x) from stream) [
      | true ↦ λ l. refl
      | false ↦ λ l. stream_ends ys from stream x (omega arith) ∙ ap (λ n. stream_ends_numbers (get_or (y ∷ ys) n x) from stream) (sym next)
    ] l

-- a following takes a part at its place
pub record IsTaken (xs : List Following) (rows : Rows) (versions : Pieced Version) (from : NodeId) (stream : Stream) (view : ℕ) (i : ℕ) (x : Following) : Type 0 where
  pub row : stream_all xs rows versions from stream view ≡ with_step xs i (stream_row x rows versions from stream view)
  pub ends : streams_end_numbers xs from stream ≡ stream_ends_numbers x from stream

pub taken_by : (xs : List Following) (rows : Rows) (versions : Pieced Version) (from : NodeId) (stream : Stream) (view : ℕ) (i : ℕ) (x : Following)
    → position (λ f. is_ours f from stream) xs ≡ Some i → IsTaken xs rows versions from stream view i (get_or xs i x)
unfolding place
taken_by xs rows versions from stream view i x e =
    elim (nat_lt (place from stream xs) (length xs)) as (λ c. nat_lt (place from stream xs) (length xs) ≡ c → cond c (Some (place from stream xs)) None ≡ Some i → IsTaken xs rows versions from stream view i (get_or xs i x)) [
      | true ↦ λ l s. let same : place from stream xs ≡ i = cc in
          subst (λ n. IsTaken xs rows versions from stream view n (get_or xs n x)) same (record {
            row = stream_first xs rows versions from stream view x (ltb-true _ _ l);
            ends = stream_ends xs from stream x (ltb-true _ _ l);
          })
      | false ↦ λ l s. absurd (cc)
    ] refl e

-- ---- no following has the session

-- none takes a part
pub record IsLeft (xs : List Following) (rows : Rows) (versions : Pieced Version) (from : NodeId) (stream : Stream) (view : ℕ) : Type 0 where
  pub row : stream_all xs rows versions from stream view ≡ record { followings = xs; rows = rows; versions = versions; outs = [] }
  pub ends : streams_end_numbers xs from stream ≡ false

stream_nowhere : (xs : List Following) (rows : Rows) (versions : Pieced Version) (from : NodeId) (stream : Stream) (view : ℕ)
    → length xs ≤ place from stream xs → stream_all xs rows versions from stream view ≡ record { followings = xs; rows = rows; versions = versions; outs = [] }
unfolding place
stream_nowhere [] rows versions from stream view l = refl
stream_nowhere (y ∷ ys) rows versions from stream view l =
    elim (is_ours y from stream) as (λ c. suc (length ys) ≤ cond (not c) (1 + place from stream ys) 0
    → cond c (taken (stream_row y rows versions from stream view) ys) (left_alone y (stream_all ys rows versions from stream view)) ≡ record { followings = y ∷ ys; rows = rows; versions = versions; outs = [] }) [
      | true ↦ λ l. absurd (omega arith)
      | false ↦ λ l. ap (left_alone y) (stream_nowhere ys rows versions from stream view (omega arith))
    ] l

ends_nowhere : (xs : List Following) (from : NodeId) (stream : Stream) → length xs ≤ place from stream xs → streams_end_numbers xs from stream ≡ false
unfolding place
ends_nowhere [] from stream l = refl
ends_nowhere (y ∷ ys) from stream l =
    elim (is_ours y from stream) as (λ c. suc (length ys) ≤ cond (not c) (1 + place from stream ys) 0 → cond c (stream_ends_numbers y from stream) (streams_end_numbers ys from stream) ≡ false) [
      | true ↦ λ l. absurd (omega arith)
      | false ↦ λ l. ends_nowhere ys from stream (omega arith)
    ] l

pub untaken : (xs : List Following) (rows : Rows) (versions : Pieced Version) (from : NodeId) (stream : Stream) (view : ℕ)
    → position (λ f. is_ours f from stream) xs ≡ None → IsLeft xs rows versions from stream view
unfolding place
untaken xs rows versions from stream view e =
    elim (nat_lt (place from stream xs) (length xs)) as (λ c. nat_lt (place from stream xs) (length xs) ≡ c → cond c (Some (place from stream xs)) None ≡ None → IsLeft xs rows versions from stream view) [
      | true ↦ λ l s. absurd (cc)
      | false ↦ λ l s. record {
        row = stream_nowhere xs rows versions from stream view (ltb-false _ _ l);
        ends = ends_nowhere xs from stream (ltb-false _ _ l);
      }
    ] refl e
