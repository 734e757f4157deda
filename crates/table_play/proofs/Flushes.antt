-- A flush, delivery by delivery, and what goes on unless a limit is met.
use Rattle.std.proofs.Common.{◌≡◌, ℕ, zero, suc, ◌+◌, ◌-◌, ◌<◌, ◌≤◌, arith, true, false, cond, List, [], ◌∷◌, length, map, get_or, drop, drop-cons, Option, Some, None, refl, sym, ap, ◌∙◌}
use Rattle.std.proofs.lemmas.Bool.{false≢true}
use Rattle.std.proofs.lemmas.List.Folds.{list_all_at}
use Rattle.std.specs.List.{list_all}
use Rattle.region_map.specs.declared.id.NodeId.{NodeId}
use Rattle.region_map.specs.Nodes.{node_id}
use Rattle.contract_types.specs.Setup.{SetupState}
use Rattle.contract_types.specs.declared.limits.Which.{Which}
use Rattle.exec_types.specs.declared.input.Input.{Input}
use Rattle.exec_types.specs.declared.input.Input.TheVariants as input
use Rattle.world_core.specs.runs.Run.{message_at}
use Rattle.world_steps.specs.Waiting.{waiting}
use Rattle.script_text.specs.declared.script.ScriptItem.{ScriptItem}
use Rattle.script_text.specs.Sound.{fits_table}
use Rattle.table_play.specs.Play.{Played, is_over, with_down, play_arrival, flush_next, flush_by, most_deliveries, play_tick, play_ticks, play_round, play_rounds, play_word, play_items}
use Rattle.table_play.specs.Steps.{asked_in, down_as}

-- ---- events of nodes that are down

pub down_asked : (p : Played) (line : ℕ) (i : Input) → with_down p line i ≡ down_as p line (asked_in i)
down_asked p line (input.Request op key what) = refl
down_asked p line (input.GiveUp op) = refl
down_asked p line (input.See other up) = refl
down_asked p line input.Tick = refl
down_asked p line (input.Deliver number) = refl
down_asked p line input.Crash = refl
down_asked p line input.Restart = refl

-- ---- one thing, and unless a limit is met another

-- it met a limit
pub then_met : (p q : Played) (later : Played → Played) (which : Which) → q ≡ p → q.met ≡ Some which → cond (is_over p.met) p (later p) ≡ q
then_met p q later which e met =
    ap (λ (r : Played). cond (is_over r.met) r (later r)) (sym e) ∙ ap (λ (m : Option Which). cond (is_over m) q (later q)) met

-- it did not
pub then_on : (p q : Played) (later : Played → Played) → q ≡ p → q.met ≡ None → cond (is_over p.met) p (later p) ≡ later q
then_on p q later e met =
    ap (λ (r : Played). cond (is_over r.met) r (later r)) (sym e) ∙ ap (λ (m : Option Which). cond (is_over m) q (later q)) met

-- ---- deliveries

pub most_is : most_deliveries ≡ 18446744073709551615
unfolding most_deliveries
most_is = refl

-- how many deliveries are left after some of them
pub left_at_first : most_deliveries - 0 ≡ most_deliveries
left_at_first = omega arith

pub left_before : (i : ℕ) → i < 18446744073709551615 → most_deliveries - i ≡ suc (most_deliveries - (i + 1))
left_before i h = let e = most_is in omega arith

pub left_at_last : (i : ℕ) → 18446744073709551615 ≤ i → most_deliveries - i ≡ 0
left_at_last i h = let e = most_is in omega arith

-- nothing waits
pub flush_stops : (count : ℕ) (setup : SetupState) (only : List ℕ) (p : Played) (line : ℕ) → waiting setup p.past p.lost only ≡ None → flush_by count setup only p line ≡ p
flush_stops zero setup only p line e = refl
flush_stops (suc count) setup only p line e = ap (λ (o : Option ℕ). flush_next setup p line o (λ q. flush_by count setup only q line)) e

-- the delivery of the least one that waits
abbrev pub delivered : SetupState → Played → ℕ → ℕ → Played
delivered setup p line n = play_arrival setup p line n (message_at p.past n)

flush_first : (count : ℕ) (setup : SetupState) (only : List ℕ) (p : Played) (line n : ℕ) → waiting setup p.past p.lost only ≡ Some n
    → flush_by (suc count) setup only p line ≡ cond (is_over (delivered setup p line n).met) (delivered setup p line n) (flush_by count setup only (delivered setup p line n) line)
flush_first count setup only p line n e = ap (λ (o : Option ℕ). flush_next setup p line o (λ q. flush_by count setup only q line)) e

-- it met a limit
pub flush_meets : (count : ℕ) (setup : SetupState) (only : List ℕ) (p q : Played) (line n : ℕ) (which : Which) → waiting setup p.past p.lost only ≡ Some n → q ≡ delivered setup p line n
    → q.met ≡ Some which → flush_by (suc count) setup only p line ≡ q
flush_meets count setup only p q line n which e is met =
    flush_first count setup only p line n e ∙ then_met (delivered setup p line n) q (λ (r : Played). flush_by count setup only r line) which is met

-- it did not
pub flush_goes : (count : ℕ) (setup : SetupState) (only : List ℕ) (p q : Played) (line n : ℕ) → waiting setup p.past p.lost only ≡ Some n → q ≡ delivered setup p line n
    → q.met ≡ None → flush_by (suc count) setup only p line ≡ flush_by count setup only q line
flush_goes count setup only p q line n e is met =
    flush_first count setup only p line n e ∙ then_on (delivered setup p line n) q (λ (r : Played). flush_by count setup only r line) is met

-- ---- ticks

pub numbers_of_nodes : (ns : List ℕ) → map (λ (n : NodeId). n.0) (map node_id ns) ≡ ns
numbers_of_nodes [] = refl
numbers_of_nodes (n ∷ ns) = ap (λ (l : List ℕ). n ∷ l) (numbers_of_nodes ns)

pub ticks_meet : (setup : SetupState) (p q : Played) (line n : ℕ) (ns : List ℕ) (which : Which) → q ≡ play_tick setup p line n → q.met ≡ Some which → play_ticks setup p line (n ∷ ns) ≡ q
ticks_meet setup p q line n ns which is met = then_met (play_tick setup p line n) q (λ (r : Played). play_ticks setup r line ns) which is met

pub ticks_go : (setup : SetupState) (p q : Played) (line n : ℕ) (ns : List ℕ) → q ≡ play_tick setup p line n → q.met ≡ None → play_ticks setup p line (n ∷ ns) ≡ play_ticks setup q line ns
ticks_go setup p q line n ns is met = then_on (play_tick setup p line n) q (λ (r : Played). play_ticks setup r line ns) is met

-- ---- rounds

pub rounds_meet : (count : ℕ) (setup : SetupState) (only : List ℕ) (p q : Played) (line : ℕ) (which : Which) → q ≡ play_round setup only p line → q.met ≡ Some which
    → play_rounds (suc count) setup only p line ≡ q
rounds_meet count setup only p q line which is met = then_met (play_round setup only p line) q (λ (r : Played). play_rounds count setup only r line) which is met

pub rounds_go : (count : ℕ) (setup : SetupState) (only : List ℕ) (p q : Played) (line : ℕ) → q ≡ play_round setup only p line → q.met ≡ None
    → play_rounds (suc count) setup only p line ≡ play_rounds count setup only q line
rounds_go count setup only p q line is met = then_on (play_round setup only p line) q (λ (r : Played). play_rounds count setup only r line) is met

pub rounds_before : (count i : ℕ) → i < count → count - i ≡ suc (count - (i + 1))
rounds_before count i h = omega arith

pub rounds_last : (count i : ℕ) → count ≤ i → count - i ≡ 0
rounds_last count i h = omega arith

-- ---- words

pub items_meet : (setup : SetupState) (p q : Played) (items : List ScriptItem) (i : ℕ) (item : ScriptItem) (which : Which) → i < length items → item ≡ get_or items i item
    → q ≡ play_word setup p item.line item.word → q.met ≡ Some which → play_items setup p (drop i items) ≡ q
items_meet setup p q items i item which within at is met =
    let e : drop i items ≡ item ∷ drop (suc i) items = drop-cons items i item within ∙ ap (λ (x : ScriptItem). x ∷ drop (suc i) items) (sym at) in
    ap (play_items setup p) e ∙ then_met (play_word setup p item.line item.word) q (λ (r : Played). play_items setup r (drop (suc i) items)) which is met

pub items_go : (setup : SetupState) (p q : Played) (items : List ScriptItem) (i : ℕ) (item : ScriptItem) → i < length items → item ≡ get_or items i item
    → q ≡ play_word setup p item.line item.word → q.met ≡ None → play_items setup p (drop i items) ≡ play_items setup q (drop (i + 1) items)
items_go setup p q items i item within at is met =
    let e : drop i items ≡ item ∷ drop (suc i) items = drop-cons items i item within ∙ ap (λ (x : ScriptItem). x ∷ drop (suc i) items) (sym at) in
    let next : suc i ≡ i + 1 = omega arith in
    ap (play_items setup p) e ∙ then_on (play_word setup p item.line item.word) q (λ (r : Played). play_items setup r (drop (suc i) items)) is met
    ∙ ap (λ (n : ℕ). play_items setup q (drop n items)) next

-- each word of some that fit a table fits it
pub fits_at : (setup : SetupState) (items : List ScriptItem) (i : ℕ) (item : ScriptItem) → i < length items → item ≡ get_or items i item
    → list_all (λ x. fits_table setup x.word) items ≡ true → fits_table setup item.word ≡ true
fits_at setup items i item within at all =
    elim (fits_table setup item.word) as (λ c. fits_table setup item.word ≡ c → c ≡ true) [
      | true ↦ λ _. refl
      | false ↦ λ e. absurd (false≢true (sym (list_all_at (λ x. fits_table setup x.word) items i item within (ap (λ (x : ScriptItem). fits_table setup x.word) (sym at) ∙ e)) ∙ all))
    ] refl
