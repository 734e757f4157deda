-- What a whole step does at one key.
use Rattle.std.proofs.Common.{◌≡◌, ℕ, List, Option, None, ap, ◌∙◌, refl}
use Rattle.node_moves.specs.exec_types.declared.input.Input.{Input}
use Rattle.node_moves.specs.primary_exec.Execution.{Execution, decided}
use Rattle.node_moves.specs.node_core.declared.node.Brought.{Brought}
use Rattle.node_moves.specs.node_core.Parts.{is_for}
use Rattle.node_moves.specs.node_core.Starting.{due}
use Rattle.node_moves.specs.node_core.Step.{NodeState}
use Rattle.node_moves.specs.primary_exec.declared.asking.Asking.{Asking}
use Rattle.node_moves.specs.table_log.Logs.{table_of}
use Rattle.node_moves.specs.Keys.{asks_for, at_key}
use Rattle.node_moves.specs.Move.{Acts, HasHashes, Rises, Stays, StepMoves}
use Rattle.node_moves.specs.Parts.{Held, PartsAct, More, Same, StepParts}
use Rattle.node_moves.proofs.AtKeys.{filter_mapped}
use Rattle.node_moves.proofs.KeyRows.{hashes_move, key_moves}
use Rattle.node_moves.proofs.KeyStarts.{key_starts}
use Rattle.list_laws.proofs.All.{all_filter}

acts_at : (s t : NodeState) (key : List ℕ) → HasHashes s → (a b : Held) → a.versions.hashes ≡ s.setup.hashes → PartsAct s t a b
    → Acts s t key (at_key s.setup.hashes key a) (at_key s.setup.hashes key b)
acts_at s t key h a b same (Same view is) = Stays view (ap (at_key s.setup.hashes key) is)
acts_at s t key h a b same (More rose begins left) =
    Rises rose (key_starts s.me s.setup.hashes h.some (table_of t.log) key begins same) (all_filter (λ (x : Asking). due (table_of t.log) x ≡ None) (asks_for s.setup.hashes key) b.asking left)

pub step_at_key : (s : NodeState) (input : Input) (brought : Option Brought) (t : NodeState) (xs : List Execution) (key : List ℕ) → HasHashes s → StepParts s input brought t xs
    → StepMoves s input brought key t
step_at_key s input brought t xs key h p =
    let hashes : ℕ = s.setup.hashes in
    let writes = filter_mapped (is_for hashes key) decided (λ x. refl) p.acted.executions in
    record {
      row = at_key hashes key p.row;
      moves = key_moves s input brought key h p.row p.moves;
      acted = at_key hashes key p.acted;
      acts = acts_at s t key h p.row p.acted (hashes_move s input brought key h p.row p.moves) p.acts;
      decides = ap (at_key hashes key) p.decides ∙ (λ i. record (at_key hashes key p.acted) { writes = writes i });
    }
