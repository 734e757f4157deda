-- A message that is due was sent to the node.
use Rattle.std.proofs.Common.{◌≡◌, ℕ, suc, ◌+◌, ◌-◌, ◌==◌, Bool, true, false, cond, ◌&&◌, nat_le, nat_lt, List, [], ◌∷◌, Option, Some, None, slice_get, refl, sym, ap, ◌∙◌, arith}
use Rattle.std.proofs.lemmas.Bool.{false≢true, and_parts}
use Rattle.std.proofs.lemmas.Bool.Decides.{nat_tests}
use Rattle.node_turn.specs.runs.region_map.declared.id.NodeId.{NodeId}
use Rattle.node_turn.specs.runs.node_core.declared.journal.Entry.{Entry}
use Rattle.node_turn.specs.runs.declared.envelope.Envelope.{Envelope}
use Rattle.node_turn.specs.runs.Run.{sent, is_to, message_at}
use Rattle.node_turn.specs.declared.chance.Chance.{Chance}
use Rattle.node_turn.specs.declared.position.MessageCopy.{MessageCopy}
use Rattle.node_turn.specs.declared.search.Found.{Found}
use Rattle.node_turn.specs.declared.search.Found.TheVariants.{Due, Passed}
use Rattle.node_turn.specs.Chances.{copies_due}
use Rattle.node_turn.specs.Search.{copies_taken, next_copy, search, due_of, due}
use Rattle.node_turn.proofs.Searches.{is_passed, number_of}

-- a search finds a message by its number
found_at : (chance : Chance) (node : NodeId) (taken copy : MessageCopy) (ms : List Envelope) (k : ℕ) → search chance node taken ms k ≡ Due copy
    → (j : ℕ) × (copy.message ≡ k + j) × (is_to (slice_get ms j) node ≡ true)
found_at chance node taken copy [] k h = absurd (false≢true (sym (ap is_passed h)))
found_at chance node taken copy (m ∷ ms) k h =
    let here : Bool = m.to.0 == node.0 in
    let later : Bool = nat_le taken.message k in
    let left : Bool = nat_lt (copies_taken taken k) (copies_due chance k) in
    elim (here && later && left)
    as (λ b. (here && later && left) ≡ b → cond b (Due (next_copy taken k)) (search chance node taken ms (k + 1)) ≡ Due copy
    → (j : ℕ) × (copy.message ≡ k + j) × (is_to (slice_get (m ∷ ms) j) node ≡ true)) [
      | true ↦ λ now e.
          let same : k ≡ copy.message = ap number_of e in
          (0, omega (arith, same), (and_parts here later (and_parts (here && later) left now).0).0)
      | false ↦ λ _ e.
          let r = found_at chance node taken copy ms (k + 1) e in
          let there : copy.message ≡ k + 1 + r.0 = r.1 in
          (suc r.0, omega (arith, there), r.2)
    ] refl h

found_due : (f : Found) (copy : MessageCopy) → due_of f ≡ Some copy → f ≡ Due copy
found_due (Due c) copy h = ap (λ (o : Option MessageCopy). elim o [ None ↦ Due c | Some x ↦ Due x ]) h
found_due (Passed number) copy h = absurd (false≢true (ap (λ (o : Option MessageCopy). elim o [ None ↦ false | Some x ↦ true ]) h))

pub due_is_sent : (chance : Chance) (node : NodeId) (taken copy : MessageCopy) (past : List Entry) → due chance node taken past ≡ Some copy
    → is_to (message_at past copy.message) node ≡ true
due_is_sent chance node taken copy past h =
    let at = found_at chance node taken copy (sent past) 1 (found_due (search chance node taken (sent past) 1) copy h) in
    let number : copy.message ≡ 1 + at.0 = at.1 in
    let some : (copy.message == 0) ≡ false = grind (arith, nat_tests) in
    let place : copy.message - 1 ≡ at.0 = omega (arith, number) in
    ap (λ b. is_to (cond b None (slice_get (sent past) (copy.message - 1))) node) some
    ∙ ap (λ j. is_to (slice_get (sent past) j) node) place
    ∙ at.2
