-- What giving up answers, by the counts of the pending operation.
use Rattle.std.proofs.Common.{◌≡◌, ℕ, Bool, true, false, cond, Option, Some, Ok, Err, Result, sym, ap, ◌∙◌}
use Rattle.contract_types.specs.declared.contract.Contract.{Contract}
use Rattle.contract_types.specs.declared.counts.Counts.{Counts}
use Rattle.write_dispatch.specs.declared.decided.Decided.{Decided}
use Rattle.write_dispatch.specs.declared.refused.GiveUpRefused.{GiveUpRefused}
use Rattle.write_dispatch.specs.declared.refused.GiveUpRefused.TheVariants.{StillDecided}
use Rattle.write_dispatch.specs.Dispatch.{Acks, counts_of, are_majorities, give_up_answer}

-- what is answered of a pending operation, by whether its counts are majorities
pub answer_of : Bool → Counts → Result Counts GiveUpRefused
answer_of b counts = cond b (Err (StillDecided counts)) (Ok counts)

answer : (acks : Acks) (contract : Contract) (me : ℕ) (found : Option Decided) (d : Decided) (counts : Counts) (b : Bool) → found ≡ Some d → counts ≡ counts_of acks contract me d.at → are_majorities counts ≡ b
    → answer_of b counts ≡ give_up_answer acks contract me found
unfolding answer_of
answer acks contract me found d counts b e k m =
    sym (ap (give_up_answer acks contract me) e ∙ ap (λ (c : Counts). answer_of (are_majorities c) c) (sym k) ∙ ap (λ v. answer_of v counts) m)

pub answer-decided : (acks : Acks) (contract : Contract) (me : ℕ) (found : Option Decided) (d : Decided) (counts : Counts) → found ≡ Some d → counts ≡ counts_of acks contract me d.at → are_majorities counts ≡ true
    → Err (StillDecided counts) ≡ give_up_answer acks contract me found
unfolding answer_of
answer-decided acks contract me found d counts e k m = answer acks contract me found d counts true e k m

pub answer-undecided : (acks : Acks) (contract : Contract) (me : ℕ) (found : Option Decided) (d : Decided) (counts : Counts) → found ≡ Some d → counts ≡ counts_of acks contract me d.at → are_majorities counts ≡ false
    → Ok counts ≡ give_up_answer acks contract me found
unfolding answer_of
answer-undecided acks contract me found d counts e k m = answer acks contract me found d counts false e k m
