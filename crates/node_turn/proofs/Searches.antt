-- A search among messages goes on behind those that were passed.
use Rattle.std.proofs.Common.{◌≡◌, ℕ, ◌+◌, ◌≤◌, ◌<◌, Bool, true, false, cond, ◌&&◌, ◌==◌, nat_le, nat_lt, List, [], ◌∷◌, ◌++◌, take, drop, length, reverse, Some, Result, Ok, Err, OnErr, refl, sym, ap, ◌∙◌, arith}
use Rattle.std.proofs.lemmas.Bool.{false≢true}
use Rattle.std.proofs.lemmas.Bool.Decides.{nat_tests}
use Rattle.std.proofs.lemmas.List.{append-nil, append_assoc, length-append, reverse-append, take-append-drop}
use Rattle.node_turn.specs.runs.region_map.declared.id.NodeId.{NodeId}
use Rattle.node_turn.specs.runs.node_core.declared.journal.Entry.{Entry}
use Rattle.node_turn.specs.runs.declared.envelope.Envelope.{Envelope}
use Rattle.node_turn.specs.runs.Run.{sent, sent_by}
use Rattle.node_turn.specs.declared.chance.Chance.{Chance}
use Rattle.node_turn.specs.declared.position.MessageCopy.{MessageCopy}
use Rattle.node_turn.specs.declared.search.Found.{Found}
use Rattle.node_turn.specs.declared.search.Found.TheVariants.{Due, Passed}
use Rattle.node_turn.specs.Chances.{copies_due}
use Rattle.node_turn.specs.Search.{copies_taken, is_due, next_copy, search, goes_on, due_of, due, IsPlaced}

-- ---- messages of entries, the oldest first

sent_more : (more past : List Entry) → sent (more ++ past) ≡ sent past ++ sent more
sent_more [] past = sym (append-nil (sent past))
sent_more (e ∷ more) past = ap (λ (l : List Envelope). l ++ sent_by e.node e.outputs) (sent_more more past) ∙ append_assoc (sent past) (sent more) (sent_by e.node e.outputs)

sent_oldest : (front behind : List Entry) → sent (reverse (front ++ behind)) ≡ sent (reverse front) ++ sent (reverse behind)
sent_oldest front behind = ap sent (reverse-append front behind) ∙ sent_more (reverse behind) (reverse front)

-- ---- what a search found

abbrev pub is_passed : Found → Bool
is_passed (Due copy) = false
is_passed (Passed number) = true

abbrev pub number_of : Found → ℕ
number_of (Due copy) = copy.message
number_of (Passed number) = number

pub on_err : {T E : Type 0} {P : Type 0} (r : Result T E) → P → OnErr r P
on_err (Ok x) p = tt
on_err (Err e) p = p

and_false_mid : (a c : Bool) → (a && false && c) ≡ false
and_false_mid true c = refl
and_false_mid false c = refl

module _ (chance : Chance) (node : NodeId) (taken : MessageCopy) where
  -- it goes on behind messages
  pub search_append : (xs ys : List Envelope) (k : ℕ) → search chance node taken (xs ++ ys) k ≡ goes_on (search chance node taken xs k) (search chance node taken ys)
  search_append [] ys k = refl
  search_append (m ∷ xs) ys k =
      elim (is_due chance node taken m.to k)
      as (λ b. cond b (Due (next_copy taken k)) (search chance node taken (xs ++ ys) (k + 1))
      ≡ goes_on (cond b (Due (next_copy taken k)) (search chance node taken xs (k + 1))) (search chance node taken ys)) [
        | true ↦ refl
        | false ↦ search_append xs ys (k + 1)
      ]

  -- the numbers rise
  pub due_from : (xs : List Envelope) (k : ℕ) (copy : MessageCopy) → search chance node taken xs k ≡ Due copy → k ≤ copy.message
  due_from [] k copy h = absurd (false≢true (sym (ap is_passed h)))
  due_from (m ∷ xs) k copy h =
      elim (is_due chance node taken m.to k) as (λ b. cond b (Due (next_copy taken k)) (search chance node taken xs (k + 1)) ≡ Due copy → k ≤ copy.message) [
        | true ↦ λ e. let same : k ≡ copy.message = ap number_of e in omega (arith, same)
        | false ↦ λ e. let later : k + 1 ≤ copy.message = due_from xs (k + 1) copy e in omega (arith, later)
      ] h

  pub passed_from : (xs : List Envelope) (k j : ℕ) → search chance node taken xs k ≡ Passed j → k ≤ j
  passed_from [] k j h = let same : k ≡ j = ap number_of h in omega (arith, same)
  passed_from (m ∷ xs) k j h =
      elim (is_due chance node taken m.to k) as (λ b. cond b (Due (next_copy taken k)) (search chance node taken xs (k + 1)) ≡ Passed j → k ≤ j) [
        | true ↦ λ e. absurd (false≢true (ap is_passed e))
        | false ↦ λ e. let later : k + 1 ≤ j = passed_from xs (k + 1) j e in omega (arith, later)
      ] h

  -- and count
  pub passed_count : (xs : List Envelope) (k j : ℕ) → search chance node taken xs k ≡ Passed j → j ≡ k + length xs
  passed_count [] k j h = let same : k ≡ j = ap number_of h in omega (arith, same)
  passed_count (m ∷ xs) k j h =
      elim (is_due chance node taken m.to k) as (λ b. cond b (Due (next_copy taken k)) (search chance node taken xs (k + 1)) ≡ Passed j → j ≡ k + length (m ∷ xs)) [
        | true ↦ λ e. absurd (false≢true (ap is_passed e))
        | false ↦ λ e. let rest : j ≡ k + 1 + length xs = passed_count xs (k + 1) j e in omega (arith, rest)
      ] h

  -- what was passed before a copy that is due then is passed also once that copy was taken
  not_due : (to : NodeId) (k : ℕ) (copy : MessageCopy) → k < copy.message → is_due chance node copy to k ≡ false
  not_due to k copy before =
      let past : nat_le copy.message k ≡ false = grind (arith, nat_tests) in
      ap (λ b. (to.0 == node.0) && b && nat_lt (copies_taken copy k) (copies_due chance k)) past
      ∙ and_false_mid (to.0 == node.0) (nat_lt (copies_taken copy k) (copies_due chance k))

  pub passed_later : (xs : List Envelope) (k j : ℕ) (copy : MessageCopy) → search chance node taken xs k ≡ Passed j → j ≤ copy.message → search chance node copy xs k ≡ Passed j
  passed_later [] k j copy h before = h
  passed_later (m ∷ xs) k j copy h before =
      elim (is_due chance node taken m.to k)
      as (λ b. cond b (Due (next_copy taken k)) (search chance node taken xs (k + 1)) ≡ Passed j → search chance node copy (m ∷ xs) k ≡ Passed j) [
        | true ↦ λ e. absurd (false≢true (ap is_passed e))
        | false ↦ λ e.
            let later : k + 1 ≤ j = passed_from xs (k + 1) j e in
            ap (λ b. cond b (Due (next_copy copy k)) (search chance node copy xs (k + 1))) (not_due m.to k copy (omega (arith, later, before)))
            ∙ passed_later xs (k + 1) j copy e before
      ] h

  -- ---- one entry more

  pub entry_more : (front : List Entry) (e : Entry) (number : ℕ) → search chance node taken (sent (reverse front)) 1 ≡ Passed number
      → search chance node taken (sent (reverse (front ++ e ∷ []))) 1 ≡ search chance node taken (sent_by e.node e.outputs) number
  entry_more front e number passed =
      ap (λ (l : List Envelope). search chance node taken l 1) (ap sent (reverse-append front (e ∷ [])))
      ∙ search_append (sent (reverse front)) (sent_by e.node e.outputs) 1
      ∙ ap (λ f. goes_on f (search chance node taken (sent_by e.node e.outputs))) passed

  -- what is due in a beginning is due in the whole
  pub due_in_whole : (front behind : List Entry) (copy : MessageCopy) → search chance node taken (sent (reverse front)) 1 ≡ Due copy
      → search chance node taken (sent (reverse (front ++ behind))) 1 ≡ Due copy
  due_in_whole front behind copy found =
      ap (λ (l : List Envelope). search chance node taken l 1) (sent_oldest front behind)
      ∙ search_append (sent (reverse front)) (sent (reverse behind)) 1
      ∙ ap (λ f. goes_on f (search chance node taken (sent (reverse behind)))) found

  -- ---- by places in what is seen

  pub next_entry : (seen : List Entry) (i number : ℕ) (e : Entry) → take (i + 1) seen ≡ take i seen ++ e ∷ []
      → search chance node taken (sent (reverse (take i seen))) 1 ≡ Passed number
      → search chance node taken (sent (reverse (take (i + 1) seen))) 1 ≡ search chance node taken (sent_by e.node e.outputs) number
  next_entry seen i number e more passed =
      ap (λ (l : List Entry). search chance node taken (sent (reverse l)) 1) more ∙ entry_more (take i seen) e number passed

  pub due_found : (seen : List Entry) (i number : ℕ) (e : Entry) (copy : MessageCopy) → take (i + 1) seen ≡ take i seen ++ e ∷ []
      → search chance node taken (sent (reverse (take i seen))) 1 ≡ Passed number
      → search chance node taken (sent_by e.node e.outputs) number ≡ Due copy
      → Some copy ≡ due chance node taken (reverse seen)
  due_found seen i number e copy more passed here =
      let found = next_entry seen i number e more passed ∙ here in
      ap due_of (sym (due_in_whole (take (i + 1) seen) (drop (i + 1) seen) copy found))
      ∙ ap (λ (l : List Entry). due chance node taken (reverse l)) (take-append-drop (i + 1) seen)

  pub placed_later : (seen : List Entry) (entries number : ℕ) (copy : MessageCopy) → IsPlaced chance node taken seen entries number → number ≤ copy.message
      → IsPlaced chance node copy seen entries number
  placed_later seen entries number copy placed before =
      record { within = placed.within; passed = passed_later (sent (reverse (take entries seen))) 1 number copy placed.passed before }

  -- the messages of an entry of what is seen are some of all messages
  pub count_within : (seen : List Entry) (i number : ℕ) (e : Entry) → take (i + 1) seen ≡ take i seen ++ e ∷ []
      → search chance node taken (sent (reverse (take i seen))) 1 ≡ Passed number
      → number + length (sent_by e.node e.outputs) ≤ 1 + length (sent (reverse seen))
  count_within seen i number e more passed =
      let front : List Envelope = sent (reverse (take i seen)) in
      let own : List Envelope = sent_by e.node e.outputs in
      let rest : List Envelope = sent (reverse (drop (i + 1) seen)) in
      let whole : sent (reverse seen) ≡ (front ++ own) ++ rest =
      ap (λ (l : List Entry). sent (reverse l)) (sym (take-append-drop (i + 1) seen))
      ∙ sent_oldest (take (i + 1) seen) (drop (i + 1) seen)
      ∙ ap (λ (l : List Entry). sent (reverse l) ++ rest) more
      ∙ ap (λ (l : List Entry). sent l ++ rest) (reverse-append (take i seen) (e ∷ [])) in
      let sum : length (sent (reverse seen)) ≡ length front + length own + length rest =
      ap length whole ∙ length-append (front ++ own) rest ∙ ap (λ n. n + length rest) (length-append front own) in
      let counted : number ≡ 1 + length front = passed_count front 1 number passed in
      omega (arith, sum, counted)
