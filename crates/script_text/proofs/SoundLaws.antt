-- Every accepted script is sound.
use Rattle.std.proofs.Common.{⊎_elim, ◌≡◌, ◌⊎◌, inl, inr, append-nil, append_assoc, ℕ, ◌+◌, ◌<◌, Bool, true, false, not, ◌&&◌, List, [], ◌∷◌, ◌++◌, Some, None, refl, sym, ◌∙◌, subst, arith}
use Rattle.std.specs.Prelude.{Option, is_some, option_and_then, option_map, ok_or, Result, Ok, Err, if◌then◌else◌, bytes_eq, codes, nat_lt, nat_le, length}
use Rattle.std.specs.List.{list_all}
use Rattle.std.proofs.lemmas.Bool.Decides.{nat_tests}
use Rattle.std.proofs.lemmas.Bool.{and_parts}
use Rattle.serde_json.specs.Data.{Data}
use Rattle.serde_json.specs.Find.{get, as_object}
use Rattle.contract_types.specs.Setup.{SetupState, IsSetup, is_setup, whole}
use Rattle.contract_types.specs.declared.config.ShardConfig.{ShardConfig}
use Rattle.contract_types.specs.Configs.{ConfigState, is_config}
use Rattle.contract_types.proofs.Shards.{config_decides}
use Rattle.contract_types.proofs.Whole.{whole_is_config}
use Rattle.script_text.specs.declared.script.ScriptWord.{ScriptWord}
use Rattle.script_text.specs.declared.script.ScriptItem.{ScriptItem}
use Rattle.script_text.specs.Script.{ScriptState, is_again}
use Rattle.script_text.specs.declared.script.ScriptWord.TheVariants.{Request, GiveUp, See, Crash, Restart, Tick, Deliver, Lose, LoseBetween, Flush, Settle}
use Rattle.register_laws.specs.declared.operation.OpId.{OpId}
use Rattle.register_laws.specs.declared.operation.Op.{Op}
use Rattle.register_laws.specs.declared.operation.Op.TheVariants.{Put, Delete, Cas, Read}
use Rattle.region_map.specs.declared.id.NodeId.{NodeId}
use Rattle.region_map.specs.Nodes.{node_id}
use Rattle.script_text.specs.declared.status.Reason.{Reason}
use Rattle.script_text.specs.declared.status.Reason.TheVariants.{BadJson, Word, Member, NotHere, Place, Range, Node, OpKnown}
use Rattle.script_text.specs.Members.{kept_if, number_in, number_or, op_in, node_at, node_in, node_or_none, truth_in, text_in, nodes_of, only_of}
use Rattle.script_text.specs.Shapes.{has_members, is_here}
use Rattle.script_text.specs.Grammar.{◌>>=◌, needs, key_in, value_in, value_or_null_in, broken_rule, config_of, shards_of, setup_with, setup_of, put_of, delete_of, read_of, cas_of, giveup_of, see_of, node_word_of, deliver_of, lose_one_of, lose_between_of, lose_of, flush_of, settle_of, word_named}
use Rattle.script_text.specs.Lines.{Reading, ScriptRead, Accepted, TooLong, at_first, said, is_blank, line_data, lines, most_line_bytes, take_line, take_json, take_data, take_named, take_setup, take_word, unless_refused, read_from, read_lines}
use Rattle.script_text.specs.Sound.{fits_node, fits_only, fits_table, are_new, IsSound}

-- ---- words name nodes of the table

kept_is : {A : Type 0} (test : Bool) (a b : A) → kept_if test a ≡ Some b → (test ≡ true) × (a ≡ b)
kept_is true a b is = (refl, cc)
kept_is false a b is = cc

node_below : (nodes : ℕ) (number : Option ℕ) (node : NodeId) → option_and_then (λ n. kept_if (nat_lt n nodes) (node_id n)) number ≡ Some node → nat_lt node.0 nodes ≡ true
node_below nodes None node is = cc
node_below nodes (Some n) node is =
    let h = kept_is (nat_lt n nodes) (node_id n) node is in
    subst (λ (k : NodeId). nat_lt k.0 nodes ≡ true) h.1 h.0

node_at-fits : (name : List ℕ) (setup : SetupState) (line : Data) (node : NodeId) → node_at name setup line ≡ Some node → nat_lt node.0 setup.nodes ≡ true
node_at-fits name setup line node is = node_below setup.nodes (number_in name line) node is

node_in-fits : (setup : SetupState) (line : Data) (node : NodeId) → node_in setup line ≡ Some node → nat_lt node.0 setup.nodes ≡ true
node_in-fits setup line node is = node_at-fits (codes "node") setup line node is

or_none-fits : (setup : SetupState) (stands : Bool) (at to : Option NodeId)
    → ((n : NodeId) → at ≡ Some n → nat_lt n.0 setup.nodes ≡ true)
    → (if stands then option_map Some at else Some None) ≡ Some to → fits_node setup to ≡ true
or_none-fits setup true None to fits is = cc
or_none-fits setup true (Some n) to fits is =
    let same : Some n ≡ to = cc in
    subst (λ o. fits_node setup o ≡ true) same (fits n refl)
or_none-fits setup false at to fits is =
    let same : None ≡ to = cc in
    subst (λ o. fits_node setup o ≡ true) same refl

all-fits : (setup : SetupState) (nodes : Option (List ℕ)) (only : Option (List ℕ))
    → option_and_then (λ s. kept_if (list_all (λ n. nat_lt n setup.nodes) s) (Some s)) nodes ≡ Some only → fits_only setup only ≡ true
all-fits setup None only is = cc
all-fits setup (Some s) only is =
    let h = kept_is (list_all (λ n. nat_lt n setup.nodes) s) (Some s) only is in
    subst (λ o. fits_only setup o ≡ true) h.1 h.0

only_of-fits : (setup : SetupState) (list : Option Data) (only : Option (List ℕ)) → only_of setup list ≡ Some only → fits_only setup only ≡ true
only_of-fits setup None only is =
    let same : None ≡ only = cc in
    subst (λ o. fits_only setup o ≡ true) same refl
only_of-fits setup (Some d) only is = all-fits setup (nodes_of d) only is

module _ (setup : SetupState) where
  abbrev Below : Option NodeId → Type 0
  Below node = (n : NodeId) → node ≡ Some n → nat_lt n.0 setup.nodes ≡ true

  request_with : (what : List ℕ → Op) (op : Option OpId) (node : Option NodeId) (key value : Result (List ℕ) Reason) (word : ScriptWord) → Below node
      → (ok_or op Member >>= λ o. ok_or node Node >>= λ n. key >>= λ k. value >>= λ v. Ok (Request o n k (what v))) ≡ Ok word → fits_table setup word ≡ true
  request_with what None at key value word fits is = cc
  request_with what (Some o) None key value word fits is = cc
  request_with what (Some o) (Some n) (Err why) value word fits is = cc
  request_with what (Some o) (Some n) (Ok k) (Err why) word fits is = cc
  request_with what (Some o) (Some n) (Ok k) (Ok v) word fits is =
      let same : Request o n k (what v) ≡ word = cc in
      subst (λ w. fits_table setup w ≡ true) same (fits n refl)

  request_of : (what : Op) (op : Option OpId) (node : Option NodeId) (key : Result (List ℕ) Reason) (word : ScriptWord) → Below node
      → (ok_or op Member >>= λ o. ok_or node Node >>= λ n. key >>= λ k. Ok (Request o n k what)) ≡ Ok word → fits_table setup word ≡ true
  request_of what None at key word fits is = cc
  request_of what (Some o) None key word fits is = cc
  request_of what (Some o) (Some n) (Err why) word fits is = cc
  request_of what (Some o) (Some n) (Ok k) word fits is =
      let same : Request o n k what ≡ word = cc in
      subst (λ w. fits_table setup w ≡ true) same (fits n refl)

  cas_with : (op : Option OpId) (node : Option NodeId) (key : Result (List ℕ) Reason) (expect put : Result (Option (List ℕ)) Reason) (word : ScriptWord) → Below node
      → (ok_or op Member >>= λ o. ok_or node Node >>= λ n. key >>= λ k. expect >>= λ e. put >>= λ p. Ok (Request o n k (Cas e p))) ≡ Ok word → fits_table setup word ≡ true
  cas_with None at key expect put word fits is = cc
  cas_with (Some o) None key expect put word fits is = cc
  cas_with (Some o) (Some n) (Err why) expect put word fits is = cc
  cas_with (Some o) (Some n) (Ok k) (Err why) put word fits is = cc
  cas_with (Some o) (Some n) (Ok k) (Ok e) (Err why) word fits is = cc
  cas_with (Some o) (Some n) (Ok k) (Ok e) (Ok p) word fits is =
      let same : Request o n k (Cas e p) ≡ word = cc in
      subst (λ w. fits_table setup w ≡ true) same (fits n refl)

  giveup_with : (op : Option OpId) (node : Option NodeId) (word : ScriptWord) → Below node
      → (ok_or op Member >>= λ o. ok_or node Node >>= λ n. Ok (GiveUp n o)) ≡ Ok word → fits_table setup word ≡ true
  giveup_with None at word fits is = cc
  giveup_with (Some o) None word fits is = cc
  giveup_with (Some o) (Some n) word fits is =
      let same : GiveUp n o ≡ word = cc in
      subst (λ w. fits_table setup w ≡ true) same (fits n refl)

  see_with : (up : Option Bool) (node other : Option NodeId) (word : ScriptWord) → Below node → Below other
      → (ok_or up Member >>= λ u. ok_or node Node >>= λ n. ok_or other Node >>= λ o. Ok (See n o u)) ≡ Ok word → fits_table setup word ≡ true
  see_with None at other word fits fits_too is = cc
  see_with (Some u) None other word fits fits_too is = cc
  see_with (Some u) (Some n) None word fits fits_too is = cc
  see_with (Some u) (Some n) (Some o) word fits fits_too is =
      let same : See n o u ≡ word = cc in
      subst (λ w. fits_table setup w ≡ true) same (rw (fits n refl, fits_too o refl) refl)

  node_word_with : (what : NodeId → ScriptWord) (node : Option NodeId) (word : ScriptWord) → ((n : NodeId) → node ≡ Some n → fits_table setup (what n) ≡ true)
      → (ok_or node Node >>= λ n. Ok (what n)) ≡ Ok word → fits_table setup word ≡ true
  node_word_with what None word fits is = cc
  node_word_with what (Some n) word fits is =
      let same : what n ≡ word = cc in
      subst (λ w. fits_table setup w ≡ true) same (fits n refl)

  deliver_with : (message : Option ℕ) (to : Option (Option NodeId)) (word : ScriptWord) → ((n : Option NodeId) → to ≡ Some n → fits_node setup n ≡ true)
      → (ok_or message Member >>= λ m. ok_or to Node >>= λ n. Ok (Deliver m n)) ≡ Ok word → fits_table setup word ≡ true
  deliver_with None to word fits is = cc
  deliver_with (Some m) None word fits is = cc
  deliver_with (Some m) (Some n) word fits is =
      let same : Deliver m n ≡ word = cc in
      subst (λ w. fits_table setup w ≡ true) same (fits n refl)

  lose_one_with : (message : Option ℕ) (word : ScriptWord) → (ok_or message Member >>= λ m. Ok (Lose m)) ≡ Ok word → fits_table setup word ≡ true
  lose_one_with None word is = cc
  lose_one_with (Some m) word is =
      let same : Lose m ≡ word = cc in
      subst (λ w. fits_table setup w ≡ true) same refl

  lose_between_with : (from to : Option NodeId) (word : ScriptWord) → Below from → Below to
      → (ok_or from Node >>= λ f. ok_or to Node >>= λ t. Ok (LoseBetween f t)) ≡ Ok word → fits_table setup word ≡ true
  lose_between_with None to word fits fits_too is = cc
  lose_between_with (Some f) None word fits fits_too is = cc
  lose_between_with (Some f) (Some t) word fits fits_too is =
      let same : LoseBetween f t ≡ word = cc in
      subst (λ w. fits_table setup w ≡ true) same (rw (fits f refl, fits_too t refl) refl)

  flush_with : (only : Option (Option (List ℕ))) (word : ScriptWord) → ((o : Option (List ℕ)) → only ≡ Some o → fits_only setup o ≡ true)
      → (ok_or only Node >>= λ o. Ok (Flush o)) ≡ Ok word → fits_table setup word ≡ true
  flush_with None word fits is = cc
  flush_with (Some o) word fits is =
      let same : Flush o ≡ word = cc in
      subst (λ w. fits_table setup w ≡ true) same (fits o refl)

  settle_in : (r : ℕ) (test : Bool) (only : Option (Option (List ℕ))) (word : ScriptWord) → ((o : Option (List ℕ)) → only ≡ Some o → fits_only setup o ≡ true)
      → needs test Range (ok_or only Node >>= λ o. Ok (Settle r o)) ≡ Ok word → fits_table setup word ≡ true
  settle_in r false only word fits is = cc
  settle_in r true None word fits is = cc
  settle_in r true (Some o) word fits is =
      let same : Settle r o ≡ word = cc in
      subst (λ w. fits_table setup w ≡ true) same (fits o refl)

  settle_with : (rounds : Option ℕ) (only : Option (Option (List ℕ))) (test : ℕ → Bool) (word : ScriptWord) → ((o : Option (List ℕ)) → only ≡ Some o → fits_only setup o ≡ true)
      → (ok_or rounds Member >>= λ r. needs (test r) Range (ok_or only Node >>= λ o. Ok (Settle r o))) ≡ Ok word → fits_table setup word ≡ true
  settle_with None only test word fits is = cc
  settle_with (Some r) only test word fits is = settle_in r (test r) only word fits is

  choose : {A : Type 0} (b : Bool) (x y : Result A Reason) (a : A) (P : A → Type 0) → (x ≡ Ok a → P a) → (y ≡ Ok a → P a) → (if b then x else y) ≡ Ok a → P a
  choose true x y a P left right is = left is
  choose false x y a P left right is = right is

  put-fits : (line : Data) (word : ScriptWord) → put_of setup line ≡ Ok word → fits_table setup word ≡ true
  put-fits line word is = request_with Put (op_in (codes "op") line) (node_in setup line) (key_in line) (value_in line) word (node_in-fits setup line) is

  delete-fits : (line : Data) (word : ScriptWord) → delete_of setup line ≡ Ok word → fits_table setup word ≡ true
  delete-fits line word is = request_of Delete (op_in (codes "op") line) (node_in setup line) (key_in line) word (node_in-fits setup line) is

  read-fits : (line : Data) (word : ScriptWord) → read_of setup line ≡ Ok word → fits_table setup word ≡ true
  read-fits line word is = request_of Read (op_in (codes "op") line) (node_in setup line) (key_in line) word (node_in-fits setup line) is

  cas-fits : (line : Data) (word : ScriptWord) → cas_of setup line ≡ Ok word → fits_table setup word ≡ true
  cas-fits line word is = cas_with (op_in (codes "op") line) (node_in setup line) (key_in line) (value_or_null_in (codes "expect") line) (value_or_null_in (codes "value") line) word (node_in-fits setup line) is

  giveup-fits : (line : Data) (word : ScriptWord) → giveup_of setup line ≡ Ok word → fits_table setup word ≡ true
  giveup-fits line word is = giveup_with (op_in (codes "for") line) (node_in setup line) word (node_in-fits setup line) is

  see-fits : (line : Data) (word : ScriptWord) → see_of setup line ≡ Ok word → fits_table setup word ≡ true
  see-fits line word is = see_with (truth_in (codes "up") line) (node_in setup line) (node_at (codes "other") setup line) word (node_in-fits setup line) (node_at-fits (codes "other") setup line) is

  node_word-fits : (what : NodeId → ScriptWord) → ((n : NodeId) → fits_table setup (what n) ≡ nat_lt n.0 setup.nodes)
      → (line : Data) (word : ScriptWord) → node_word_of what setup line ≡ Ok word → fits_table setup word ≡ true
  node_word-fits what same line word is = node_word_with what (node_in setup line) word (λ n e. same n ∙ node_in-fits setup line n e) is

  deliver-fits : (line : Data) (word : ScriptWord) → deliver_of setup line ≡ Ok word → fits_table setup word ≡ true
  deliver-fits line word is = deliver_with (number_in (codes "message") line) (node_or_none (codes "node") setup line) word
      (λ n. or_none-fits setup (is_some (get (codes "node") line)) (node_at (codes "node") setup line) n (node_at-fits (codes "node") setup line)) is

  lose-fits : (line : Data) (word : ScriptWord) → lose_of setup line ≡ Ok word → fits_table setup word ≡ true
  lose-fits line word =
      choose (is_some (get (codes "message") line)) (lose_one_of line) (lose_between_of setup line) word (λ w. fits_table setup w ≡ true)
      (lose_one_with (number_in (codes "message") line) word)
      (lose_between_with (node_at (codes "from") setup line) (node_at (codes "to") setup line) word (node_at-fits (codes "from") setup line) (node_at-fits (codes "to") setup line))

  flush-fits : (line : Data) (word : ScriptWord) → flush_of setup line ≡ Ok word → fits_table setup word ≡ true
  flush-fits line word is = flush_with (only_of setup (get (codes "only") line)) word (only_of-fits setup (get (codes "only") line)) is

  settle-fits : (line : Data) (word : ScriptWord) → settle_of setup line ≡ Ok word → fits_table setup word ≡ true
  settle-fits line word is = settle_with (number_in (codes "rounds") line) (only_of setup (get (codes "only") line)) (λ r. nat_lt 0 r && nat_le r 100) word (only_of-fits setup (get (codes "only") line)) is

  -- each word of the grammar
  word-fits : (name : List ℕ) (line : Data) (word : ScriptWord) → word_named setup name line ≡ Ok word → fits_table setup word ≡ true
  word-fits name line word =
      let P : ScriptWord → Type 0 = λ w. fits_table setup w ≡ true in
      choose (bytes_eq name (codes "put")) (put_of setup line) _ word P (put-fits line word) (
      choose (bytes_eq name (codes "delete")) (delete_of setup line) _ word P (delete-fits line word) (
      choose (bytes_eq name (codes "read")) (read_of setup line) _ word P (read-fits line word) (
      choose (bytes_eq name (codes "cas")) (cas_of setup line) _ word P (cas-fits line word) (
      choose (bytes_eq name (codes "giveup")) (giveup_of setup line) _ word P (giveup-fits line word) (
      choose (bytes_eq name (codes "see")) (see_of setup line) _ word P (see-fits line word) (
      choose (bytes_eq name (codes "crash")) (node_word_of Crash setup line) _ word P (node_word-fits Crash (λ n. refl) line word) (
      choose (bytes_eq name (codes "restart")) (node_word_of Restart setup line) _ word P (node_word-fits Restart (λ n. refl) line word) (
      choose (bytes_eq name (codes "tick")) (node_word_of Tick setup line) _ word P (node_word-fits Tick (λ n. refl) line word) (
      choose (bytes_eq name (codes "deliver")) (deliver_of setup line) _ word P (deliver-fits line word) (
      choose (bytes_eq name (codes "lose")) (lose_of setup line) _ word P (lose-fits line word) (
      choose (bytes_eq name (codes "flush")) (flush_of setup line) _ word P (flush-fits line word) (
      choose (bytes_eq name (codes "settle")) (settle_of setup line) (Err Word) word P (settle-fits line word) (λ is. cc)))))))))))))

-- ---- what the lines so far said is sound

record IsSoundSoFar (r : Reading) : Type 0 where
  sound : IsSound (said r)
  empty : r.begun ≡ false → r.items ≡ []

bound : {A B : Type 0} (o : Result A Reason) (f : A → Result B Reason) (b : B) → (o >>= f) ≡ Ok b → (a : A) × (o ≡ Ok a) × (f a ≡ Ok b)
bound (Err why) f b is = cc
bound (Ok a) f b is = (a, refl, is)

needed : {A : Type 0} (test : Bool) (why : Reason) (later : Result A Reason) (a : A) → needs test why later ≡ Ok a → (test ≡ true) × (later ≡ Ok a)
needed true why later a is = (refl, is)
needed false why later a is = cc

if_is : {A : Type 0} (test : Bool) (x y : Result A Reason) (a : A) → (if test then x else y) ≡ Ok a → ((test ≡ true) × (x ≡ Ok a)) ⊎ ((test ≡ false) × (y ≡ Ok a))
if_is true x y a is = inl (refl, is)
if_is false x y a is = inr (refl, is)

not_so : (b : Bool) → not b ≡ true → b ≡ false
not_so true h = cc
not_so false h = refl

are_new-push : (before items : List ScriptItem) (item : ScriptItem) → are_new before items ≡ true → not (is_again item.word (before ++ items)) ≡ true → are_new before (items ++ item ∷ []) ≡ true
are_new-push before [] item new fresh =
    let h = rw append-nil at fresh in
    rw h refl
are_new-push before (x ∷ xs) item new fresh =
    let h = and_parts (not (is_again x.word before)) (are_new (before ++ x ∷ []) xs) new in
    let later : not (is_again item.word ((before ++ x ∷ []) ++ xs)) ≡ true = rw append_assoc fresh in
    rw h.0 (are_new-push (before ++ x ∷ []) xs item h.1 later)

all-push : (p : ScriptItem → Bool) (items : List ScriptItem) (item : ScriptItem) → list_all p items ≡ true → p item ≡ true → list_all p (items ++ item ∷ []) ≡ true
all-push p [] item all one = rw one refl
all-push p (x ∷ xs) item all one =
    let h = and_parts (p x) (list_all p xs) all in
    rw h.0 (all-push p xs item h.1 one)

all-none : (p : ScriptItem → Bool) (items : List ScriptItem) → items ≡ [] → list_all p items ≡ true
all-none p items none = subst (λ xs. list_all p xs ≡ true) (sym none) refl

-- ---- what a table may begin with

whole-setup : (nodes hashes : ℕ) → is_setup nodes hashes ≡ true → IsSetup (whole nodes hashes)
whole-setup nodes hashes fits = record { fits = fits; config = whole_is_config nodes hashes (some_nodes nodes hashes fits) (some_hashes nodes hashes fits) }
  where
    some_nodes : (n h : ℕ) → is_setup n h ≡ true → 0 < n
    some_nodes n h e = grind (arith, nat_tests)

    some_hashes : (n h : ℕ) → is_setup n h ≡ true → 0 < h
    some_hashes n h e = grind (arith, nat_tests)

config-setup : (nodes hashes : ℕ) (shards : List ShardConfig) (s : SetupState) → is_setup nodes hashes ≡ true → config_of nodes hashes shards ≡ Ok s → IsSetup s
config-setup nodes hashes shards s fits is =
    let c : ConfigState = record { nodes = nodes; hashes = hashes; shards = shards } in
    let k = needed (is_config c) (broken_rule c) (Ok c) s is in
    let same : c ≡ s = cc (k.1) in
    subst IsSetup same (record { fits = fits; config = (config_decides c).0 k.0 })

with-setup : (nodes hashes : ℕ) (shards : Option Data) (s : SetupState) → is_setup nodes hashes ≡ true → setup_with nodes hashes shards ≡ Ok s → IsSetup s
with-setup nodes hashes None s fits is = let same : whole nodes hashes ≡ s = cc in subst IsSetup same (whole-setup nodes hashes fits)
with-setup nodes hashes (Some d) s fits is =
    let k = bound (shards_of hashes d) (config_of nodes hashes) s is in
    config-setup nodes hashes k.0 s fits k.2

of-setup : (nodes hashes : Option ℕ) (shards : Option Data) (s : SetupState)
    → (ok_or nodes Member >>= λ n. ok_or hashes Member >>= λ h. needs (is_setup n h) Range (setup_with n h shards)) ≡ Ok s → IsSetup s
of-setup None hashes shards s is = cc
of-setup (Some n) None shards s is = cc
of-setup (Some n) (Some h) shards s is =
    let k = needed (is_setup n h) Range (setup_with n h shards) s is in
    with-setup n h shards s k.0 k.1

line-setup : (line : Data) (s : SetupState) → setup_of line ≡ Ok s → IsSetup s
line-setup line s is = of-setup (number_in (codes "nodes") line) (number_or 8 (get (codes "hash") line)) (get (codes "shards") line) s is

-- what is said once a setup is taken
abbrev set_up : Reading → SetupState → Reading
set_up r setup = record r { begun = true; setup = setup }

setup-sound : (r s : Reading) (line : Data) → IsSoundSoFar r → take_setup r line ≡ Ok s → IsSoundSoFar s
setup-sound r s line h is =
    let first = needed (not r.begun) Place (setup_of line >>= λ setup. Ok (set_up r setup)) s is in
    let m = bound (setup_of line) (λ setup. Ok (set_up r setup)) s first.1 in
    let same : set_up r m.0 ≡ s = cc (m.2) in
    let none = h.empty (not_so r.begun first.0) in
    subst IsSoundSoFar same (record {
      sound = record {
        begins = line-setup line m.0 m.1;
        fits = all-none (λ i. fits_table m.0 i.word) r.items none;
        new = subst (λ items. are_new [] items ≡ true) (sym none) refl;
      };
      empty = λ e. cc;
    })

word-sound : (r s : Reading) (number : ℕ) (word : ScriptWord) → IsSoundSoFar r → fits_table r.setup word ≡ true → take_word r number word ≡ Ok s → IsSoundSoFar s
word-sound r s number word h fits is =
    let item : ScriptItem = record { line = number; word = word } in
    let after : Reading = record r { begun = true; items = r.items ++ item ∷ [] } in
    let k = needed (not (is_again word r.items)) OpKnown (Ok after) s is in
    let same : after ≡ s = cc (k.1) in
    subst IsSoundSoFar same (record {
      sound = record {
        begins = h.sound.begins;
        fits = all-push (λ i. fits_table r.setup i.word) r.items item h.sound.fits fits;
        new = are_new-push [] r.items item h.sound.new k.0;
      };
      empty = λ e. cc;
    })

named-sound : (r s : Reading) (number : ℕ) (name : List ℕ) (line : Data) → IsSoundSoFar r → take_named r number name line ≡ Ok s → IsSoundSoFar s
named-sound r s number name line h is =
    ⊎_elim (λ (c : (bytes_eq name (codes "setup") ≡ true) × (take_setup r line ≡ Ok s)). setup-sound r s line h c.1)
    (λ (c : (bytes_eq name (codes "setup") ≡ false) × ((word_named r.setup name line >>= take_word r number) ≡ Ok s)).
    let w = bound (word_named r.setup name line) (take_word r number) s c.1 in
    word-sound r s number w.0 h (word-fits r.setup name line w.0 w.1) w.2)
    (if_is (bytes_eq name (codes "setup")) (take_setup r line) (word_named r.setup name line >>= take_word r number) s is)

data-sound : (r s : Reading) (number : ℕ) (line : Data) → IsSoundSoFar r → take_data r number line ≡ Ok s → IsSoundSoFar s
data-sound r s number line h is =
    let later : List ℕ → Bool → Result Reading Reason = λ name fits. needs fits Member (needs (is_here line) NotHere (take_named r number name line)) in
    let n = bound (ok_or (text_in (codes "do") line) Word) (λ name. has_members name line >>= later name) s is in
    let m = bound (has_members n.0 line) (later n.0) s n.2 in
    let here = needed m.0 Member (needs (is_here line) NotHere (take_named r number n.0 line)) s m.2 in
    named-sound r s number n.0 line h (needed (is_here line) NotHere (take_named r number n.0 line) s here.1).1

json-sound : (r s : Reading) (number : ℕ) (line : Data) → IsSoundSoFar r → take_json r number line ≡ Ok s → IsSoundSoFar s
json-sound r s number line h is = data-sound r s number line h (needed (is_some (as_object line)) BadJson (take_data r number line) s is).1

line-sound : (r s : Reading) (number : ℕ) (line : List ℕ) → IsSoundSoFar r → take_line r number line ≡ Ok s → IsSoundSoFar s
line-sound r s number line h is =
    ⊎_elim (λ (c : (is_blank line ≡ true) × (Ok r ≡ Ok s)). let same : r ≡ s = cc in subst IsSoundSoFar same h)
    (λ (c : (is_blank line ≡ false) × ((ok_or (line_data line) BadJson >>= take_json r number) ≡ Ok s)).
    let d = bound (ok_or (line_data line) BadJson) (take_json r number) s c.1 in
    json-sound r s number d.0 h d.2)
    (if_is (is_blank line) (Ok r) (ok_or (line_data line) BadJson >>= take_json r number) s is)

after_is : (short : Bool) (number : ℕ) (o : Result Reading Reason) (later : Reading → ScriptRead) (script : ScriptState)
    → (if short then unless_refused number o later else TooLong) ≡ Accepted script → (s : Reading) × (o ≡ Ok s) × (later s ≡ Accepted script)
after_is false number o later script is = cc
after_is true number (Err why) later script is = cc
after_is true number (Ok s) later script is = (s, refl, is)

from-sound : (ls : List (List ℕ)) (number : ℕ) (r : Reading) (script : ScriptState) → IsSoundSoFar r → read_from ls number r ≡ Accepted script → IsSound script
from-sound [] number r script h is =
    let same : said r ≡ script = cc in
    subst IsSound same h.sound
from-sound (l ∷ ls) number r script h is =
    let s = after_is (nat_le (length l) most_line_bytes) number (take_line r number l) (read_from ls (number + 1)) script is in
    from-sound ls (number + 1) s.0 script (line-sound r s.0 number l h s.1) s.2

-- every accepted script is sound
pub accepted_sound : (text : List ℕ) (script : ScriptState) → read_lines text ≡ Accepted script → IsSound script
accepted_sound text script is =
    from-sound (lines text) 1 at_first script (record { sound = record { begins = whole-setup 1 8 refl; fits = refl; new = refl }; empty = λ e. refl }) is
