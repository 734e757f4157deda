-- Who made the branches of a key, in which life, and from what.
use Rattle.std.proofs.Common.{◌≡◌, ℕ, ◌≤◌, ◌<◌, true, false, cond, List, [], ◌∷◌, ◌++◌, length, Option, Some, None, is_some, inl, inr, refl, sym, ap, ◌∙◌, subst, arith, append_assoc}
use Rattle.path_facts.specs.Paths.{Birth, TellsApart}
use Rattle.path_facts.specs.Paths as paths
use Rattle.path_facts.specs.Invariant.{Asked as AskedFact, LogFacts}
use Rattle.key_births.specs.Births.{key_version, birth_at, births_at}
use Rattle.key_births.proofs.Births.{names}
use Rattle.row_runs.specs.runs.region_map.declared.id.Id.{Id}
use Rattle.row_runs.specs.runs.region_map.declared.id.NodeId.{NodeId}
use Rattle.row_runs.specs.runs.region_map.declared.region.Region.{Region}
use Rattle.row_runs.specs.runs.region_map.Keys.{hash_of}
use Rattle.row_runs.specs.runs.region_map.Regions.{in_region}
use Rattle.row_runs.specs.runs.region_map.Maps.{value_at}
use Rattle.row_runs.specs.runs.region_map.Nodes.{node_id}
use Rattle.row_runs.specs.runs.region_map.Equal.{same_id}
use Rattle.row_runs.specs.runs.branch_history.declared.history.BranchBirth.{BranchBirth}
use Rattle.row_runs.specs.runs.branch_history.Paths.{Branches, or_zero}
use Rattle.row_runs.specs.runs.branch_history.Histories.{knows}
use Rattle.row_runs.specs.runs.contract_types.declared.config.ShardConfig.{ShardConfig}
use Rattle.row_runs.specs.runs.contract_types.Configs.{shard_region}
use Rattle.row_runs.specs.runs.contract_types.Tilings.{holders}
use Rattle.row_runs.specs.runs.contract_types.Setup.{SetupState, IsSetup}
use Rattle.row_runs.specs.runs.contract_types.Tables.{branch_at, first_contracts, setup as first_table}
use Rattle.row_runs.specs.runs.table_apply.Runs.{table_at}
use Rattle.row_runs.specs.runs.primary_exec.declared.asking.Asking.{Asking}
use Rattle.row_runs.specs.runs.node_core.declared.journal.Entry.{Entry}
use Rattle.row_runs.specs.runs.node_core.Step.{NodeState}
use Rattle.row_runs.specs.runs.Committed.{IsEarlier}
use Rattle.row_runs.specs.runs.Run.{state, IsRun}
use Rattle.row_runs.specs.runs.Story.{IsIn}
use Rattle.row_runs.proofs.change_runs.Asked.{history_of}
use Rattle.row_runs.proofs.change_runs.LedHistories.{knows_one, some_inner, current_known}
use Rattle.row_runs.proofs.step_runs.PointBranches.{all_at}
use Rattle.row_runs.proofs.step_runs.Setups.{one_shard}
use Rattle.row_runs.proofs.lead_runs.LedRoles.{IsAsking, asked_from, asking_region, asked_count, contracts_few, one_of_few}
use Rattle.row_runs.proofs.lead_runs.LedRuns.{run_roles, earlier_run}
use Rattle.row_runs.proofs.lead_runs.LedAsked.{IsOwn, asked_own, asked_based, asked_origin, current_some, known_life}
use Rattle.fact_runs.specs.KeyRuns.{moment, told_changes, told_index, key_run}
use Rattle.fact_runs.proofs.Moments.{moment_at, moment_earlier, moment_run}
use Rattle.fact_runs.proofs.ToldLog.{history_told, views_then}
use Rattle.fact_runs.proofs.Indexes.{index_upto, known_from}
use Rattle.fact_runs.proofs.Contracts.{hash_within, key_first, primary_is, tenure_is, since_within, tenure_within, contracts_last, tenures_last}
use Rattle.fact_runs.proofs.Branches.{Born, IsFirst, Came, comes, asker_is, births_are, births_in, key_history, key_born}

module _ (setup : SetupState) (ok : IsSetup setup) (past : List Entry) (run : IsRun setup past) (key : List ℕ) where
  abbrev g : ℕ
  g = hash_of key setup.hashes

  abbrev last : ℕ
  last = length (told_changes setup past)

  abbrev H : ℕ → Branches
  H w = (table_at setup (told_changes setup past) w).history

  abbrev B : Birth Id → Type 0
  B y = Born (told_index setup past) (table_at setup (told_changes setup past) (length (told_changes setup past))).history (hash_of key setup.hashes) key y

  -- ---- a branch with which the table begins, and one that was asked for

  -- the table begins with it: the key's shard has it
  record Begins (y : Birth Id) (b : B y) : Type 0 where
    first : IsFirst setup.hashes setup.shards (b.id, b.birth)
    maker : b.id.node.0 ≡ (key_first setup ok past run key).shard.primary.0
    index : told_index setup past b.id ≡ 0

  begins : (y : Birth Id) (b : B y) (rest : Branches) → (first_table setup).history ≡ rest ++ (b.id, b.birth) ∷ b.older → IsFirst setup.hashes setup.shards (b.id, b.birth) → Begins y b
  begins y b rest is f =
      let s = key_first setup ok past run key in
      let inside : in_region f.shard.region g key ≡ true = subst (λ (r : Region). in_region r g key ≡ true) f.region_is b.inside in
      let same : f.shard ≡ s.shard = one_of_few shard_region setup.shards g key (one_shard setup ok g key) f.shard s.shard f.is_in s.is_in inside s.inside in
      let known : knows (H 0) b.id ≡ true = subst (λ (bs : Branches). knows bs b.id ≡ true) (sym is) (knows_one rest b.older (b.id, b.birth)) in
      let low = index_upto setup (told_changes setup past) last 0 b.id (omega arith) known in
      record { first = f; maker = ap (λ (n : NodeId). n.0) f.maker_is ∙ ap (λ (t : ShardConfig). t.primary.0) same; index = omega (arith, low) }

  data Source (y : Birth Id) (b : B y) : Type 0 where
    First : Begins y b → Source y b
    Later : Came setup ok past run (b.id, b.birth) b.older → Source y b

  source : (y : Birth Id) (b : B y) → Source y b
  source y b =
      elim (comes setup ok past run b.newer b.older (b.id, b.birth) b.is) [
        | inl f ↦ First (begins y b f.0 f.1 f.2)
        | inr c ↦ Later c
      ]

  own : (y : Birth Id) (b : B y) (c : Came setup ok past run (b.id, b.birth) b.older) → IsOwn c.maker.0 (state setup c.maker.0 c.asked.moment).life b.id
  own y b c = asked_own setup ok past run c.maker b.id b.birth.region c.based_on b.birth.origin c.asked

  -- the key's primary makes it; so far that is one node
  pub maker_is : (y : Birth Id) → paths.IsIn (key_run setup past key).births y → y.maker ≡ (key_first setup ok past run key).shard.primary.0
  maker_is y i =
      let b = key_born setup ok past run key y i in
      ap (λ (z : Birth Id). z.maker) b.birth_is
      ∙ elim (source y b) [
        | First f ↦ f.maker
        | Later c ↦ (own y b c).node_is ∙ sym (asker_is setup ok past run key (b.id, b.birth) b.older b.inside c)
      ]

  -- so far all tenures are 0; where they begin anew, this is what the change that registered it was asked
  pub tenure_0 : (y : Birth Id) → paths.IsIn (key_run setup past key).births y → y.tenure ≡ 0
  tenure_0 y i =
      let b = key_born setup ok past run key y i in
      ap (λ (z : Birth Id). z.tenure) b.birth_is ∙ elim (source y b) [ First f ↦ f.first.tenure_is | Later c ↦ c.tenure_is ]

  pub registered_in_tenure : (y : Birth Id) → paths.IsIn (key_run setup past key).births y
      → (((key_run setup past key).contract y.registered).primary ≡ Some y.maker) × (((key_run setup past key).contract y.registered).tenure ≡ y.tenure)
  registered_in_tenure y i = (
    primary_is setup ok past run key y.registered ∙ ap Some (sym (maker_is y i)),
    tenure_is setup ok past run key y.registered ∙ sym (tenure_0 y i),
  )

  -- ---- lives

  pub life_of : (y : Birth Id) → paths.IsIn (key_run setup past key).births y → y.life ≡ y.branch.life
  life_of y i = let b = key_born setup ok past run key y i in ap (λ (z : Birth Id). z.life) b.birth_is ∙ ap (λ (z : Birth Id). z.branch.life) (sym b.birth_is)

  -- a node that acts on the log up to a branch of its own knows it
  known_at : (y : Birth Id) → paths.IsIn (key_run setup past key).births y → (m : List Entry) → IsEarlier past m → (n : ℕ) → y.registered ≤ (state setup n m).log.acted → knows (history_of setup n m) y.branch ≡ true
  known_at y i m early n l =
      let b = key_born setup ok past run key y i in
      let index : y.registered ≡ told_index setup past y.branch = ap (λ (z : Birth Id). z.registered) b.birth_is ∙ ap (λ (z : Birth Id). told_index setup past z.branch) (sym b.birth_is) in
      let name : b.id ≡ y.branch = ap (λ (z : Birth Id). z.branch) (sym b.birth_is) in
      let all : knows (H last) y.branch ≡ true =
      subst (λ (id : Id). knows (H last) id ≡ true) name (subst (λ (bs : Branches). knows bs b.id ≡ true) (sym b.is) (knows_one b.newer b.older (b.id, b.birth))) in
      subst (λ (bs : Branches). knows bs y.branch ≡ true) (sym (history_told setup ok past run m early n))
      (known_from setup (told_changes setup past) last (state setup n m).log.acted y.branch all (omega (arith, l, index)))

  -- and one that knows it acts on the log up to it
  pub known_index : (y : Birth Id) → paths.IsIn (key_run setup past key).births y → (m : List Entry) → IsEarlier past m → (n : ℕ) → knows (history_of setup n m) y.branch ≡ true → y.registered ≤ (state setup n m).log.acted
  known_index y i m early n known =
      let b = key_born setup ok past run key y i in
      let index : y.registered ≡ told_index setup past y.branch = ap (λ (z : Birth Id). z.registered) b.birth_is ∙ ap (λ (z : Birth Id). told_index setup past z.branch) (sym b.birth_is) in
      let low =
      index_upto setup (told_changes setup past) last (state setup n m).log.acted y.branch (views_then setup ok past run m early n)
      (subst (λ (bs : Branches). knows bs y.branch ≡ true) (history_told setup ok past run m early n) known) in
      omega (arith, low, index)

  pub makers_are_old : (y : Birth Id) (i : ℕ) → paths.IsIn (key_run setup past key).births y → y.registered ≤ (key_run setup past key).view y.maker i → y.life ≤ (key_run setup past key).life y.maker i
  makers_are_old y i j l =
      let b = key_born setup ok past run key y j in
      let m : List Entry = moment past i in
      let known = known_at y j m (moment_earlier past i) y.maker l in
      let life = known_life setup ok m (moment_run setup past run i) y.maker y.branch known in
      let of = life_of y j in
      let who : (state setup y.branch.node.0 m).life ≡ (state setup y.maker m).life =
      ap (λ (z : Birth Id). (state setup z.branch.node.0 m).life) b.birth_is ∙ ap (λ (z : Birth Id). (state setup z.maker m).life) (sym b.birth_is) in
      omega (arith, life, of, who)

  -- what was asked for in a life is of a later one than the first
  asked_role : (y : Birth Id) (b : B y) (c : Came setup ok past run (b.id, b.birth) b.older) → IsAsking setup c.maker.0 (state setup c.maker.0 c.asked.moment).life c.asked.asking
  asked_role y b c =
      let s : NodeState = state setup c.maker.0 c.asked.moment in
      let roles = (run_roles setup ok c.asked.moment (earlier_run setup past c.asked.moment run c.asked.earlier) c.maker.0).roles in
      all_at (IsAsking setup c.maker.0 s.life) s.asking roles.askings c.asked.asking c.asked.is_in

  later_life : (y : Birth Id) (b : B y) → Came setup ok past run (b.id, b.birth) b.older → 1 < b.id.life
  later_life y b c =
      let r = asked_role y b c in
      let later = r.later in
      let life = (own y b c).life_is in
      omega (arith, later, life)

  -- two that one node asked for in one life are one
  one_asked : (y z : Birth Id) (a : B y) (b : B z) (c : Came setup ok past run (a.id, a.birth) a.older) (d : Came setup ok past run (b.id, b.birth) b.older) → a.id.life ≡ b.id.life → a.id ≡ b.id
  one_asked y z a b c d same =
      let first = asked_role y a c in
      let second = asked_role z b d in
      let who : c.maker.0 ≡ d.maker.0 = sym (asker_is setup ok past run key (a.id, a.birth) a.older a.inside c) ∙ asker_is setup ok past run key (b.id, b.birth) b.older b.inside d in
      let life : (state setup d.maker.0 d.asked.moment).life ≡ (state setup c.maker.0 c.asked.moment).life = sym (own z b d).life_is ∙ sym same ∙ (own y a c).life_is in
      let n : ℕ = c.maker.0 in
      let l : ℕ = (state setup c.maker.0 c.asked.moment).life in
      let of : IsIn (asked_from setup n l) d.asked.asking =
      subst (λ m. IsIn (asked_from setup m l) d.asked.asking) (sym who) (subst (λ m. IsIn (asked_from setup d.maker.0 m) d.asked.asking) life second.of) in
      let few : holders asking_region (asked_from setup n l) g key ≤ 1 =
      let count = asked_count (node_id n) l 0 (first_contracts 0 setup.shards) g key in
      let most = contracts_few setup ok g key in
      omega (arith, count, most) in
      let one : c.asked.asking ≡ d.asked.asking =
      one_of_few asking_region (asked_from setup n l) g key few c.asked.asking d.asked.asking first.of of
      (subst (λ (r : Region). in_region r g key ≡ true) (sym c.asked.region_is) a.inside) (subst (λ (r : Region). in_region r g key ≡ true) (sym d.asked.region_is) b.inside) in
      sym c.asked.branch_is ∙ ap (λ (x : Asking). x.branch) one ∙ d.asked.branch_is

  pub one_in_a_life : (y z : Birth Id) → paths.IsIn (key_run setup past key).births y → paths.IsIn (key_run setup past key).births z → y.maker ≡ z.maker → y.life ≡ z.life → y.tenure ≡ z.tenure → y.registered ≡ z.registered
  one_in_a_life y z i j maker life tenure =
      let a = key_born setup ok past run key y i in
      let b = key_born setup ok past run key z j in
      let same : a.id.life ≡ b.id.life = ap (λ (x : Birth Id). x.life) (sym a.birth_is) ∙ life ∙ ap (λ (x : Birth Id). x.life) b.birth_is in
      let indexes : told_index setup past a.id ≡ told_index setup past b.id =
      elim (source y a) [
        | First f ↦ elim (source z b) [
          | First h ↦ f.index ∙ sym h.index
          | Later d ↦ let l = later_life z b d in let one = f.first.life_is in absurd (omega (arith, l, one, same))
        ]
        | Later c ↦ elim (source z b) [
          | First h ↦ let l = later_life y a c in let one = h.first.life_is in absurd (omega (arith, l, one, same))
          | Later d ↦ ap (told_index setup past) (one_asked y z a b c d same)
        ]
      ] in
      ap (λ (x : Birth Id). x.registered) a.birth_is ∙ indexes ∙ ap (λ (x : Birth Id). x.registered) (sym b.birth_is)

  -- ---- what the maker knew

  abbrev at : Branches → List (Birth Id)
  at bs = births_at (told_index setup past) bs g key

  abbrev IsHistoryAt : Branches → Type 0
  IsHistoryAt bs = paths.IsHistory same_id (births_at (told_index setup past) bs (hash_of key setup.hashes) key)

  rest_at : (newer bs : Branches) → IsHistoryAt (newer ++ bs) → IsHistoryAt bs
  rest_at [] bs h = h
  rest_at (n ∷ newer) bs h =
      elim (in_region n.1.region g key) as (λ c. paths.IsHistory same_id (cond c (birth_at (told_index setup past) n g key ∷ at (newer ++ bs)) (at (newer ++ bs))) → IsHistoryAt bs) [
        | true ↦ λ k. rest_at newer bs k.1
        | false ↦ λ k. rest_at newer bs k
      ] h

  -- one that was registered before another stands below it
  lower : (newer older : Branches) (b : Id × BranchBirth) → IsHistoryAt (newer ++ b ∷ older) → in_region b.1.region g key ≡ true → (z : Birth Id) → paths.IsIn (at (newer ++ b ∷ older)) z
      → z.registered < told_index setup past b.0 → paths.IsIn (at older) z
  lower [] older b h inside z i l =
      elim (subst (λ c. paths.IsIn (cond c (birth_at (told_index setup past) b g key ∷ at older) (at older)) z) inside i) [
        | inl e ↦ let same : told_index setup past b.0 ≡ z.registered = ap (λ (x : Birth Id). x.registered) e in absurd (omega (arith, same, l))
        | inr j ↦ j
      ]
  lower (n ∷ newer) older b h inside z i l =
      let rest = at (newer ++ b ∷ older) in
      let here : Birth Id = birth_at (told_index setup past) n g key in
      elim (in_region n.1.region g key) as (λ c. paths.IsHistory same_id (cond c (here ∷ rest) rest) → paths.IsIn (cond c (here ∷ rest) rest) z → paths.IsIn (at older) z) [
        | true ↦ λ k j. elim j [
          | inl e ↦
              let behind = k.0.later (birth_at (told_index setup past) b g key) (births_in (told_index setup past) newer older b g key inside) in
              let same : told_index setup past n.0 ≡ z.registered = ap (λ (x : Birth Id). x.registered) e in
              absurd (omega (arith, same, l, behind))
          | inr m ↦ lower newer older b k.1 inside z m l
        ]
        | false ↦ λ k j. lower newer older b k inside z j l
      ] h i

  -- none was registered behind the current one
  newest : (bs : Branches) → IsHistoryAt bs → (v : Id) → branch_at bs g key ≡ Some v → (z : Birth Id) → paths.IsIn (at bs) z → z.registered ≤ told_index setup past v
  newest [] h v e z i = absurd i
  newest (b ∷ bs) h v e z i =
      let here : Birth Id = birth_at (told_index setup past) b g key in
      elim (in_region b.1.region g key) as (λ c. paths.IsHistory same_id (cond c (here ∷ at bs) (at bs)) → cond c (Some b.0) (branch_at bs g key) ≡ Some v → paths.IsIn (cond c (here ∷ at bs) (at bs)) z → z.registered ≤ told_index setup past v) [
        | true ↦ λ k f j.
            let current : told_index setup past b.0 ≡ told_index setup past v = ap (told_index setup past) (some_inner b.0 v f) in
            elim j [
              | inl s ↦ let same : told_index setup past b.0 ≡ z.registered = ap (λ (x : Birth Id). x.registered) s in omega (arith, same, current)
              | inr m ↦ let before = k.0.later z m in omega (arith, before, current)
            ]
        | false ↦ λ k f j. newest bs k v f z j
      ] h e i

  some_of : (o : Option Id) → is_some o ≡ true → (v : Id) × (o ≡ Some v)
  some_of None e = absurd (cc e)
  some_of (Some v) e = (v, refl)

  knew : (y : Birth Id) (b : B y) (c : Came setup ok past run (b.id, b.birth) b.older) → (z : Birth Id) → paths.IsIn (key_run setup past key).births z → z.registered < told_index setup past b.id
      → z.registered ≤ (state setup c.maker.0 c.asked.moment).log.acted
  knew y b c z i l =
      let m : List Entry = c.asked.moment in
      let early = c.asked.earlier in
      let then = earlier_run setup past m run early in
      let within = hash_within setup ok past run key in
      let n : ℕ = c.maker.0 in
      let cur = some_of (branch_at (history_of setup n m) g key) (current_some setup ok m then n g key within) in
      let based : branch_at b.older g key ≡ Some cur.0 =
      sym (c.based g key within b.inside) ∙ asked_based setup ok past run c.maker b.id b.birth.region c.based_on b.birth.origin c.asked g key within b.inside ∙ cur.1 in
      let known : knows (H (state setup n m).log.acted) cur.0 ≡ true =
      subst (λ (bs : Branches). knows bs cur.0 ≡ true) (history_told setup ok past run m early n) (current_known (history_of setup n m) g key cur.0 cur.1) in
      let seen = index_upto setup (told_changes setup past) last (state setup n m).log.acted cur.0 (views_then setup ok past run m early n) known in
      let whole : IsHistoryAt (H last) = subst (paths.IsHistory same_id) (births_are setup ok past run key) (key_history setup ok past run key) in
      let split : IsHistoryAt (b.newer ++ (b.id, b.birth) ∷ b.older) = subst IsHistoryAt b.is whole in
      let there : paths.IsIn (at (b.newer ++ (b.id, b.birth) ∷ b.older)) z =
      subst (λ (bs : Branches). paths.IsIn (at bs) z) b.is (subst (λ (ys : List (Birth Id)). paths.IsIn ys z) (births_are setup ok past run key) i) in
      let below = lower b.newer b.older (b.id, b.birth) split b.inside z there l in
      let most = newest b.older (rest_at (b.newer ++ (b.id, b.birth) ∷ []) b.older (subst IsHistoryAt (sym (append_assoc b.newer ((b.id, b.birth) ∷ []) b.older)) split)) cur.0 based z below in
      omega (arith, seen, most)

  pub was_asked : (y : Birth Id) → paths.IsIn (key_run setup past key).births y → 1 ≤ y.registered → AskedFact (key_run setup past key) y
  was_asked y i some =
      let b = key_born setup ok past run key y i in
      let index : y.registered ≡ told_index setup past b.id = ap (λ (z : Birth Id). z.registered) b.birth_is in
      elim (source y b) [
        | First f ↦ let zero = f.index in absurd (omega (arith, zero, index, some))
        | Later c ↦ from y i b index c
      ]
    where
      from : (y : Birth Id) → paths.IsIn (key_run setup past key).births y → (b : B y) → y.registered ≡ told_index setup past b.id → Came setup ok past run (b.id, b.birth) b.older → AskedFact (key_run setup past key) y
      from y i b index c =
          let m : List Entry = c.asked.moment in
          let early = c.asked.earlier in
          let n : ℕ = length m in
          let is : moment past n ≡ m = moment_at past m early in
          let who : y.maker ≡ c.maker.0 = ap (λ (z : Birth Id). z.maker) b.birth_is ∙ (own y b c).node_is in
          let from_there : value_at b.birth.origin.pieces g key ≡ value_at (state setup c.maker.0 m).versions.pieces g key =
          asked_origin setup ok past run c.maker b.id b.birth.region c.based_on b.birth.origin c.asked g key (hash_within setup ok past run key) b.inside in
          record {
            moment = n;
            origin =
                ap (λ (p : List Entry). key_version (or_zero (value_at (state setup y.maker p).versions.pieces g key))) is
                ∙ ap (λ q. key_version (or_zero (value_at (state setup q m).versions.pieces g key))) who
                ∙ ap (λ o. key_version (or_zero o)) (sym from_there) ∙ ap (λ (z : Birth Id). z.origin) (sym b.birth_is);
            life =
                ap (λ (p : List Entry). (state setup y.maker p).life) is ∙ ap (λ q. (state setup q m).life) who
                ∙ sym (own y b c).life_is ∙ ap (λ (z : Birth Id). z.life) (sym b.birth_is);
            primary = primary_is setup ok past run key _ ∙ ap Some (sym (maker_is y i));
            tenure = tenure_is setup ok past run key _ ∙ sym (tenure_0 y i);
            knew = λ z j l.
                let before : z.registered < told_index setup past b.id = omega (arith, l, index) in
                let low = knew y b c z j before in
                let view : (state setup y.maker (moment past n)).log.acted ≡ (state setup c.maker.0 m).log.acted =
                ap (λ (p : List Entry). (state setup y.maker p).log.acted) is ∙ ap (λ q. (state setup q m).log.acted) who in
                omega (arith, low, view);
          }

  -- ---- all of the log

  pub log_facts : LogFacts (key_run setup past key)
  log_facts = record {
    names = names;
    history = key_history setup ok past run key;
    since_within = since_within setup ok past run key;
    tenure_within = tenure_within setup ok past run key;
    contracts_last = contracts_last setup ok past run key;
    tenures_last = tenures_last setup ok past run key;
    registered_in_tenure = registered_in_tenure;
    makers_are_old = makers_are_old;
    one_in_a_life = one_in_a_life;
    was_asked = was_asked;
  }
