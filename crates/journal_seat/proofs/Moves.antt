-- Each step of a seat keeps the rule.
use Rattle.std.proofs.Common.{◌≡◌, ◌≢◌, ℕ, zero, suc, ◌==◌, eqb, eq-eqb, ne_eqb, true, false, List, [], ◌∷◌, ◌++◌, length, drop, set, refl, sym, ap, ◌∙◌, subst, cond, ⊎_elim, arith, Option, Some, None}
use Rattle.std.specs.Prelude.{slice_index, unwrap_or, is_some}
use Rattle.std.specs.List.{All}
use Rattle.std.proofs.lemmas.Bool.{cases_Bool, true≢false}
use Rattle.std.proofs.lemmas.List.Elements.{All-nil, All-cons, All-weaker}
use mathlib.Core.Option.{some, none, some-injective, some-ne-none}
use lib.ListN.{get_elem?}
use prog.Atomic.{either}
use Rattle.atomic_table.specs.Table.{State, Me, Act, keeps, takes, gives, step, stepped, opening, Allows, Splits, Joins, Valid, carried_after, rest}
use Rattle.atomic_table.proofs.Lists.{at_set, set_here, set_else, set_again, at_longer, exchanged}
use Rattle.journal_seat.specs.declared.view.EndedSeat.{EndedSeat}
use Rattle.journal_seat.specs.declared.view.View.{View}
use Rattle.journal_seat.specs.Book.{StartsWith, is_among, opener, newcomer, with_given, nobody, ended_seat, joined, took, gave, IsIdle, HasOut, IsKnown, Tried, Gave, IsOwn, IsTakenIn, IsFirst, Fits, Keeps, Kept}
use Rattle.journal_seat.proofs.Lists.{starts_self, starts_both, starts_longer, grown_own, grown_else, among_later, not_among, at_end, at_within}

no : {P : Type 0} → false ≡ true → P
no e = absurd (true≢false (sym e))

pub some_same : (a b : ℕ) → Some a ≡ Some b → a ≡ b
some_same a b e = ap (λ (o : Option ℕ). unwrap_or o 0) e

pub some_none : {P : Type 0} (a : ℕ) → Some a ≡ None → P
some_none a e = absurd (true≢false (ap (λ (o : Option ℕ). is_some o) e))

-- two seats in use have two numbers, and a number without a seat is none of theirs
apart_numbers : (owner : ℕ → Option ℕ) (n m i j : ℕ) → owner n ≡ Some i → owner m ≡ Some j → j ≢ i → m ≢ n
apart_numbers owner n m i j e f apart same = apart (some_same j i (sym f ∙ ap owner same ∙ e))

apart_free : (owner : ℕ → Option ℕ) (n m i : ℕ) → owner n ≡ Some i → owner m ≡ None → m ≢ n
apart_free owner n m i e f same = some_none i (sym e ∙ ap owner (sym same) ∙ f)

-- a function of numbers that is changed at one
abbrev pub changed : (ℕ → Option ℕ) → ℕ → Option ℕ → ℕ → Option ℕ
changed owner n to m = cond (eqb m n) to (owner m)

changed_here : (owner : ℕ → Option ℕ) (n : ℕ) (to : Option ℕ) → changed owner n to n ≡ to
changed_here owner n to = ap (λ b. cond b to (owner n)) (eq-eqb n n refl)

changed_else : (owner : ℕ → Option ℕ) (n : ℕ) (to : Option ℕ) (m : ℕ) → m ≢ n → changed owner n to m ≡ owner m
changed_else owner n to m apart = ap (λ b. cond b to (owner m)) (ne_eqb m n apart)

-- the first seat has number 0
abbrev first_owner : ℕ → Option ℕ
first_owner = changed (λ _. None) 0 (Some 0)

-- a number without a seat has none after a number lost its seat
freed : (owner : ℕ → Option ℕ) (n m : ℕ) → owner m ≡ None → changed owner n None m ≡ None
freed owner n m e = ⊎_elim (λ b. ap (λ t. cond t None (owner m)) b) (λ b. ap (λ t. cond t None (owner m)) b ∙ e) (cases_Bool (eqb m n))

module _ {E : Type 0} where
  -- a fact of each view, after that of one seat has changed
  each_set : (P : ℕ → View E → Type 0) (views : List (View E)) (id : ℕ) (w : View E) → ((j : ℕ) (u : View E) → j ≢ id → get_elem? views j ≡ some u → P j u) → P id w → (j : ℕ) (u : View E) → get_elem? (set views id w) j ≡ some u → P j u
  each_set P views id w others mine j u e =
      ⊎_elim
      (λ (x : (j ≡ id) × (w ≡ u)). subst (λ (y : ℕ × View E). P y.0 y.1) (λ i. (sym x.0 i, x.1 i)) mine)
      (λ (x : (j ≢ id) × (get_elem? views j ≡ some u)). others j u x.0 x.1)
      (at_set views id j w u e)

  -- what the rule says of each view
  abbrev AllFit : (E → ℕ) → List E → (ℕ → Option ℕ) → ℕ → ℕ → List (View E) → Type 0
  AllFit seat_of book owner holder word views = (id : ℕ) (v : View E) → get_elem? views id ≡ some v → v.live ≡ true → Fits seat_of book owner holder word id v

  -- some seat in use has the list out
  abbrev IsHeld : ℕ → List (View E) → Type 0
  IsHeld holder views = (v : View E) × (get_elem? views holder ≡ some v) × (v.live ≡ true) × (v.out ≡ true)

  pub begins : (seat_of : E → ℕ) (slots : List (List E)) → slots ≡ [] ∷ [] → Kept seat_of (opening (0 ∷ []) slots opener)
  begins seat_of slots e = subst (λ s. Kept seat_of (opening (0 ∷ []) s opener)) (sym e) ([], first_owner, 0, 0, record { words = refl; home = λ _. refl; away = λ n. absurd (n refl); seats = fits })
    where
      first : IsFirst seat_of [] first_owner 0 (0 ∷ []) []
      first = record { place = refl; others = λ n e'. (changed_else (λ _. None) 0 (Some 0) n (not_among n 0 [] e').0, refl); kept = All-nil _ }

      one : Fits seat_of [] first_owner 0 0 0 opener
      one = record { owns = refl; known = (refl, refl); out = λ o. no o; first = λ _. first }

      fits : AllFit seat_of [] first_owner 0 0 (opener ∷ [])
      fits zero v at live = subst (Fits seat_of [] first_owner 0 0 0) (some-injective _ _ at) one
      fits (suc id) v at live = absurd (some-ne-none v (sym at))

  -- a seat takes the list
  taken_else : (seat_of : E → ℕ) (book : List E) (owner : ℕ → Option ℕ) (holder id j : ℕ) (u : View E) → Fits seat_of book owner holder 0 j u → Fits seat_of book owner id 1 j u
  taken_else seat_of book owner holder id j u f = record { owns = f.owns; known = f.known; out = λ o. absurd ((f.out o).2 refl); first = f.first }

  taken_mine : (seat_of : E → ℕ) (book : List E) (owner : ℕ → Option ℕ) (holder id : ℕ) (v : View E) → Fits seat_of book owner holder 0 id v → Fits seat_of book owner id 1 id (took v book)
  taken_mine seat_of book owner holder id v f = record { owns = f.owns; known = (starts_self book, f.known.1); out = λ _. (refl, refl, λ e. omega arith); first = f.first }

  -- what a try to take owes where it finds one number and leaves another
  abbrev Finds : (E → ℕ) → State (List E) (View E) → ℕ → View E → ℕ → ℕ → Type 0
  Finds seat_of s id v word new = (w : View E) × (a : Act (List E)) × Valid s.homes [] a × Kept seat_of (stepped s 0 new id [] w a) × Tried seat_of (step 1 0 0 1 none) (v, []) word (w, carried_after [] a)

  hits : (seat_of : E → ℕ) (s : State (List E) (View E)) (id : ℕ) (v : View E) (book : List E) (owner : ℕ → Option ℕ) (holder word : ℕ) → Keeps seat_of book owner holder word s → get_elem? s.views id ≡ some v → v.live ≡ true → word ≡ 0 → Finds seat_of s id v word 1
  hits seat_of s id v book owner holder word k at live e =
      let w = took v book in
      let was : AllFit seat_of book owner holder 0 s.views = subst (λ n. AllFit seat_of book owner holder n s.views) e k.seats in
      let mine = was id v at live in (
        w,
        takes 0 book,
        k.home e,
        (
          book,
          owner,
          id,
          1,
          record {
            words = ap (λ ws. set ws 0 1) k.words;
            home = λ z. absurd (omega arith);
            away = λ _. (w, set_here s.views id w (at_within s.views id v at), live, refl);
            seats = each_set (λ j u. u.live ≡ true → Fits seat_of book owner id 1 j u) s.views id w (λ j u apart there alive. taken_else seat_of book owner holder id j u (was j u there alive)) (λ _. taken_mine seat_of book owner holder id v mine);
          },
        ),
        ((λ _. (refl, mine.known)), (λ n. absurd (n e))),
      )

  misses : (seat_of : E → ℕ) (s : State (List E) (View E)) (id : ℕ) (v : View E) (book : List E) (owner : ℕ → Option ℕ) (holder word : ℕ) → Keeps seat_of book owner holder word s → get_elem? s.views id ≡ some v → word ≢ 0 → Finds seat_of s id v word word
  misses seat_of s id v book owner holder word k at ne =
      let same = set_again s.views id v at in (
        v,
        keeps,
        tt,
        (
          book,
          owner,
          holder,
          word,
          record {
            words = ap (λ ws. set ws 0 word) k.words;
            home = k.home;
            away = λ n. subst (λ vs. IsHeld holder vs) (sym same) (k.away n);
            seats = subst (λ vs. AllFit seat_of book owner holder word vs) (sym same) k.seats;
          },
        ),
        ((λ z. absurd (ne z)), (λ _. refl)),
      )

  pub tries : (seat_of : E → ℕ) (id : ℕ) (v : View E) → v.live ≡ true → Allows (Kept seat_of) 1 id (v, []) 0 (λ n. either (n == 0) 1 n) (Tried seat_of (step 1 0 0 1 none) (v, []))
  tries seat_of id v live s h slots at small =
      let book = h.0 in let owner = h.1 in let holder = h.2 in let word = h.3 in let k = h.4 in
      subst (λ n. Finds seat_of s id v n (either (eqb n 0) 1 n)) (sym (ap (λ ws. slice_index ws 0) k.words))
      (exchanged word 0 1 (λ m. Finds seat_of s id v word m) (hits seat_of s id v book owner holder word k at live) (misses seat_of s id v book owner holder word k at))

  -- the list comes back longer by entries of one seat
  first_grown : (seat_of : E → ℕ) (book list : List E) (owner : ℕ → Option ℕ) (n me id : ℕ) (given : List ℕ) (ended : List (EndedSeat E)) → StartsWith list book → IsOwn seat_of n (drop (length book) list) → owner n ≡ Some me → IsFirst seat_of book owner id given ended → IsFirst seat_of list owner id given ended
  first_grown seat_of book list owner n me id given ended front own owns i = record {
    place = i.place;
    others = λ m out. let was = i.others m out in (was.0, grown_else seat_of n m list book [] front own (apart_free owner n m me owns was.0) was.1);
    kept = All-weaker (IsTakenIn seat_of book owner given) (IsTakenIn seat_of list owner given) (λ p x. (x.0, x.1, (starts_both list book p.seen front x.2.0, grown_else seat_of n p.number list book p.made front own (apart_free owner n p.number me owns x.1) x.2.1))) ended i.kept;
  }

  given_else : (seat_of : E → ℕ) (book list : List E) (owner : ℕ → Option ℕ) (holder word n id j : ℕ) (u : View E) → StartsWith list book → IsOwn seat_of n (drop (length book) list) → owner n ≡ Some id → id ≡ holder → j ≢ id → Fits seat_of book owner holder word j u → Fits seat_of list owner 0 0 j u
  given_else seat_of book list owner holder word n id j u front own owns holds apart f = record {
    owns = f.owns;
    known = (starts_both list book u.seen front f.known.0, grown_else seat_of n u.number list book u.made front own (apart_numbers owner n u.number id j owns f.owns apart) f.known.1);
    out = λ o. absurd (apart ((f.out o).0 ∙ sym holds));
    first = λ first. first_grown seat_of book list owner n id j u.given u.ended front own owns (f.first first);
  }

  given_mine : (seat_of : E → ℕ) (book list : List E) (owner : ℕ → Option ℕ) (holder word id : ℕ) (v : View E) → StartsWith list book → IsOwn seat_of v.number (drop (length book) list) → v.seen ≡ book → Fits seat_of book owner holder word id v → Fits seat_of list owner 0 0 id (gave v list)
  given_mine seat_of book list owner holder word id v front own same f = record {
    owns = f.owns;
    known = (starts_self list, grown_own seat_of v.number list book v.made front own f.known.1 ∙ ap (λ b. v.made ++ drop (length b) list) (sym same));
    out = λ o. no o;
    first = λ first. first_grown seat_of book list owner v.number id id v.given v.ended front own f.owns (f.first first);
  }

  pub gives_back : (seat_of : E → ℕ) (id : ℕ) (v : View E) (list : List E) → v.live ≡ true → v.out ≡ true → StartsWith list v.seen → IsOwn seat_of v.number (drop (length v.seen) list) → Allows (Kept seat_of) 1 id (v, (0, list) ∷ []) 0 (λ _. 0) (λ _. Gave (step 1 0 0 0 none) (v, (0, list) ∷ []) 0)
  gives_back seat_of id v list live out starts own s h slots at small =
      let book = h.0 in let owner = h.1 in let holder = h.2 in let word = h.3 in let k = h.4 in
      let w = gave v list in
      let mine = k.seats id v at live in
      let holds = mine.out out in
      let front : StartsWith list book = subst (λ b. StartsWith list b) holds.1 starts in
      let behind : IsOwn seat_of v.number (drop (length book) list) = subst (λ b. IsOwn seat_of v.number (drop (length b) list)) holds.1 own in (
        w,
        gives,
        tt,
        (
          list,
          owner,
          0,
          0,
          record {
            words = ap (λ ws. set ws 0 0) k.words;
            home = λ _. set_here s.homes 0 (some list) (omega arith);
            away = λ n. absurd (n refl);
            seats = each_set (λ j u. u.live ≡ true → Fits seat_of list owner 0 0 j u) s.views id w
                (λ j u apart there alive. given_else seat_of book list owner holder word v.number id j u front behind mine.owns holds.0 apart (k.seats j u there alive))
                (λ _. given_mine seat_of book list owner holder word id v front behind holds.1 mine);
          },
        ),
        refl,
      )

  -- a number that was not given gets a seat
  first_split : (seat_of : E → ℕ) (book : List E) (owner : ℕ → Option ℕ) (number fresh id : ℕ) (given : List ℕ) (ended : List (EndedSeat E)) → is_among number given ≡ false → IsFirst seat_of book owner id given ended → IsFirst seat_of book (changed owner number (Some fresh)) id (number ∷ given) ended
  first_split seat_of book owner number fresh id given ended new i = record {
    place = i.place;
    others = λ m out. let parts = not_among m number given out in let was = i.others m parts.1 in (changed_else owner number (Some fresh) m parts.0 ∙ was.0, was.1);
    kept = All-weaker (IsTakenIn seat_of book owner given) (IsTakenIn seat_of book (changed owner number (Some fresh)) (number ∷ given))
        (λ p x. (among_later p.number number given x.0, changed_else owner number (Some fresh) p.number (λ same. true≢false (sym x.0 ∙ ap (λ n. is_among n given) same ∙ new)) ∙ x.1, x.2))
        ended i.kept;
  }

  pub splits : (seat_of : E → ℕ) (id : ℕ) (v : View E) (number : ℕ) → v.live ≡ true → v.out ≡ false → v.first ≡ true → is_among number v.given ≡ false → Splits (Kept seat_of) id v (with_given number v) (newcomer number v)
  splits seat_of id v number live idle first new s h at =
      let book = h.0 in let owner = h.1 in let holder = h.2 in let word = h.3 in let k = h.4 in
      let left = with_given number v in
      let right = newcomer number v in
      let views = set s.views id left in
      let fresh = length views in
      let next = changed owner number (Some fresh) in
      let mine = k.seats id v at live in
      let firsts = mine.first first in
      let free = firsts.others number new in
      let elsewhere : (j : ℕ) (u : View E) → j ≢ id → get_elem? s.views j ≡ some u → u.live ≡ true → Fits seat_of book next holder word j u =
      λ j u apart there alive. let f = k.seats j u there alive in record {
        owns = changed_else owner number (Some fresh) u.number (λ same. some_none j (sym f.owns ∙ ap owner same ∙ free.0)) ∙ f.owns;
        known = f.known;
        out = f.out;
        first = λ is. absurd (apart ((f.first is).place ∙ sym firsts.place));
      } in
      let here : v.live ≡ true → Fits seat_of book next holder word id left =
      λ _. record {
        owns = changed_else owner number (Some fresh) v.number (λ same. some_none id (sym mine.owns ∙ ap owner same ∙ free.0)) ∙ mine.owns;
        known = mine.known;
        out = λ o. no (sym idle ∙ o);
        first = λ _. first_split seat_of book owner number fresh id v.given v.ended new firsts;
      } in
      let there : Fits seat_of book next holder word fresh right =
      record { owns = changed_here owner number (Some fresh); known = (mine.known.0, free.1); out = λ o. no o; first = λ o. no o } in (
        book,
        next,
        holder,
        word,
        record {
          words = k.words;
          home = k.home;
          away = λ n. let u = k.away n in (u.0, at_longer views (right ∷ []) holder u.0 (set_else s.views id holder left (λ same. no (sym idle ∙ ap (λ (x : View E). x.out) (some-injective v u.0 (sym at ∙ ap (λ m. get_elem? s.views m) (sym same) ∙ u.1)) ∙ u.3)) ∙ u.1), u.2, u.3);
          seats = λ j u e alive. ⊎_elim
              (λ was. each_set (λ i x. x.live ≡ true → Fits seat_of book next holder word i x) s.views id left elsewhere here j u was alive)
              (λ (now : (j ≡ fresh) × (right ≡ u)). subst (λ (y : ℕ × View E). Fits seat_of book next holder word y.0 y.1) (λ i. (sym now.0 i, now.1 i)) there)
              (at_end views right u j e);
        },
      )

  -- a seat that is taken in leaves its number
  first_joins : (seat_of : E → ℕ) (book : List E) (owner : ℕ → Option ℕ) (id other : ℕ) (w : View E) (given : List ℕ) (ended : List (EndedSeat E)) → owner w.number ≡ Some other → IsKnown seat_of w book → IsFirst seat_of book owner id given ended → IsFirst seat_of book (changed owner w.number None) id given (ended_seat w ∷ ended)
  first_joins seat_of book owner id other w given ended owns known i =
      let next = changed owner w.number None in
      let was_given : is_among w.number given ≡ true = ⊎_elim (λ t. t) (λ f. some_none other (sym owns ∙ (i.others w.number f).0)) (cases_Bool (is_among w.number given)) in
      let now : IsTakenIn seat_of book next given (ended_seat w) = (was_given, changed_here owner w.number None, known) in
      let before : All (IsTakenIn seat_of book next given) ended = All-weaker (IsTakenIn seat_of book owner given) (IsTakenIn seat_of book next given) (λ p x. (x.0, freed owner w.number p.number x.1, x.2)) ended i.kept in
      record {
        place = i.place;
        others = λ m out. let was = i.others m out in (freed owner w.number m was.0, was.1);
        kept = All-cons (IsTakenIn seat_of book next given) (ended_seat w) ended now before;
      }

  pub joins : (seat_of : E → ℕ) (id : ℕ) (v : View E) (other : ℕ) (w : View E) → v.live ≡ true → v.out ≡ false → v.first ≡ true → w.live ≡ true → w.out ≡ false → Joins (Kept seat_of) id v other w (joined v w) nobody
  joins seat_of id v other w live idle first alive_w idle_w s h at ne found =
      let book = h.0 in let owner = h.1 in let holder = h.2 in let word = h.3 in let k = h.4 in
      let both = joined v w in
      let views = set s.views id both in
      let next = changed owner w.number None in
      let mine = k.seats id v at live in
      let firsts = mine.first first in
      let at_w : get_elem? s.views other ≡ some w = sym (set_else s.views id other both ne) ∙ found in
      let theirs = k.seats other w at_w alive_w in
      let elsewhere : (j : ℕ) (u : View E) → j ≢ other → get_elem? views j ≡ some u → u.live ≡ true → Fits seat_of book next holder word j u =
      λ j u apart_w there. each_set (λ i x. i ≢ other → x.live ≡ true → Fits seat_of book next holder word i x) s.views id both
      (λ i x apart at_x apart' alive. let f = k.seats i x at_x alive in record {
        owns = changed_else owner w.number None x.number (apart_numbers owner w.number x.number other i theirs.owns f.owns apart') ∙ f.owns;
        known = f.known;
        out = f.out;
        first = λ is. absurd (apart ((f.first is).place ∙ sym firsts.place));
      })
      (λ apart' _. record {
        owns = changed_else owner w.number None v.number (apart_numbers owner w.number v.number other id theirs.owns mine.owns apart') ∙ mine.owns;
        known = (starts_longer book v.seen w.seen mine.known.0 theirs.known.0, mine.known.1);
        out = λ o. no (sym idle ∙ o);
        first = λ _. first_joins seat_of book owner id other w v.given v.ended theirs.owns theirs.known firsts;
      })
      j u there apart_w in (
        book,
        next,
        holder,
        word,
        record {
          words = k.words;
          home = k.home;
          away = λ n.
              let u = k.away n in
              let not_id : holder ≢ id = λ same. no (sym idle ∙ ap (λ (x : View E). x.out) (some-injective v u.0 (sym at ∙ ap (λ m. get_elem? s.views m) (sym same) ∙ u.1)) ∙ u.3) in
              let not_other : holder ≢ other = λ same. no (sym idle_w ∙ ap (λ (x : View E). x.out) (some-injective w u.0 (sym at_w ∙ ap (λ m. get_elem? s.views m) (sym same) ∙ u.1)) ∙ u.3) in
              (u.0, set_else views other holder nobody not_other ∙ set_else s.views id holder both not_id ∙ u.1, u.2, u.3);
          seats = each_set (λ j u. u.live ≡ true → Fits seat_of book next holder word j u) views other nobody elsewhere (λ o. no o);
        },
      )

  -- the moves, at a table whose count of slots is known by an equation
  pub tries_as : (seat_of : E → ℕ) (slots id : ℕ) (me : Me (List E) (View E)) → slots ≡ 1 → IsIdle me → Allows (Kept seat_of) slots id me 0 (λ n. either (n == 0) 1 n) (Tried seat_of (step slots 0 0 1 none) me)
  tries_as seat_of slots id me one idle =
      subst (λ n. Allows (Kept seat_of) n id me 0 (λ m. either (m == 0) 1 m) (Tried seat_of (step n 0 0 1 none) me)) (sym one)
      (subst (λ c. Allows (Kept seat_of) 1 id (me.0, c) 0 (λ n. either (n == 0) 1 n) (Tried seat_of (step 1 0 0 1 none) (me.0, c))) (sym idle.2) (tries seat_of id me.0 idle.0))

  pub gives_back_as : (seat_of : E → ℕ) (slots id : ℕ) (me : Me (List E) (View E)) (list : List E) → slots ≡ 1 → HasOut me list → IsOwn seat_of me.0.number (drop (length me.0.seen) list) → Allows (Kept seat_of) slots id me 0 (λ _. 0) (λ _. Gave (step slots 0 0 0 none) me 0)
  gives_back_as seat_of slots id me list one out own =
      subst (λ n. Allows (Kept seat_of) n id me 0 (λ _. 0) (λ _. Gave (step n 0 0 0 none) me 0)) (sym one)
      (subst (λ c. Allows (Kept seat_of) 1 id (me.0, c) 0 (λ _. 0) (λ _. Gave (step 1 0 0 0 none) (me.0, c) 0)) (sym out.2) (gives_back seat_of id me.0 list out.0 out.1 out.3 own))

  -- the slot that a seat took last
  pub has_slot : (me : Me (List E) (View E)) (list : List E) → me.1 ≡ (0, list) ∷ [] → (x : List E) × (me.1 ≡ (0, x) ∷ rest me.1)
  has_slot me list e = (list, e ∙ ap (λ (r : List (ℕ × List E)). (0, list) ∷ r) (sym (ap (λ (c : List (ℕ × List E)). rest c) e)))
