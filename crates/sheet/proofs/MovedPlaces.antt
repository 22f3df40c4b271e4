-- Two sheets that part in one field, which is d bytes longer in the one than in the other: where these fields are checked and decoded alike, both sheets are
-- read with the same number and the same sections, and the places of later fields are d higher.
-- The idea: up to the field the two sheets are the same; behind it their readings stand at the same fields, d bytes apart, and stay alike.
use Prim.Native.Nat.{ℕ, zero, suc, ◌+◌, ◌-◌, ◌≤◌, ◌<◌}
use Rattle.std.specs.Prelude.{◌≡◌, Bool, List, ◌++◌, eqb}
use Rattle.std.proofs.Math.Path.{refl, sym, ap, subst}
use Rattle.std.proofs.Common.{ap₂, ◌∙◌, get_or-append-add}
use Rattle.std.proofs.Math.Bool.{true, false, cond}
use Rattle.std.proofs.Math.Decide.{ℕ_discrete}
use native.Mathlib.Omega.{arith}
use Rattle.std.proofs.Math.Dec.{leb}
use Rattle.std.proofs.Math.ListN.{length, get_or, length-append, get_or-append}
use borrow.Author.Tests.{le-leb, lt-leb, leb-true, leb-false, le-ltb}
use Rattle.field.specs.Bytes.{number_at, bytes_of}
use Rattle.field.specs.Field.{field_at, field_bytes}
use Rattle.field.specs.Fields.{whole_at}
use Rattle.field.specs.declared.Field.{Field}
use Rattle.field.specs.declared.Field.TheVariants.{End, Cut, Whole}
use Rattle.sheet.specs.Tags.{flight_head_tag, flight_order_tag}
use Rattle.sheet.specs.Refusals.{field_cut, no_members, order_missing}
use Rattle.sheet.specs.Among.{Among}
use Rattle.sheet.specs.FieldTable.{table_of, lengths_due}
use Rattle.sheet.specs.Rows.{NoCause}
use Rattle.sheet.proofs.RowLaws.{answer_passes, passes_answer, answer_fails}
use Rattle.sheet.specs.Causes.{field_rows, rows_at}
use Rattle.sheet.specs.Checks.{ends_section}
use Rattle.sheet.specs.Table.{Reached}
use Rattle.sheet.specs.Table.Reached.{at_start, past_field}
use Rattle.sheet.specs.Decode.{no_flight, next_flight, next_head, next_reading, start_reading}
use Rattle.sheet.specs.Read.{field_number, end_number, place_of, refused, accepted, read_sheet}
use Rattle.sheet.proofs.Passed.{passed_rows}
use Rattle.sheet.proofs.Decided.{field_answers, end_answers, cut_answers}
use Rattle.sheet.proofs.Theorems.{at_field, read_refused, read_accepted}
use Rattle.sheet.specs.SameContent.{with_place, place_after, SameBytes, Alike}
use Rattle.sheet.proofs.SameContent.{first_number, place_after_lem, same_field, alike_behind}
use Rattle.sheet.specs.declared.Reading.{Reading}
use Rattle.sheet.specs.MovedPlaces.{moved_place, SameButPlaces, with_field}

module _ (d n place : ℕ) where
  pub stays : place ≤ n → moved_place d n place ≡ place
  unfolding moved_place
  stays l = rw (le-leb place n l)

  pub moves : n < place → moved_place d n place ≡ place + d
  unfolding moved_place
  moves l = rw (lt-leb place n l) refl

-- A field that lies in the sheet is whole.
whole_there : (t : List ℕ) (at tag len : ℕ) → get_or t at 0 ≡ tag → number_at t (at + 1) 2 ≡ len → at + 3 + len ≤ length t → field_at t at ≡ Whole tag len
unfolding field_at
whole_there t at tag len e d l =
    rw (e, d, lt-leb (length t) at (omega arith), le-ltb (length t - at) 3 (omega arith), le-leb len (length t - at - 3) (omega arith))

-- Sheets whose first n bytes are the same: a reading that has come no further than that has read the same of both.
module _ (s t : List ℕ) (n : ℕ) (within : n ≤ length t) (same : (i : ℕ) → i < n → get_or s i 0 ≡ get_or t i 0) where
  bytes_before : (c len : ℕ) → c + len ≤ n → SameBytes s c t c len
  bytes_before c len l = record { same = λ j h. same (c + j) (omega arith) }

  field_before : (at tag len : ℕ) → field_at s at ≡ Whole tag len → at + 3 + len ≤ n → field_at t at ≡ Whole tag len
  field_before at tag len e l =
      let w = whole_at s at tag len e in
      whole_there t at tag len (sym (w.tag_is ∙ same at (omega arith))) (sym (w.length_is ∙ first_number (bytes_before (at + 1) 2 (omega arith)) 2 (omega arith)))
      (omega arith)

  self_alike : (st : Reading) → Alike st st
  self_alike st = record { section = refl; members = refl; mosaic = refl; sorting = refl; flight = refl }

  module _ (st : Reading) (tag len : ℕ) (e : field_at s st.at ≡ Whole tag len) (c : NoCause (field_rows s st tag len)) (l : st.at + 3 + len ≤ n) where
    passes_there : NoCause (field_rows t st tag len)
    passes_there =
        answer_passes _ _ _ (field_answers t st tag len (field_before st.at tag len e l))
        (sym (same_field (self_alike st) (bytes_before (st.at + 3) len l) tag) ∙ passes_answer _ _ _ (field_answers s st tag len e) c)

    same_next : next_reading t st tag len ≡ next_reading s st tag len
    unfolding next_reading
    same_next =
        let a = alike_behind (self_alike st) (bytes_before (st.at + 3) len l) tag (passed_rows s st tag len c).length_ok in
        λ i. record {
          at = st.at + 3 + len;
          section = a.section i;
          head = next_head tag st.head st.at;
          members = a.members i;
          mosaic = a.mosaic i;
          sorting = a.sorting i;
          flight = flight a i;
        }
      where
        flight : Alike (next_reading s st tag len) (next_reading t st tag len)
            → next_flight t (st.at + 3) tag len st.at st.flight ≡ next_flight s (st.at + 3) tag len st.at st.flight
        flight a =
            a.flight
            ∙ ap (λ x. with_place x (next_flight s (st.at + 3) tag len st.at st.flight))
            (place_after_lem t (st.at + 3) tag len st.at st.flight ∙ sym (place_after_lem s (st.at + 3) tag len st.at st.flight))

  reached_before : (st : Reading) → Reached s st → st.at ≤ n → Reached t st
  unfolding next_reading
  reached_before st at_start l = at_start
  reached_before st (past_field {st = st₀} tag len r e c) l =
      subst (Reached t) (same_next st₀ tag len e c l)
      (past_field tag len (reached_before st₀ r (omega arith)) (field_before st₀.at tag len e l) (passes_there st₀ tag len e c l))

-- the head of a section stands before where the reading stands, and so does the place of 11
pub head_before : (s : List ℕ) (st : Reading) → Reached s st → st.head ≤ st.at
unfolding start_reading next_reading next_head
head_before s st at_start = omega arith
head_before s st (past_field {st = st₀} tag len r e c) = go (ends_section tag) (head_before s st₀ r)
  where
    go : (b : Bool) → st₀.head ≤ st₀.at → cond b st₀.at st₀.head ≤ st₀.at + 3 + len
    go true h = omega arith
    go false h = omega arith

pub place_before : (s : List ℕ) (st : Reading) → Reached s st → st.flight.place ≤ st.at
unfolding start_reading no_flight next_reading place_after
place_before s st at_start = omega arith
place_before s st (past_field {st = st₀} tag len r e c) =
    rw (place_after_lem s (st₀.at + 3) tag len st₀.at st₀.flight) (go (eqb tag flight_head_tag) (eqb tag flight_order_tag) (place_before s st₀ r))
  where
    go : (a b : Bool) → st₀.flight.place ≤ st₀.at → cond a st₀.at (cond b st₀.at st₀.flight.place) ≤ st₀.at + 3 + len
    go true b h = omega arith
    go false true h = omega arith
    go false false h = omega arith

-- Two results that are refusals of the same number, and two that are accepted.
refused_same : (d n number place there : ℕ) → there ≡ moved_place d n place → SameButPlaces d n (refused number place) (refused number there)
unfolding refused no_flight
refused_same d n number place there e = record {
  number = refl;
  place = e;
  mosaic = refl;
  sorting = refl;
  flight = ap (λ x. with_place x no_flight) (sym (stays d n 0 (omega arith)));
}

accepted_same : (d n : ℕ) (st other : Reading) → Alike st other → other.flight.place ≡ moved_place d n st.flight.place
    → SameButPlaces d n (accepted st) (accepted other)
unfolding accepted
accepted_same d n st other a e = record {
  number = refl;
  place = sym (stays d n 0 (omega arith));
  mosaic = a.mosaic;
  sorting = a.sorting;
  flight = a.flight ∙ ap (λ x. with_place x st.flight) e;
}

-- one of two places, each moved
either_moved : (d n : ℕ) (b : Bool) (here there place moved : ℕ) → there ≡ moved_place d n here → moved ≡ moved_place d n place
    → cond b there moved ≡ moved_place d n (cond b here place)
either_moved d n true here there place moved e f = e
either_moved d n false here there place moved e f = f

-- Sheets whose bytes from an offset on are the same, d bytes apart. The field in which they part stands at n.
module _ (s t : List ℕ) (d n from : ℕ) (later : n < from) (long : length t ≡ length s + d) (same : (i : ℕ) → from ≤ i → get_or s i 0 ≡ get_or t (i + d) 0) where
  bytes_behind : (c c' len : ℕ) → c' ≡ c + d → from ≤ c → SameBytes s c t c' len
  bytes_behind c c' len e l = record { same = λ j h. same (c + j) (omega arith) ∙ ap (λ i. get_or t i 0) (there j) }
    where
      there : (j : ℕ) → c + j + d ≡ c' + j
      there j = omega arith

  field_behind : (at there : ℕ) → there ≡ at + d → from ≤ at → field_at t there ≡ field_at s at
  unfolding field_at
  field_behind at there e l = rw (ends (leb (length s) at) refl, left, number, tag)
    where
      ends : (b : Bool) → leb (length s) at ≡ b → leb (length t) there ≡ leb (length s) at
      ends true q = le-leb (length t) there (omega (arith, leb-true (length s) at q)) ∙ sym q
      ends false q = lt-leb (length t) there (omega (arith, leb-false (length s) at q)) ∙ sym q

      left : length t - there ≡ length s - at
      left = omega arith

      number : number_at t (there + 1) 2 ≡ number_at s (at + 1) 2
      number = sym (first_number (bytes_behind (at + 1) (there + 1) 2 (omega arith) (omega arith)) 2 (omega arith))

      tag : get_or t there 0 ≡ get_or s at 0
      tag = ap (λ i. get_or t i 0) e ∙ sym (same at l)

  -- a reading of s behind that field, and one of t that stands at the same field
  pub record Later (st other : Reading) : Type 0 where
    pub alike : Alike st other
    pub at_apart : other.at ≡ st.at + d
    pub behind : from ≤ st.at
    pub head : other.head ≡ moved_place d n st.head
    pub place : other.flight.place ≡ moved_place d n st.flight.place

  module _ (st other : Reading) (p : Later st other) (r : Reached s st) (q : Reached t other) where
    content : (len : ℕ) → SameBytes s (st.at + 3) t (other.at + 3) len
    content len = bytes_behind (st.at + 3) (other.at + 3) len (omega (arith, p.at_apart)) (omega (arith, p.behind))

    there : field_at t other.at ≡ field_at s st.at
    there = field_behind st.at other.at p.at_apart p.behind

    at_moved : other.at ≡ moved_place d n st.at
    at_moved = p.at_apart ∙ sym (moves d n st.at (omega (arith, p.behind)))

    next_later : (tag len : ℕ) → Among len (lengths_due tag (table_of st)) → Later (next_reading s st tag len) (next_reading t other tag len)
    unfolding next_reading next_head place_after
    next_later tag len due = record {
      alike = alike_behind p.alike (content len) tag due;
      at_apart = omega (arith, p.at_apart);
      behind = omega (arith, p.behind);
      head = either_moved d n (ends_section tag) st.at other.at st.head other.head at_moved p.head;
      place =
          place_after_lem t _ tag len other.at other.flight
          ∙ either_moved d n (eqb tag flight_head_tag) st.at other.at _ _ at_moved
          (either_moved d n (eqb tag flight_order_tag) st.at other.at st.flight.place other.flight.place at_moved p.place)
          ∙ ap (moved_place d n) (sym (place_after_lem s _ tag len st.at st.flight));
    }

    -- the place of a refusal
    place_moved : (k : ℕ) → place_of k other.head other.at ≡ moved_place d n (place_of k st.head st.at)
    unfolding place_of
    place_moved k =
        either_moved d n (eqb k no_members) st.head other.head _ _ p.head
        (either_moved d n (eqb k order_missing) st.head other.head st.at other.at p.head at_moved)

    same_end : end_number other.section other.members ≡ end_number st.section st.members
    same_end = ap₂ end_number p.alike.section p.alike.members

    -- how the two go on from there: both end, both are refused, or both come to the next field
    ends : (k : ℕ) → end_number st.section st.members ≡ k → field_at s st.at ≡ End → Dec (k ≡ 0) → SameButPlaces d n (read_sheet s) (read_sheet t)
    unfolding rows_at
    ends k ek e (yes z) =
        rw (
          read_accepted s st r (record { at_end_lem = e; passed = answer_passes _ _ _ (end_answers st) (ek ∙ z) }),
          read_accepted t other q (record { at_end_lem = there ∙ e; passed = answer_passes _ _ _ (end_answers other) (same_end ∙ ek ∙ z) }),
        )
        (accepted_same d n st other p.alike p.place)
    ends k ek e (no z) =
        rw (
          read_refused s st _ st.head r (at_field s st End _ st.head e (answer_fails _ _ _ (end_answers st) (λ x. z (sym ek ∙ x)))),
          read_refused t other _ other.head q
              (at_field t other End _ other.head (there ∙ e) (answer_fails _ _ _ (end_answers other) (λ x. z (sym ek ∙ sym same_end ∙ x)))),
          same_end,
        )
        (refused_same d n _ st.head other.head p.head)

    cut : field_at s st.at ≡ Cut → SameButPlaces d n (read_sheet s) (read_sheet t)
    unfolding rows_at
    cut e =
        rw (
          read_refused s st field_cut st.at r (at_field s st Cut _ _ e (answer_fails _ _ _ (cut_answers s st e) (λ z. omega arith))),
          read_refused t other field_cut other.at q
              (at_field t other Cut _ _ (there ∙ e) (answer_fails _ _ _ (cut_answers t other (there ∙ e)) (λ z. omega arith))),
        )
        (refused_same d n field_cut st.at other.at at_moved)

    wrong : (tag len : ℕ) → field_at s st.at ≡ Whole tag len → (field_number s st tag len ≡ 0 → ⊥) → SameButPlaces d n (read_sheet s) (read_sheet t)
    unfolding rows_at
    wrong tag len e z =
        rw (
          read_refused s st _ _ r (at_field s st (Whole tag len) _ _ e (answer_fails _ _ _ (field_answers s st tag len e) z)),
          read_refused t other _ _ q
              (at_field t other (Whole tag len) _ _ (there ∙ e) (answer_fails _ _ _ (field_answers t other tag len (there ∙ e)) (λ x. z (number_same ∙ x)))),
          ← number_same,
        )
        (refused_same d n _ _ _ (place_moved (field_number s st tag len)))
      where
        number_same : field_number s st tag len ≡ field_number t other tag len
        number_same = same_field p.alike (content len) tag

  pub later_same : (steps : ℕ) (st other : Reading) → Later st other → Reached s st → Reached t other → length s - st.at < steps
      → SameButPlaces d n (read_sheet s) (read_sheet t)
  unfolding next_reading
  later_same zero st other p r q l = absurd (omega arith)
  later_same (suc steps) st other p r q l = go (field_at s st.at) refl (later_same steps)
    where
      go : (f : Field) → field_at s st.at ≡ f
          → ((next following : Reading) → Later next following → Reached s next → Reached t following → length s - next.at < steps
          → SameButPlaces d n (read_sheet s) (read_sheet t))
          → SameButPlaces d n (read_sheet s) (read_sheet t)
      go End e on = ends st other p r q _ refl e (ℕ_discrete _ 0)
      go Cut e on = cut st other p r q e
      go (Whole tag len) e on = goes (ℕ_discrete (field_number s st tag len) 0)
        where
          goes : Dec (field_number s st tag len ≡ 0) → SameButPlaces d n (read_sheet s) (read_sheet t)
          goes (no z) = wrong st other p r q tag len e z
          goes (yes z) =
              let c = answer_passes _ _ _ (field_answers s st tag len e) z in
              let w = (whole_at s st.at tag len e).within in
              let f : field_at t other.at ≡ Whole tag len = there st other p r q ∙ e in
              on (next_reading s st tag len) (next_reading t other tag len)
              (next_later st other p r q tag len (passed_rows s st tag len c).length_ok)
              (past_field tag len r e c)
              (past_field tag len q f
              (answer_passes _ _ _ (field_answers t other tag len f) (sym (same_field p.alike (content st other p r q len) tag) ∙ z)))
              (omega arith)

module _ (before : List ℕ) (tag : ℕ) (content rest : List ℕ) where
  pub field_length : length (with_field before tag content rest) ≡ length before + 3 + length content + length rest
  unfolding field_bytes bytes_of
  field_length = length-append before _ ∙ omega (arith, length-append content rest)

  field_before_same : (i : ℕ) → i < length before → get_or (with_field before tag content rest) i 0 ≡ get_or before i 0
  field_before_same i l = get_or-append before _ 0 i l

  -- its bytes, and those behind it
  field_from : (k len : ℕ) → SameBytes (with_field before tag content rest) (length before + k) (field_bytes tag content ++ rest) k len
  field_from k len = record { same = λ j l. ap (λ x. get_or (with_field before tag content rest) x 0) (along j) ∙ get_or-append-add before _ (k + j) 0 }
    where
      along : (j : ℕ) → length before + k + j ≡ length before + (k + j)
      along j = omega arith

  pub content_from : (len : ℕ) → SameBytes (with_field before tag content rest) (length before + 3) (content ++ rest) 0 len
  unfolding field_bytes bytes_of
  content_from len = record {
    same = λ j l. (field_from 3 len).same j l ∙ ap (λ x. get_or (field_bytes tag content ++ rest) x 0) (three j) ∙ ap (λ x. get_or (content ++ rest) x 0) (none j);
  }
    where
      three : (j : ℕ) → 3 + j ≡ suc (suc (suc j))
      three j = omega arith

      none : (j : ℕ) → j ≡ 0 + j
      none j = omega arith

  pub behind_same : (j : ℕ) → get_or (with_field before tag content rest) (length before + 3 + length content + j) 0 ≡ get_or rest j 0
  behind_same j =
      ap (λ x. get_or (with_field before tag content rest) x 0) along
      ∙ (content_from (length content + j + 1)).same (length content + j) (omega arith)
      ∙ ap (λ x. get_or (content ++ rest) x 0) none
      ∙ get_or-append-add content rest j 0
    where
      along : length before + 3 + length content + j ≡ length before + 3 + (length content + j)
      along = omega arith

      none : 0 + (length content + j) ≡ length content + j
      none = omega arith

  -- a field whose length two bytes can tell is whole
  pub field_there : number_at (bytes_of 2 (length content)) 0 2 ≡ length content → (at : ℕ) → at ≡ length before
      → field_at (with_field before tag content rest) at ≡ Whole tag (length content)
  unfolding field_bytes bytes_of number_at
  field_there told at e =
      whole_there (with_field before tag content rest) at tag (length content)
      (ap (λ x. get_or (with_field before tag content rest) x 0) (omega arith) ∙ (field_from 0 1).same 0 (omega arith))
      (ap (λ x. number_at (with_field before tag content rest) x 2) (omega arith) ∙ first_number (field_from 1 2) 2 (omega arith) ∙ told)
      (omega (arith, field_length))

-- A field, and one in its place that is d bytes longer.
module _ (before rest : List ℕ) (tag tag' : ℕ) (content content' : List ℕ) (d : ℕ) (apart : length content' ≡ length content + d)
    (told : number_at (bytes_of 2 (length content)) 0 2 ≡ length content) (told' : number_at (bytes_of 2 (length content')) 0 2 ≡ length content')
    (st : Reading) (r : Reached (with_field before tag content rest) st) (e : st.at ≡ length before) where
  same_before : (i : ℕ) → i < length before → get_or (with_field before tag content rest) i 0 ≡ get_or (with_field before tag' content' rest) i 0
  same_before i l = field_before_same before tag content rest i l ∙ sym (field_before_same before tag' content' rest i l)

  pub longer : length (with_field before tag' content' rest) ≡ length (with_field before tag content rest) + d
  longer = omega (arith, field_length before tag content rest, field_length before tag' content' rest)

  pub same_behind : (i : ℕ) → length before + 3 + length content ≤ i
      → get_or (with_field before tag content rest) i 0 ≡ get_or (with_field before tag' content' rest) (i + d) 0
  same_behind i l =
      ap (λ x. get_or (with_field before tag content rest) x 0) here
      ∙ behind_same before tag content rest (i - (length before + 3 + length content))
      ∙ sym (behind_same before tag' content' rest (i - (length before + 3 + length content)))
      ∙ ap (λ x. get_or (with_field before tag' content' rest) x 0) there
    where
      here : i ≡ length before + 3 + length content + (i - (length before + 3 + length content))
      here = omega arith

      there : length before + 3 + length content' + (i - (length before + 3 + length content)) ≡ i + d
      there = omega arith

  reached_there : Reached (with_field before tag' content' rest) st
  reached_there =
      reached_before (with_field before tag content rest) (with_field before tag' content' rest) (length before)
      (omega (arith, field_length before tag' content' rest)) same_before st r (omega arith)

  -- the readings behind the two
  abbrev pub behind_field : Reading
  behind_field = next_reading (with_field before tag content rest) st tag (length content)

  abbrev pub behind_longer : Reading
  behind_longer = next_reading (with_field before tag' content' rest) st tag' (length content')

  module _ (number : field_number (with_field before tag content rest) st tag (length content) ≡ field_number (with_field before tag' content' rest) st tag' (length content'))
      (alike : field_number (with_field before tag content rest) st tag (length content) ≡ 0 → Alike behind_field behind_longer)
      (same_head : behind_longer.head ≡ behind_field.head) (head_here : behind_field.head ≤ length before)
      (place : behind_longer.flight.place ≡ behind_field.flight.place) (place_here : behind_field.flight.place ≤ length before) where
    refusal_here : (k : ℕ) → place_of k st.head st.at ≤ length before
    unfolding place_of
    refusal_here k = go (eqb k no_members) (eqb k order_missing) (head_before (with_field before tag content rest) st r)
      where
        go : (a b : Bool) → st.head ≤ st.at → cond a st.head (cond b st.head st.at) ≤ length before
        go true b h = omega arith
        go false true h = omega arith
        go false false h = omega arith

    begun : field_number (with_field before tag content rest) st tag (length content) ≡ 0
        → Later (with_field before tag content rest) (with_field before tag' content' rest) d (length before) (length before + 3 + length content) (omega arith)
        longer same_behind behind_field behind_longer
    unfolding next_reading
    begun z = record {
      alike = alike z;
      at_apart = omega arith;
      behind = omega arith;
      head = same_head ∙ sym (stays d (length before) _ head_here);
      place = place ∙ sym (stays d (length before) _ place_here);
    }

    field_here : field_at (with_field before tag content rest) st.at ≡ Whole tag (length content)
    field_here = field_there before tag content rest told st.at e

    longer_here : field_at (with_field before tag' content' rest) st.at ≡ Whole tag' (length content')
    longer_here = field_there before tag' content' rest told' st.at e

    go_on : Dec (field_number (with_field before tag content rest) st tag (length content) ≡ 0)
        → SameButPlaces d (length before) (read_sheet (with_field before tag content rest)) (read_sheet (with_field before tag' content' rest))
    unfolding rows_at next_reading
    go_on (yes z) =
        later_same (with_field before tag content rest) (with_field before tag' content' rest) d (length before) (length before + 3 + length content) (omega arith)
        longer same_behind (suc (length (with_field before tag content rest))) behind_field behind_longer (begun z)
        (past_field tag (length content) r field_here (answer_passes _ _ _ (field_answers (with_field before tag content rest) st tag (length content) field_here) z))
        (past_field tag' (length content') reached_there longer_here
        (answer_passes _ _ _ (field_answers (with_field before tag' content' rest) st tag' (length content') longer_here) (sym number ∙ z)))
        (omega arith)
    go_on (no z) =
        rw (
          read_refused (with_field before tag content rest) st _ _ r
              (at_field (with_field before tag content rest) st (Whole tag (length content)) _ _ field_here
              (answer_fails _ _ _ (field_answers (with_field before tag content rest) st tag (length content) field_here) z)),
          read_refused (with_field before tag' content' rest) st _ _ reached_there
              (at_field (with_field before tag' content' rest) st (Whole tag' (length content')) _ _ longer_here
              (answer_fails _ _ _ (field_answers (with_field before tag' content' rest) st tag' (length content') longer_here) (λ x. z (number ∙ x)))),
          ← number,
        )
        (refused_same d (length before) _ _ _ (sym (stays d (length before) _ (refusal_here _))))

    pub replaced_same : SameButPlaces d (length before) (read_sheet (with_field before tag content rest)) (read_sheet (with_field before tag' content' rest))
    replaced_same = go_on (ℕ_discrete _ 0)
