-- Where the flight's head and its order field stand in a sheet (02, Req 06: 11 is given at one or the other), what turn the head gives, and which field each
-- block was read from (Req 07).
-- The idea: the place that the reading keeps is that of the field which it has just passed, and the fields between change neither it nor the turn; a block is
-- added behind those before it.
use Rattle.std.specs.Prelude.{ℕ, ◌+◌, ◌≤◌, ◌<◌, ◌≡◌, false, List, ◌⊎◌}
use Rattle.std.proofs.Math.Path.{refl, ap}
use Rattle.std.proofs.Common.{sym, subst, ◌∙◌, true≢false, inl, inr, arith, ne_eqb}
use Rattle.std.proofs.Math.Bool.{true}
use Rattle.std.proofs.Math.Decide.{ℕ_discrete, dec_lt}
use Rattle.field.specs.Bytes.{number_at}
use Rattle.field.specs.Field.{field_at}
use Rattle.field.specs.declared.Field.TheVariants.{Whole}
use Rattle.sheet.specs.Limits.{most_blocks}
use Rattle.sheet.specs.Tags.{mosaic_head_tag, mosaic_strip_tag, sorting_head_tag, sorting_strip_tag, flight_head_tag, flight_block_tag, flight_order_tag}
use Rattle.sheet.specs.Tags.{flight_window_block_tag}
use Rattle.sheet.specs.Sections.{in_flight, after_order}
use Rattle.sheet.specs.Among.{Among}
use Rattle.sheet.specs.FieldTable.{table_of, length_of, lengths_due, flight_block, flight_window_block}
use Rattle.sheet.proofs.Contents.{head_length_lem, sole_length, flight_block_content, flight_window_block_content}
use Rattle.sheet.specs.Causes.{Permitted, field_rows}
use Rattle.sheet.specs.Rows.{NoCause}
use Rattle.sheet.specs.Table.{Reached}
use Rattle.sheet.specs.Table.Reached.{at_start, past_field}
use Rattle.sheet.specs.Decode.{no_flight, turn_of, with_flight_head, exact_block, window_block, with_block, with_order, next_flight, next_section, next_reading, start_reading}
use Rattle.sheet.specs.Read.{read_sheet, accepted, refused}
use Rattle.sheet.specs.Sound.{FlightWithin}
use Rattle.sheet.proofs.Stores.{set_here, set_there}
use Rattle.sheet.proofs.Passed.{passed_rows}
use Rattle.sheet.specs.Invariant.{Kept}
use Rattle.sheet.specs.Theorems.{Outcome, is_accepted, is_refused}
use Rattle.sheet.proofs.Theorems.{read_outcome, refused_some, reached_progress}
use Rattle.sheet.specs.declared.Block.{Block}
use Rattle.sheet.specs.declared.FlightSection.{FlightSection}
use Rattle.sheet.specs.declared.Reading.{Reading}
use Rattle.sheet.specs.declared.Sheet.{Sheet}
use Rattle.sheet.specs.FlightPlaces.{FieldRead, HeadRead, OrderRead, block_at, BlockRead, exact, window}

record Placed (s : List ℕ) (st : Reading) : Type 0 where
  head : in_flight ≤ st.section → HeadRead s st.flight
  order : st.section ≡ after_order → OrderRead s st.flight

-- the turn of a head of a length that is due
turn_read : (s : List ℕ) (st : Reading) (c len : ℕ) → Among len (lengths_due flight_head_tag (table_of st))
    → ((len ≡ 0) × (turn_of s c len ≡ 0)) ⊎ ((len ≡ 2) × (turn_of s c len ≡ number_at s c 2))
unfolding turn_of
turn_read s st c len due = go (head_length_lem len st.mosaic.stations st.sorting.desks due)
  where
    go : (len ≡ 0) ⊎ (len ≡ 2) → ((len ≡ 0) × (turn_of s c len ≡ 0)) ⊎ ((len ≡ 2) × (turn_of s c len ≡ number_at s c 2))
    go (inl e) = inl (e, rw e refl)
    go (inr e) = inr (e, rw e refl)

module _ (s : List ℕ) (st : Reading) (len : ℕ) (r : Reached s st) (p : Placed s st) where
  -- a field of a section before the flight
  early : (tag : ℕ) → next_section tag st.section < in_flight → Placed s (next_reading s st tag len)
  unfolding next_reading
  early tag l = record { head = λ h. absurd (omega arith); order = λ e. absurd (omega arith) }

  at_head : field_at s st.at ≡ Whole flight_head_tag len → NoCause (field_rows s st flight_head_tag len) → Placed s (next_reading s st flight_head_tag len)
  unfolding next_reading next_section next_flight with_flight_head
  at_head e c = record {
    head =
        λ h. record {
          at = st.at;
          len = len;
          head = record { reading = st; reached = r; place_is = refl; whole = e; passes = c };
          turn_is = turn_read s st (st.at + 3) len (passed_rows s st flight_head_tag len c).length_ok;
          place_is = λ _. refl;
        };
    order = λ d. absurd (omega arith);
  }

  -- a block of either tag
  with_block_lem : (b : Block) (next : Reading) → st.section ≡ in_flight → next.section ≡ in_flight → next.flight ≡ with_block b st.flight → Placed s next
  unfolding with_block
  with_block_lem b next e d f =
      let h = p.head (omega arith) in
      record {
        head = λ _. rw f (record { at = h.at; len = h.len; head = h.head; turn_is = h.turn_is; place_is = h.place_is });
        order = λ q. absurd (omega arith);
      }

  at_block : st.section ≡ in_flight → Placed s (next_reading s st flight_block_tag len)
  unfolding next_reading next_section next_flight
  at_block e = with_block_lem (exact_block s (st.at + 3)) _ e e refl

  at_window_block : st.section ≡ in_flight → Placed s (next_reading s st flight_window_block_tag len)
  unfolding next_reading next_section next_flight
  at_window_block e = with_block_lem (window_block s (st.at + 3)) _ e e refl

  at_order : st.section ≡ in_flight → field_at s st.at ≡ Whole flight_order_tag len → NoCause (field_rows s st flight_order_tag len)
      → Placed s (next_reading s st flight_order_tag len)
  unfolding next_reading next_section next_flight with_order
  at_order e w c =
      let h = p.head (omega arith) in
      record {
        head = λ _. record { at = h.at; len = h.len; head = h.head; turn_is = h.turn_is; place_is = λ d. absurd (true≢false d) };
        order = λ _. record { len = len; order = record { reading = st; reached = r; place_is = refl; whole = w; passes = c } };
      }

module _ (s : List ℕ) (st : Reading) (tag len : ℕ) (r : Reached s st) (e : field_at s st.at ≡ Whole tag len) (c : NoCause (field_rows s st tag len))
    (p : Placed s st) where
  at_tag : (t : ℕ) → tag ≡ t → (field_at s st.at ≡ Whole t len → NoCause (field_rows s st t len) → Placed s (next_reading s st t len))
      → Placed s (next_reading s st tag len)
  at_tag t q f = subst (λ x. field_at s st.at ≡ Whole x len → NoCause (field_rows s st x len) → Placed s (next_reading s st x len)) (sym q) f e c

  placed_case : Permitted tag st.section st.members → Placed s (next_reading s st tag len)
  unfolding next_section
  placed_case (Permitted.mosaic_head_lem q h) = at_tag mosaic_head_tag q (λ _ _. early s st len r p mosaic_head_tag (omega arith))
  placed_case (Permitted.mosaic_strip_lem q h) = at_tag mosaic_strip_tag q (λ _ _. early s st len r p mosaic_strip_tag (omega arith))
  placed_case (Permitted.sorting_head_lem q h) = at_tag sorting_head_tag q (λ _ _. early s st len r p sorting_head_tag (omega arith))
  placed_case (Permitted.sorting_strip_holds q h) = at_tag sorting_strip_tag q (λ _ _. early s st len r p sorting_strip_tag (omega arith))
  placed_case (Permitted.flight_head_lem q h) = at_tag flight_head_tag q (at_head s st len r p)
  placed_case (Permitted.flight_block_holds q h) = at_tag flight_block_tag q (λ _ _. at_block s st len r p h)
  placed_case (Permitted.flight_window_block_holds q h) = at_tag flight_window_block_tag q (λ _ _. at_window_block s st len r p h)
  placed_case (Permitted.flight_order_holds q h l) = at_tag flight_order_tag q (at_order s st len r p h)

placed : (s : List ℕ) (st : Reading) → Reached s st → Placed s st
unfolding start_reading
placed s st at_start = record { head = λ h. absurd (omega arith); order = λ e. absurd (omega arith) }
placed s st (past_field {st = st₀} tag len r e c) = placed_case s st₀ tag len r e c (placed s st₀ r) (passed_rows s st₀ tag len c).tag_ok

-- Of a sheet that is read with number 0: the head of its flight, if it has one, and its order field, if an order is given.
module _ (s : List ℕ) where
  kept_at : (st : Reading) → Reached s st → Kept s st
  kept_at st r = (reached_progress s st r).kept

  pub head_read : (read_sheet s).number ≡ 0 → 1 ≤ (read_sheet s).flight.blocks → HeadRead s (read_sheet s).flight
  unfolding refused accepted
  head_read z = go (read_sheet s) (read_outcome s) z
    where
      go : (x : Sheet) → Outcome s x → x.number ≡ 0 → 1 ≤ x.flight.blocks → HeadRead s x.flight
      go x (is_accepted st r c e) z = rw e (λ some. in_flight_lem some (dec_lt st.section in_flight))
        where
          in_flight_lem : 1 ≤ st.flight.blocks → Dec (st.section < in_flight) → HeadRead s st.flight
          in_flight_lem some (yes l) = absurd (omega (arith, ((kept_at st r).before_flight l).0))
          in_flight_lem some (no l) = (placed s st r).head (omega arith)
      go x (is_refused st number place r c e) z = absurd (refused_some s st _ number place c (sym (ap (λ y. y.number) e) ∙ z))

  pub order_read : (read_sheet s).number ≡ 0 → (read_sheet s).flight.ordered ≡ true → OrderRead s (read_sheet s).flight
  unfolding refused accepted
  order_read z = go (read_sheet s) (read_outcome s) z
    where
      go : (x : Sheet) → Outcome s x → x.number ≡ 0 → x.flight.ordered ≡ true → OrderRead s x.flight
      go x (is_accepted st r c e) z = rw e (λ given. after given (dec_lt st.section in_flight) (ℕ_discrete st.section in_flight))
        where
          after : st.flight.ordered ≡ true → Dec (st.section < in_flight) → Dec (st.section ≡ in_flight) → OrderRead s st.flight
          after given (yes l) d = absurd (true≢false (sym given ∙ ((kept_at st r).before_flight l).1))
          after given (no l) (yes d) = absurd (true≢false (sym given ∙ ((kept_at st r).in_flight_lem d).1))
          after given (no l) (no d) = (placed s st r).order (omega (arith, (kept_at st r).known))
      go x (is_refused st number place r c e) z = absurd (refused_some s st _ number place c (sym (ap (λ y. y.number) e) ∙ z))

-- a block that is added, and those before it
module _ (b : Block) (f : FlightSection) (k : FlightWithin most_blocks f) (room : f.blocks < most_blocks) where
  added_block : block_at (with_block b f) f.blocks ≡ b
  unfolding with_block
  added_block =
      rw (
        set_here f.first f.blocks f.blocks b.first (omega (arith, k.first_length)) refl,
        set_here f.shortest f.blocks f.blocks b.shortest (omega (arith, k.shortest_length)) refl,
        set_here f.longest f.blocks f.blocks b.longest (omega (arith, k.longest_length)) refl,
        set_here f.second f.blocks f.blocks b.second (omega (arith, k.second_length)) refl,
      )

  block_before : (i : ℕ) → (i ≡ f.blocks → ⊥) → block_at (with_block b f) i ≡ block_at f i
  unfolding with_block
  block_before i n =
      rw (
        set_there f.first f.blocks i b.first n,
        set_there f.shortest f.blocks i b.shortest n,
        set_there f.longest f.blocks i b.longest n,
        set_there f.second f.blocks i b.second n,
      )

module _ (s : List ℕ) (st : Reading) (tag len : ℕ) (r : Reached s st) (e : field_at s st.at ≡ Whole tag len) (c : NoCause (field_rows s st tag len))
    (before : (i : ℕ) → i < st.flight.blocks → BlockRead s i (block_at st.flight i)) where
  next : FlightSection
  next = next_flight s (st.at + 3) tag len st.at st.flight

  most : next.blocks ≤ most_blocks
  unfolding next next_reading
  most = (reached_progress s (next_reading s st tag len) (past_field tag len r e c)).kept.flight.most_blocks_holds

  read_here : (t n : ℕ) → tag ≡ t → len ≡ n → FieldRead s t n st.at
  read_here t n q h = record {
    reading = st;
    reached = r;
    place_is = refl;
    whole = subst (λ x. field_at s st.at ≡ Whole x n) q (subst (λ x. field_at s st.at ≡ Whole tag x) h e);
    passes = subst (λ x. NoCause (field_rows s st x n)) q (subst (λ x. NoCause (field_rows s st tag x)) h c);
  }

  due_at : (t : ℕ) → tag ≡ t → Among len (lengths_due t (table_of st))
  due_at t q = subst (λ x. Among len (lengths_due x (table_of st))) q (passed_rows s st tag len c).length_ok

  exact_length : tag ≡ flight_block_tag → len ≡ 6
  unfolding flight_block length_of
  exact_length q =
      sole_length flight_block_tag len _ flight_block (flight_block_content st.mosaic.stations st.sorting.desks) (due_at flight_block_tag q)

  window_length : tag ≡ flight_window_block_tag → len ≡ 8
  unfolding flight_window_block length_of
  window_length q =
      sole_length flight_window_block_tag len _ flight_window_block (flight_window_block_content st.mosaic.stations st.sorting.desks)
      (due_at flight_window_block_tag q)

  with_one_more : (b : Block) → next ≡ with_block b st.flight → BlockRead s st.flight.blocks b → (i : ℕ) → Dec (i ≡ st.flight.blocks)
      → i < next.blocks → BlockRead s i (block_at next i)
  unfolding with_block
  with_one_more b q here i (yes h) l =
      let one_more = ap (λ (f : FlightSection). f.blocks) q in
      rw (q, h, added_block b st.flight (reached_progress s st r).kept.flight (omega (arith, most, one_more))) here
  with_one_more b q here i (no h) l =
      let one_more = ap (λ (f : FlightSection). f.blocks) q in
      rw (q, block_before b st.flight (reached_progress s st r).kept.flight (omega (arith, most, one_more)) i h) (before i (omega (arith, one_more)))

  next_blocks_read : (i : ℕ) → i < next.blocks → BlockRead s i (block_at next i)
  unfolding next next_flight with_flight_head with_order read_here
  next_blocks_read i l =
      go (ℕ_discrete tag flight_head_tag) (ℕ_discrete tag flight_block_tag) (ℕ_discrete tag flight_window_block_tag) (ℕ_discrete tag flight_order_tag) l
    where
      same : (f : FlightSection) → next ≡ f → i < next.blocks → i < f.blocks
      same f q l = rw q at l

      go : Dec (tag ≡ flight_head_tag) → Dec (tag ≡ flight_block_tag) → Dec (tag ≡ flight_window_block_tag) → Dec (tag ≡ flight_order_tag) → i < next.blocks
          → BlockRead s i (block_at next i)
      go (yes q) d₂ d₃ d₄ l = absurd (omega (arith, same (with_flight_head s (st.at + 3) len st.at) (rw q) l))
      go (no n₁) (yes q) d₃ d₄ l =
          with_one_more (exact_block s (st.at + 3)) (rw q) (BlockRead.exact st.at (read_here flight_block_tag 6 q (exact_length q)) refl refl) i
          (ℕ_discrete i _) l
      go (no n₁) (no n₂) (yes q) d₄ l =
          with_one_more (window_block s (st.at + 3)) (rw q) (BlockRead.window st.at (read_here flight_window_block_tag 8 q (window_length q)) refl refl) i
          (ℕ_discrete i _) l
      go (no n₁) (no n₂) (no n₃) (yes q) l = rw q (before i (same (with_order s (st.at + 3) st.at st.flight) (rw q) l))
      go (no n₁) (no n₂) (no n₃) (no n₄) l =
          let none : next ≡ st.flight =
          rw (ne_eqb tag flight_head_tag n₁, ne_eqb tag flight_block_tag n₂, ne_eqb tag flight_window_block_tag n₃, ne_eqb tag flight_order_tag n₄) in
          rw none (before i (same st.flight none l))

module _ (s : List ℕ) where
  all_blocks_read : (st : Reading) → Reached s st → (i : ℕ) → i < st.flight.blocks → BlockRead s i (block_at st.flight i)
  unfolding start_reading no_flight next_reading next
  all_blocks_read st at_start i l = absurd (omega arith)
  all_blocks_read st (past_field {st = st₀} tag len r e c) i l = next_blocks_read s st₀ tag len r e c (λ j h. all_blocks_read st₀ r j h) i l

  -- Of a sheet that is read with number 0, each block of the flight was read from a field of the one tag or the other.
  pub block_read : (read_sheet s).number ≡ 0 → (i : ℕ) → i < (read_sheet s).flight.blocks → BlockRead s i (block_at (read_sheet s).flight i)
  unfolding refused accepted
  block_read z = go (read_sheet s) (read_outcome s) z
    where
      go : (x : Sheet) → Outcome s x → x.number ≡ 0 → (i : ℕ) → i < x.flight.blocks → BlockRead s i (block_at x.flight i)
      go x (is_accepted st r c e) z = rw e (all_blocks_read st r)
      go x (is_refused st number place r c e) z = absurd (refused_some s st _ number place c (sym (ap (λ y. y.number) e) ∙ z))
