-- The weights of a sheet's strips (02, Req 09): "any other value is 6"; each weight is the one that its strip's field gives; and where no strip carries one,
-- each is 1.
-- The idea: the values before a weight decide before it does; a strip is stored behind those before it, which keep their weights.
use Rattle.std.specs.Prelude.{ℕ, ◌+◌, ◌-◌, ◌*◌, ◌≤◌, ◌<◌, ◌≡◌, List, [], ◌∷◌, ◌++◌, ◌⊎◌}
use Rattle.std.proofs.Math.Path.{refl, sym, ap, subst}
use Rattle.std.proofs.Common.{◌∙◌, inl, inr, arith, ne_eqb}
use Rattle.std.proofs.Math.Decide.{ℕ_discrete}
use Rattle.std.proofs.Math.ListN.{get_or}
use Rattle.field.specs.Bytes.{number_at}
use Rattle.field.specs.Field.{field_at}
use Rattle.field.specs.declared.Field.TheVariants.{Whole}
use Rattle.sheet.specs.Limits.{most_weight, most_desks, most_strips, most_strips_of_desk}
use Rattle.sheet.specs.Tags.{mosaic_head_tag, mosaic_strip_tag, sorting_head_tag, sorting_strip_tag}
use Rattle.sheet.specs.Sections.{strips_of_desk}
use Rattle.sheet.specs.Among.{Among}
use Rattle.sheet.specs.FieldTable.{table_of, length_of, lengths_due, mosaic_strip, sorting_strip, values_of, content_values, field_values, Value, Within, InRange}
use Rattle.sheet.specs.FieldTable.Range.{count}
use Rattle.sheet.specs.FieldTable.Value.{value}
use Rattle.sheet.specs.Contents.{weight_values}
use Rattle.sheet.proofs.Contents.{sorting_strip_contents, either_values, mosaic_strip_values, sorting_strip_values}
use Rattle.sheet.specs.Rows.{NoCause}
use Rattle.sheet.specs.Causes.{CountOutOfRange, FirstOut, field_rows}
use Rattle.sheet.specs.Table.{Reached, RefusedForContent, RefusedForValue}
use Rattle.sheet.specs.Table.Reached.{at_start, past_field}
use Rattle.sheet.specs.Decode.{no_mosaic, no_sorting, weight_of, with_mosaic_head, with_mosaic_strip, with_sorting_head, with_strip_at, with_sorting_strip, next_mosaic}
use Rattle.sheet.specs.Decode.{next_sorting, next_reading, start_reading}
use Rattle.sheet.specs.Read.{read_sheet, accepted, refused}
use Rattle.sheet.proofs.Stores.{zeros_at, set_here, set_there}
use Rattle.sheet.specs.Passed.{Passed}
use Rattle.sheet.proofs.Passed.{passed_rows, within_by, first_within}
use Rattle.sheet.specs.Theorems.{Outcome, is_accepted, is_refused}
use Rattle.sheet.proofs.Theorems.{read_outcome, refused_some, reached_progress}
use Rattle.sheet.specs.FlightPlaces.{FieldRead}
use Rattle.sheet.proofs.AbsentWeight.{absent_is_one}
use Rattle.sheet.specs.AbsentWeight.StripAt.{of_mosaic_holds, of_sorting_holds}
use Rattle.sheet.specs.declared.MosaicSection.{MosaicSection}
use Rattle.sheet.specs.declared.SortingSection.{SortingSection}
use Rattle.sheet.specs.declared.Reading.{Reading}
use Rattle.sheet.specs.declared.Sheet.{Sheet}
use Rattle.sheet.specs.Weights.{WeightOut, mosaic, sorting, MosaicWeightRead, SortingWeightRead, Unweighted}

-- where some values are within their ranges and the next is not, the next is the first that is out
out_behind : (values : List Value) (v : Value) → InRange values → CountOutOfRange v → FirstOut CountOutOfRange (values ++ (v ∷ []))
unfolding InRange FirstOut
out_behind [] v r c = inl c
out_behind (w ∷ values) v r c = inr (r.0, out_behind values v r.1 c)

weight_there : (s : List ℕ) (c len others : ℕ) → len ≡ others + 1 → weight_values s c len others ≡ value (count 1 most_weight) (number_at s (c + others) 1) ∷ []
unfolding weight_values
weight_there s c len others e = rw (ne_eqb len others (λ h. omega arith))

desk_values : (s : List ℕ) (st : Reading) (len : ℕ) → Among len (lengths_due sorting_strip_tag (table_of st))
    → field_values s (st.at + 3) sorting_strip_tag len (table_of st) ≡ content_values s (st.at + 3) (sorting_strip st.sorting.desks) ++ weight_values s (st.at + 3) len 5
unfolding sorting_strip length_of
desk_values s st len due = either_values sorting_strip_tag len (table_of st) (sorting_strip st.sorting.desks) (sorting_strip_contents _ _) due s (st.at + 3)

-- Such a weight is a count out of its range, and the first value that is: the sheet is refused for it.
pub weight_refused : (s : List ℕ) (place : ℕ) → RefusedForContent s (WeightOut s) place → RefusedForValue s CountOutOfRange place
unfolding CountOutOfRange
weight_refused s place f = record {
  reading = f.reading;
  reached = f.reached;
  tag = f.tag;
  len = f.len;
  whole = f.whole;
  some_members = f.some_members;
  order_given_lem = f.order_given_lem;
  tag_permitted = f.tag_permitted;
  length_due = f.length_due;
  fault = go f.fault;
  place_is = f.place_is;
}
  where
    due : (t : ℕ) → f.tag ≡ t → Among f.len (lengths_due t (table_of f.reading))
    due t q = subst (λ x. Among f.len (lengths_due x (table_of f.reading))) q f.length_due

    -- the values of the strip are those before the weight, and the weight
    found : (t : ℕ) (values : List Value) (others : ℕ) → f.tag ≡ t → f.len ≡ others + 1
        → field_values s (f.reading.at + 3) t f.len (table_of f.reading) ≡ values ++ weight_values s (f.reading.at + 3) f.len others
        → FirstOut CountOutOfRange (values ++ (value (count 1 most_weight) (number_at s (f.reading.at + 3 + others) 1) ∷ []))
        → FirstOut CountOutOfRange (field_values s (f.reading.at + 3) f.tag f.len (table_of f.reading))
    found t values others q h e out =
        subst (FirstOut CountOutOfRange)
        (sym (ap (λ x. field_values s (f.reading.at + 3) x f.len (table_of f.reading)) q
        ∙ e
        ∙ ap (λ (more : List Value). values ++ more) (weight_there s (f.reading.at + 3) f.len others h)))
        out

    go : WeightOut s f.reading f.tag f.len → FirstOut CountOutOfRange (field_values s (f.reading.at + 3) f.tag f.len (table_of f.reading))
    go (WeightOut.mosaic q h r w) =
        found mosaic_strip_tag (content_values s (f.reading.at + 3) (mosaic_strip f.reading.mosaic.stations)) (2 * f.reading.mosaic.stations + 2) q h
        (mosaic_strip_values s (f.reading.at + 3) f.len f.reading.mosaic.stations f.reading.sorting.desks (due mosaic_strip_tag q))
        (out_behind (content_values s (f.reading.at + 3) (mosaic_strip f.reading.mosaic.stations))
        (value (count 1 most_weight) (number_at s (f.reading.at + 3 + (2 * f.reading.mosaic.stations + 2)) 1)) r w)
    go (WeightOut.sorting q h r w) =
        found sorting_strip_tag (content_values s (f.reading.at + 3) (sorting_strip f.reading.sorting.desks)) 5 q h
        (desk_values s f.reading f.len (due sorting_strip_tag q))
        (out_behind (content_values s (f.reading.at + 3) (sorting_strip f.reading.sorting.desks))
        (value (count 1 most_weight) (number_at s (f.reading.at + 3 + 5) 1)) r w)

module _ (s : List ℕ) (st : Reading) (tag len : ℕ) (r : Reached s st) (e : field_at s st.at ≡ Whole tag len) (c : NoCause (field_rows s st tag len)) where
  read_here : (t : ℕ) → tag ≡ t → FieldRead s t len st.at
  read_here t q = record {
    reading = st;
    reached = r;
    place_is = refl;
    whole = subst (λ x. field_at s st.at ≡ Whole x len) q e;
    passes = subst (λ x. NoCause (field_rows s st x len)) q c;
  }

  after : Reached s (next_reading s st tag len)
  after = past_field tag len r e c

  -- the mosaic behind the field
  mosaic_next : MosaicSection
  mosaic_next = next_mosaic s (st.at + 3) tag len st.mosaic

  few_strips : mosaic_next.strips ≤ most_strips
  unfolding mosaic_next next_reading
  few_strips = (reached_progress s (next_reading s st tag len) after).kept.mosaic.most_strips_holds

  module _ (before : (j : ℕ) → j < st.mosaic.strips → MosaicWeightRead s j (get_or st.mosaic.weight j 0)) where
    strip_stored : tag ≡ mosaic_strip_tag → mosaic_next ≡ with_mosaic_strip s (st.at + 3) len st.mosaic → (j : ℕ) → Dec (j ≡ st.mosaic.strips)
        → j < mosaic_next.strips → MosaicWeightRead s j (get_or mosaic_next.weight j 0)
    unfolding with_mosaic_strip read_here
    strip_stored q n j (yes h) l =
        let more = ap (λ (m : MosaicSection). m.strips) n in
        rw (n, set_here st.mosaic.weight st.mosaic.strips j (weight_of s (st.at + 3) len (2 * st.mosaic.stations + 2)) (omega (arith, (reached_progress s st r).kept.mosaic.weight_length, few_strips, more)) h)
        (record { at = st.at; len = len; field = read_here mosaic_strip_tag q; strips_before = sym h; weight_is = refl })
    strip_stored q n j (no h) l =
        let more = ap (λ (m : MosaicSection). m.strips) n in
        rw (n, set_there st.mosaic.weight st.mosaic.strips j (weight_of s (st.at + 3) len (2 * st.mosaic.stations + 2)) h)
        (before j (omega (arith, more)))

    next_mosaic_read : (j : ℕ) → j < mosaic_next.strips → MosaicWeightRead s j (get_or mosaic_next.weight j 0)
    unfolding mosaic_next next_mosaic with_mosaic_head
    next_mosaic_read j l = go (ℕ_discrete tag mosaic_head_tag) (ℕ_discrete tag mosaic_strip_tag) l
      where
        same : (m : MosaicSection) → mosaic_next ≡ m → j < mosaic_next.strips → j < m.strips
        same m q l = rw q at l

        go : Dec (tag ≡ mosaic_head_tag) → Dec (tag ≡ mosaic_strip_tag) → j < mosaic_next.strips → MosaicWeightRead s j (get_or mosaic_next.weight j 0)
        go (yes q) d l = absurd (omega (arith, same (with_mosaic_head s (st.at + 3)) (rw q) l))
        go (no n) (yes q) l = strip_stored q (rw q) j (ℕ_discrete j st.mosaic.strips) l
        go (no n) (no h) l =
            let none : mosaic_next ≡ st.mosaic = rw (ne_eqb tag mosaic_head_tag n, ne_eqb tag mosaic_strip_tag h) in
            rw none (before j (same st.mosaic none l))

  -- the sorting behind the field
  sorting_next : SortingSection
  sorting_next = next_sorting s (st.at + 3) tag len st.sorting

  few_of_desk : (d : ℕ) → get_or sorting_next.counts d 0 ≤ most_strips_of_desk
  unfolding sorting_next next_reading
  few_of_desk d = (reached_progress s (next_reading s st tag len) after).kept.sorting.most_strips_holds d

  module _ (before : (d k : ℕ) → k < get_or st.sorting.counts d 0 → SortingWeightRead s d k (get_or st.sorting.weight (6 * d + k) 0)) where
    -- strip k of desk d is stored
    module _ (q : tag ≡ sorting_strip_tag) (d k : ℕ) (desk : number_at s (st.at + 3) 1 ≡ d + 1) (known : d < most_desks)
        (here : get_or st.sorting.counts d 0 ≡ k) (n : sorting_next ≡ with_strip_at s (st.at + 3) len st.sorting d k) where
      room : k < most_strips_of_desk
      unfolding with_strip_at
      room =
          omega (arith, few_of_desk d, ap (λ (t : SortingSection). get_or t.counts d 0) n, set_here st.sorting.counts d d (k + 1) (omega (arith, (reached_progress s st r).kept.sorting.counts_length)) refl)

      at_desk : (d' k' : ℕ) → Dec (d' ≡ d) → Dec (k' ≡ k) → k' < get_or sorting_next.counts d' 0
          → SortingWeightRead s d' k' (get_or sorting_next.weight (6 * d' + k') 0)
      unfolding with_strip_at read_here
      at_desk d' k' (yes x) (yes y) l =
          rw (n, set_here st.sorting.weight (6 * d + k) (6 * d' + k') (weight_of s (st.at + 3) len 5) (omega (arith, room, (reached_progress s st r).kept.sorting.weight_length)) (omega arith))
          (record { at = st.at; len = len; field = read_here sorting_strip_tag q; desk_is = omega arith; strips_before = rw x (here ∙ sym y); weight_is = refl })
      at_desk d' k' (yes x) (no y) l =
          let more = ap (λ (t : SortingSection). get_or t.counts d' 0) n in
          let count = set_here st.sorting.counts d d' (k + 1) (omega (arith, (reached_progress s st r).kept.sorting.counts_length)) x in
          let old = ap (λ i. get_or st.sorting.counts i 0) x in
          rw (n, set_there st.sorting.weight (6 * d + k) (6 * d' + k') (weight_of s (st.at + 3) len 5) (λ z. y (omega arith)))
          (before d' k' (omega (arith, more, count, here, old)))
      at_desk d' k' (no x) y l =
          let more = ap (λ (t : SortingSection). get_or t.counts d' 0) n in
          let count = set_there st.sorting.counts d d' (k + 1) x in
          rw (n, set_there st.sorting.weight (6 * d + k) (6 * d' + k') (weight_of s (st.at + 3) len 5) (λ z. x (omega (arith, room, few_of_desk d'))))
          (before d' k' (omega (arith, more, count)))

    -- the desk of a strip is one of the section's
    desk_known : tag ≡ sorting_strip_tag → (1 ≤ number_at s (st.at + 3) 1) × (number_at s (st.at + 3) 1 ≤ most_desks)
    unfolding sorting_strip values_of Within
    desk_known q =
        let p = subst (λ x. Passed s st x len) q (passed_rows s st tag len c) in
        let b = first_within _ _ (within_by p (sorting_strip_values s (st.at + 3) len _ _)) in
        (b.at_least, omega (arith, b.at_most, (reached_progress s st r).kept.sorting.most_desks_holds))

    next_sorting_read : (d k : ℕ) → k < get_or sorting_next.counts d 0 → SortingWeightRead s d k (get_or sorting_next.weight (6 * d + k) 0)
    unfolding sorting_next next_sorting with_sorting_head with_sorting_strip strips_of_desk
    next_sorting_read d k l = go (ℕ_discrete tag sorting_head_tag) (ℕ_discrete tag sorting_strip_tag) l
      where
        same : (t : SortingSection) → sorting_next ≡ t → k < get_or sorting_next.counts d 0 → k < get_or t.counts d 0
        same t q l = rw q at l

        go : Dec (tag ≡ sorting_head_tag) → Dec (tag ≡ sorting_strip_tag) → k < get_or sorting_next.counts d 0
            → SortingWeightRead s d k (get_or sorting_next.weight (6 * d + k) 0)
        go (yes q) h l = absurd (omega (arith, same (with_sorting_head s (st.at + 3)) (rw q) l, zeros_at 3 d))
        go (no n) (yes q) l =
            let b = desk_known q in
            at_desk q (number_at s (st.at + 3) 1 - 1) _ (omega (arith, b.0)) (omega (arith, b.0, b.1)) refl (rw q) d k (ℕ_discrete d _) (ℕ_discrete k _) l
        go (no n) (no h) l =
            let none : sorting_next ≡ st.sorting = rw (ne_eqb tag sorting_head_tag n, ne_eqb tag sorting_strip_tag h) in
            rw none (before d k (same st.sorting none l))

module _ (s : List ℕ) where
  all_mosaic_read : (st : Reading) → Reached s st → (j : ℕ) → j < st.mosaic.strips → MosaicWeightRead s j (get_or st.mosaic.weight j 0)
  unfolding start_reading no_mosaic next_reading mosaic_next
  all_mosaic_read st at_start j l = absurd (omega arith)
  all_mosaic_read st (past_field {st = st₀} tag len r e c) j l = next_mosaic_read s st₀ tag len r e c (λ i h. all_mosaic_read st₀ r i h) j l

  all_sorting_read : (st : Reading) → Reached s st → (d k : ℕ) → k < get_or st.sorting.counts d 0 → SortingWeightRead s d k (get_or st.sorting.weight (6 * d + k) 0)
  unfolding start_reading no_sorting next_reading sorting_next
  all_sorting_read st at_start d k l = absurd (omega (arith, zeros_at 3 d))
  all_sorting_read st (past_field {st = st₀} tag len r e c) d k l = next_sorting_read s st₀ tag len r e c (λ i j h. all_sorting_read st₀ r i j h) d k l

  -- Of a sheet that is read with number 0, each strip's weight is the one that its field gives.
  module _ (z : (read_sheet s).number ≡ 0) where
    pub mosaic_weight_read : (j : ℕ) → j < (read_sheet s).mosaic.strips → MosaicWeightRead s j (get_or (read_sheet s).mosaic.weight j 0)
    unfolding refused accepted
    mosaic_weight_read = go (read_sheet s) (read_outcome s) z
      where
        go : (x : Sheet) → Outcome s x → x.number ≡ 0 → (j : ℕ) → j < x.mosaic.strips → MosaicWeightRead s j (get_or x.mosaic.weight j 0)
        go x (is_accepted st r c e) z = rw e (all_mosaic_read st r)
        go x (is_refused st number place r c e) z = absurd (refused_some s st _ number place c (sym (ap (λ y. y.number) e) ∙ z))

    pub sorting_weight_read : (d k : ℕ) → k < get_or (read_sheet s).sorting.counts d 0 → SortingWeightRead s d k (get_or (read_sheet s).sorting.weight (6 * d + k) 0)
    unfolding refused accepted
    sorting_weight_read = go (read_sheet s) (read_outcome s) z
      where
        go : (x : Sheet) → Outcome s x → x.number ≡ 0 → (d k : ℕ) → k < get_or x.sorting.counts d 0
            → SortingWeightRead s d k (get_or x.sorting.weight (6 * d + k) 0)
        go x (is_accepted st r c e) z = rw e (all_sorting_read st r)
        go x (is_refused st number place r c e) z = absurd (refused_some s st _ number place c (sym (ap (λ y. y.number) e) ∙ z))

-- Each of their weights is 1.
module _ (s : List ℕ) (z : (read_sheet s).number ≡ 0) where
  pub unweighted_mosaic : Unweighted mosaic_strip_tag s → (j : ℕ) → j < (read_sheet s).mosaic.strips → get_or (read_sheet s).mosaic.weight j 0 ≡ 1
  unfolding Unweighted
  unweighted_mosaic u j l =
      let w = mosaic_weight_read s z j l in
      w.weight_is ∙ absent_is_one s (w.at + 3) w.len _ (u w.len w.at _ w.field (of_mosaic_holds refl refl))

  pub unweighted_sorting : Unweighted sorting_strip_tag s → (d k : ℕ) → k < get_or (read_sheet s).sorting.counts d 0 → get_or (read_sheet s).sorting.weight (6 * d + k) 0 ≡ 1
  unfolding Unweighted
  unweighted_sorting u d k l =
      let w = sorting_weight_read s z d k l in
      w.weight_is ∙ absent_is_one s (w.at + 3) w.len 5 (u w.len w.at 5 w.field (of_sorting_holds refl refl))
