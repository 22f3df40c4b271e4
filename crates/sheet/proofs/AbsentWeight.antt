-- An absent weight is a weight of 1 (02, Req 09: "absent means 1"): with a strip that carries no weight, and with the same strip and a last byte of 1, a sheet
-- is read with the same number and the same sections, and in the second the places of later fields are one higher.
-- The idea: the values before the weight are the same, a weight of 1 is within its range, and both strips are stored with the weight 1 (MovedPlaces.antt has
-- what follows behind them).
use Rattle.std.specs.Prelude.{ℕ, zero, suc, ◌+◌, ◌*◌, ◌≤◌, ◌<◌, ◌≡◌, List, [], ◌∷◌, ◌++◌}
use Rattle.std.proofs.Math.Path.{refl, sym, ap}
use Rattle.std.proofs.Common.{subst, ◌∙◌, append-nil, inl, inr, get_or-append-add, eq-eqb, ne_eqb}
use Rattle.std.proofs.Math.Bool.{true}
use Rattle.std.proofs.Math.Decide.{dec_lt}
use native.Mathlib.Omega.{arith}
use Rattle.std.proofs.Math.ListN.{length, length-append, get_or, get_or-append}
use Rattle.base.specs.Branch.{check}
use Rattle.field.specs.Bytes.{number_at, bytes_of}
use Rattle.sheet.specs.Limits.{most_stations, most_weight}
use Rattle.sheet.specs.Tags.{mosaic_strip_tag, sorting_strip_tag}
use Rattle.sheet.specs.Among.{Among, is_among, among_true}
use Rattle.sheet.specs.FieldTable.{Item, table_of, mosaic_strip, sorting_strip, with_weight, length_of, contents_of, lengths_of, lengths_due}
use Rattle.sheet.specs.FieldTable.{Value, content_values, field_values}
use Rattle.sheet.specs.FieldTable.Range.{count}
use Rattle.sheet.specs.FieldTable.Value.{value}
use Rattle.sheet.specs.Contents.{weight_values}
use Rattle.sheet.proofs.Contents.{mosaic_strip_contents, no_strip_content, sorting_strip_contents, strip_length, weighted_length, either_values}
use Rattle.sheet.proofs.Contents.{no_lengths}
use Rattle.sheet.specs.Rows.{first_failure}
use Rattle.sheet.specs.Checks.{ends_section, count_number, value_number, value_numbers, range_number, window_ordered, order_proper}
use Rattle.sheet.specs.Table.{Reached}
use Rattle.sheet.specs.Decode.{weight_of, with_mosaic_strip, with_strip_at, with_sorting_strip, next_mosaic, next_sorting, next_flight, next_section, next_members, next_head}
use Rattle.sheet.specs.Decode.{next_reading}
use Rattle.sheet.specs.Read.{content_checks, field_checks, field_number, read_sheet}
use Rattle.sheet.proofs.Theorems.{reached_progress}
use Rattle.sheet.specs.SameContent.{SameBytes}
use Rattle.sheet.proofs.SameContent.{same_number, first_number, content_same, times_same, length_decides}
use Rattle.sheet.specs.MovedPlaces.{SameButPlaces}
use Rattle.sheet.proofs.MovedPlaces.{content_from, head_before, place_before, replaced_same}
use Rattle.sheet.specs.declared.Reading.{Reading}
use Rattle.sheet.specs.AbsentWeight.{StripAt, of_mosaic_holds, of_sorting_holds, without_weight, with_weight_one}

-- The contents that the table has for a strip where a reading stands: none, or one without a weight, of so many bytes, and the same with one.
data StripContents (st : Reading) (tag others : ℕ) : Type 0 where
  none : contents_of tag (table_of st) ≡ [] → StripContents st tag others
  two : (content : List Item) → length_of content ≡ others → contents_of tag (table_of st) ≡ content ∷ with_weight content ∷ [] → StripContents st tag others

contents_of_lem : (st : Reading) (tag others : ℕ) → StripAt st tag others → StripContents st tag others
unfolding sorting_strip length_of
contents_of_lem st tag others (of_mosaic_holds e h) = go (dec_lt 0 st.mosaic.stations) (dec_lt most_stations st.mosaic.stations)
  where
    at_tag : {l : List (List Item)} → contents_of mosaic_strip_tag (table_of st) ≡ l → contents_of tag (table_of st) ≡ l
    at_tag q = ap (λ x. contents_of x (table_of st)) e ∙ q

    go : Dec (0 < st.mosaic.stations) → Dec (most_stations < st.mosaic.stations) → StripContents st tag others
    go (no n) d = none (at_tag (no_strip_content _ _ (λ lo hi. n (omega arith))))
    go (yes p) (yes q) = none (at_tag (no_strip_content _ _ (λ lo hi. omega arith)))
    go (yes p) (no q) =
        two (mosaic_strip st.mosaic.stations) (strip_length st.mosaic.stations ∙ sym h) (at_tag (mosaic_strip_contents _ _ (omega arith) (omega arith)))
contents_of_lem st tag others (of_sorting_holds e h) =
    two (sorting_strip st.sorting.desks) (sym h) (ap (λ x. contents_of x (table_of st)) e ∙ sorting_strip_contents _ _)

-- a weight of 1 changes no number that the values before it give
first_same : (n : ℕ) (xs ys : List ℕ) → first_failure xs ≡ first_failure ys → first_failure (n ∷ xs) ≡ first_failure (n ∷ ys)
unfolding first_failure
first_same zero xs ys e = e
first_same (suc n) xs ys e = refl

one_passes : (values : List Value) → range_number (values ++ (value (count 1 most_weight) 1 ∷ [])) ≡ range_number values
unfolding range_number value_numbers value_number count_number check first_failure
one_passes [] = refl
one_passes (v ∷ values) = first_same (value_number v) (value_numbers (values ++ (value (count 1 most_weight) 1 ∷ []))) (value_numbers values) (one_passes values)

-- an absent weight
pub absent_is_one : (s : List ℕ) (c len others : ℕ) → len ≡ others → weight_of s c len others ≡ 1
unfolding weight_of
absent_is_one s c len others e = rw (eq-eqb len others e)

-- The two strips, where a reading stands.
module _ (before : List ℕ) (tag : ℕ) (content rest : List ℕ) (st : Reading) (e : st.at ≡ length before) where
  s : List ℕ
  s = without_weight before tag content rest

  t : List ℕ
  t = with_weight_one before tag content rest

  others : ℕ
  others = length content

  longer : length (content ++ (1 ∷ [])) ≡ others + 1
  unfolding others
  longer = length-append content (1 ∷ [])

  -- the bytes before the weight are the same, and the weight is 1
  bytes : SameBytes s (st.at + 3) t (st.at + 3) others
  unfolding s t others
  bytes = record {
    same = λ j l.
        ap (λ x. get_or s (x + 3 + j) 0) e
        ∙ (content_from before tag content rest others).same j l
        ∙ ap (λ x. get_or (content ++ rest) x 0) (none j)
        ∙ get_or-append content rest 0 j l
        ∙ sym (get_or-append content (1 ∷ []) 0 j l)
        ∙ sym (get_or-append (content ++ (1 ∷ [])) rest 0 j (omega (arith, longer)))
        ∙ sym (ap (λ x. get_or ((content ++ (1 ∷ [])) ++ rest) x 0) (none j))
        ∙ sym ((content_from before tag (content ++ (1 ∷ [])) rest others).same j l)
        ∙ sym (ap (λ x. get_or t (x + 3 + j) 0) e);
  }
    where
      none : (j : ℕ) → 0 + j ≡ j
      none j = omega arith

  one : number_at t (st.at + 3 + others) 1 ≡ 1
  unfolding t others number_at
  one = ap (λ x. x + 256 * 0) (ap (λ x. get_or t (x + 3 + length content) 0) e ∙ here) ∙ refl
    where
      there : 0 + length content ≡ length content + 0
      there = omega arith

      here : get_or (with_weight_one before tag content rest) (length before + 3 + length content) 0 ≡ 1
      here =
          (content_from before tag (content ++ (1 ∷ [])) rest (length content + 1)).same (length content) (omega arith)
          ∙ get_or-append (content ++ (1 ∷ [])) rest 0 (0 + length content) (omega (arith, longer))
          ∙ ap (λ x. get_or (content ++ (1 ∷ [])) x 0) there
          ∙ get_or-append-add content (1 ∷ []) 0 0

  -- both are stored with the weight 1
  absent : weight_of s (st.at + 3) others others ≡ 1
  absent = absent_is_one s (st.at + 3) others others refl

  written : weight_of t (st.at + 3) (length (content ++ (1 ∷ []))) others ≡ 1
  unfolding weight_of
  written = rw (ne_eqb (length (content ++ (1 ∷ []))) others (λ h. omega (arith, longer))) one

  -- they have the same values, but for the weight
  module _ (items : List Item) (h : length_of items ≡ others) (q : contents_of tag (table_of st) ≡ items ∷ with_weight items ∷ []) where
    due : Among others (lengths_due tag (table_of st))
    unfolding lengths_due lengths_of Among
    due = rw q (inl (sym h))

    longer_due : Among (length (content ++ (1 ∷ []))) (lengths_due tag (table_of st))
    unfolding lengths_due lengths_of Among
    longer_due = rw q (inr (inl (longer ∙ sym (weighted_length items ∙ ap (λ n. n + 1) h))))

    no_weight : weight_values s (st.at + 3) others (length_of items) ≡ []
    unfolding weight_values
    no_weight = rw (eq-eqb others (length_of items) (sym h))

    weight_one : weight_values t (st.at + 3) (length (content ++ (1 ∷ []))) (length_of items) ≡ value (count 1 most_weight) 1 ∷ []
    unfolding weight_values
    weight_one =
        rw (ne_eqb (length (content ++ (1 ∷ []))) (length_of items) (λ z. omega (arith, longer, h)), h, one)

    values_same : range_number (field_values s (st.at + 3) tag others (table_of st)) ≡ range_number (field_values t (st.at + 3) tag (length (content ++ (1 ∷ []))) (table_of st))
    values_same =
        ap range_number
        (either_values tag others (table_of st) items q due s (st.at + 3)
        ∙ ap (λ (more : List Value). content_values s (st.at + 3) items ++ more) no_weight
        ∙ append-nil (content_values s (st.at + 3) items)
        ∙ content_same bytes items (omega arith))
        ∙ sym (one_passes (content_values t (st.at + 3) items))
        ∙ sym (ap range_number
        (either_values tag (length (content ++ (1 ∷ []))) (table_of st) items q longer_due t (st.at + 3)
        ∙ ap (λ (more : List Value). content_values t (st.at + 3) items ++ more) weight_one))

  -- and are refused with the same number
  module _ (strip : StripAt st tag others) where
    no_window : (x y : ℕ) → window_ordered tag x y ≡ true
    unfolding window_ordered
    no_window x y = go strip
      where
        go : StripAt st tag others → window_ordered tag x y ≡ true
        go (of_mosaic_holds q h) = rw q
        go (of_sorting_holds q h) = rw q

    no_order : (x y : ℕ) → order_proper tag x y ≡ true
    unfolding order_proper
    no_order x y = go strip
      where
        go : StripAt st tag others → order_proper tag x y ≡ true
        go (of_mosaic_holds q h) = rw q
        go (of_sorting_holds q h) = rw q

    some_bytes : StripAt st tag others → 1 ≤ others
    some_bytes (of_mosaic_holds q h) = omega arith
    some_bytes (of_sorting_holds q h) = omega arith

    same_desk : number_at s (st.at + 3) 1 ≡ number_at t (st.at + 3) 1
    same_desk = first_number bytes 1 (some_bytes strip)

    number_same : StripContents st tag others → field_number s st tag others ≡ field_number t st tag (length (content ++ (1 ∷ [])))
    unfolding field_number field_checks content_checks is_among check
    number_same (none q) = rw (no_lengths tag (table_of st) q) (length_decides _ _ _ _ _)
    number_same (two items h q) =
        rw (
          among_true others _ (due items h q),
          among_true (length (content ++ (1 ∷ []))) _ (longer_due items h q),
          values_same items h q,
          no_window (number_at s (st.at + 3 + 2) 2) (number_at s (st.at + 3 + 4) 2),
          no_window (number_at t (st.at + 3 + 2) 2) (number_at t (st.at + 3 + 4) 2),
          same_desk,
          no_order st.members (number_at s (st.at + 3) 8),
          no_order st.members (number_at t (st.at + 3) 8),
        )

-- what a strip of each kind adds is the same
module _ (before content rest : List ℕ) (st : Reading) (e : st.at ≡ length before) where
  mosaic_same : length content ≡ 2 * st.mosaic.stations + 2
      → with_mosaic_strip (with_weight_one before mosaic_strip_tag content rest) (st.at + 3) (length (content ++ (1 ∷ []))) st.mosaic
      ≡ with_mosaic_strip (without_weight before mosaic_strip_tag content rest) (st.at + 3) (length content) st.mosaic
  unfolding with_mosaic_strip s t others
  mosaic_same h =
      let b = bytes before mosaic_strip_tag content rest st e in
      let w = written before mosaic_strip_tag content rest st e in
      let v = absent before mosaic_strip_tag content rest st e in
      rw (
        ← h,
        v,
        w,
        times_same b (4 * st.mosaic.strips) st.mosaic.stations st.mosaic.station (omega arith),
        same_number b 2 (2 * st.mosaic.stations) (omega arith),
      )

  sorting_same : length content ≡ 5
      → with_sorting_strip (with_weight_one before sorting_strip_tag content rest) (st.at + 3) (length (content ++ (1 ∷ []))) st.sorting
      ≡ with_sorting_strip (without_weight before sorting_strip_tag content rest) (st.at + 3) (length content) st.sorting
  unfolding with_sorting_strip with_strip_at s t others
  sorting_same h =
      let b = bytes before sorting_strip_tag content rest st e in
      let w = written before sorting_strip_tag content rest st e in
      let v = absent before sorting_strip_tag content rest st e in
      rw (← h, v, w, first_number b 1 (omega arith), same_number b 2 1 (omega arith), same_number b 2 3 (omega arith))

-- a length of two bytes, written and read back
told : (n : ℕ) → n < 65_536 → number_at (bytes_of 2 n) 0 2 ≡ n
unfolding bytes_of number_at
told n l = omega arith

-- Without a weight and with a weight of 1, wherever the reading comes to that strip.
module _ (before content rest : List ℕ) (st : Reading) (e : st.at ≡ length before) where
  few_bytes : (s : List ℕ) (tag : ℕ) → Reached s st → StripAt st tag (length content) → length content ≤ 2 * most_stations + 2
  few_bytes s tag r (of_mosaic_holds q h) = let k = (reached_progress s st r).kept.mosaic.most_stations_holds in omega arith
  few_bytes s tag r (of_sorting_holds q h) = omega arith

  one_longer : length (content ++ (1 ∷ [])) ≡ length content + 1
  one_longer = length-append content (1 ∷ [])

  of_mosaic_strip : Reached (without_weight before mosaic_strip_tag content rest) st → length content ≡ 2 * st.mosaic.stations + 2
      → SameButPlaces 1 (length before) (read_sheet (without_weight before mosaic_strip_tag content rest)) (read_sheet (with_weight_one before mosaic_strip_tag content rest))
  unfolding next_reading next_section next_head next_members next_mosaic next_sorting next_flight ends_section s t others
  of_mosaic_strip r h =
      let strip : StripAt st mosaic_strip_tag (length content) = of_mosaic_holds refl h in
      let few = few_bytes _ mosaic_strip_tag r strip in
      replaced_same before rest mosaic_strip_tag mosaic_strip_tag content (content ++ (1 ∷ [])) 1 one_longer (told _ (omega arith)) (told _ (omega (arith, one_longer)))
      st r e (number_same before mosaic_strip_tag content rest st e strip (contents_of_lem st mosaic_strip_tag (length content) strip))
      (λ _. record { section = refl; members = refl; mosaic = mosaic_same before content rest st e h; sorting = refl; flight = refl })
      refl (omega (arith, head_before _ st r)) refl (omega (arith, place_before _ st r))

  of_sorting_strip : Reached (without_weight before sorting_strip_tag content rest) st → length content ≡ 5
      → SameButPlaces 1 (length before) (read_sheet (without_weight before sorting_strip_tag content rest)) (read_sheet (with_weight_one before sorting_strip_tag content rest))
  unfolding next_reading next_section next_head next_members next_mosaic next_sorting next_flight ends_section s t others
  of_sorting_strip r h =
      let strip : StripAt st sorting_strip_tag (length content) = of_sorting_holds refl h in
      replaced_same before rest sorting_strip_tag sorting_strip_tag content (content ++ (1 ∷ [])) 1 one_longer (told _ (omega arith)) (told _ (omega (arith, one_longer)))
      st r e (number_same before sorting_strip_tag content rest st e strip (contents_of_lem st sorting_strip_tag (length content) strip))
      (λ _. record { section = refl; members = refl; mosaic = refl; sorting = sorting_same before content rest st e h; flight = refl })
      refl (omega (arith, head_before _ st r)) refl (omega (arith, place_before _ st r))

  pub absent_weight : (tag : ℕ) → Reached (without_weight before tag content rest) st → StripAt st tag (length content)
      → SameButPlaces 1 (length before) (read_sheet (without_weight before tag content rest)) (read_sheet (with_weight_one before tag content rest))
  absent_weight tag r (of_mosaic_holds q h) =
      subst (λ x. SameButPlaces 1 (length before) (read_sheet (without_weight before x content rest)) (read_sheet (with_weight_one before x content rest))) (sym q)
      (of_mosaic_strip (subst (λ x. Reached (without_weight before x content rest) st) q r) h)
  absent_weight tag r (of_sorting_holds q h) =
      subst (λ x. SameButPlaces 1 (length before) (read_sheet (without_weight before x content rest)) (read_sheet (with_weight_one before x content rest))) (sym q)
      (of_sorting_strip (subst (λ x. Reached (without_weight before x content rest) st) q r) h)
