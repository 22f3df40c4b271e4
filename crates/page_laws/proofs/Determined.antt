-- The page of a lawful plan determines it: for a sound sheet two lawful plans with the same page are the same. Lines of 32 columns are read back from their
-- bytes; jobs and blocks are as many as the sheet's, so the other lines are the batches; no number is cut, so equal lines have equal numbers.
-- The order number, which is not printed, is that of the order that the passes keep.
use Prim.Native.Nat.{ℕ, suc, ◌+◌, ◌≤◌, ◌<◌}
use Rattle.std.specs.Prelude.{◌≡◌, refl, cond, get_or, take, drop, ltb}
use Rattle.std.proofs.Common.{sym, ◌∙◌, subst, arith, length-append, take_at, drop_at, ext_get_or}
use Rattle.std.proofs.Math.Path.{ap}
use mathlib.Core.List.{List, [], ◌∷◌, ◌++◌}
use Rattle.std.proofs.Math.Decide.{dec_lt}
use Rattle.std.proofs.Math.ListN.{length}
use Rattle.base.specs.Listed.{listed, listed_at}
use Rattle.decimal.specs.Columns.{space, columns}
use Rattle.decimal.proofs.Laws.{length_columns}
use Rattle.sheet.specs.Sound.{SheetSound, strips_in_all}
use Rattle.sheet.specs.declared.Sheet.{Sheet}
use Rattle.rules.specs.Mosaic.{no_batch, batch_at, mosaic_figure}
use Rattle.rules.specs.Sorting.{no_job, job_at, sorting_figure}
use Rattle.rules.specs.Flight.{no_passes, passes_at, Keeps, flight_figure}
use Rattle.rules.specs.Plan.{Plan, PlanLawful, if_present}
use Rattle.rules.specs.declared.Batch.{Batch}
use Rattle.rules.specs.declared.Job.{Job}
use Rattle.rules.specs.declared.Passes.{Passes}
use Rattle.rules_laws.proofs.Fits.{batches_most, jobs_all}
use Rattle.rules_laws.proofs.OrderKept.{order_determined}
use Rattle.rules_laws.proofs.Present.{present_some, present_length}
use Rattle.page_lines.specs.Line.{head_line, member_line, second_field, blanks, batch_letter, job_letter, block_letter, batch_line, job_line, block_line}
use Rattle.page_lines.specs.Line.{mosaic_head_letter, sorting_head_letter, flight_head_letter}
use Rattle.page_lines.proofs.Columns.{second_columns, blanks_columns}
use Rattle.page.specs.Page.{mosaic_lines, sorting_lines, flight_lines, page_lines, page_bytes}
use Rattle.page_laws.specs.Lines.{InLines}
use Rattle.page_laws.proofs.Lines.{mosaic_count, sorting_count, flight_count}
use Rattle.page_laws.specs.Lines.{mosaic_of_page, sorting_of_page, flight_of_page}
use Rattle.page_laws.proofs.Lines.{page_parts, page_in_lines, parts_length}
use Rattle.page_laws.specs.Uncut.{Uncut, PageUncut}
use Rattle.page_laws.proofs.Uncut.{uncut_same, page_uncut}

-- bytes are in lines in one way only
pub lines_determined : {ls ms : List (List ℕ)} {bytes : List ℕ} → InLines ls bytes → InLines ms bytes → ls ≡ ms
lines_determined {ls} {ms} a b = ext_get_or [] ls ms count (λ i h. sym (a.line i h) ∙ b.line i (omega (arith, count)))
  where
    count : length ls ≡ length ms
    count = omega (arith, a.long, b.long)

-- two lists one behind the other, the first ones as long
module _ {A : Type 0} (xs xs' ys ys' : List A) (long : length xs ≡ length xs') (e : xs ++ ys ≡ xs' ++ ys') where
  fronts_same : xs ≡ xs'
  fronts_same = sym (take_at xs ys (length xs) refl) ∙ ap (take (length xs)) e ∙ take_at xs' ys' (length xs) (sym long)

  backs_same : ys ≡ ys'
  backs_same = sym (drop_at xs ys (length xs) refl) ∙ ap (drop (length xs)) e ∙ drop_at xs' ys' (length xs) (sym long)

-- Equal member lines have equal fields.
record SameFields (first first' : ℕ) (second second' : List ℕ) (third third' fourth fourth' : ℕ) : Type 0 where
  pub firsts : columns space 3 first ≡ columns space 3 first'
  pub seconds : second ≡ second'
  pub thirds : columns space 12 third ≡ columns space 12 third'
  pub fourths : columns space 12 fourth ≡ columns space 12 fourth'

module _ (letter first first' : ℕ) (second second' : List ℕ) (third third' fourth fourth' : ℕ) (four : length second ≡ 4) (four' : length second' ≡ 4) where
  wide : (width x y : ℕ) → length (columns space width x) ≡ length (columns space width y)
  wide width x y = length_columns space width x ∙ sym (length_columns space width y)

  fields_same : member_line letter first second third fourth ≡ member_line letter first' second' third' fourth'
      → SameFields first first' second second' third third' fourth fourth'
  unfolding member_line
  fields_same e = record {
    firsts = ap (drop 1) (fronts_same front front' second second' (ap suc (wide 3 first first')) left);
    seconds = backs_same front front' second second' (ap suc (wide 3 first first')) left;
    thirds = fronts_same (time third) (time third') (time fourth) (time fourth') (wide 12 third third') right;
    fourths = backs_same (time third) (time third') (time fourth) (time fourth') (wide 12 third third') right;
  }
    where
      front : List ℕ
      front = letter ∷ columns space 3 first

      front' : List ℕ
      front' = letter ∷ columns space 3 first'

      time : ℕ → List ℕ
      time t = columns space 12 t

      long : length (front ++ second) ≡ length (front' ++ second')
      long = omega (arith, length-append front second, length-append front' second', wide 3 first first')

      left : front ++ second ≡ front' ++ second'
      left = fronts_same (front ++ second) (front' ++ second') (time third ++ time fourth) (time third' ++ time fourth') long e

      right : time third ++ time fourth ≡ time third' ++ time fourth'
      right = backs_same (front ++ second) (front' ++ second') (time third ++ time fourth) (time third' ++ time fourth') long e

second_field_same : (x y : ℕ) → Uncut 4 x → Uncut 4 y → second_field x ≡ second_field y → x ≡ y
unfolding second_field
second_field_same x y u v e = uncut_same 4 x y u v e

-- Members of a section: where their lines tell them apart, the section's lines do.
module _ {A : Type 0} (none : A) (n letter : ℕ) (line : ℕ → A → List ℕ) where
  abbrev part_of : ℕ → List A → List (List ℕ)
  part_of figure xs = if_present n (head_line letter figure ∷ listed (length xs) (λ i. line i (get_or xs i none)))

  part_at : (figure : ℕ) (xs : List A) → length xs ≤ n → (i : ℕ) → i < length xs → get_or (part_of figure xs) (suc i) [] ≡ line i (get_or xs i none)
  part_at figure xs few i h =
      ap (λ (l : List (List ℕ)). get_or l (suc i) [])
      (present_some n (head_line letter figure ∷ listed (length xs) (λ k. line k (get_or xs k none))) (omega arith))
      ∙ listed_at (length xs) (λ k. line k (get_or xs k none)) i [] h

  members_same : (figure figure' : ℕ) (xs ys : List A) → length xs ≡ length ys → length xs ≤ n
      → ((i : ℕ) → i < length xs → line i (get_or xs i none) ≡ line i (get_or ys i none) → get_or xs i none ≡ get_or ys i none)
      → part_of figure xs ≡ part_of figure' ys → xs ≡ ys
  members_same figure figure' xs ys count few apart e =
      ext_get_or none xs ys count
      (λ i h. apart i h
      (sym (part_at figure xs few i h)
      ∙ ap (λ (l : List (List ℕ)). get_or l (suc i) []) e
      ∙ part_at figure' ys (omega (arith, count)) i (omega (arith, count))))

present_same : (n : ℕ) (ls ms : List (List ℕ)) → length ls ≡ length ms → length (if_present n ls) ≡ length (if_present n ms)
present_same n ls ms e = present_length n ls ∙ ap (λ (k : ℕ). cond (ltb 0 n) k 0) e ∙ sym (present_length n ms)

module _ (s : Sheet) (sound : SheetSound s) (p q : Plan) (P : PlanLawful s p) (Q : PlanLawful s q) (same : page_bytes s p ≡ page_bytes s q) where
  lines_same : page_lines s p ≡ page_lines s q
  lines_same = lines_determined (page_in_lines s p) (subst (InLines (page_lines s q)) (sym same) (page_in_lines s q))

  -- each section has as many lines
  jobs_count : length p.jobs ≡ length q.jobs
  jobs_count = jobs_all s.sorting p.jobs sound.sorting P.sorting ∙ sym (jobs_all s.sorting q.jobs sound.sorting Q.sorting)

  blocks_count : length p.passes ≡ length q.passes
  blocks_count = P.flight.every_block ∙ sym Q.flight.every_block

  sorting_long : length (sorting_of_page s p) ≡ length (sorting_of_page s q)
  sorting_long =
      present_same (strips_in_all s.sorting) _ _
      (sorting_count (sorting_figure s.sorting p.jobs) p.jobs
      ∙ ap (λ (k : ℕ). k + 1) jobs_count
      ∙ sym (sorting_count (sorting_figure s.sorting q.jobs) q.jobs))

  flight_long : length (flight_of_page s p) ≡ length (flight_of_page s q)
  flight_long =
      present_same s.flight.blocks _ _
      (flight_count (flight_figure s.flight p.passes) p.passes
      ∙ ap (λ (k : ℕ). k + 1) blocks_count
      ∙ sym (flight_count (flight_figure s.flight q.passes) q.passes))

  mosaic_long : length (mosaic_of_page s p) ≡ length (mosaic_of_page s q)
  mosaic_long = omega (arith, parts_length s p, parts_length s q, ap length lines_same, sorting_long, flight_long)

  front_long : length (mosaic_of_page s p ++ sorting_of_page s p) ≡ length (mosaic_of_page s q ++ sorting_of_page s q)
  front_long =
      omega (arith, length-append (mosaic_of_page s p) (sorting_of_page s p), length-append (mosaic_of_page s q) (sorting_of_page s q), mosaic_long, sorting_long)

  parts_same : mosaic_of_page s p ++ sorting_of_page s p ++ flight_of_page s p ≡ mosaic_of_page s q ++ sorting_of_page s q ++ flight_of_page s q
  parts_same = sym (page_parts s p) ∙ lines_same ∙ page_parts s q

  front_same : mosaic_of_page s p ++ sorting_of_page s p ≡ mosaic_of_page s q ++ sorting_of_page s q
  front_same = fronts_same (mosaic_of_page s p ++ sorting_of_page s p) (mosaic_of_page s q ++ sorting_of_page s q) (flight_of_page s p) (flight_of_page s q) front_long parts_same

  mosaic_same : mosaic_of_page s p ≡ mosaic_of_page s q
  mosaic_same = fronts_same (mosaic_of_page s p) (mosaic_of_page s q) (sorting_of_page s p) (sorting_of_page s q) mosaic_long front_same

  sorting_same : sorting_of_page s p ≡ sorting_of_page s q
  sorting_same = backs_same (mosaic_of_page s p) (mosaic_of_page s q) (sorting_of_page s p) (sorting_of_page s q) mosaic_long front_same

  flight_same : flight_of_page s p ≡ flight_of_page s q
  flight_same = backs_same (mosaic_of_page s p ++ sorting_of_page s p) (mosaic_of_page s q ++ sorting_of_page s q) (flight_of_page s p) (flight_of_page s q) front_long parts_same

  -- no number of either is cut
  uncut_p : PageUncut s p
  uncut_p = page_uncut s p sound P

  uncut_q : PageUncut s q
  uncut_q = page_uncut s q sound Q

  few_batches : length p.batches ≤ s.mosaic.strips
  few_batches = batches_most s.mosaic p.batches sound.mosaic P.mosaic

  batches_count : length p.batches ≡ length q.batches
  batches_count = go (dec_lt 0 s.mosaic.strips)
    where
      long : 0 < s.mosaic.strips → (r : Plan) → length (mosaic_of_page s r) ≡ length r.batches + 1
      long h r =
          ap length (present_some s.mosaic.strips (mosaic_lines (mosaic_figure s.mosaic r.batches) r.batches) h)
          ∙ mosaic_count (mosaic_figure s.mosaic r.batches) r.batches

      go : Dec (0 < s.mosaic.strips) → length p.batches ≡ length q.batches
      go (yes h) = omega (arith, mosaic_long, long h p, long h q)
      go (no h) = omega (arith, h, few_batches, batches_most s.mosaic q.batches sound.mosaic Q.mosaic)

  batch_same : (i : ℕ) → i < length p.batches → batch_line (i + 1) (batch_at p.batches i) ≡ batch_line (i + 1) (batch_at q.batches i)
      → batch_at p.batches i ≡ batch_at q.batches i
  unfolding batch_line
  batch_same i h e =
      let k : i < length q.batches = omega (arith, batches_count) in
      let f = fields_same batch_letter (i + 1) (i + 1) (second_field x.last) (second_field y.last) x.start y.start x.finish y.finish
      (second_columns x.last) (second_columns y.last) e in
      λ j. record {
        last = second_field_same x.last y.last (uncut_p.batch_last i h) (uncut_q.batch_last i k) f.seconds j;
        start = uncut_same 12 x.start y.start (uncut_p.batch_start i h) (uncut_q.batch_start i k) f.thirds j;
        finish = uncut_same 12 x.finish y.finish (uncut_p.batch_finish i h) (uncut_q.batch_finish i k) f.fourths j;
      }
    where
      x : Batch
      x = batch_at p.batches i

      y : Batch
      y = batch_at q.batches i

  batches_same : p.batches ≡ q.batches
  unfolding mosaic_lines batch_at
  batches_same =
      members_same no_batch s.mosaic.strips mosaic_head_letter (λ i b. batch_line (i + 1) b) (mosaic_figure s.mosaic p.batches)
      (mosaic_figure s.mosaic q.batches) p.batches q.batches batches_count few_batches batch_same mosaic_same

  job_same : (i : ℕ) → i < length p.jobs → job_line (job_at p.jobs i) ≡ job_line (job_at q.jobs i) → job_at p.jobs i ≡ job_at q.jobs i
  unfolding job_line
  job_same i h e =
      let k : i < length q.jobs = omega (arith, jobs_count) in
      let f = fields_same job_letter x.desk y.desk (second_field x.number) (second_field y.number) x.scan y.scan x.start y.start
      (second_columns x.number) (second_columns y.number) e in
      λ j. record {
        desk = uncut_same 3 x.desk y.desk (uncut_p.job_desk i h) (uncut_q.job_desk i k) f.firsts j;
        number = second_field_same x.number y.number (uncut_p.job_number i h) (uncut_q.job_number i k) f.seconds j;
        scan = uncut_same 12 x.scan y.scan (uncut_p.job_scan i h) (uncut_q.job_scan i k) f.thirds j;
        start = uncut_same 12 x.start y.start (uncut_p.job_start i h) (uncut_q.job_start i k) f.fourths j;
      }
    where
      x : Job
      x = job_at p.jobs i

      y : Job
      y = job_at q.jobs i

  jobs_same : p.jobs ≡ q.jobs
  unfolding sorting_lines job_at
  jobs_same =
      members_same no_job (strips_in_all s.sorting) sorting_head_letter (λ i j. job_line j) (sorting_figure s.sorting p.jobs)
      (sorting_figure s.sorting q.jobs) p.jobs q.jobs jobs_count
      (omega (arith, jobs_all s.sorting p.jobs sound.sorting P.sorting)) job_same sorting_same

  block_same : (i : ℕ) → i < length p.passes → block_line (i + 1) (passes_at p.passes i) ≡ block_line (i + 1) (passes_at q.passes i)
      → passes_at p.passes i ≡ passes_at q.passes i
  unfolding block_line
  block_same i h e =
      let k : i < length q.passes = omega (arith, blocks_count) in
      let f = fields_same block_letter (i + 1) (i + 1) blanks blanks x.first y.first x.second y.second blanks_columns blanks_columns e in
      λ j. record {
        first = uncut_same 12 x.first y.first (uncut_p.block_first i h) (uncut_q.block_first i k) f.thirds j;
        second = uncut_same 12 x.second y.second (uncut_p.block_second i h) (uncut_q.block_second i k) f.fourths j;
      }
    where
      x : Passes
      x = passes_at p.passes i

      y : Passes
      y = passes_at q.passes i

  passes_same : p.passes ≡ q.passes
  unfolding flight_lines passes_at
  passes_same =
      members_same no_passes s.flight.blocks flight_head_letter (λ i b. block_line (i + 1) b) (flight_figure s.flight p.passes)
      (flight_figure s.flight q.passes) p.passes q.passes blocks_count (omega (arith, P.flight.every_block)) block_same flight_same

  order_same : p.order ≡ q.order
  order_same =
      order_determined P.order.proper Q.order.proper P.kept (subst (Keeps s.flight q.order) (sym passes_same) Q.kept)

  pub page_determines : p ≡ q
  page_determines = λ i. record { batches = batches_same i; jobs = jobs_same i; order = order_same i; passes = passes_same i }
