-- The bytes of an allowed plan determine it: for a sound sheet two lawful plans with the same bytes are the same, and with them their figures.
-- Jobs and blocks are as many as the sheet's, so the length of the plan tells how many batches there are; then each member is read back.
use Rattle.std.specs.Prelude.{◌≡◌, refl, cond, List, [], ◌∷◌, ◌++◌, ℕ, ◌+◌, ◌*◌, ◌^◌, ◌≤◌, ◌<◌, length, ltb}
use Rattle.std.proofs.Common.{sym, ap, ap₂, ◌∙◌, append_assoc, append-nil, length-append}
use Rattle.std.proofs.Math.Decide.{dec_lt}
use native.Mathlib.Omega.{arith}
use Rattle.sheet.specs.Limits.{plan_length}
use Rattle.sheet.specs.Sound.{SheetSound, strips_in_all}
use Rattle.sheet.specs.declared.Sheet.{Sheet}
use Rattle.plan_format.specs.Format.{size_of, mosaic_head_form, batch_form, sorting_head_form, job_form, flight_head_form, passes_form}
use Rattle.rules.specs.Mosaic.{mosaic_figure}
use Rattle.rules.specs.Sorting.{sorting_figure}
use Rattle.rules.specs.Flight.{flight_figure}
use Rattle.rules.specs.Plan.{mosaic_bytes, sorting_bytes, flight_bytes, Plan, plan_bytes, PlanLawful}
use Rattle.plan_read.specs.PlanRead.{order_from, batches_from, jobs_from, blocks_from}
use Rattle.rules_laws.proofs.Present.{present_some, present_length, present_most}
use Rattle.rules_laws.proofs.Sections.{length_mosaic, length_sorting, length_flight, mosaic_back, sorting_back, flight_back, flight_order_back}
use Rattle.rules_laws.proofs.Fits.{batches_most, batch_fits, jobs_all, job_fits, passes_fits, flight_head_fits}
use Rattle.rules_laws.specs.Determined.{mosaic_of, sorting_of, flight_of}

pub plan_is : (s : Sheet) (p : Plan) → plan_bytes s p ≡ mosaic_of s p ++ sorting_of s p ++ flight_of s p
unfolding plan_bytes
plan_is s p = refl

-- a list of no member
pub no_member : {A : Type 0} (xs : List A) → length xs ≤ 0 → xs ≡ []
no_member [] h = refl
no_member (x ∷ xs) h = absurd (omega arith)

both_none : {A : Type 0} (xs ys : List A) → length xs ≤ 0 → length ys ≤ 0 → xs ≡ ys
both_none xs ys h k = no_member xs h ∙ sym (no_member ys k)

module _ (s : Sheet) (sound : SheetSound s) where
  -- how each section of a lawful plan is read from its bytes
  module _ (p : Plan) (L : PlanLawful s p) where
    pub plan_length_lem : length (plan_bytes s p) ≡ length (mosaic_of s p) + length (sorting_of s p) + length (flight_of s p)
    plan_length_lem =
        omega (arith, ap length (plan_is s p), length-append (mosaic_of s p ++ sorting_of s p) (flight_of s p), length-append (mosaic_of s p) (sorting_of s p))

    -- a lawful plan has room in a buffer of 1,103 bytes
    pub plan_most : length (plan_bytes s p) ≤ plan_length
    unfolding strips_in_all
    plan_most =
        omega (
          arith,
          plan_length_lem,
          present_most s.mosaic.strips (mosaic_bytes (mosaic_figure s.mosaic p.batches) p.batches),
          length_mosaic (mosaic_figure s.mosaic p.batches) p.batches,
          batches_most s.mosaic p.batches sound.mosaic L.mosaic,
          sound.mosaic.most_strips_holds,
          present_most (strips_in_all s.sorting) (sorting_bytes (sorting_figure s.sorting p.jobs) p.jobs),
          length_sorting (sorting_figure s.sorting p.jobs) p.jobs,
          jobs_all s.sorting p.jobs sound.sorting L.sorting,
          sound.sorting.most_strips_holds 0,
          sound.sorting.most_strips_holds 1,
          sound.sorting.most_strips_holds 2,
          present_most s.flight.blocks (flight_bytes (flight_figure s.flight p.passes) p.order p.passes),
          length_flight (flight_figure s.flight p.passes) p.order p.passes,
          L.flight.every_block,
          sound.flight.most_blocks_holds,
        )

    pub sorting_size : length (sorting_of s p) ≡ cond (ltb 0 (strips_in_all s.sorting)) (size_of sorting_head_form + size_of job_form * strips_in_all s.sorting) 0
    sorting_size =
        present_length (strips_in_all s.sorting) (sorting_bytes (sorting_figure s.sorting p.jobs) p.jobs)
        ∙ ap (λ (k : ℕ). cond (ltb 0 (strips_in_all s.sorting)) k 0)
        (length_sorting (sorting_figure s.sorting p.jobs) p.jobs ∙ ap (λ (k : ℕ). size_of sorting_head_form + size_of job_form * k) (jobs_all s.sorting p.jobs sound.sorting L.sorting))

    pub flight_size : length (flight_of s p) ≡ cond (ltb 0 s.flight.blocks) (size_of flight_head_form + size_of passes_form * s.flight.blocks) 0
    flight_size =
        present_length s.flight.blocks (flight_bytes (flight_figure s.flight p.passes) p.order p.passes)
        ∙ ap (λ (k : ℕ). cond (ltb 0 s.flight.blocks) k 0)
        (length_flight (flight_figure s.flight p.passes) p.order p.passes ∙ ap (λ (k : ℕ). size_of flight_head_form + size_of passes_form * k) L.flight.every_block)

    pub mosaic_size : 0 < s.mosaic.strips → length (mosaic_of s p) ≡ size_of mosaic_head_form + size_of batch_form * length p.batches
    mosaic_size h =
        ap length (present_some s.mosaic.strips (mosaic_bytes (mosaic_figure s.mosaic p.batches) p.batches) h)
        ∙ length_mosaic (mosaic_figure s.mosaic p.batches) p.batches

    pub batches_read : 0 < s.mosaic.strips → batches_from (plan_bytes s p) (size_of mosaic_head_form) (length p.batches) ≡ p.batches
    batches_read h =
        ap (λ (l : List ℕ). batches_from l (size_of mosaic_head_form) (length p.batches))
        (plan_is s p ∙ append_assoc (mosaic_of s p) (sorting_of s p) (flight_of s p)
        ∙ ap (λ (l : List ℕ). l ++ (sorting_of s p ++ flight_of s p)) (present_some s.mosaic.strips (mosaic_bytes (mosaic_figure s.mosaic p.batches) p.batches) h))
        ∙ mosaic_back (mosaic_figure s.mosaic p.batches) p.batches [] (sorting_of s p ++ flight_of s p) (batch_fits s.mosaic p.batches sound.mosaic L.mosaic)

    pub jobs_read : 0 < strips_in_all s.sorting → jobs_from (plan_bytes s p) (length (mosaic_of s p) + size_of sorting_head_form) (length p.jobs) ≡ p.jobs
    jobs_read h =
        ap (λ (l : List ℕ). jobs_from l (length (mosaic_of s p) + size_of sorting_head_form) (length p.jobs))
        (plan_is s p ∙ ap (λ (l : List ℕ). mosaic_of s p ++ l ++ flight_of s p) (present_some (strips_in_all s.sorting) (sorting_bytes (sorting_figure s.sorting p.jobs) p.jobs) h))
        ∙ sorting_back (sorting_figure s.sorting p.jobs) p.jobs (mosaic_of s p) (flight_of s p) (job_fits s.sorting p.jobs sound.sorting L.sorting)

    flight_last : 0 < s.flight.blocks
        → plan_bytes s p ≡ mosaic_of s p ++ sorting_of s p ++ flight_bytes (flight_figure s.flight p.passes) p.order p.passes ++ []
    flight_last h =
        plan_is s p
        ∙ ap (λ (l : List ℕ). mosaic_of s p ++ sorting_of s p ++ l) (present_some s.flight.blocks (flight_bytes (flight_figure s.flight p.passes) p.order p.passes) h)
        ∙ sym (append-nil (mosaic_of s p ++ sorting_of s p ++ flight_bytes (flight_figure s.flight p.passes) p.order p.passes))

    pub passes_read : 0 < s.flight.blocks
        → blocks_from (plan_bytes s p) (length (mosaic_of s p ++ sorting_of s p) + size_of flight_head_form) (length p.passes) ≡ p.passes
    passes_read h =
        ap (λ (l : List ℕ). blocks_from l (length (mosaic_of s p ++ sorting_of s p) + size_of flight_head_form) (length p.passes)) (flight_last h)
        ∙ flight_back (flight_figure s.flight p.passes) p.order p.passes (mosaic_of s p ++ sorting_of s p) [] (passes_fits s.flight p.passes sound.flight L.flight)

    pub order_read : 0 < s.flight.blocks → order_from (plan_bytes s p) (length (mosaic_of s p ++ sorting_of s p)) ≡ p.order
    order_read h =
        ap (λ (l : List ℕ). order_from l (length (mosaic_of s p ++ sorting_of s p))) (flight_last h)
        ∙ flight_order_back (flight_figure s.flight p.passes) p.order p.passes (mosaic_of s p ++ sorting_of s p) []
        (flight_head_fits s.flight p.passes sound.flight L.flight p.order L.order)

    -- without blocks the order number is 0
    no_order : (0 < s.flight.blocks → ⊥) → p.order ≡ 0
    no_order none = omega (arith, L.order.proper.no_higher, ap (λ (k : ℕ). 2 ^ k) zero_passes)
      where
        zero_passes : 2 * s.flight.blocks ≡ 0
        zero_passes = omega (arith, none)

  module _ (p q : Plan) (P : PlanLawful s p) (Q : PlanLawful s q) (same : plan_bytes s p ≡ plan_bytes s q) where
    same_sorting : length (sorting_of s p) ≡ length (sorting_of s q)
    same_sorting = sorting_size p P ∙ sym (sorting_size q Q)

    same_flight : length (flight_of s p) ≡ length (flight_of s q)
    same_flight = flight_size p P ∙ sym (flight_size q Q)

    same_mosaic : length (mosaic_of s p) ≡ length (mosaic_of s q)
    same_mosaic = omega (arith, plan_length_lem p P, plan_length_lem q Q, ap length same, same_sorting, same_flight)

    same_front : length (mosaic_of s p ++ sorting_of s p) ≡ length (mosaic_of s q ++ sorting_of s q)
    same_front = omega (arith, length-append (mosaic_of s p) (sorting_of s p), length-append (mosaic_of s q) (sorting_of s q), same_mosaic, same_sorting)

    batches_same : p.batches ≡ q.batches
    batches_same = go (dec_lt 0 s.mosaic.strips)
      where
        count : 0 < s.mosaic.strips → length p.batches ≡ length q.batches
        count h = omega (arith, mosaic_size p P h, mosaic_size q Q h, same_mosaic)

        go : Dec (0 < s.mosaic.strips) → p.batches ≡ q.batches
        go (yes h) = sym (batches_read p P h) ∙ ap₂ (λ (l : List ℕ) (n : ℕ). batches_from l (size_of mosaic_head_form) n) same (count h) ∙ batches_read q Q h
        go (no h) =
            both_none p.batches q.batches
            (omega (arith, h, batches_most s.mosaic p.batches sound.mosaic P.mosaic))
            (omega (arith, h, batches_most s.mosaic q.batches sound.mosaic Q.mosaic))

    jobs_same : p.jobs ≡ q.jobs
    jobs_same = go (dec_lt 0 (strips_in_all s.sorting))
      where
        count_p : length p.jobs ≡ strips_in_all s.sorting
        count_p = jobs_all s.sorting p.jobs sound.sorting P.sorting

        count_q : length q.jobs ≡ strips_in_all s.sorting
        count_q = jobs_all s.sorting q.jobs sound.sorting Q.sorting

        go : Dec (0 < strips_in_all s.sorting) → p.jobs ≡ q.jobs
        go (yes h) =
            sym (jobs_read p P h)
            ∙ ap₂ (λ (l : List ℕ) (k : ℕ). jobs_from l (k + size_of sorting_head_form) (length p.jobs)) same same_mosaic
            ∙ ap (jobs_from (plan_bytes s q) (length (mosaic_of s q) + size_of sorting_head_form)) (count_p ∙ sym count_q)
            ∙ jobs_read q Q h
        go (no h) = both_none p.jobs q.jobs (omega (arith, h, count_p)) (omega (arith, h, count_q))

    passes_same : p.passes ≡ q.passes
    passes_same = go (dec_lt 0 s.flight.blocks)
      where
        go : Dec (0 < s.flight.blocks) → p.passes ≡ q.passes
        go (yes h) =
            sym (passes_read p P h)
            ∙ ap₂ (λ (l : List ℕ) (k : ℕ). blocks_from l (k + size_of flight_head_form) (length p.passes)) same same_front
            ∙ ap (blocks_from (plan_bytes s q) (length (mosaic_of s q ++ sorting_of s q) + size_of flight_head_form)) (P.flight.every_block ∙ sym Q.flight.every_block)
            ∙ passes_read q Q h
        go (no h) = both_none p.passes q.passes (omega (arith, h, P.flight.every_block)) (omega (arith, h, Q.flight.every_block))

    order_same : p.order ≡ q.order
    order_same = go (dec_lt 0 s.flight.blocks)
      where
        go : Dec (0 < s.flight.blocks) → p.order ≡ q.order
        go (yes h) = sym (order_read p P h) ∙ ap₂ order_from same same_front ∙ order_read q Q h
        go (no h) = no_order p P h ∙ sym (no_order q Q h)

    pub plan_determined : p ≡ q
    plan_determined = λ i. record { batches = batches_same i; jobs = jobs_same i; order = order_same i; passes = passes_same i }
