-- Laws of the layout: the loop that counts a section's members, and that a section lies within the plan.
use Rattle.std.specs.Prelude.{ℕ, zero, suc, ◌+◌, ◌-◌, ◌*◌, ◌^◌, ◌≤◌, ◌<◌, ◌≡◌, refl, Bool, cond, not, List, length, ltb, eqb}
use Rattle.std.proofs.Common.{sym, ap, ◌∙◌, add-mul, one-mul, mul_comm, add-one, arith}
use Rattle.std.proofs.Math.Bool.{true, false}
use borrow.Author.Tests.{eqb-true, not-false}
use Rattle.field.specs.Field.{field_at}
use Rattle.field.specs.Fields.{whole_at}
use Rattle.field.specs.declared.Field.{Field}
use Rattle.field.specs.declared.Field.TheVariants.{End, Cut, Whole}
use Rattle.plan_format.specs.Format.{Form, content_length, size_of, mosaic_head_form, batch_form, sorting_head_form, job_form, flight_head_form, passes_form}
use Rattle.sheet.specs.Sound.{strips_in_all}
use Rattle.sheet.specs.declared.Sheet.{Sheet}
use Rattle.judge_layout.specs.Layout.{is_field, run, part_from, part_of, part_by_forms, mosaic_part, sorting_part, flight_part}
use Rattle.judge_layout.specs.declared.Part.{Part}

-- a head of a content length stands at the offset
pub record PartFromPre (plan : List ℕ) (at head_len len : ℕ) : Type 0 where
  pub within : at + (3 + head_len) ≤ length plan
  pub short : len ≤ 65535

-- a field that is the one looked for
pub is_field_true : (f : Field) (tag len : ℕ) → is_field f tag len ≡ true → f ≡ Whole tag len
unfolding is_field
is_field_true End tag len e = let z : ◌≡◌ {A = ℕ} 0 1 = cc in absurd (omega arith)
is_field_true Cut tag len e = let z : ◌≡◌ {A = ℕ} 0 1 = cc in absurd (omega arith)
is_field_true (Whole t l) tag len e = same (eqb t tag) refl e
  where
    same : (b : Bool) → eqb t tag ≡ b → cond b (eqb l len) false ≡ true → Whole t l ≡ Whole tag len
    same true p q = rw (eqb-true t tag p, eqb-true l len q)
    same false p q = let z : ◌≡◌ {A = ℕ} 0 1 = cc in absurd (omega arith)

-- a field that is the one looked for lies within the plan
pub field_within : (plan : List ℕ) (at tag len : ℕ) → is_field (field_at plan at) tag len ≡ true → at + (3 + len) ≤ length plan
field_within plan at tag len e = let w = (whole_at plan at tag len (is_field_true (field_at plan at) tag len e)).within in omega arith

-- how many fields follow

run_more : (turns : ℕ) (plan : List ℕ) (at tag len : ℕ) → is_field (field_at plan at) tag len ≡ true
    → run (suc turns) plan at tag len ≡ suc (run turns plan (at + (3 + len)) tag len)
unfolding run
run_more turns plan at tag len e = rw (e, run)

run_end : (turns : ℕ) (plan : List ℕ) (at tag len : ℕ) → is_field (field_at plan at) tag len ≡ false → run turns plan at tag len ≡ 0
unfolding run
run_end zero plan at tag len e = refl
run_end (suc turns) plan at tag len e = rw (e, run)

-- so many members have been counted, and the rest is still to be
pub record Counted (plan : List ℕ) (first tag len members end : ℕ) : Type 0 where
  pub turns : ℕ
  pub enough : turns + members ≡ length plan
  pub within : end ≤ length plan
  pub ahead : first + members * 3 ≤ end
  pub place : end ≡ first + members * (3 + len)
  pub same : run turns plan end tag len + members ≡ run (length plan) plan first tag len

times_zero : (k : ℕ) → 0 * k ≡ 0
times_zero k = mul_comm 0 k ∙ omega arith

times_more : (n k : ℕ) → (n + 1) * k ≡ n * k + k
times_more n k = add-mul n 1 k ∙ ap (λ m. n * k + m) (one-mul k)

times_suc : (n k : ℕ) → suc n * k ≡ n * k + k
times_suc n k = ap (λ m. m * k) (sym (add-one n)) ∙ times_more n k

pub counted_none : (plan : List ℕ) (at head_len tag len : ℕ) → PartFromPre plan at head_len len → Counted plan (at + (3 + head_len)) tag len 0 (at + (3 + head_len))
counted_none plan at head_len tag len a =
    let w = a.within in
    record { turns = length plan; enough = omega arith; within = a.within; ahead = omega arith; place = omega (arith, times_zero (3 + len)); same = omega arith }

module _ (plan : List ℕ) (first tag len members end : ℕ) (c : Counted plan first tag len members end) (x : Bool)
    (ex : x ≡ is_field (field_at plan end) tag len) where
  pub counted_within : x ≡ true → end + (3 + len) ≤ length plan
  counted_within h = field_within plan end tag len (sym ex ∙ h)

  pub counted_more : x ≡ true → Counted plan first tag len (members + 1) (end + (3 + len))
  counted_more h = go c.turns refl
    where
      w : end + (3 + len) ≤ length plan
      w = field_within plan end tag len (sym ex ∙ h)

      go : (t : ℕ) → c.turns ≡ t → Counted plan first tag len (members + 1) (end + (3 + len))
      go zero e = let q = c.enough in let a = c.ahead in absurd (omega (arith, w))
      go (suc t) e =
          let q = c.enough in
          let a = c.ahead in
          record {
            turns = t;
            enough = omega arith;
            within = w;
            ahead = omega arith;
            place = omega (arith, c.place, times_more members (3 + len));
            same = omega (arith, run_more t plan end tag len (sym ex ∙ h), rw e at c.same);
          }

  pub counted_all : x ≡ false → (at head_len : ℕ) → first ≡ at + (3 + head_len)
      → ◌≡◌ {A = Part} (record { right = true; head = at; members = members; end = end }) (part_from plan at head_len tag len)
  unfolding part_from
  counted_all h at head_len e = rw (← e, ← whole, ← c.place)
    where
      whole : members ≡ run (length plan) plan first tag len
      whole = omega (arith, run_end c.turns plan end tag len (sym ex ∙ h), c.same)

pub counted_less : (plan : List ℕ) (end len : ℕ) → end + (3 + len) ≤ length plan → length plan - (end + (3 + len)) < length plan - end
counted_less plan end len h = omega arith

pub part_asked : (plan : List ℕ) (at head_tag head_len len : ℕ) (x : Bool) → x ≡ is_field (field_at plan at) head_tag head_len → not x ≡ false → len ≤ 65535
    → PartFromPre plan at head_len len
part_asked plan at head_tag head_len len x ex h l = record { within = field_within plan at head_tag head_len (sym ex ∙ not-false x h); short = l }

-- the fields that follow lie within the plan
run_within : (turns : ℕ) (plan : List ℕ) (at tag len : ℕ) → at ≤ length plan → at + run turns plan at tag len * (3 + len) ≤ length plan
unfolding run
run_within zero plan at tag len h = omega (arith, times_zero (3 + len))
run_within (suc turns) plan at tag len h = go (is_field (field_at plan at) tag len) refl (λ w. run_within turns plan (at + (3 + len)) tag len w)
  where
    go : (b : Bool) → is_field (field_at plan at) tag len ≡ b
        → (at + (3 + len) ≤ length plan → at + (3 + len) + run turns plan (at + (3 + len)) tag len * (3 + len) ≤ length plan)
        → at + elim b [ true ↦ suc (run turns plan (at + (3 + len)) tag len) | false ↦ 0 ] * (3 + len) ≤ length plan
    go true e f = let q = f (field_within plan at tag len e) in omega (arith, times_suc (run turns plan (at + (3 + len)) tag len) (3 + len))
    go false e f = omega (arith, times_zero (3 + len))

-- a section of a plan lies within it, and so do its members, each of a size
pub record PartFits (plan : List ℕ) (size : ℕ) (p : Part) : Type 0 where
  pub within : p.end ≤ length plan
  pub members : p.head + size * p.members ≤ p.end

pub part_fits : (present : Bool) (plan : List ℕ) (at head_tag head_len tag len : ℕ) → at ≤ length plan
    → PartFits plan (3 + len) (part_of present plan at head_tag head_len tag len)
unfolding part_of part_from
part_fits false plan at head_tag head_len tag len h = record { within = h; members = none }
  where
    none : at + (3 + len) * 0 ≤ at
    none = omega arith
part_fits true plan at head_tag head_len tag len h = go (is_field (field_at plan at) head_tag head_len) refl
  where
    none : at + (3 + len) * 0 ≤ at
    none = omega arith

    go : (b : Bool) → is_field (field_at plan at) head_tag head_len ≡ b
        → PartFits plan (3 + len) (cond b (part_from plan at head_len tag len) (record { right = false; head = at; members = 0; end = at }))
    go true e =
        record {
          within = run_within (length plan) plan (at + (3 + head_len)) tag len (field_within plan at head_tag head_len e);
          members = omega (arith, mul_comm (3 + len) (run (length plan) plan (at + (3 + head_len)) tag len));
        }
    go false e = record { within = h; members = none }

pub record LayoutVerdictPre (s : Sheet) (plan : List ℕ) (mosaic sorting flight : Part) : Type 0 where
  pub mosaic_is : mosaic ≡ mosaic_part s plan
  pub sorting_is : sorting ≡ sorting_part s plan
  pub flight_is : flight ≡ flight_part s plan

by_forms : (present : Bool) (plan : List ℕ) (at : ℕ) (head member : Form) → at ≤ length plan
    → PartFits plan (size_of member) (part_by_forms present plan at head member)
by_forms present plan at head member h = part_fits present plan at head.tag (content_length head) member.tag (content_length member) h

pub parts_fit : (s : Sheet) (plan : List ℕ)
    → (PartFits plan (size_of batch_form) (mosaic_part s plan)) × (PartFits plan (size_of job_form) (sorting_part s plan))
    × (PartFits plan (size_of passes_form) (flight_part s plan))
unfolding mosaic_part sorting_part flight_part
parts_fit s plan =
    let p = by_forms (ltb 0 s.mosaic.strips) plan 0 mosaic_head_form batch_form (omega arith) in
    let q = by_forms (ltb 0 (strips_in_all s.sorting)) plan _ sorting_head_form job_form p.within in
    (p, q, by_forms (ltb 0 s.flight.blocks) plan _ flight_head_form passes_form q.within)

pub counted_fits : (plan : List ℕ) (end tag len : ℕ) (x : Bool) → x ≡ is_field (field_at plan end) tag len → x ≡ true → length plan < 2 ^ 64
    → end + (3 + len) < 2 ^ 64
counted_fits plan end tag len x ex h l = let w = field_within plan end tag len (sym ex ∙ h) in omega arith
