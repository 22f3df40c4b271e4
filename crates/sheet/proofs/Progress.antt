-- The reader's loop: wherever it stands, what is left to read gives the sheet's answer.
use Rattle.std.specs.Prelude.{ℕ, suc, ◌+◌, ◌-◌, ◌≤◌, ◌<◌, ◌≡◌, List, length}
use Rattle.std.proofs.Math.Path.{refl}
use Rattle.std.proofs.Common.{sym, ap, ◌∙◌, arith}
use borrow.Author.Tests.{eq-eqb, ne_eqb}
use Rattle.field.specs.Field.{field_at}
use Rattle.field.specs.Fields.{whole_at}
use Rattle.field.specs.declared.Field.{Field}
use Rattle.field.specs.declared.Field.TheVariants.{End, Cut, Whole}
use Rattle.sheet.specs.Refusals.{field_cut}
use Rattle.sheet.specs.Decode.{next_reading, start_reading}
use Rattle.sheet.specs.Read.{field_number, end_number, place_of, refused, at_end, read_from, read_sheet}
use Rattle.sheet.proofs.Passed.{passes}
use Rattle.sheet.proofs.Invariant.{kept_start, kept_next}
use Rattle.sheet.specs.declared.Reading.{Reading}
use Rattle.sheet.specs.declared.Sheet.{Sheet}
use Rattle.sheet.specs.Progress.{Progress}

-- one step, by what stands there
module _ (steps : ℕ) (s : List ℕ) (st : Reading) where
  pub step_end : field_at s st.at ≡ End → read_from (suc steps) s st ≡ at_end st (end_number st.section st.members)
  unfolding read_from
  step_end e = rw (e, read_from)

  pub step_cut : field_at s st.at ≡ Cut → read_from (suc steps) s st ≡ refused field_cut st.at
  unfolding read_from
  step_cut e = rw (e, read_from)

  pub step_next : (tag len : ℕ) → field_at s st.at ≡ Whole tag len → field_number s st tag len ≡ 0
      → read_from (suc steps) s st ≡ read_from steps s (next_reading s st tag len)
  unfolding read_from
  step_next tag len e h = rw (e, read_from, eq-eqb _ _ h)

  pub step_refused : (tag len : ℕ) → field_at s st.at ≡ Whole tag len → (field_number s st tag len ≡ 0 → ⊥)
      → read_from (suc steps) s st ≡ refused (field_number s st tag len) (place_of (field_number s st tag len) st.head st.at)
  unfolding read_from
  step_refused tag len e h = rw (e, read_from, ne_eqb _ _ h)

pub progress_start : (s : List ℕ) (st : Reading) → st ≡ start_reading → Progress s st
unfolding read_sheet start_reading
progress_start s st e = rw e (record { kept = kept_start s; steps = length s + 1; enough = omega arith; same = refl })

module _ (s : List ℕ) (st : Reading) (p : Progress s st) where
  more : p.steps ≡ suc (p.steps - 1)
  more = let h = p.enough in omega arith

  opened : read_from (suc (p.steps - 1)) s st ≡ read_sheet s
  opened = ap (λ n. read_from n s st) (sym more) ∙ p.same

  module _ (f : Field) (ef : f ≡ field_at s st.at) where
    pub progress_end : (r : Sheet) → f ≡ End → r ≡ at_end st (end_number st.section st.members) → r ≡ read_sheet s
    progress_end r e h = h ∙ sym (step_end (p.steps - 1) s st (sym ef ∙ e)) ∙ opened

    pub progress_cut : (r : Sheet) → f ≡ Cut → r ≡ refused field_cut st.at → r ≡ read_sheet s
    progress_cut r e h = h ∙ sym (step_cut (p.steps - 1) s st (sym ef ∙ e)) ∙ opened

    module _ (tag len : ℕ) (e : f ≡ Whole tag len) where
      within : st.at + 3 + len ≤ length s
      within = (whole_at s st.at tag len (sym ef ∙ e)).within

      pub progress_refused : (number place : ℕ) (r : Sheet) → number ≡ field_number s st tag len → (number ≡ 0 → ⊥)
          → place ≡ place_of number st.head st.at → r ≡ refused number place → r ≡ read_sheet s
      progress_refused number place r en hn ep h =
          h
          ∙ ap (refused number) ep
          ∙ ap (λ n. refused n (place_of n st.head st.at)) en
          ∙ sym (step_refused (p.steps - 1) s st tag len (sym ef ∙ e) (λ z. hn (en ∙ z)))
          ∙ opened

      ahead : (next_reading s st tag len).at ≡ st.at + 3 + len
      unfolding next_reading
      ahead = refl

      pub progress_next : (number : ℕ) (next : Reading) → number ≡ field_number s st tag len → number ≡ 0 → next ≡ next_reading s st tag len → Progress s next
      progress_next number next en hn h =
          let w = within in
          let q = p.enough in
          rw h
          (record {
            kept = kept_next s st tag len p.kept w (passes s st tag len (sym ef ∙ e) (sym en ∙ hn));
            steps = p.steps - 1;
            enough = omega (arith, ahead);
            same = sym (step_next (p.steps - 1) s st tag len (sym ef ∙ e) (sym en ∙ hn)) ∙ opened;
          })

      pub progress_less : (next : Reading) → next ≡ next_reading s st tag len → length s - next.at < length s - st.at
      progress_less next h = let w = within in rw h (omega (arith, ahead))
