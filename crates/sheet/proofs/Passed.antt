-- A field that passes every row: what the rows' causes shut out, stated of the field.
use Prim.{tt}
use Rattle.std.specs.Prelude.{ℕ, ◌+◌, ◌≤◌, ◌<◌, ◌≡◌, refl, Bool, true, false, List, [], ◌∷◌, ◌++◌}
use Rattle.std.proofs.Common.{subst, arith}
use Rattle.std.proofs.Math.Decide.{dec_lt}
use Rattle.field.specs.Field.{field_at}
use Rattle.field.specs.declared.Field.TheVariants.{Whole}
use Rattle.order.specs.Order.{Proper, is_proper}
use Rattle.order.specs.Decided.{proper_true, proper_decided}
use Rattle.sheet.specs.FieldTable.{table_of, lengths_due, Value, field_values, Within, InRange}
use Rattle.sheet.specs.Among.{Among, among_else}
use Rattle.sheet.specs.Rows.{row_at, NoCause}
use Rattle.sheet.proofs.RowLaws.{answer_passes}
use Rattle.sheet.specs.Causes.{Permitted, CountOutOfRange, TimeTooLarge, TimeOfZero, FirstOut, field_rows}
use Rattle.sheet.specs.Checks.{permitted, range_number}
use Rattle.sheet.specs.Read.{field_number}
use Rattle.sheet.specs.Ranges.{RangeDecided}
use Rattle.sheet.proofs.Ranges.{range_decided}
use Rattle.sheet.proofs.Decided.{true_permitted, false_permitted, field_answers}
use Rattle.sheet.specs.declared.Reading.{Reading}
use Rattle.sheet.specs.Passed.{Passed}

-- values of which none is the first out of its range
pub in_range : (values : List Value) → (FirstOut CountOutOfRange values → ⊥) → (FirstOut TimeTooLarge values → ⊥) → (FirstOut TimeOfZero values → ⊥)
    → InRange values
in_range values n₁ n₂ n₃ = go (range_decided values)
  where
    go : RangeDecided (range_number values) values → InRange values
    go (RangeDecided.count_out e c) = absurd (n₁ c)
    go (RangeDecided.too_large e c) = absurd (n₂ c)
    go (RangeDecided.of_zero e c) = absurd (n₃ c)
    go (RangeDecided.within e r) = r

proper_else : (n x : ℕ) → ((Proper n x → ⊥) → ⊥) → Proper n x
proper_else n x h = go (is_proper n x) refl
  where
    go : (b : Bool) → is_proper n x ≡ b → Proper n x
    go true e = proper_true n x e
    go false e = absurd (h ((proper_decided n x).fails e))

at_most_else : (a b : ℕ) → (b < a → ⊥) → a ≤ b
at_most_else a b h = go (dec_lt b a)
  where
    go : Dec (b < a) → a ≤ b
    go (yes l) = absurd (h l)
    go (no l) = omega arith

pub permitted_else : (tag section members : ℕ) → ((Permitted tag section members → ⊥) → ⊥) → Permitted tag section members
permitted_else tag section members h = go (permitted tag section members) refl
  where
    go : (b : Bool) → permitted tag section members ≡ b → Permitted tag section members
    go true e = true_permitted tag section members e
    go false e = absurd (h (false_permitted tag section members e))

pub passed_rows : (s : List ℕ) (st : Reading) (tag len : ℕ) → NoCause (field_rows s st tag len) → Passed s st tag len
unfolding NoCause field_rows row_at
passed_rows s st tag len p =
    record {
      tag_ok = permitted_else tag st.section st.members (p 3);
      length_ok = among_else len _ (p 4);
      range_ok = in_range _ (p 5) (p 6) (p 7);
      window_ok = λ e. at_most_else _ _ (λ n. p 8 (record { is_window = e; below = n }));
      room_ok = p 9;
      order_ok = λ e. proper_else _ _ (λ n. p 10 (record { is_order = e; improper = n }));
    }

pub passes : (s : List ℕ) (st : Reading) (tag len : ℕ) → field_at s st.at ≡ Whole tag len → field_number s st tag len ≡ 0 → Passed s st tag len
passes s st tag len e z = passed_rows s st tag len (answer_passes _ _ _ (field_answers s st tag len e) z)

-- a field that passes its checks has the values of its tag's content, each within its range
pub within_by : {s : List ℕ} {st : Reading} {tag len : ℕ} {values : List Value} → Passed s st tag len
    → (Among len (lengths_due tag (table_of st)) → field_values s (st.at + 3) tag len (table_of st) ≡ values) → InRange values
within_by p values_are = subst InRange (values_are p.length_ok) p.range_ok

-- the first value of a field, and the others
pub first_within : (v : Value) (values : List Value) → InRange (v ∷ values) → Within v
unfolding InRange
first_within v values p = p.0

pub others_within : (v : Value) (values : List Value) → InRange (v ∷ values) → InRange values
unfolding InRange
others_within v values p = p.1

-- the values before others, and those behind them
pub before_within : (values more : List Value) → InRange (values ++ more) → InRange values
unfolding InRange
before_within [] more p = tt
before_within (v ∷ values) more p = (p.0, before_within values more p.1)

pub behind_within : (values more : List Value) → InRange (values ++ more) → InRange more
unfolding InRange
behind_within [] more p = p
behind_within (v ∷ values) more p = behind_within values more p.1
