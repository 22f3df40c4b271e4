-- Members of one kind, each a field of one form: one law over the kind for what is written and read back, and for what is read and stands there.
use Rattle.std.specs.Prelude.{◌≡◌}
use Rattle.std.proofs.Common.{◌∙◌}
use mathlib.Core.List.{List, [], ◌∷◌, ◌++◌}
use Prim.Native.Nat.{ℕ, ◌+◌, ◌*◌, ◌^◌, ◌<◌}
use Rattle.std.proofs.Math.ListN.{length}
use Rattle.plan_format.specs.Format.{Form, content_length, form_bytes, values_from, EachFits}

-- what makes a kind of members: its form, its values in order and back, how it is read and written by them, and which members fit their widths
pub record Kind (A : Type 0) : Type 1 where
  pub form : Form
  pub values : A → List ℕ
  pub back : List ℕ → A
  pub read : List ℕ → ℕ → A
  pub bytes : A → List ℕ
  pub Fits : A → Type 0
  pub is_written : (x : A) → bytes x ≡ form_bytes form (values x)
  pub is_read : (s : List ℕ) (at : ℕ) → read s at ≡ back (values_from form s at)
  pub back_values : (x : A) → back (values x) ≡ x
  pub values_back : (s : List ℕ) (at : ℕ) → values (back (values_from form s at)) ≡ values_from form s at
  pub count : (x : A) → length form.widths ≡ length (values x)
  pub small : content_length form < 2 ^ 16
  pub each : (x : A) → Fits x → EachFits form.widths (values x)
