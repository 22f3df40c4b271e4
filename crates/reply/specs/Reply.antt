-- What a program writes for the answer of a call: the bytes that the call has written, or the field of its refusal.
use Rattle.std.specs.Prelude.{ℕ, ◌+◌, ◌≤◌, ◌≡◌, refl, Bool, cond, take, drop, eqb}
use Rattle.std.proofs.Math.Path.{sym, ap}
use Rattle.std.proofs.Common.{◌∙◌, arith, length-drop, take-append-drop, take_at, eq-eqb, ne_eqb}
use Rattle.std.proofs.Math.Bool.{true, false}
use mathlib.Core.List.{List, []}
use Rattle.std.proofs.Math.ListN.{length, length-append}
use Rattle.std.proofs.Math.Seq.{length-take-le, drop-append_seam}
use Rattle.std.proofs.lemmas.Bool.{eqb-false}
use Rattle.io.specs.Counts.{IsPrefixLen}
use Rattle.base.specs.declared.Answer.{Answer}
use Rattle.field.specs.Put.{holding}
use Rattle.plan_format.specs.Format.{size_of, refusal_form}
use Rattle.rules.specs.Plan.{refusal_bytes}
use Rattle.plan_fields.specs.FieldLaws.{length_refusal}

-- an answer, and the bytes that its call has written
unfoldable pub reply_bytes : Answer → List ℕ → List ℕ
reply_bytes a bytes = cond (eqb a.number 0) bytes (refusal_bytes a.number a.place)

-- bytes at the start of a buffer, behind them what stood there, and how many they are
pub record Replied (bytes out after : List ℕ) (r : ℕ) : Type 0 where
  pub buffer : after ≡ holding bytes out
  pub length_is : r ≡ length bytes
  pub counts : IsPrefixLen r after

-- what `put_reply` asks for: room for the field of a refusal, and no length beyond the buffer
pub record ReplyPre (out : List ℕ) (a : Answer) : Type 0 where
  pub room : size_of refusal_form ≤ length out
  pub within : a.length ≤ length out

-- what a call leaves that writes at the start of a buffer: its answer has the length of its bytes, and where it is refused there are none
pub record CallLeaves (bytes out after : List ℕ) (a : Answer) : Type 0 where
  pub buffer : after ≡ holding bytes out
  pub length_is : a.length ≡ length bytes
  pub none : (a.number ≡ 0 → ⊥) → bytes ≡ []

-- Bytes at the start of a buffer lie within it.
module _ (bytes before after : List ℕ) (e : after ≡ holding bytes before) where
  long : length after ≡ length bytes + length (drop (length bytes) before)
  unfolding holding
  long = ap length e ∙ length-append bytes (drop (length bytes) before)

  counted : (r : ℕ) → r ≡ length bytes → IsPrefixLen r after
  counted r k = (within, sym (length-take-le r after within))
    where
      within : r ≤ length after
      within = omega (arith, long)

-- The ways out of `put_reply`.
module _ (out : List ℕ) (a : Answer) (asked : ReplyPre out a) where
  pub reply_kept : a.number ≡ 0 → Replied (reply_bytes a (take a.length out)) out out a.length
  unfolding reply_bytes holding
  reply_kept z =
      rw (eq-eqb a.number 0 z)
      (record { buffer = whole; length_is = sym size; counts = (asked.within, sym size) })
    where
      size : length (take a.length out) ≡ a.length
      size = length-take-le a.length out asked.within

      whole : out ≡ holding (take a.length out) out
      whole = rw size (sym (take-append-drop a.length out))

  pub reply_refused : (a.number ≡ 0 → ⊥) → (after : List ℕ) → after ≡ holding (refusal_bytes a.number a.place) out
      → Replied (reply_bytes a (take a.length out)) out after (size_of refusal_form)
  unfolding reply_bytes
  reply_refused h after e =
      rw (ne_eqb a.number 0 h)
      (record { buffer = e; length_is = size; counts = counted (refusal_bytes a.number a.place) out after e (size_of refusal_form) size })
    where
      size : size_of refusal_form ≡ length (refusal_bytes a.number a.place)
      size = sym (length_refusal a.number a.place)

-- A call, and `put_reply` behind it.
module _ (bytes out after : List ℕ) (a : Answer) (left : CallLeaves bytes out after a) where
  pub reply_asked : size_of refusal_form ≤ length out → ReplyPre after a
  reply_asked h =
      record {
        room = omega (arith, long bytes out after left.buffer, length-drop (length bytes) out);
        within = omega (arith, long bytes out after left.buffer, left.length_is);
      }

  taken : take a.length after ≡ bytes
  unfolding holding
  taken = rw left.buffer (take_at bytes (drop (length bytes) out) a.length (sym left.length_is))

  -- the same bytes stored once more, or others where none were written
  stored_again : (b : Bool) → eqb a.number 0 ≡ b → holding (reply_bytes a bytes) after ≡ holding (reply_bytes a bytes) out
  unfolding reply_bytes holding
  stored_again true e = rw (e, left.buffer, drop-append_seam bytes (drop (length bytes) out))
  stored_again false e = ap (holding (reply_bytes a bytes)) (left.buffer ∙ ap (λ (l : List ℕ). holding l out) (left.none (eqb-false a.number 0 e)))

  pub replied : (end : List ℕ) (r : ℕ) → Replied (reply_bytes a (take a.length after)) after end r → Replied (reply_bytes a bytes) out end r
  replied end r p =
      record {
        buffer = p.buffer ∙ ap (λ (l : List ℕ). holding l after) same ∙ stored_again (eqb a.number 0) refl;
        length_is = p.length_is ∙ ap length same;
        counts = p.counts;
      }
    where
      same : reply_bytes a (take a.length after) ≡ reply_bytes a bytes
      same = ap (reply_bytes a) taken
