-- Bytes stored from an offset on: what a writer leaves in its buffer.
-- Stores one after another are one store of the joined bytes (`put_more`; `put_front` where a byte is stored in front of the others);
-- a store from the start leaves the bytes and what stood behind them (`put_whole`).
use Rattle.std.specs.Prelude.{ℕ, suc, ◌+◌, ◌≤◌, ◌<◌, ◌≡◌, refl, List, [], ◌∷◌, ◌++◌, length, set, take, drop}
use Rattle.std.proofs.Common.{ap, ◌∙◌, add-zero, add-one, arith, length-append}
use Rattle.std.proofs.lemmas.List.Edits.{sets, sets-eq}
use Rattle.std.proofs.Math.Seq.{length-sets, take-append_seam, drop-append_seam}
use Rattle.std.proofs.lemmas.List.{set_comm}

-- d with the bytes at the offset, and all others as they were
unfoldable pub put : List ℕ → ℕ → List ℕ → List ℕ
put d at bytes = sets d at bytes

-- a buffer that begins with the bytes, and is as it was behind them
unfoldable pub holding : List ℕ → List ℕ → List ℕ
holding bytes d = bytes ++ drop (length bytes) d

pub put_none : (d : List ℕ) (at : ℕ) → d ≡ put d at []
unfolding put
put_none d at = refl

pub put_one : (d : List ℕ) (at byte : ℕ) → set d at byte ≡ put d at (byte ∷ [])
unfolding put
put_one d at byte = refl

pub length_put : (d : List ℕ) (at : ℕ) (bytes : List ℕ) → length (put d at bytes) ≡ length d
unfolding put
length_put d at bytes = length-sets d at bytes

pub put_more : (d : List ℕ) (at : ℕ) (xs ys : List ℕ) → put (put d at xs) (at + length xs) ys ≡ put d at (xs ++ ys)
unfolding put
put_more d at [] ys = ap (λ k. sets d k ys) (add-zero at)
put_more d at (x ∷ xs) ys =
    let e : at + suc (length xs) ≡ suc at + length xs = omega arith in
    ap (λ k. sets (sets (set d at x) (suc at) xs) k ys) e ∙ put_more (set d at x) (suc at) xs ys

-- a byte that stands in front of the bytes may be stored before them or after them
put_swap : (d : List ℕ) (at from byte : ℕ) (bytes : List ℕ) → at < from → set (put d from bytes) at byte ≡ put (set d at byte) from bytes
unfolding put
put_swap d at from byte [] h = refl
put_swap d at from byte (x ∷ xs) h =
    put_swap (set d from x) at (suc from) byte xs (omega arith) ∙ ap (λ l. sets l (suc from) xs) (set_comm d from at x byte (omega arith))

pub put_front : (d : List ℕ) (at byte : ℕ) (bytes : List ℕ) → set (put d (at + 1) bytes) at byte ≡ put d at (byte ∷ bytes)
unfolding put
put_front d at byte bytes = put_swap d at (at + 1) byte bytes (omega arith) ∙ ap (λ k. sets (set d at byte) k bytes) (add-one at)

pub put_whole : (d bytes : List ℕ) → length bytes ≤ length d → put d 0 bytes ≡ holding bytes d
unfolding put holding
put_whole d bytes h =
    let e : 0 + length bytes ≡ length bytes = omega arith in
    sets-eq bytes d 0 (omega arith) ∙ ap (λ k. bytes ++ drop k d) e

-- a store, and one right behind it
pub joined : (d d₁ d₂ : List ℕ) (at behind : ℕ) (xs ys : List ℕ) → d₁ ≡ put d at xs → d₂ ≡ put d₁ behind ys → behind ≡ at + length xs → d₂ ≡ put d at (xs ++ ys)
joined d d₁ d₂ at behind xs ys e₁ e₂ k =
    e₂ ∙ ap (λ (l : List ℕ). put l behind ys) e₁ ∙ ap (λ (j : ℕ). put (put d at xs) j ys) k ∙ put_more d at xs ys

-- the bytes are stored at the offset, and the answer is the offset behind them
pub record Written (before after : List ℕ) (at : ℕ) (bytes : List ℕ) (behind : ℕ) : Type 0 where
  pub buffer : after ≡ put before at bytes
  pub end : behind ≡ at + length bytes

-- what is written behind what was written
pub then_written : (d d₁ d₂ : List ℕ) (at at₁ at₂ : ℕ) (xs ys : List ℕ) → Written d d₁ at xs at₁ → Written d₁ d₂ at₁ ys at₂ → Written d d₂ at (xs ++ ys) at₂
then_written d d₁ d₂ at at₁ at₂ xs ys w₁ w₂ =
    record { buffer = joined d d₁ d₂ at at₁ xs ys w₁.buffer w₂.buffer w₁.end; end = omega (arith, w₁.end, w₂.end, length-append xs ys) }

-- the bytes that a buffer begins with, and what stands behind them
pub held : (bytes before after : List ℕ) (n : ℕ) → n ≡ length bytes → after ≡ holding bytes before → (take n after ≡ bytes) × (drop n after ≡ drop n before)
unfolding holding
held bytes before after n e h = rw (e, h) (take-append_seam bytes (drop (length bytes) before), drop-append_seam bytes (drop (length bytes) before))

pub holding_none : (d : List ℕ) → d ≡ holding [] d
unfolding holding
holding_none d = refl
