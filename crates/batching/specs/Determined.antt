-- The contracts determine what the functions leave and give: two tables that `fill_late` may leave are the same, and so are two answers of `first_batch`.
-- Every place of the table is width i + q with q < width, for one i and q; it is a batch's or none's.
use Rattle.std.specs.Prelude.{◌≡◌, List, ℕ, ◌+◌, ◌*◌, ◌/◌, ◌%◌, ◌≤◌, ◌<◌, get_or}
use Rattle.std.proofs.Common.{ap, ◌∙◌, sym, arith, ext_get_or}
use Rattle.std.proofs.Math.Decide.{dec_lt}
use Rattle.rules.specs.Mosaic.{no_batch}
use Rattle.rules.specs.declared.Batch.{Batch}
use Rattle.batching.specs.Chosen.{batch_of}
use Rattle.batching.specs.Tables.{width, LateFilled, First}
use Rattle.batching.specs.declared.input.Strips.{Strips}

module _ {x : Strips} {late a b : List ℕ} (A : LateFilled x late a) (B : LateFilled x late b) where
  same_batch : (k i q : ℕ) → k ≡ width * i + q → i < q → q ≤ x.count → get_or a k 0 ≡ get_or b k 0
  same_batch k i q e h l = rw e (A.all.at i q (omega arith) h l ∙ sym (B.all.at i q (omega arith) h l))

  same_none : (k i q : ℕ) → k ≡ width * i + q → q < width → (i < q → q ≤ x.count → ⊥) → get_or a k 0 ≡ get_or b k 0
  same_none k i q e w none = A.kept k apart ∙ sym (B.kept k apart)
    where
      apart : (j r : ℕ) → j < r → r ≤ x.count → k ≡ width * j + r → ⊥
      apart j r h l f =
          let z : i ≡ j = omega (arith, x.input.most_strips_holds) in
          none (omega arith) (omega arith)

  same_at : (k i q : ℕ) → k ≡ width * i + q → q < width → get_or a k 0 ≡ get_or b k 0
  same_at k i q e w = go (dec_lt i q) (dec_lt x.count q)
    where
      go : Dec (i < q) → Dec (x.count < q) → get_or a k 0 ≡ get_or b k 0
      go (no h) l = same_none k i q e w (λ g m. h g)
      go (yes h) (yes l) = same_none k i q e w (λ g m. omega arith)
      go (yes h) (no l) = same_batch k i q e h (omega arith)

  pub late_determined : a ≡ b
  late_determined = ext_get_or 0 a b (A.len ∙ sym B.len) (λ k l. same_at k (k / 41) (k % 41) (omega arith) (omega arith))

pub first_determined : {x : Strips} {free i q r least other : ℕ} → First x free i q least → First x free i r other → (q ≡ r) × (least ≡ other)
unfolding batch_of
first_determined A B = (ap (λ (bs : List Batch). (get_or bs 0 no_batch).last) (sym A.taken ∙ B.taken), A.figure ∙ sym B.figure)
