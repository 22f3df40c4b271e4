-- The last strip of the first batch taken: the candidate that is below all later ones, as the recursion closes the open batch only if that is better.
use mathlib.Core.Path.{◌≡◌, refl, ap, ◌∙◌}
use mathlib.Core.List.{List, ◌∷◌}
use Prim.Native.Nat.{ℕ, ◌+◌, ◌-◌, ◌≤◌, ◌<◌}
use native.Mathlib.Omega.{arith}
use lib.ListN.{get_or}
use Rattle.batching.specs.Least.{bench_start, finish_of}
use Rattle.batching.specs.Chosen.{batch_of}
use Rattle.batching.specs.Index.{closed_at, chosen_at, chosen_open_at}
use Rattle.batching.specs.Tables.{instance_in, ChooseBatchPre, First}
use Rattle.batching.specs.Recursion.{chosen_opens, chosen_last, chosen_close, chosen_extend}
use Rattle.batching.proofs.CandidateLaws.{LeastSoFar, least_start, least_less, least_more, least_end_is}
use Rattle.batching.specs.declared.input.Strips.{Strips}

-- of the candidates from n down to q, `taken` is the one that the recursion takes
pub record TakenSoFar (x : Strips) (free i q taken least : ℕ) : Type 0 where
  pub so_far : LeastSoFar x free i q least
  pub first : i < taken
  pub last : taken ≤ x.count
  pub figure : least ≡ closed_at (instance_in x) (bench_start x.mount free (get_or x.ready.now (taken - 1) 0)) i taken
  pub batches : chosen_open_at (instance_in x) i q free
      ≡ batch_of (instance_in x) free i taken ∷ chosen_at (instance_in x) taken (finish_of (instance_in x) free i taken)

module _ {x : Strips} {late row : List ℕ} {free i : ℕ} (P : ChooseBatchPre x late row free i) where
  pub taken_start : {figure : ℕ} → figure ≡ closed_at (instance_in x) (bench_start x.mount free (get_or x.ready.now (x.count - 1) 0)) i x.count
      → TakenSoFar x free i x.count x.count figure
  taken_start e = record {
    so_far = least_start P e;
    first = P.inside;
    last = omega arith;
    figure = e;
    batches = chosen_last (instance_in x) i x.count free refl;
  }

  module _ {q taken least : ℕ} (M : TakenSoFar x free i q taken least) (h : i + 1 < q)
      {figure : ℕ} (e : figure ≡ closed_at (instance_in x) (bench_start x.mount free (get_or x.ready.now (q - 1 - 1) 0)) i (q - 1)) where
    next : q - 1 + 1 ≡ q
    next = omega arith

    below : q - 1 < x.count
    below = omega (arith, M.so_far.to)

    pub taken_less : figure < least → TakenSoFar x free i (q - 1) (q - 1) figure
    taken_less l = record {
      so_far = least_less P M.so_far h e l;
      first = omega arith;
      last = omega (arith, below);
      figure = e;
      batches = chosen_close (instance_in x) i (q - 1) free below (rw (next, ← M.so_far.least_is, ← e) l);
    }

    pub taken_more : least ≤ figure → TakenSoFar x free i (q - 1) taken least
    taken_more l = record {
      so_far = least_more P M.so_far h e l;
      first = M.first;
      last = M.last;
      figure = M.figure;
      batches = chosen_extend (instance_in x) i (q - 1) free below (rw (next, ← M.so_far.least_is, ← e) l)
          ∙ ap (λ (k : ℕ). chosen_open_at (instance_in x) i k free) next ∙ M.batches;
    }

  pub taken_end : {q last least : ℕ} → TakenSoFar x free i q last least → q ≤ i + 1 → First x free i last least
  taken_end {q} M k =
      let z : i + 1 ≡ q = omega (arith, M.so_far.from) in record {
        first = M.first;
        last = M.last;
        taken = chosen_opens (instance_in x) i free P.inside ∙ ap (λ (p : ℕ). chosen_open_at (instance_in x) i p free) z ∙ M.batches;
        figure = least_end_is P M.so_far k;
        closed = M.figure;
      }
