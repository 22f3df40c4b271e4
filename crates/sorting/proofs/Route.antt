-- What holds along a way through the search: the states that a list of desks reaches, for any list that serves strips that are there.
use Rattle.std.specs.Prelude.{◌≡◌, List, length, get_or}
use Rattle.std.proofs.Math.Path.{refl, ap, subst}
use Rattle.std.proofs.Common.{sym, ◌∙◌, le_refl, le_trans, length-set}
use Prim.Native.Nat.{ℕ, zero, suc, ◌+◌, ◌-◌, ◌*◌, ◌^◌, ◌/◌, ◌≤◌, ◌<◌}
use Rattle.std.proofs.Math.Nat.{div-eq_of_lt-le}
use Rattle.std.proofs.Math.Decide.{dec_lt, ℕ_discrete}
use native.Mathlib.Omega.{arith}
use Rattle.std.proofs.Math.Seq.{get_or-set_same, get_or-set_other}
use Rattle.rules.specs.declared.Job.{Job}
use Rattle.base.specs.Sums.{sum_over}
use Rattle.rules.specs.Sorting.{job_at, jobs_of}
use Rattle.rules_laws.proofs.SortingRunning.{jobs_same, jobs_other}
use Rattle.interleaving.specs.declared.State.{State}
use Rattle.interleaving.specs.Instance.{Instance, weight_of}
use Rattle.interleaving.specs.Search.{StripLeft, scanned, finish, step_of, Completes}
use Rattle.interleaving.proofs.SearchLaws.{step_left}
use Rattle.interleaving.specs.Consistent.{Consistent}
use Rattle.interleaving.proofs.Consistent.{consistent_step}
use Rattle.interleaving.proofs.Completion.{path_range}
use Rattle.sorting.specs.Plan.{reached}
use Rattle.sorting.specs.Route.{Serves}

-- what never falls from one place to the next never falls
pub rises : (f : ℕ → ℕ) (n : ℕ) → ((i : ℕ) → i < n → f i ≤ f (suc i)) → (i k : ℕ) → i ≤ k → k ≤ n → f i ≤ f k
rises f n h i zero l m = rw none (le_refl _)
  where
    none : i ≡ 0
    none = omega arith
rises f n h i (suc k) l m = go (ℕ_discrete i (suc k)) (λ q. rises f n h i k q (omega arith))
  where
    go : Dec (i ≡ suc k) → (i ≤ k → f i ≤ f k) → f i ≤ f (suc k)
    go (yes e) q = rw e (le_refl _)
    go (no e) q = le_trans (q (omega arith)) (h k (omega arith))

pub reached_same : (J : List ℕ) (s : State) (f g : ℕ → ℕ) (n : ℕ) → ((i : ℕ) → i < n → f i ≡ g i) → reached J s f n ≡ reached J s g n
unfolding reached
reached_same J s f g zero h = refl
reached_same J s f g (suc n) h =
    ap (λ (x : State). step_of J x (f n)) (reached_same J s f g n (λ i l. h i (omega arith))) ∙ ap (step_of J (reached J s g n)) (h n (omega arith))

pub reached_next : (J : List ℕ) (s : State) (f : ℕ → ℕ) (i : ℕ) → reached J s f (suc i) ≡ step_of J (reached J s f i) (f i)
unfolding reached
reached_next J s f i = refl

pub strip_there : (J : List ℕ) (s : State) → Consistent J s → (d : ℕ) → d < 3 → StripLeft J s d → 0 < s.left
strip_there J s g zero p m = omega (arith, g.left)
strip_there J s g (suc zero) p m = omega (arith, g.left)
strip_there J s g (suc (suc zero)) p m = omega (arith, g.left)
strip_there J s g (suc (suc (suc d))) p m = absurd (omega arith)

module _ (J : List ℕ) (j : Instance J) (s : State) (start : Consistent J s) (f : ℕ → ℕ) (n : ℕ) (h : Serves J s f n) where
  pub reached_consistent : (i : ℕ) → i ≤ n → Consistent J (reached J s f i)
  unfolding reached
  reached_consistent zero l = start
  reached_consistent (suc i) l = next (reached_consistent i (omega arith)) (h i (omega arith))
    where
      next : Consistent J (reached J s f i) → (f i < 3) × StripLeft J (reached J s f i) (f i) → Consistent J (step_of J (reached J s f i) (f i))
      next g w = consistent_step J j (reached J s f i) g (f i) w.0 w.1 (strip_there J (reached J s f i) g (f i) w.0 w.1)

  pub reached_more : (i : ℕ) → i < n → 0 < (reached J s f i).left
  reached_more i l = strip_there J (reached J s f i) (reached_consistent i (omega arith)) (f i) (h i l).0 (h i l).1

  pub reached_left : (i : ℕ) → i ≤ n → (reached J s f i).left + i ≡ s.left
  unfolding reached
  reached_left zero l = omega arith
  reached_left (suc i) l = omega (arith, step_left J (reached J s f i) (f i), reached_left i (omega arith), reached_more i (omega arith))

-- what is reached is completed by the rest of the list
module _ (J : List ℕ) (s : State) (f : ℕ → ℕ) (n : ℕ) (h : Serves J s f n) where
  pub reached_rest : (k i : ℕ) → i + k ≡ n → Completes J k (reached J s f i) (reached J s f n)
  unfolding Completes
  reached_rest zero i e = ap (reached J s f) (same e)
    where
      same : i + 0 ≡ n → n ≡ i
      same e = omega arith
  reached_rest (suc k) i e =
      (f i, (h i (omega arith)).0, (h i (omega arith)).1, subst (λ (x : State). Completes J k x (reached J s f n)) (reached_next J s f i) (reached_rest k (suc i) (omega arith)))

  -- so the beginning of a list is its number without the last digits
  pub path_begins : (i : ℕ) → i ≤ n → (reached J s f n).path / 4 ^ (n - i) ≡ (reached J s f i).path
  path_begins i l = go (path_range J (n - i) (reached J s f i) (reached J s f n) (reached_rest (n - i) i (omega arith)))
    where
      go : ((reached J s f i).path * 4 ^ (n - i) ≤ (reached J s f n).path) × ((reached J s f n).path < ((reached J s f i).path + 1) * 4 ^ (n - i))
          → (reached J s f n).path / 4 ^ (n - i) ≡ (reached J s f i).path
      go w = div-eq_of_lt-le (4 ^ (n - i)) w.0 w.1

-- the lists of a state keep their lengths
pub reached_lengths : (J : List ℕ) (s : State) (f : ℕ → ℕ) → length s.free ≡ 3 → length s.taken ≡ 3 → (i : ℕ)
    → (length (reached J s f i).free ≡ 3) × (length (reached J s f i).taken ≡ 3)
unfolding reached step_of
reached_lengths J s f p q zero = (p, q)
reached_lengths J s f p q (suc i) = (simp length-set (reached_lengths J s f p q i).0, simp length-set (reached_lengths J s f p q i).1)

-- a completion of any consistent state
pub completion : (J : List ℕ) → Instance J → (k : ℕ) (s : State) → Consistent J s → s.left ≡ k → (e : State) × Completes J k s e × Consistent J e
unfolding Completes
completion J j zero s g e = (s, refl, g)
completion J j (suc k) s g e =
    go (dec_lt (get_or s.taken 0 0) (get_or J 0 0)) (dec_lt (get_or s.taken 1 0) (get_or J 1 0))
    (λ d p m. completion J j k (step_of J s d) (consistent_step J j s g d p m (omega arith)) (step_left J s d ∙ less))
  where
    less : s.left - 1 ≡ k
    less = omega arith

    go : Dec (get_or s.taken 0 0 < get_or J 0 0) → Dec (get_or s.taken 1 0 < get_or J 1 0)
        → ((d : ℕ) → d < 3 → StripLeft J s d → (e : State) × Completes J k (step_of J s d) e × Consistent J e)
        → (e : State) × Completes J (suc k) s e × Consistent J e
    go (yes m) q rest = let r = rest 0 (omega arith) m in (r.0, (0, omega arith, m, r.1), r.2)
    go (no n) (yes m) rest = let r = rest 1 (omega arith) m in (r.0, (1, omega arith, m, r.1), r.2)
    go (no n) (no o) rest = let r = rest 2 (omega arith) third in (r.0, (2, omega arith, third, r.1), r.2)
      where
        third : StripLeft J s 2
        third = omega (arith, g.left)

-- one step, field by field
module _ (J : List ℕ) (s : State) (d : ℕ) where
  pub step_time : (step_of J s d).time ≡ scanned J s d
  unfolding step_of
  step_time = refl

  pub step_cost : (step_of J s d).cost ≡ s.cost + weight_of J d (get_or s.taken d 0) * finish J s d
  unfolding step_of
  step_cost = refl

  pub taken_same : d < length s.taken → get_or (step_of J s d).taken d 0 ≡ get_or s.taken d 0 + 1
  unfolding step_of
  taken_same l = get_or-set_same s.taken d (get_or s.taken d 0 + 1) 0 l

  pub taken_other : (e : ℕ) → (e ≡ d → ⊥) → get_or (step_of J s d).taken e 0 ≡ get_or s.taken e 0
  unfolding step_of
  taken_other e n = get_or-set_other s.taken d e (get_or s.taken d 0 + 1) 0 n

  pub free_same : d < length s.free → get_or (step_of J s d).free d 0 ≡ finish J s d
  unfolding step_of
  free_same l = get_or-set_same s.free d (finish J s d) 0 l

  pub free_other : (e : ℕ) → (e ≡ d → ⊥) → get_or (step_of J s d).free e 0 ≡ get_or s.free e 0
  unfolding step_of
  free_other e n = get_or-set_other s.free d e (finish J s d) 0 n

-- no job is among the first none
pub jobs_none : (js : List Job) (desk : ℕ) → jobs_of js desk 0 ≡ 0
unfolding jobs_of sum_over
jobs_none js desk = refl

-- the strips taken of a desk are its jobs so far, in a list of jobs with the same desks
pub taken_is : (J : List ℕ) (s : State) (f : ℕ → ℕ) (js : List Job) (n : ℕ) → length s.free ≡ 3 → length s.taken ≡ 3
    → ((d : ℕ) → get_or s.taken d 0 ≡ 0) → ((i : ℕ) → i < n → ((job_at js i).desk ≡ f i + 1) × (f i < 3))
    → (i : ℕ) → i ≤ n → (d : ℕ) → d < 3 → get_or (reached J s f i).taken d 0 ≡ jobs_of js (d + 1) i
unfolding reached
taken_is J s f js n a b z h zero l d p = z d ∙ sym (jobs_none js (d + 1))
taken_is J s f js n a b z h (suc i) l d p = go (h i (omega arith)) (taken_is J s f js n a b z h i (omega arith) d p) (ℕ_discrete d (f i))
  where
    go : ((job_at js i).desk ≡ f i + 1) × (f i < 3) → get_or (reached J s f i).taken d 0 ≡ jobs_of js (d + 1) i → Dec (d ≡ f i)
        → get_or (step_of J (reached J s f i) (f i)).taken d 0 ≡ jobs_of js (d + 1) (suc i)
    go w before (yes e) =
        omega (arith, subst (λ (y : ℕ). get_or (step_of J (reached J s f i) (f i)).taken y 0 ≡ get_or (reached J s f i).taken y 0 + 1) (sym e) (taken_same J (reached J s f i) (f i) (omega (arith, reached_lengths J s f a b i))), jobs_same js (d + 1) i (omega (arith, w.0)))
    go w before (no e) = omega (arith, taken_other J (reached J s f i) (f i) d e, jobs_other js (d + 1) i (λ q. e (omega (arith, w.0))))
