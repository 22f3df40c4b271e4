-- Scanner lists (rules, ScannerList.antt). Two rows of numbers agree below a length or part at a first place; of two lists at most one comes before the other;
-- two timetables with the same list have the same strip at each place.
use Rattle.std.specs.Prelude.{ℕ, zero, suc, ◌+◌, ◌<◌, ◌≡◌, refl, cond, List, [], ◌∷◌, ◌⊎◌, length, get_or, eqb}
use Rattle.std.proofs.Common.{sym, ap, ◌∙◌, inl, inr, arith, ext_get_or}
use Rattle.std.proofs.Math.Decide.{dec_lt, ℕ_discrete}
use Rattle.base.specs.SumLaws.{sum_same}
use Rattle.sheet.specs.declared.SortingSection.{SortingSection}
use Rattle.rules.specs.declared.Job.{Job}
use Rattle.rules.specs.Sorting.{job_at, jobs_of, no_job, SortingUnder}
use Rattle.rules.specs.ScannerList.{scanner_list, ComesBefore}
use Rattle.rules_laws.specs.ScannerList.{FirstParting}

-- the list has a place for each job, and there its desk
pub list_length : (js : List Job) → length (scanner_list js) ≡ length js
unfolding scanner_list
list_length [] = refl
list_length (j ∷ js) = ap suc (list_length js)

pub list_at : (js : List Job) (i : ℕ) → get_or (scanner_list js) i 0 ≡ (job_at js i).desk
unfolding scanner_list job_at no_job
list_at [] i = refl
list_at (j ∷ js) zero = refl
list_at (j ∷ js) (suc i) = list_at js i

pub same_list : (js ks : List Job) → length js ≡ length ks → ((i : ℕ) → i < length js → (job_at js i).desk ≡ (job_at ks i).desk)
    → scanner_list js ≡ scanner_list ks
same_list js ks e h =
    ext_get_or 0 (scanner_list js) (scanner_list ks) (list_length js ∙ e ∙ sym (list_length ks))
    (λ i l. list_at js i ∙ h i (omega (arith, list_length js)) ∙ sym (list_at ks i))

pub same_desks : (js ks : List Job) → scanner_list js ≡ scanner_list ks → (i : ℕ) → (job_at js i).desk ≡ (job_at ks i).desk
same_desks js ks e i = sym (list_at js i) ∙ ap (λ (l : List ℕ). get_or l i 0) e ∙ list_at ks i

pub first_parting : (f g : ℕ → ℕ) (n : ℕ) → ((i : ℕ) → i < n → f i ≡ g i) ⊎ FirstParting f g n
first_parting f g zero = inl (λ i l. absurd (omega arith))
first_parting f g (suc n) = go (first_parting f g n) (ℕ_discrete (f n) (g n))
  where
    go : ((i : ℕ) → i < n → f i ≡ g i) ⊎ FirstParting f g n → Dec (f n ≡ g n) → ((i : ℕ) → i < suc n → f i ≡ g i) ⊎ FirstParting f g (suc n)
    go (inr p) d = inr (record { place = p.place; within = omega (arith, p.within); same = p.same; other = p.other })
    go (inl h) (no d) = inr (record { place = n; within = omega arith; same = h; other = d })
    go (inl h) (yes e) = inl (λ i l. at i l (dec_lt i n))
      where
        at : (i : ℕ) → i < suc n → Dec (i < n) → f i ≡ g i
        at i l (yes m) = h i m
        at i l (no m) = ap f last ∙ e ∙ ap g (sym last)
          where
            last : i ≡ n
            last = omega arith

-- of two lists at most one comes before the other
pub before_one_way : (l m : List ℕ) → ComesBefore l m → ComesBefore m l → ⊥
before_one_way l m a b = go (dec_lt a.place b.place) (dec_lt b.place a.place)
  where
    go : Dec (a.place < b.place) → Dec (b.place < a.place) → ⊥
    go (yes p) q = absurd (omega (arith, a.lower, b.same a.place p))
    go (no p) (yes q) = absurd (omega (arith, b.lower, a.same b.place q))
    go (no p) (no q) = absurd (omega (arith, a.lower, b.lower, ap (λ (i : ℕ). get_or l i 0) same, ap (λ (i : ℕ). get_or m i 0) same))
      where
        same : a.place ≡ b.place
        same = omega arith

-- jobs of equal values are equal
pub same_job : (u v : Job) → u.desk ≡ v.desk → u.number ≡ v.number → u.scan ≡ v.scan → u.start ≡ v.start → u ≡ v
same_job u v a b c e = λ i. record { desk = a i; number = b i; scan = c i; start = e i }

-- the strips of a desk are taken in its order, so that equal lists have equal strips
pub same_numbers : {c d : ℕ} (s : SortingSection) (js ks : List Job) → SortingUnder c s js → SortingUnder d s ks → length js ≡ length ks
    → scanner_list js ≡ scanner_list ks → (i : ℕ) → i < length js → (job_at js i).number ≡ (job_at ks i).number
unfolding jobs_of
same_numbers s js ks a b e same i l =
    a.in_turn i l ∙ ap (λ (n : ℕ). n + 1) (counts ∙ ap (λ (d : ℕ). jobs_of ks d i) (same_desks js ks same i)) ∙ sym (b.in_turn i (omega arith))
  where
    counts : jobs_of js (job_at js i).desk i ≡ jobs_of ks (job_at js i).desk i
    counts =
        sum_same i _ _ (λ k m. ap (λ (d : ℕ). cond (eqb d (job_at js i).desk) 1 0) (same_desks js ks same k))
