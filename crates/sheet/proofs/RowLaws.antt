-- One theorem for all rows: where each check gives its row's number exactly where the row's cause lies, the first number that is not 0 is that of the first
-- row whose cause lies there, with its place, and it is 0 exactly where no cause lies. The idea: one row after another, each judged where those before pass.
use Prim.Native.Nat.{ℕ, zero, suc, ◌<◌}
use Rattle.std.specs.Prelude.{◌≡◌, refl, Bool, true, false, List, [], ◌∷◌, ◌++◌, T, ltb, eqb}
use Rattle.std.proofs.Common.{sym, ◌∙◌, true≢false, arith, lit<, eq-eqb}
use Rattle.std.proofs.Math.Path.{ap}
use Rattle.std.proofs.Math.Decide.{dec_lt}
use Rattle.base.specs.Branch.{check, neither}
use Rattle.sheet.specs.Among.{is_among}
use Rattle.sheet.specs.Rows.{Row, row, row_at, Fails, NoCause, first_failure}
use Rattle.sheet.specs.RowLaws.{Gives, fails, passes, Answers, first, none, numbers_of, without_row}

pub passes_zero : (given number : ℕ) (cause : Type 0) → Gives given number cause → (cause → ⊥) → given ≡ 0
passes_zero given number cause (fails e c) n = absurd (n c)
passes_zero given number cause (passes e _) n = e

pub fails_number : (given number : ℕ) (cause : Type 0) → Gives given number cause → cause → given ≡ number
fails_number given number cause (fails e _) c = e
fails_number given number cause (passes _ n) c = absurd (n c)

pub gives_check : (b : Bool) (number : ℕ) (cause : Type 0) → (b ≡ false → cause) → (b ≡ true → cause → ⊥) → Gives (check b number 0) number cause
unfolding check
gives_check true number cause f p = passes refl (p refl)
gives_check false number cause f p = fails refl (f refl)

pub answers_none : (place : ℕ → ℕ) → Answers [] place (first_failure [])
unfolding first_failure NoCause row_at
answers_none place = none refl (λ k c. c)

pub first_here : (number : ℕ) (checks : List ℕ) → 0 < number → first_failure (number ∷ checks) ≡ number
unfolding first_failure
first_here zero checks h = absurd (omega arith)
first_here (suc n) checks h = refl

module _ (place : ℕ → ℕ) (number at : ℕ) (cause : Type 0) (rows : List Row) where
  fails_here : (n : ℕ) → n ≡ number → place number ≡ at → cause → Fails (row number at cause ∷ rows) n (place n)
  unfolding row_at
  fails_here n e p c = record { k = 0; number_is = e; place_is = ap place e ∙ p; cause = c; before = λ i h. absurd (omega arith) }

  fails_behind : (n p : ℕ) → (cause → ⊥) → Fails rows n p → Fails (row number at cause ∷ rows) n p
  unfolding row_at
  fails_behind n p c f = record { k = suc f.k; number_is = f.number_is; place_is = f.place_is; cause = f.cause; before = before }
    where
      before : (i : ℕ) → i < suc f.k → (row_at (row number at cause ∷ rows) i).cause → ⊥
      before zero h q = c q
      before (suc i) h q = f.before i (omega arith) q

  passes_behind : (cause → ⊥) → NoCause rows → NoCause (row number at cause ∷ rows)
  unfolding NoCause row_at
  passes_behind c f zero q = c q
  passes_behind c f (suc k) q = f k q

  -- a row more, which passes
  pub answers_behind : (answer : ℕ) → (cause → ⊥) → Answers rows place answer → Answers (row number at cause ∷ rows) place answer
  answers_behind answer c (first h f) = first h (fails_behind _ _ c f)
  answers_behind answer c (none z f) = none z (passes_behind c f)

-- a row that fails, before any others
pub answers_here : (place : ℕ → ℕ) (number at : ℕ) (cause : Type 0) (rows : List Row) (given : ℕ) → 0 < number → place number ≡ at → given ≡ number → cause
    → Answers (row number at cause ∷ rows) place given
answers_here place number at cause rows given pos ep e c = rw e (first pos (fails_here place number at cause rows number refl ep c))

-- One row, by its check.
pub answers_last : (place : ℕ → ℕ) (number at : ℕ) (cause : Type 0) (given : ℕ) → 0 < number → place number ≡ at → Gives given number cause
    → Answers (row number at cause ∷ []) place given
unfolding NoCause row_at
answers_last place number at cause given pos ep (fails e c) = answers_here place number at cause [] given pos ep e c
answers_last place number at cause given pos ep (passes e c) = none e (passes_behind place number at cause [] c (λ k q. q))

-- Rows that one check decides, of several numbers if need be, and behind them the others, which are judged where those before pass.
fails_before : (rows others : List Row) (n p k : ℕ) → n ≡ (row_at rows k).number → p ≡ (row_at rows k).place → (row_at rows k).cause
    → ((i : ℕ) → i < k → (row_at rows i).cause → ⊥) → Fails (rows ++ others) n p
unfolding row_at
fails_before [] others n p k en ep c b = absurd c
fails_before (r ∷ rows) others n p zero en ep c b =
    record { k = 0; number_is = en; place_is = ep; cause = c; before = λ i h. absurd (omega arith) }
fails_before (r ∷ rows) others n p (suc k) en ep c b =
    fails_behind (λ _. p) r.number r.place r.cause (rows ++ others) n p (b 0 (omega arith))
    (fails_before rows others n p k en ep c (λ i h. b (suc i) (omega arith)))

answers_passed : (rows others : List Row) (place : ℕ → ℕ) (answer : ℕ) → NoCause rows → Answers others place answer → Answers (rows ++ others) place answer
unfolding NoCause row_at
answers_passed [] others place answer p a = a
answers_passed (r ∷ rows) others place answer p a =
    answers_behind place r.number r.place r.cause (rows ++ others) answer (p 0) (answers_passed rows others place answer (λ k. p (suc k)) a)

pub answers_rows : (rows others : List Row) (place : ℕ → ℕ) (given : ℕ) (checks : List ℕ) → Answers rows place given
    → (NoCause rows → Answers others place (first_failure checks)) → Answers (rows ++ others) place (first_failure (given ∷ checks))
unfolding first_failure
answers_rows rows others place given checks (first h f) later =
    rw (first_here given checks h) (first h (fails_before rows others given (place given) f.k f.number_is f.place_is f.cause f.before))
answers_rows rows others place given checks (none z p) later = rw z (answers_passed rows others place (first_failure checks) p (later p))

pub answers_row : (place : ℕ → ℕ) (number at : ℕ) (cause : Type 0) (others : List Row) (given : ℕ) (checks : List ℕ) → 0 < number → place number ≡ at
    → Gives given number cause → ((cause → ⊥) → Answers others place (first_failure checks))
    → Answers (row number at cause ∷ others) place (first_failure (given ∷ checks))
unfolding NoCause row_at
answers_row place number at cause others given checks pos ep g later =
    answers_rows (row number at cause ∷ []) others place given checks (answers_last place number at cause given pos ep g) (λ p. later (p 0))

module _ (rows : List Row) (place : ℕ → ℕ) (answer : ℕ) where
  -- the answer is 0 exactly where every row passes ..
  pub answer_passes : Answers rows place answer → answer ≡ 0 → NoCause rows
  answer_passes (first h f) z = absurd (omega arith)
  answer_passes (none e p) z = p

  pub passes_answer : Answers rows place answer → NoCause rows → answer ≡ 0
  unfolding NoCause
  passes_answer (first h f) p = absurd (p f.k f.cause)
  passes_answer (none e _) p = e

  -- .. else it is the number of the first row that fails, with its place ..
  pub answer_fails : Answers rows place answer → (answer ≡ 0 → ⊥) → Fails rows answer (place answer)
  answer_fails (first h f) n = f
  answer_fails (none e p) n = absurd (n e)

  -- .. and no other.
  same_row : (n p m q : ℕ) → Fails rows n p → Fails rows m q → (n ≡ m) × (p ≡ q)
  same_row n p m q f g = go (dec_lt f.k g.k) (dec_lt g.k f.k)
    where
      go : Dec (f.k < g.k) → Dec (g.k < f.k) → (n ≡ m) × (p ≡ q)
      go (yes h) d = absurd (g.before f.k h f.cause)
      go (no h) (yes d) = absurd (f.before g.k d g.cause)
      go (no h) (no d) =
          let e : f.k ≡ g.k = omega arith in (
            f.number_is ∙ ap (λ k. (row_at rows k).number) e ∙ sym g.number_is,
            f.place_is ∙ ap (λ k. (row_at rows k).place) e ∙ sym g.place_is,
          )

  pub fails_answer : Answers rows place answer → (n p : ℕ) → Fails rows n p → (answer ≡ n) × (place answer ≡ p)
  unfolding NoCause
  fails_answer (first h f) n p g = same_row answer (place answer) n p f g
  fails_answer (none e q) n p g = absurd (q g.k g.cause)

not_among : (rows : List Row) (n k : ℕ) → is_among n (numbers_of rows) ≡ false → (row_at rows k).cause → (row_at rows k).number ≡ n → ⊥
unfolding row_at numbers_of is_among
not_among [] n k e c h = c
not_among (r ∷ rows) n zero e c h = true≢false (sym (eq-eqb _ _ h) ∙ (neither (eqb r.number n) (is_among n (numbers_of rows)) e).0)
not_among (r ∷ rows) n (suc k) e c h = not_among rows n k (neither (eqb r.number n) (is_among n (numbers_of rows)) e).1 c h

pub fails_other : (rows : List Row) (number place n : ℕ) → Fails rows number place → is_among n (numbers_of rows) ≡ false → number ≡ n → ⊥
fails_other rows number place n f e h = not_among rows n f.k e f.cause (sym f.number_is ∙ h)

row_of_number : (rows : List Row) (n k j : ℕ) → is_among n (numbers_of (without_row k rows)) ≡ false → (row_at rows j).cause → (row_at rows j).number ≡ n → j ≡ k
unfolding row_at without_row numbers_of is_among
row_of_number [] n k j e c h = absurd c
row_of_number (r ∷ rows) n zero zero e c h = refl
row_of_number (r ∷ rows) n zero (suc j) e c h = absurd (not_among rows n j e c h)
row_of_number (r ∷ rows) n (suc k) zero e c h =
    absurd (true≢false (sym (eq-eqb _ _ h) ∙ (neither (eqb r.number n) (is_among n (numbers_of (without_row k rows))) e).0))
row_of_number (r ∷ rows) n (suc k) (suc j) e c h =
    ap suc (row_of_number rows n k j (neither (eqb r.number n) (is_among n (numbers_of (without_row k rows))) e).1 c h)

pub fails_at : (rows : List Row) (number place k : ℕ) → is_among number (numbers_of (without_row k rows)) ≡ false → (f : Fails rows number place) → f.k ≡ k
fails_at rows number place k e f = row_of_number rows number k f.k e f.cause (sym f.number_is)

-- The way through checks in code: a check that gives no 0 is the answer, one that gives 0 leaves it to those behind it.
module _ (checks : List ℕ) where
  pub given_fails : (n given : ℕ) → n ≡ given → (n ≡ 0 → ⊥) → n ≡ first_failure (given ∷ checks)
  given_fails n zero e h = absurd (h e)
  given_fails n (suc given) e h = e ∙ sym (first_here (suc given) checks (omega arith))

  pub given_passes : (n given r : ℕ) → n ≡ given → n ≡ 0 → r ≡ first_failure checks → r ≡ first_failure (given ∷ checks)
  unfolding first_failure
  given_passes n given r e z h = rw (sym e ∙ z) h

  pub test_fails : (b : Bool) (number : ℕ) → T (ltb 0 number) → b ≡ false → number ≡ first_failure (check b number 0 ∷ checks)
  unfolding check
  test_fails b number t e = rw e (sym (first_here number checks (lit< {m = 0} {n = number} t)))

  pub test_passes : (b : Bool) (number r : ℕ) → b ≡ true → r ≡ first_failure checks → r ≡ first_failure (check b number 0 ∷ checks)
  unfolding check first_failure
  test_passes b number r e h = rw e h

pub given_last : (r given : ℕ) → r ≡ given → r ≡ first_failure (given ∷ [])
unfolding first_failure
given_last r zero e = e
given_last r (suc given) e = e
