-- How runs are joined: one after another, past a test, and turn by turn in a loop. `runs` is the ruleset by which a function without a loop closes.
-- Assumes nothing.
use Rattle.std.specs.Prelude.{ℕ, zero, suc, ◌+◌, ◌<◌, Bool, true, false, cond, ◌≡◌, List, length}
use Rattle.std.proofs.Common.{arith, sym, ap, ◌∙◌, subst, lt-ltb, le-ltb, le-leb}
use Rattle.std.proofs.Math.Path.{refl, subst⁻¹}
use Rattle.std.proofs.lemmas.Bool.{lt-leb}
use Rattle.reads.specs.Reads.{Reads, done, read, ◌>>=◌, value, trace}
use Rattle.reads.specs.ReadsLaws.{On, Always}
use Rattle.reads.proofs.ReadsLaws.{on_always, value_bind, trace_bind}
use Rattle.reads.specs.Bits.{bit_at, mark, mark_all, range}
use Rattle.reads.proofs.BitsLaws.{length_mark_all, mark_all_append, range_last}
use Rattle.reads.specs.Runs.{value_of, marks_of}
use Rattle.reads.specs.RunsClauses.{Ran, Resumes}

-- ---- runs in sequence

pub value_of_bind : {A B : Type 0} (p : Reads A) (k : A → Reads B) (words : List ℕ) → value_of (p >>= k) words ≡ value_of (k (value_of p words)) words
unfolding value_of
value_of_bind p k words = value_bind p k (bit_at words)

marks_of_bind : {A B : Type 0} (p : Reads A) (k : A → Reads B) (words marks : List ℕ)
    → marks_of (p >>= k) words marks ≡ marks_of (k (value_of p words)) words (marks_of p words marks)
unfolding value_of marks_of
marks_of_bind p k words marks =
    ap (mark_all marks) (trace_bind p k (bit_at words)) ∙ mark_all_append marks (trace p (bit_at words)) (trace (k (value p (bit_at words))) (bit_at words))

-- the read of one bit
pub ran_read : {words marks : List ℕ} (i : ℕ) → Ran (read i done) words marks (bit_at words i) (mark marks i)
unfolding value_of marks_of value trace mark_all
ran_read i = record { result = refl; marked = refl }

module _ {A : Type 0} {words : List ℕ} where
  -- a result, with no read
  pub ran_done : {marks : List ℕ} (a : A) → Ran (done a) words marks a marks
  unfolding value_of marks_of value trace mark_all
  ran_done a = record { result = refl; marked = refl }

  -- one run after another
  pub ran_bind : {B : Type 0} {p : Reads A} (k : A → Reads B) {m₀ m₁ m₂ : List ℕ} {a : A} {b : B}
      → Ran p words m₀ a m₁ → Ran (k a) words m₁ b m₂ → Ran (p >>= k) words m₀ b m₂
  ran_bind {B} {p} k {m₀} {m₁} {m₂} {a} {b} first second = record {
    result = second.result ∙ ap (λ (x : A). value_of (k x) words) first.result ∙ sym (value_of_bind p k words);
    marked = second.marked ∙ ap (λ (x : A). marks_of (k x) words m₁) first.result
        ∙ ap (marks_of (k (value_of p words)) words) first.marked ∙ sym (marks_of_bind p k words m₀);
  }

  -- a test, decided
  pub ran_then : {t : Bool} (p q : Reads A) {m₀ m₁ : List ℕ} {a : A} → t ≡ true → Ran p words m₀ a m₁ → Ran (cond t p q) words m₀ a m₁
  ran_then p q {m₀} {m₁} {a} e ran = subst⁻¹ (λ (b : Bool). Ran (cond b p q) words m₀ a m₁) e ran

  pub ran_else : {t : Bool} (p q : Reads A) {m₀ m₁ : List ℕ} {a : A} → t ≡ false → Ran q words m₀ a m₁ → Ran (cond t p q) words m₀ a m₁
  ran_else p q {m₀} {m₁} {a} e ran = subst⁻¹ (λ (b : Bool). Ran (cond b p q) words m₀ a m₁) e ran

  -- a result that a call gave
  pub ran_is : {marks : List ℕ} {a r : A} → r ≡ a → Ran (done a) words marks r marks
  unfolding value_of marks_of value trace mark_all
  ran_is e = record { result = e; marked = refl }

-- a test on a call's answer r, of which the call's contract says that it is t
pub answered : {r t b : Bool} → r ≡ t → r ≡ b → t ≡ b
answered e f = sym e ∙ f

-- for `search`: the return of a function with calls and tests and no loop
pub ruleset runs = (ran_bind, ran_done, ran_is, ran_then, ran_else, answered, lt-ltb, le-ltb, le-leb, lt-leb)

-- what holds of the result on the image of these words holds of a run's
pub on_ran : {A : Type 0} {P : A → Type 0} {p : Reads A} {words m₀ m₁ : List ℕ} {a : A} → On (bit_at words) P p → Ran p words m₀ a m₁ → P a
unfolding value_of
on_ran on ran = rw ran.result on.holds

-- so does what holds on every image
pub always_ran : {A : Type 0} {P : A → Type 0} {p : Reads A} {words m₀ m₁ : List ℕ} {a : A} → Always P p → Ran p words m₀ a m₁ → P a
always_ran {words = words} always ran = on_ran (on_always (bit_at words) always) ran

-- ---- a loop

module _ {A : Type 0} {words : List ℕ} {whole : Reads A} {before : List ℕ} where
  -- where a loop begins
  pub resumes_start : Resumes words whole before whole before
  resumes_start = record { values = refl; marks = refl }

  -- one step of what is left is run
  pub resumes_step : {B : Type 0} {p : Reads B} (k : B → Reads A) {m₀ m₁ : List ℕ} {b : B}
      → Ran p words m₀ b m₁ → Resumes words (p >>= k) m₀ whole before → Resumes words (k b) m₁ whole before
  resumes_step {B} {p} k {m₀} {m₁} {b} ran resumes = record {
    values = ap (λ (x : B). value_of (k x) words) ran.result ∙ sym (value_of_bind p k words) ∙ resumes.values;
    marks = ap (λ (x : B). marks_of (k x) words m₁) ran.result
        ∙ ap (marks_of (k (value_of p words)) words) ran.marked ∙ sym (marks_of_bind p k words m₀) ∙ resumes.marks;
  }

  -- a test in what is left, decided
  pub resumes_then : {t : Bool} {m : List ℕ} (p q : Reads A) → t ≡ true → Resumes words (cond t p q) m whole before → Resumes words p m whole before
  resumes_then {m = m} p q e resumes = subst (λ (b : Bool). Resumes words (cond b p q) m whole before) e resumes

  pub resumes_else : {t : Bool} {m : List ℕ} (p q : Reads A) → t ≡ false → Resumes words (cond t p q) m whole before → Resumes words q m whole before
  resumes_else {m = m} p q e resumes = subst (λ (b : Bool). Resumes words (cond b p q) m whole before) e resumes

  -- where a loop ends: whatever run ends the rest, ends the whole
  pub resumes_end : {rest : Reads A} {m₀ m₁ : List ℕ} {a : A}
      → Ran rest words m₀ a m₁ → Resumes words rest m₀ whole before → Ran whole words before a m₁
  resumes_end ran resumes = record { result = ran.result ∙ resumes.values; marked = ran.marked ∙ resumes.marks }

-- A loop over consecutive bits: its i-th turn marks the bit `base + i` and goes on with the next. Then n turns mark the n bits from `base` on.
pub resumes_through : {A : Type 0} {words before : List ℕ} {whole : Reads A} (k : ℕ → Reads A) (base n : ℕ) {marks : List ℕ}
    → ((i : ℕ) (m : List ℕ) → i < n → length m ≡ length words → Resumes words (k i) m whole before → Resumes words (k (i + 1)) (mark m (base + i)) whole before)
    → length marks ≡ length words
    → Resumes words (k 0) marks whole before → Resumes words (k n) (mark_all marks (range base n)) whole before
unfolding range mark_all
resumes_through k base zero step sized resumes = resumes
resumes_through {words = words} {before} {whole} k base (suc n) {marks} step sized resumes =
    let more : n + 1 ≡ suc n = omega arith in
    let last : mark_all marks (range base (suc n)) ≡ mark (mark_all marks (range base n)) (base + n) =
    ap (λ (j : ℕ). mark_all marks (range base j)) (sym more) ∙ range_last marks base n in
    rw (last, ← more)
    (step n (mark_all marks (range base n)) (omega arith) (length_mark_all marks (range base n) ∙ sized)
    (resumes_through k base n (λ i m h. step i m (omega arith)) sized resumes))
