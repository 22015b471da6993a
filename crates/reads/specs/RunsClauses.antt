-- What the clauses of reading functions name, and a loop's invariant. Assumes nothing.
use Rattle.std.specs.Prelude.{ℕ, ◌≡◌, List}
use Rattle.reads.specs.Reads.{Reads}
use Rattle.reads.specs.Runs.{value_of, marks_of}

-- p run over `words` gives r, and takes the marks from `before` to `after`
pub record Ran {A : Type 0} (p : Reads A) (words before : List ℕ) (r : A) (after : List ℕ) : Type 0 where
  pub result : r ≡ value_of p words
  pub marked : after ≡ marks_of p words before

-- from the marks `now`, the run of `rest` ends as the run of `whole` does from the marks `before`: the invariant of a loop
pub record Resumes {A : Type 0} (words : List ℕ) (rest : Reads A) (now : List ℕ) (whole : Reads A) (before : List ℕ) : Type 0 where
  pub values : value_of rest words ≡ value_of whole words
  pub marks : marks_of rest words now ≡ marks_of whole words before
