-- Where there is no room for a run's text it is empty, and else it is the run's. Assumes nothing.
use Rattle.std.proofs.Common.{ℕ, ◌+◌, ◌*◌, ◌≤◌, ◌<◌, Bool, cond, ◌||◌, List, [], ◌≡◌, ap, ◌∙◌, lt-ltb, le-ltb, ltb, length}
use Rattle.text_run.specs.RunText.{run_text, fitting_text}

module _ (room answer found kept marked : ℕ) (records : List ℕ) where
  abbrev text : List ℕ
  text = run_text answer found kept marked records

  abbrev few : Bool
  few = ltb (length records) (40 * kept)

  pub too_short : room < 80 + 200 * kept → fitting_text room answer found kept marked records ≡ []
  unfolding fitting_text
  too_short h = ap (λ (b : Bool). cond (b || few) [] text) (lt-ltb room (80 + 200 * kept) h)

  pub too_few : 80 + 200 * kept ≤ room → length records < 40 * kept → fitting_text room answer found kept marked records ≡ []
  unfolding fitting_text
  too_few g h =
      ap (λ (b : Bool). cond (b || few) [] text) (le-ltb room (80 + 200 * kept) g)
      ∙ ap (λ (b : Bool). cond b [] text) (lt-ltb (length records) (40 * kept) h)

  pub fitting : 80 + 200 * kept ≤ room → 40 * kept ≤ length records → fitting_text room answer found kept marked records ≡ text
  unfolding fitting_text
  fitting g h =
      ap (λ (b : Bool). cond (b || few) [] text) (le-ltb room (80 + 200 * kept) g)
      ∙ ap (λ (b : Bool). cond b [] text) (le-ltb (length records) (40 * kept) h)
