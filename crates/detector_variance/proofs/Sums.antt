-- The sums of `calculate_circle_variance`, and how they are put together. Assumes nothing.
use Rattle.std.proofs.Common.{◌≡◌, ℕ, ◌+◌, ◌<◌, List, get_or, true, false, ◌≢◌, add-one, eq-eqb, ne_eqb, refl, ap, ◌∙◌, ap₂, Float}
use Rattle.std.specs.Float.Ieee.{of_bits, add, div}
use Rattle.std.specs.Float.{binary32}
use Rattle.rxing_result_point.specs.Points.{real}
use Rattle.detector_variance.specs.Variance.{takes, evens, odds, others, width_to, tenth_of_width, further, variance_to, expected_area, area_variance, circle_variance}
use Rattle.detector_variance.specs.VarianceClauses.{Short}

-- ---- the runs

pub run_small : {l : List ℕ} → Short l → (i : ℕ) → get_or l i 0 < 65536
run_small short i = short.small i

-- ---- one run more, taken or not

pub width_taken : (t h v : List ℕ) (i w : ℕ) → w ≡ width_to t h v i → get_or t i 0 ≡ 1 → w + (get_or h i 0 + get_or v i 0) ≡ width_to t h v (i + 1)
unfolding width_to
width_taken t h v i w e one = let yes : takes t i ≡ true = eq-eqb (get_or t i 0) 1 one in rw (add-one, yes, e) refl

pub width_left : (t h v : List ℕ) (i w : ℕ) → w ≡ width_to t h v i → get_or t i 0 ≢ 1 → w ≡ width_to t h v (i + 1)
unfolding width_to
width_left t h v i w e other = let no : takes t i ≡ false = ne_eqb (get_or t i 0) 1 other in rw (add-one, no, e) refl

pub variance_taken : (t h : List ℕ) (expected d : Float) (i : ℕ) → d ≡ variance_to t h expected i → get_or t i 0 ≡ 1
    → further expected d (get_or h i 0) ≡ variance_to t h expected (i + 1)
unfolding variance_to
variance_taken t h expected d i e one = let yes : takes t i ≡ true = eq-eqb (get_or t i 0) 1 one in rw (add-one, yes, e) refl

pub variance_left : (t h : List ℕ) (expected d : Float) (i : ℕ) → d ≡ variance_to t h expected i → get_or t i 0 ≢ 1 → d ≡ variance_to t h expected (i + 1)
unfolding variance_to
variance_left t h expected d i e other = let no : takes t i ≡ false = ne_eqb (get_or t i 0) 1 other in rw (add-one, no, e) refl

-- ---- `calculate_circle_variance`

pub variance_is : (h v : List ℕ) (width_even width_odd : ℕ) (real_even real_odd even odd horizontal vertical circle : Float)
    → width_even ≡ width_to evens h v 11 → real_even ≡ real width_even → even ≡ variance_to evens h (div binary32 real_even (of_bits binary32 0x4120_0000)) 11
    → width_odd ≡ width_to odds h v 11 → real_odd ≡ real width_odd → odd ≡ variance_to others h (div binary32 real_odd (of_bits binary32 0x4120_0000)) 11
    → horizontal ≡ expected_area (get_or v 5 0) → vertical ≡ expected_area (get_or h 5 0) → circle ≡ area_variance horizontal vertical
    → div binary32 (add binary32 (add binary32 even odd) circle) (of_bits binary32 0x4040_0000) ≡ circle_variance h v
unfolding circle_variance tenth_of_width
variance_is h v width_even width_odd real_even real_odd even odd horizontal vertical circle we re e wo ro o hs vs c =
    let tenth : Float → Float = λ x. div binary32 x (of_bits binary32 0x4120_0000) in
    ap₂ (λ (a b : Float). div binary32 (add binary32 a b) (of_bits binary32 0x4040_0000))
    (ap₂ (add binary32)
    (e ∙ ap (λ (x : Float). variance_to evens h (tenth x) 11) (re ∙ ap real we))
    (o ∙ ap (λ (x : Float). variance_to others h (tenth x) 11) (ro ∙ ap real wo)))
    (c ∙ ap₂ area_variance hs vs)
