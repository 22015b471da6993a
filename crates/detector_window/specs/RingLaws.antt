-- What holds of the runs of a ring: one pixel more in the present run, and the next run begun. Assumes nothing.
use Rattle.std.proofs.Common.{ℕ, zero, suc, ◌+◌, ◌-◌, ◌%◌, ◌≤◌, ◌<◌, min, arith, not, cond, ◌≢◌, ◌≡◌, refl, List, ◌∷◌, eqb, length, get_or, set, replicate, sym, ap, ap₂, ◌∙◌, le-leb, ne_eqb, length-set, ext_get_or, get_or-set_same, get_or-set_other}
use Rattle.std.proofs.Math.Decide.{dec_lt, ℕ_discrete}
use Rattle.std.proofs.lemmas.Bool.{lt-leb}
use Rattle.detector_widths.specs.Buckets.{bump}
use Rattle.detector_window.specs.Window.{without_first}
use Rattle.detector_window.specs.Ring.{tab, edge, count, buckets_of, colour, started}

-- ---- tables

pub length_tab : (f : ℕ → ℕ) (i n : ℕ) → length (tab f i n) ≡ n
length_tab f i zero = refl
length_tab f i (suc n) = ap suc (length_tab f (suc i) n)

get_or_tab : (f : ℕ → ℕ) (i n j : ℕ) → j < n → get_or (tab f i n) j 0 ≡ f (i + j)
get_or_tab f i zero j h = absurd (omega arith)
get_or_tab f i (suc n) zero h = ap f (omega arith)
get_or_tab f i (suc n) (suc j) h =
    let next : suc i + j ≡ i + suc j = omega arith in
    get_or_tab f (suc i) n j (omega arith) ∙ ap f next

pub at_tab : (f : ℕ → ℕ) (n j : ℕ) → j < n → get_or (tab f 0 n) j 0 ≡ f j
at_tab f n j h =
    let start : 0 + j ≡ j = omega arith in
    get_or_tab f 0 n j h ∙ ap f start

-- one value replaced
set_tab : (f g : ℕ → ℕ) (n at v : ℕ) → at < n → v ≡ g at → ((i : ℕ) → i < n → i ≢ at → f i ≡ g i) → set (tab f 0 n) at v ≡ tab g 0 n
set_tab f g n at v low new same =
    ext_get_or 0 (set (tab f 0 n) at v) (tab g 0 n) (length-set (tab f 0 n) at v ∙ length_tab f 0 n ∙ sym (length_tab g 0 n))
    (λ i h. each i (rw (length-set, length_tab) at h) (ℕ_discrete i at))
  where
    each : (i : ℕ) → i < n → Dec (i ≡ at) → get_or (set (tab f 0 n) at v) i 0 ≡ get_or (tab g 0 n) i 0
    each i h (yes e) =
        let long : at < length (tab f 0 n) = rw length_tab low in
        ap (λ (j : ℕ). get_or (set (tab f 0 n) at v) j 0) e ∙ get_or-set_same (tab f 0 n) at v 0 long ∙ new ∙ ap g (sym e) ∙ sym (at_tab g n i h)
    each i h (no other) = get_or-set_other (tab f 0 n) at i v 0 other ∙ at_tab f n i h ∙ same i h other ∙ sym (at_tab g n i h)

-- ---- one run

pub colour_next : (k : ℕ) → colour (k + 1) ≡ not (colour k)
colour_next k = go (k % 2) refl (omega arith)
  where
    go : (d : ℕ) → k % 2 ≡ d → d < 2 → colour (k + 1) ≡ not (eqb d 0)
    go zero e h =
        let odd : (k + 1) % 2 ≡ 1 = omega arith in
        rw odd
    go (suc zero) e h =
        let even : (k + 1) % 2 ≡ 0 = omega arith in
        rw even
    go (suc (suc d)) e h = absurd (omega arith)

edge_old : (ring : List ℕ) (k column j : ℕ) → j ≤ k → edge ring k column j ≡ get_or ring (j % 16) 0
unfolding edge
edge_old ring k column j h = rw (le-leb j k h)

edge_new : (ring : List ℕ) (k column j : ℕ) → k < j → edge ring k column j ≡ column
unfolding edge
edge_new ring k column j h = rw (lt-leb j k h)

module _ (ring : List ℕ) (k column i : ℕ) where
  pub count_old : i < min k 10 → count ring k column i ≡ get_or ring ((k - 10 + i + 1) % 16) 0 - get_or ring ((k - 10 + i) % 16) 0
  unfolding count
  count_old h = rw (edge_old ring k column (k - 10 + i + 1) (omega arith), edge_old ring k column (k - 10 + i) (omega arith))

  pub count_now : i ≡ min k 10 → count ring k column i ≡ column - get_or ring (k % 16) 0
  unfolding count
  count_now e =
      let here : k - 10 + i ≡ k = omega arith in
      rw (here, edge_new ring k column (k + 1) (omega arith), edge_old ring k column k (omega arith))

  count_none : min k 10 < i → count ring k column i ≡ 0
  unfolding count
  count_none h =
      rw (edge_new ring k column (k - 10 + i + 1) (omega arith), edge_new ring k column (k - 10 + i) (omega arith)) (omega arith)

tab_same : (f g : ℕ → ℕ) (i n : ℕ) → ((j : ℕ) → f j ≡ g j) → tab f i n ≡ tab g i n
tab_same f g i zero h = refl
tab_same f g i (suc n) h = ap₂ (λ (x : ℕ) (l : List ℕ). x ∷ l) (h i) (tab_same f g (suc i) n h)

-- before the first pixel
pub none_counted : (ring : List ℕ) (from : ℕ) → get_or ring 0 0 ≡ from → buckets_of ring 0 from ≡ replicate 11 0
none_counted ring from start = tab_same (count ring 0 from) (λ i. 0) 0 11 empty
  where
    empty : (i : ℕ) → count ring 0 from i ≡ 0
    empty zero = count_now ring 0 from 0 refl ∙ omega (arith, start)
    empty (suc i) = count_none ring 0 from (suc i) (omega arith)

-- one pixel more in the present run
pub bump_run : (ring : List ℕ) (k column : ℕ) → get_or ring (k % 16) 0 ≤ column → bump (buckets_of ring k column) (min k 10) ≡ buckets_of ring k (column + 1)
unfolding bump
bump_run ring k column low =
    set_tab (count ring k column) (count ring k (column + 1)) 11 (min k 10) _ (omega arith) more (λ i h other. rest i other (dec_lt i (min k 10)))
  where
    more : get_or (buckets_of ring k column) (min k 10) 0 + 1 ≡ count ring k (column + 1) (min k 10)
    more =
        let old : get_or (buckets_of ring k column) (min k 10) 0 ≡ column - get_or ring (k % 16) 0 =
        at_tab (count ring k column) 11 (min k 10) (omega arith) ∙ count_now ring k column (min k 10) refl in
        ap (λ (x : ℕ). x + 1) old ∙ omega arith ∙ sym (count_now ring k (column + 1) (min k 10) refl)

    rest : (i : ℕ) → i ≢ min k 10 → Dec (i < min k 10) → count ring k column i ≡ count ring k (column + 1) i
    rest i other (yes h) = count_old ring k column i h ∙ sym (count_old ring k (column + 1) i h)
    rest i other (no h) = count_none ring k column i (omega arith) ∙ sym (count_none ring k (column + 1) i (omega arith))

-- ---- the next run starts at column e

module _ (ring : List ℕ) (k e : ℕ) (size : length ring ≡ 16) where
  started_new : get_or (started ring k e) ((k + 1) % 16) 0 ≡ e
  started_new = get_or-set_same ring ((k + 1) % 16) e 0 (omega arith)

  started_old : (j : ℕ) → j ≤ k → k ≤ j + 14 → get_or (started ring k e) (j % 16) 0 ≡ get_or ring (j % 16) 0
  started_old j low near = get_or-set_other ring ((k + 1) % 16) (j % 16) e 0 (λ same. omega arith)

  -- the runs that are over
  over : (i j : ℕ) → j < min k 10 → k - 10 + j ≡ k + 1 - 10 + i → i < min (k + 1) 10 → count ring k e j ≡ count (started ring k e) (k + 1) (e + 1) i
  over i j h same low =
      let next : k - 10 + j + 1 ≡ k + 1 - 10 + i + 1 = omega arith in
      count_old ring k e j h
      ∙ ap₂ (λ (x y : ℕ). get_or ring (x % 16) 0 - get_or ring (y % 16) 0) next same
      ∙ ap₂ (λ (x y : ℕ). x - y) (sym (started_old (k + 1 - 10 + i + 1) (omega arith) (omega arith)))
      (sym (started_old (k + 1 - 10 + i) (omega arith) (omega arith)))
      ∙ sym (count_old (started ring k e) (k + 1) (e + 1) i low)

  -- the one that ends here
  ends : (i : ℕ) → k + 1 - 10 + i ≡ k → i < min (k + 1) 10 → count ring k e (min k 10) ≡ count (started ring k e) (k + 1) (e + 1) i
  ends i here low =
      count_now ring k e (min k 10) refl
      ∙ ap₂ (λ (x y : ℕ). x - y) (sym started_new) (sym (started_old k (omega arith) (omega arith)))
      ∙ ap (λ (x : ℕ). get_or (started ring k e) ((x + 1) % 16) 0 - get_or (started ring k e) (x % 16) 0) (sym here)
      ∙ sym (count_old (started ring k e) (k + 1) (e + 1) i low)

  -- the one that starts here has one pixel
  one : 1 ≡ count (started ring k e) (k + 1) (e + 1) (min (k + 1) 10)
  one = sym (count_now (started ring k e) (k + 1) (e + 1) (min (k + 1) 10) refl ∙ ap (λ (x : ℕ). e + 1 - x) started_new ∙ omega arith)

  -- among the first eleven runs
  pub early : k < 10 → bump (buckets_of ring k e) (min k 10 + 1) ≡ buckets_of (started ring k e) (k + 1) (e + 1)
  unfolding bump
  early h =
      set_tab (count ring k e) (count (started ring k e) (k + 1) (e + 1)) 11 (min k 10 + 1) _ (omega arith) new
      (λ i low other. rest i low other (dec_lt i k) (ℕ_discrete i k))
    where
      at : min k 10 + 1 ≡ min (k + 1) 10
      at = omega arith

      new : get_or (buckets_of ring k e) (min k 10 + 1) 0 + 1 ≡ count (started ring k e) (k + 1) (e + 1) (min k 10 + 1)
      new =
          ap (λ (x : ℕ). x + 1) (at_tab (count ring k e) 11 (min k 10 + 1) (omega arith) ∙ count_none ring k e (min k 10 + 1) (omega arith))
          ∙ one ∙ ap (count (started ring k e) (k + 1) (e + 1)) (sym at)

      rest : (i : ℕ) → i < 11 → i ≢ min k 10 + 1 → Dec (i < k) → Dec (i ≡ k) → count ring k e i ≡ count (started ring k e) (k + 1) (e + 1) i
      rest i low other (yes before) is = over i i (omega arith) (omega arith) (omega arith)
      rest i low other (no after) (yes here) =
          let last : i ≡ min k 10 = omega arith in
          ap (count ring k e) last ∙ ends i (omega arith) (omega arith)
      rest i low other (no after) (no apart) = count_none ring k e i (omega arith) ∙ sym (count_none (started ring k e) (k + 1) (e + 1) i (omega arith))

  -- the first count dropped
  abbrev behind : (ℕ → ℕ) → ℕ → ℕ
  behind f i = cond (eqb i 10) 0 (f (i + 1))

  pub late : 10 ≤ k → without_first (buckets_of ring k e) ≡ buckets_of (started ring k e) (k + 1) (e + 1)
  late h = set_tab (behind (count ring k e)) (count (started ring k e) (k + 1) (e + 1)) 11 10 1 (omega arith) new (λ i low other. rest i low other (dec_lt i 9))
    where
      at : min (k + 1) 10 ≡ 10
      at = omega arith

      new : 1 ≡ count (started ring k e) (k + 1) (e + 1) 10
      new = one ∙ ap (count (started ring k e) (k + 1) (e + 1)) at

      rest : (i : ℕ) → i < 11 → i ≢ 10 → Dec (i < 9) → behind (count ring k e) i ≡ count (started ring k e) (k + 1) (e + 1) i
      rest i low other (yes before) = rw (ne_eqb i 10 other) (over i (i + 1) (omega arith) (omega arith) (omega arith))
      rest i low other (no after) =
          let last : i + 1 ≡ min k 10 = omega arith in
          rw (ne_eqb i 10 other, last) (ends i (omega arith) (omega arith))
