-- So many steps of a walk, from a column on: the loop that takes them, and how they are joined to the whole walk. Assumes nothing.
use Rattle.std.proofs.Common.{ℕ, zero, suc, ◌+◌, ◌-◌, ◌^◌, ◌≤◌, ◌<◌, eq-or-lt_of_le, arith, Bool, true, false, cond, true≢false, List, inl, inr, ◌≡◌, refl, sym, ap, subst, ◌∙◌, ap₂}
use Rattle.reads.specs.Reads.{Reads, done, ◌>>=◌, value}
use Rattle.reads.specs.Runs.{value_of, marks_of}
use Rattle.reads.specs.RunsClauses.{Ran, Resumes}
use Rattle.reads.proofs.RunsLaws.{ran_done, resumes_start, resumes_step, resumes_then, resumes_else, resumes_end}
use Rattle.bit_matrix.specs.declared.Shape.{Shape}
use Rattle.bit_matrix.specs.declared.BitMatrix.{BitMatrix}
use Rattle.bit_matrix.specs.ShapeClauses.{Limits, Inside}
use Rattle.bit_matrix.specs.ImageClauses.{Kept, RanOn}
use Rattle.bit_matrix.proofs.ImageLaws.{kept_on, onto}
use Rattle.sines.specs.declared.Angle.{Angle}
use Rattle.rxing_result_point.specs.declared.PointU.{PointU}
use Rattle.detector_walks.specs.Walks.{walk_point, white_point, left_from, right_from}
use Rattle.detector_walks.specs.WalksClauses.{OfDegree, steps, white_back, column, Taken, steps_remaining}
use Rattle.detector_walks.specs.StepsLaws.{steps_right}
use Rattle.detector_walks.specs.WalksLaws.{white_at, next, from_step}
use Rattle.detector_walks.proofs.Degrees.{steps_few_of, walk_stops_of}

-- ---- tests that are the same of each column take the same steps
pub same_steps : (test test' : ℕ → Reads Bool) (n x : ℕ) → ((i : ℕ) → i < n → test (x + i) ≡ test' (x + i)) → steps test n x ≡ steps test' n x
unfolding steps
same_steps test test' zero x same = refl
same_steps test test' (suc n) x same =
    let none : x + 0 ≡ x = omega arith in
    let here : test x ≡ test' x = rw none at (same 0 (omega arith)) in
    let later : (i : ℕ) → i < n → test (x + 1 + i) ≡ test' (x + 1 + i) =
    λ i h. subst (λ (y : ℕ). test y ≡ test' y) (omega arith) (same (i + 1) (omega arith)) in
    ap₂ (λ (p : Reads Bool) (q : Reads ℕ). p >>= λ (white : Bool). cond white q (done x)) here (same_steps test test' n (x + 1) later)

pub right_steps : (shape : Shape) (center : PointU) (angle : Angle) (n x : ℕ)
    → steps (λ y. white_point shape (walk_point center angle y)) n x ≡ right_from shape center angle n x
unfolding steps right_from
right_steps shape center angle zero x = refl
right_steps shape center angle (suc n) x =
    ap (λ (q : Reads ℕ). white_point shape (walk_point center angle x) >>= λ (white : Bool). cond white q (done x)) (right_steps shape center angle n (x + 1))

-- a place inside an image stays inside
pub still_inside : {before after : BitMatrix} {x y : ℕ} → Kept before after → Inside before.shape x y → Inside after.shape x y
still_inside kept inside = rw kept.shape inside

-- the loop of n steps from column x on: i of them are taken
module _ (words : List ℕ) (test : ℕ → Reads Bool) (n x : ℕ) where
  pub record Stepping (marks₀ marks : List ℕ) (i : ℕ) : Type 0 where
    pub few : i ≤ n
    pub resumes : Resumes words (steps test (n - i) (x + i)) marks (steps test n x) marks₀

  module _ {marks₀ marks : List ℕ} {i : ℕ} (stepping : Stepping marks₀ marks i) where
    module _ {white : Bool} {after : List ℕ} (more : i < n) (ran : Ran (test (x + i)) words marks white after) where
      step : Resumes words (cond white (steps test (n - (i + 1)) (x + i + 1)) (done (x + i))) after (steps test n x) marks₀
      unfolding steps
      step =
          let one : n - i ≡ suc (n - (i + 1)) = omega arith in
          resumes_step _ ran (rw one at stepping.resumes)

      pub steps_on : white ≡ true → Stepping marks₀ after (i + 1)
      steps_on e =
          let next : x + i + 1 ≡ x + (i + 1) = omega arith in
          record { few = omega arith; resumes = rw next at (resumes_then _ _ e step) }

      pub steps_stop : white ≡ false → Ran (steps test n x) words marks₀ (x + i) after
      steps_stop e = resumes_end (ran_done (x + i)) (resumes_else _ _ e step)

    pub steps_over : n ≤ i → Ran (steps test n x) words marks₀ (x + n) marks
    unfolding steps
    steps_over h =
        let all : i ≡ n = omega (arith, stepping.few) in
        let none : n - n ≡ 0 = omega arith in
        resumes_end (ran_done (x + n)) (rw none at (rw all at stepping.resumes))

-- the same, counted from 0
module _ (words : List ℕ) (test : ℕ → Reads Bool) (n : ℕ) {marks₀ marks : List ℕ} {i : ℕ} (stepping : Stepping words test n 0 marks₀ marks i) where
  module _ {white : Bool} {after : List ℕ} (more : i < n) (ran : Ran (test i) words marks white after) where
    here : Ran (test (0 + i)) words marks white after
    here =
        let same : 0 + i ≡ i = omega arith in
        rw same ran

    pub count_on : white ≡ true → Stepping words test n 0 marks₀ after (i + 1)
    count_on e = steps_on words test n 0 stepping more here e

    pub count_stop : white ≡ false → Ran (steps test n 0) words marks₀ i after
    count_stop e =
        let same : 0 + i ≡ i = omega arith in
        rw same at (steps_stop words test n 0 stepping more here e)

  pub count_over : n ≤ i → Ran (steps test n 0) words marks₀ n marks
  count_over h =
      let same : 0 + n ≡ n = omega arith in
      rw same at (steps_over words test n 0 stepping h)

-- ---- the loop of n steps from column x on, to the left or to the right, by a test of each step: i of them are taken
module _ (left : Bool) (image : BitMatrix) (test : Shape → ℕ → Reads Bool) (n x : ℕ) where
  abbrev back_test : ℕ → Reads Bool
  back_test = test image.shape

  abbrev on_test : ℕ → Reads Bool
  on_test y = test image.shape (y - x)

  pub record Going (now : BitMatrix) (i : ℕ) : Type 0 where
    pub few : i ≤ n
    pub kept : Kept image now
    pub back : left ≡ true → Stepping image.words.now back_test n 0 image.marks.now now.marks.now i
    pub on : left ≡ false → Stepping image.words.now on_test n x image.marks.now now.marks.now i

  -- where the test of a step is that of the point in its column, the steps are those of the walk
  module _ (center : PointU) (angle : Angle)
      (same : (i : ℕ) → i < n → test image.shape i ≡ white_point image.shape (walk_point center angle (column left x i))) where
    walked_back : left ≡ true → steps back_test n 0 ≡ steps (white_back image.shape center angle x) n 0
    walked_back e =
        same_steps back_test (white_back image.shape center angle x) n 0
        (λ i h. let here : 0 + i ≡ i = omega arith in rw here (rw e at same i h))

    walked_on : left ≡ false → steps on_test n x ≡ right_from image.shape center angle n x
    walked_on e =
        same_steps on_test (λ y. white_point image.shape (walk_point center angle y)) n x
        (λ i h. let here : x + i - x ≡ i = omega arith in rw here (rw e at same i h))
        ∙ right_steps image.shape center angle n x

    taken : {k : ℕ} {marks : List ℕ} → (left ≡ true → Ran (steps back_test n 0) image.words.now image.marks.now k marks)
        → (left ≡ false → Ran (steps on_test n x) image.words.now image.marks.now (x + k) marks)
        → Taken left image.shape center angle n x image.words.now image.marks.now k marks
    taken {k} {marks} back on = record {
      back = λ f. subst (λ (p : Reads ℕ). Ran p image.words.now image.marks.now k marks) (walked_back f) (back f);
      on = λ f. subst (λ (p : Reads ℕ). Ran p image.words.now image.marks.now (x + k) marks) (walked_on f) (on f);
    }

  module _ {now : BitMatrix} {i : ℕ} (going : Going now i) where
    module _ {white : Bool} {after : BitMatrix} (more : i < n) (run : RanOn (test now.shape i) now white after) where
      ran : Ran (back_test i) image.words.now now.marks.now white after.marks.now
      ran = onto (λ (shape : Shape). test shape i) going.kept run

      ran_on : Ran (on_test (x + i)) image.words.now now.marks.now white after.marks.now
      ran_on =
          let here : x + i - x ≡ i = omega arith in
          rw here ran

      pub going_on : white ≡ true → Going after (i + 1)
      going_on e = record {
        few = omega arith;
        kept = kept_on going.kept run.kept;
        back = λ f. count_on image.words.now back_test n (going.back f) more ran e;
        on = λ f. steps_on image.words.now on_test n x (going.on f) more ran_on e;
      }

      pub going_stop : {center : PointU} {angle : Angle}
          → ((i : ℕ) → i < n → test image.shape i ≡ white_point image.shape (walk_point center angle (column left x i))) → white ≡ false
          → Taken left image.shape center angle n x image.words.now image.marks.now i after.marks.now
      going_stop same e =
          taken _ _ same (λ f. count_stop image.words.now back_test n (going.back f) more ran e)
          (λ f. steps_stop image.words.now on_test n x (going.on f) more ran_on e)

    pub going_over : {center : PointU} {angle : Angle}
        → ((i : ℕ) → i < n → test image.shape i ≡ white_point image.shape (walk_point center angle (column left x i))) → n ≤ i
        → Taken left image.shape center angle n x image.words.now image.marks.now n now.marks.now
    going_over same h =
        taken _ _ same (λ f. count_over image.words.now back_test n (going.back f) h) (λ f. steps_over image.words.now on_test n x (going.on f) h)

-- ---- steps joined to the walks
module _ (words : List ℕ) (shape : Shape) (center : PointU) (angle : Angle) where
  abbrev from : ℕ → ℕ → Reads ℕ
  from = right_from shape center angle

  -- ---- the first n of n + k steps to the right: the other k follow, or the walk has ended
  pub data Joined (n k x y : ℕ) (after : List ℕ) (whole : Reads ℕ) (before : List ℕ) : Type 0 where
    follow : y ≡ x + n → Resumes words (from k y) after whole before → Joined n k x y after whole before
    ended : y < x + n → Ran whole words before y after → Joined n k x y after whole before

  -- a run of which no step is left has this result, and these marks
  none_left : {part : Reads ℕ} {before m after : List ℕ} {x y : ℕ} → Ran part words before y after → Resumes words (done x) m part before
      → (y ≡ x) × (after ≡ m)
  none_left {x = x} ran rest = let end = resumes_end (ran_done x) rest in (ran.result ∙ sym end.result, ran.marked ∙ sym end.marked)

  joined_next : (n k x : ℕ) {y : ℕ} {whole : Reads ℕ} {before after : List ℕ} → Joined n k (x + 1) y after whole before
      → Joined (suc n) k x y after whole before
  joined_next n k x (follow e rest) = follow (omega (arith, e)) rest
  joined_next n k x (ended less end) = ended (omega (arith, less)) end

  module _ (k : ℕ) {whole part : Reads ℕ} {before before' after : List ℕ} {y : ℕ} (ran : Ran part words before' y after) where
    join_step : (n x : ℕ)
        → ((m : List ℕ) → Resumes words (from n (x + 1)) m part before' → Resumes words (from (n + k) (x + 1)) m whole before
        → Joined n k (x + 1) y after whole before)
        → (b : Bool) {m m' : List ℕ} → Ran (white_point shape (walk_point center angle x)) words m b m'
        → Resumes words (from (suc n) x) m part before' → Resumes words (from (suc (n + k)) x) m whole before → Joined (suc n) k x y after whole before
    unfolding right_from
    join_step n x rest true {m' = m'} white first all =
        joined_next n k x
        (rest m' (resumes_step (next shape center angle words n x) white first) (resumes_step (next shape center angle words (n + k) x) white all))
    join_step n x rest false white first all =
        let is = none_left {x = x} ran (resumes_step (next shape center angle words n x) white first) in
        let end = resumes_end (ran_done x) (resumes_step (next shape center angle words (n + k) x) white all) in
        ended (omega (arith, is.0)) (rw (is.0, is.1) end)

    pub join : (n x : ℕ) (m : List ℕ) → Resumes words (from n x) m part before' → Resumes words (from (n + k) x) m whole before
        → Joined n k x y after whole before
    unfolding right_from
    join zero x m first all =
        let is = none_left ran first in
        let none : 0 + k ≡ k = omega arith in
        follow (omega (arith, is.0)) (rw (is.0, is.1) (rw none at all))
    join (suc n) x m first all =
        let p = white_point shape (walk_point center angle x) in
        let more : suc n + k ≡ suc (n + k) = omega arith in
        let white : Ran p words m (value_of p words) (marks_of p words m) = record { result = refl; marked = refl } in
        join_step n x (join n (x + 1)) (value_of p words) white first (rw more at all)

  -- ---- no step goes past a column whose point is not white
  module _ (limit : ℕ) (stop : white_at shape center angle words limit ≡ false) where
    within_step : (n x : ℕ) → x ≤ limit → (x + 1 ≤ limit → value_of (from n (x + 1)) words ≤ limit) → (b : Bool) → white_at shape center angle words x ≡ b
        → value_of (from (suc n) x) words ≤ limit
    unfolding value_of value
    within_step n x h later true e = elim (eq-or-lt_of_le h) [
      | inl last ↦ absurd (true≢false (sym e ∙ ap (white_at shape center angle words) last ∙ stop))
      | inr more ↦ rw (from_step shape center angle words n x e) (later (omega (arith, more)))
    ]
    within_step n x h later false e = rw (from_step shape center angle words n x e) h

    pub within : (n x : ℕ) → x ≤ limit → value_of (from n x) words ≤ limit
    unfolding right_from value_of value
    within zero x h = h
    within (suc n) x h = within_step n x h (within n (x + 1)) (white_at shape center angle words x) refl

  -- ---- steps from column x on, no further than to the column where the sine has ended the walk, with the steps left there
  abbrev limit : ℕ
  limit = center.x + steps_right shape angle

  module _ (limits : Limits shape) (inside : Inside shape center.x center.y) (of : ∥ OfDegree angle ∥₁) where
    pub kept_near : (n x : ℕ) {y : ℕ} {marks after : List ℕ} → x ≤ limit → Ran (from n x) words marks y after → y ≤ limit
    kept_near n x h ran = rw ran.result (within limit (walk_stops_of of limits center inside words) n x h)

    module _ {before marks after : List ℕ} {whole : Reads ℕ} (n x : ℕ) {y : ℕ} (h : x ≤ limit) (few : n ≤ 2 ^ 10)
        (resumes : Resumes words (from (steps_remaining center x) x) marks whole before) (ran : Ran (from n x) words marks y after) where
      joined : Joined n (steps_remaining center x - n) x y after whole before
      joined =
          let all : steps_remaining center x ≡ n + (steps_remaining center x - n) = omega (arith, steps_few_of of limits) in
          join (steps_remaining center x - n) ran n x marks resumes_start (rw all at resumes)

      pub stopped : y < x + n → Ran whole words before y after
      stopped less = go joined
        where
          go : Joined n (steps_remaining center x - n) x y after whole before → Ran whole words before y after
          go (follow e rest) = absurd (omega arith)
          go (ended l end) = end

      pub resumed : x + n ≤ y → Resumes words (from (steps_remaining center y) y) after whole before
      resumed more = go joined
        where
          go : Joined n (steps_remaining center x - n) x y after whole before → Resumes words (from (steps_remaining center y) y) after whole before
          go (ended l end) = absurd (omega arith)
          go (follow e rest) =
              let same : steps_remaining center x - n ≡ steps_remaining center y = omega arith in
              rw same at rest

  -- ---- steps of the walk to the left, from column x on: the rest follows, or the walk has ended
  pub data JoinedBack (x n i k : ℕ) (after : List ℕ) (whole : Reads ℕ) (before : List ℕ) : Type 0 where
    follow_back : k ≡ i + n → Resumes words (left_from shape center angle (x - k)) after whole before → JoinedBack x n i k after whole before
    ended_back : k < i + n → Ran whole words before (x - k) after → JoinedBack x n i k after whole before

  abbrev test : ℕ → ℕ → Reads Bool
  test = white_back shape center angle

  joined_back : (x n i : ℕ) {k : ℕ} {whole : Reads ℕ} {before after : List ℕ} → JoinedBack x n (i + 1) k after whole before
      → JoinedBack x (suc n) i k after whole before
  joined_back x n i (follow_back e rest) = follow_back (omega (arith, e)) rest
  joined_back x n i (ended_back less end) = ended_back (omega (arith, less)) end

  module _ (x : ℕ) {whole part : Reads ℕ} {before before' after : List ℕ} {k : ℕ} (ran : Ran part words before' k after) where
    join_back_step : (n i : ℕ) → i + suc n ≤ x
        → ((m : List ℕ) → Resumes words (steps (test x) n (i + 1)) m part before' → Resumes words (left_from shape center angle (x - (i + 1))) m whole before
        → JoinedBack x n (i + 1) k after whole before)
        → (b : Bool) {m m' : List ℕ} → Ran (test x i) words m b m'
        → Resumes words (steps (test x) (suc n) i) m part before' → Resumes words (left_from shape center angle (x - i)) m whole before
        → JoinedBack x (suc n) i k after whole before
    unfolding steps left_from
    join_back_step n i h rest true {m' = m'} white first all =
        let y = x - (i + 1) in
        let back : x - i ≡ suc y = omega arith in
        joined_back x n i
        (rest m' (resumes_step (λ (w : Bool). cond w (steps (test x) n (i + 1)) (done i)) white first)
        (resumes_step (λ (w : Bool). cond w (left_from shape center angle y) (done (suc y))) (rw back at white) (rw back at all)))
    join_back_step n i h rest false white first all =
        let y = x - (i + 1) in
        let back : x - i ≡ suc y = omega arith in
        let is = none_left {x = i} ran (resumes_step (λ (w : Bool). cond w (steps (test x) n (i + 1)) (done i)) white first) in
        let end = resumes_end (ran_done (suc y)) (resumes_step (λ (w : Bool). cond w (left_from shape center angle y) (done (suc y)))
        (rw back at white) (rw back at all)) in
        ended_back (omega (arith, is.0)) (rw (is.0, is.1, back) end)

    pub join_back : (n i : ℕ) → i + n ≤ x → (m : List ℕ) → Resumes words (steps (test x) n i) m part before'
        → Resumes words (left_from shape center angle (x - i)) m whole before → JoinedBack x n i k after whole before
    unfolding steps
    join_back zero i h m first all =
        let is = none_left ran first in
        follow_back (omega (arith, is.0)) (rw (is.0, is.1) all)
    join_back (suc n) i h m first all =
        let p = test x i in
        let white : Ran p words m (value_of p words) (marks_of p words m) = record { result = refl; marked = refl } in
        join_back_step n i h (join_back n (i + 1) (omega arith)) (value_of p words) white first all

  module _ {before marks after : List ℕ} {whole : Reads ℕ} (n x : ℕ) {k : ℕ} (room : n ≤ x)
      (resumes : Resumes words (left_from shape center angle x) marks whole before) (ran : Ran (steps (test x) n 0) words marks k after) where
    joined_at : JoinedBack x n 0 k after whole before
    joined_at =
        let here : x - 0 ≡ x = omega arith in
        join_back x ran n 0 (omega arith) marks resumes_start (rw here resumes)

    pub stopped_back : k < n → Ran whole words before (x - k) after
    stopped_back less = go joined_at
      where
        go : JoinedBack x n 0 k after whole before → Ran whole words before (x - k) after
        go (follow_back e rest) = absurd (omega arith)
        go (ended_back l end) = end

    pub resumed_back : n ≤ k → Resumes words (left_from shape center angle (x - k)) after whole before
    resumed_back more = go joined_at
      where
        go : JoinedBack x n 0 k after whole before → Resumes words (left_from shape center angle (x - k)) after whole before
        go (ended_back l end) = absurd (omega arith)
        go (follow_back e rest) = rest

  -- no more steps are taken than there are
  pub taken_most : (n x : ℕ) {k : ℕ} {marks after : List ℕ} → n ≤ x → Ran (steps (white_back shape center angle x) n 0) words marks k after → k ≤ n
  taken_most n x {k} {marks} {after} room ran = go (joined_at n x room resumes_start ran)
    where
      go : JoinedBack x n 0 k after (left_from shape center angle x) marks → k ≤ n
      go (follow_back e rest) = omega arith
      go (ended_back l end) = omega arith
