-- A walk to the left or to the right, of which some steps are taken: what is left of it from a column on, and how n more steps are joined to it. Assumes
-- nothing.
use Rattle.std.proofs.Common.{ℕ, ◌+◌, ◌-◌, ◌^◌, ◌≤◌, ◌<◌, ◌⊎◌, inl, inr, Bool, true, false, true≢false, not, eqb, cond, List, ◌≡◌, ◌≢◌, ◌∙◌, refl, sym, arith}
use Rattle.reads.specs.Reads.{Reads}
use Rattle.reads.specs.RunsClauses.{Ran, Resumes}
use Rattle.reads.proofs.RunsLaws.{resumes_start, resumes_end}
use Rattle.bit_matrix.specs.declared.Shape.{Shape}
use Rattle.bit_matrix.specs.declared.BitMatrix.{BitMatrix}
use Rattle.bit_matrix.specs.ShapeClauses.{Limits, Inside}
use Rattle.bit_matrix.specs.ImageClauses.{Kept, RanOn}
use Rattle.bit_matrix.proofs.ImageLaws.{kept_same, kept_on, onto}
use Rattle.sines.specs.declared.Angle.{Angle}
use Rattle.rxing_result_point.specs.declared.PointU.{PointU}
use Rattle.detector_walks.specs.WalksClauses.{OfDegree, column, Taken, rest}
use Rattle.detector_walks.specs.StepsLaws.{steps_right}
use Rattle.detector_walks.proofs.Degrees.{steps_few_of}
use Rattle.detector_walks.proofs.Joins.{kept_near, stopped, resumed, stopped_back, resumed_back, taken_most}

-- past the test for room, by the number of the const
pub room_of : {l n x : ℕ} → ((l ≢ 0) × (n ≤ x)) ⊎ (l ≡ 0) → not (eqb l 0) ≡ true → n ≤ x
room_of (inl some) e = some.1
room_of (inr none) e = absurd (true≢false (sym e ∙ rw none refl))

module _ (image : BitMatrix) (center : PointU) (angle : Angle) where
  -- the column where the walk to the right has ended at the latest
  abbrev pub limit : ℕ
  limit = center.x + steps_right image.shape angle

  -- how many columns are left at most
  abbrev pub columns_left : Bool → ℕ → ℕ
  columns_left left x = cond left x (limit - x)

  abbrev words : List ℕ
  words = image.words.now

  abbrev from : Bool → ℕ → Reads ℕ
  from left = rest left image.shape center angle

  pub record Walking (left : Bool) (first : ℕ) (now : BitMatrix) (x : ℕ) : Type 0 where
    pub kept : Kept image now
    pub low : x < 2 ^ 20 + 2 ^ 12
    pub near : x ≤ limit
    pub resumes : Resumes words (from left x) now.marks.now (from left first) image.marks.now

  -- the rest of the walk ends it
  module _ {left : Bool} {first : ℕ} {now last : BitMatrix} {x y : ℕ} (walking : Walking left first now x) where
    pub walk_ends : RanOn (rest left now.shape center angle x) now y last → RanOn (from left first) image y last
    walk_ends run = record {
      kept = kept_on walking.kept run.kept;
      ran = resumes_end (onto (λ (shape : Shape). rest left shape center angle x) walking.kept run) walking.resumes;
    }

  module _ (inside : Inside image.shape center.x center.y) (of : ∥ OfDegree angle ∥₁) where
    abbrev limits : Limits image.shape
    limits = image.is_image.limits

    low_near : {x : ℕ} → x ≤ limit → x < 2 ^ 20 + 2 ^ 12
    low_near h = omega (arith, steps_few_of of limits, limits.width_most, inside.column)

    pub walk_begins : (left : Bool) (first : ℕ) → first ≤ limit → Walking left first image first
    walk_begins left first h = record { kept = kept_same; low = low_near h; near = h; resumes = resumes_start }

    -- ---- n steps from column x on, of which k are taken
    module _ (n x k : ℕ) (few : n ≤ 2 ^ 10) (near : x ≤ limit) (marks after : List ℕ) where
      abbrev TakenHere : Bool → Type 0
      TakenHere left = Taken left image.shape center angle n x words marks k after

      near_after : (left : Bool) → TakenHere left → column left x k ≤ limit
      near_after true taken = omega (arith, near)
      near_after false taken = kept_near words image.shape center angle limits inside of n x near (taken.on refl)

      most : (left : Bool) → (left ≡ true → n ≤ x) → TakenHere left → left ≡ true → k ≤ n
      most true room taken e = taken_most words image.shape center angle n x (room refl) (taken.back refl)
      most false room taken e = absurd (true≢false (sym e))

      -- what is added to the column, or taken from it
      fits_at : (left : Bool) → (left ≡ true → n ≤ x) → TakenHere left → x + k < 2 ^ 32
      fits_at true room taken = omega (arith, most true room taken refl, low_near near)
      fits_at false room taken = omega (arith, low_near (near_after false taken))

      fewer_at : (left : Bool) → (left ≡ true → n ≤ x) → TakenHere left → 0 < n → n ≤ k → columns_left left (column left x k) < columns_left left x
      fewer_at true room taken some more = omega (arith, room refl, most true room taken refl)
      fewer_at false room taken some more = omega (arith, near_after false taken)

      module _ {whole : Reads ℕ} {before : List ℕ} where
        stops_at : (left : Bool) → Resumes words (from left x) marks whole before → (left ≡ true → n ≤ x) → TakenHere left → k < n
            → Ran whole words before (column left x k) after
        stops_at true resumes room taken less = stopped_back words image.shape center angle n x (room refl) resumes (taken.back refl) less
        stops_at false resumes room taken less =
            stopped words image.shape center angle limits inside of n x near few resumes (taken.on refl) (omega arith)

        resumes_at : (left : Bool) → Resumes words (from left x) marks whole before → (left ≡ true → n ≤ x) → TakenHere left → n ≤ k
            → Resumes words (from left (column left x k)) after whole before
        resumes_at true resumes room taken more = resumed_back words image.shape center angle n x (room refl) resumes (taken.back refl) more
        resumes_at false resumes room taken more =
            resumed words image.shape center angle limits inside of n x near few resumes (taken.on refl) (omega arith)

    -- the same of a walk's, with y for the column that they come to
    module _ {left : Bool} {first : ℕ} {now after : BitMatrix} {n x k : ℕ} (walking : Walking left first now x) (few : n ≤ 2 ^ 10) (room : left ≡ true → n ≤ x)
        (kept : Kept now after) (taken : Taken left now.shape center angle n x now.words.now now.marks.now k after.marks.now) where
      here : TakenHere n x k few walking.near now.marks.now after.marks.now left
      here = rw (walking.kept.shape, walking.kept.words) at taken

      pub walk_enough : left ≡ true → k ≤ x
      walk_enough e = omega (arith, most n x k few walking.near _ _ left room here e, room e)

      pub walk_fits : x + k < 2 ^ 32
      walk_fits = fits_at n x k few walking.near _ _ left room here

      module _ {y : ℕ} (is : y ≡ column left x k) where
        pub walk_stops : k < n → RanOn (from left first) image y after
        walk_stops less = record {
          kept = kept_on walking.kept kept;
          ran = rw is (stops_at n x k few walking.near _ _ left walking.resumes room here less);
        }

        pub walk_onward : n ≤ k → Walking left first after y
        walk_onward more =
            let near = near_after n x k few walking.near _ _ left here in
            record {
              kept = kept_on walking.kept kept;
              low = low_near (rw is near);
              near = rw is near;
              resumes = rw is (resumes_at n x k few walking.near _ _ left walking.resumes room here more);
            }

        pub walk_fewer : 0 < n → n ≤ k → columns_left left y < columns_left left x
        walk_fewer some more = rw is (fewer_at n x k few walking.near _ _ left room here some more)
