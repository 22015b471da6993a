-- The records boxed one by one, behind those that are boxed already: what a loop has left to do, and that it comes to `boxed_all`. Assumes nothing.
use Rattle.std.proofs.Common.{ℕ, Bool, ◌≡◌, refl, sym, ap, ◌∙◌, List, [], ◌∷◌, ◌++◌, append-nil}
use Rattle.std.proofs.Math.Seq.{append_snoc}
use Rattle.reads.specs.Reads.{Reads, done, ◌>>=◌, value, trace}
use Rattle.reads.proofs.ReadsLaws.{value_bind, trace_bind}
use Rattle.reads.specs.Bits.{bit_at, mark_all}
use Rattle.reads.specs.Runs.{value_of, marks_of}
use Rattle.reads.specs.RunsClauses.{Ran}
use Rattle.bit_matrix.specs.declared.Shape.{Shape}
use Rattle.records.specs.Records.{Record}
use Rattle.detector_boxes.specs.Boxing.{boxed, boxed_all}

module _ (ellipse : Bool) (shape : Shape) where
  unfoldable pub boxed_from : List Record → List Record → Reads (List Record)
  boxed_from first [] = done first
  boxed_from first (r ∷ rs) = do
    b ← boxed ellipse shape r
    boxed_from (first ++ b ∷ []) rs

  abbrev all : List Record → Reads (List Record)
  all rs = boxed_all ellipse shape rs

  values : (first rs : List Record) (image : ℕ → Bool) → value (boxed_from first rs) image ≡ first ++ value (all rs) image
  unfolding value boxed_from boxed_all
  values first [] image = sym (append-nil first)
  values first (r ∷ rs) image =
      let b = value (boxed ellipse shape r) image in
      value_bind (boxed ellipse shape r) _ image
      ∙ values (first ++ b ∷ []) rs image ∙ append_snoc first b (value (all rs) image)
      ∙ ap (λ (bs : List Record). first ++ bs) (sym (value_bind (boxed ellipse shape r) _ image ∙ value_bind (all rs) _ image))

  traces : (first rs : List Record) (image : ℕ → Bool) → trace (boxed_from first rs) image ≡ trace (all rs) image
  unfolding trace boxed_from boxed_all
  traces first [] image = refl
  traces first (r ∷ rs) image =
      let b = value (boxed ellipse shape r) image in
      trace_bind (boxed ellipse shape r) _ image
      ∙ ap (λ (t : List ℕ). trace (boxed ellipse shape r) image ++ t)
      (traces (first ++ b ∷ []) rs image ∙ sym (trace_bind (all rs) _ image ∙ append-nil (trace (all rs) image)))
      ∙ sym (trace_bind (boxed ellipse shape r) _ image)

  pub all_at_once : {words marks marks' : List ℕ} (rs : List Record) {bs : List Record} → Ran (boxed_from [] rs) words marks bs marks'
      → Ran (all rs) words marks bs marks'
  unfolding value_of marks_of
  all_at_once {words} {marks} rs ran = record {
    result = ran.result ∙ values [] rs (bit_at words);
    marked = ran.marked ∙ ap (mark_all marks) (traces [] rs (bit_at words));
  }
