-- Every record that is boxed stays one. Assumes nothing.
use Rattle.std.specs.Prelude.{suc, Bool, List, [], ◌∷◌, ◌≡◌, refl, length}
use Rattle.std.proofs.Common.{ap}
use Rattle.reads.specs.ReadsLaws.{Always}
use Rattle.reads.proofs.ReadsLaws.{always_done, always_bind, always_after}
use Rattle.bit_matrix.specs.declared.Shape.{Shape}
use Rattle.records.specs.Records.{Record}
use Rattle.detector_boxes.specs.Boxing.{boxed_all}

pub boxed_length : (ellipse : Bool) (shape : Shape) (rs : List Record) → Always (λ (bs : List Record). length bs ≡ length rs) (boxed_all ellipse shape rs)
unfolding boxed_all
boxed_length ellipse shape [] = always_done refl
boxed_length ellipse shape (r ∷ rs) =
    always_after _ _ λ b. always_bind {Q = λ (bs : List Record). length bs ≡ length rs} _ (boxed_length ellipse shape rs) λ bs same. always_done (ap suc same)
