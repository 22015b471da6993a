-- `detector_degrees::offsets_past` meets its contract: the offsets are made one by one.
use Rattle.std.proofs.Common.{◌≡◌, ℕ, zero, suc, ◌+◌, ◌<◌, ◌≤◌, List, slice_index_or, arith, rules, inl, inr, subst, ◌∙◌, eq-or-lt_of_le}
use Rattle.std.specs.Array.{IsFromFnResultFrom}
use Rattle.std.specs.Fn.{Called}
use denote.Param.Members.{Mut}
use Rattle.detector_degrees.specs.Degrees.{point_of}
use Rattle.detector_degrees.specs.Offsets.{offset_past}
use Rattle.detector_degrees.proofs.offsets_past.Goals as goal

-- calls that leave the closure as it was, and answer v of the index, made the list of these answers
module _ {F B : Type 0} (g : Mut F (ℕ × Unit {0}) B) (f : F) (v : ℕ → B)
    (step : (i : ℕ) (y : B) (f' : F) → Called g f (i, tt) y f' → (y ≡ v i) × (f' ≡ f)) where
  made : (ys : List B) (i n : ℕ) → IsFromFnResultFrom g f ys i n → (k : ℕ) (d : B) → i ≤ k → k < i + n → slice_index_or ys k d ≡ v k
  made ys i zero calls k d low high = absurd (omega arith)
  made ys i (suc n) (f', y, here, called, rest) k d low high = elim (eq-or-lt_of_le low) [
    | inl same ↦ subst (λ (j : ℕ). slice_index_or ys j d ≡ v j) same (here.1 d ∙ (step i y f' called).0)
    | inr later ↦ made ys (i + 1) n (subst (λ (p : F). IsFromFnResultFrom g p ys (i + 1) n) (step i y f' called).1 rest) k d (omega arith) (omega arith)
  ]

pub returns : goal.returns
unfolding point_of
returns c = record {
  each = λ k low. made _ _ (λ (i : ℕ). offset_past c.args.center (point_of c.args.groups i)) (λ i y f' called. search rules)
      c.from_fn.result 0 18 c.from_fn.ensures.items.each k _ (omega arith) low;
}
