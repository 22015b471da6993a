-- Every boxed record has the class of its outcome. Assumes nothing.
use Rattle.std.specs.Prelude.{ℕ, ◌%◌, ◌≤◌, Bool, ◌≡◌, length, get_or, List, [], ◌∷◌}
use Rattle.std.proofs.Common.{◌∙◌}
use Rattle.std.specs.Float.{binary32}
use Rattle.std.specs.Float.Ieee.{to_bits}
use Rattle.reads.specs.ReadsLaws.{Always}
use Rattle.reads.proofs.ReadsLaws.{always_done, always_bind}
use Rattle.bit_matrix.specs.declared.Shape.{Shape}
use Rattle.bit_matrix.specs.ShapeClauses.{Inside}
use Rattle.records.specs.Fields as field
use Rattle.records.specs.Records.{Record}
use Rattle.records.specs.RecordsClauses.{Each}
use Rattle.rxing_result_point.specs.Points.{real}
use Rattle.detector_boundary.specs.declared.Boundary.{Boundary}
use Rattle.detector_outcome.specs.declared.Turn.{Turn}
use Rattle.detector_outcome.specs.OutcomesLaws.{Classed, class_by_outcome}
use Rattle.detector_symbol.specs.declared.Symbol.{Symbol}
use Rattle.detector_symbol.specs.Symbols.{with_symbol}
use Rattle.detector_symbol.specs.SymbolsLaws.{whole_symbol, symbol_fields}
use Rattle.detector_turn.specs.ScalesLaws.{Ended}
use Rattle.detector_box.specs.Boxes.{symbol_of, symbol_at}
use Rattle.detector_box.specs.BoxesLaws.{turn_ended}
use Rattle.detector_boxes.specs.Boxing.{circle_of, boxed, boxed_all}

-- a whole record with its centre inside the image
pub record WholeInside (shape : Shape) (r : Record) : Type 0 where
  pub whole : length r ≡ 40
  pub inside : Inside shape (get_or r field.center_x 0) (get_or r field.center_y 0)

-- a whole record whose rotation is that many degrees, even and at most 348, and whose class is that of its outcome
pub record ClassedRecord (r : Record) : Type 0 where
  pub whole : length r ≡ 40
  pub degree : ℕ
  pub even : degree % 2 ≡ 0
  pub low : degree ≤ 348
  pub rotation : get_or r field.rotation 0 ≡ to_bits binary32 (real degree)
  pub classed : Classed (get_or r field.outcome 0) degree (get_or r field.class 0)

module _ (ellipse : Bool) (shape : Shape) where
  symbol_classed : (r : Record) (b : Boundary) (turn : Turn) → length r ≡ 40 → Ended shape turn → ClassedRecord (with_symbol r (symbol_of b turn))
  symbol_classed r b turn whole ended =
      let fields = symbol_fields r (symbol_of b turn) whole in
      record {
        whole = whole_symbol r (symbol_of b turn) whole;
        degree = turn.degree;
        even = ended.even;
        low = ended.low;
        rotation = fields.rotation ∙ ended.rotation;
        classed = rw (fields.outcome, fields.class) (class_by_outcome turn);
      }

  boxed_classed : (r : Record) → WholeInside shape r → Always ClassedRecord (boxed ellipse shape r)
  unfolding boxed symbol_at
  boxed_classed r held =
      always_bind {Q = λ (s : Symbol). ClassedRecord (with_symbol r s)} _
      (always_bind {Q = Ended shape} _ (turn_ended ellipse shape (circle_of r) held.inside)
      λ turn ended. always_done (symbol_classed r _ turn held.whole ended))
      λ s classed. always_done classed

  pub all_classed : (rs : List Record) → Each (WholeInside shape) rs → Always (Each ClassedRecord) (boxed_all ellipse shape rs)
  unfolding boxed_all Each
  all_classed [] each = always_done tt
  all_classed (r ∷ rs) each =
      always_bind {Q = ClassedRecord} _ (boxed_classed r each.0)
      λ b classed. always_bind {Q = Each ClassedRecord} _ (all_classed rs each.1)
      λ bs rest. always_done (classed, rest)
