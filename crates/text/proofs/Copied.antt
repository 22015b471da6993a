-- A piece that is copied over a part of a buffer is put. Assumes nothing.
use Rattle.std.proofs.Common.{ℕ, ◌+◌, ◌-◌, ◌≤◌, arith, List, ◌++◌, ◌≡◌, sym, ap, ◌∙◌, length, take, length-take-le}
use borrow.Rule.Slice.PartMut.{put_mid}
use Rattle.std.proofs.lemmas.Slice.{take-put_mid, drop-put_mid}
use Rattle.text.specs.Text.{Puts}

-- the part from `at` to `next` holds the piece now
module _ (at next : ℕ) (before part piece : List ℕ) where
  abbrev all : List ℕ
  all = put_mid at (next - at) before part

  pub puts_copied : next ≡ at + length piece → at + length piece ≤ length before → part ≡ piece → length all ≡ length before
      → Puts piece at before next all
  puts_copied place fits copied same =
      let long : length part ≡ length piece = ap length copied in
      record {
        end = place;
        front = take-put_mid at (next - at) before part next (omega arith) (omega arith) ∙ ap (λ (l : List ℕ). take at before ++ l) copied;
        rest = drop-put_mid at (next - at) before part next (omega arith) (omega arith) (omega arith);
        size = same;
        room = omega arith;
        part = sym (length-take-le next all (omega arith));
      }
