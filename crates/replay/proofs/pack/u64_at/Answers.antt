-- `replay::pack::u64_at` meets its contract: the sum of the bytes by their worth is the definition's.
use Rattle.std.specs.Prelude.{ℕ, ◌+◌, ◌-◌, ◌<◌, ◌≤◌, List, ◌≡◌, length, get_or, take, drop}
use Rattle.std.proofs.Common.{arith, ap, ◌∙◌, get_or-take}
use Rattle.std.proofs.lemmas.List.{get_or-drop}
use Rattle.replay.proofs.pack.u64_at.Goals as goal

-- byte i of the eight from `at` on
byte_is : (pack bytes : List ℕ) (at n : ℕ) → bytes ≡ take 8 (take n (drop at pack)) → 8 ≤ n → (i j : ℕ) → i < 8 → at + i ≡ j → get_or bytes i 0 ≡ get_or pack j 0
byte_is pack bytes at n is enough i j h place =
    ap (λ (l : List ℕ). get_or l i 0) is ∙ get_or-take 8 _ i 0 h ∙ get_or-take n _ i 0 (omega arith) ∙ get_or-drop at pack i 0
    ∙ ap (λ (k : ℕ). get_or pack k 0) place

pub returns : goal.returns
returns c =
    let at = c.args.at in
    let pack = c.args.pack.now in
    let chunk = rw c.unwrap.ensures at c.first_chunk.ensures.cases in
    let byte = byte_is pack c.unwrap.result.now at (length pack - at) chunk.same (omega arith) in
    omega (
      arith,
      c.from_le_bytes.ensures,
      byte 0 at (omega arith) (omega arith),
      byte 1 (at + 1) (omega arith) (omega arith),
      byte 2 (at + 2) (omega arith) (omega arith),
      byte 3 (at + 3) (omega arith) (omega arith),
      byte 4 (at + 4) (omega arith) (omega arith),
      byte 5 (at + 4 + 1) (omega arith) (omega arith),
      byte 6 (at + 4 + 2) (omega arith) (omega arith),
      byte 7 (at + 4 + 3) (omega arith) (omega arith),
    )
