-- `crop_rows::load` meets its contract: the slice's bytes are the file's.
use Rattle.std.specs.Prelude.{ℕ, ◌+◌, ◌*◌, ◌-◌, ◌≤◌, ◌<◌, List, ◌≡◌, min, length, get_or, take, drop}
use Rattle.std.proofs.Common.{arith, ap, ◌∙◌, get_or-take, length-drop, length-take-le}
use Rattle.std.proofs.lemmas.List.{get_or-drop}
use Rattle.crop_padding.specs.Below.{number}
use Rattle.crop_rows.specs.Bytes.{byte_bit}
use Rattle.crop_rows.proofs.Loads.{worth, bits}
use Rattle.crop_rows.proofs.load.Goals as goal

module _ (file : List ℕ) (start bytes x : ℕ) where
  abbrev rest : List ℕ
  rest = take (start + bytes - (start + 8 * x)) (drop (start + 8 * x) file)

  same : (i : ℕ) → i < bytes - 8 * x → get_or rest i 0 ≡ get_or file (start + 8 * x + i) 0
  same i h = get_or-take _ _ i 0 (omega arith) ∙ get_or-drop (start + 8 * x) file i 0

  long : start + bytes ≤ length file → 8 * x < bytes → length rest ≡ bytes - 8 * x
  long inside some = length-take-le _ _ (simp length-drop (omega arith)) ∙ omega arith

pub returns-in-Some : goal.returns-in-Some
returns-in-Some c =
    let a = c.args in
    let file = a.file.now in
    let eight = c.in-Some.eight.now in
    let cases = c.in-Some.ensures.cases in
    let whole : 8 ≤ a.bytes - 8 * a.x = omega (arith, cases.enough, long file a.start a.bytes a.x c.requires.0 c.requires.1) in
    let all : 8 * 8 ≡ 8 * min 8 (a.bytes - 8 * a.x) = omega arith in
    c.from_le_bytes.ensures
    ∙ worth file (λ i. omega (arith, c.type_inv.file i)) (a.start + 8 * a.x) eight 7
    (λ i h. ap (λ (l : List ℕ). get_or l i 0) cases.same ∙ get_or-take 8 _ i 0 h ∙ same file a.start a.bytes a.x i (omega arith))
    ∙ ap (number (byte_bit file (a.start + 8 * a.x))) all

pub returns-in-None : goal.returns-in-None
returns-in-None c =
    let a = c.args in
    let file = a.file.now in
    let few = c.in-None.ensures.cases in
    let sized = long file a.start a.bytes a.x c.requires.0 c.requires.1 in
    let all : length (rest file a.start a.bytes a.x) ≡ min 8 (a.bytes - 8 * a.x) = omega (arith, few, sized) in
    c.load_few.ensures
    ∙ bits file (λ i. omega (arith, c.type_inv.file i)) (a.start + 8 * a.x) (rest file a.start a.bytes a.x) (length (rest file a.start a.bytes a.x))
    (λ i h. same file a.start a.bytes a.x i (omega (arith, sized)))
    ∙ ap (λ (n : ℕ). number (byte_bit file (a.start + 8 * a.x)) (8 * n)) all
