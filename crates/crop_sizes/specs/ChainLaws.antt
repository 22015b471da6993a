-- Laws of a chain of conditions, of which the first that holds names the answer: `cond t₁ n₁ (cond t₂ n₂ ..)`. For a function that returns at each
-- condition, `search chain depth N` proves each return from the tests that led there. Assumes nothing.
use Rattle.std.specs.Prelude.{Bool, true, false, not, cond, ◌||◌, ◌≡◌, refl}
use Rattle.std.proofs.Common.{ap, ◌∙◌, lt-ltb, le-ltb, le-leb, eq-eqb, ne_eqb}
use Rattle.std.proofs.Math.Path.{subst⁻¹}
use Rattle.std.proofs.lemmas.Bool.{lt-leb}

module _ {A : Type 0} {r : A} where
  -- the first condition holds, or it does not and the rest gives the answer
  pub chain_here : {t : Bool} (n rest : A) → t ≡ true → r ≡ n → r ≡ cond t n rest
  chain_here n rest e same = subst⁻¹ (λ (b : Bool). r ≡ cond b n rest) e same

  pub chain_next : {t : Bool} (n rest : A) → t ≡ false → r ≡ rest → r ≡ cond t n rest
  chain_next n rest e same = subst⁻¹ (λ (b : Bool). r ≡ cond b n rest) e same

-- a condition with two parts
pub either_left : {a : Bool} (b : Bool) → a ≡ true → (a || b) ≡ true
either_left b e = ap (λ (x : Bool). x || b) e

pub either_right : (a : Bool) {b : Bool} → b ≡ true → (a || b) ≡ true
either_right true e = refl
either_right false e = e

pub neither : {a b : Bool} → a ≡ false → b ≡ false → (a || b) ≡ false
neither {a} {b} e f = ap (λ (x : Bool). x || b) e ∙ f

-- a condition turned round
pub not_holds : {a : Bool} → a ≡ false → not a ≡ true
not_holds e = ap not e

pub not_fails : {a : Bool} → a ≡ true → not a ≡ false
not_fails e = ap not e

pub ruleset chain = (
  chain_here,
  chain_next,
  either_left,
  either_right,
  neither,
  not_holds,
  not_fails,
  lt-ltb,
  le-ltb,
  le-leb,
  lt-leb,
  eq-eqb,
  ne_eqb,
)
