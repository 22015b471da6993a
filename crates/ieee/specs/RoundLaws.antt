-- Rounding and the sign; a value that is finite and not negative as a fraction, and the order of two of them; a natural as an f32 and back. Assumes nothing.
use Rattle.std.specs.Prelude.{◌≡◌, ℕ, zero, suc, ◌*◌, ◌^◌, ◌<◌, ◌≤◌, Bool, true, false, cond, ◌&&◌, ◌||◌, T, ◌==◌, nat_lt, refl, Float}
use Rattle.std.proofs.Common.{sym, ap, ◌∙◌, true≢false, arith, ltb→lt, eqb→eq, lit<}
use Rattle.std.specs.Float.{nan, inf, fin, Format}
use Rattle.std.specs.Float.Ieee.{prec, low, up, down, round, units, odd, lt, le}
use Rattle.std.specs.Float.Ieee.Fits.{round_is}
use Rattle.std.specs.Float.Ieee.Exact.{HasValue}
use Rattle.std.specs.Float.Ieee.Back.{round_whole}
use Rattle.std.specs.Float.Ieee.Order.{round_mono}
use Rattle.std.specs.Float.Ieee.Scale.{overflow}
use Rattle.std.specs.Float.Ieee.Positive.{num, den}
use Rattle.ieee.specs.Sign.{abs}

-- ---- `abs` of what is rounded
abs_odd : (d : ℕ) (s : Bool) (q k l : ℕ) → abs (odd d s q k l) ≡ odd d false q k l
unfolding odd abs
abs_odd d s zero k l = refl
abs_odd d s (suc q) k l = refl

abs_units : (f : Format) (s : Bool) (q k : ℕ) → abs (units f s q k) ≡ units f false q k
unfolding units abs
abs_units f s q k = go (nat_lt (q * 2 ^ k) (overflow f))
  where
    go : (b : Bool) → abs (cond b (odd (suc (prec f)) s q k (low f)) (inf s)) ≡ cond b (odd (suc (prec f)) false q k (low f)) (inf false)
    go true = abs_odd (suc (prec f)) s q k (low f)
    go false = refl

pub abs_round : (f : Format) (s : Bool) (a b : ℕ) → abs (round f s a b) ≡ round f false a b
abs_round f s a b = ap abs (round_is f s a b) ∙ abs_units f s _ _ ∙ sym (round_is f false a b)

-- ---- finite and not negative, and then the fraction `num` / `den`
abbrev pub Plain : Float → Type 0
Plain x = HasValue x false (num x) (den x)

plain_below : (x z : Float) (a c : ℕ) → abs x ≡ x → HasValue z false a c → T (le x z) → Plain x
unfolding le abs
plain_below nan z a c p v h = absurd h
plain_below (inf s) nan a c p v h = absurd v
plain_below (inf s) (inf t) a c p v h = absurd v
plain_below (inf true) (fin t n d) a c p v h = let z : true ≡ false = cc in absurd (true≢false z)
plain_below (inf false) (fin t n d) a c p v h = absurd h
plain_below (fin s m e) z a c p v h = (cc, refl)

-- a fraction up to 2 ^ prec rounds to one
pub round_plain : (f : Format) (n a b : ℕ) → n ≤ 2 ^ prec f → 0 < b → a ≤ n * b → Plain (round f false a b)
round_plain f n a b N B h =
    plain_below (round f false a b) (round f false n 1) n 1 (abs_round f false a b)
    (round_whole f false n N) (round_mono f a b n 1 B (lit< tt) (omega arith))

-- ---- the tests of two such values are those of their fractions
pub record Crossed (x y : Float) : Type 0 where
  pub less : lt x y ≡ nat_lt (num x * den y) (num y * den x)
  pub most : T (le x y) → num x * den y ≤ num y * den x

less_or_equal : (a b : ℕ) → T (nat_lt a b || (a == b && true)) → a ≤ b
less_or_equal a b = go (nat_lt a b) (a == b) (ltb→lt a b) (eqb→eq a b)
  where
    go : (x y : Bool) → (T x → a < b) → (T y → a ≡ b) → T (x || (y && true)) → a ≤ b
    go true y less same t = omega (arith, less tt)
    go false true less same t = omega (arith, same tt)
    go false false less same t = absurd t

pub crossed : (x y : Float) → Plain x → Plain y → Crossed x y
unfolding lt le
crossed nan y p q = absurd p
crossed (inf s) y p q = absurd p
crossed (fin true m e) y p q = absurd (true≢false p.0)
crossed (fin false m e) nan p q = absurd q
crossed (fin false m e) (inf t) p q = absurd q
crossed (fin false m e) (fin true n d) p q = absurd (true≢false q.0)
crossed (fin false m e) (fin false n d) p q = record { less = refl; most = less_or_equal (m * up e * down d) (n * up d * down e) }
