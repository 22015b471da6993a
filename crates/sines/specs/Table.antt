-- The bit patterns of the sines of 0 to 359 degrees, rounded to f32, with no zero negative. Those of a quarter turn are data, made by tools/sines.py.
-- Assumes nothing.
use Rattle.std.specs.Prelude.{ℕ, ◌+◌, ◌^◌, List, [], ◌∷◌, ◌++◌, map, reverse, take, drop}

-- of 0 to 90 degrees
abbrev pub quarter : List ℕ
quarter =
    0x0 ∷ 0x3c8ef859 ∷ 0x3d0ef2c6 ∷ 0x3d565e3a ∷ 0x3d8edc7b ∷ 0x3db27eb6 ∷ 0x3dd61305 ∷ 0x3df996a2 ∷ 0x3e0e8365 ∷ 0x3e20305b ∷
    0x3e31d0d4 ∷ 0x3e43636f ∷ 0x3e54e6cd ∷ 0x3e665992 ∷ 0x3e77ba60 ∷ 0x3e8483ee ∷ 0x3e8d2057 ∷ 0x3e95b1be ∷ 0x3e9e377a ∷ 0x3ea6b0df ∷
    0x3eaf1d44 ∷ 0x3eb77c01 ∷ 0x3ebfcc6f ∷ 0x3ec80de9 ∷ 0x3ed03fc9 ∷ 0x3ed8616c ∷ 0x3ee0722f ∷ 0x3ee87171 ∷ 0x3ef05e94 ∷ 0x3ef838f7 ∷
    0x3f000000 ∷ 0x3f03d989 ∷ 0x3f07a8ca ∷ 0x3f0b6d77 ∷ 0x3f0f2744 ∷ 0x3f12d5e8 ∷ 0x3f167918 ∷ 0x3f1a108d ∷ 0x3f1d9bfe ∷ 0x3f211b24 ∷
    0x3f248dbb ∷ 0x3f27f37c ∷ 0x3f2b4c25 ∷ 0x3f2e9772 ∷ 0x3f31d522 ∷ 0x3f3504f3 ∷ 0x3f3826a7 ∷ 0x3f3b39ff ∷ 0x3f3e3ebd ∷ 0x3f4134a6 ∷
    0x3f441b7d ∷ 0x3f46f30a ∷ 0x3f49bb13 ∷ 0x3f4c7360 ∷ 0x3f4f1bbd ∷ 0x3f51b3f3 ∷ 0x3f543bce ∷ 0x3f56b31d ∷ 0x3f5919ae ∷ 0x3f5b6f51 ∷
    0x3f5db3d7 ∷ 0x3f5fe714 ∷ 0x3f6208da ∷ 0x3f641901 ∷ 0x3f66175e ∷ 0x3f6803ca ∷ 0x3f69de1d ∷ 0x3f6ba635 ∷ 0x3f6d5bec ∷ 0x3f6eff20 ∷
    0x3f708fb2 ∷ 0x3f720d81 ∷ 0x3f737871 ∷ 0x3f74d063 ∷ 0x3f76153f ∷ 0x3f7746ea ∷ 0x3f78654d ∷ 0x3f797051 ∷ 0x3f7a67e2 ∷ 0x3f7b4beb ∷
    0x3f7c1c5c ∷ 0x3f7cd925 ∷ 0x3f7d8235 ∷ 0x3f7e1781 ∷ 0x3f7e98fd ∷ 0x3f7f069e ∷ 0x3f7f605c ∷ 0x3f7fa62f ∷ 0x3f7fd814 ∷ 0x3f7ff605 ∷
    0x3f800000 ∷ []

-- of 0 to 180 degrees: past 90 the same in the other order
abbrev pub half : List ℕ
half = quarter ++ reverse (take 90 quarter)

-- of 0 to 359 degrees: past 180 the same with the sign bit set
abbrev pub patterns : List ℕ
patterns = half ++ map (λ p. 2 ^ 31 + p) (take 179 (drop 1 half))
