-- Planes of bits, and the sums of their bytes. Assumes nothing.
use mathlib.Core.Path.{◌≡◌, refl, sym, ap, ap₂, ◌∙◌}
use Prim.Native.Nat.{ℕ, zero, suc, ◌+◌, ◌*◌, ◌/◌, ◌%◌, ◌≤◌, ◌<◌}
use native.Mathlib.Nat.{mod-lt, div-add-mod'}
use native.Mathlib.Omega.{arith}
use lib.Arith.{digits_div, digits_mod}
use lib.Bits.{bit_and, and_block, and_mask, and_zero_r}
use lib.Dec.{lit<}
use lib.Pow.{mod-mod-pow, mod-pow-add}
use Rattle.tally.specs.Planes.{plane, lows, low_sum, byte_sum}

-- m bytes alike
unfoldable pub rep : ℕ → ℕ → ℕ
rep v zero = 0
rep v (suc m) = rep v m * 256 + v

byte-and : (v m x : ℕ) → v < 256 → bit_and x (rep v m * 256 + v) ≡ bit_and (x / 256) (rep v m) * 256 + bit_and (x % 256) v
byte-and v m x h =
    ap (λ (n : ℕ). bit_and n (rep v m * 256 + v)) (sym (div-add-mod' x 256))
    ∙ and_block 8 (x / 256) (rep v m) (x % 256) v (mod-lt x (lit< tt)) h

-- the low half of a byte
pub lows_is : (m x : ℕ) → bit_and x (rep 15 m) ≡ lows m x
unfolding rep lows
lows_is zero x = and_zero_r x
lows_is (suc m) x =
    let low : bit_and (x % 256) 15 ≡ x % 16 = and_mask (x % 256) 4 ∙ mod-mod-pow x 4 4 in
    byte-and 15 m x (lit< tt) ∙ ap₂ (λ (p q : ℕ). p * 256 + q) (lows_is m (x / 256)) low

pub low_halves : (x : ℕ) → bit_and x 0x0f0f_0f0f_0f0f_0f0f ≡ lows 8 x
unfolding rep
low_halves x = lows_is 8 x

-- bits 0 and 4 of a byte
ends : (x : ℕ) → bit_and (x % 256) 17 ≡ x % 2 + x / 16 % 2 * 16
ends x =
    let cut : x % 256 ≡ x / 16 % 16 * 16 + x % 16 = mod-pow-add x 4 4 in
    let up : x / 16 % 16 % 2 ≡ x / 16 % 2 = mod-mod-pow (x / 16) 3 1 in
    let down : x % 16 % 2 ≡ x % 2 = mod-mod-pow x 3 1 in
    ap (λ (n : ℕ). bit_and n (1 * 16 + 1)) cut
    ∙ and_block 4 (x / 16 % 16) 1 (x % 16) 1 (mod-lt x (lit< tt)) (lit< tt)
    ∙ ap₂ (λ (p q : ℕ). p * 16 + q) (and_mask (x / 16 % 16) 1 ∙ up) (and_mask (x % 16) 1 ∙ down)
    ∙ swap (x / 16 % 2) (x % 2)
  where
    swap : (p q : ℕ) → p * 16 + q ≡ q + p * 16
    swap p q = omega arith

abbrev one : ℕ → ℕ → ℕ
one m x = bit_and x (rep 17 m)

one_step : (m x : ℕ) → one (suc m) x ≡ one m (x / 256) * 256 + (x % 2 + x / 16 % 2 * 16)
unfolding rep
one_step m x = byte-and 17 m x (lit< tt) ∙ ap (λ (n : ℕ). one m (x / 256) * 256 + n) (ends x)

regroup : (p q r s a b c d e f g h : ℕ)
    → (p * 256 + (a + e * 16)) + (q * 256 + (b + f * 16)) + (r * 256 + (c + g * 16)) + (s * 256 + (d + h * 16))
    ≡ (p + q + r + s) * 256 + ((a + b + c + d) + (e + f + g + h) * 16)
regroup p q r s a b c d e f g h = omega arith

pub plane_is : (m a b c d : ℕ) → bit_and a (rep 17 m) + bit_and b (rep 17 m) + bit_and c (rep 17 m) + bit_and d (rep 17 m) ≡ plane m a b c d
unfolding plane rep
plane_is zero a b c d = rw (and_zero_r a, and_zero_r b, and_zero_r c, and_zero_r d)
plane_is (suc m) a b c d =
    ap₂ (λ (x y : ℕ). x + y) (ap₂ (λ (x y : ℕ). x + y) (ap₂ (λ (x y : ℕ). x + y) (one_step m a) (one_step m b)) (one_step m c)) (one_step m d)
    ∙ regroup _ _ _ _ _ _ _ _ _ _ _ _
    ∙ ap (λ (n : ℕ). n * 256 + ((a % 2 + b % 2 + c % 2 + d % 2) + (a / 16 % 2 + b / 16 % 2 + c / 16 % 2 + d / 16 % 2) * 16)) (plane_is m (a / 256) (b / 256) (c / 256) (d / 256))

-- ---- sums of bytes

-- the four bytes of half a word
four : (a b c d : ℕ) → a ≤ 62 → b ≤ 62 → c ≤ 62 → d ≤ 62 → (((d * 256 + c) * 256 + b) * 256 + a) * 16843009 / 16777216 % 256 ≡ a + b + c + d
four a b c d ha hb hc hd =
    let cut : (((d * 256 + c) * 256 + b) * 256 + a) * 16843009 ≡ (((d * 256 + (c + d)) * 256 + (b + c + d)) * 256 + (a + b + c + d)) * 16777216 + (a + (a + b) * 256 + (a + b + c) * 65536) = omega arith in
    let small : a + (a + b) * 256 + (a + b + c) * 65536 < 16777216 = omega arith in
    let sum : a + b + c + d < 256 = omega arith in
    ap (λ (n : ℕ). n / 16777216 % 256) cut
    ∙ ap (λ (n : ℕ). n % 256) (digits_div (((d * 256 + (c + d)) * 256 + (b + c + d)) * 256 + (a + b + c + d)) small)
    ∙ digits_mod ((d * 256 + (c + d)) * 256 + (b + c + d)) sum

abbrev half : ℕ → ℕ → ℕ → ℕ → ℕ
half a b c d = ((d * 256 + c) * 256 + b) * 256 + a

half_lt : (a b c d : ℕ) → a ≤ 31 → b ≤ 31 → c ≤ 31 → d ≤ 31 → half a b c d < 4294967296
half_lt a b c d ha hb hc hd = omega arith

half_add : (a b c d e f g h : ℕ) → half a b c d + half e f g h ≡ half (a + e) (b + f) (c + g) (d + h)
half_add a b c d e f g h = omega arith

sum_eight : (a b c d e f g h : ℕ) → a ≤ 31 → b ≤ 31 → c ≤ 31 → d ≤ 31 → e ≤ 31 → f ≤ 31 → g ≤ 31 → h ≤ 31
    → byte_sum (half e f g h * 4294967296 + half a b c d) ≡ (a + e) + (b + f) + (c + g) + (d + h)
sum_eight a b c d e f g h ha hb hc hd he hf hg hh =
    let l : half a b c d < 4294967296 = half_lt a b c d ha hb hc hd in
    ap₂ (λ (p q : ℕ). (p + q) * 16843009 / 16777216 % 256) (digits_mod (half e f g h) l) (digits_div (half e f g h) l)
    ∙ ap (λ (n : ℕ). n * 16843009 / 16777216 % 256) (half_add a b c d e f g h)
    ∙ four (a + e) (b + f) (c + g) (d + h) (omega arith) (omega arith) (omega arith) (omega arith)

-- how many of m bytes are odd
unfoldable pub odds : ℕ → ℕ → ℕ
odds zero x = 0
odds (suc m) x = odds m (x / 256) + x % 2

sixteen : (x : ℕ) → x % 16 ≤ 15
sixteen x = omega arith

pub sum_lows : (x : ℕ) → byte_sum (lows 8 x) ≡ low_sum 8 x
unfolding lows low_sum
sum_lows x =
    let at : (y : ℕ) → y % 16 ≤ 31 = λ y. omega arith in
    let b : ℕ = x / 256 in
    let c : ℕ = x / 256 / 256 in
    let d : ℕ = x / 256 / 256 / 256 in
    let e : ℕ = x / 256 / 256 / 256 / 256 in
    let f : ℕ = x / 256 / 256 / 256 / 256 / 256 in
    let g : ℕ = x / 256 / 256 / 256 / 256 / 256 / 256 in
    let h : ℕ = x / 256 / 256 / 256 / 256 / 256 / 256 / 256 in
    ap byte_sum (spell (x % 16) (b % 16) (c % 16) (d % 16) (e % 16) (f % 16) (g % 16) (h % 16))
    ∙ sum_eight (x % 16) (b % 16) (c % 16) (d % 16) (e % 16) (f % 16) (g % 16) (h % 16) (at x) (at b) (at c) (at d) (at e) (at f) (at g) (at h)
    ∙ order (x % 16) (b % 16) (c % 16) (d % 16) (e % 16) (f % 16) (g % 16) (h % 16)
  where
    spell : (a b c d e f g h : ℕ)
        → (((((((0 * 256 + h) * 256 + g) * 256 + f) * 256 + e) * 256 + d) * 256 + c) * 256 + b) * 256 + a ≡ half e f g h * 4294967296 + half a b c d
    spell a b c d e f g h = omega arith

    order : (a b c d e f g h : ℕ) → (a + e) + (b + f) + (c + g) + (d + h) ≡ 0 + h + g + f + e + d + c + b + a
    order a b c d e f g h = omega arith

pub sum_halves : (x y : ℕ) → byte_sum (lows 8 x + lows 8 y) ≡ low_sum 8 x + low_sum 8 y
unfolding lows low_sum
sum_halves x y =
    let at : (p q : ℕ) → p % 16 + q % 16 ≤ 31 = λ p q. omega arith in
    let b : ℕ = x / 256 in
    let c : ℕ = x / 256 / 256 in
    let d : ℕ = x / 256 / 256 / 256 in
    let e : ℕ = x / 256 / 256 / 256 / 256 in
    let f : ℕ = x / 256 / 256 / 256 / 256 / 256 in
    let g : ℕ = x / 256 / 256 / 256 / 256 / 256 / 256 in
    let h : ℕ = x / 256 / 256 / 256 / 256 / 256 / 256 / 256 in
    let b' : ℕ = y / 256 in
    let c' : ℕ = y / 256 / 256 in
    let d' : ℕ = y / 256 / 256 / 256 in
    let e' : ℕ = y / 256 / 256 / 256 / 256 in
    let f' : ℕ = y / 256 / 256 / 256 / 256 / 256 in
    let g' : ℕ = y / 256 / 256 / 256 / 256 / 256 / 256 in
    let h' : ℕ = y / 256 / 256 / 256 / 256 / 256 / 256 / 256 in
    ap byte_sum (spell (x % 16) (b % 16) (c % 16) (d % 16) (e % 16) (f % 16) (g % 16) (h % 16) (y % 16) (b' % 16) (c' % 16) (d' % 16) (e' % 16) (f' % 16) (g' % 16) (h' % 16))
    ∙ sum_eight (x % 16 + y % 16) (b % 16 + b' % 16) (c % 16 + c' % 16) (d % 16 + d' % 16) (e % 16 + e' % 16) (f % 16 + f' % 16) (g % 16 + g' % 16) (h % 16 + h' % 16)
    (at x y) (at b b') (at c c') (at d d') (at e e') (at f f') (at g g') (at h h')
    ∙ order (x % 16) (b % 16) (c % 16) (d % 16) (e % 16) (f % 16) (g % 16) (h % 16) (y % 16) (b' % 16) (c' % 16) (d' % 16) (e' % 16) (f' % 16) (g' % 16) (h' % 16)
  where
    spell : (a b c d e f g h a' b' c' d' e' f' g' h' : ℕ)
        → ((((((((0 * 256 + h) * 256 + g) * 256 + f) * 256 + e) * 256 + d) * 256 + c) * 256 + b) * 256 + a) + ((((((((0 * 256 + h') * 256 + g') * 256 + f') * 256 + e') * 256 + d') * 256 + c') * 256 + b') * 256 + a')
        ≡ half (e + e') (f + f') (g + g') (h + h') * 4294967296 + half (a + a') (b + b') (c + c') (d + d')
    spell a b c d e f g h a' b' c' d' e' f' g' h' = omega arith

    order : (a b c d e f g h a' b' c' d' e' f' g' h' : ℕ)
        → ((a + a') + (e + e')) + ((b + b') + (f + f')) + ((c + c') + (g + g')) + ((d + d') + (h + h')) ≡ (0 + h + g + f + e + d + c + b + a) + (0 + h' + g' + f' + e' + d' + c' + b' + a')
    order a b c d e f g h a' b' c' d' e' f' g' h' = omega arith

-- ---- a plane's halves

-- a number's lowest byte, given as two halves
record Cut (p t f x : ℕ) : Type 0 where
  up : x / 256 ≡ p
  low : x % 16 ≡ t
  high : x / 16 % 16 ≡ f
  upper : x / 16 / 256 ≡ p / 16

cut : (p t f : ℕ) → t < 16 → f < 16 → Cut p t f (p * 256 + (t + f * 16))
cut p t f ht hf = record { up = omega arith; low = omega arith; high = omega arith; upper = omega arith }

abbrev pub four_odds : ℕ → ℕ → ℕ → ℕ → ℕ → ℕ
four_odds m a b c d = odds m a + odds m b + odds m c + odds m d

gather : (p q r s a b c d : ℕ) → (p + q + r + s) + (a + b + c + d) ≡ (p + a) + (q + b) + (r + c) + (s + d)
gather p q r s a b c d = omega arith

swap_div : (x : ℕ) → x / 256 / 16 ≡ x / 16 / 256
swap_div x = omega arith

small : (a b c d : ℕ) → a % 2 + b % 2 + c % 2 + d % 2 < 8
small a b c d = omega arith

pub plane-low : (m a b c d : ℕ) → low_sum m (plane m a b c d) ≡ four_odds m a b c d
unfolding low_sum odds plane
plane-low zero a b c d = refl
plane-low (suc m) a b c d =
    let k = cut (plane m (a / 256) (b / 256) (c / 256) (d / 256)) (a % 2 + b % 2 + c % 2 + d % 2) (a / 16 % 2 + b / 16 % 2 + c / 16 % 2 + d / 16 % 2) (omega arith) (omega arith) in
    ap₂ (λ (x y : ℕ). low_sum m x + y) k.up k.low
    ∙ ap (λ (x : ℕ). x + (a % 2 + b % 2 + c % 2 + d % 2)) (plane-low m (a / 256) (b / 256) (c / 256) (d / 256))
    ∙ gather (odds m (a / 256)) (odds m (b / 256)) (odds m (c / 256)) (odds m (d / 256)) (a % 2) (b % 2) (c % 2) (d % 2)

pub plane_high : (m a b c d : ℕ) → low_sum m (plane m a b c d / 16) ≡ four_odds m (a / 16) (b / 16) (c / 16) (d / 16)
unfolding low_sum odds plane
plane_high zero a b c d = refl
plane_high (suc m) a b c d =
    let k = cut (plane m (a / 256) (b / 256) (c / 256) (d / 256)) (a % 2 + b % 2 + c % 2 + d % 2) (a / 16 % 2 + b / 16 % 2 + c / 16 % 2 + d / 16 % 2) (omega arith) (omega arith) in
    ap₂ (λ (x y : ℕ). low_sum m x + y) k.upper k.high
    ∙ ap (λ (x : ℕ). x + (a / 16 % 2 + b / 16 % 2 + c / 16 % 2 + d / 16 % 2)) (plane_high m (a / 256) (b / 256) (c / 256) (d / 256))
    ∙ rw (swap_div a, swap_div b, swap_div c, swap_div d) (gather (odds m (a / 16 / 256)) (odds m (b / 16 / 256)) (odds m (c / 16 / 256)) (odds m (d / 16 / 256)) (a / 16 % 2) (b / 16 % 2) (c / 16 % 2) (d / 16 % 2))

-- two planes, added
both : (p q t f u g : ℕ) → (p * 256 + (t + f * 16)) + (q * 256 + (u + g * 16)) ≡ (p + q) * 256 + ((t + u) + (f + g) * 16)
both p q t f u g = omega arith

swap_sums : (a b c d : ℕ) → (a + b) + (c + d) ≡ (a + c) + (b + d)
swap_sums a b c d = omega arith

module _ (m a b c d e f g h : ℕ) where
  abbrev p : ℕ
  p = plane m (a / 256) (b / 256) (c / 256) (d / 256)

  abbrev q : ℕ
  q = plane m (e / 256) (f / 256) (g / 256) (h / 256)

  abbrev t : ℕ
  t = a % 2 + b % 2 + c % 2 + d % 2

  abbrev u : ℕ
  u = e % 2 + f % 2 + g % 2 + h % 2

  abbrev t' : ℕ
  t' = a / 16 % 2 + b / 16 % 2 + c / 16 % 2 + d / 16 % 2

  abbrev u' : ℕ
  u' = e / 16 % 2 + f / 16 % 2 + g / 16 % 2 + h / 16 % 2

  both_cut : Cut (p + q) (t + u) (t' + u') ((p + q) * 256 + ((t + u) + (t' + u') * 16))
  both_cut = cut (p + q) (t + u) (t' + u')
      (two_small t u (small a b c d) (small e f g h)) (two_small t' u' (small (a / 16) (b / 16) (c / 16) (d / 16)) (small (e / 16) (f / 16) (g / 16) (h / 16)))
    where
      two_small : (x y : ℕ) → x < 8 → y < 8 → x + y < 16
      two_small x y hx hy = omega arith

pub planes_low : (m a b c d e f g h : ℕ) → low_sum m (plane m a b c d + plane m e f g h) ≡ four_odds m a b c d + four_odds m e f g h
unfolding low_sum odds plane
planes_low zero a b c d e f g h = refl
planes_low (suc m) a b c d e f g h =
    let k = both_cut m a b c d e f g h in
    ap (λ (x : ℕ). low_sum m (x / 256) + x % 16) (both (p m a b c d e f g h) (q m a b c d e f g h) (t m a b c d e f g h) (t' m a b c d e f g h) (u m a b c d e f g h) (u' m a b c d e f g h))
    ∙ ap₂ (λ (x y : ℕ). low_sum m x + y) k.up k.low
    ∙ ap (λ (x : ℕ). x + (t m a b c d e f g h + u m a b c d e f g h)) (planes_low m (a / 256) (b / 256) (c / 256) (d / 256) (e / 256) (f / 256) (g / 256) (h / 256))
    ∙ swap_sums (four_odds m (a / 256) (b / 256) (c / 256) (d / 256)) (four_odds m (e / 256) (f / 256) (g / 256) (h / 256)) (t m a b c d e f g h) (u m a b c d e f g h)
    ∙ ap₂ (λ (x y : ℕ). x + y)
    (gather (odds m (a / 256)) (odds m (b / 256)) (odds m (c / 256)) (odds m (d / 256)) (a % 2) (b % 2) (c % 2) (d % 2))
    (gather (odds m (e / 256)) (odds m (f / 256)) (odds m (g / 256)) (odds m (h / 256)) (e % 2) (f % 2) (g % 2) (h % 2))

pub planes_high : (m a b c d e f g h : ℕ) → low_sum m ((plane m a b c d + plane m e f g h) / 16) ≡ four_odds m (a / 16) (b / 16) (c / 16) (d / 16) + four_odds m (e / 16) (f / 16) (g / 16) (h / 16)
unfolding low_sum odds plane
planes_high zero a b c d e f g h = refl
planes_high (suc m) a b c d e f g h =
    let k = both_cut m a b c d e f g h in
    ap (λ (x : ℕ). low_sum m (x / 16 / 256) + x / 16 % 16) (both (p m a b c d e f g h) (q m a b c d e f g h) (t m a b c d e f g h) (t' m a b c d e f g h) (u m a b c d e f g h) (u' m a b c d e f g h))
    ∙ ap₂ (λ (x y : ℕ). low_sum m x + y) k.upper k.high
    ∙ ap (λ (x : ℕ). x + (t' m a b c d e f g h + u' m a b c d e f g h)) (planes_high m (a / 256) (b / 256) (c / 256) (d / 256) (e / 256) (f / 256) (g / 256) (h / 256))
    ∙ swap_sums (four_odds m (a / 256 / 16) (b / 256 / 16) (c / 256 / 16) (d / 256 / 16)) (four_odds m (e / 256 / 16) (f / 256 / 16) (g / 256 / 16) (h / 256 / 16)) (t' m a b c d e f g h) (u' m a b c d e f g h)
    ∙ ap₂ (λ (x y : ℕ). x + y)
    (rw (swap_div a, swap_div b, swap_div c, swap_div d) (gather (odds m (a / 16 / 256)) (odds m (b / 16 / 256)) (odds m (c / 16 / 256)) (odds m (d / 16 / 256)) (a / 16 % 2) (b / 16 % 2) (c / 16 % 2) (d / 16 % 2)))
    (rw (swap_div e, swap_div f, swap_div g, swap_div h) (gather (odds m (e / 16 / 256)) (odds m (f / 16 / 256)) (odds m (g / 16 / 256)) (odds m (h / 16 / 256)) (e / 16 % 2) (f / 16 % 2) (g / 16 % 2) (h / 16 % 2)))
