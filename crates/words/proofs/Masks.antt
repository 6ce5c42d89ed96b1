-- A word under the mask of a layout's fixed bits is the layout's fixed word exactly when it matches the layout.
use Prim.Native.Nat.{ℕ, ◌+◌, ◌*◌, ◌-◌, ◌<◌, ◌≤◌, ◌/◌, ◌%◌, ◌^◌}
use mathlib.Core.Path.{◌≡◌, refl, sym, ap, ap₂, ◌∙◌}
use mathlib.Core.Bool.{Bool, true, false, ◌&&◌}
use mathlib.Core.List.{List, [], ◌∷◌}
use native.Mathlib.Nat.{mod-lt, mod-eq_of_lt, div-add-mod'}
use native.Mathlib.Omega.{arith}
use lib.Arith.{digits_lt}
use lib.Bits.{bit_and, and_block, and_mask, and_mod, and_le_r, and_zero_r}
use lib.Dec.{ltb, eqb}
use lib.Pow.{pow_pos, pow_mono, pow-add, high, low}
use borrow.Author.Tests.{ltb-true, eqb-true, eq-eqb}
use Rattle.words.specs.Layout.{Piece, span, slice, matches, place}
use Rattle.words.specs.Layout.Piece.{fixed, field}
use Rattle.words.specs.Inside.{mask_of}
use Rattle.words.proofs.Codec.{both, and_pair, well_formed}

-- what the mask keeps of a word
abbrev kept : List Piece → ℕ → ℕ
kept [] w = 0
kept (fixed n v ∷ ps) w = slice (span ps) n w * 2 ^ span ps + kept ps w
kept (field n ∷ ps) w = kept ps w

-- masks, what they keep and fixed words are as wide as the layout
wider : (a n s : ℕ) → a < 2 ^ s → a < 2 ^ (n + s)
wider a n s h =
    let m : 2 ^ s ≤ 2 ^ (n + s) = pow_mono (omega arith) in
    omega arith

mask-lt : (ps : List Piece) → mask_of ps < 2 ^ span ps
mask-lt [] = omega arith
mask-lt (fixed n v ∷ ps) =
    let p : 0 < 2 ^ n = pow_pos n in
    rw pow-add (digits_lt (omega arith) (mask-lt ps))
mask-lt (field n ∷ ps) = wider (mask_of ps) n (span ps) (mask-lt ps)

kept-lt : (ps : List Piece) (w : ℕ) → kept ps w < 2 ^ span ps
kept-lt [] w = omega arith
kept-lt (fixed n v ∷ ps) w = rw pow-add (digits_lt (mod-lt (w / 2 ^ span ps) (pow_pos n)) (kept-lt ps w))
kept-lt (field n ∷ ps) w = wider (kept ps w) n (span ps) (kept-lt ps w)

word-lt : (ps : List Piece) → well_formed ps ≡ true → place ps [] < 2 ^ span ps
word-lt [] f = omega arith
word-lt (fixed n v ∷ ps) f =
    let (l, g) = both (ltb v (2 ^ n)) (well_formed ps) f in
    rw pow-add (digits_lt (ltb-true v (2 ^ n) l) (word-lt ps g))
word-lt (field n ∷ ps) f = wider (place ps []) n (span ps) (word-lt ps f)

-- bits above a mask do not matter to it
under : (w m s : ℕ) → m < 2 ^ s → bit_and (w % 2 ^ s) m ≡ bit_and w m
under w m s h =
    let l : bit_and w m < 2 ^ s = omega (arith, and_le_r w m) in
    ap (bit_and (w % 2 ^ s)) (sym (mod-eq_of_lt h)) ∙ sym (and_mod w m s) ∙ mod-eq_of_lt l

and-kept : (ps : List Piece) (w : ℕ) → bit_and w (mask_of ps) ≡ kept ps w
and-kept [] w = and_zero_r w
and-kept (fixed n v ∷ ps) w =
    let s : ℕ = span ps in
    let parts : w ≡ w / 2 ^ s * 2 ^ s + w % 2 ^ s = sym (div-add-mod' w (2 ^ s)) in
    ap (λ (x : ℕ). bit_and x (mask_of (fixed n v ∷ ps))) parts
    ∙ and_block s (w / 2 ^ s) (2 ^ n - 1) (w % 2 ^ s) (mask_of ps) (mod-lt w (pow_pos s)) (mask-lt ps)
    ∙ ap₂ (λ (x y : ℕ). x * 2 ^ s + y) (and_mask (w / 2 ^ s) n) (under w (mask_of ps) s (mask-lt ps) ∙ and-kept ps w)
and-kept (field n ∷ ps) w = and-kept ps w

-- numbers of two parts are the same by their parts
same_bool : (b c : Bool) → (b ≡ true → c ≡ true) → (c ≡ true → b ≡ true) → b ≡ c
same_bool true true f g = refl
same_bool true false f g = sym (f refl)
same_bool false true f g = g refl
same_bool false false f g = refl

eqb_parts : (a v r t s : ℕ) → r < 2 ^ s → t < 2 ^ s → eqb (a * 2 ^ s + r) (v * 2 ^ s + t) ≡ (eqb a v && eqb r t)
eqb_parts a v r t s h k = same_bool (eqb (a * 2 ^ s + r) (v * 2 ^ s + t)) (eqb a v && eqb r t) split join
  where
    split : eqb (a * 2 ^ s + r) (v * 2 ^ s + t) ≡ true → (eqb a v && eqb r t) ≡ true
    split q =
        let e : a * 2 ^ s + r ≡ v * 2 ^ s + t = eqb-true (a * 2 ^ s + r) (v * 2 ^ s + t) q in
        and_pair
        (eq-eqb a v (sym (high a s h) ∙ ap (λ (x : ℕ). x / 2 ^ s) e ∙ high v s k))
        (eq-eqb r t (sym (low a s h) ∙ ap (λ (x : ℕ). x % 2 ^ s) e ∙ low v s k))

    join : (eqb a v && eqb r t) ≡ true → eqb (a * 2 ^ s + r) (v * 2 ^ s + t) ≡ true
    join q =
        let (p, o) = both (eqb a v) (eqb r t) q in
        eq-eqb (a * 2 ^ s + r) (v * 2 ^ s + t) (ap₂ (λ (x y : ℕ). x * 2 ^ s + y) (eqb-true a v p) (eqb-true r t o))

kept-matches : (ps : List Piece) (w : ℕ) → well_formed ps ≡ true → eqb (kept ps w) (place ps []) ≡ matches ps w
kept-matches [] w f = refl
kept-matches (fixed n v ∷ ps) w f =
    let g : well_formed ps ≡ true = (both (ltb v (2 ^ n)) (well_formed ps) f).1 in
    eqb_parts (slice (span ps) n w) v (kept ps w) (place ps []) (span ps) (kept-lt ps w) (word-lt ps g)
    ∙ ap (λ (b : Bool). eqb (slice (span ps) n w) v && b) (kept-matches ps w g)
kept-matches (field n ∷ ps) w f = kept-matches ps w f

-- the code's test is the definition's
pub masked : (ps : List Piece) (w : ℕ) → well_formed ps ≡ true → eqb (bit_and w (mask_of ps)) (place ps []) ≡ matches ps w
masked ps w f = ap (λ (x : ℕ). eqb x (place ps [])) (and-kept ps w) ∙ kept-matches ps w f
