-- Laws of a predicate's bytes, over their number. Assumes nothing.
use mathlib.Core.Bool.{Bool, false}
use mathlib.Core.List.{List, [], ◌∷◌, ◌++◌, append_assoc}
use mathlib.Core.Path.{◌≡◌, refl, sym, ap, ◌∙◌}
use Prim.Native.Nat.{ℕ, zero, suc, ◌+◌, ◌-◌, ◌*◌, ◌/◌, ◌%◌, ◌^◌, ◌≤◌, ◌<◌, min}
use native.Mathlib.Decide.{dec_le, dec_lt}
use native.Mathlib.Nat.{suc-add, mul_assoc, pow-suc, div-one, div-div-eq-div-mul, div-lt_iff_lt-mul, zero-div, zero-mod, mod-one}
use native.Mathlib.Omega.{arith}
use lib.Arith.{digits_div, digits_mod}
use lib.Dec.{lit<}
use lib.ListN.{length, take, drop, get_or, length-drop}
use lib.Pow.{pow-add, mod-pow-add, shr-shr}
use lib.Seq.{sets, sets-eq, length-take-le, drop-drop}
use borrow.Rule.Slice.PartMut.{put_mid, same_len_mid}
use borrow.Author.Tests.{le-leb, lt-leb}
use Rattle.bits.specs.Bits.{test_bit, number}
use Rattle.bits.proofs.Bits.{number_lt, number_cong, number-test_bit, number-whole, test_bit-number}
use Rattle.bits.proofs.Counts.{above_none}
use Rattle.bits.proofs.Searches.{some_no, some-none}
use Rattle.predicates.specs.declared.Predicate.{Predicate}
use Rattle.predicates.specs.Predicate.{bit_at, pack, has_bit_from}
use Rattle.predicates.specs.Words.{Words}
use Rattle.predicates.proofs.Words.{word, word_bits, pack-bit, pack_bits, pack_cong, four_words}
use Rattle.octets.specs.Bytes.{le, value, parts, AreBytes}
use Rattle.std.specs.Int.{to_le_bytes}
use mir.Syntax.{w64}
use Rattle.image.specs.Image.{predicate_bytes}
use Rattle.image.specs.Reading.{predicate_of}
use Rattle.octets.proofs.Bytes.{length-le, value-le, value-below, le-value-at, bytes_drop, parts_at, sets_append, sets_all}

-- k bytes have 8 k bits
pub byte_bits : (k : ℕ) → 256 ^ k ≡ 2 ^ (8 * k)
byte_bits zero = refl
byte_bits (suc k) =
    let e : 8 * suc k ≡ 8 * k + 8 = omega arith in
    pow-suc 256 k ∙ ap (λ (x : ℕ). x * 256) (byte_bits k) ∙ sym (ap (λ (x : ℕ). 2 ^ x) e ∙ pow-add 2 (8 * k) 8)

-- ---- a part of a number

pub value-drop : (k : ℕ) (bs : List ℕ) → AreBytes bs → value (drop k bs) ≡ value bs / 2 ^ (8 * k)
unfolding value
value-drop zero bs h = sym (div-one (value bs))
value-drop (suc k) [] h = sym (zero-div (2 ^ (8 * suc k)))
value-drop (suc k) (b ∷ bs) h =
    let e : 8 + 8 * k ≡ 8 * suc k = omega arith in
    value-drop k bs (λ i. h (suc i)) ∙ ap (λ (x : ℕ). x / 2 ^ (8 * k)) (sym (digits_div (value bs) (h 0))) ∙ shr-shr (value bs * 256 + b) 8 (8 * k)
    ∙ ap (λ (x : ℕ). (value bs * 256 + b) / 2 ^ x) e

pub value-take : (k : ℕ) (bs : List ℕ) → AreBytes bs → value (take k bs) ≡ value bs % 2 ^ (8 * k)
unfolding value
value-take zero bs h = sym (mod-one (value bs))
value-take (suc k) [] h = sym (zero-mod (2 ^ (8 * suc k)))
value-take (suc k) (b ∷ bs) h =
    let e : 8 * k + 8 ≡ 8 * suc k = omega arith in
    rw (value-take k bs (λ i. h (suc i)), ← e, mod-pow-add (value bs * 256 + b) (8 * k) 8, digits_div (value bs) (h 0), digits_mod (value bs) (h 0))

-- the word at byte `at` of a number
pub word_of : (bs : List ℕ) (at : ℕ) → AreBytes bs → AreBytes (drop at bs) → value (take 8 (drop at bs)) ≡ number (test_bit (value bs)) (8 * at) 64
word_of bs at h d = rw (value-take 8 (drop at bs) d, value-drop at bs h, number-test_bit)

-- bits of a number, taken apart
number-add : (f : ℕ → Bool) (at a b : ℕ) → number f at (a + b) ≡ number f (at + a) b * 2 ^ a + number f at a
unfolding number
number-add f at zero b =
    let e : 0 + b ≡ b = omega arith in
    let z : at + 0 ≡ at = omega arith in
    rw (e, z) (omega arith)
number-add f at (suc a) b =
    let t : at + suc a ≡ suc at + a = omega arith in
    let z : number f (suc at + a) b * 2 ^ suc a ≡ number f (suc at + a) b * 2 ^ a * 2 = rw (pow-suc, mul_assoc) in
    rw (suc-add, t, z, number-add f (suc at) a b) (omega arith)

-- bytes of a number, taken apart
le_skip : (k x y : ℕ) → le k (y * 256 ^ k + x) ≡ le k x
unfolding le
le_skip zero x y = refl
le_skip (suc k) x y =
    let z : y * 256 ^ suc k ≡ y * 256 ^ k * 256 = rw (pow-suc, mul_assoc) in
    let m : (y * 256 ^ k * 256 + x) % 256 ≡ x % 256 = omega arith in
    let d : (y * 256 ^ k * 256 + x) / 256 ≡ y * 256 ^ k + x / 256 = omega arith in
    rw (z, m, d, le_skip k (x / 256) y)

le-append : (a b x y : ℕ) → x < 256 ^ a → le (a + b) (y * 256 ^ a + x) ≡ le a x ++ le b y
unfolding le
le-append zero b x y h =
    let e : 0 + b ≡ b = omega arith in
    let z : y * 256 ^ 0 + x ≡ y = omega arith in
    rw (e, z)
le-append (suc a) b x y h =
    let z : y * 256 ^ suc a ≡ y * 256 ^ a * 256 = rw (pow-suc, mul_assoc) in
    let m : (y * 256 ^ a * 256 + x) % 256 ≡ x % 256 = omega arith in
    let d : (y * 256 ^ a * 256 + x) / 256 ≡ y * 256 ^ a + x / 256 = omega arith in
    let q : x / 256 < 256 ^ a = (div-lt_iff_lt-mul (lit< tt)).1 (rw pow-suc at h) in
    rw (z, suc-add, m, d, le-append a b (x / 256) y q)

-- the first bytes of the eight that a word has
pub low_bytes : (k n : ℕ) (bs : List ℕ) → k ≤ 8 → bs ≡ to_le_bytes w64 n → take k bs ≡ le k n
unfolding le
low_bytes k n bs h e = ap (take k) (e ∙ sym eight) ∙ first k 8 n h
  where
    first : (k m x : ℕ) → k ≤ m → take k (le m x) ≡ le k x
    first zero m x h = refl
    first (suc k) zero x h = absurd (omega arith)
    first (suc k) (suc m) x h = ap (λ (l : List ℕ). x % 256 ∷ l) (first k m (x / 256) (omega arith))

    eight : le 8 n ≡ to_le_bytes w64 n
    eight = simp div-div-eq-div-mul

-- n bytes of bits from `at` on: fewer than a word, or a word and the rest
few_bytes : (f : ℕ → Bool) (at n : ℕ) → n ≤ 8 → le n (number f at (8 * n)) ≡ le n (number f at 64)
few_bytes f at n h =
    let e : 64 ≡ 8 * n + (64 - 8 * n) = omega arith in
    sym (ap (λ (k : ℕ). le n (number f at k)) e ∙ ap (le n) (number-add f at (8 * n) (64 - 8 * n) ∙ ap (λ (x : ℕ). number f (at + 8 * n) (64 - 8 * n) * x + number f at (8 * n)) (sym (byte_bits n)))
    ∙ le_skip n (number f at (8 * n)) (number f (at + 8 * n) (64 - 8 * n)))

more_bytes : (f : ℕ → Bool) (at n : ℕ) → 8 ≤ n → le n (number f at (8 * n)) ≡ le 8 (number f at 64) ++ le (n - 8) (number f (at + 64) (8 * (n - 8)))
more_bytes f at n h =
    let e : n ≡ 8 + (n - 8) = omega arith in
    let d : 8 * n ≡ 64 + 8 * (n - 8) = omega arith in
    ap (λ (k : ℕ). le n (number f at k)) d ∙ ap (λ (k : ℕ). le k (number f at (64 + 8 * (n - 8)))) e
    ∙ ap (le (8 + (n - 8))) (number-add f at 64 (8 * (n - 8))) ∙ le-append 8 (n - 8) (number f at 64) (number f (at + 64) (8 * (n - 8))) (number_lt f at 64)

-- a list stored by lending the n places from `at` on: g of k
pub put_part : (g : ℕ → List ℕ) (l new : List ℕ) (at n k : ℕ) → n ≡ k → at + k ≤ length l → new ≡ g (length (take n (drop at l))) → length new ≡ length (take n (drop at l))
    → (put_mid at n l new ≡ sets l at (g k)) × (length (g k) ≡ k) × (length (put_mid at n l new) ≡ length l)
put_part g l new at n k e h en el =
    let m : length (take n (drop at l)) ≡ k = ap (λ (i : ℕ). length (take i (drop at l))) e ∙ length-take-le k (drop at l) (omega (arith, length-drop at l)) in
    let v : new ≡ g k = en ∙ ap g m in
    let w : length new ≡ k = el ∙ m in
    (rw (e, drop-drop, ← v, sets-eq new l at (omega arith), w, append_assoc), sym (ap length v) ∙ w, same_len_mid at n l new el)

-- ---- the loop that writes a predicate word by word: what is left to write

abbrev pub bytes_from : ℕ → Predicate → ℕ → List ℕ
bytes_from size p j = le (size - j * 8) (number (bit_at p) (j * 64) (8 * (size - j * 8)))

pub words_start : (size : ℕ) (p : Predicate) (l : List ℕ) → length l ≡ size → sets l (0 * 8) (bytes_from size p 0) ≡ predicate_bytes size p
unfolding predicate_bytes
words_start size p l e =
    let n : size - 0 * 8 ≡ size = omega arith in
    ap (λ (k : ℕ). sets l 0 (le k (number (bit_at p) 0 (8 * k)))) n ∙ sets_all l (le size (number (bit_at p) 0 (8 * size))) size e (length-le size (number (bit_at p) 0 (8 * size)))

pub words_end : (size : ℕ) (p : Predicate) (l : List ℕ) (j : ℕ) → size ≤ j * 8 → sets l (j * 8) (bytes_from size p j) ≡ l
unfolding le
words_end size p l j h = let e : size - j * 8 ≡ 0 = omega arith in rw e

pub words_turn : (size : ℕ) (p : Predicate) (l m : List ℕ) (j n : ℕ) → Words p → n ≡ min (size - j * 8) 8 → m ≡ sets l (j * 8) (le n (word p j))
    → sets m ((j + 1) * 8) (bytes_from size p (j + 1)) ≡ sets l (j * 8) (bytes_from size p j)
unfolding le
words_turn size p l m j n ok en em =
    elim (dec_le (size - j * 8) 8) [
      | yes k ↦
          let a : min (size - j * 8) 8 ≡ size - j * 8 = omega arith in
          let z : size - (j + 1) * 8 ≡ 0 = omega arith in
          rw (em, en, a, z, few_bytes (bit_at p) (j * 64) (size - j * 8) k, word_bits p ok j)
      | no k ↦
          let a : min (size - j * 8) 8 ≡ 8 = omega arith in
          let z : size - (j + 1) * 8 ≡ size - j * 8 - 8 = omega arith in
          let i : (j + 1) * 64 ≡ j * 64 + 64 = omega arith in
          let e : (j + 1) * 8 ≡ j * 8 + length (le 8 (word p j)) = rw (length-le 8 (word p j)) (omega arith) in
          rw (em, en, a, z, i, e, more_bytes (bit_at p) (j * 64) (size - j * 8) (omega arith), word_bits p ok j)
          (sym (sets_append l (j * 8) (le 8 (word p j)) (le (size - j * 8 - 8) (number (bit_at p) (j * 64 + 64) (8 * (size - j * 8 - 8))))))
    ]

-- a turn, where the bytes from `at` to `end` are lent to the word
pub lent_turn : (size : ℕ) (p : Predicate) (l new : List ℕ) (j at end : ℕ) → Words p → length l ≡ size → at ≡ min (j * 8) size → end ≡ min (at + 8) size
    → new ≡ le (length (take (end - at) (drop at l))) (word p j) → sets (put_mid at (end - at) l new) ((j + 1) * 8) (bytes_from size p (j + 1)) ≡ sets l (j * 8) (bytes_from size p j)
unfolding le
lent_turn size p l new j at end ok el ea ee en =
    let n : end - at ≡ min (size - j * 8) 8 = omega arith in
    let m = put_part (λ k. le k (word p j)) l new at (end - at) (min (size - j * 8) 8) n (omega arith) en (ap length en ∙ length-le (length (take (end - at) (drop at l))) (word p j)) in
    elim (dec_lt (j * 8) size) [
      | yes h ↦ let a : at ≡ j * 8 = omega arith in words_turn size p l _ j (min (size - j * 8) 8) ok refl (m.0 ∙ ap (λ (i : ℕ). sets l i (le (min (size - j * 8) 8) (word p j))) a)
      | no h ↦ words_end size p _ (j + 1) (omega arith) ∙ m.0 ∙ none (min (size - j * 8) 8) (omega arith) ∙ sym (words_end size p l j (omega arith))
    ]
  where
    none : (k : ℕ) → k ≡ 0 → sets l at (le k (word p j)) ≡ l
    none k e = rw e

pub length_bytes : (k : ℕ) (p : Predicate) → length (predicate_bytes k p) ≡ k
unfolding predicate_bytes
length_bytes k p = length-le k (number (bit_at p) 0 (8 * k))

-- ---- both round trips, and no bit at or above PL

pub predicate_back : (k : ℕ) (p : Predicate) → Words p → has_bit_from (8 * k) p ≡ false → predicate_of (predicate_bytes k p) ≡ p
unfolding predicate_of predicate_bytes has_bit_from
predicate_back k p ok h =
    let w : ℕ = number (bit_at p) 0 (8 * k) in
    let l : w < 2 ^ (8 * k) = number_lt (bit_at p) 0 (8 * k) in
    let v : value (le k w) ≡ w = value-le k w (rw byte_bits l) in
    let same : (b : ℕ) → b < 256 → test_bit w b ≡ bit_at p b =
    λ b m.
    elim (dec_lt b (8 * k)) [
      | yes i ↦ let z : 0 + b ≡ b = omega arith in test_bit-number (bit_at p) 0 (8 * k) b i ∙ ap (bit_at p) z
      | no i ↦ let n : 8 * k ≤ b = omega arith in above_none w (8 * k) b l n ∙ sym (rw (le-leb (8 * k) b n) at (some-none _ 256 h b m))
    ] in
    ap (λ (x : ℕ). pack (test_bit x)) v ∙ pack_cong (test_bit w) (bit_at p) same ∙ pack_bits p ok

pub predicate_again : (k : ℕ) (bs : List ℕ) → k ≤ 32 → length bs ≡ k → AreBytes bs → predicate_bytes k (predicate_of bs) ≡ bs
unfolding predicate_of predicate_bytes
predicate_again k bs h e b =
    let v : value bs < 2 ^ (8 * k) = rw byte_bits at (value-below k bs (omega arith) b) in
    ap (le k) (number_cong (bit_at (pack (test_bit (value bs)))) (test_bit (value bs)) 0 0 (8 * k) (λ i l. pack-bit (test_bit (value bs)) (0 + i) (omega arith)) ∙ number-whole (value bs) (8 * k) v)
    ∙ le-value-at k bs e b

pub predicate_within : (k : ℕ) (bs : List ℕ) → length bs ≤ k → AreBytes bs → has_bit_from (8 * k) (predicate_of bs) ≡ false
unfolding predicate_of has_bit_from
predicate_within k bs h b =
    let v : value bs < 2 ^ (8 * k) = rw byte_bits at (value-below k bs h b) in
    some_no _ 256
    (λ i l.
    elim (dec_le (8 * k) i) [
      | yes m ↦ rw (le-leb (8 * k) i m) (pack-bit (test_bit (value bs)) i l ∙ above_none (value bs) (8 * k) i v m)
      | no m ↦ rw (lt-leb (8 * k) i (omega arith))
    ])

-- four words read are the predicate
pub from_words : (bs : List ℕ) → AreBytes bs → ◌≡◌ {A = Predicate} (record { words = parts value 8 4 bs }) (predicate_of bs)
unfolding predicate_of parts
from_words bs h =
    let w : (i : ℕ) → i < 4 → get_or (parts value 8 4 bs) i 0 ≡ number (test_bit (value bs)) (8 * (i * 8)) 64 = λ i l. parts_at value 8 4 i bs 0 l ∙ word_of bs (i * 8) h (bytes_drop (i * 8) bs h) in
    four_words (test_bit (value bs)) _ _ _ _ (w 0 (lit< tt)) (w 1 (lit< tt)) (w 2 (lit< tt)) (w 3 (lit< tt))
