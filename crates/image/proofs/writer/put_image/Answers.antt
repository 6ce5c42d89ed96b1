-- `put_image` meets its contract: the sections are the image. Assumes nothing.
use mathlib.Core.Path.{◌≡◌, ap, ◌∙◌}
use Prim.Native.Nat.{ℕ, ◌+◌, ◌-◌, ◌*◌, ◌/◌, ◌≤◌}
use native.Mathlib.Omega.{arith}
use lib.Dec.{lit≤}
use lib.ListN.{length, take, drop}
use lib.Seq.{sets}
use Rattle.octets.specs.Bytes.{le}
use Rattle.octets.proofs.Bytes.{length-le}
use Rattle.registers.proofs.Registers.{Sized, length_mapped}
use Rattle.image.specs.Image.{predicate_bytes}
use Rattle.image.proofs.PredicateBytes.{length_bytes}
use Rattle.image.proofs.Writings.{legal-vl, image_bytes, low_count, last, three_items, four_items, past_section, sections_are}
use borrow.Author.Rules.{rules}
use Rattle.image.proofs.writer.put_image.Goals as goal
use Rattle.image.proofs.writer.put_image.Goals.{Start}

-- what each section is asked: the image has room for all
record Room (c : Start) : Type 0 where
  sized : Sized c.args.state
  all : (4 + 3 * 1) + ((4 + 31 * 8) + ((4 + 16 * (c.args.state.vl / 64)) + ((4 + 1 * (c.args.state.vl / 64)) + ((4 + 4 * 1) + (4 + length c.args.words.now * 4))))) ≤ length c.args.image.now
  x : length c.args.state.x ≡ 31
  low : length (take 16 c.args.state.p) * (c.args.state.vl / 64) ≡ 16 * (c.args.state.vl / 64)
  high : length (take (length c.args.state.p - 16) (drop 16 c.args.state.p)) * (c.args.state.vl / 64) ≡ 1 * (c.args.state.vl / 64)
  size : c.args.state.vl ≤ 2048

room : (c : Start) → Room c
room c =
    let s = c.args.state in
    let ok : Sized s = record { xs = search rules; ps = search (rules, length_mapped); cs = search (rules, length_mapped) } in
    let e = image_bytes s ok c.args.words.now in
    record {
      sized = ok;
      all = omega (arith, c.requires.1.1);
      x = ok.xs;
      low = ap (λ (n : ℕ). n * (s.vl / 64)) (low_count s ok c.args.words.now);
      high = ap (λ (l : _). length l * (s.vl / 64)) (last s ok c.args.words.now);
      size = legal-vl s c.requires.0;
    }

pub put_section-x_at-requires : goal.put_section-x_at-requires
put_section-x_at-requires c = let r = room (goal.at.put_section-x_at-requires c).Start in (lit≤ tt, omega arith)

pub put_section-p_at-requires : goal.put_section-p_at-requires
put_section-p_at-requires c = let r = room (goal.at.put_section-p_at-requires c).Start in (lit≤ tt, omega arith)

pub put_section-ffr_at-requires : goal.put_section-ffr_at-requires
put_section-ffr_at-requires c = let r = room (goal.at.put_section-ffr_at-requires c).Start in (omega arith, omega arith)

pub put_section-flags_at-requires : goal.put_section-flags_at-requires
put_section-flags_at-requires c = let r = room (goal.at.put_section-flags_at-requires c).Start in (omega arith, omega arith)

pub put_section-words_at-requires : goal.put_section-words_at-requires
put_section-words_at-requires c = let r = room (goal.at.put_section-words_at-requires c).Start in (lit≤ tt, omega arith)

pub put_section-requires : goal.put_section-requires
put_section-requires c = let r = room (goal.at.put_section-requires c).Start in (lit≤ tt, omega arith)

pub returns : goal.returns
returns c =
    let a = c.args in
    let r = room (goal.at.returns c).Start in
    let k = a.state.vl / 64 in
    c.put_section.ensures.image_after
    ∙ past_section (le 1) 1 (length-le 1) _ _ _ _ _ _ c.put_section-words_at.ensures.image_after c.put_section-words_at.ensures.value
    ∙ past_section (predicate_bytes k) k (length_bytes k) _ _ _ _ _ _ c.put_section-flags_at.ensures.image_after c.put_section-flags_at.ensures.value
    ∙ past_section (predicate_bytes k) k (length_bytes k) _ _ _ _ _ _ c.put_section-ffr_at.ensures.image_after c.put_section-ffr_at.ensures.value
    ∙ past_section (le 8) 8 (length-le 8) _ _ _ _ _ _ c.put_section-p_at.ensures.image_after c.put_section-p_at.ensures.value
    ∙ past_section (le 1) 1 (length-le 1) _ _ _ _ _ _ c.put_section-x_at.ensures.image_after c.put_section-x_at.ensures.value
    ∙ ap (sets a.image.now 0) (sections_are a.state r.sized a.words.now _ _ (three_items a.state _ _ c.from.ensures c.from-2.ensures) (four_items a.state.flags _ _ _ _ c.from-3.ensures c.from-4.ensures c.from-5.ensures c.from-6.ensures))
