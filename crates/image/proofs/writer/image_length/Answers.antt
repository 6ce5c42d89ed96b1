-- `image_length` meets its contract: the length and the sections that are left make the image. Assumes nothing.
use native.Mathlib.Omega.{arith}
use Rattle.image.proofs.SectionLaws.{place_at}
use Rattle.image.proofs.Writings.{length_start, length_left, length-most, length_end}
use Rattle.image.proofs.writer.image_length.Goals as goal

pub loop-section-init : goal.loop-section-init
loop-section-init c = length_start _ _

pub overflow_mul-length-in-loop-section : goal.overflow_mul-length-in-loop-section
overflow_mul-length-in-loop-section c =
    let l = length_left _ _ _ _ c.loop-section-test.true (place_at _ _ c.loop-section-test.true) c.shape-shape.ensures in
    let m = length-most c.args.vl c.args.words c.requires.0 c.requires.1 in
    omega (arith, c.loop-section.invariant)

pub overflow_add-length : goal.overflow_add-length
overflow_add-length c =
    let l = length_left _ _ _ _ c.loop-section-test.true (place_at _ _ c.loop-section-test.true) c.shape-shape.ensures in
    let m = length-most c.args.vl c.args.words c.requires.0 c.requires.1 in
    omega (arith, c.loop-section.invariant)

pub overflow_add-length-in-loop-section : goal.overflow_add-length-in-loop-section
overflow_add-length-in-loop-section c =
    let l = length_left _ _ _ _ c.loop-section-test.true (place_at _ _ c.loop-section-test.true) c.shape-shape.ensures in
    let m = length-most c.args.vl c.args.words c.requires.0 c.requires.1 in
    omega (arith, c.loop-section.invariant)

pub loop-section-preserved : goal.loop-section-preserved
loop-section-preserved c =
    let l = length_left _ _ _ _ c.loop-section-test.true (place_at _ _ c.loop-section-test.true) c.shape-shape.ensures in
    omega (arith, c.loop-section.invariant)

pub returns : goal.returns
returns c = length_end _ _ _ _ c.loop-section.invariant c.loop-section-test.false
