-- `start_of` meets its contract: the sections that were passed end where the next begins. Assumes nothing.
use mathlib.Core.Path.{refl, ap, ◌∙◌}
use borrow.Author.Rules.{rules}
use Rattle.image.specs.Sections.{start_of, place_of}
use Rattle.image.proofs.SectionLaws.{start_turn, past-after, place_at}
use Rattle.image.proofs.sections.start_of.Goals as goal
use Rattle.image.proofs.sections.start_of.Goals.{in-Some, in-None}

pub loop-i-init : goal.loop-i-init
unfolding start_of
loop-i-init c = refl

pub loop-i-preserved : goal.loop-i-preserved
loop-i-preserved c =
    elim c.match-get.branch [
      | in-Some w ↦
          let found = w.in-Some.ensures.lookup in
          start_turn _ _ (place_of w.in-Some.passed.now) _ _ _ (ap place_of found.1 ∙ place_at _ _ (search rules)) c.loop-i.invariant (search rules)
      | in-None w ↦
          let passed = past-after c.vector_length-vl.result c.loop-i.i c.loop-i.rest.now w.in-None.ensures.lookup.0 in
          start_turn _ _ _ _ _ _ refl c.loop-i.invariant (search rules)
    ]
