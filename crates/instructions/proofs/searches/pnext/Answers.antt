-- `pnext` meets its contract. Assumes nothing.
use Rattle.std.proofs.Common.{◌≡◌, ℕ, ◌*◌, ◌%◌, ◌^◌, ◌&&◌, ap, ◌∙◌, arith}
use Rattle.bits.specs.Search.{first_from}
use Rattle.bits.specs.Size.{shift}
use Rattle.bits.proofs.Sizes.{shift-lt, shifted}
use Rattle.predicates.specs.declared.Predicate.{Predicate}
use Rattle.predicates.specs.PredTest.{nzcv}
use Rattle.predicates.specs.Predicate.{bit_at, pack, active}
use Rattle.predicates.proofs.Live.{elements-le}
use Rattle.instructions.specs.Searches.{next_element, pnext_of}
use Rattle.instructions.proofs.Effects.{one_is}
use Rattle.instructions.proofs.SearchLaws.{next_is, next-none, next-none_flags, next_found, next_found_flags}
use Rattle.instructions.proofs.searches.pnext.Goals as goal
use Rattle.instructions.proofs.searches.pnext.Goals.{After-next_active-e}

-- what the search has found
found : (c : After-next_active-e) → let a = c.args in c.next_active-e.result ≡ next_element a.size a.pv a.pdn a.vl
found c =
    let a = c.args in
    next_is a.size a.pv a.pdn _ _ a.vl _ _ c.live-live.ensures c.and.ensures
    (c.next_active-e.ensures ∙ ap (λ (x : ℕ). first_from (active (shift a.size) a.pv) x c.elements-n.result) c.end_element.ensures)
    c.elements-n.ensures

pub returns-then-n-e : goal.returns-then-n-e
unfolding pnext_of
returns-then-n-e c =
    let a = c.args in
    let n = c.elements-n.ensures in
    one_is _ _ _ _ _ c.flagged.ensures
    (c.none.ensures ∙ next-none a.size a.pv a.pdn a.vl _ _ (found (goal.at.returns-then-n-e c).After-next_active-e) n c.if-n-e.true)
    (c.nzcv.ensures ∙ ap nzcv (next-none_flags a.size a.pv a.pdn a.vl _ _ (found (goal.at.returns-then-n-e c).After-next_active-e) n c.if-n-e.true))

pub returns : goal.returns
unfolding pnext_of
returns c =
    let a = c.args in
    let e = c.next_active-e.result in
    let n = c.elements-n.ensures in
    let left = c.if-n-e.false in
    let at : (e * 2 ^ c.shift.result) % 2 ^ 64 ≡ e * 2 ^ shift a.size =
    ap (λ (x : ℕ). (e * 2 ^ x) % 2 ^ 64) c.shift.ensures ∙ shifted e (shift a.size) (omega (arith, n, elements-le a.vl a.size)) (shift-lt a.size) in
    let masked = c.and-2.ensures ∙ ap (λ (q : Predicate). pack (λ b. bit_at a.pv b && bit_at q b)) c.live-live.ensures in
    one_is _ _ _ _ _ c.flagged-2.ensures
    (c.only_element.ensures ∙ next_found a.size a.pv a.pdn a.vl _ _ (found (goal.at.returns c).After-next_active-e) n (omega arith))
    (c.test_only-flags.ensures
    ∙ ap nzcv (next_found_flags a.size a.pv a.pdn a.vl _ _ (found (goal.at.returns c).After-next_active-e) n (omega arith) _ masked _ at))
