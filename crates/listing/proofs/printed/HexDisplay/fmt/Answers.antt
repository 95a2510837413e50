use Rattle.std.proofs.Common.{◌≡◌, ◌*◌, [], ◌++◌, length, sym, ◌∙◌, arith, rules, append-nil}
use Rattle.std.proofs.Output.{has_written_append, has_written_of_eq}
use Rattle.std.proofs.lemmas.List.{nil_from_length, length-take-le}
use Rattle.std.specs.Slice.Iter.{chunks_rest}
use Rattle.listing.specs.Listed.{hexes}
use Rattle.listing.proofs.Writing.{part_more}
use Rattle.listing.proofs.printed.HexDisplay.fmt.Goals as goal

pub loop-part-init : goal.loop-part-init
loop-part-init g c = (search rules, λ plain. ([], search rules, search rules))

pub slice_bounds-room-end : goal.slice_bounds-room-end
slice_bounds-room-end g c = omega (arith, c.loop-part.invariant.0, c.in-Some.ensures.steps.1.1)

pub slice_bounds-digits-end : goal.slice_bounds-digits-end
slice_bounds-digits-end g c =
    sym (length-take-le (2 * length c.in-Some.part.now) c.loop-part.room (omega (arith, c.loop-part.invariant.0, c.in-Some.ensures.steps.1.1)))

pub loop-part-preserved : goal.loop-part-preserved
loop-part-preserved g c =
    let part = c.in-Some.part.now in
    let steps = c.in-Some.ensures.steps in
    let text : c.in-Ok.text.now ≡ hexes part = c.in-Ok.ensures.cases.0 ∙ c.put_digits.ensures.digits in (
      steps.0 ∙ c.loop-part.invariant.0,
      λ plain.
          let so_far = c.loop-part.invariant.1 plain in (
            so_far.0 ++ c.in-Ok.text.now,
            has_written_append _ _ _ _ _ _ so_far.1 (search rules),
            part_more so_far.0 c.in-Ok.text.now part (chunks_rest c.loop-part.part-iterator) (chunks_rest c.next.new.self) c.args.self.now.0.now text steps.1.0 so_far.2,
          ),
    )

pub returns-clause-writes : goal.returns-clause-writes
returns-clause-writes g c = λ plain _.
    let so_far = c.loop-part.invariant.1 plain in
    let none = nil_from_length _ c.in-None.ensures.steps.1.0 in
    has_written_of_eq _ _ _ _ _ (rw (none, append-nil) at so_far.2) so_far.1
