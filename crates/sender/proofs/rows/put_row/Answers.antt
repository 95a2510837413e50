use Rattle.std.proofs.Common.{◌+◌, ◌∷◌, ◌++◌, sym, ◌∙◌, arith}
use Rattle.grammar.specs.Format.{layout, big}
use Rattle.sender.specs.Heads.{front_at}
use Rattle.grammar.proofs.Numbers.{length_big}
use Rattle.sender.proofs.Penned.{behind, wrote_as}
use Rattle.sender.proofs.Looked.{held_said}
use Rattle.sender.proofs.Headed.{Headed, headed}
use Rattle.sender.proofs.rows.put_row.Goals.{Start}
use Rattle.sender.proofs.rows.put_row.Goals as goal

-- what is known of the row at the start
head : (g : _) (c : Start g) → Headed c.args.default (g.L.Location.rows c.args.l.now c.args.step.now.mark) (g.L.Location.rows c.args.l.now c.args.step.now.rest) c.args.step.now.row
head g c = headed _ _ _ _ c.requires.there c.requires.follows c.requires.good

pub inside_size-inside-requires : goal.inside_size-inside-requires
inside_size-inside-requires g c = (head g (goal.at.inside_size-inside-requires g c).Start).inside

pub overflow_add-front_size : goal.overflow_add-front_size
overflow_add-front_size g c =
    let s = (head g (goal.at.overflow_add-front_size g c).Start).small in omega (arith, c.front_size.ensures, c.inside_size-inside.ensures)

pub header-requires : goal.header-requires
header-requires g c =
    let h = head g (goal.at.header-requires g c).Start in
    record { fits = rw (c.front_size.ensures, c.inside_size-inside.ensures) h.header; room = omega (arith, h.size, c.requires.room) }

pub put_front-requires : goal.put_front-requires
put_front-requires g c =
    let h = head g (goal.at.put_front-requires g c).Start in
    let b = length_big (layout c.args.step.now.row.kind).width (c.front_size.result + c.inside_size-inside.result) in
    record {
      there = c.requires.there;
      good = h.good;
      room = omega (arith, h.size, h.front_size c.unwrap_or-held.result, c.requires.room, c.header.ensures.next, c.header.ensures.long);
    }

pub returns : goal.returns
returns g c =
    let f = g.L.Location.rows c.args.l.now in
    let k = layout c.args.step.now.row.kind in
    let h = head g (goal.at.returns g c).Start in
    let e = held_said (c.counted_parts.ensures ∙ h.held) c.unwrap_or-held.ensures in
    wrote_as _ _ _ _
    ((λ i. (k.id ∷ big k.width (c.front_size.ensures i + c.inside_size-inside.ensures i)) ++ front_at c.args.default (f c.args.step.now.mark) (e i)) ∙ sym h.bytes)
    (behind _ _ _ _ _ c.header.ensures c.put_front.ensures)
