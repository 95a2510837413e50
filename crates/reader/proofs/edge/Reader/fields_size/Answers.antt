use Rattle.std.proofs.Common.{ap, arith}
use Rattle.grammar.specs.declared.table.Layout.{Layout}
use Rattle.reader.proofs.Passed.{least_over, room_none, room_enough}
use Rattle.reader.proofs.edge.Reader.fields_size.Goals as goal

pub returns-then-room-from : goal.returns-then-room-from
returns-then-room-from c =
    let l = least_over c.args.self.now.bytes.now c.args.kind c.args.self.now.at in
    let e = ap (λ (x : Layout). x.fixed) c.layout_of.ensures in
    room_none c.args.self.now.bytes.now c.args.kind c.args.self.now.at c.args.self.now.end (omega arith)

pub returns-then-room-size : goal.returns-then-room-size
returns-then-room-size c = room_none c.args.self.now.bytes.now c.args.kind c.args.self.now.at c.args.self.now.end (omega arith)

pub returns-else-room-size : goal.returns-else-room-size
returns-else-room-size c =
    room_enough c.args.self.now.bytes.now c.args.kind c.args.self.now.at c.args.self.now.end c.least_at-size.result c.least_at-size.ensures (omega arith)
