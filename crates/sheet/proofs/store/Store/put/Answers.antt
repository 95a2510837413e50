use Rattle.std.proofs.Common.{◌≡◌, ℕ, ◌+◌, ◌++◌, List, length, take, ap, ◌∙◌, arith, w32, SFits, rules}
use Rattle.location.specs.declared.Row.{Row}
use Rattle.sheet.specs.declared.store.Store.{Store}
use Rattle.sheet.specs.Records.{encoded, with_text}
use Rattle.sheet.proofs.Encoded.{More, more}
use Rattle.sheet.proofs.store.Store.put.Goals as goal

one_more : (s : Store) (row : Row) (text new : List ℕ) (n : ℕ) → n ≡ row.length → row.length ≡ length text
    → take (s.used + (12 + row.length)) new ≡ take s.used s.buffer.now ++ encoded (with_text row text) → SFits w32 row.a → SFits w32 row.b
    → More s.count s.used (s.used + (12 + n)) s.buffer.now new (with_text row text)
one_more s row text new n e l w fa fb =
    let w' = ap (λ (k : ℕ). take (s.used + (12 + k)) new) e ∙ w in
    more s.count s.used (s.used + (12 + n)) s.buffer.now new (with_text row text) s.fits s.counted s.costs (omega arith) w' fa fb

pub invariant_of-self : goal.invariant_of-self
invariant_of-self g c =
    let m = one_more c.args.self.now c.args.row _ c.lay.new.buffer _ c.from.ensures c.requires.sized c.lay.ensures (search rules) (search rules) in
    record { fits = search rules; counted = m.counted; costs = m.costs; few = omega arith }

pub returns-clause-took : goal.returns-clause-took
returns-clause-took g c =
    (one_more c.args.self.now c.args.row _ c.lay.new.buffer _ c.from.ensures c.requires.sized c.lay.ensures (search rules) (search rules)).rows
