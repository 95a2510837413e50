-- What a pen does to its output.
use Rattle.std.specs.Prelude.{◌≡◌, ℕ, ◌+◌, ◌≤◌, List, length}
use Rattle.sender.specs.declared.pen.Pen.{Pen}
use Rattle.sender.specs.Splice.{splice}

-- so many bytes can be written
abbrev pub Room : Pen → ℕ → Type 0
Room p n = p.at + n ≤ length p.out.now

-- these bytes were written
pub record Wrote (before : Pen) (bs : List ℕ) (after : Pen) : Type 0 where
  pub room : Room before (length bs)
  pub bytes : after.out.now ≡ splice before.out.now before.at bs
  pub next : after.at ≡ before.at + length bs
  pub long : length after.out.now ≡ length before.out.now
  pub same_output : after.out.ghost_name ≡ before.out.ghost_name
