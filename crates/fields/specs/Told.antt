-- The numbers that fixed fields tell where they stand in a container.
use Rattle.std.specs.Prelude.{ℕ, ◌+◌, List, length, take, drop, ℤ, Some, None, Option, nat_lt}
use Rattle.grammar.specs.declared.table.Fields.{Fields}
use Rattle.grammar.specs.Format.{fixed_bytes}
use Rattle.grammar.specs.Reading.{if}
use Rattle.grammar.specs.Offsets as O
use Rattle.fields.specs.Shape.{Shape, extent, unlaid}

-- What is read from the n bytes at `at`; nothing where the bytes end before them.
abbrev pub read_at : {V : Type 0} → (List ℕ → Option V) → ℕ → List ℕ → ℕ → Option V
read_at reads n bs at = if (nat_lt (length bs) (at + n)) (λ _. None) (λ _. reads (take n (drop at bs)))

-- The two numbers that a value tells, if there is one.
abbrev pub tells : {V : Type 0} → Shape V → Option V → Option (ℤ × ℤ)
tells s None = None
tells s (Some v) = Some (s.first v, s.second v)

-- The two numbers that a value of this shape at `at` tells.
abbrev pub told_at : {V : Type 0} → Shape V → List ℕ → ℕ → Option (ℤ × ℤ)
told_at s bs at = tells s (read_at (unlaid s) (extent s) bs at)

-- The two numbers of the fields at `at`; nothing where the bytes end before them, or the numbers are off the globe.
abbrev pub numbers_at : Fields → List ℕ → ℕ → Option (ℤ × ℤ)
numbers_at f bs at =
    if (nat_lt (length bs) (at + fixed_bytes f)) (λ _. None)
    (λ _. if (O.off_globe bs f at) (λ _. None)
    (λ _. Some (O.first_number bs f at, O.second_number bs f at)))
