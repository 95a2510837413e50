-- Bytes written over others from an offset on.
use Rattle.std.specs.Prelude.{ℕ, ◌+◌, List, ◌++◌, length, take, drop}

-- xs, with bs in place of its bytes from `at` on
abbrev pub splice : List ℕ → ℕ → List ℕ → List ℕ
splice xs at bs = take at xs ++ (bs ++ drop (at + length bs) xs)
