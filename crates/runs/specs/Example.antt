-- Worked examples of what a sheet answers.
use Rattle.std.specs.Prelude.{◌≡◌, ℕ, List, [], ◌∷◌, ◌++◌, map, pos, negsuc}
use Rattle.grammar.specs.declared.fault.ReadFault.TheVariants.{PastEnd}
use Rattle.grammar.specs.declared.fault.SheetFault.TheVariants.{Reading, NinthNode, Misplaced, Unfit, TooCostly, NothingOpen}
use Rattle.grammar.specs.Sheet.{Call, Answer, Entry, load, open_row, number, name, close, clear, finish, reopen, done, refused, not_now}
use Rattle.runs.specs.Scripts.{entries}

abbrev answer_in : Entry → Answer
answer_in e = e.answer

-- what a script is answered on an unused sheet over a buffer of this size
abbrev answers : ℕ → List Call → List Answer
answers size calls = map answer_in (entries size [] calls)

abbrev node : Call
node = open_row 1 (pos 1) (pos 0)

abbrev around : Call
around = open_row 7 (pos 0) (pos 0)

-- a node, and associated modes in it
abbrev two : List Call
two = node ∷ around ∷ []

-- a container of two rows, a node and its name
abbrev named_node : List ℕ
named_node = 0x1e ∷ 1 ∷ 0 ∷ 9 ∷ 2 ∷ 0 ∷ 6 ∷ 1 ∷ 0 ∷ 0 ∷ 2 ∷ 1 ∷ 65 ∷ []

abbrev pub Examples : Type 0
Examples =
    (answers 100 (name 2 30 (65 ∷ []) ∷ []) ≡ refused (Misplaced 0 0) ∷ [])
    × (answers 100 (close ∷ []) ≡ refused (NothingOpen 0 0) ∷ [])
    × (answers 11 (node ∷ []) ≡ refused (TooCostly 0 0) ∷ [])
    × (answers 100 (node ∷ number 5 (pos 128) (pos 0) ∷ number 5 (negsuc 127) (pos 0) ∷ node ∷ []) ≡ done ∷ refused (Unfit 1 1) ∷ done ∷ refused (Misplaced 2 1) ∷ [])
    × (answers 200 (two ++ (two ++ (two ++ (two ++ (two ++ (two ++ (two ++ (two ++ (node ∷ []))))))))) ≡
    done ∷ done ∷ done ∷ done ∷ done ∷ done ∷ done ∷ done ∷ done ∷ done ∷ done ∷ done ∷ done ∷ done ∷ done ∷ done ∷ refused (NinthNode 16 16) ∷ [])
    × (answers 24 (load named_node ∷ []) ≡ refused (TooCostly 0 0) ∷ [])
    × (answers 100 (node ∷ load (0x1e ∷ 1 ∷ 0 ∷ 9 ∷ 2 ∷ []) ∷ close ∷ []) ≡ done ∷ refused (Reading (PastEnd 1 0)) ∷ done ∷ [])
    × (answers 40 (load named_node ∷ node ∷ close ∷ node ∷ clear ∷ node ∷ finish ∷ node ∷ reopen ∷ close ∷ []) ≡
    done ∷ done ∷ done ∷ refused (TooCostly 3 0) ∷ done ∷ done ∷ done ∷ not_now ∷ done ∷ refused (NothingOpen 1 0) ∷ [])
