-- Whether rows have a tree, row by row: with the spots of the holders that are open, and the nodes around them.
use Rattle.std.specs.Prelude.{◌≡◌, ℕ, suc, ◌-◌, Bool, true, false, not, ◌&&◌, ◌||◌, List, [], ◌∷◌, length, drop, ◌==◌, nat_le, nat_lt}
use Rattle.grammar.specs.declared.table.Spot.{Spot}
use Rattle.grammar.specs.declared.table.Spot.TheVariants.{Descriptions}
use Rattle.grammar.specs.Format.{layout, kind_at, is_zero, fits}
use Rattle.grammar.specs.Grammar.{Row, deeper}
use Rattle.grammar.specs.Reading.{if, is_text, is_count, closed, empty}
use Rattle.grammar.specs.Deciding.{Shaped, Sound}
use Rattle.grammar.specs.Sending.{gather}
use Rattle.grammar.specs.Flat.{held_count}
use Rattle.grammar.specs.Walk.{room}

-- a holder that is open: where its parts stand, and inside how many nodes
pub record Level : Type 0 where
  pub spot : Spot
  pub nodes : ℕ

-- a row tells only what one of its kind tells
abbrev pub plain_row : Row → Bool
plain_row r =
    if (is_text (layout r.kind).fields) (λ _. is_zero r.a && is_zero r.b)
    (λ _. fits (layout r.kind).fields r.a r.b && (r.language == 0 && empty r.text))

-- a row may stand at a level, where so many parts stand right in it
abbrev pub row_stands : Level → Row → ℕ → Bool
row_stands l r held =
    (nat_lt 0 r.kind && kind_at l.spot (layout r.kind).id == r.kind)
    && (plain_row r
    && (nat_le (deeper (layout r.kind).inside l.nodes) 8
    && (not (is_count (layout r.kind).fields) || nat_lt held 256)))

-- the level of a row's own parts
abbrev pub within : Level → Row → Level
within l r = record { spot = (layout r.kind).inside; nodes = deeper (layout r.kind).inside l.nodes }

-- the most levels that are open where this one is the innermost
abbrev pub level_room : Level → ℕ
level_room l = room l.spot l.nodes

-- the levels after a row: its own parts may follow, unless it can have none
abbrev pub opened : Level → List Level → Row → List Level
opened l ls r =
    if (is_text (layout r.kind).fields || closed (layout r.kind).inside) (λ _. l ∷ ls)
    (λ _. within l r ∷ l ∷ ls)

-- the levels that are open at a depth, of those that are open
abbrev pub at_depth : ℕ → List Level → List Level
at_depth d ls = drop (length ls - suc d) ls

-- the rows from here on, where these levels are open, the innermost first
abbrev pub admits : List Level → List Row → Bool
admits ls [] = true
admits ls (r ∷ rs) =
    nat_lt r.depth (length ls)
    && elim (at_depth r.depth ls) [ [] ↦ false | l ∷ more ↦ row_stands l r (held_count r.depth rs) && admits (opened l more r) rs ]

abbrev pub top_level : List Level
top_level = record { spot = Descriptions; nodes = 0 } ∷ []

-- row by row it is decided whether the rows have a tree
abbrev pub AdmitsStands : Type 0
AdmitsStands =
    ((rows : List Row) → admits top_level rows ≡ true → Shaped 0 rows × Sound Descriptions 0 (gather rows 0))
    × ((rows : List Row) → Shaped 0 rows × Sound Descriptions 0 (gather rows 0) → admits top_level rows ≡ true)
